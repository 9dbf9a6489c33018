-- How objects in memory count their calls and faults.
use Rattle.std.specs.Prelude.{ℕ, Bool, true, false}
use Rattle.desk_io.specs.Planned.{after}

-- the count of faults after a call, which failed or didn't
abbrev pub faults_after : Bool → ℕ → ℕ
faults_after true faults = after faults
faults_after false faults = faults
