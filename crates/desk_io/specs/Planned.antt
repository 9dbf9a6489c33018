-- Planned failures of objects in memory: a list names the calls that fail, numbered from 0.
use Rattle.std.specs.Prelude.{ℕ, ◌+◌, ◌-◌, ◌^◌, min, Bool, not, true, false, ◌==◌, List, [], ◌∷◌, Option, None, Some, Result, IsErrOf}
use Rattle.std.specs.List.{list_any}
use Rattle.desk_io.specs.Health.{Health}
use Rattle.desk_io.specs.declared.faults.PutFault.{PutFault}
use Rattle.desk_io.specs.declared.faults.PutFault.TheVariants.{Failed}

-- the call of that number is planned to fail
abbrev pub is_planned : List ℕ → ℕ → Bool
is_planned fail call = list_any (λ n. n == call) fail

-- no call is planned to fail
abbrev pub none_fails : List ℕ → Bool
none_fails [] = true
none_fails (call ∷ fail) = false

-- the health of an object with this plan and this count of faults; it is sound if no call is planned to fail
abbrev pub planned_health : List ℕ → ℕ → Health
planned_health fail faults = record { faults = faults; sound = none_fails fail }

-- the number of calls after one more; it saturates at 2^64 - 1
abbrev pub after : ℕ → ℕ
after calls = min (calls + 1) (2 ^ 64 - 1)

-- a call returns bytes if the source exists and the call isn't planned to fail
abbrev pub gives : {A : Type 0} → Option A → Bool → Bool
gives None fails = false
gives (Some source) fails = not fails

-- the call returns `Failed` exactly if that is planned
abbrev pub Fails : {T : Type 0} → Bool → Result T PutFault → Type 0
Fails true r = IsErrOf r Failed
Fails false r = IsErrOf r Failed → ⊥
