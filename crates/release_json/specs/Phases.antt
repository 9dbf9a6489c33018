-- The phase that a text represents.
use Rattle.std.specs.Prelude.{ℕ, Bool, true, false, nat_le, if◌then◌else◌, List, [], length, take, drop, Option, None, Some, codes}
use Rattle.std.specs.Str.{bytes_eq}
use Rattle.desk_time.specs.Digits.{◌>>=◌}
use Rattle.desk_time.specs.Moments.{minute_of}
use Rattle.desk_time.specs.Limits.{IsMoment}
use Rattle.plan.specs.declared.release.Phase.{Phase}
use Rattle.plan.specs.declared.release.Phase.TheVariants.{Drafted, Ready, Flying, Stopped, Completed, Cancelled}
use Rattle.asks.specs.Forms.{IsAmount}
use Rattle.release_json.specs.Cuts.{leg_of, cut}

abbrev pub ready_of : List ℕ → Option Phase
ready_of rest = if bytes_eq rest (codes "1") then Some Ready else None

abbrev pub flying_of : List ℕ → Option Phase
flying_of rest = leg_of rest >>= λ leg. Some (Flying leg)

-- the text after the moment: whether a captain has concurred again after a stop
abbrev pub again_of : List ℕ → Option Bool
again_of rest = if bytes_eq rest [] then Some false else (if bytes_eq rest (codes " AGAIN") then Some true else None)

abbrev pub stopped_since : ℕ → List ℕ → List ℕ → Option Phase
stopped_since next moment rest = minute_of moment >>= λ since. again_of rest >>= λ again. Some (Stopped next since again)

-- a moment has 17 characters
abbrev pub stopped_before : ℕ → List ℕ → Option Phase
stopped_before next rest = if nat_le 17 (length rest) then stopped_since next (take 17 rest) (drop 17 rest) else None

abbrev pub stopped_with : List ℕ × List ℕ → Option Phase
stopped_with halves = leg_of halves.0 >>= λ next. stopped_before next halves.1

abbrev pub stopped_of : List ℕ → Option Phase
stopped_of rest = cut 32 rest >>= λ halves. stopped_with halves

abbrev pub completed_of : List ℕ → Option Phase
completed_of rest = minute_of rest >>= λ at. Some (Completed at)

abbrev pub cancelled_of : List ℕ → Option Phase
cancelled_of rest = minute_of rest >>= λ at. Some (Cancelled at)

-- the phase of a word and the text after it
abbrev pub phase_with : List ℕ × List ℕ → Option Phase
phase_with halves =
    if bytes_eq halves.0 (codes "READY") then ready_of halves.1
    else (if bytes_eq halves.0 (codes "FLYING") then flying_of halves.1
    else (if bytes_eq halves.0 (codes "STOPPED") then stopped_of halves.1
    else (if bytes_eq halves.0 (codes "COMPLETED") then completed_of halves.1
    else (if bytes_eq halves.0 (codes "CANCELLED") then cancelled_of halves.1 else None))))

abbrev pub phase_in : List ℕ → Option (List ℕ × List ℕ) → Option Phase
phase_in text None = if bytes_eq text (codes "DRAFTED") then Some Drafted else None
phase_in text (Some halves) = phase_with halves

-- the phase that a text represents
unfoldable pub phase_of : List ℕ → Option Phase
phase_of text = phase_in text (cut 32 text)

-- a phase whose leg and moment are within their limits
abbrev pub IsPhase : Phase → Type 0
IsPhase Drafted = Unit {0}
IsPhase Ready = Unit {0}
IsPhase (Flying leg) = IsAmount leg
IsPhase (Stopped next since again) = IsAmount next × IsMoment since
IsPhase (Completed at) = IsMoment at
IsPhase (Cancelled at) = IsMoment at
