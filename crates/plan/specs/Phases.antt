-- The phases of a release, and the state of each leg.
use Rattle.std.specs.Prelude.{ℕ, ◌≤◌, ◌-◌, ◌==◌, nat_lt, Bool, true, false, if◌then◌else◌, List, length, Option, None, Some}
use Rattle.plan.specs.declared.flights.Leg.{Leg}
use Rattle.plan.specs.declared.release.Phase.{Phase}
use Rattle.plan.specs.declared.release.Phase.TheVariants.{Drafted, Ready, Flying, Stopped, Completed, Cancelled}
use Rattle.plan.specs.declared.release.Standing.{Standing}
use Rattle.plan.specs.declared.release.Standing.TheVariants.{Ahead, InFlight, Flown}

-- the state of a leg while leg `in_flight` is in flight
abbrev pub beside : ℕ → ℕ → Standing
beside in_flight leg = if nat_lt leg in_flight then Flown else (if leg == in_flight then InFlight else Ahead)

-- the state of a leg while the aircraft is on the ground and leg `next` departs next
abbrev pub before : ℕ → ℕ → Standing
before next leg = if nat_lt leg next then Flown else Ahead

-- The state of a leg, counted from 1. Every leg counts as flown once the release has ended.
abbrev pub standing : Phase → ℕ → Standing
standing Drafted leg = Ahead
standing Ready leg = Ahead
standing (Flying in_flight) leg = beside in_flight leg
standing (Stopped next since again) leg = before next leg
standing (Completed at) leg = Flown
standing (Cancelled at) leg = Flown

-- the release is in force: its active revision may be flown, and it is judged
abbrev pub is_active : Phase → Bool
is_active Drafted = false
is_active Ready = true
is_active (Flying in_flight) = true
is_active (Stopped next since again) = true
is_active (Completed at) = false
is_active (Cancelled at) = false

-- the leg, counted from 1, is in flight
abbrev pub is_flying : Phase → ℕ → Bool
is_flying Drafted leg = false
is_flying Ready leg = false
is_flying (Flying in_flight) leg = leg == in_flight
is_flying (Stopped next since again) leg = false
is_flying (Completed at) leg = false
is_flying (Cancelled at) leg = false

-- the number of the leg in flight, if any
abbrev pub in_flight : Phase → Option ℕ
in_flight Drafted = None
in_flight Ready = None
in_flight (Flying leg) = Some leg
in_flight (Stopped next since again) = None
in_flight (Completed at) = None
in_flight (Cancelled at) = None

-- the number of flown legs: all of them once the release has ended
abbrev pub flown : Phase → List Leg → ℕ
flown Drafted legs = 0
flown Ready legs = 0
flown (Flying in_flight) legs = in_flight - 1
flown (Stopped next since again) legs = next - 1
flown (Completed at) legs = length legs
flown (Cancelled at) legs = length legs

-- the leg that the phase names is one of these legs
abbrev pub PhaseFits : Phase → List Leg → Type 0
PhaseFits Drafted legs = Unit {0}
PhaseFits Ready legs = Unit {0}
PhaseFits (Flying in_flight) legs = (1 ≤ in_flight) × (in_flight ≤ length legs)
PhaseFits (Stopped next since again) legs = (1 ≤ next) × (next ≤ length legs)
PhaseFits (Completed at) legs = Unit {0}
PhaseFits (Cancelled at) legs = Unit {0}
