-- The fuel that a leg of a plan requires, which the rules on fuel compare with its minimum fuel (14 CFR 121.639, 121.645).
use Rattle.std.specs.Prelude.{◌≡◌, ℕ, nat_lt, ◌&&◌, Option, None, Some}
use Rattle.ops_tables.specs.Tables.{type_of}
use Rattle.ops_tables.specs.declared.rows.TypeRow.{TypeRow}
use Rattle.plan.specs.Check.{plan_fault}
use Rattle.plan.specs.Phases.{standing}
use Rattle.plan.specs.declared.flights.Plan.{Plan}
use Rattle.plan.specs.declared.flights.Leg.{Leg}
use Rattle.plan.specs.declared.release.Phase.{Phase}
use Rattle.plan.specs.declared.release.Standing.{Standing}
use Rattle.plan.specs.declared.release.Standing.TheVariants.{Ahead, InFlight, Flown}
use Rattle.plan.specs.declared.findings.Rule.TheVariants.{No14, No15}
use Rattle.rules.specs.Grounds.{Grounds}
use Rattle.rules.specs.Circumstances.{case_of}
use Rattle.rules.specs.DestinationAlternates.{is_domestic, is_flag, place_if}
use Rattle.rules.specs.Fuel.{required_fuel}
use Rattle.rules.specs.Judgement.{leg_numbered, places_for, case_for}

-- without a type nothing is required
abbrev pub required_by : Option TypeRow → Plan → Grounds → Leg → ℕ
required_by None plan g leg = 0
required_by (Some aircraft) plan g leg = required_fuel (case_of g plan aircraft) leg

-- a flown leg requires nothing
abbrev pub required_at : Option TypeRow → Plan → Grounds → Standing → Leg → ℕ
required_at aircraft plan g Ahead leg = required_by aircraft plan g leg
required_at aircraft plan g InFlight leg = required_by aircraft plan g leg
required_at aircraft plan g Flown leg = 0

abbrev pub required_in : Plan → Grounds → Standing → Option Leg → ℕ
required_in plan g state None = 0
required_in plan g state (Some leg) = required_at (type_of g.tables plan.tail) plan g state leg

-- The fuel in pounds that a leg, counted from 1, requires. It is 0 if the leg is flown, if there is no such leg, or if
-- the aircraft has no type.
unfoldable pub required_of : Plan → Phase → ℕ → Grounds → ℕ
required_of plan phase number g = required_in plan g (standing phase number) (leg_numbered number 1 plan.legs)

-- On a plan that passes its tests, a leg fails the rules on fuel exactly if its minimum fuel is less than the amount.
pub record IsCompared (plan : Plan) (phase : Phase) (number : ℕ) (g : Grounds) (amount : ℕ) : Type 0 where
  pub domestic : (leg : Leg) → leg_numbered number 1 plan.legs ≡ Some leg → plan_fault g.tables plan ≡ None
      → places_for plan phase g (case_for plan g) No14 number leg ≡ place_if (is_domestic plan.kind && nat_lt leg.minimum amount) 0
  pub flag : (leg : Leg) → leg_numbered number 1 plan.legs ≡ Some leg → plan_fault g.tables plan ≡ None
      → places_for plan phase g (case_for plan g) No15 number leg ≡ place_if (is_flag plan.kind && nat_lt leg.minimum amount) 0
