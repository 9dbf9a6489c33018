-- Whether a final plan may be filed for a leg of an active release (14 CFR 121.631).
use Rattle.std.specs.Prelude.{◌≡◌, ◌≢◌, ℕ, ◌≤◌, ◌==◌, nat_lt, Bool, true, false, ◌||◌, if◌then◌else◌, length, Option, None, Some, IfSome}
use Rattle.std.specs.Option.{option_map, option_or}
use Rattle.ops_tables.specs.Tables.{TableRows}
use Rattle.plan.specs.Change.{change_fault, MayFollow}
use Rattle.plan.specs.Check.{plan_fault, IsPlan}
use Rattle.plan.specs.Phases.{is_active, standing}
use Rattle.plan.specs.declared.check.BadPlan.{BadPlan}
use Rattle.plan.specs.declared.check.PlanWhy.{PlanWhy}
use Rattle.plan.specs.declared.check.PlanWhy.TheVariants as why
use Rattle.plan.specs.declared.flights.Plan.{Plan}
use Rattle.plan.specs.declared.release.Phase.{Phase}
use Rattle.plan.specs.declared.release.Phase.TheVariants.{Flying}
use Rattle.plan.specs.declared.release.Release.{Release}
use Rattle.plan.specs.declared.release.Revision.{Revision}
use Rattle.plan.specs.declared.release.Standing.{Standing}
use Rattle.plan.specs.declared.release.Standing.TheVariants.{Ahead, InFlight, Flown}
use Rattle.redispatch.specs.declared.filing.FileFault.{FileFault}
use Rattle.redispatch.specs.declared.filing.FileFault.TheVariants as fault

abbrev pub HasPlanIf : Bool → Option Revision → Type 0
HasPlanIf false active = Unit {0}
HasPlanIf true None = ⊥
HasPlanIf true (Some v) = IsPlan v.plan

-- a release that is active has an active revision, whose plan is in bounds
abbrev pub HasPlanInForce : Release → Type 0
HasPlanInForce r = HasPlanIf (is_active r.phase) r.active

-- the plan has no leg of this number
abbrev pub lacks_leg : Plan → ℕ → Bool
lacks_leg plan leg = (leg == 0) || nat_lt (length plan.legs) leg

abbrev pub is_over : Standing → Bool
is_over Ahead = false
is_over InFlight = false
is_over Flown = true

-- the leg is flown in this phase
abbrev pub is_flown : Phase → ℕ → Bool
is_flown phase leg = is_over (standing phase leg)

-- why no final plan may be filed for the leg: the active plan has no such leg, or it is flown
abbrev pub leg_why : Phase → Plan → ℕ → Option PlanWhy
leg_why phase active leg = if lacks_leg active leg then Some why.Count else (if is_flown phase leg then Some why.Flown else None)

abbrev pub bad_plan : ℕ → PlanWhy → BadPlan
bad_plan leg why = record { leg = leg; why = why }

abbrev pub leg_fault : Phase → Plan → ℕ → Option BadPlan
leg_fault phase active leg = option_map (bad_plan leg) (leg_why phase active leg)

-- The first test that a final plan of a leg fails. The number of the leg is tested first, then the plan by itself, and
-- then as an amendment of the active plan while the leg is in flight.
unfoldable pub final_fault : TableRows → Phase → Plan → ℕ → Plan → Option BadPlan
final_fault tables phase active leg last =
    option_or (leg_fault phase active leg) (option_or (plan_fault tables last) (change_fault last active (Flying leg)))

abbrev pub refusal_beside : TableRows → Phase → Option Revision → ℕ → Plan → Option FileFault
refusal_beside tables phase None leg last = None
refusal_beside tables phase (Some v) leg last = option_map fault.Bad (final_fault tables phase v.plan leg last)

abbrev pub refusal_if : Bool → TableRows → Release → ℕ → Plan → Option FileFault
refusal_if false tables r leg last = Some fault.NotActive
refusal_if true tables r leg last = refusal_beside tables r.phase r.active leg last

-- why a final plan isn't filed: the release isn't active, or the first test that fails
unfoldable pub refusal : TableRows → Release → ℕ → Plan → Option FileFault
refusal tables r leg last = refusal_if (is_active r.phase) tables r leg last

-- the fault is the refusal; if nothing refuses the plan, memory ran out
abbrev pub IsFaultOf : Option FileFault → FileFault → Type 0
IsFaultOf None f = f ≡ fault.OutOfMemory
IsFaultOf (Some found) f = f ≡ found

-- The active plan has the leg, and it isn't flown. The final plan passes its tests, and may follow the active plan
-- while the leg is in flight.
pub record IsFinalPlan (tables : TableRows) (phase : Phase) (active : Plan) (leg : ℕ) (last : Plan) : Type 0 where
  pub first : 1 ≤ leg
  pub within : leg ≤ length active.legs
  pub ahead : standing phase leg ≢ Flown
  pub passes : plan_fault tables last ≡ None
  pub follows : MayFollow last active (Flying leg)

-- the release is active, and the plan is a final plan of the leg beside its active plan
pub record MayBeFiled (tables : TableRows) (r : Release) (leg : ℕ) (last : Plan) : Type 0 where
  pub active : is_active r.phase ≡ true
  pub final : IfSome r.active (λ v. IsFinalPlan tables r.phase v.plan leg last)
