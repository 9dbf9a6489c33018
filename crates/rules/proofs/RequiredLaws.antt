-- The fuel that a leg requires: at any moment the same, and what the rules on fuel compare.
use Rattle.std.proofs.Common.{◌≡◌, ℕ, ◌+◌, ◌==◌, Bool, true, false, cond, List, [], ◌∷◌, Option, None, Some, refl, sym, ap, ◌∙◌, ◌&&◌, arith, le-ltb}
use Rattle.std.specs.Prelude.{IfSome, nat_lt}
use Rattle.std.specs.List.{AllByRecursion}
use Rattle.std.specs.Option.{option_map}
use Rattle.desk_io.specs.Station.{Station}
use Rattle.facts.specs.declared.report.Report.{Report}
use Rattle.deferrals.specs.declared.items.Deferral.{Deferral}
use Rattle.ops_tables.specs.declared.rows.TypeRow.{TypeRow}
use Rattle.ops_tables.specs.Tables.{TableRows, type_of}
use Rattle.plan.specs.Check.{HasMoments, plan_fault}
use Rattle.plan.specs.Phases.{standing}
use Rattle.plan.specs.declared.check.BadPlan.{BadPlan}
use Rattle.plan.specs.declared.flights.Kind.TheVariants.{Domestic, Flag}
use Rattle.plan.specs.declared.flights.Leg.{Leg}
use Rattle.plan.specs.declared.flights.Plan.{Plan}
use Rattle.plan.specs.declared.findings.Rule.{Rule}
use Rattle.plan.specs.declared.findings.Rule.TheVariants.{No14, No15}
use Rattle.plan.specs.declared.release.Phase.{Phase}
use Rattle.plan.specs.declared.release.Standing.{Standing}
use Rattle.plan.specs.declared.release.Standing.TheVariants.{Ahead, InFlight, Flown}
use Rattle.rules.specs.Grounds.{Grounds, grounds_held}
use Rattle.rules.specs.Circumstances.{Case, case_of}
use Rattle.rules.specs.DestinationAlternates.{is_domestic, is_flag, place_if}
use Rattle.rules.specs.Judgement.{leg_numbered, places_for, places_in_case, case_unless, case_for}
use Rattle.rules.specs.Required.{required_by, required_at, required_in, required_of, IsCompared}

-- the moments of the leg of a number can be written, as those of each leg
by_number : (b : Bool) (leg : Leg) (rest : Option Leg) → HasMoments leg → IfSome rest HasMoments → IfSome (cond b (Some leg) rest) HasMoments
by_number true leg rest here later = here
by_number false leg rest here later = later

pub found_has : (number first : ℕ) (legs : List Leg) → AllByRecursion HasMoments legs → IfSome (leg_numbered number first legs) HasMoments
found_has number first [] all = tt
found_has number first (leg ∷ legs) all = by_number (number == first) leg (leg_numbered number (first + 1) legs) all.0 (found_has number (first + 1) legs all.1)

-- the moment doesn't count
module _ (tables : TableRows) (reports : List Report) (deferrals : List Deferral) (plan : Plan) (a b : ℕ) where
  by_type : (aircraft : Option TypeRow) (leg : Leg) → required_by aircraft plan (grounds_held tables reports deferrals a) leg ≡ required_by aircraft plan (grounds_held tables reports deferrals b) leg
  by_type None leg = refl
  by_type (Some aircraft) leg = refl

  by_state : (state : Standing) (leg : Option Leg) → required_in plan (grounds_held tables reports deferrals a) state leg ≡ required_in plan (grounds_held tables reports deferrals b) state leg
  by_state state None = refl
  by_state Ahead (Some leg) = by_type (type_of tables plan.tail) leg
  by_state InFlight (Some leg) = by_type (type_of tables plan.tail) leg
  by_state Flown (Some leg) = refl

  pub any_moment : (phase : Phase) (number : ℕ) → required_of plan phase number (grounds_held tables reports deferrals a) ≡ required_of plan phase number (grounds_held tables reports deferrals b)
  unfolding required_of
  any_moment phase number = by_state (standing phase number) (leg_numbered number 1 plan.legs)

none_below : (b : Bool) (m : ℕ) → [] ≡ place_if (b && nat_lt m 0) 0
none_below true m = ap (λ b. place_if b 0) (sym (le-ltb m 0 (omega arith)))
none_below false m = refl

-- what the rules on fuel compare
module _ (plan : Plan) (phase : Phase) (number : ℕ) (g : Grounds) (amount : ℕ) (is : amount ≡ required_of plan phase number g) where
  domestic_at : (aircraft : Option TypeRow) (state : Standing) (leg : Leg) → places_in_case No14 (option_map (case_of g plan) aircraft) state leg ≡ place_if (is_domestic plan.kind && nat_lt leg.minimum (required_at aircraft plan g state leg)) 0
  domestic_at None Ahead leg = none_below (is_domestic plan.kind) leg.minimum
  domestic_at None InFlight leg = none_below (is_domestic plan.kind) leg.minimum
  domestic_at None Flown leg = none_below (is_domestic plan.kind) leg.minimum
  domestic_at (Some aircraft) Ahead leg = refl
  domestic_at (Some aircraft) InFlight leg = refl
  domestic_at (Some aircraft) Flown leg = none_below (is_domestic plan.kind) leg.minimum

  flag_at : (aircraft : Option TypeRow) (state : Standing) (leg : Leg) → places_in_case No15 (option_map (case_of g plan) aircraft) state leg ≡ place_if (is_flag plan.kind && nat_lt leg.minimum (required_at aircraft plan g state leg)) 0
  flag_at None Ahead leg = none_below (is_flag plan.kind) leg.minimum
  flag_at None InFlight leg = none_below (is_flag plan.kind) leg.minimum
  flag_at None Flown leg = none_below (is_flag plan.kind) leg.minimum
  flag_at (Some aircraft) Ahead leg = refl
  flag_at (Some aircraft) InFlight leg = refl
  flag_at (Some aircraft) Flown leg = none_below (is_flag plan.kind) leg.minimum

  at_leg : (leg : Leg) → leg_numbered number 1 plan.legs ≡ Some leg → required_at (type_of g.tables plan.tail) plan g (standing phase number) leg ≡ amount
  unfolding required_of
  at_leg leg found = sym (is ∙ ap (λ o. required_in plan g (standing phase number) o) found)

  domestic : (leg : Leg) → leg_numbered number 1 plan.legs ≡ Some leg → plan_fault g.tables plan ≡ None
      → places_for plan phase g (case_for plan g) No14 number leg ≡ place_if (is_domestic plan.kind && nat_lt leg.minimum amount) 0
  domestic leg found valid =
      ap (λ fault. places_in_case No14 (case_unless fault plan g) (standing phase number) leg) valid
      ∙ domestic_at (type_of g.tables plan.tail) (standing phase number) leg
      ∙ ap (λ n. place_if (is_domestic plan.kind && nat_lt leg.minimum n) 0) (at_leg leg found)

  flag : (leg : Leg) → leg_numbered number 1 plan.legs ≡ Some leg → plan_fault g.tables plan ≡ None
      → places_for plan phase g (case_for plan g) No15 number leg ≡ place_if (is_flag plan.kind && nat_lt leg.minimum amount) 0
  flag leg found valid =
      ap (λ fault. places_in_case No15 (case_unless fault plan g) (standing phase number) leg) valid
      ∙ flag_at (type_of g.tables plan.tail) (standing phase number) leg
      ∙ ap (λ n. place_if (is_flag plan.kind && nat_lt leg.minimum n) 0) (at_leg leg found)

  pub compared : IsCompared plan phase number g amount
  compared = record { domestic = domestic; flag = flag }
