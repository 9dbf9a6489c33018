-- Where each rule compares something, whether it holds there or fails. The conditions are those of the sections.
use Rattle.std.specs.Prelude.{◌≡◌, ◌↔◌, ℕ, ◌+◌, true, List, [], ◌∷◌, map, None, Some, Contains}
use Rattle.std.specs.List.{slice_get, AllByRecursion}
use Rattle.ops_tables.specs.declared.rows.MelRow.{MelRow}
use Rattle.ops_tables.specs.declared.rows.TypeRow.{TypeRow}
use Rattle.ops_tables.specs.Tables.{item_of}
use Rattle.deferrals.specs.declared.items.Deferral.{Deferral}
use Rattle.plan.specs.Check.{plan_fault}
use Rattle.plan.specs.Phases.{standing}
use Rattle.plan.specs.declared.check.BadPlan.{BadPlan}
use Rattle.plan.specs.declared.findings.Rule.{Rule}
use Rattle.plan.specs.declared.findings.Rule.TheVariants.{No3, No4, No5, No6, No7, No8, No9, No10, No11, No12, No13, No14, No15, No16, No19}
use Rattle.plan.specs.declared.flights.Alternate.{Alternate}
use Rattle.plan.specs.declared.flights.Kind.TheVariants.{Domestic, Flag}
use Rattle.plan.specs.declared.flights.Leg.{Leg}
use Rattle.plan.specs.declared.flights.Plan.{Plan}
use Rattle.plan.specs.declared.flights.TakeoffAlternate.{TakeoffAlternate}
use Rattle.plan.specs.declared.release.Phase.{Phase}
use Rattle.plan.specs.declared.release.Standing.{Standing}
use Rattle.plan.specs.declared.release.Standing.TheVariants.{Ahead, Flown}
use Rattle.rules.specs.Circumstances.{Case, case_of}
use Rattle.rules.specs.Grounds.{Grounds}
use Rattle.rules.specs.Judgement.{finding, leg_numbered}
use Rattle.rules.specs.Regulation.{FollowRegulation, IsJudged, IsSilent, NeedsAlternate, NeedsTakeoffAlternate}
use Rattle.sheet.specs.declared.lines.Line.{Line}
use Rattle.sheet.specs.Lines.{holds, key, failing}
use Rattle.sheet.specs.World.{Allows}

-- A rule compares something at this place of a leg that isn't flown. The rules on departures do only before it departs.
pub data IsAsked (c : Case) (state : Standing) (leg : Leg) : Rule → ℕ → Type 0 where
  landing : IsAsked c state leg No3 0
  departure : state ≡ Ahead → IsAsked c state leg No4 0
  takeoff_range : (it : TakeoffAlternate) → state ≡ Ahead → NeedsTakeoffAlternate c leg
      → leg.takeoff_alternate ≡ Some it
      → IsAsked c state leg No5 0
  takeoff_weather : (it : TakeoffAlternate) → state ≡ Ahead → NeedsTakeoffAlternate c leg
      → leg.takeoff_alternate ≡ Some it
      → IsAsked c state leg No6 0
  domestic_alternate : c.flight ≡ Domestic → IsAsked c state leg No7 0
  second_alternate : (it : Alternate) → c.flight ≡ Domestic → NeedsAlternate c leg → leg.alternates ≡ it ∷ []
      → IsAsked c state leg No8 0
  flag_alternate : c.flight ≡ Flag → IsAsked c state leg No9 0
  alternate : (i : ℕ) (it : Alternate) → slice_get leg.alternates i ≡ Some it → IsAsked c state leg No10 (1 + i)
  deferred : (d : Deferral) → state ≡ Ahead → Contains c.deferred d → IsAsked c state leg No11 d.id
  repair : (d : Deferral) (row : MelRow) → state ≡ Ahead → Contains c.deferred d
      → item_of c.grounds.tables c.aircraft.kind d.item ≡ Some row → IsAsked c state leg No12 d.id
  destination : IsAsked c state leg No13 0
  alternate_airport : (i : ℕ) (it : Alternate) → slice_get leg.alternates i ≡ Some it → IsAsked c state leg No13 (1 + i)
  takeoff_airport : (it : TakeoffAlternate) → state ≡ Ahead → leg.takeoff_alternate ≡ Some it
      → IsAsked c state leg No13 9
  domestic_fuel : c.flight ≡ Domestic → IsAsked c state leg No14 0
  flag_fuel : c.flight ≡ Flag → IsAsked c state leg No15 0
  aboard : IsAsked c state leg No16 0

-- A rule compares something at this leg and place. The rules of time do on each plan, and the rule of the tables once,
-- at the leg of the fault if there is one. The others do on the legs that aren't flown, if the plan passes its tests.
pub data Applies (plan : Plan) (phase : Phase) (g : Grounds) : Rule → ℕ → ℕ → Type 0 where
  in_time : (rule : Rule) (n since allowed : ℕ) (leg : Leg) → leg_numbered n 1 plan.legs ≡ Some leg
      → Allows plan.kind phase g.tables.settings n leg rule since allowed → Applies plan phase g rule n 0
  on_leg : (rule : Rule) (n place : ℕ) (leg : Leg) (aircraft : TypeRow) → IsJudged plan g n leg aircraft
      → (standing phase n ≡ Flown → ⊥)
      → IsAsked (case_of g plan aircraft) (standing phase n) leg rule place → Applies plan phase g rule n place
  bad_plan : (bad : BadPlan) → plan_fault g.tables plan ≡ Some bad → Applies plan phase g No19 bad.leg 0
  good_plan : plan_fault g.tables plan ≡ None → Applies plan phase g No19 0 0

-- a line stands at each leg and place where a rule compares something, and nowhere else
pub record IsWhole (plan : Plan) (phase : Phase) (g : Grounds) (lines : List Line) : Type 0 where
  pub only : AllByRecursion (λ l. Applies plan phase g l.rule l.leg l.place) lines
  pub each : (rule : Rule) (leg place : ℕ) → Applies plan phase g rule leg place
      → Contains (map key lines) (finding rule leg place)

-- the rule holds at each of its lines on the leg
abbrev pub HoldsOn : List Line → Rule → ℕ → Type 0
HoldsOn lines rule n = AllByRecursion (λ l. l.rule ≡ rule → l.leg ≡ n → holds l ≡ true) lines

-- The lines of a rule on a leg hold exactly if the leg does what the section requires: they hold exactly if no finding
-- names the rule for the leg, and the findings follow the regulation.
pub record HoldByRegulation (plan : Plan) (phase : Phase) (g : Grounds) (lines : List Line) : Type 0 where
  pub lines_hold : (rule : Rule) (n : ℕ) → HoldsOn lines rule n ↔ IsSilent (failing lines) rule n
  pub sections : FollowRegulation plan phase g (failing lines)
