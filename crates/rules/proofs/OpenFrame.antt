-- Findings stay the same with other deferrals of which the same are open on the aircraft.
use Rattle.std.proofs.Common.{◌≡◌, ℕ, Bool, true, false, cond, not, List, [], ◌∷◌, ◌++◌, Option, None, Some, refl, sym, ap, append-nil, ◌∙◌, suc, eq-eqb, arith}
use Rattle.std.specs.List.{All, find}
use Rattle.std.specs.Option.{option_map}
use Rattle.std.specs.Str.{bytes_eq}
use Rattle.std.proofs.lemmas.Bool.{eqb-true}
use Rattle.std.proofs.lemmas.List.Elements.{All-cons, All-head, All-tail}
use Rattle.ops_tables.specs.declared.rows.TypeRow.{TypeRow}
use Rattle.ops_tables.specs.Tables.{hours_of, type_of}
use Rattle.plan.specs.Check.{plan_fault}
use Rattle.plan.specs.Findings.{rules_of_legs}
use Rattle.plan.specs.Phases.{standing}
use Rattle.plan.specs.declared.check.BadPlan.{BadPlan}
use Rattle.plan.specs.declared.flights.Leg.{Leg}
use Rattle.plan.specs.declared.flights.Plan.{Plan}
use Rattle.plan.specs.declared.findings.Rule.{Rule}
use Rattle.plan.specs.declared.findings.Rule.TheVariants.{No3}
use Rattle.plan.specs.declared.release.Phase.{Phase}
use Rattle.plan.specs.declared.release.Standing.{Standing}
use Rattle.plan.specs.declared.release.Standing.TheVariants.{Ahead, InFlight, Flown}
use Rattle.deferrals.specs.declared.items.Deferral.{Deferral}
use Rattle.deferrals.specs.Held.{AreRising, has_id, without}
use Rattle.deferrals.specs.Limits.{open_on, rows_of, limits_by}
use Rattle.rules.specs.Grounds.{Grounds}
use Rattle.rules.specs.Circumstances.{Case, case_of}
use Rattle.rules.specs.Judgement.{is_of_departure, places_of, places_at, places_in_case, places_for, case_unless, case_for, findings_by, findings_of_tables, findings_of}
use Rattle.rules.specs.Time.{late_places}
use Rattle.rules.specs.Frame.{SameOpen, SameOpenBut, with_deferrals}
use Rattle.rules.specs.Touches.{SameByDeferrals, ReadsOpen}
use Rattle.rules.proofs.Named.{same_station}
use Rattle.rules.proofs.OpenLaws.{opened_append}

-- the case of a plan whose aircraft has these deferrals open
abbrev case_with : Grounds → Plan → TypeRow → List Deferral → Case
case_with g plan aircraft opened = record {
  grounds = g;
  flight = plan.kind;
  aircraft = aircraft;
  hours = hours_of g.tables plan.captain aircraft.kind;
  deferred = opened;
  limits = limits_by (rows_of g.tables aircraft.kind opened);
}

module _ (plan : Plan) (g : Grounds) (others : List Deferral) (same : SameOpen g.deferrals others plan.tail) where
  -- no rule asks for all deferrals
  of_open : (rule : Rule) (aircraft : TypeRow) (opened : List Deferral) (ahead : Bool) (leg : Leg)
      → places_of rule (case_with (with_deferrals g others) plan aircraft opened) ahead leg ≡ places_of rule (case_with g plan aircraft opened) ahead leg
  of_open No3 aircraft opened ahead leg = refl
  of_open _ aircraft opened ahead leg = refl

  of_same : (rule : Rule) (aircraft : TypeRow) (ahead : Bool) (leg : Leg) → places_of rule (case_of (with_deferrals g others) plan aircraft) ahead leg ≡ places_of rule (case_of g plan aircraft) ahead leg
  of_same rule aircraft ahead leg =
      ap (λ opened. places_of rule (case_with (with_deferrals g others) plan aircraft opened) ahead leg) same ∙ of_open rule aircraft (open_on plan.tail g.deferrals) ahead leg

  at_same : (rule : Rule) (aircraft : TypeRow) (s : Standing) (leg : Leg) → places_at rule (case_of (with_deferrals g others) plan aircraft) s leg ≡ places_at rule (case_of g plan aircraft) s leg
  at_same rule aircraft Ahead leg = of_same rule aircraft true leg
  at_same rule aircraft InFlight leg = ap (λ ps. cond (is_of_departure rule) [] ps) (of_same rule aircraft false leg)
  at_same rule aircraft Flown leg = refl

  with_same : (aircraft : Option TypeRow) (rule : Rule) (s : Standing) (leg : Leg)
      → places_in_case rule (option_map (case_of (with_deferrals g others) plan) aircraft) s leg ≡ places_in_case rule (option_map (case_of g plan) aircraft) s leg
  with_same None rule s leg = refl
  with_same (Some aircraft) rule s leg = at_same rule aircraft s leg

  case_same : (bad : Option BadPlan) (rule : Rule) (s : Standing) (leg : Leg)
      → places_in_case rule (case_unless bad plan (with_deferrals g others)) s leg ≡ places_in_case rule (case_unless bad plan g) s leg
  case_same (Some bad) rule s leg = refl
  case_same None rule s leg = with_same (type_of g.tables plan.tail) rule s leg

  places_same : (phase : Phase) (rule : Rule) (number : ℕ) (leg : Leg)
      → places_for plan phase (with_deferrals g others) (case_for plan (with_deferrals g others)) rule number leg ≡ places_for plan phase g (case_for plan g) rule number leg
  places_same phase rule number leg =
      ap (λ ps. late_places rule g.tables.settings plan.kind phase number leg g.moment ++ ps) (case_same (plan_fault g.tables plan) rule (standing phase number) leg)

  findings_open : (phase : Phase) → SameByDeferrals plan phase g others
  unfolding findings_of
  findings_open phase = λ i. findings_by (λ rule number leg. places_same phase rule number leg i) rules_of_legs plan.legs ++ findings_of_tables plan g

-- a plan fails the same with other deferrals, where the same are open on its aircraft
pub reads_open : (plan : Plan) → ReadsOpen plan
reads_open plan phase g others same = findings_open plan g others same phase

-- a deferral of another tail isn't open on this one
not_of : (other : List ℕ) (d : Deferral) (tail : List ℕ) (b : Bool) → bytes_eq d.tail other ≡ b → d.tail ≡ tail → (other ≡ tail → ⊥) → bytes_eq d.tail other ≡ false
not_of other d tail true e is apart = absurd (apart (sym (same_station d.tail other e) ∙ is))
not_of other d tail false e is apart = e

others_none : (other : List ℕ) (d : Deferral) → bytes_eq d.tail other ≡ false → open_on other (d ∷ []) ≡ []
others_none other d e = rw e refl

pub open_added : (tail : List ℕ) (list : List Deferral) (d : Deferral) → d.tail ≡ tail → SameOpenBut tail list (list ++ d ∷ [])
open_added tail list d is other apart =
    opened_append other list (d ∷ []) ∙ ap (λ opened. open_on other list ++ opened) (others_none other d (not_of other d tail (bytes_eq d.tail other) refl is apart)) ∙ append-nil (open_on other list)

-- one that is passed over by id isn't open on this tail
open_step : (b o : Bool) (d : Deferral) (other : List ℕ) (kept list : List Deferral) → bytes_eq d.tail other ≡ o → (b ≡ true → o ≡ false) → open_on other kept ≡ open_on other list
    → open_on other (cond (not b) (d ∷ kept) kept) ≡ cond o (d ∷ open_on other list) (open_on other list)
open_step true true d other kept list e apart same = absurd (let h = apart refl in cc)
open_step true false d other kept list e apart same = same
open_step false o d other kept list e apart same = ap (λ b. cond b (d ∷ open_on other kept) (open_on other kept)) e ∙ ap (λ opened. cond o (d ∷ opened) opened) same

pub open_cleared : (tail : List ℕ) (list : List Deferral) (id : ℕ) → All (λ deferral. deferral.id ≡ id → deferral.tail ≡ tail) list → SameOpenBut tail list (without id list)
open_cleared tail [] id all other apart = refl
open_cleared tail (d ∷ list) id all other apart =
    open_step (has_id id d) (bytes_eq d.tail other) d other (without id list) list refl
    (λ e. not_of other d tail (bytes_eq d.tail other) refl (All-head (λ deferral. deferral.id ≡ id → deferral.tail ≡ tail) d list all (eqb-true d.id id e)) apart)
    (open_cleared tail list id (All-tail (λ deferral. deferral.id ≡ id → deferral.tail ≡ tail) d list all) other apart)

rising_after : (d : Deferral) (list : List Deferral) → AreRising (d ∷ list) → AreRising list
rising_after d list rising = λ i k e before within. rising (suc i) (suc k) e (omega (arith, before)) (omega (arith, within))

tail_here : (b : Bool) (id : ℕ) (x d : Deferral) (list : List Deferral) → has_id id x ≡ b → AreRising (x ∷ list) → cond b (Some x) (find (has_id id) list) ≡ Some d
    → (find (has_id id) list ≡ Some d → All (λ deferral. deferral.id ≡ id → deferral.tail ≡ d.tail) list) → All (λ deferral. deferral.id ≡ id → deferral.tail ≡ d.tail) (x ∷ list)
tail_here true id x d list e rising found rest =
    let one : x ≡ d = grind (arith, found) in
    All-cons (λ deferral. deferral.id ≡ id → deferral.tail ≡ d.tail) x list (λ is. ap (λ q. q.tail) one)
    (λ k q within is. absurd (let same = eqb-true x.id id e in let less = rising 0 (suc k) q (omega arith) (omega (arith, within)) in omega (arith, same, less, is)))
tail_here false id x d list e rising found rest =
    All-cons (λ deferral. deferral.id ≡ id → deferral.tail ≡ d.tail) x list (λ is. absurd (let same = eq-eqb x.id id is in cc)) (rest found)

-- where ids rise, what is found by an id is the only one of it
pub one_of_id : (id : ℕ) (d : Deferral) (list : List Deferral) → AreRising list → find (has_id id) list ≡ Some d → All (λ deferral. deferral.id ≡ id → deferral.tail ≡ d.tail) list
one_of_id id d [] rising found = absurd (cc)
one_of_id id d (x ∷ list) rising found = tail_here (has_id id x) id x d list refl rising found (one_of_id id d list (rising_after x list rising))
