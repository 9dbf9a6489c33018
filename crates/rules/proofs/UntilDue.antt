-- Findings stay the same until a rule of time is due.
use Rattle.std.proofs.Common.{◌≡◌, ℕ, ◌+◌, ◌-◌, ◌<◌, ◌≤◌, Bool, true, false, cond, List, [], ◌∷◌, ◌++◌, Option, None, Some, refl, ap, sym, subst, eq-eqb, arith, ◌∙◌}
use Rattle.std.specs.Prelude.{map, nat_lt}
use Rattle.std.specs.Option.{option_map}
use Rattle.std.proofs.lemmas.Bool.{ltb-true, ltb-false, ne_eqb}
use Rattle.std.proofs.lemmas.Bool.Decides.{nat_tests}
use Rattle.ops_tables.specs.declared.rows.Settings.{Settings}
use Rattle.ops_tables.specs.declared.rows.TypeRow.{TypeRow}
use Rattle.ops_tables.specs.Tables.{type_of}
use Rattle.plan.specs.Check.{plan_fault}
use Rattle.plan.specs.Phases.{standing}
use Rattle.plan.specs.declared.check.BadPlan.{BadPlan}
use Rattle.plan.specs.declared.flights.Leg.{Leg}
use Rattle.plan.specs.declared.flights.Plan.{Plan}
use Rattle.plan.specs.declared.findings.Rule.{Rule}
use Rattle.plan.specs.declared.findings.Rule.TheVariants.{No3}
use Rattle.plan.specs.declared.release.Phase.{Phase}
use Rattle.plan.specs.declared.release.Standing.{Standing}
use Rattle.plan.specs.declared.release.Standing.TheVariants.{Ahead, InFlight, Flown}
use Rattle.rules.specs.Grounds.{Grounds}
use Rattle.rules.specs.Circumstances.{case_of}
use Rattle.rules.specs.DestinationAlternates.{place_if}
use Rattle.rules.specs.Judgement.{is_of_departure, places_of, places_at, places_in_case, places_for, case_unless, case_for, finding, findings_from, findings_by, findings_of_tables, findings_of, leg_numbered}
use Rattle.plan.specs.Findings.{rules_of_legs}
use Rattle.rules.specs.Time.{limit_of, is_past, is_late, late_places}
use Rattle.rules.specs.Due.{Begins, IsNextDue, IsBeforeDue, at_moment, StaysUntil, Stays}

-- no rule of weather, alternates, equipment or fuel asks for the moment
of_same : (rule : Rule) (g : Grounds) (m : ℕ) (plan : Plan) (aircraft : TypeRow) (ahead : Bool) (leg : Leg) → places_of rule (case_of (at_moment g m) plan aircraft) ahead leg ≡ places_of rule (case_of g plan aircraft) ahead leg
of_same No3 g m plan aircraft ahead leg = refl
of_same _ g m plan aircraft ahead leg = refl

at_same : (rule : Rule) (g : Grounds) (m : ℕ) (plan : Plan) (aircraft : TypeRow) (s : Standing) (leg : Leg) → places_at rule (case_of (at_moment g m) plan aircraft) s leg ≡ places_at rule (case_of g plan aircraft) s leg
at_same rule g m plan aircraft Ahead leg = of_same rule g m plan aircraft true leg
at_same rule g m plan aircraft InFlight leg = ap (λ ps. cond (is_of_departure rule) [] ps) (of_same rule g m plan aircraft false leg)
at_same rule g m plan aircraft Flown leg = refl

with_same : (aircraft : Option TypeRow) (rule : Rule) (g : Grounds) (m : ℕ) (plan : Plan) (s : Standing) (leg : Leg)
    → places_in_case rule (option_map (case_of (at_moment g m) plan) aircraft) s leg ≡ places_in_case rule (option_map (case_of g plan) aircraft) s leg
with_same None rule g m plan s leg = refl
with_same (Some aircraft) rule g m plan s leg = at_same rule g m plan aircraft s leg

case_same : (bad : Option BadPlan) (rule : Rule) (g : Grounds) (m : ℕ) (plan : Plan) (s : Standing) (leg : Leg) → places_in_case rule (case_unless bad plan (at_moment g m)) s leg ≡ places_in_case rule (case_unless bad plan g) s leg
case_same (Some bad) rule g m plan s leg = refl
case_same None rule g m plan s leg = with_same (type_of g.tables plan.tail) rule g m plan s leg

past_by : (one two : Bool) (limit before after : ℕ) → nat_lt limit before ≡ one → nat_lt limit after ≡ two → before ≤ after
    → ((minute : ℕ) → before < minute → minute ≤ after → nat_lt limit (minute - 1) ≡ false → nat_lt limit minute ≡ true → ⊥) → two ≡ one
past_by true true limit before after e f later none = refl
past_by true false limit before after e f later none = absurd (let p = ltb-true limit before e in let q = ltb-false limit after f in omega (arith, p, q, later))
past_by false true limit before after e f later none =
    absurd (none (limit + 1) (let p = ltb-false limit before e in omega (arith, p)) (let q = ltb-true limit after f in omega (arith, q)) (grind (arith, nat_tests)) (grind (arith, nat_tests)))
past_by false false limit before after e f later none = refl

-- a limit that isn't passed between two moments is past at both or at neither
past_same : (limit : Option ℕ) (before after : ℕ) → before ≤ after
    → ((minute : ℕ) → before < minute → minute ≤ after → is_past limit (minute - 1) ≡ false → is_past limit minute ≡ true → ⊥) → is_past limit after ≡ is_past limit before
past_same None before after later none = refl
past_same (Some limit) before after later none = past_by (nat_lt limit before) (nat_lt limit after) limit before after refl refl later none

none_until : (plan : Plan) (phase : Phase) (settings : Settings) (moment minute : ℕ) (due : Option ℕ) → IsNextDue plan phase settings moment due → IsBeforeDue minute due
    → (at : ℕ) → moment < at → at ≤ minute → Begins plan phase settings at → ⊥
none_until plan phase settings moment minute None next before at after until begins = next (at + 1) at after (omega arith) begins
none_until plan phase settings moment minute (Some due) next before at after until begins = next.2 at after (omega (arith, until, before)) begins

late_same : (plan : Plan) (phase : Phase) (settings : Settings) (moment minute : ℕ) (due : Option ℕ) → IsNextDue plan phase settings moment due → moment ≤ minute → IsBeforeDue minute due
    → (rule : Rule) (number : ℕ) (leg : Leg) → leg_numbered number 1 plan.legs ≡ Some leg
    → is_late rule settings plan.kind phase number leg minute ≡ is_late rule settings plan.kind phase number leg moment
late_same plan phase settings moment minute due next later before rule number leg stands =
    past_same (limit_of rule settings plan.kind phase number leg) moment minute later
    (λ at after until ahead fails. none_until plan phase settings moment minute due next before at after until
    (record { rule = rule; number = number; leg = leg; stands = stands; before = ahead; fails = fails }))

-- places that are the same for each leg of a list give the same findings
from_same : (p q : Rule → ℕ → Leg → List ℕ) (rule : Rule) (n : ℕ) (legs : List Leg)
    → ((number : ℕ) (leg : Leg) → n ≤ number → leg_numbered number n legs ≡ Some leg → p rule number leg ≡ q rule number leg) → findings_from p rule n legs ≡ findings_from q rule n legs
from_same p q rule n [] same = refl
from_same p q rule n (leg ∷ legs) same =
    ap (λ ps. map (finding rule n) ps ++ findings_from p rule (n + 1) legs) (same n leg (omega arith) (rw (eq-eqb n n refl) refl))
    ∙ ap (λ fs. map (finding rule n) (q rule n leg) ++ fs)
    (from_same p q rule (n + 1) legs
    (λ number of least stands. same number of (omega (arith, least))
    (let ne : number ≡ n → ⊥ = λ e. absurd (omega (arith, e, least)) in rw (ne_eqb number n ne) stands)))

pub by_same : (p q : Rule → ℕ → Leg → List ℕ) (rules : List Rule) (legs : List Leg)
    → ((rule : Rule) (number : ℕ) (leg : Leg) → leg_numbered number 1 legs ≡ Some leg → p rule number leg ≡ q rule number leg) → findings_by p rules legs ≡ findings_by q rules legs
by_same p q [] legs same = refl
by_same p q (rule ∷ rules) legs same =
    ap (λ fs. fs ++ findings_by p rules legs) (from_same p q rule 1 legs (λ number leg least stands. same rule number leg stands))
    ∙ ap (λ fs. findings_from q rule 1 legs ++ fs) (by_same p q rules legs same)

places_same : (plan : Plan) (phase : Phase) (g : Grounds) (minute : ℕ) (due : Option ℕ) → IsNextDue plan phase g.tables.settings g.moment due → g.moment ≤ minute → IsBeforeDue minute due
    → (rule : Rule) (number : ℕ) (leg : Leg) → leg_numbered number 1 plan.legs ≡ Some leg
    → places_for plan phase (at_moment g minute) (case_for plan (at_moment g minute)) rule number leg ≡ places_for plan phase g (case_for plan g) rule number leg
places_same plan phase g minute due next later before rule number leg stands =
    ap (λ late. place_if late 0 ++ places_in_case rule (case_for plan (at_moment g minute)) (standing phase number) leg)
    (late_same plan phase g.tables.settings g.moment minute due next later before rule number leg stands)
    ∙ ap (λ ps. late_places rule g.tables.settings plan.kind phase number leg g.moment ++ ps) (case_same (plan_fault g.tables plan) rule g minute plan (standing phase number) leg)

-- until a rule of time is due, a plan fails what it fails at the moment
pub stays_until : (plan : Plan) (phase : Phase) (g : Grounds) (due : Option ℕ) → IsNextDue plan phase g.tables.settings g.moment due → StaysUntil plan phase g due
unfolding findings_of
stays_until plan phase g due next minute later before =
    ap (λ fs. fs ++ findings_of_tables plan g)
    (by_same (places_for plan phase (at_moment g minute) (case_for plan (at_moment g minute))) (places_for plan phase g (case_for plan g)) rules_of_legs plan.legs
    (places_same plan phase g minute due next later before))

-- for all grounds with those settings, at that moment
pub stays : (plan : Plan) (phase : Phase) (settings : Settings) (moment : ℕ) (due : Option ℕ) → IsNextDue plan phase settings moment due → Stays plan phase settings moment due
stays plan phase settings moment due next g of_settings of_moment =
    stays_until plan phase g due (subst (λ s. IsNextDue plan phase s g.moment due) (sym of_settings) (subst (λ m. IsNextDue plan phase settings m due) (sym of_moment) next))
