-- What is found once of a leg is what the rules say of it.
use Rattle.std.proofs.Common.{◌≡◌, ℕ, ◌+◌, false, List, [], ◌∷◌, ◌++◌, Option, None, Some, append-nil, refl, ap, sym, ◌∙◌}
use Rattle.std.specs.Prelude.{map}
use Rattle.plan.specs.Phases.{standing}
use Rattle.plan.specs.declared.flights.Leg.{Leg}
use Rattle.plan.specs.declared.flights.Plan.{Plan}
use Rattle.plan.specs.declared.release.Phase.{Phase}
use Rattle.plan.specs.declared.release.Standing.{Standing}
use Rattle.plan.specs.declared.release.Standing.TheVariants.{Ahead, InFlight, Flown}
use Rattle.plan.specs.declared.findings.Rule.{Rule}
use Rattle.plan.specs.declared.findings.Rule.TheVariants.{No1, No2, No3, No17, No18}
use Rattle.rules.specs.Grounds.{Grounds}
use Rattle.rules.specs.Circumstances.{Case}
use Rattle.rules.specs.Judgement.{places_at, places_in_case, places_for, case_for, finding, findings_from, findings_by, findings_of_tables, findings_of}
use Rattle.plan.specs.Findings.{rules_of_legs}
use Rattle.rules.specs.Sights.{seen_at, seen_in, times_of, sight_of, sights_from, places_in, findings_in, findings_in_all}
use Rattle.rules.specs.declared.time.Late.{Late}
use Rattle.rules.specs.declared.time.Times.{Times}

-- no rule of time fails
abbrev in_time : Late
in_time = record { domestic_stop = false; flag_stop = false; departure = false; arrival = false }

ahead : (rule : Rule) (c : Case) (leg : Leg) → places_in rule (record { late = in_time; seen = seen_at c Ahead leg }) ≡ places_at rule c Ahead leg
ahead No3 c leg = refl
ahead _ c leg = refl

in_flight : (rule : Rule) (c : Case) (leg : Leg) → places_in rule (record { late = in_time; seen = seen_at c InFlight leg }) ≡ places_at rule c InFlight leg
in_flight No3 c leg = refl
in_flight _ c leg = refl

flown : (rule : Rule) (c : Case) (leg : Leg) → places_in rule (record { late = in_time; seen = seen_at c Flown leg }) ≡ places_at rule c Flown leg
flown No3 c leg = refl
flown _ c leg = refl

no_case : (rule : Rule) (s : Standing) (leg : Leg) → places_in rule (record { late = in_time; seen = seen_in None s leg }) ≡ places_in_case rule None s leg
no_case No3 s leg = refl
no_case _ s leg = refl

case_seen : (rule : Rule) (c : Option Case) (s : Standing) (leg : Leg) → places_in rule (record { late = in_time; seen = seen_in c s leg }) ≡ places_in_case rule c s leg
case_seen rule None s leg = no_case rule s leg
case_seen rule (Some c) Ahead leg = ahead rule c leg
case_seen rule (Some c) InFlight leg = in_flight rule c leg
case_seen rule (Some c) Flown leg = flown rule c leg

-- the places of a rule of time alone
alone : (places more : List ℕ) → [] ≡ more → places ≡ places ++ more
alone places more none = sym (append-nil places) ∙ ap (λ ps. places ++ ps) none

places_seen : (plan : Plan) (phase : Phase) (g : Grounds) (c : Option Case) (rule : Rule) (n : ℕ) (leg : Leg)
    → places_in rule (sight_of (times_of plan phase g) c n leg) ≡ places_for plan phase g c rule n leg
places_seen plan phase g c No1 n leg = alone _ _ (case_seen No1 c (standing phase n) leg)
places_seen plan phase g c No2 n leg = alone _ _ (case_seen No2 c (standing phase n) leg)
places_seen plan phase g c No17 n leg = alone _ _ (case_seen No17 c (standing phase n) leg)
places_seen plan phase g c No18 n leg = alone _ _ (case_seen No18 c (standing phase n) leg)
places_seen plan phase g c rule n leg = case_seen rule c (standing phase n) leg

rule_seen : (plan : Plan) (phase : Phase) (g : Grounds) (c : Option Case) (rule : Rule) (n : ℕ) (legs : List Leg)
    → findings_in rule n (sights_from (times_of plan phase g) c n legs) ≡ findings_from (places_for plan phase g c) rule n legs
rule_seen plan phase g c rule n [] = refl
rule_seen plan phase g c rule n (leg ∷ legs) =
    ap (λ ps. map (finding rule n) ps ++ findings_in rule (n + 1) (sights_from (times_of plan phase g) c (n + 1) legs)) (places_seen plan phase g c rule n leg)
    ∙ ap (λ fs. map (finding rule n) (places_for plan phase g c rule n leg) ++ fs) (rule_seen plan phase g c rule (n + 1) legs)

-- the findings of what was seen are those of the rules
all_seen : (rules : List Rule) (plan : Plan) (phase : Phase) (g : Grounds) (c : Option Case) (legs : List Leg)
    → findings_in_all rules (sights_from (times_of plan phase g) c 1 legs) ≡ findings_by (places_for plan phase g c) rules legs
all_seen [] plan phase g c legs = refl
all_seen (rule ∷ rules) plan phase g c legs =
    ap (λ fs. fs ++ findings_in_all rules (sights_from (times_of plan phase g) c 1 legs)) (rule_seen plan phase g c rule 1 legs)
    ∙ ap (λ fs. findings_from (places_for plan phase g c) rule 1 legs ++ fs) (all_seen rules plan phase g c legs)

-- what is seen of a plan gives all that it fails
pub seen_gives_all : (plan : Plan) (phase : Phase) (g : Grounds) (times : Times) → times ≡ times_of plan phase g
    → findings_in_all rules_of_legs (sights_from times (case_for plan g) 1 plan.legs) ++ findings_of_tables plan g ≡ findings_of plan phase g
unfolding findings_of
seen_gives_all plan phase g times is =
    ap (λ t. findings_in_all rules_of_legs (sights_from t (case_for plan g) 1 plan.legs) ++ findings_of_tables plan g) is
    ∙ ap (λ fs. fs ++ findings_of_tables plan g) (all_seen rules_of_legs plan phase g (case_for plan g) plan.legs)
