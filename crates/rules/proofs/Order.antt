-- Findings of rules stand in order of rule, leg and place.
use Rattle.std.proofs.Common.{◌≡◌, ℕ, ◌+◌, ◌<◌, ◌≤◌, ◌==◌, Bool, true, false, ◌&&◌, ◌||◌, cond, List, [], ◌∷◌, ◌++◌, length, Option, None, Some, append-nil, refl, ap, sym, subst, arith}
use Rattle.std.specs.Prelude.{map, filter, nat_lt}
use Rattle.std.specs.List.{AllByRecursion, list_all}
use Rattle.std.proofs.lemmas.Bool.Decides.{nat_tests}
use Rattle.std.proofs.lemmas.Bool.{ltb-true, and_parts}
use Rattle.std.proofs.lemmas.List.Kept.{AllPairs-filter}
use Rattle.plan.specs.Phases.{standing}
use Rattle.plan.specs.declared.flights.Leg.{Leg}
use Rattle.plan.specs.declared.flights.Plan.{Plan}
use Rattle.plan.specs.declared.release.Phase.{Phase}
use Rattle.plan.specs.declared.release.Standing.{Standing}
use Rattle.plan.specs.declared.release.Standing.TheVariants.{Ahead, InFlight, Flown}
use Rattle.plan.specs.declared.findings.Finding.{Finding}
use Rattle.plan.specs.declared.findings.Rule.{Rule}
use Rattle.plan.specs.declared.findings.Rule.TheVariants.{No1, No2, No10, No11, No12, No13, No17, No18, No19}
use Rattle.plan.specs.Findings.{number_of, is_before, AreInOrder}
use Rattle.deferrals.specs.Held.{AreRising}
use Rattle.rules.specs.Grounds.{Grounds}
use Rattle.rules.specs.Circumstances.{Case}
use Rattle.rules.specs.DestinationAlternates.{place_if}
use Rattle.rules.specs.Equipment.{is_limiting, is_overdue, is_barred, is_barred_takeoff}
use Rattle.rules.specs.Judgement.{is_of_departure, places_of, places_at, places_in_case, places_for, finding, findings_from, findings_by}
use Rattle.rules.proofs.Rising.{Rises, place_rises, places_rise, all_places_rise, ids_rise}
use Rattle.desk_io.proofs.Each.{each_append, each_weaker}

by_rule : (a b : ℕ) (rest : Bool) → a < b → (nat_lt a b || rest) ≡ true
by_rule a b rest less = grind (arith, nat_tests, less)

by_leg : (a b l m : ℕ) (rest : Bool) → a ≡ b → l < m → (nat_lt a b || ((a == b) && (nat_lt l m || rest))) ≡ true
by_leg a b l m rest same less = grind (arith, nat_tests, same, less)

by_place : (a l p q : ℕ) → p < q → (nat_lt a a || ((a == a) && (nat_lt l l || ((l == l) && nat_lt p q)))) ≡ true
by_place a l p q less = grind (arith, nat_tests, less)

-- two lists in order, of which each finding of the first is before all of the second
in_order_append : (fs gs : List Finding) → AreInOrder fs → AreInOrder gs → AllByRecursion (λ f. AllByRecursion (λ g. is_before f g ≡ true) gs) fs → AreInOrder (fs ++ gs)
in_order_append [] gs one two before = two
in_order_append (f ∷ fs) gs one two before = (each_append (λ g. is_before f g ≡ true) fs gs one.0 before.0, in_order_append fs gs one.1 two before.1)

-- a finding of a rule, for a leg of that number or a later one
record IsOf (rule : Rule) (first : ℕ) (f : Finding) : Type 0 where
  pub rule_is : f.rule ≡ rule
  pub least : first ≤ f.leg

of_places : (rule : Rule) (n : ℕ) (places : List ℕ) → AllByRecursion (IsOf rule n) (map (finding rule n) places)
of_places rule n [] = tt
of_places rule n (place ∷ places) = (record { rule_is = refl; least = omega arith }, of_places rule n places)

of_rule : (places : Rule → ℕ → Leg → List ℕ) (rule : Rule) (n : ℕ) (legs : List Leg) → AllByRecursion (IsOf rule n) (findings_from places rule n legs)
of_rule places rule n [] = tt
of_rule places rule n (leg ∷ legs) =
    each_append (IsOf rule n) (map (finding rule n) (places rule n leg)) (findings_from places rule (n + 1) legs)
    (of_places rule n (places rule n leg))
    (each_weaker (IsOf rule (n + 1)) (IsOf rule n) (λ f is. record { rule_is = is.rule_is; least = let least = is.least in omega (arith, least) }) (findings_from places rule (n + 1) legs)
    (of_rule places rule (n + 1) legs))

-- the findings of a rule and a leg
above_place : (rule : Rule) (n p : ℕ) (places : List ℕ) → AllByRecursion (λ q. p < q) places → AllByRecursion (λ g. is_before (finding rule n p) g ≡ true) (map (finding rule n) places)
above_place rule n p [] above = tt
above_place rule n p (q ∷ places) above = (by_place (number_of rule) n p q above.0, above_place rule n p places above.1)

places_in_order : (rule : Rule) (n : ℕ) (places : List ℕ) → Rises places → AreInOrder (map (finding rule n) places)
places_in_order rule n [] rises = tt
places_in_order rule n (p ∷ places) rises = (above_place rule n p places rises.0, places_in_order rule n places rises.1)

before_later : (rule : Rule) (n place : ℕ) (g : Finding) → IsOf rule (n + 1) g → is_before (finding rule n place) g ≡ true
before_later rule n place g is = by_leg (number_of rule) (number_of g.rule) n g.leg _ (ap number_of (sym is.rule_is)) (let least = is.least in omega (arith, least))

later_legs : (rule : Rule) (n : ℕ) (places : List ℕ) (gs : List Finding) → AllByRecursion (IsOf rule (n + 1)) gs
    → AllByRecursion (λ f. AllByRecursion (λ g. is_before f g ≡ true) gs) (map (finding rule n) places)
later_legs rule n [] gs all = tt
later_legs rule n (p ∷ places) gs all =
    (each_weaker (IsOf rule (n + 1)) (λ g. is_before (finding rule n p) g ≡ true) (λ g is. before_later rule n p g is) gs all, later_legs rule n places gs all)

-- a rule whose places rise at a leg, whatever its number
abbrev pub RisesAt : (Rule → ℕ → Leg → List ℕ) → Rule → Leg → Type 0
RisesAt places rule leg = (n : ℕ) → Rises (places rule n leg)

rule_in_order : (places : Rule → ℕ → Leg → List ℕ) (rule : Rule) (n : ℕ) (legs : List Leg) → AllByRecursion (RisesAt places rule) legs → AreInOrder (findings_from places rule n legs)
rule_in_order places rule n [] rises = tt
rule_in_order places rule n (leg ∷ legs) rises =
    in_order_append (map (finding rule n) (places rule n leg)) (findings_from places rule (n + 1) legs)
    (places_in_order rule n (places rule n leg) (rises.0 n))
    (rule_in_order places rule (n + 1) legs rises.1)
    (later_legs rule n (places rule n leg) (findings_from places rule (n + 1) legs) (of_rule places rule (n + 1) legs))

-- a rule has a smaller number than all of some rules
abbrev is_below : Rule → List Rule → Bool
is_below rule rules = list_all (λ r. nat_lt (number_of rule) (number_of r)) rules

-- the numbers of rules rise
abbrev pub rules_rise : List Rule → Bool
rules_rise [] = true
rules_rise (rule ∷ rules) = is_below rule rules && rules_rise rules

abbrev IsAbove : Rule → Finding → Type 0
IsAbove rule g = number_of rule < number_of g.rule

above_rule : (places : Rule → ℕ → Leg → List ℕ) (rule other : Rule) (legs : List Leg) → nat_lt (number_of rule) (number_of other) ≡ true → AllByRecursion (IsAbove rule) (findings_from places other 1 legs)
above_rule places rule other legs less =
    each_weaker (IsOf other 1) (IsAbove rule)
    (λ g is. let same : number_of g.rule ≡ number_of other = ap number_of is.rule_is in let below = ltb-true (number_of rule) (number_of other) less in omega (arith, same, below))
    (findings_from places other 1 legs) (of_rule places other 1 legs)

above_rules : (places : Rule → ℕ → Leg → List ℕ) (rule : Rule) (rules : List Rule) (legs : List Leg) → is_below rule rules ≡ true → AllByRecursion (IsAbove rule) (findings_by places rules legs)
above_rules places rule [] legs below = tt
above_rules places rule (other ∷ rules) legs below =
    let parts = and_parts (nat_lt (number_of rule) (number_of other)) (is_below rule rules) below in
    each_append (IsAbove rule) (findings_from places other 1 legs) (findings_by places rules legs)
    (above_rule places rule other legs parts.0) (above_rules places rule rules legs parts.1)

before_rules : (rule : Rule) (f : Finding) (gs : List Finding) → f.rule ≡ rule → AllByRecursion (IsAbove rule) gs → AllByRecursion (λ g. is_before f g ≡ true) gs
before_rules rule f gs is all =
    each_weaker (IsAbove rule) (λ g. is_before f g ≡ true)
    (λ g above. by_rule (number_of f.rule) (number_of g.rule) _ (let same : number_of f.rule ≡ number_of rule = ap number_of is in omega (arith, same, above))) gs all

-- rules whose numbers rise, and whose places rise at each leg
pub rules_in_order : (places : Rule → ℕ → Leg → List ℕ) (rules : List Rule) (legs : List Leg) → rules_rise rules ≡ true → ((rule : Rule) → AllByRecursion (RisesAt places rule) legs)
    → AreInOrder (findings_by places rules legs)
rules_in_order places [] legs rise rises = tt
rules_in_order places (rule ∷ rules) legs rise rises =
    let parts = and_parts (is_below rule rules) (rules_rise rules) rise in
    in_order_append (findings_from places rule 1 legs) (findings_by places rules legs)
    (rule_in_order places rule 1 legs (rises rule))
    (rules_in_order places rules legs parts.1 rises)
    (each_weaker (IsOf rule 1) (λ f. AllByRecursion (λ g. is_before f g ≡ true) (findings_by places rules legs))
    (λ f is. before_rules rule f (findings_by places rules legs) is.rule_is (above_rules places rule rules legs parts.0))
    (findings_from places rule 1 legs) (of_rule places rule 1 legs))

-- a finding of a rule whose number is below that of another rule
abbrev IsBelow : Rule → Finding → Type 0
IsBelow last f = number_of f.rule < number_of last

rule_below : (places : Rule → ℕ → Leg → List ℕ) (rule last : Rule) (legs : List Leg) → nat_lt (number_of rule) (number_of last) ≡ true → AllByRecursion (IsBelow last) (findings_from places rule 1 legs)
rule_below places rule last legs less =
    each_weaker (IsOf rule 1) (IsBelow last)
    (λ f is. let same : number_of f.rule ≡ number_of rule = ap number_of is.rule_is in let below = ltb-true (number_of rule) (number_of last) less in omega (arith, same, below))
    (findings_from places rule 1 legs) (of_rule places rule 1 legs)

-- each of some rules has a smaller number than another
abbrev pub are_below : List Rule → Rule → Bool
are_below rules last = list_all (λ r. nat_lt (number_of r) (number_of last)) rules

rules_below : (places : Rule → ℕ → Leg → List ℕ) (rules : List Rule) (last : Rule) (legs : List Leg) → are_below rules last ≡ true → AllByRecursion (IsBelow last) (findings_by places rules legs)
rules_below places [] last legs below = tt
rules_below places (rule ∷ rules) last legs below =
    let parts = and_parts (nat_lt (number_of rule) (number_of last)) (are_below rules last) below in
    each_append (IsBelow last) (findings_from places rule 1 legs) (findings_by places rules legs)
    (rule_below places rule last legs parts.0) (rules_below places rules last legs parts.1)

-- rules in order, and then one finding at most of a rule after them
pub in_order_then : (places : Rule → ℕ → Leg → List ℕ) (rules : List Rule) (legs : List Leg) (last : Finding) → are_below rules last.rule ≡ true → AreInOrder (findings_by places rules legs)
    → AreInOrder (findings_by places rules legs ++ last ∷ [])
in_order_then places rules legs last below order =
    in_order_append (findings_by places rules legs) (last ∷ []) order (tt, tt)
    (each_weaker (IsBelow last.rule) (λ f. AllByRecursion (λ g. is_before f g ≡ true) (last ∷ []))
    (λ f less. (by_rule (number_of f.rule) (number_of last.rule) _ less, tt)) (findings_by places rules legs) (rules_below places rules last.rule legs below))

-- the places of each rule rise, where ids of deferrals rise and a leg has few alternates
places_of_rise : (rule : Rule) (c : Case) (ahead : Bool) (leg : Leg) → AreRising c.deferred → length leg.alternates ≤ 8 → Rises (places_of rule c ahead leg)
places_of_rise No1 c ahead leg rising few = tt
places_of_rise No2 c ahead leg rising few = tt
places_of_rise No10 c ahead leg rising few = places_rise _ 1 leg.alternates
places_of_rise No11 c ahead leg rising few = ids_rise (filter (is_limiting c leg) c.deferred) (AllPairs-filter (λ e l. e.id < l.id) (is_limiting c leg) c.deferred rising)
places_of_rise No12 c ahead leg rising few = ids_rise (filter (is_overdue c leg) c.deferred) (AllPairs-filter (λ e l. e.id < l.id) (is_overdue c leg) c.deferred rising)
places_of_rise No13 c ahead leg rising few =
    all_places_rise (is_barred c leg.to) (ahead && is_barred_takeoff c leg.takeoff_alternate) (λ it. is_barred c it.station) leg.alternates few
places_of_rise No17 c ahead leg rising few = tt
places_of_rise No18 c ahead leg rising few = tt
places_of_rise No19 c ahead leg rising few = tt
places_of_rise _ c ahead leg rising few = place_rises _ 0

where_departed : (departed : Bool) (places : List ℕ) → Rises places → Rises (cond departed [] places)
where_departed true places rises = tt
where_departed false places rises = rises

places_at_rise : (rule : Rule) (c : Case) (s : Standing) (leg : Leg) → AreRising c.deferred → length leg.alternates ≤ 8 → Rises (places_at rule c s leg)
places_at_rise rule c Ahead leg rising few = places_of_rise rule c true leg rising few
places_at_rise rule c InFlight leg rising few = where_departed (is_of_departure rule) (places_of rule c false leg) (places_of_rise rule c false leg rising few)
places_at_rise rule c Flown leg rising few = tt

-- what is needed of a case and a leg
abbrev pub FitsCase : Option Case → Leg → Type 0
FitsCase None leg = Unit {0}
FitsCase (Some c) leg = AreRising c.deferred × (length leg.alternates ≤ 8)

case_rises : (rule : Rule) (c : Option Case) (s : Standing) (leg : Leg) → FitsCase c leg → Rises (places_in_case rule c s leg)
case_rises rule None s leg fits = tt
case_rises rule (Some c) s leg fits = places_at_rise rule c s leg fits.0 fits.1

-- the case has no places for a rule of time
pub no_place : (rule : Rule) (c : Option Case) (s : Standing) (leg : Leg) → ((each : Case) (ahead : Bool) → places_of rule each ahead leg ≡ []) → is_of_departure rule ≡ false → places_in_case rule c s leg ≡ []
no_place rule None s leg none stays = refl
no_place rule (Some c) Ahead leg none stays = none c true
no_place rule (Some c) InFlight leg none stays = rw stays (none c false)
no_place rule (Some c) Flown leg none stays = refl

rises_alone : (fails : Bool) (more : List ℕ) → more ≡ [] → Rises (place_if fails 0 ++ more)
rises_alone fails more none = subst (λ ps. Rises (place_if fails 0 ++ ps)) (sym none) (subst Rises (sym (append-nil (place_if fails 0))) (place_rises fails 0))

-- the places of each rule rise
pub places_for_rise : (plan : Plan) (phase : Phase) (g : Grounds) (c : Option Case) (rule : Rule) (leg : Leg) → FitsCase c leg → RisesAt (places_for plan phase g c) rule leg
places_for_rise plan phase g c No1 leg fits n = rises_alone _ _ (no_place No1 c (standing phase n) leg (λ each ahead. refl) refl)
places_for_rise plan phase g c No2 leg fits n = rises_alone _ _ (no_place No2 c (standing phase n) leg (λ each ahead. refl) refl)
places_for_rise plan phase g c No17 leg fits n = rises_alone _ _ (no_place No17 c (standing phase n) leg (λ each ahead. refl) refl)
places_for_rise plan phase g c No18 leg fits n = rises_alone _ _ (no_place No18 c (standing phase n) leg (λ each ahead. refl) refl)
places_for_rise plan phase g c rule leg fits n = case_rises rule c (standing phase n) leg fits
