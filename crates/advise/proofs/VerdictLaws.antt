-- What the rules find with some alternates on a leg: which lists are enough and usable, and what they cost.
use Rattle.std.proofs.Common.{◌≡◌, ℕ, ◌+◌, ◌≤◌, max, Bool, true, false, not, cond, ◌&&◌, ◌||◌, List, [], ◌∷◌, ◌++◌, length, Option, None, Some, refl, ap, ◌∙◌, arith}
use Rattle.std.specs.Prelude.{nat_le}
use Rattle.std.specs.List.{list_any}
use Rattle.std.specs.Option.{option_map}
use Rattle.std.proofs.lemmas.Bool.{le-leb}
use Rattle.std.proofs.lemmas.List.Folds.{list_any-append}
use Rattle.ops_tables.specs.declared.rows.TypeRow.{TypeRow}
use Rattle.ops_tables.specs.Tables.{type_of}
use Rattle.plan.specs.Check.{plan_fault}
use Rattle.plan.specs.Findings.{rules_of_legs}
use Rattle.plan.specs.Fuel.{most_fuel, fuel_for, tenth_for, required}
use Rattle.plan.specs.Phases.{standing}
use Rattle.plan.specs.AlternateNeeds.{needs_destination}
use Rattle.plan.specs.declared.check.BadPlan.{BadPlan}
use Rattle.plan.specs.declared.findings.Rule.{Rule}
use Rattle.plan.specs.declared.findings.Rule.TheVariants.{No19}
use Rattle.plan.specs.declared.flights.Alternate.{Alternate}
use Rattle.plan.specs.declared.flights.Kind.{Kind}
use Rattle.plan.specs.declared.flights.Kind.TheVariants.{Domestic, Flag}
use Rattle.plan.specs.declared.flights.Leg.{Leg}
use Rattle.plan.specs.declared.flights.Plan.{Plan}
use Rattle.plan.specs.declared.fuel.Basis.TheVariants as basis
use Rattle.plan.specs.declared.release.Phase.{Phase}
use Rattle.plan.specs.declared.release.Standing.{Standing}
use Rattle.plan.specs.declared.release.Standing.TheVariants.{Ahead, InFlight, Flown}
use Rattle.rules.specs.Grounds.{Grounds}
use Rattle.rules.specs.Circumstances.{Case, case_of, is_below_alternate}
use Rattle.rules.specs.DestinationAlternates.{place_if, places_from, is_domestic, is_flag, needs_alternate, lacks_domestic_alternate, lacks_second_alternate, is_free, lacks_flag_alternate, low_alternates}
use Rattle.rules.specs.Equipment.{is_barred, is_barred_takeoff, barred}
use Rattle.rules.specs.Fuel.{is_within_states, required_fuel}
use Rattle.rules.specs.Time.{late_places}
use Rattle.rules.specs.Judgement.{places_in_case, places_for, case_unless, case_for, leg_numbered, findings_of}
use Rattle.rules.specs.Required.{required_at, required_in, required_of}
use Rattle.advise.specs.declared.search.Verdict.{Verdict}
use Rattle.advise.specs.Listing.{leg_if, plan_with}
use Rattle.advise.specs.Verdicts.{asks_for_more, is_against, is_on, verdict_of}
use Rattle.advise.proofs.FindingLaws.{places_on, any_on}
use Rattle.advise.proofs.ListingLaws.{leg_with, plan_passes, MayBeListed}

-- Lists of places

never : (places : List ℕ) → list_any (λ place. false) places ≡ false
never [] = refl
never (p ∷ places) = never places

any_place_if : (b : Bool) (place : ℕ) → list_any (λ p. true) (place_if b place) ≡ b
any_place_if true place = refl
any_place_if false place = refl

any_place : (fails : Alternate → Bool) (n : ℕ) (listed : List Alternate) → list_any (λ p. true) (places_from fails n listed) ≡ list_any fails listed
any_place fails n [] = refl
any_place fails n (it ∷ rest) =
    list_any-append (λ p. true) (place_if (fails it) n) (places_from fails (n + 1) rest)
    ∙ ap (λ b. b || list_any (λ p. true) (places_from fails (n + 1) rest)) (any_place_if (fails it) n)
    ∙ ap (λ b. fails it || b) (any_place fails (n + 1) rest)

abbrev is_alternate_place : ℕ → Bool
is_alternate_place place = nat_le 1 place && nat_le place 3

in_place_if : (b : Bool) (place : ℕ) → is_alternate_place place ≡ true → list_any is_alternate_place (place_if b place) ≡ b
in_place_if true place e = ap (λ t. t || false) e
in_place_if false place e = refl

out_place_if : (b : Bool) (place : ℕ) → is_alternate_place place ≡ false → list_any is_alternate_place (place_if b place) ≡ false
out_place_if true place e = ap (λ t. t || false) e
out_place_if false place e = refl

in_places : (fails : Alternate → Bool) (n : ℕ) (listed : List Alternate) → 1 ≤ n → n + length listed ≤ 4 → list_any is_alternate_place (places_from fails n listed) ≡ list_any fails listed
in_places fails n [] low high = refl
in_places fails n (it ∷ rest) low high =
    list_any-append is_alternate_place (place_if (fails it) n) (places_from fails (n + 1) rest)
    ∙ ap (λ b. b || list_any is_alternate_place (places_from fails (n + 1) rest)) (in_place_if (fails it) n within)
    ∙ ap (λ b. fails it || b) (in_places fails (n + 1) rest (omega (arith, low)) (omega (arith, high)))
  where
    within : is_alternate_place n ≡ true
    within = ap (λ b. b && nat_le n 3) (le-leb 1 n low) ∙ le-leb n 3 (omega (arith, high))

or_false : (b : Bool) → (b || false) ≡ b
or_false true = refl
or_false false = refl

or_rest : (a b c d : Bool) → ((a || b) || (c || d)) ≡ ((a || c) || (b || d))
or_rest true b c d = refl
or_rest false true true d = refl
or_rest false true false d = refl
or_rest false false c d = refl

any_of_two : (p q : Alternate → Bool) (listed : List Alternate) → (list_any p listed || list_any q listed) ≡ list_any (λ it. p it || q it) listed
any_of_two p q [] = refl
any_of_two p q (it ∷ rest) = or_rest (p it) (list_any p rest) (q it) (list_any q rest) ∙ ap (λ b. (p it || q it) || b) (any_of_two p q rest)

-- The rules in the case of the plan. Without a case none of them fails.

abbrev are_too_few : Option Case → Leg → Bool
are_too_few None leg = false
are_too_few (Some c) leg = lacks_domestic_alternate c leg || (lacks_second_alternate c leg || lacks_flag_alternate c leg)

abbrev is_unusable : Option Case → Leg → Alternate → Bool
is_unusable None leg it = false
is_unusable (Some c) leg it = is_below_alternate c it.station (leg.eta + it.minutes) || is_barred c it.station

abbrev fuel_in : Option Case → Leg → ℕ
fuel_in None leg = 0
fuel_in (Some c) leg = required_fuel c leg

-- where the rules look at a leg that isn't flown
abbrev ahead_at : Standing → Bool
ahead_at Ahead = true
ahead_at InFlight = false
ahead_at Flown = false

any_barred : (c : Case) (ahead : Bool) (listed : List Alternate) (leg : Leg) → length listed ≤ 3
    → list_any is_alternate_place (barred c ahead (leg_if true listed leg)) ≡ list_any (λ it. is_barred c it.station) listed
any_barred c ahead listed leg few =
    list_any-append is_alternate_place (place_if (is_barred c leg.to) 0 ++ places_from (λ it. is_barred c it.station) 1 listed) (place_if (ahead && is_barred_takeoff c leg.takeoff_alternate) 9)
    ∙ ap (λ b. list_any is_alternate_place (place_if (is_barred c leg.to) 0 ++ places_from (λ it. is_barred c it.station) 1 listed) || b)
    (out_place_if (ahead && is_barred_takeoff c leg.takeoff_alternate) 9 refl)
    ∙ or_false (list_any is_alternate_place (place_if (is_barred c leg.to) 0 ++ places_from (λ it. is_barred c it.station) 1 listed))
    ∙ list_any-append is_alternate_place (place_if (is_barred c leg.to) 0) (places_from (λ it. is_barred c it.station) 1 listed)
    ∙ ap (λ b. b || list_any is_alternate_place (places_from (λ it. is_barred c it.station) 1 listed)) (out_place_if (is_barred c leg.to) 0 refl)
    ∙ in_places (λ it. is_barred c it.station) 1 listed (omega arith) (omega (arith, few))

module _ (plan : Plan) (phase : Phase) (number : ℕ) (g : Grounds) (leg : Leg) (listed : List Alternate) (few : length listed ≤ 3) where
  abbrev tested : (Rule → ℕ → Bool) → Option Case → Standing → Rule → Bool
  tested test c state rule =
      list_any (test rule) (late_places rule g.tables.settings plan.kind phase number (leg_if true listed leg) g.moment ++ places_in_case rule c state (leg_if true listed leg))

  -- among the rules that ask for more
  too_few_in : (c : Option Case) (state : Standing) → (state ≡ Flown → ⊥) → list_any (tested (λ rule place. asks_for_more rule) c state) rules_of_legs ≡ are_too_few c (leg_if true listed leg)
  too_few_in None Ahead still = simp never
  too_few_in None InFlight still = simp never
  too_few_in (Some c) Ahead still = simp (never, any_place_if, or_false)
  too_few_in (Some c) InFlight still = simp (never, any_place_if, or_false)
  too_few_in c Flown still = absurd (still refl)

  -- among the rules that are against an alternate
  unusable_by : (c : Case) (ahead : Bool)
      → (list_any (λ place. true) (low_alternates c (leg_if true listed leg)) || list_any is_alternate_place (barred c ahead (leg_if true listed leg))) ≡ list_any (is_unusable (Some c) leg) listed
  unusable_by c ahead =
      ap (λ b. b || list_any is_alternate_place (barred c ahead (leg_if true listed leg))) (any_place (λ it. is_below_alternate c it.station (leg.eta + it.minutes)) 1 listed)
      ∙ ap (λ b. list_any (λ it. is_below_alternate c it.station (leg.eta + it.minutes)) listed || b) (any_barred c ahead listed leg few)
      ∙ any_of_two (λ it. is_below_alternate c it.station (leg.eta + it.minutes)) (λ it. is_barred c it.station) listed

  none_unusable : (some : List Alternate) → false ≡ list_any (is_unusable None leg) some
  none_unusable [] = refl
  none_unusable (it ∷ rest) = none_unusable rest

  unusable_in : (c : Option Case) (state : Standing) → (state ≡ Flown → ⊥) → list_any (tested is_against c state) rules_of_legs ≡ list_any (is_unusable c leg) listed
  unusable_in None Ahead still = simp never (none_unusable listed)
  unusable_in None InFlight still = simp never (none_unusable listed)
  unusable_in (Some c) Ahead still = simp (never, or_false) (unusable_by c true)
  unusable_in (Some c) InFlight still = simp (never, or_false) (unusable_by c false)
  unusable_in c Flown still = absurd (still refl)

  fuel_at : (aircraft : Option TypeRow) (state : Standing) → (state ≡ Flown → ⊥) → required_at aircraft (plan_with plan number listed) g state (leg_if true listed leg) ≡ fuel_in (option_map (case_of g plan) aircraft) (leg_if true listed leg)
  fuel_at None Ahead still = refl
  fuel_at None InFlight still = refl
  fuel_at (Some aircraft) Ahead still = refl
  fuel_at (Some aircraft) InFlight still = refl
  fuel_at aircraft Flown still = absurd (still refl)

-- what the rules find in the case
abbrev pub verdict_at : Option Case → Leg → List Alternate → Verdict
verdict_at c leg listed =
    record { are_enough = not (are_too_few c (leg_if true listed leg)); are_usable = not (list_any (is_unusable c leg) listed); required = fuel_in c (leg_if true listed leg) }

pub verdict_in_case : (plan : Plan) (phase : Phase) (number : ℕ) (g : Grounds) (leg : Leg) (listed : List Alternate) → plan_fault g.tables plan ≡ None → leg_numbered number 1 plan.legs ≡ Some leg
    → (standing phase number ≡ Flown → ⊥) → MayBeListed g.tables leg listed → verdict_of plan phase number g listed ≡ verdict_at (option_map (case_of g plan) (type_of g.tables plan.tail)) leg listed
unfolding required_of
verdict_in_case plan phase number g leg listed valid stands still may =
    let passes = plan_passes g.tables plan number listed leg valid stands may in
    let here = leg_with plan number listed leg stands in
    let any : (test : Rule → ℕ → Bool) → ((place : ℕ) → test No19 place ≡ false)
    → list_any (is_on number test) (findings_of (plan_with plan number listed) phase g) ≡ list_any (tested plan phase number g leg listed may.few test (option_map (case_of g plan) (type_of g.tables plan.tail)) (standing phase number)) rules_of_legs
    = λ test none. any_on number test (plan_with plan number listed) phase g passes none
    ∙ ap (λ (o : Option Leg). list_any (λ rule. list_any (test rule) (places_on (places_for (plan_with plan number listed) phase g (case_for (plan_with plan number listed) g)) rule number o)) rules_of_legs) here
    ∙ ap (λ (bad : Option BadPlan). list_any (λ rule. list_any (test rule) (places_for (plan_with plan number listed) phase g (case_unless bad (plan_with plan number listed) g) rule number (leg_if true listed leg))) rules_of_legs) passes in
    let enough = any (λ rule place. asks_for_more rule) (λ place. refl) ∙ too_few_in plan phase number g leg listed may.few (option_map (case_of g plan) (type_of g.tables plan.tail)) (standing phase number) still in
    let usable = any is_against (λ place. refl) ∙ unusable_in plan phase number g leg listed may.few (option_map (case_of g plan) (type_of g.tables plan.tail)) (standing phase number) still in
    let fuel = ap (λ (o : Option Leg). required_in (plan_with plan number listed) g (standing phase number) o) here
    ∙ fuel_at plan phase number g leg listed may.few (type_of g.tables plan.tail) (standing phase number) still in
    same_verdict enough usable fuel
  where
    same_verdict : {a b c d : Bool} {m n : ℕ} → a ≡ b → c ≡ d → m ≡ n
        → ◌≡◌ {A = Verdict} (record { are_enough = not a; are_usable = not c; required = m }) (record { are_enough = not b; are_usable = not d; required = n })
    same_verdict e f h = cc

-- Lists of two or more

and_false : (a : Bool) → (a && false) ≡ false
and_false true = refl
and_false false = refl

pub two_are_enough : (c : Option Case) (leg : Leg) (a b : Alternate) (rest : List Alternate) → (verdict_at c leg (a ∷ b ∷ rest)).are_enough ≡ true
two_are_enough None leg a b rest = refl
two_are_enough (Some c) leg a b rest = simp (and_false)

not_either : (x y : Bool) → not (x || (y || false)) ≡ (not (x || false) && not (y || false))
not_either true y = refl
not_either false true = refl
not_either false false = refl

-- two are usable if each is
pub two_are_usable : (c : Option Case) (leg : Leg) (a b : Alternate) → (verdict_at c leg (a ∷ b ∷ [])).are_usable ≡ ((verdict_at c leg (a ∷ [])).are_usable && (verdict_at c leg (b ∷ [])).are_usable)
two_are_usable c leg a b = not_either (is_unusable c leg a) (is_unusable c leg b)

not_three : (x y z : Bool) → not (x || (y || (z || false))) ≡ true → not (x || (y || false)) ≡ true
not_three true y z e = absurd (cc)
not_three false true z e = absurd (cc)
not_three false false z e = refl

-- of three usable alternates two are
pub two_of_three : (c : Option Case) (leg : Leg) (a b d : Alternate) → (verdict_at c leg (a ∷ b ∷ d ∷ [])).are_usable ≡ true → (verdict_at c leg (a ∷ b ∷ [])).are_usable ≡ true
two_of_three c leg a b d e = not_three (is_unusable c leg a) (is_unusable c leg b) (is_unusable c leg d) e

-- Fuel

-- whether the leg needs an alternate doesn't depend on those that it lists
needs_same : (listed : List Alternate) (leg : Leg) (kind : Kind) (window : _) (floor : _) → needs_destination (leg_if true listed leg) kind window floor ≡ needs_destination leg kind window floor
unfolding needs_destination
needs_same listed leg Domestic window floor = refl
needs_same listed leg Flag window floor = refl

-- the fuel that the leg requires without that to an alternate
abbrev base : Case → Leg → Bool → ℕ
base c leg true = leg.burn + leg.extra + fuel_for c.aircraft.cruise_pph 45 + c.limits.extra_fuel
base c leg false = leg.burn + leg.extra + tenth_for c.aircraft.cruise_pph leg.minutes + fuel_for c.aircraft.hold_pph 30 + c.limits.extra_fuel

fuel_by : (c : Case) (leg : Leg) (a : Alternate) (rest : List Alternate) (flag needs free within : Bool)
    → required (leg_if true (a ∷ rest) leg) (cond (flag && needs && false && free) basis.NoAlternate (cond within basis.Domestic basis.Flag)) (needs && true) c.aircraft.cruise_pph c.aircraft.hold_pph c.limits.extra_fuel
    ≡ base c leg within + cond needs (most_fuel (a ∷ rest)) 0
unfolding required
fuel_by c leg a rest true true free true = omega arith
fuel_by c leg a rest true true free false = omega arith
fuel_by c leg a rest true false free true = omega arith
fuel_by c leg a rest true false free false = omega arith
fuel_by c leg a rest false true free true = omega arith
fuel_by c leg a rest false true free false = omega arith
fuel_by c leg a rest false false free true = omega arith
fuel_by c leg a rest false false free false = omega arith

-- the fuel with some alternates is the same but for the most distant one
fuel_with : (c : Case) (leg : Leg) (a : Alternate) (rest : List Alternate)
    → required_fuel c (leg_if true (a ∷ rest) leg) ≡ base c leg (is_domestic c.flight || is_within_states c.grounds.tables leg) + cond (needs_alternate c leg) (most_fuel (a ∷ rest)) 0
fuel_with c leg a rest =
    let same : needs_alternate c (leg_if true (a ∷ rest) leg) ≡ needs_alternate c leg = needs_same (a ∷ rest) leg c.flight _ _ in
    ap (λ needs. required (leg_if true (a ∷ rest) leg) (cond (is_flag c.flight && needs && false && is_free c leg) basis.NoAlternate (cond (is_domestic c.flight || is_within_states c.grounds.tables leg) basis.Domestic basis.Flag))
    (needs && true) c.aircraft.cruise_pph c.aircraft.hold_pph c.limits.extra_fuel)
    same
    ∙ fuel_by c leg a rest (is_flag c.flight) (needs_alternate c leg) (is_free c leg) (is_domestic c.flight || is_within_states c.grounds.tables leg)

most_of_two : (base one two three : ℕ) (needs : Bool) → base + cond needs (max one (max two 0)) 0 ≡ max (base + cond needs (max one 0) 0) (base + cond needs (max two 0) 0)
most_of_two base one two three true = omega arith
most_of_two base one two three false = omega arith

more_of_three : (base one two three : ℕ) (needs : Bool) → base + cond needs (max one (max two 0)) 0 ≤ base + cond needs (max one (max two (max three 0))) 0
more_of_three base one two three true = omega arith
more_of_three base one two three false = omega arith

-- two alternates cost what the more distant one costs
pub two_require : (c : Option Case) (leg : Leg) (a b : Alternate) → (verdict_at c leg (a ∷ b ∷ [])).required ≡ max (verdict_at c leg (a ∷ [])).required (verdict_at c leg (b ∷ [])).required
two_require None leg a b = refl
two_require (Some c) leg a b = rw (fuel_with c leg a (b ∷ []), fuel_with c leg a [], fuel_with c leg b [])
    (most_of_two (base c leg (is_domestic c.flight || is_within_states c.grounds.tables leg)) a.fuel b.fuel 0 (needs_alternate c leg))

-- three cost no less than two of them
pub three_require : (c : Option Case) (leg : Leg) (a b d : Alternate) → (verdict_at c leg (a ∷ b ∷ [])).required ≤ (verdict_at c leg (a ∷ b ∷ d ∷ [])).required
three_require None leg a b d = omega arith
three_require (Some c) leg a b d = rw (fuel_with c leg a (b ∷ []), fuel_with c leg a (b ∷ d ∷ []))
    (more_of_three (base c leg (is_domestic c.flight || is_within_states c.grounds.tables leg)) a.fuel b.fuel d.fuel (needs_alternate c leg))
