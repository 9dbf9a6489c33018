-- A plan with other alternates on a leg: what stays, and when it passes its tests.
use Rattle.std.proofs.Common.{◌≡◌, ◌↔◌, ℕ, ◌+◌, ◌<◌, ◌≤◌, ◌==◌, Bool, true, false, not, ◌&&◌, ◌||◌, cond, List, [], ◌∷◌, length, Option, None, Some, refl, sym, ap, subst, ◌∙◌, lit≤, arith}
use Rattle.std.specs.Prelude.{nat_le, is_some, IfSome}
use Rattle.std.specs.List.{AllByRecursion, list_all, list_any}
use Rattle.std.specs.Option.{option_map}
use Rattle.std.proofs.lemmas.Bool.{and_parts, and_from, or_parts, or_from, not-true, not_from_false, le-leb, leb-true, eqb-true, eqb-false, ne_eqb}
use Rattle.ops_tables.specs.Tables.{TableRows, tail_named, has_airport, has_captain}
use Rattle.plan.specs.Check.{is_alternate_at, repeats, is_at, is_takeoff_at, is_repeated, is_takeoff_airport, has_airports, has_few_alternates, joins, has_moments, has_minutes, is_takeoff_near, are_near, has_times, is_near, is_amount, are_amounts, has_amounts, flight_fault, leg_fault, fault_or, first_fault, whole_fault, plan_fault, HasMoments, IsPlan}
use Rattle.plan.specs.declared.check.BadPlan.{BadPlan}
use Rattle.plan.specs.declared.check.PlanWhy.{PlanWhy}
use Rattle.plan.specs.declared.check.PlanWhy.TheVariants.{UnknownTail, UnknownCaptain, Count, NoAirport, Repeated, Unjoined, Times, Amount}
use Rattle.plan.specs.declared.flights.Alternate.{Alternate}
use Rattle.plan.specs.declared.flights.Leg.{Leg}
use Rattle.plan.specs.declared.flights.Plan.{Plan}
use Rattle.rules.specs.Judgement.{leg_numbered}
use Rattle.advise.specs.Listing.{leg_if, legs_with, plan_with}
use Rattle.advise.specs.declared.candidates.Candidate.{Candidate}
use Rattle.advise.specs.Candidates.{is_allowed, is_allowed_on, is_candidate, PassesAlone}

-- Lengths and moments stay

length_with : (number first : ℕ) (listed : List Alternate) (legs : List Leg) → length (legs_with number first listed legs) ≡ length legs
length_with number first listed [] = refl
length_with number first listed (leg ∷ legs) = let rest = length_with number (first + 1) listed legs in omega (arith, rest)

moments_if : (gets : Bool) (listed : List Alternate) (leg : Leg) → HasMoments leg → HasMoments (leg_if gets listed leg)
moments_if true listed leg has = has
moments_if false listed leg has = has

moments_with : (number first : ℕ) (listed : List Alternate) (legs : List Leg) → AllByRecursion HasMoments legs → AllByRecursion HasMoments (legs_with number first listed legs)
moments_with number first listed [] all = tt
moments_with number first listed (leg ∷ legs) all = (moments_if (number == first) listed leg all.0, moments_with number (first + 1) listed legs all.1)

pub is_plan : (plan : Plan) (number : ℕ) (listed : List Alternate) → IsPlan plan → IsPlan (plan_with plan number listed)
is_plan plan number listed is = record {
  few = let same = length_with number 1 listed plan.legs in let few = is.few in omega (arith, same, few);
  moments = moments_with number 1 listed plan.legs is.moments;
}

-- The leg of the number

found_if : (b : Bool) (listed : List Alternate) (leg : Leg) (later others : Option Leg) → later ≡ option_map (leg_if true listed) others
    → cond b (Some (leg_if b listed leg)) later ≡ option_map (leg_if true listed) (cond b (Some leg) others)
found_if true listed leg later others rest = refl
found_if false listed leg later others rest = rest

found_with : (number first : ℕ) (listed : List Alternate) (legs : List Leg) → leg_numbered number first (legs_with number first listed legs) ≡ option_map (leg_if true listed) (leg_numbered number first legs)
found_with number first listed [] = refl
found_with number first listed (leg ∷ legs) =
    found_if (number == first) listed leg (leg_numbered number (first + 1) (legs_with number (first + 1) listed legs)) (leg_numbered number (first + 1) legs)
    (found_with number (first + 1) listed legs)

pub leg_with : (plan : Plan) (number : ℕ) (listed : List Alternate) (leg : Leg) → leg_numbered number 1 plan.legs ≡ Some leg
    → leg_numbered number 1 (plan_with plan number listed).legs ≡ Some (leg_if true listed leg)
leg_with plan number listed leg stands = found_with number 1 listed plan.legs ∙ ap (option_map (leg_if true listed)) stands

-- Tests of one leg

pub all_weaker : {A : Type 0} (p q : A → Bool) → ((a : A) → p a ≡ true → q a ≡ true) → (xs : List A) → list_all p xs ≡ true → list_all q xs ≡ true
all_weaker p q f [] e = refl
all_weaker p q f (x ∷ xs) e =
    let both = and_parts (p x) (list_all p xs) e in
    and_from (q x) (list_all q xs) (f x both.0) (all_weaker p q f xs both.1)

none_of : {A : Type 0} (p q : A → Bool) → ((a : A) → p a ≡ true → q a ≡ false) → (xs : List A) → list_all p xs ≡ true → list_any q xs ≡ false
none_of p q f [] e = refl
none_of p q f (x ∷ xs) e =
    let both = and_parts (p x) (list_all p xs) e in
    or_from (q x) (list_any q xs) (f x both.0) (none_of p q f xs both.1)

-- the alternates may be listed on the leg together
pub record MayBeListed (tables : TableRows) (leg : Leg) (listed : List Alternate) : Type 0 where
  pub few : length listed ≤ 3
  pub allowed : list_all (is_allowed tables leg) listed ≡ true
  pub once : repeats listed ≡ false

-- the four tests of `is_allowed`
record Allowed (tables : TableRows) (leg : Leg) (it : Alternate) : Type 0 where
  pub airport : has_airport tables it.station ≡ true
  pub elsewhere : is_alternate_at leg.to it ≡ false
  pub near : is_near it.minutes ≡ true
  pub amount : is_amount it.fuel ≡ true

allowed_parts : (tables : TableRows) (leg : Leg) (it : Alternate) → is_allowed tables leg it ≡ true → Allowed tables leg it
allowed_parts tables leg it e =
    let four = and_parts (has_airport tables it.station && not (is_alternate_at leg.to it) && is_near it.minutes) (is_amount it.fuel) e in
    let three = and_parts (has_airport tables it.station && not (is_alternate_at leg.to it)) (is_near it.minutes) four.0 in
    let two = and_parts (has_airport tables it.station) (not (is_alternate_at leg.to it)) three.0 in
    record { airport = two.0; elsewhere = not-true (is_alternate_at leg.to it) two.1; near = three.1; amount = four.1 }

-- the tests of a leg in turn, given what each tells
by_tests : (airports few repeated : Bool) (rest : Option PlanWhy) → airports ≡ true → few ≡ true → repeated ≡ false → rest ≡ None
    → cond (not airports) (Some NoAirport) (cond (not few) (Some Count) (cond repeated (Some Repeated) rest)) ≡ None
by_tests true true false rest a b c d = d
by_tests true true true rest a b c d = absurd (cc)
by_tests true false repeated rest a b c d = absurd (cc)
by_tests false few repeated rest a b c d = absurd (cc)

tests_by : (airports few repeated : Bool) (rest : Option PlanWhy) → cond (not airports) (Some NoAirport) (cond (not few) (Some Count) (cond repeated (Some Repeated) rest)) ≡ None
    → (airports ≡ true) × (few ≡ true) × (repeated ≡ false) × (rest ≡ None)
tests_by true true false rest e = (refl, refl, refl, e)
tests_by true true true rest e = absurd (cc)
tests_by true false repeated rest e = absurd (cc)
tests_by false few repeated rest e = absurd (cc)

by_flight : (joined timed filled : Bool) → joined ≡ true → timed ≡ true → filled ≡ true
    → ◌≡◌ {A = Option PlanWhy} (cond (not joined) (Some Unjoined) (cond (not timed) (Some Times) (cond (not filled) (Some Amount) None))) None
by_flight true true true a b c = refl
by_flight true true false a b c = absurd (cc)
by_flight true false filled a b c = absurd (cc)
by_flight false timed filled a b c = absurd (cc)

flight_by : (joined timed filled : Bool) → ◌≡◌ {A = Option PlanWhy} (cond (not joined) (Some Unjoined) (cond (not timed) (Some Times) (cond (not filled) (Some Amount) None))) None
    → (joined ≡ true) × (timed ≡ true) × (filled ≡ true)
flight_by true true true e = (refl, refl, refl)
flight_by true true false e = absurd (cc)
flight_by true false filled e = absurd (cc)
flight_by false timed filled e = absurd (cc)

-- what the tests of a leg tell
record Passes (tables : TableRows) (before : Option Leg) (leg : Leg) : Type 0 where
  pub airports : has_airports tables leg ≡ true
  pub few : has_few_alternates leg ≡ true
  pub once : is_repeated leg ≡ false
  pub joined : joins before leg ≡ true
  pub timed : has_times before leg ≡ true
  pub filled : has_amounts leg ≡ true

passes_parts : (tables : TableRows) (before : Option Leg) (leg : Leg) → leg_fault tables before leg ≡ None → Passes tables before leg
passes_parts tables before leg e =
    let four = tests_by (has_airports tables leg) (has_few_alternates leg) (is_repeated leg) (flight_fault before leg) e in
    let three = flight_by (joins before leg) (has_times before leg) (has_amounts leg) four.3 in
    record { airports = four.0; few = four.1; once = four.2; joined = three.0; timed = three.1; filled = three.2 }

passes_by : (tables : TableRows) (before : Option Leg) (leg : Leg) → Passes tables before leg → leg_fault tables before leg ≡ None
passes_by tables before leg is =
    by_tests (has_airports tables leg) (has_few_alternates leg) (is_repeated leg) (flight_fault before leg) is.airports is.few is.once
    (by_flight (joins before leg) (has_times before leg) (has_amounts leg) is.joined is.timed is.filled)

-- the alternates don't count in the tests of the legs' ends
joined_same : (before : Option Leg) (leg : Leg) (listed : List Alternate) → joins before (leg_if true listed leg) ≡ joins before leg
joined_same None leg listed = refl
joined_same (Some last) leg listed = refl

moments_same : (before : Option Leg) (leg : Leg) (listed : List Alternate) → has_moments before (leg_if true listed leg) ≡ has_moments before leg
moments_same None leg listed = refl
moments_same (Some last) leg listed = refl

timed_same : (before : Option Leg) (leg : Leg) (listed : List Alternate)
    → has_times before (leg_if true listed leg) ≡ (has_moments before leg && has_minutes leg && is_takeoff_near leg.takeoff_alternate && are_near listed)
timed_same before leg listed = ap (λ b. b && has_minutes leg && is_takeoff_near leg.takeoff_alternate && are_near listed) (moments_same before leg listed)

module _ (tables : TableRows) (before : Option Leg) (leg : Leg) (listed : List Alternate) where
  -- the leg passes its tests with alternates that may be listed
  leg_passes : leg_fault tables before leg ≡ None → MayBeListed tables leg listed → leg_fault tables before (leg_if true listed leg) ≡ None
  leg_passes e may =
      let is = passes_parts tables before leg e in
      let airports = and_parts (has_airport tables leg.from && has_airport tables leg.to && is_takeoff_airport tables leg.takeoff_alternate) (list_all (λ a. has_airport tables a.station) leg.alternates) is.airports in
      let once = or_parts (is_at leg.from leg.to || is_takeoff_at leg.from leg.takeoff_alternate || list_any (is_alternate_at leg.to) leg.alternates) (repeats leg.alternates) is.once in
      let ends = or_parts (is_at leg.from leg.to || is_takeoff_at leg.from leg.takeoff_alternate) (list_any (is_alternate_at leg.to) leg.alternates) once.0 in
      let timed = and_parts (has_moments before leg && has_minutes leg && is_takeoff_near leg.takeoff_alternate) (are_near leg.alternates) is.timed in
      let filled = and_parts (is_amount leg.burn && is_amount leg.extra && is_amount leg.minimum && is_amount leg.onboard) (are_amounts leg.alternates) is.filled in
      passes_by tables before (leg_if true listed leg) (record {
        airports = and_from (has_airport tables leg.from && has_airport tables leg.to && is_takeoff_airport tables leg.takeoff_alternate) (list_all (λ a. has_airport tables a.station) listed) airports.0
            (all_weaker (is_allowed tables leg) (λ a. has_airport tables a.station) (λ a h. (allowed_parts tables leg a h).airport) listed may.allowed);
        few = le-leb (length listed) 3 may.few;
        once = or_from (is_at leg.from leg.to || is_takeoff_at leg.from leg.takeoff_alternate || list_any (is_alternate_at leg.to) listed) (repeats listed)
            (or_from (is_at leg.from leg.to || is_takeoff_at leg.from leg.takeoff_alternate) (list_any (is_alternate_at leg.to) listed) ends.0
            (none_of (is_allowed tables leg) (is_alternate_at leg.to) (λ a h. (allowed_parts tables leg a h).elsewhere) listed may.allowed)) may.once;
        joined = joined_same before leg listed ∙ is.joined;
        timed = timed_same before leg listed ∙ and_from (has_moments before leg && has_minutes leg && is_takeoff_near leg.takeoff_alternate) (are_near listed) timed.0
            (all_weaker (is_allowed tables leg) (λ a. is_near a.minutes) (λ a h. (allowed_parts tables leg a h).near) listed may.allowed);
        filled = and_from (is_amount leg.burn && is_amount leg.extra && is_amount leg.minimum && is_amount leg.onboard) (are_amounts listed) filled.0
            (all_weaker (is_allowed tables leg) (λ a. is_amount a.fuel) (λ a h. (allowed_parts tables leg a h).amount) listed may.allowed);
      })

-- an alternate with which alone the leg passes its tests is allowed
leg_allows : (tables : TableRows) (before : Option Leg) (leg : Leg) (it : Alternate) → leg_fault tables before (leg_if true (it ∷ []) leg) ≡ None → is_allowed tables leg it ≡ true
leg_allows tables before leg it e =
    let is = passes_parts tables before (leg_if true (it ∷ []) leg) e in
    let airports = and_parts (has_airport tables leg.from && has_airport tables leg.to && is_takeoff_airport tables leg.takeoff_alternate) (has_airport tables it.station && true) is.airports in
    let once = or_parts (is_at leg.from leg.to || is_takeoff_at leg.from leg.takeoff_alternate || list_any (is_alternate_at leg.to) (it ∷ [])) (repeats (it ∷ [])) is.once in
    let ends = or_parts (is_at leg.from leg.to || is_takeoff_at leg.from leg.takeoff_alternate) (is_alternate_at leg.to it || false) once.0 in
    let timed = and_parts (has_moments before leg && has_minutes leg && is_takeoff_near leg.takeoff_alternate) (is_near it.minutes && true) (sym (timed_same before leg (it ∷ [])) ∙ is.timed) in
    let filled = and_parts (is_amount leg.burn && is_amount leg.extra && is_amount leg.minimum && is_amount leg.onboard) (is_amount it.fuel && true) is.filled in
    and_from (has_airport tables it.station && not (is_alternate_at leg.to it) && is_near it.minutes) (is_amount it.fuel)
    (and_from (has_airport tables it.station && not (is_alternate_at leg.to it)) (is_near it.minutes)
    (and_from (has_airport tables it.station) (not (is_alternate_at leg.to it)) (and_parts (has_airport tables it.station) true airports.1).0
    (not_from_false (is_alternate_at leg.to it) (or_parts (is_alternate_at leg.to it) false ends.1).0))
    (and_parts (is_near it.minutes) true timed.1).0)
    (and_parts (is_amount it.fuel) true filled.1).0

-- Tests of the plan

no_fault : (why : Option PlanWhy) (n : ℕ) (later : Option BadPlan) → fault_or why n later ≡ None → (why ≡ None) × (later ≡ None)
no_fault None n later e = (refl, e)
no_fault (Some why) n later e = absurd (cc)

none_or : (why : Option PlanWhy) (n : ℕ) (later : Option BadPlan) → why ≡ None → later ≡ None → fault_or why n later ≡ None
none_or None n later a b = b
none_or (Some why) n later a b = absurd (cc)

-- two legs after which the same legs pass
abbrev EndAlike : TableRows → Option Leg → Option Leg → Type 0
EndAlike tables before other = (leg : Leg) → leg_fault tables other leg ≡ leg_fault tables before leg

end_if : (tables : TableRows) (gets : Bool) (listed : List Alternate) (leg : Leg) → EndAlike tables (Some leg) (Some (leg_if gets listed leg))
end_if tables true listed leg next = refl
end_if tables false listed leg next = refl

module _ (tables : TableRows) (number : ℕ) (listed : List Alternate) where
  leg_passes_if : (before other : Option Leg) (gets : Bool) (leg : Leg) → EndAlike tables before other → leg_fault tables before leg ≡ None → (gets ≡ true → MayBeListed tables leg listed)
      → leg_fault tables other (leg_if gets listed leg) ≡ None
  leg_passes_if before other true leg alike e may = alike (leg_if true listed leg) ∙ leg_passes tables before leg listed e (may refl)
  leg_passes_if before other false leg alike e may = alike leg ∙ e

  may_here : (n : ℕ) (leg : Leg) (legs : List Leg) → IfSome (leg_numbered number n (leg ∷ legs)) (λ l. MayBeListed tables l listed) → (number == n) ≡ true → MayBeListed tables leg listed
  may_here n leg legs may is = subst (λ b. IfSome (cond b (Some leg) (leg_numbered number (n + 1) legs)) (λ l. MayBeListed tables l listed)) is may

  may_later : (b : Bool) (n : ℕ) (leg : Leg) (legs : List Leg) → (number == n) ≡ b → IfSome (cond b (Some leg) (leg_numbered number (n + 1) legs)) (λ l. MayBeListed tables l listed)
      → IfSome (leg_numbered number (n + 1) legs) (λ l. MayBeListed tables l listed)
  may_later true n leg legs is may = none_after (n + 1) legs (let same = eqb-true number n is in omega (arith, same))
    where
      none_after : (m : ℕ) (more : List Leg) → number + 1 ≤ m → IfSome (leg_numbered number m more) (λ l. MayBeListed tables l listed)
      none_after m [] after = tt
      none_after m (l ∷ more) after = subst (λ b. IfSome (cond b (Some l) (leg_numbered number (m + 1) more)) (λ k. MayBeListed tables k listed))
          (sym (let ne : number ≡ m → ⊥ = λ e. omega (arith, e, after) in ne_eqb number m ne)) (none_after (m + 1) more (omega (arith, after)))
  may_later false n leg legs is may = may

  legs_pass : (n : ℕ) (before other : Option Leg) (legs : List Leg) → EndAlike tables before other → first_fault tables n before legs ≡ None
      → IfSome (leg_numbered number n legs) (λ l. MayBeListed tables l listed) → first_fault tables n other (legs_with number n listed legs) ≡ None
  legs_pass n before other [] alike e may = refl
  legs_pass n before other (leg ∷ legs) alike e may =
      let both = no_fault (leg_fault tables before leg) n (first_fault tables (n + 1) (Some leg) legs) e in
      none_or (leg_fault tables other (leg_if (number == n) listed leg)) n (first_fault tables (n + 1) (Some (leg_if (number == n) listed leg)) (legs_with number (n + 1) listed legs))
      (leg_passes_if before other (number == n) leg alike both.0 (may_here n leg legs may))
      (legs_pass (n + 1) (Some leg) (Some (leg_if (number == n) listed leg)) legs (end_if tables (number == n) listed leg) both.1 (may_later (number == n) n leg legs refl may))

  -- the leg of the number with the alternates passes its tests, if the plan does
  allows_if : (b : Bool) (n : ℕ) (before : Option Leg) (leg at : Leg) (legs : List Leg)
      → (leg_numbered number (n + 1) legs ≡ Some at → (o : Option Leg) × (leg_fault tables o (leg_if true listed at) ≡ None))
      → leg_fault tables before (leg_if b listed leg) ≡ None → cond b (Some leg) (leg_numbered number (n + 1) legs) ≡ Some at → (o : Option Leg) × (leg_fault tables o (leg_if true listed at) ≡ None)
  allows_if true n before leg at legs later e stands = let same : leg ≡ at = grind (arith, stands) in subst (λ (l : Leg). (o : Option Leg) × (leg_fault tables o (leg_if true listed l) ≡ None)) same (before, e)
  allows_if false n before leg at legs later e stands = later stands

  legs_allow : (n : ℕ) (before : Option Leg) (legs : List Leg) (at : Leg) → first_fault tables n before (legs_with number n listed legs) ≡ None → leg_numbered number n legs ≡ Some at
      → (o : Option Leg) × (leg_fault tables o (leg_if true listed at) ≡ None)
  legs_allow n before [] at e stands = absurd (cc)
  legs_allow n before (leg ∷ legs) at e stands =
      let both = no_fault (leg_fault tables before (leg_if (number == n) listed leg)) n (first_fault tables (n + 1) (Some (leg_if (number == n) listed leg)) (legs_with number (n + 1) listed legs)) e in
      allows_if (number == n) n before leg at legs (legs_allow (n + 1) (Some (leg_if (number == n) listed leg)) legs at both.1) both.0 stands

whole_same : (tables : TableRows) (plan : Plan) (number : ℕ) (listed : List Alternate) → whole_fault tables (plan_with plan number listed) ≡ whole_fault tables plan
whole_same tables plan number listed =
    ap (λ n. cond (not (is_some (tail_named tables plan.tail))) (Some UnknownTail) (cond (not (has_captain tables plan.captain)) (Some UnknownCaptain) (cond (not (nat_le 1 n && nat_le n 8)) (Some Count) None)))
    (length_with number 1 listed plan.legs)

-- a plan that passes its tests passes them with alternates that may be listed
pub plan_passes : (tables : TableRows) (plan : Plan) (number : ℕ) (listed : List Alternate) (leg : Leg) → plan_fault tables plan ≡ None → leg_numbered number 1 plan.legs ≡ Some leg
    → MayBeListed tables leg listed → plan_fault tables (plan_with plan number listed) ≡ None
unfolding plan_fault
plan_passes tables plan number listed leg e stands may =
    let both = no_fault (whole_fault tables plan) 0 (first_fault tables 1 None plan.legs) e in
    none_or (whole_fault tables (plan_with plan number listed)) 0 (first_fault tables 1 None (legs_with number 1 listed plan.legs)) (whole_same tables plan number listed ∙ both.0)
    (legs_pass tables number listed 1 None None plan.legs (λ l. refl) both.1 (subst (λ o. IfSome o (λ l. MayBeListed tables l listed)) (sym stands) may))

plan_allows : (tables : TableRows) (plan : Plan) (number : ℕ) (it : Alternate) (leg : Leg) → leg_numbered number 1 plan.legs ≡ Some leg → plan_fault tables (plan_with plan number (it ∷ [])) ≡ None
    → is_allowed tables leg it ≡ true
unfolding plan_fault
plan_allows tables plan number it leg stands e =
    let both = no_fault (whole_fault tables (plan_with plan number (it ∷ []))) 0 (first_fault tables 1 None (legs_with number 1 (it ∷ []) plan.legs)) e in
    let one = legs_allow tables number (it ∷ []) 1 None plan.legs leg both.1 stands in
    leg_allows tables one.0 leg it one.1

alone : (tables : TableRows) (leg : Leg) (it : Alternate) → is_allowed tables leg it ≡ true → MayBeListed tables leg (it ∷ [])
alone tables leg it e = record { few = lit≤ tt; allowed = and_from (is_allowed tables leg it) true e refl; once = refl }

-- The leg of a number is one of the plan's.

pub numbered : (number first : ℕ) (legs : List Leg) → first ≤ number → number < first + length legs → (leg : Leg) × (leg_numbered number first legs ≡ Some leg)
numbered number first [] low high = absurd (omega (arith, low, high))
numbered number first (leg ∷ legs) low high =
    by (number == first) refl (λ more. numbered number (first + 1) legs more (omega (arith, high)))
  where
    by : (b : Bool) → (number == first) ≡ b → (first + 1 ≤ number → (l : Leg) × (leg_numbered number (first + 1) legs ≡ Some l))
        → (l : Leg) × (cond b (Some leg) (leg_numbered number (first + 1) legs) ≡ Some l)
    by true e later = (leg, refl)
    by false e later = later (let ne = eqb-false number first e in let other : number ≡ first → ⊥ = ne in omega (arith, low, other))

record IsWithin (number first : ℕ) (legs : List Leg) : Type 0 where
  pub low : first ≤ number
  pub high : number < first + length legs

within_by : (b : Bool) (number first : ℕ) (leg found : Leg) (legs : List Leg) → (number == first) ≡ b → (leg_numbered number (first + 1) legs ≡ Some found → IsWithin number (first + 1) legs)
    → cond b (Some leg) (leg_numbered number (first + 1) legs) ≡ Some found → IsWithin number first (leg ∷ legs)
within_by true number first leg found legs e later stands = let same = eqb-true number first e in record { low = omega (arith, same); high = omega (arith, same) }
within_by false number first leg found legs e later stands =
    let is = later stands in record { low = let low = is.low in omega (arith, low); high = let high = is.high in omega (arith, high) }

within : (number first : ℕ) (legs : List Leg) (found : Leg) → leg_numbered number first legs ≡ Some found → IsWithin number first legs
within number first [] found stands = absurd (cc)
within number first (leg ∷ legs) found stands = within_by (number == first) number first leg found legs refl (within number (first + 1) legs found) stands

-- a candidate's leg is one of the plan's, and its flight time and fuel are within the limits of a plan
pub candidate_limits : (tables : TableRows) (plan : Plan) (c : Candidate) → is_candidate tables plan c ≡ true → (c.leg ≤ length plan.legs) × (c.alternate.minutes ≤ 600) × (c.alternate.fuel ≤ 1_000_000)
candidate_limits tables plan c e = by (leg_numbered c.leg 1 plan.legs) refl e
  where
    by : (o : Option Leg) → leg_numbered c.leg 1 plan.legs ≡ o → is_allowed_on tables c.alternate o ≡ true → (c.leg ≤ length plan.legs) × (c.alternate.minutes ≤ 600) × (c.alternate.fuel ≤ 1_000_000)
    by None stands allowed = absurd (cc allowed)
    by (Some leg) stands allowed =
        let it = c.alternate in
        let high = (within c.leg 1 plan.legs leg stands).high in
        let of_plan : c.leg ≤ length plan.legs = omega (arith, high) in
        let last = and_parts (has_airport tables it.station && not (is_alternate_at leg.to it) && is_near it.minutes) (is_amount it.fuel) allowed in
        let near = and_parts (has_airport tables it.station && not (is_alternate_at leg.to it)) (is_near it.minutes) last.0 in
        let far = and_parts (nat_le 1 it.minutes) (nat_le it.minutes 600) near.1 in
        (of_plan, leb-true it.minutes 600 far.1, leb-true it.fuel 1_000_000 last.1)

-- a candidate is allowed exactly if its leg is one of the plan's and the plan passes its tests with it alone
module _ (tables : TableRows) (plan : Plan) (c : Candidate) (valid : plan_fault tables plan ≡ None) where
  passes_by_leg : (leg : Leg) → leg_numbered c.leg 1 plan.legs ≡ Some leg → is_allowed tables leg c.alternate ≡ true → PassesAlone tables plan c
  passes_by_leg leg stands allowed = record {
    first = let low = (within c.leg 1 plan.legs leg stands).low in low;
    last = let high = (within c.leg 1 plan.legs leg stands).high in omega (arith, high);
    passes = plan_passes tables plan c.leg (c.alternate ∷ []) leg valid stands (alone tables leg c.alternate allowed);
  }

  passes : (o : Option Leg) → leg_numbered c.leg 1 plan.legs ≡ o → is_allowed_on tables c.alternate o ≡ true → PassesAlone tables plan c
  passes None stands allowed = absurd (cc)
  passes (Some leg) stands allowed = passes_by_leg leg stands allowed

  allowed : PassesAlone tables plan c → is_candidate tables plan c ≡ true
  allowed is =
      let leg = numbered c.leg 1 plan.legs is.first (let last = is.last in omega (arith, last)) in
      ap (is_allowed_on tables c.alternate) leg.1 ∙ plan_allows tables plan c.leg c.alternate leg.0 leg.1 is.passes

pub passes_alone : (tables : TableRows) (plan : Plan) (c : Candidate) → plan_fault tables plan ≡ None → (is_candidate tables plan c ≡ true) ↔ PassesAlone tables plan c
passes_alone tables plan c valid = (passes tables plan c valid (leg_numbered c.leg 1 plan.legs) refl, allowed tables plan c valid)
