-- What each pair of minima stands for is among the airport's rows, and gives the pair.
use Rattle.std.proofs.Common.{◌≡◌, ℕ, suc, ◌+◌, Bool, true, false, not, cond, List, [], ◌∷◌, ◌++◌, map, Some, refl, ap, sym, subst, ◌∙◌, arith}
use Rattle.std.specs.Prelude.{filter, nat_lt, Any}
use Rattle.std.specs.List.{AllByRecursion, slice_get}
use Rattle.std.specs.Str.{bytes_eq}
use Rattle.std.proofs.lemmas.Bool.{not-true, and_parts, ltb-true, ltb-false}
use Rattle.std.proofs.lemmas.List.Folds.{Any-from_list_any, list_any-from_Any}
use Rattle.std.proofs.lemmas.Slice.Eq.{bytes_eq-Decides}
use Rattle.desk_io.specs.Station.{Station}
use Rattle.desk_io.specs.declared.pair.Pair.{Pair}
use Rattle.ops_tables.specs.Names.{has_name}
use Rattle.ops_tables.specs.Tables.{approaches_of, alternates_of}
use Rattle.ops_tables.specs.declared.rows.AlternateRow.{AlternateRow}
use Rattle.ops_tables.specs.declared.rows.Approach.{Approach}
use Rattle.ops_tables.specs.declared.rows.TypeRow.{TypeRow}
use Rattle.airport_minima.specs.Flown.{CanFly}
use Rattle.airport_minima.specs.Minima.{is_usable, minima_of, single_addend, double_addend, single, double, are_apart, doubles_with, doubles, own_minima, own_or, landing, alternate_pairs}
use Rattle.airport_minima.specs.Minima as minima
use Rattle.airport_minima.specs.Raised.{raised_to, raised_by, each_raised, raised}
use Rattle.rules.specs.Circumstances.{Case, landing_at, alternate_at, arrival_minima, has_few_hours}
use Rattle.sheet.specs.declared.lines.AlternateOrigin.{AlternateOrigin}
use Rattle.sheet.specs.declared.lines.AlternateOrigin.TheVariants.{Row, Two}
use Rattle.sheet.specs.declared.lines.Origin.{Origin}
use Rattle.sheet.specs.Origins as spec
use Rattle.sheet.specs.Origins.{IsFlownRow, IsAlternateFrom, by_row, by_one, by_two, IsLandingFrom, by_approach, IsListedFrom, as_alternate, IsRaisedFrom, freely, up_to, EachFrom, AreLandingFrom, AreListedFrom, AreArrivalFrom, Flown, flown_from, flown}

-- the type can fly a usable approach
any_weaker : {A : Type 0} (P Q : A → Type 0) → ((a : A) → P a → Q a) → (xs : List A) → Any P xs → Any Q xs
any_weaker P Q f xs any = (any.0, any.1, any.2, any.3, f any.1 any.4)

among : (names : List (List ℕ)) (name : List ℕ) → has_name names name ≡ true → Any (λ n. n ≡ name) names
among names name e = any_weaker (λ n. bytes_eq n name ≡ true) (λ n. n ≡ name) (λ n is. (bytes_eq-Decides n name).0 is) names (Any-from_list_any (λ n. bytes_eq n name) names e)

found : (names : List (List ℕ)) (name : List ℕ) → Any (λ n. n ≡ name) names → has_name names name ≡ true
found names name any = list_any-from_Any (λ n. bytes_eq n name) names (any_weaker (λ n. n ≡ name) (λ n. bytes_eq n name ≡ true) (λ n is. (bytes_eq-Decides n name).1 is) names any)

can_fly : (kind : TypeRow) (lost : List (List ℕ)) (a : Approach) → is_usable kind lost a ≡ true → CanFly kind lost a
can_fly kind lost a e =
    let both = and_parts (has_name kind.capabilities a.capability) (not (has_name lost a.capability)) e in
    let unlost = not-true (has_name lost a.capability) both.1 in
    record { has = among kind.capabilities a.capability both.0; keeps = λ any. let is = found lost a.capability any in absurd (cc) }

-- the runways differ
apart : (first second : Approach) → are_apart first second ≡ true → first.runway ≡ second.runway → ⊥
apart first second e same =
    let t : bytes_eq second.runway first.runway ≡ true = (bytes_eq-Decides second.runway first.runway).1 (sym same) in
    absurd (let clash : false ≡ true = sym (ap not t) ∙ e in cc)

abbrev at_row : ℕ → Approach → Flown
at_row n a = record { row = n; approach = a }

abbrev approaches : List Flown → List Approach
approaches fs = map (λ (f : Flown). f.approach) fs

-- the approaches in their order
flown_by : (b : Bool) (f : Flown) (fs : List Flown) (xs : List Approach) → approaches fs ≡ xs → approaches (cond b (f ∷ fs) fs) ≡ cond b (f.approach ∷ xs) xs
flown_by true f fs xs is = ap (λ xs. f.approach ∷ xs) is
flown_by false f fs xs is = is

flown_are : (can : Approach → Bool) (n : ℕ) (xs : List Approach) → approaches (flown_from can n xs) ≡ filter can xs
flown_are can n [] = refl
flown_are can n (a ∷ xs) = flown_by (can a) (at_row n a) (flown_from can (n + 1) xs) (filter can xs) (flown_are can (n + 1) xs)

-- two lists of minima with their origins
from_append : {O : Type 0} (Of : Pair → O → Type 0) (ps qs : List Pair) (os us : List O) → EachFrom Of ps os → EachFrom Of qs us → EachFrom Of (ps ++ qs) (os ++ us)
from_append Of [] qs [] us one two = two
from_append Of [] qs (o ∷ os) us one two = absurd one
from_append Of (p ∷ ps) qs [] us one two = absurd one
from_append Of (p ∷ ps) qs (o ∷ os) us one two = (one.0, from_append Of ps qs os us one.1 two)

module _ (c : Case) (station : Station) where
  abbrev IsFlown : Flown → Type 0
  IsFlown f = IsFlownRow c station f.row f.approach

  abbrev all : List Approach
  all = approaches_of c.grounds.tables station

  abbrev can : Approach → Bool
  can a = is_usable c.aircraft c.limits.lost a

  rows_by : (b : Bool) (n k : ℕ) (a : Approach) (fs : List Flown) → can a ≡ b → n ≡ 1 + k → slice_get all k ≡ Some a → AllByRecursion IsFlown fs
      → AllByRecursion IsFlown (cond b (at_row n a ∷ fs) fs)
  rows_by true n k a fs e number at rest = (record { place = k; numbered = number; stands = at; can_fly = can_fly c.aircraft c.limits.lost a e }, rest)
  rows_by false n k a fs e number at rest = rest

  rows_are : (n k : ℕ) (xs : List Approach) → n ≡ 1 + k → ((i : ℕ) (a : Approach) → slice_get xs i ≡ Some a → slice_get all (k + i) ≡ Some a) → AllByRecursion IsFlown (flown_from can n xs)
  rows_are n k [] number each = tt
  rows_are n k (a ∷ xs) number each =
      let here : k + 0 ≡ k = omega arith in
      rows_by (can a) n k a (flown_from can (n + 1) xs) refl number (subst (λ i. slice_get all i ≡ Some a) here (each 0 a refl))
      (rows_are (n + 1) (k + 1) xs (omega (arith, number)) (λ i b is. let later : k + suc i ≡ (k + 1) + i = omega arith in subst (λ j. slice_get all j ≡ Some b) later (each (suc i) b is)))

  all_flown : AllByRecursion IsFlown (flown c station)
  all_flown = rows_are 1 0 all refl (λ i a is. let same : i ≡ 0 + i = omega arith in subst (λ j. slice_get all j ≡ Some a) same is)

  -- Landing minima

  landing_from : (fs : List Flown) → AllByRecursion IsFlown fs → AreLandingFrom c station (map (λ a. minima_of a) (approaches fs)) (spec.of_landing fs)
  landing_from [] each = tt
  landing_from (f ∷ fs) each = (by_approach f.row f.approach each.0 (record { ceiling = refl; visibility = refl }), landing_from fs each.1)

  landing_is : landing_at c station ≡ map (λ a. minima_of a) (approaches (flown c station))
  unfolding landing
  landing_is = ap (λ xs. map (λ a. minima_of a) xs) (sym (flown_are can 1 all))

  pub landing_origins_are : AreLandingFrom c station (landing_at c station) (spec.landing_origins c station)
  landing_origins_are = subst (λ ps. AreLandingFrom c station ps (spec.landing_origins c station)) (sym landing_is) (landing_from (flown c station) all_flown)

  -- Alternate minima

  abbrev Alternates : List Pair → List AlternateOrigin → Type 0
  Alternates ps os = EachFrom (IsAlternateFrom c station) ps os

  module _ (none : alternates_of c.grounds.tables station ≡ []) where
    abbrev one_more : Pair
    one_more = single_addend c.grounds.tables.settings

    abbrev two_more : Pair
    two_more = double_addend c.grounds.tables.settings

    ones_from : (fs : List Flown) → AllByRecursion IsFlown fs → Alternates (map (λ a. single one_more a) (approaches fs)) (spec.ones fs)
    ones_from [] each = tt
    ones_from (f ∷ fs) each = (by_one f.row f.approach none each.0 (record { ceiling = refl; visibility = refl }), ones_from fs each.1)

    two_by : (b : Bool) (f s : Flown) (xs : List Approach) (fs : List Flown) → are_apart f.approach s.approach ≡ b → IsFlown f → IsFlown s
        → Alternates (map (λ a. double two_more f.approach a) xs) (map (λ (t : Flown). Two f.row t.row) fs)
        → Alternates (map (λ a. double two_more f.approach a) (cond b (s.approach ∷ xs) xs)) (map (λ (t : Flown). Two f.row t.row) (cond b (s ∷ fs) fs))
    two_by true f s xs fs e first second rest =
        (by_two f.row s.row f.approach s.approach none first second (record { apart = apart f.approach s.approach e; ceiling = refl; visibility = refl }), rest)
    two_by false f s xs fs e first second rest = rest

    twos_with_from : (f : Flown) (later : List Flown) → IsFlown f → AllByRecursion IsFlown later → Alternates (doubles_with two_more f.approach (approaches later)) (spec.twos_with f later)
    twos_with_from f [] first each = tt
    twos_with_from f (s ∷ later) first each =
        two_by (are_apart f.approach s.approach) f s (filter (λ a. are_apart f.approach a) (approaches later)) (filter (λ (t : Flown). are_apart f.approach t.approach) later) refl first each.0
        (twos_with_from f later first each.1)

    twos_from : (fs : List Flown) → AllByRecursion IsFlown fs → Alternates (doubles two_more (approaches fs)) (spec.twos fs)
    twos_from [] each = tt
    twos_from (f ∷ fs) each =
        from_append (IsAlternateFrom c station) (doubles_with two_more f.approach (approaches fs)) (doubles two_more (approaches fs)) (spec.twos_with f fs) (spec.twos fs)
        (twos_with_from f fs each.0 each.1) (twos_from fs each.1)

    derived_from : Alternates (minima.derived c.grounds.tables.settings (approaches (flown c station))) (spec.derived (flown c station))
    derived_from =
        from_append (IsAlternateFrom c station) (map (λ a. single one_more a) (approaches (flown c station))) (doubles two_more (approaches (flown c station)))
        (spec.ones (flown c station)) (spec.twos (flown c station)) (ones_from (flown c station) all_flown) (twos_from (flown c station) all_flown)

  own_from : (n k : ℕ) (rows : List AlternateRow) → n ≡ 1 + k → ((i : ℕ) (r : AlternateRow) → slice_get rows i ≡ Some r → slice_get (alternates_of c.grounds.tables station) (k + i) ≡ Some r)
      → Alternates (map (λ r. own_minima r) rows) (spec.of_rows n rows)
  own_from n k [] number each = tt
  own_from n k (r ∷ rows) number each =
      let here : k + 0 ≡ k = omega arith in (
        subst (λ m. IsAlternateFrom c station (own_minima r) (Row m)) (sym number)
            (by_row k r (subst (λ i. slice_get (alternates_of c.grounds.tables station) i ≡ Some r) here (each 0 r refl)) refl refl),
        own_from (n + 1) (k + 1) rows (omega (arith, number))
            (λ i q is. let later : k + suc i ≡ (k + 1) + i = omega arith in subst (λ j. slice_get (alternates_of c.grounds.tables station) j ≡ Some q) later (each (suc i) q is)),
      )

  alternates_by : (rows : List AlternateRow) → alternates_of c.grounds.tables station ≡ rows
      → Alternates (own_or rows (minima.derived c.grounds.tables.settings (approaches (flown c station)))) (spec.rows_or rows (spec.derived (flown c station)))
  alternates_by [] is = derived_from is
  alternates_by (r ∷ rows) is =
      own_from 1 0 (r ∷ rows) refl
      (λ i q found. let same : i ≡ 0 + i = omega arith in subst (λ j. slice_get (alternates_of c.grounds.tables station) j ≡ Some q) same (subst (λ rs. slice_get rs i ≡ Some q) (sym is) found))

  alternate_is : alternate_at c station ≡ own_or (alternates_of c.grounds.tables station) (minima.derived c.grounds.tables.settings (approaches (flown c station)))
  unfolding alternate_pairs
  alternate_is = ap (λ xs. own_or (alternates_of c.grounds.tables station) (minima.derived c.grounds.tables.settings xs)) (sym (flown_are can 1 all))

  alternates_are : Alternates (alternate_at c station) (spec.alternates c station)
  alternates_are = subst (λ ps. Alternates ps (spec.alternates c station)) (sym alternate_is) (alternates_by (alternates_of c.grounds.tables station) refl)

  wrapped_from : (ps : List Pair) (os : List AlternateOrigin) → Alternates ps os → AreListedFrom c station ps (spec.wrapped os)
  wrapped_from [] [] each = tt
  wrapped_from [] (o ∷ os) each = absurd each
  wrapped_from (p ∷ ps) [] each = absurd each
  wrapped_from (p ∷ ps) (o ∷ os) each = (as_alternate o each.0, wrapped_from ps os each.1)

  pub alternate_origins_are : AreListedFrom c station (alternate_at c station) (spec.alternate_origins c station)
  alternate_origins_are = wrapped_from (alternate_at c station) (spec.alternates c station) alternates_are

  -- Raised minima

  abbrev AllRaised : List Pair → List Origin → Type 0
  AllRaised ps os = EachFrom (IsRaisedFrom c station) ps os

  each_limit : (f : Flown) → IsFlown f → (xs : List Pair) (limits : List AlternateOrigin) → Alternates xs limits
      → AllRaised (map (λ a. raised_to (minima_of f.approach) a) xs) (map (spec.raised_to f.row) limits)
  each_limit f flown [] [] each = tt
  each_limit f flown [] (o ∷ os) each = absurd each
  each_limit f flown (a ∷ xs) [] each = absurd each
  each_limit f flown (a ∷ xs) (o ∷ os) each = (
    up_to f.row (minima_of f.approach) a o (by_approach f.row f.approach flown (record { ceiling = refl; visibility = refl })) each.0 (record { ceiling = refl; visibility = refl }),
    each_limit f flown xs os each.1,
  )

  raised_one : (f : Flown) → IsFlown f → (xs : List Pair) (limits : List AlternateOrigin) → alternate_at c station ≡ xs → Alternates xs limits → AllRaised (raised_by xs (minima_of f.approach)) (spec.raised_by limits f.row)
  raised_one f flown [] [] is each = (freely f.row (minima_of f.approach) (by_approach f.row f.approach flown (record { ceiling = refl; visibility = refl })) is (record { ceiling = refl; visibility = refl }), tt)
  raised_one f flown [] (o ∷ os) is each = absurd each
  raised_one f flown (a ∷ xs) [] is each = absurd each
  raised_one f flown (a ∷ xs) (o ∷ os) is each = each_limit f flown (a ∷ xs) (o ∷ os) each

  raised_from : (fs : List Flown) → AllByRecursion IsFlown fs → AllRaised (each_raised (map (λ a. minima_of a) (approaches fs)) (alternate_at c station)) (spec.of_raised (spec.alternates c station) fs)
  raised_from [] each = tt
  raised_from (f ∷ fs) each =
      from_append (IsRaisedFrom c station) (raised_by (alternate_at c station) (minima_of f.approach)) (each_raised (map (λ a. minima_of a) (approaches fs)) (alternate_at c station))
      (spec.raised_by (spec.alternates c station) f.row) (spec.of_raised (spec.alternates c station) fs)
      (raised_one f each.0 (alternate_at c station) (spec.alternates c station) refl alternates_are) (raised_from fs each.1)

  raised_are : AllRaised (raised (landing_at c station) (alternate_at c station)) (spec.raised_origins c station)
  unfolding raised
  raised_are =
      subst (λ ps. AllRaised (each_raised ps (alternate_at c station)) (spec.raised_origins c station)) (sym landing_is) (raised_from (flown c station) all_flown)

  -- by the captain's hours
  arrival_by : (few : Bool) → nat_lt c.hours 100 ≡ few
      → AreArrivalFrom c station (cond few (raised (landing_at c station) (alternate_at c station)) (landing_at c station)) (cond few (spec.raised_origins c station) (spec.landing_origins c station))
  arrival_by true e = record {
    experienced = λ many. absurd (let few = ltb-true c.hours 100 e in omega (arith, many, few));
    few_hours = λ few. raised_are;
  }
  arrival_by false e = record {
    experienced = λ many. landing_origins_are;
    few_hours = λ few. absurd (let many = ltb-false c.hours 100 e in omega (arith, many, few));
  }

  pub arrival_origins_are : AreArrivalFrom c station (arrival_minima c station) (spec.arrival_origins c station)
  arrival_origins_are = arrival_by (has_few_hours c) refl
