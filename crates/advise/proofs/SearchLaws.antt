-- The search takes a list with which nothing costs less, and of those that cost the same the first.
use Rattle.std.proofs.Common.{◌≡◌, ℕ, zero, suc, ◌+◌, ◌<◌, ◌≤◌, ◌⊎◌, inl, inr, max, Bool, true, false, cond, List, [], ◌∷◌, ◌++◌, length, Option, None, Some, refl, sym, ap, subst, ◌∙◌, lit<, ltb-true, ltb-false, arith}
use Rattle.std.specs.Prelude.{nat_lt, fold, ◌&&◌, IfSome}
use Rattle.std.specs.List.{AllByRecursion, slice_get}
use Rattle.desk_io.proofs.Each.{each_append, each_weaker}
use Rattle.advise.specs.declared.search.Verdict.{Verdict}
use Rattle.advise.specs.declared.search.Places.{Places}
use Rattle.advise.specs.declared.search.Places.TheVariants.{Empty, One, Two}
use Rattle.advise.specs.declared.search.Offer.{Offer}
use Rattle.advise.specs.Places.{IsNotAfter}
use Rattle.advise.specs.Search.{places_in, is_legal, offer_if, empties, singles, pairs_of, pairs, offers, cheaper, cheapest}

-- A list of places comes before another or is the same: it is shorter, or as long and not after it place by place.
abbrev pub Precedes : List ℕ → List ℕ → Type 0
Precedes these others = (length these < length others) ⊎ ((length these ≡ length others) × IsNotAfter these others)

abbrev Before : Offer → Offer → Type 0
Before a b = Precedes (places_in a.places) (places_in b.places)

-- the offer is as good as these places at this cost
abbrev pub IsAsGood : Offer → List ℕ → ℕ → Type 0
IsAsGood o places required = (o.required < required) ⊎ ((o.required ≡ required) × Precedes (places_in o.places) places)

abbrev Beats : Offer → Offer → Type 0
Beats a b = IsAsGood a (places_in b.places) b.required

-- each offer comes before all later ones
abbrev AreInOrder : List Offer → Type 0
AreInOrder [] = Unit {0}
AreInOrder (o ∷ rest) = AllByRecursion (Before o) rest × AreInOrder rest

-- The cheapest of a list in order

same_not_after : (places : List ℕ) → IsNotAfter places places
same_not_after [] = tt
same_not_after (a ∷ rest) = inr (refl, same_not_after rest)

-- the offer is the cheapest of a first one and others
record IsFirstOf (a : Offer) (rest : List Offer) (found : Option Offer) : Type 0 where
  pub offer : Offer
  pub is : found ≡ Some offer
  pub from : (offer ≡ a) ⊎ (offer.required < a.required)
  pub beats : AllByRecursion (Beats offer) rest

-- the next offer costs less
taken : (a o : Offer) (rest : List Offer) (found : Option Offer) → o.required < a.required → IsFirstOf o rest found → IsFirstOf a (o ∷ rest) found
taken a o rest found less one = record {
  offer = one.offer;
  is = one.is;
  from = elim one.from [
    | inl same ↦ inr (subst (λ (x : Offer). x.required < a.required) (sym same) less)
    | inr lower ↦ inr (omega (arith, lower, less))
  ];
  beats = (
    elim one.from as (λ _. Beats one.offer o) [
      | inl same ↦ subst (λ (x : Offer). Beats x o) (sym same) (inr (refl, inr (refl, same_not_after (places_in o.places))))
      | inr lower ↦ inl lower
    ],
    one.beats,
  );
}

-- the next offer costs no less
kept : (a o : Offer) (rest : List Offer) (found : Option Offer) → a.required ≤ o.required → Before a o → IsFirstOf a rest found → IsFirstOf a (o ∷ rest) found
kept a o rest found least before one = record {
  offer = one.offer;
  is = one.is;
  from = one.from;
  beats = (
    elim one.from as (λ _. Beats one.offer o) [
      | inl same ↦ subst (λ (x : Offer). Beats x o) (sym same) (by (nat_lt a.required o.required) refl)
      | inr lower ↦ inl (omega (arith, lower, least))
    ],
    one.beats,
  );
}
  where
    by : (b : Bool) → nat_lt a.required o.required ≡ b → Beats a o
    by true e = inl (ltb-true a.required o.required e)
    by false e = inr (let more = ltb-false a.required o.required e in omega (arith, more, least), before)

step : (a o : Offer) (rest : List Offer) → Before a o → IsFirstOf o rest (fold cheaper (Some o) rest) → IsFirstOf a rest (fold cheaper (Some a) rest) → (b : Bool) → nat_lt o.required a.required ≡ b
    → IsFirstOf a (o ∷ rest) (fold cheaper (cond b (Some o) (Some a)) rest)
step a o rest before one other true e = taken a o rest (fold cheaper (Some o) rest) (ltb-true o.required a.required e) one
step a o rest before one other false e = kept a o rest (fold cheaper (Some a) rest) (ltb-false o.required a.required e) before other

first_of : (a : Offer) (rest : List Offer) → AllByRecursion (Before a) rest → AreInOrder rest → IsFirstOf a rest (fold cheaper (Some a) rest)
first_of a [] before order = record { offer = a; is = refl; from = inl refl; beats = tt }
first_of a (o ∷ rest) before order =
    step a o rest before.0 (first_of o rest order.0 order.1) (first_of a rest before.1 order.1) (nat_lt o.required a.required) refl

-- Lists of offers that stand in order

order_append : (xs ys : List Offer) → AreInOrder xs → AreInOrder ys → AllByRecursion (λ x. AllByRecursion (Before x) ys) xs → AreInOrder (xs ++ ys)
order_append [] ys one two all = two
order_append (x ∷ xs) ys one two all = (each_append (Before x) xs ys one.0 all.0, order_append xs ys one.1 two all.1)

order_if : (made : Bool) (places : Places) (required : ℕ) → AreInOrder (offer_if made places required)
order_if true places required = (tt, tt)
order_if false places required = tt

each_if : (P : Offer → Type 0) (made : Bool) (places : Places) (required : ℕ) → P (record { places = places; required = required }) → AllByRecursion P (offer_if made places required)
each_if P true places required here = (here, tt)
each_if P false places required here = tt

-- the offer is of one alternate at this place or a later one
abbrev IsSingleFrom : ℕ → Places → Type 0
IsSingleFrom n Empty = ⊥
IsSingleFrom n (One a) = n ≤ a
IsSingleFrom n (Two a b) = ⊥

-- the offer is of the alternate at this place and one at the second place or later
abbrev IsPairOf : ℕ → ℕ → Places → Type 0
IsPairOf place n Empty = ⊥
IsPairOf place n (One a) = ⊥
IsPairOf place n (Two a b) = (a ≡ place) × (n ≤ b)

-- the offer is of two alternates, the first at this place or a later one
abbrev IsPairFrom : ℕ → Places → Type 0
IsPairFrom n Empty = ⊥
IsPairFrom n (One a) = ⊥
IsPairFrom n (Two a b) = n ≤ a

singles_from : (m n : ℕ) (vs : List Verdict) → m ≤ n → AllByRecursion (λ o. IsSingleFrom m o.places) (singles n vs)
singles_from m n [] h = tt
singles_from m n (v ∷ vs) h =
    each_append (λ o. IsSingleFrom m o.places) (offer_if (is_legal v) (One n) v.required) (singles (n + 1) vs)
    (each_if (λ o. IsSingleFrom m o.places) (is_legal v) (One n) v.required h) (singles_from m (n + 1) vs (omega (arith, h)))

pairs_of_of : (place m n : ℕ) (v : Verdict) (vs : List Verdict) → m ≤ n → AllByRecursion (λ o. IsPairOf place m o.places) (pairs_of place v n vs)
pairs_of_of place m n v [] h = tt
pairs_of_of place m n v (w ∷ vs) h =
    each_append (λ o. IsPairOf place m o.places) (offer_if (v.are_usable && w.are_usable) (Two place n) (max v.required w.required)) (pairs_of place v (n + 1) vs)
    (each_if (λ o. IsPairOf place m o.places) (v.are_usable && w.are_usable) (Two place n) (max v.required w.required) (refl, h))
    (pairs_of_of place m (n + 1) v vs (omega (arith, h)))

from_of : (m n k : ℕ) (places : Places) → m ≤ n → IsPairOf n k places → IsPairFrom m places
from_of m n k Empty h is = is
from_of m n k (One a) h is = is
from_of m n k (Two a b) h is = let same = is.0 in omega (arith, same, h)

pairs_from : (m n : ℕ) (vs : List Verdict) → m ≤ n → AllByRecursion (λ o. IsPairFrom m o.places) (pairs n vs)
pairs_from m n [] h = tt
pairs_from m n (v ∷ vs) h =
    each_append (λ o. IsPairFrom m o.places) (pairs_of n v (n + 1) vs) (pairs (n + 1) vs)
    (each_weaker (λ o. IsPairOf n (n + 1) o.places) (λ o. IsPairFrom m o.places) (λ o is. from_of m n (n + 1) o.places h is) (pairs_of n v (n + 1) vs)
    (pairs_of_of n (n + 1) (n + 1) v vs (omega arith)))
    (pairs_from m (n + 1) vs (omega (arith, h)))

single_before : (n : ℕ) (places : Places) → IsSingleFrom (n + 1) places → Precedes (n ∷ []) (places_in places)
single_before n Empty is = absurd is
single_before n (One a) is = inr (refl, inl (omega (arith, is)))
single_before n (Two a b) is = absurd is

pair_before : (place n : ℕ) (places : Places) → IsPairOf place (n + 1) places → Precedes (place ∷ n ∷ []) (places_in places)
pair_before place n Empty is = absurd is
pair_before place n (One a) is = absurd is
pair_before place n (Two a b) is = inr (refl, inr (sym is.0, inl (let later = is.1 in omega (arith, later))))

pairs_before : (n k : ℕ) (of others : Places) → IsPairOf n k of → IsPairFrom (n + 1) others → Precedes (places_in of) (places_in others)
pairs_before n k Empty others is later = absurd is
pairs_before n k (One a) others is later = absurd is
pairs_before n k (Two a b) Empty is later = absurd later
pairs_before n k (Two a b) (One d) is later = absurd later
pairs_before n k (Two a b) (Two d e) is later = inr (refl, inl (let same = is.0 in omega (arith, same, later)))

singles_in_order : (n : ℕ) (vs : List Verdict) → AreInOrder (singles n vs)
singles_in_order n [] = tt
singles_in_order n (v ∷ vs) =
    order_append (offer_if (is_legal v) (One n) v.required) (singles (n + 1) vs) (order_if (is_legal v) (One n) v.required) (singles_in_order (n + 1) vs)
    (each_if (λ x. AllByRecursion (Before x) (singles (n + 1) vs)) (is_legal v) (One n) v.required
    (each_weaker (λ o. IsSingleFrom (n + 1) o.places) (λ o. Precedes (n ∷ []) (places_in o.places)) (λ o is. single_before n o.places is) (singles (n + 1) vs)
    (singles_from (n + 1) (n + 1) vs (omega arith))))

pairs_of_in_order : (place n : ℕ) (v : Verdict) (vs : List Verdict) → AreInOrder (pairs_of place v n vs)
pairs_of_in_order place n v [] = tt
pairs_of_in_order place n v (w ∷ vs) =
    order_append (offer_if (v.are_usable && w.are_usable) (Two place n) (max v.required w.required)) (pairs_of place v (n + 1) vs)
    (order_if (v.are_usable && w.are_usable) (Two place n) (max v.required w.required)) (pairs_of_in_order place (n + 1) v vs)
    (each_if (λ x. AllByRecursion (Before x) (pairs_of place v (n + 1) vs)) (v.are_usable && w.are_usable) (Two place n) (max v.required w.required)
    (each_weaker (λ o. IsPairOf place (n + 1) o.places) (λ o. Precedes (place ∷ n ∷ []) (places_in o.places)) (λ o is. pair_before place n o.places is) (pairs_of place v (n + 1) vs)
    (pairs_of_of place (n + 1) (n + 1) v vs (omega arith))))

pairs_in_order : (n : ℕ) (vs : List Verdict) → AreInOrder (pairs n vs)
pairs_in_order n [] = tt
pairs_in_order n (v ∷ vs) =
    order_append (pairs_of n v (n + 1) vs) (pairs (n + 1) vs) (pairs_of_in_order n (n + 1) v vs) (pairs_in_order (n + 1) vs)
    (each_weaker (λ o. IsPairOf n (n + 1) o.places) (λ x. AllByRecursion (Before x) (pairs (n + 1) vs))
    (λ x of. each_weaker (λ o. IsPairFrom (n + 1) o.places) (Before x) (λ o later. pairs_before n (n + 1) x.places o.places of later) (pairs (n + 1) vs) (pairs_from (n + 1) (n + 1) vs (omega arith)))
    (pairs_of n v (n + 1) vs) (pairs_of_of n (n + 1) (n + 1) v vs (omega arith)))

-- a list of no alternate comes before one of one, and both before one of two

empty_before : (places : Places) → IsSingleFrom 0 places → Precedes [] (places_in places)
empty_before Empty is = absurd is
empty_before (One a) is = inl (lit< tt)
empty_before (Two a b) is = absurd is

abbrev IsShort : Places → Type 0
IsShort Empty = Unit {0}
IsShort (One a) = Unit {0}
IsShort (Two a b) = ⊥

single_is_short : (n : ℕ) (places : Places) → IsSingleFrom n places → IsShort places
single_is_short n Empty is = tt
single_is_short n (One a) is = tt
single_is_short n (Two a b) is = is

short_before : (of others : Places) → IsShort of → IsPairFrom 0 others → Precedes (places_in of) (places_in others)
short_before of Empty is pair = absurd pair
short_before of (One a) is pair = absurd pair
short_before Empty (Two a b) is pair = inl (lit< tt)
short_before (One d) (Two a b) is pair = inl (lit< tt)
short_before (Two d e) (Two a b) is pair = absurd is

offers_in_order : (empty : Verdict) (alone : List Verdict) → AreInOrder (offers empty alone)
offers_in_order empty alone =
    order_append (empties empty ++ singles 0 alone) (pairs 0 alone)
    (order_append (empties empty) (singles 0 alone) (order_if (is_legal empty) Empty empty.required) (singles_in_order 0 alone)
    (each_if (λ x. AllByRecursion (Before x) (singles 0 alone)) (is_legal empty) Empty empty.required
    (each_weaker (λ o. IsSingleFrom 0 o.places) (λ o. Precedes [] (places_in o.places)) (λ o is. empty_before o.places is) (singles 0 alone) (singles_from 0 0 alone (omega arith)))))
    (pairs_in_order 0 alone)
    (each_append (λ x. AllByRecursion (Before x) (pairs 0 alone)) (empties empty) (singles 0 alone)
    (each_if (λ x. AllByRecursion (Before x) (pairs 0 alone)) (is_legal empty) Empty empty.required (before_pairs Empty tt))
    (each_weaker (λ o. IsSingleFrom 0 o.places) (λ x. AllByRecursion (Before x) (pairs 0 alone)) (λ x is. before_pairs x.places (single_is_short 0 x.places is)) (singles 0 alone)
    (singles_from 0 0 alone (omega arith))))
  where
    before_pairs : (of : Places) → IsShort of → AllByRecursion (λ o. Precedes (places_in of) (places_in o.places)) (pairs 0 alone)
    before_pairs of is = each_weaker (λ o. IsPairFrom 0 o.places) (λ o. Precedes (places_in of) (places_in o.places)) (λ o pair. short_before of o.places is pair) (pairs 0 alone) (pairs_from 0 0 alone (omega arith))

-- What the search finds

-- nothing if nothing is offered, else an offer that is as good as each
abbrev pub IsCheapest : List Offer → Option Offer → Type 0
IsCheapest os None = os ≡ []
IsCheapest os (Some o) = AllByRecursion (Beats o) os

cheapest_in : (os : List Offer) → AreInOrder os → IsCheapest os (cheapest os)
cheapest_in [] order = refl
cheapest_in (o ∷ os) order =
    let one = first_of o os order.0 order.1 in
    subst (IsCheapest (o ∷ os)) (sym one.is) (
      elim one.from as (λ _. Beats one.offer o) [
        | inl same ↦ subst (λ (x : Offer). Beats x o) (sym same) (inr (refl, inr (refl, same_not_after (places_in o.places))))
        | inr lower ↦ inl lower
      ],
      one.beats,
    )

-- what is found has what each offer has
first_has : (P : Offer → Type 0) (a : Offer) (os : List Offer) → P a → AllByRecursion P os → IfSome (fold cheaper (Some a) os) P
first_has P a [] here all = here
first_has P a (o ∷ os) here all = by (nat_lt o.required a.required) (first_has P o os all.0 all.1) (first_has P a os here all.1)
  where
    by : (b : Bool) → IfSome (fold cheaper (Some o) os) P → IfSome (fold cheaper (Some a) os) P → IfSome (fold cheaper (cond b (Some o) (Some a)) os) P
    by true one other = one
    by false one other = other

pub cheapest_has : (P : Offer → Type 0) (os : List Offer) → AllByRecursion P os → IfSome (cheapest os) P
cheapest_has P [] all = tt
cheapest_has P (o ∷ os) all = first_has P o os all.0 all.1

-- what holds of each offer holds of those that are made

last_part : (P : Offer → Type 0) (xs ys : List Offer) → AllByRecursion P (xs ++ ys) → AllByRecursion P ys
last_part P [] ys all = all
last_part P (x ∷ xs) ys all = last_part P xs ys all.1

first_part : (P : Offer → Type 0) (xs ys : List Offer) → AllByRecursion P (xs ++ ys) → AllByRecursion P xs
first_part P [] ys all = tt
first_part P (x ∷ xs) ys all = (all.0, first_part P xs ys all.1)

made_if : (P : Offer → Type 0) (made : Bool) (places : Places) (required : ℕ) → made ≡ true → AllByRecursion P (offer_if made places required) → P (record { places = places; required = required })
made_if P true places required e all = all.0
made_if P false places required e all = absurd (cc)

single_made : (P : Offer → Type 0) (n : ℕ) (vs : List Verdict) (k : ℕ) (v : Verdict) → AllByRecursion P (singles n vs) → slice_get vs k ≡ Some v → is_legal v ≡ true
    → P (record { places = One (n + k); required = v.required })
single_made P n [] k v all at legal = absurd (cc)
single_made P n (w ∷ vs) zero v all at legal =
    let same : w ≡ v = grind (arith, at) in
    subst (λ (m : ℕ). P (record { places = One m; required = v.required })) (omega arith)
    (subst (λ (x : Verdict). P (record { places = One n; required = x.required })) same
    (made_if P (is_legal w) (One n) w.required (ap is_legal same ∙ legal) (first_part P (offer_if (is_legal w) (One n) w.required) (singles (n + 1) vs) all)))
single_made P n (w ∷ vs) (suc k) v all at legal =
    subst (λ (m : ℕ). P (record { places = One m; required = v.required })) (omega arith)
    (single_made P (n + 1) vs k v (last_part P (offer_if (is_legal w) (One n) w.required) (singles (n + 1) vs) all) at legal)

pair_of_made : (P : Offer → Type 0) (place n : ℕ) (v : Verdict) (vs : List Verdict) (k : ℕ) (w : Verdict) → AllByRecursion P (pairs_of place v n vs) → slice_get vs k ≡ Some w
    → (v.are_usable && w.are_usable) ≡ true → P (record { places = Two place (n + k); required = max v.required w.required })
pair_of_made P place n v [] k w all at usable = absurd (cc)
pair_of_made P place n v (x ∷ vs) zero w all at usable =
    let same : x ≡ w = grind (arith, at) in
    subst (λ (m : ℕ). P (record { places = Two place m; required = max v.required w.required })) (omega arith)
    (subst (λ (y : Verdict). P (record { places = Two place n; required = max v.required y.required })) same
    (made_if P (v.are_usable && x.are_usable) (Two place n) (max v.required x.required) (ap (λ (y : Verdict). v.are_usable && y.are_usable) same ∙ usable)
    (first_part P (offer_if (v.are_usable && x.are_usable) (Two place n) (max v.required x.required)) (pairs_of place v (n + 1) vs) all)))
pair_of_made P place n v (x ∷ vs) (suc k) w all at usable =
    subst (λ (m : ℕ). P (record { places = Two place m; required = max v.required w.required })) (omega arith)
    (pair_of_made P place (n + 1) v vs k w (last_part P (offer_if (v.are_usable && x.are_usable) (Two place n) (max v.required x.required)) (pairs_of place v (n + 1) vs) all) at usable)

pair_made : (P : Offer → Type 0) (n : ℕ) (vs : List Verdict) (j k : ℕ) (v w : Verdict) → AllByRecursion P (pairs n vs) → j < k → slice_get vs j ≡ Some v → slice_get vs k ≡ Some w
    → (v.are_usable && w.are_usable) ≡ true → P (record { places = Two (n + j) (n + k); required = max v.required w.required })
pair_made P n [] j k v w all less at and usable = absurd (cc)
pair_made P n (x ∷ vs) j zero v w all less at and usable = absurd (omega (arith, less))
pair_made P n (x ∷ vs) zero (suc k) v w all less at and usable =
    let same : x ≡ v = grind (arith, at) in
    subst (λ (m : ℕ). P (record { places = Two m (n + suc k); required = max v.required w.required })) (omega arith)
    (subst (λ (m : ℕ). P (record { places = Two n m; required = max v.required w.required })) (omega arith)
    (subst (λ (y : Verdict). P (record { places = Two n (n + 1 + k); required = max y.required w.required })) same
    (pair_of_made P n (n + 1) x vs k w (first_part P (pairs_of n x (n + 1) vs) (pairs (n + 1) vs) all) and (ap (λ (y : Verdict). y.are_usable && w.are_usable) same ∙ usable))))
pair_made P n (x ∷ vs) (suc j) (suc k) v w all less at and usable =
    subst (λ (m : ℕ). P (record { places = Two m (n + suc k); required = max v.required w.required })) (omega arith)
    (subst (λ (m : ℕ). P (record { places = Two (n + 1 + j) m; required = max v.required w.required })) (omega arith)
    (pair_made P (n + 1) vs j k v w (last_part P (pairs_of n x (n + 1) vs) (pairs (n + 1) vs) all) (omega (arith, less)) at and usable))

-- what holds of each list that is made holds of each offer

when : (made : Bool) (places : Places) (required : ℕ) (P : Offer → Type 0) → (made ≡ true → P (record { places = places; required = required })) → AllByRecursion P (offer_if made places required)
when true places required P f = (f refl, tt)
when false places required P f = tt

singles_all : (P : Offer → Type 0) (n : ℕ) (vs : List Verdict) → ((k : ℕ) (v : Verdict) → slice_get vs k ≡ Some v → is_legal v ≡ true → P (record { places = One (n + k); required = v.required }))
    → AllByRecursion P (singles n vs)
singles_all P n [] f = tt
singles_all P n (v ∷ vs) f =
    each_append P (offer_if (is_legal v) (One n) v.required) (singles (n + 1) vs)
    (when (is_legal v) (One n) v.required P (λ e. subst (λ (m : ℕ). P (record { places = One m; required = v.required })) (omega arith) (f 0 v refl e)))
    (singles_all P (n + 1) vs (λ k w at legal. subst (λ (m : ℕ). P (record { places = One m; required = w.required })) (omega arith) (f (suc k) w at legal)))

pairs_of_all : (P : Offer → Type 0) (place n : ℕ) (v : Verdict) (vs : List Verdict)
    → ((k : ℕ) (w : Verdict) → slice_get vs k ≡ Some w → (v.are_usable && w.are_usable) ≡ true → P (record { places = Two place (n + k); required = max v.required w.required }))
    → AllByRecursion P (pairs_of place v n vs)
pairs_of_all P place n v [] f = tt
pairs_of_all P place n v (w ∷ vs) f =
    each_append P (offer_if (v.are_usable && w.are_usable) (Two place n) (max v.required w.required)) (pairs_of place v (n + 1) vs)
    (when (v.are_usable && w.are_usable) (Two place n) (max v.required w.required) P
    (λ e. subst (λ (m : ℕ). P (record { places = Two place m; required = max v.required w.required })) (omega arith) (f 0 w refl e)))
    (pairs_of_all P place (n + 1) v vs (λ k x at usable. subst (λ (m : ℕ). P (record { places = Two place m; required = max v.required x.required })) (omega arith) (f (suc k) x at usable)))

pairs_all : (P : Offer → Type 0) (n : ℕ) (vs : List Verdict)
    → ((j k : ℕ) (v w : Verdict) → j < k → slice_get vs j ≡ Some v → slice_get vs k ≡ Some w → (v.are_usable && w.are_usable) ≡ true → P (record { places = Two (n + j) (n + k); required = max v.required w.required }))
    → AllByRecursion P (pairs n vs)
pairs_all P n [] f = tt
pairs_all P n (v ∷ vs) f =
    each_append P (pairs_of n v (n + 1) vs) (pairs (n + 1) vs)
    (pairs_of_all P n (n + 1) v vs (λ k w at usable.
    subst (λ (m : ℕ). P (record { places = Two m (n + 1 + k); required = max v.required w.required })) (omega arith)
    (subst (λ (m : ℕ). P (record { places = Two (n + 0) m; required = max v.required w.required })) (omega arith) (f 0 (suc k) v w (omega arith) refl at usable))))
    (pairs_all P (n + 1) vs (λ j k w x less at and usable.
    subst (λ (m : ℕ). P (record { places = Two m (n + 1 + k); required = max w.required x.required })) (omega arith)
    (subst (λ (m : ℕ). P (record { places = Two (n + suc j) m; required = max w.required x.required })) (omega arith) (f (suc j) (suc k) w x (omega (arith, less)) at and usable))))

-- The lists that are made, as one record: P holds of each of them

pub record HoldsOfEach (P : Offer → Type 0) (empty : Verdict) (alone : List Verdict) : Type 0 where
  pub none : is_legal empty ≡ true → P (record { places = Empty; required = empty.required })
  pub one : (k : ℕ) (v : Verdict) → slice_get alone k ≡ Some v → is_legal v ≡ true → P (record { places = One k; required = v.required })
  pub two : (j k : ℕ) (v w : Verdict) → j < k → slice_get alone j ≡ Some v → slice_get alone k ≡ Some w → (v.are_usable && w.are_usable) ≡ true
      → P (record { places = Two j k; required = max v.required w.required })

each_of_offers : (P : Offer → Type 0) (empty : Verdict) (alone : List Verdict) → HoldsOfEach P empty alone → AllByRecursion P (offers empty alone)
each_of_offers P empty alone has =
    each_append P (empties empty ++ singles 0 alone) (pairs 0 alone)
    (each_append P (empties empty) (singles 0 alone) (when (is_legal empty) Empty empty.required P has.none)
    (singles_all P 0 alone (λ k v at legal. subst (λ (m : ℕ). P (record { places = One m; required = v.required })) (omega arith) (has.one k v at legal))))
    (pairs_all P 0 alone (λ j k v w less at and usable.
    subst (λ (m : ℕ). P (record { places = Two m (0 + k); required = max v.required w.required })) (omega arith)
    (subst (λ (m : ℕ). P (record { places = Two j m; required = max v.required w.required })) (omega arith) (has.two j k v w less at and usable))))

offers_have : (P : Offer → Type 0) (empty : Verdict) (alone : List Verdict) → AllByRecursion P (offers empty alone) → HoldsOfEach P empty alone
offers_have P empty alone all =
    let short = first_part P (empties empty ++ singles 0 alone) (pairs 0 alone) all in
    record {
      none = λ e. made_if P (is_legal empty) Empty empty.required e (first_part P (empties empty) (singles 0 alone) short);
      one = λ k v at legal. subst (λ (m : ℕ). P (record { places = One m; required = v.required })) (omega arith) (single_made P 0 alone k v (last_part P (empties empty) (singles 0 alone) short) at legal);
      two = λ j k v w less at and usable.
          subst (λ (m : ℕ). P (record { places = Two m k; required = max v.required w.required })) (omega arith)
          (subst (λ (m : ℕ). P (record { places = Two (0 + j) m; required = max v.required w.required })) (omega arith)
          (pair_made P 0 alone j k v w (last_part P (empties empty ++ singles 0 alone) (pairs 0 alone) all) less at and usable));
    }

-- what is found has what each list that is made has
pub found_has : (P : Offer → Type 0) (empty : Verdict) (alone : List Verdict) → HoldsOfEach P empty alone → IfSome (cheapest (offers empty alone)) P
found_has P empty alone has = cheapest_has P (offers empty alone) (each_of_offers P empty alone has)

-- nothing is found if no list is made, and else an offer that is as good as each
abbrev pub IsFound : Verdict → List Verdict → Option Offer → Type 0
IsFound empty alone None = HoldsOfEach (λ o. ⊥) empty alone
IsFound empty alone (Some o) = HoldsOfEach (λ other. IsAsGood o (places_in other.places) other.required) empty alone

pub is_found : (empty : Verdict) (alone : List Verdict) → IsFound empty alone (cheapest (offers empty alone))
is_found empty alone = by (cheapest (offers empty alone)) (cheapest_in (offers empty alone) (offers_in_order empty alone))
  where
    by : (o : Option Offer) → IsCheapest (offers empty alone) o → IsFound empty alone o
    by None none = offers_have (λ o. ⊥) empty alone (subst (AllByRecursion (λ o. ⊥)) (sym none) tt)
    by (Some o) all = offers_have (Beats o) empty alone all
