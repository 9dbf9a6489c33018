-- Lists of numbers that rise, and what holds of each of two lists holds of both together.
use Rattle.std.proofs.Common.{◌≡◌, ℕ, zero, suc, ◌+◌, ◌<◌, ◌≤◌, Bool, true, false, List, [], ◌∷◌, ◌++◌, length, get_or, refl, arith}
use Rattle.std.specs.Prelude.{map}
use Rattle.std.specs.List.{AllByRecursion}
use Rattle.deferrals.specs.declared.items.Deferral.{Deferral}
use Rattle.deferrals.specs.Held.{AreRising}
use Rattle.rules.specs.DestinationAlternates.{place_if, places_from}
use Rattle.desk_io.proofs.Each.{each_append, each_weaker}

-- each number is below all later ones
abbrev pub Rises : List ℕ → Type 0
Rises [] = Unit {0}
Rises (x ∷ xs) = AllByRecursion (λ y. x < y) xs × Rises xs

rises_append : (xs ys : List ℕ) → Rises xs → Rises ys → AllByRecursion (λ x. AllByRecursion (λ y. x < y) ys) xs → Rises (xs ++ ys)
rises_append [] ys one two less = two
rises_append (x ∷ xs) ys one two less = (each_append (λ y. x < y) xs ys one.0 less.0, rises_append xs ys one.1 two less.1)

pub place_rises : (fails : Bool) (place : ℕ) → Rises (place_if fails place)
place_rises true place = (tt, tt)
place_rises false place = tt

place_is : (fails : Bool) (place : ℕ) → AllByRecursion (λ x. x ≡ place) (place_if fails place)
place_is true place = (refl, tt)
place_is false place = tt

-- the places of a list are from the first number on, and there are no more than items
abbrev IsFrom : ℕ → ℕ → ℕ → Type 0
IsFrom n count x = (n ≤ x) × (x < n + count)

places_are : {A : Type 0} (fails : A → Bool) (n : ℕ) (xs : List A) → AllByRecursion (IsFrom n (length xs)) (places_from fails n xs)
places_are fails n [] = tt
places_are fails n (a ∷ xs) =
    each_append (IsFrom n (length (a ∷ xs))) (place_if (fails a) n) (places_from fails (n + 1) xs)
    (each_weaker (λ x. x ≡ n) (IsFrom n (length (a ∷ xs))) (λ x is. (omega (arith, is), omega (arith, is))) (place_if (fails a) n) (place_is (fails a) n))
    (each_weaker (IsFrom (n + 1) (length xs)) (IsFrom n (length (a ∷ xs))) (λ x is. (omega (arith, is.0), omega (arith, is.1))) (places_from fails (n + 1) xs) (places_are fails (n + 1) xs))

pub places_rise : {A : Type 0} (fails : A → Bool) (n : ℕ) (xs : List A) → Rises (places_from fails n xs)
places_rise fails n [] = tt
places_rise fails n (a ∷ xs) =
    rises_append (place_if (fails a) n) (places_from fails (n + 1) xs) (place_rises (fails a) n) (places_rise fails (n + 1) xs)
    (each_weaker (λ x. x ≡ n) (λ x. AllByRecursion (λ y. x < y) (places_from fails (n + 1) xs))
    (λ x is. each_weaker (IsFrom (n + 1) (length xs)) (λ y. x < y) (λ y from. omega (arith, is, from.0)) (places_from fails (n + 1) xs) (places_are fails (n + 1) xs))
    (place_if (fails a) n) (place_is (fails a) n))

-- a destination, alternates and a takeoff alternate, where there are at most eight alternates
pub all_places_rise : {A : Type 0} (first last : Bool) (fails : A → Bool) (xs : List A) → length xs ≤ 8
    → Rises (place_if first 0 ++ places_from fails 1 xs ++ place_if last 9)
all_places_rise first last fails xs few =
    rises_append (place_if first 0 ++ places_from fails 1 xs) (place_if last 9)
    (rises_append (place_if first 0) (places_from fails 1 xs) (place_rises first 0) (places_rise fails 1 xs)
    (each_weaker (λ x. x ≡ 0) (λ x. AllByRecursion (λ y. x < y) (places_from fails 1 xs))
    (λ x is. each_weaker (IsFrom 1 (length xs)) (λ y. x < y) (λ y from. omega (arith, is, from.0)) (places_from fails 1 xs) (places_are fails 1 xs))
    (place_if first 0) (place_is first 0)))
    (place_rises last 9)
    (each_weaker (λ x. x < 9) (λ x. AllByRecursion (λ y. x < y) (place_if last 9))
    (λ x less. each_weaker (λ y. y ≡ 9) (λ y. x < y) (λ y is. omega (arith, is, less)) (place_if last 9) (place_is last 9))
    (place_if first 0 ++ places_from fails 1 xs)
    (each_append (λ x. x < 9) (place_if first 0) (places_from fails 1 xs)
    (each_weaker (λ x. x ≡ 0) (λ x. x < 9) (λ x is. omega (arith, is)) (place_if first 0) (place_is first 0))
    (each_weaker (IsFrom 1 (length xs)) (λ x. x < 9) (λ x from. omega (arith, from.1, few)) (places_from fails 1 xs) (places_are fails 1 xs))))

rest_rising : (d : Deferral) (list : List Deferral) → AreRising (d ∷ list) → AreRising list
rest_rising d list rising = λ i j e less within. rising (suc i) (suc j) e (omega (arith, less)) (omega (arith, within))

ids_above : (id : ℕ) (list : List Deferral) → ((k : ℕ) (e : Deferral) → k < length list → id < (get_or list k e).id) → AllByRecursion (λ y. id < y) (map (λ d. d.id) list)
ids_above id [] above = tt
ids_above id (d ∷ list) above = (above zero d (omega arith), ids_above id list (λ k e within. above (suc k) e (omega (arith, within))))

-- the ids of deferrals that rise
pub ids_rise : (list : List Deferral) → AreRising list → Rises (map (λ d. d.id) list)
ids_rise [] rising = tt
ids_rise (d ∷ list) rising = (ids_above d.id list (λ k e within. rising zero (suc k) e (omega arith) (omega (arith, within))), ids_rise list (rest_rising d list rising))
