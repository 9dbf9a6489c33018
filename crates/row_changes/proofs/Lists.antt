-- What holds of each element, and of each two, of a list holds of what is made of them.
use Rattle.std.proofs.Common.{ℕ, suc, ◌+◌, ◌≤◌, arith, List, [], ◌∷◌, length, Option, None, Some, IfSome}
use Rattle.std.specs.List.{AllByRecursion, AllPairs, filter_map, cons_option}
use Rattle.std.proofs.lemmas.List.Kept.{AllPairs-cons}
use Rattle.std.proofs.lemmas.List.Elements.{All-from_recursion, recursion_from_All}
use Rattle.desk_io.proofs.Each.{each_weaker}

-- R of each element and each later one
abbrev pub Pairs : {A : Type 0} → (A → A → Type 0) → List A → Type 0
Pairs R [] = Unit {0}
Pairs R (x ∷ xs) = AllByRecursion (R x) xs × Pairs R xs

pub all_pairs : {A : Type 0} (R : A → A → Type 0) (xs : List A) → Pairs R xs → AllPairs R xs
all_pairs R [] pairs = λ i j d before within. absurd (omega (arith, before, within))
all_pairs R (x ∷ xs) pairs = AllPairs-cons R x xs (All-from_recursion (R x) xs pairs.0) (all_pairs R xs pairs.1)

each_option : {B : Type 0} (Q : B → Type 0) (o : Option B) (ys : List B) → IfSome o Q → AllByRecursion Q ys → AllByRecursion Q (cons_option o ys)
each_option Q None ys here all = all
each_option Q (Some y) ys here all = (here, all)

-- what holds of each, of what is made of each
pub each_mapped : {A B : Type 0} (P : A → Type 0) (Q : B → Type 0) (f : A → Option B) → ((x : A) → P x → IfSome (f x) Q) → (xs : List A) → AllByRecursion P xs → AllByRecursion Q (filter_map f xs)
each_mapped P Q f is [] all = tt
each_mapped P Q f is (x ∷ xs) all = each_option Q (f x) (filter_map f xs) (is x all.0) (each_mapped P Q f is xs all.1)

pairs_option : {B : Type 0} (S : B → B → Type 0) (o : Option B) (ys : List B) → IfSome o (λ y. AllByRecursion (S y) ys) → Pairs S ys → Pairs S (cons_option o ys)
pairs_option S None ys here pairs = pairs
pairs_option S (Some y) ys here pairs = (here, pairs)

first_mapped : {A B : Type 0} (Q : A → Type 0) (S : B → B → Type 0) (f : A → Option B) (o : Option B) (xs : List A) → ((y : A) → Q y → IfSome o (λ u. IfSome (f y) (S u))) → AllByRecursion Q xs
    → IfSome o (λ u. AllByRecursion (S u) (filter_map f xs))
first_mapped Q S f None xs is all = tt
first_mapped Q S f (Some u) xs is all = each_mapped Q (S u) f is xs all

-- what holds of each two, of what is made of them
pub pairs_mapped : {A B : Type 0} (R : A → A → Type 0) (S : B → B → Type 0) (f : A → Option B) → ((x y : A) → R x y → IfSome (f x) (λ u. IfSome (f y) (S u))) → (xs : List A) → Pairs R xs
    → Pairs S (filter_map f xs)
pairs_mapped R S f is [] pairs = tt
pairs_mapped R S f is (x ∷ xs) pairs =
    pairs_option S (f x) (filter_map f xs) (first_mapped (R x) S f (f x) xs (λ y r. is x y r) pairs.0) (pairs_mapped R S f is xs pairs.1)

one_at_most : {B : Type 0} (o : Option B) (ys : List B) (most : ℕ) → length ys ≤ most → length (cons_option o ys) ≤ most + 1
one_at_most None ys most few = omega (arith, few)
one_at_most (Some y) ys most few = omega (arith, few)

pub no_longer : {A B : Type 0} (f : A → Option B) (xs : List A) → length (filter_map f xs) ≤ length xs
no_longer f [] = omega arith
no_longer f (x ∷ xs) = let more = one_at_most (f x) (filter_map f xs) (length xs) (no_longer f xs) in omega (arith, more)

pub weaker_pairs : {A : Type 0} (R S : A → A → Type 0) → ((x y : A) → R x y → S x y) → (xs : List A) → Pairs R xs → Pairs S xs
weaker_pairs R S is [] pairs = tt
weaker_pairs R S is (x ∷ xs) pairs = (each_weaker (R x) (S x) (is x) xs pairs.0, weaker_pairs R S is xs pairs.1)

pub both : {A : Type 0} (P Q : A → Type 0) (xs : List A) → AllByRecursion P xs → AllByRecursion Q xs → AllByRecursion (λ x. P x × Q x) xs
both P Q [] one two = tt
both P Q (x ∷ xs) one two = ((one.0, two.0), both P Q xs one.1 two.1)

pub both_pairs : {A : Type 0} (R S : A → A → Type 0) (xs : List A) → Pairs R xs → Pairs S xs → Pairs (λ x y. R x y × S x y) xs
both_pairs R S [] one two = tt
both_pairs R S (x ∷ xs) one two = (both (R x) (S x) xs one.0 two.0, both_pairs R S xs one.1 two.1)

pub pairs_from : {A : Type 0} (R : A → A → Type 0) (xs : List A) → AllPairs R xs → Pairs R xs
pairs_from R [] all = tt
pairs_from R (x ∷ xs) all = (
  recursion_from_All (R x) xs (λ i d within. all 0 (suc i) d (omega arith) (omega (arith, within))),
  pairs_from R xs (λ i j d before within. all (suc i) (suc j) d (omega (arith, before)) (omega (arith, within))),
)
