-- Tests and what they tell.
use Rattle.std.proofs.Common.{◌≡◌, ◌⊎◌, inl, inr, ℕ, ◌<◌, ◌≤◌, Bool, true, false, not, ◌&&◌, ◌||◌, List, [], ◌∷◌, Option, None, Some, refl, sym, ◌∙◌, arith}
use Rattle.std.specs.Prelude.{nat_le, nat_lt, is_none, Any}
use Rattle.std.specs.List.{All, list_any}
use Rattle.std.proofs.lemmas.Bool.{leb-true, le-leb, ltb-true, ltb-false, lt-ltb}
use Rattle.std.proofs.lemmas.List.Elements.{All-nil, All-cons, All-head, All-tail}
use Rattle.std.proofs.lemmas.List.Folds.{Any-from_list_any, list_any-from_Any}

-- a test tells a property: it holds where the test is true, and doesn't where it is false
abbrev pub Tells : Bool → Type 0 → Type 0
Tells true P = P
Tells false P = P → ⊥

pub tells_by : (b : Bool) (P : Type 0) → (b ≡ true → P) → (P → b ≡ true) → Tells b P
tells_by true P there back = there refl
tells_by false P there back = λ p. let e : false ≡ true = back p in absurd (cc)

pub told : (b : Bool) (P : Type 0) → Tells b P → b ≡ true → P
told true P tells e = tells
told false P tells e = absurd (cc)

pub tested : (b : Bool) (P : Type 0) → Tells b P → P → b ≡ true
tested true P tells p = refl
tested false P tells p = absurd (tells p)

-- a test that is false where the property holds
pub refuted : (b : Bool) (P : Type 0) → Tells (not b) P → P → b ≡ false
refuted true P tells p = absurd (tells p)
refuted false P tells p = refl

pub told_not : (b : Bool) (P : Type 0) → Tells (not b) P → b ≡ false → P
told_not true P tells e = absurd (cc)
told_not false P tells e = tells

-- the same property in other words
pub tells_same : (b : Bool) (P Q : Type 0) → (P → Q) → (Q → P) → Tells b P → Tells b Q
tells_same true P Q there back tells = there tells
tells_same false P Q there back tells = λ q. tells (back q)

pub tells_not : (b : Bool) (P : Type 0) → Tells b P → Tells (not b) (P → ⊥)
tells_not true P tells = λ never. never tells
tells_not false P tells = tells

pub tells_again : (b : Bool) (P : Type 0) → Tells b P → Tells (not (not b)) P
tells_again true P tells = tells
tells_again false P tells = tells

pub tells_and : (a b : Bool) (P Q : Type 0) → Tells a P → Tells b Q → Tells (a && b) (P × Q)
tells_and true true P Q p q = (p, q)
tells_and true false P Q p q = λ both. q both.1
tells_and false b P Q p q = λ both. p both.0

-- neither of two
pub tells_neither : (a b : Bool) (P Q : Type 0) → Tells (not a) P → Tells (not b) Q → Tells (not (a || b)) (P × Q)
tells_neither true b P Q p q = λ both. p both.0
tells_neither false true P Q p q = λ both. q both.1
tells_neither false false P Q p q = (p, q)

-- not both of two
pub tells_not_both : (a b : Bool) (P Q : Type 0) → Tells (not a) P → Tells (not b) Q → Tells (not (a && b)) (P ⊎ Q)
tells_not_both true true P Q p q = λ one. elim one [
  | inl x ↦ p x
  | inr y ↦ q y
]
tells_not_both true false P Q p q = inr q
tells_not_both false b P Q p q = inl p

-- where the first holds the second doesn't
pub tells_unless : (a b : Bool) (P Q : Type 0) → Tells a P → Tells (not b) Q → Tells (not (a && b)) (P → Q)
tells_unless true true P Q p q = λ f. q (f p)
tells_unless true false P Q p q = λ x. q
tells_unless false b P Q p q = λ x. absurd (p x)

pub tells_unless_both : (a b d : Bool) (P Q R : Type 0) → Tells a P → Tells b Q → Tells (not d) R → Tells (not (a && b && d)) (P → Q → R)
tells_unless_both a b d P Q R p q r =
    tells_same (not (a && b && d)) (P × Q → R) (P → Q → R) (λ f x y. f (x, y)) (λ f both. f both.0 both.1)
    (tells_unless (a && b) d (P × Q) R (tells_and a b P Q p q) r)

pub tells_le : (a b : ℕ) → Tells (nat_le a b) (a ≤ b)
tells_le a b = tells_by (nat_le a b) (a ≤ b) (leb-true a b) (le-leb a b)

pub tells_lt : (a b : ℕ) → Tells (nat_lt a b) (a < b)
tells_lt a b = tells_by (nat_lt a b) (a < b) (ltb-true a b) (lt-ltb a b)

not_less_by : (b : Bool) (x y : ℕ) → nat_lt x y ≡ b → Tells (not b) (y ≤ x)
not_less_by true x y e = λ h. let less = ltb-true x y e in omega (arith, less, h)
not_less_by false x y e = let h = ltb-false x y e in omega (arith, h)

pub tells_not_less : (x y : ℕ) → Tells (not (nat_lt x y)) (y ≤ x)
tells_not_less x y = not_less_by (nat_lt x y) x y refl

not_within_by : (b : Bool) (x y : ℕ) → nat_le x y ≡ b → Tells (not b) (y < x)
not_within_by true x y e = λ h. let within = leb-true x y e in omega (arith, within, h)
not_within_by false x y e =
    elim (nat_lt y x) as (λ t. nat_lt y x ≡ t → y < x) [
      | true ↦ λ t. ltb-true y x t
      | false ↦ λ t. let h = ltb-false y x t in let w = le-leb x y (omega (arith, h)) in absurd (let f : false ≡ true = sym e ∙ w in cc)
    ] refl

pub tells_not_within : (x y : ℕ) → Tells (not (nat_le x y)) (y < x)
tells_not_within x y = not_within_by (nat_le x y) x y refl

-- a test is its own property
pub tells_true : (b : Bool) → Tells b (b ≡ true)
tells_true true = refl
tells_true false = λ e. absurd (cc)

pub tells_false : (b : Bool) → Tells (not b) (b ≡ false)
tells_false true = λ e. absurd (cc)
tells_false false = refl

pub tells_none : {A : Type 0} (o : Option A) → Tells (is_none o) (o ≡ None)
tells_none None = refl
tells_none (Some a) = λ e. absurd (cc)

any_weaker : {A : Type 0} (P Q : A → Type 0) → ((a : A) → P a → Q a) → (xs : List A) → Any P xs → Any Q xs
any_weaker P Q f xs any = (any.0, any.1, any.2, any.3, f any.1 any.4)

-- some of a list
pub tells_any : {A : Type 0} (p : A → Bool) (P : A → Type 0) → ((a : A) → Tells (p a) (P a)) → (xs : List A) → Tells (list_any p xs) (Any P xs)
tells_any p P tells xs =
    tells_by (list_any p xs) (Any P xs)
    (λ e. any_weaker (λ a. p a ≡ true) P (λ a is. told (p a) (P a) (tells a) is) xs (Any-from_list_any p xs e))
    (λ any. list_any-from_Any p xs (any_weaker P (λ a. p a ≡ true) (λ a is. tested (p a) (P a) (tells a) is) xs any))

-- none of a list, and so each of it
pub tells_each : {A : Type 0} (p : A → Bool) (P : A → Type 0) → ((a : A) → Tells (not (p a)) (P a)) → (xs : List A) → Tells (not (list_any p xs)) (All P xs)
tells_each p P tells [] = All-nil P
tells_each p P tells (a ∷ xs) =
    tells_same (not (p a || list_any p xs)) (P a × All P xs) (All P (a ∷ xs))
    (λ both. All-cons P a xs both.0 both.1) (λ all. (All-head P a xs all, All-tail P a xs all))
    (tells_neither (p a) (list_any p xs) (P a) (All P xs) (tells a) (tells_each p P tells xs))
