-- Tests of lists, and what one of two tests tells.
use Rattle.std.proofs.Common.{◌≡◌, refl, sym, ap, subst, ◌∙◌, Bool, true, false, ◌&&◌, ◌||◌, cond, List, [], ◌∷◌, filter, Some, find, unwrap_or}
use Rattle.std.specs.List.{list_any, AllByRecursion}

pub or_left : (b c : Bool) → b ≡ true → (b || c) ≡ true
or_left true c is = refl
or_left false c is = absurd cc

pub or_right : (b c : Bool) → c ≡ true → (b || c) ≡ true
or_right true c is = refl
or_right false c is = is

pub or_cases : (b c : Bool) (P : Type 0) → (b ≡ true → P) → (c ≡ true → P) → (b || c) ≡ true → P
or_cases true c P one two is = one refl
or_cases false c P one two is = two is

pub or_three : (a b c : Bool) → ((a || b) || c) ≡ (a || (b || c))
or_three true b c = refl
or_three false b c = refl

pub or_swap : (a b c : Bool) → (a || (b || c)) ≡ (b || (a || c))
or_swap true true c = refl
or_swap true false c = refl
or_swap false b c = refl

pub both_true : (b c : Bool) → b ≡ true → c ≡ true → (b && c) ≡ true
both_true true c one two = two
both_true false c one two = absurd cc

pub alike : (s t : Bool) → (s ≡ true → t ≡ true) → (t ≡ true → s ≡ true) → s ≡ t
alike true t one two = sym (one refl)
alike false true one two = two refl
alike false false one two = refl

-- a test that tells what isn't so
pub not_so : (b c : Bool) → (b ≡ true → c ≡ true) → c ≡ false → b ≡ false
not_so true c tells is = absurd (let so = tells refl in cc)
not_so false c tells is = refl

module _ {A : Type 0} where
  pub any_some : (p : A → Bool) (xs : List A) → list_any p xs ≡ true → (x : A) × (p x ≡ true)
  any_some p [] is = absurd cc
  any_some p (x ∷ xs) is = by (p x) refl is (any_some p xs)
    where
      by : (b : Bool) → p x ≡ b → (b || list_any p xs) ≡ true → (list_any p xs ≡ true → (y : A) × (p y ≡ true)) → (y : A) × (p y ≡ true)
      by true e is rest = (x, e)
      by false e is rest = rest is

  pub any_weaker : (p q : A → Bool) → ((x : A) → p x ≡ true → q x ≡ true) → (xs : List A) → list_any p xs ≡ true → list_any q xs ≡ true
  any_weaker p q weaker [] is = is
  any_weaker p q weaker (x ∷ xs) is = by (p x) refl is (any_weaker p q weaker xs)
    where
      by : (b : Bool) → p x ≡ b → (b || list_any p xs) ≡ true → (list_any p xs ≡ true → list_any q xs ≡ true) → (q x || list_any q xs) ≡ true
      by true e is rest = or_left (q x) (list_any q xs) (weaker x e)
      by false e is rest = or_right (q x) (list_any q xs) (rest is)

  pub any_filter : (w p : A → Bool) (xs : List A) → list_any p (filter w xs) ≡ list_any (λ x. w x && p x) xs
  any_filter w p [] = refl
  any_filter w p (x ∷ xs) = by (w x) (any_filter w p xs)
    where
      by : (b : Bool) → list_any p (filter w xs) ≡ list_any (λ y. w y && p y) xs → list_any p (cond b (x ∷ filter w xs) (filter w xs)) ≡ ((b && p x) || list_any (λ y. w y && p y) xs)
      by true rest = ap (λ b. p x || b) rest
      by false rest = rest

  -- what is found passes the test
  pub found_passes : (p : A → Bool) (xs : List A) (x : A) → find p xs ≡ Some x → p x ≡ true
  found_passes p [] x is = absurd cc
  found_passes p (y ∷ xs) x is = by (p y) refl is (found_passes p xs x)
    where
      by : (b : Bool) → p y ≡ b → cond b (Some y) (find p xs) ≡ Some x → (find p xs ≡ Some x → p x ≡ true) → p x ≡ true
      by true e is rest = ap p (sym (ap (λ o. unwrap_or o y) is)) ∙ e
      by false e is rest = rest is

  -- and is one of the list
  pub found_each : (P : A → Type 0) (p : A → Bool) (xs : List A) (x : A) → AllByRecursion P xs → find p xs ≡ Some x → P x
  found_each P p [] x all is = absurd cc
  found_each P p (y ∷ xs) x all is = by (p y) is (found_each P p xs x all.1)
    where
      by : (b : Bool) → cond b (Some y) (find p xs) ≡ Some x → (find p xs ≡ Some x → P x) → P x
      by true is rest = subst P (ap (λ o. unwrap_or o y) is) all.0
      by false is rest = rest is

  pub found_any : (p h : A → Bool) (xs : List A) (x : A) → find p xs ≡ Some x → h x ≡ true → list_any h xs ≡ true
  found_any p h [] x is passes = absurd cc
  found_any p h (y ∷ xs) x is passes = by (p y) is (λ more. found_any p h xs x more passes)
    where
      by : (b : Bool) → cond b (Some y) (find p xs) ≡ Some x → (find p xs ≡ Some x → list_any h xs ≡ true) → (h y || list_any h xs) ≡ true
      by true is rest = or_left (h y) (list_any h xs) (ap h (ap (λ o. unwrap_or o y) is) ∙ passes)
      by false is rest = or_right (h y) (list_any h xs) (rest is)
