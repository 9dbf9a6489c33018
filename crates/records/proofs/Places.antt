-- The first place at which a test is met.
use Rattle.std.proofs.Common.{◌≡◌, refl, ap, ◌∙◌, subst, ℕ, zero, suc, ◌+◌, ◌<◌, ◌≤◌, Bool, true, false, ◌||◌, cond, List, [], ◌∷◌, ◌++◌, length, take, get_or, map, Some, None, arith}
use Rattle.std.specs.List.{list_any, position_from}
use Rattle.std.specs.Option.{unwrap_or}

-- of a list that is made of another one
pub place_through : {A B : Type 0} (test : B → Bool) (f : A → B) (n : ℕ) (xs : List A) → position_from test n (map f xs) ≡ position_from (λ x. test (f x)) n xs
place_through test f n [] = refl
place_through test f n (x ∷ xs) = ap (λ o. cond (test (f x)) (Some n) o) (place_through test f (n + 1) xs)

-- before the first place the test fails
pub clear_before : {A : Type 0} (test : A → Bool) (n p : ℕ) (xs : List A) → ((at : ℕ) → position_from test n xs ≡ Some at → n + p ≤ at) → list_any test (take p xs) ≡ false
clear_before test n zero xs below = refl
clear_before test n (suc p) [] below = refl
clear_before test n (suc p) (x ∷ xs) below = by (test x) below (λ later. clear_before test (n + 1) p xs later)
  where
    by : (b : Bool) → ((at : ℕ) → cond b (Some n) (position_from test (n + 1) xs) ≡ Some at → n + suc p ≤ at)
        → (((at : ℕ) → position_from test (n + 1) xs ≡ Some at → n + 1 + p ≤ at) → list_any test (take p xs) ≡ false) → b || list_any test (take p xs) ≡ false
    by true below rest = absurd (let least = below n refl in omega arith)
    by false below rest = rest (λ at is. let least = below at is in omega arith)

-- a test that fails at each of some elements has no place
pub nowhere : {A : Type 0} (test : A → Bool) (n : ℕ) (xs : List A) → list_any test xs ≡ false → position_from test n xs ≡ None
nowhere test n [] e = refl
nowhere test n (x ∷ xs) e = by (test x) e (nowhere test (n + 1) xs)
  where
    by : (b : Bool) → b || list_any test xs ≡ false → (list_any test xs ≡ false → position_from test (n + 1) xs ≡ None) → cond b (Some n) (position_from test (n + 1) xs) ≡ None
    by true e rest = absurd cc
    by false e rest = rest e

-- a test that fails before an element and is met there has its place, in each front that has the element
pub found_at : {A : Type 0} (test : A → Bool) (n i end : ℕ) (xs : List A) (x : A) → list_any test (take i xs) ≡ false → i < end → end ≤ length xs → x ≡ get_or xs i x → test x ≡ true
    → position_from test n (take end xs) ≡ Some (n + i)
found_at test n i end [] x clear before within there met = absurd (omega arith)
found_at test n i zero (y ∷ xs) x clear before within there met = absurd (omega arith)
found_at test n zero (suc end) (y ∷ xs) x clear before within there met =
    let e : n ≡ n + 0 = omega arith in
    rw (subst (λ z. test z ≡ true) there met) (ap Some e)
found_at test n (suc i) (suc end) (y ∷ xs) x clear before within there met = by (test y) clear (λ e. found_at test (n + 1) i end xs x e (omega arith) (omega arith) there met)
  where
    by : (b : Bool) → b || list_any test (take i xs) ≡ false → (list_any test (take i xs) ≡ false → position_from test (n + 1) (take end xs) ≡ Some (n + 1 + i))
        → cond b (Some n) (position_from test (n + 1) (take end xs)) ≡ Some (n + suc i)
    by true e rest = absurd cc
    by false e rest = rest e ∙ ap Some (let same : n + 1 + i ≡ n + suc i = omega arith in same)

-- two tests that fail, and a third that is met only where one of them is
pub neither : {A : Type 0} (one two test : A → Bool) (xs : List A) → ((x : A) → test x ≡ true → one x || two x ≡ true) → list_any one xs ≡ false → list_any two xs ≡ false → list_any test xs ≡ false
neither one two test [] covers e f = refl
neither one two test (x ∷ xs) covers e f = by (one x) (two x) (test x) (covers x) e f (neither one two test xs covers)
  where
    by : (a b c : Bool) → (c ≡ true → a || b ≡ true) → a || list_any one xs ≡ false → b || list_any two xs ≡ false
        → (list_any one xs ≡ false → list_any two xs ≡ false → list_any test xs ≡ false) → c || list_any test xs ≡ false
    by true b c covered e f rest = absurd cc
    by false true c covered e f rest = absurd cc
    by false false true covered e f rest = absurd (let h = covered refl in cc)
    by false false false covered e f rest = rest e f

-- one more element has the place where the test had none
pub place_push : {A : Type 0} (test : A → Bool) (n : ℕ) (xs : List A) (x : A)
    → position_from test n (xs ++ x ∷ []) ≡ cond (test x) (Some (unwrap_or (position_from test n xs) (n + length xs))) (position_from test n xs)
place_push test n [] x = ap (λ m. cond (test x) (Some m) None) (let e : n ≡ n + 0 = omega arith in e)
place_push test n (y ∷ xs) x = by (test y) (test x) (place_push test (n + 1) xs x)
  where
    by : (b c : Bool) → position_from test (n + 1) (xs ++ x ∷ []) ≡ cond c (Some (unwrap_or (position_from test (n + 1) xs) (n + 1 + length xs))) (position_from test (n + 1) xs)
        → cond b (Some n) (position_from test (n + 1) (xs ++ x ∷ [])) ≡ cond c (Some (unwrap_or (cond b (Some n) (position_from test (n + 1) xs)) (n + suc (length xs)))) (cond b (Some n) (position_from test (n + 1) xs))
    by true true rest = refl
    by true false rest = refl
    by false c rest = rest ∙ ap (λ m. cond c (Some (unwrap_or (position_from test (n + 1) xs) m)) (position_from test (n + 1) xs)) (let e : n + 1 + length xs ≡ n + suc (length xs) = omega arith in e)
