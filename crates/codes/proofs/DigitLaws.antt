-- Digits are read as the numbers that they show.
use Rattle.std.proofs.Common.{◌≡◌, ◌⊎◌, inl, inr, ℕ, ◌+◌, ◌-◌, ◌*◌, ◌≤◌, ◌<◌, ◌==◌, ◌&&◌, nat_le, Bool, true, false, cond, List, [], ◌∷◌, Option, None, Some, refl, subst, arith}
use Rattle.std.proofs.lemmas.Bool.{le-leb, leb-true, and_parts, ne_eqb}
use Rattle.desk_time.specs.Digits.{digit, ◌>>=◌, or_else}
use Rattle.codes.specs.Digits.{IsDigitOf, OneOrTwoDigits, one, two}
use Rattle.codes.specs.Shapes.{number}

pub digit_of : {a n : ℕ} → IsDigitOf a n → digit a ≡ Some n
digit_of {a} {n} is =
    let shown = is.shown in
    let single = is.single in
    let low : 48 ≤ a = omega arith in
    let high : a ≤ 57 = omega arith in
    let same : a - 48 ≡ n = omega arith in
    rw (le-leb 48 a low, le-leb a 57 high, same) refl

-- what stands before the digits isn't one
pub no_digit_below : {a n : ℕ} (b : ℕ) → b < 48 → IsDigitOf a n → (a == b) ≡ false
no_digit_below {a} b below is = let shown = is.shown in ne_eqb a b (λ e. omega arith)

-- nor what stands after them, as a letter
pub no_digit_above : {a n : ℕ} (b : ℕ) → 57 < b → IsDigitOf a n → (a == b) ≡ false
no_digit_above {a} b above is = let shown = is.shown in let single = is.single in ne_eqb a b (λ e. omega arith)

pub number_of : (text : List ℕ) (n : ℕ) → OneOrTwoDigits text n → number text ≡ Some n
number_of _ _ (one a) = digit_of a
number_of _ _ (two a b) = rw (digit_of a, digit_of b) refl

-- and what is read as a number shows it

-- a step that found something follows one that did
pub found : {A B : Type 0} (o : Option A) (f : A → Option B) (y : B) → o >>= f ≡ Some y → (x : A) × (o ≡ Some x) × (f x ≡ Some y)
found None f y e = absurd cc
found (Some x) f y e = (x, refl, e)

pub found_if : {A : Type 0} (b : Bool) (o : Option A) (y : A) → cond b o None ≡ Some y → (b ≡ true) × (o ≡ Some y)
found_if true o y e = (refl, e)
found_if false o y e = absurd cc

pub found_either : {A : Type 0} (b : Bool) (o p : Option A) (y : A) → cond b o p ≡ Some y → ((b ≡ true) × (o ≡ Some y)) ⊎ ((b ≡ false) × (p ≡ Some y))
found_either true o p y e = inl (refl, e)
found_either false o p y e = inr (refl, e)

pub found_first : (o p : Option ℕ) (y : ℕ) → or_else o p ≡ Some y → (o ≡ Some y) ⊎ (p ≡ Some y)
found_first None p y e = inr e
found_first (Some x) p y e = inl e

pub digit_shown : (a n : ℕ) → digit a ≡ Some n → IsDigitOf a n
digit_shown a n e =
    let found = found_if (nat_le 48 a && nat_le a 57) (Some (a - 48)) n e in
    let both = and_parts (nat_le 48 a) (nat_le a 57) found.0 in
    let low = leb-true 48 a both.0 in
    let high = leb-true a 57 both.1 in
    let same : a - 48 ≡ n = let is = found.1 in cc in
    record { shown = omega arith; single = omega arith }

pub number_shown : (text : List ℕ) (n : ℕ) → number text ≡ Some n → OneOrTwoDigits text n
number_shown [] n e = absurd cc
number_shown (a ∷ []) n e = one (digit_shown a n e)
number_shown (a ∷ b ∷ []) n e =
    let first = found (digit a) (λ x. digit b >>= λ y. Some (10 * x + y)) n e in
    let second = found (digit b) (λ y. Some (10 * first.0 + y)) n first.2 in
    let same : 10 * first.0 + second.0 ≡ n = let is = second.2 in cc in
    subst (λ v. OneOrTwoDigits (a ∷ b ∷ []) v) same (two (digit_shown a first.0 first.1) (digit_shown b second.0 second.1))
number_shown (a ∷ b ∷ c ∷ rest) n e = absurd cc
