-- Texts that are put together of pieces come apart in one way.
use Rattle.std.proofs.Common.{◌≡◌, ℕ, ◌^◌, ◌<◌, true, false, not, ◌==◌, List, [], ◌∷◌, ◌++◌, take, drop, Some, decimal, refl, sym, ap, ◌∙◌, arith, append_assoc}
use Rattle.std.specs.List.{list_all}
use Rattle.std.proofs.lemmas.Bool.{and_parts}
use Rattle.std.proofs.lemmas.Bool.Decides.{nat_tests}
use Rattle.std.proofs.lemmas.Fmt.{decimal_injective, digits_decimal}
use Rattle.std.proofs.lemmas.List.{append_cancel_left}
use Rattle.desk_time.specs.Moments.{shown, minute_of}
use Rattle.desk_time.specs.Numbers.{is_digit}
use Rattle.desk_time.proofs.MomentLaws.{minute_again}
use Rattle.desk_time.proofs.NumberLaws.{own}
use Rattle.desk_time.specs.Limits.{IsMoment}
use Rattle.release_text.specs.Legible.{IsNumber, is_free}

differs : (b sign : ℕ) → not (b == sign) ≡ true → b ≡ sign → ⊥
differs b sign other same = absurd (grind (arith, nat_tests, other, same))

-- two texts that end before the same sign
pub apart : (sign : ℕ) (xs ys rest more : List ℕ) → is_free sign xs ≡ true → is_free sign ys ≡ true
    → xs ++ sign ∷ rest ≡ ys ++ sign ∷ more → (xs ≡ ys) × (rest ≡ more)
apart sign [] [] rest more f g e = (refl, cc)
apart sign [] (y ∷ ys) rest more f g e =
    let same : y ≡ sign = cc in
    absurd (differs y sign ((and_parts (not (y == sign)) (is_free sign ys) g).0) same)
apart sign (x ∷ xs) [] rest more f g e =
    let same : x ≡ sign = cc in
    absurd (differs x sign ((and_parts (not (x == sign)) (is_free sign xs) f).0) same)
apart sign (x ∷ xs) (y ∷ ys) rest more f g e =
    let first : x ≡ y = cc in
    let after : xs ++ sign ∷ rest ≡ ys ++ sign ∷ more = cc in
    let both = apart sign xs ys rest more ((and_parts (not (x == sign)) (is_free sign xs) f).1) ((and_parts (not (y == sign)) (is_free sign ys) g).1) after in
    ((λ i. first i ∷ both.0 i), both.1)

-- texts that begin with different signs
pub firsts_differ : (a b : ℕ) (xs ys : List ℕ) → (a == b) ≡ false → a ∷ xs ≡ b ∷ ys → ⊥
firsts_differ a b xs ys other e = let same : a ≡ b = cc in absurd (grind (arith, nat_tests, other, same))

-- two texts, one at the end of its line and one before a blank
never : (xs ys rest more : List ℕ) → is_free 32 xs ≡ true → is_free 10 ys ≡ true → xs ++ 10 ∷ rest ≡ ys ++ 32 ∷ more → ⊥
never [] [] rest more f g e = firsts_differ 10 32 rest more refl e
never [] (y ∷ ys) rest more f g e =
    let same : y ≡ 10 = cc in
    differs y 10 ((and_parts (not (y == 10)) (is_free 10 ys) g).0) same
never (x ∷ xs) [] rest more f g e =
    let same : x ≡ 32 = cc in
    differs x 32 ((and_parts (not (x == 32)) (is_free 32 xs) f).0) same
never (x ∷ xs) (y ∷ ys) rest more f g e =
    let after : xs ++ 10 ∷ rest ≡ ys ++ 32 ∷ more = cc in
    never xs ys rest more ((and_parts (not (x == 32)) (is_free 32 xs) f).1) ((and_parts (not (y == 10)) (is_free 10 ys) g).1) after

-- ---- numbers and moments

no_digit : (d sign : ℕ) → is_digit d ≡ true → is_digit sign ≡ false → not (d == sign) ≡ true
no_digit d sign one other = grind (arith, nat_tests, one, other)

digits_free : (sign : ℕ) (ds : List ℕ) → is_digit sign ≡ false → list_all is_digit ds ≡ true → is_free sign ds ≡ true
digits_free sign [] other all = refl
digits_free sign (d ∷ ds) other all =
    let parts = and_parts (is_digit d) (list_all is_digit ds) all in
    rw (no_digit d sign parts.0 other) (digits_free sign ds other parts.1)

-- digits have no other sign among them
pub decimal_free : (sign n : ℕ) → is_digit sign ≡ false → n < 2 ^ 64 → is_free sign (decimal n) ≡ true
decimal_free sign n other small = digits_free sign (decimal n) other (digits_decimal own n small)

found_again : (a b : ℕ) → IsMoment a → IsMoment b → shown a ≡ shown b → a ≡ b
found_again a b f g e =
    let both : Some a ≡ Some b = sym (minute_again a f.0 f.1) ∙ ap minute_of e ∙ minute_again b g.0 g.1 in
    cc

moments_apart : (a b : ℕ) (rest more : List ℕ) → IsMoment a → IsMoment b → shown a ++ rest ≡ shown b ++ more → (a ≡ b) × (rest ≡ more)
moments_apart a b rest more f g e = (found_again a b f g (ap (take 17) e), ap (drop 17) e)

-- ---- pieces of a line

opened : (lead x after rest : List ℕ) → (lead ++ (x ++ after)) ++ rest ≡ lead ++ (x ++ (after ++ rest))
opened lead x after rest = append_assoc lead (x ++ after) rest ∙ ap (λ t. lead ++ t) (append_assoc x after rest)

-- two pieces before the rest, of each text
pub split : (a b c d rest more : List ℕ) → (a ++ b) ++ rest ≡ (c ++ d) ++ more → a ++ (b ++ rest) ≡ c ++ (d ++ more)
split a b c d rest more e = sym (append_assoc a b rest) ∙ e ∙ append_assoc c d more

-- what follows the same words
unled : (lead x y after behind rest more : List ℕ) → (lead ++ (x ++ after)) ++ rest ≡ (lead ++ (y ++ behind)) ++ more
    → x ++ (after ++ rest) ≡ y ++ (behind ++ more)
unled lead x y after behind rest more e =
    append_cancel_left lead _ _ (sym (opened lead x after rest) ∙ e ∙ opened lead y behind more)

-- the same text after the same words
pub alike : (lead x after behind rest more : List ℕ) → (lead ++ (x ++ after)) ++ rest ≡ (lead ++ (x ++ behind)) ++ more
    → after ++ rest ≡ behind ++ more
alike lead x after behind rest more e = append_cancel_left x _ _ (unled lead x x after behind rest more e)

-- a text that ends before a sign
pub texts : (lead : List ℕ) (sign : ℕ) (x y after behind rest more : List ℕ) → is_free sign x ≡ true → is_free sign y ≡ true
    → (lead ++ (x ++ (sign ∷ after))) ++ rest ≡ (lead ++ (y ++ (sign ∷ behind))) ++ more → (x ≡ y) × (after ++ rest ≡ behind ++ more)
texts lead sign x y after behind rest more f g e =
    apart sign x y (after ++ rest) (behind ++ more) f g (unled lead x y (sign ∷ after) (sign ∷ behind) rest more e)

numbers_of : (sign m n : ℕ) (rest more : List ℕ) → is_digit sign ≡ false → IsNumber m → IsNumber n
    → decimal m ++ sign ∷ rest ≡ decimal n ++ sign ∷ more → (m ≡ n) × (rest ≡ more)
numbers_of sign m n rest more other f g e =
    let both = apart sign (decimal m) (decimal n) rest more (decimal_free sign m other f) (decimal_free sign n other g) e in
    (decimal_injective m n f g both.0, both.1)

-- a number that ends before a sign
pub numbers : (lead : List ℕ) (sign m n : ℕ) (after behind rest more : List ℕ) → is_digit sign ≡ false → IsNumber m → IsNumber n
    → (lead ++ (decimal m ++ (sign ∷ after))) ++ rest ≡ (lead ++ (decimal n ++ (sign ∷ behind))) ++ more
    → (m ≡ n) × (after ++ rest ≡ behind ++ more)
numbers lead sign m n after behind rest more other f g e =
    numbers_of sign m n (after ++ rest) (behind ++ more) other f g (unled lead (decimal m) (decimal n) (sign ∷ after) (sign ∷ behind) rest more e)

-- a number at the end of a piece, where the next piece begins with a sign
pub last_numbers : (lead : List ℕ) (sign m n : ℕ) (rest more : List ℕ) → is_digit sign ≡ false → IsNumber m → IsNumber n
    → (lead ++ (decimal m ++ [])) ++ sign ∷ rest ≡ (lead ++ (decimal n ++ [])) ++ sign ∷ more → (m ≡ n) × (rest ≡ more)
last_numbers lead sign m n rest more other f g e =
    numbers_of sign m n rest more other f g (unled lead (decimal m) (decimal n) [] [] (sign ∷ rest) (sign ∷ more) e)

-- a moment
pub moments : (lead : List ℕ) (a b : ℕ) (after behind rest more : List ℕ) → IsMoment a → IsMoment b
    → (lead ++ (shown a ++ after)) ++ rest ≡ (lead ++ (shown b ++ behind)) ++ more → (a ≡ b) × (after ++ rest ≡ behind ++ more)
moments lead a b after behind rest more f g e =
    moments_apart a b (after ++ rest) (behind ++ more) f g (unled lead (shown a) (shown b) after behind rest more e)

-- the same words at the end of their line, and before a text
pub never_both : (lead x y after rest more : List ℕ) → is_free 32 x ≡ true → is_free 10 y ≡ true
    → lead ++ (x ++ 10 ∷ rest) ≡ (lead ++ (y ++ 32 ∷ after)) ++ more → ⊥
never_both lead x y after rest more f g e =
    never x y rest (after ++ more) f g (append_cancel_left lead _ _ (e ∙ opened lead y (32 ∷ after) more))
