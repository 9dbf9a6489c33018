-- Numbers in decimal are read as they are written.
use Rattle.std.proofs.Common.{◌≡◌, ◌↔◌, ℕ, suc, ◌+◌, ◌*◌, ◌-◌, ◌^◌, ◌<◌, ◌≤◌, Bool, true, false, not, ◌&&◌, ◌||◌, ◌==◌, inl, inr, if◌then◌else◌, List, [], ◌∷◌, length, get_or, Option, None, Some, IfSome, decimal, refl, sym, ap, ◌∙◌, rules, arith, eq-eqb, ne_eqb, le-leb}
use Rattle.std.specs.Prelude.{nat_le}
use Rattle.std.specs.List.{list_all}
use Rattle.std.proofs.lemmas.Bool.{and_parts, cases_eq, leb-true}
use Rattle.std.proofs.lemmas.Bool.Decides.{nat_tests}
use Rattle.std.proofs.lemmas.Fmt.{decimal_nonempty, decimal_digit, first_decimal, digits_decimal, digits_value-decimal, decimal-digits_value}
use Rattle.std.proofs.lemmas.Str.Parse.{IsDigitsTest, FoldsDigits, IsNumeralModel, numerals_by_fold}
use Rattle.desk_time.specs.Numbers.{is_digit, digits_after, is_decimal, number_in}
use Rattle.desk_time.proofs.Chains.{under}

grows : (n : ℕ) (ds : List ℕ) → n ≤ digits_after n ds
grows n [] = omega arith
grows n (d ∷ ds) = omega (arith, grows (10 * n + (d - 48)) ds)

-- a number only grows with its digits
pub too_great : (number limit : ℕ) (rest digits : List ℕ) → digits_after number rest ≡ digits_after 0 digits → limit < number → nat_le (digits_after 0 digits) limit ≡ false
too_great number limit rest digits same above = grind (arith, nat_tests, grows number rest, same, above)

-- ---- what is written of a number

are_digits : IsDigitsTest (λ ds. list_all is_digit ds ≡ true)
are_digits = search rules

folds : FoldsDigits digits_after
folds = search rules

pub own : IsNumeralModel (λ ds. list_all is_digit ds ≡ true) (digits_after 0)
own = numerals_by_fold _ are_digits digits_after folds

first_or_alone : (d k : ℕ) → (d ≡ 48 → suc k ≡ 1) → (not (d == 48) || (k == 0)) ≡ true
first_or_alone d k alone = elim (cases_eq d 48) [
  | inl zero ↦ rw (eq-eqb k 0 (let one = alone zero in omega arith)) (grind (arith, nat_tests))
  | inr other ↦ rw (ne_eqb d 48 other) refl
]

decimal_from : (ds : List ℕ) → list_all is_digit ds ≡ true → 0 < length ds → (get_or ds 0 0 ≡ 48 → length ds ≡ 1) → is_decimal ds ≡ true
decimal_from [] all some alone = absurd (omega arith)
decimal_from (d ∷ ds) all some alone = rw (all, first_or_alone d (length ds) alone) refl

zero_alone : (n : ℕ) → n < 2 ^ 64 → get_or (decimal n) 0 0 ≡ 48 → length (decimal n) ≡ 1
zero_alone n small is = elim (cases_eq n 0) [
  | inl zero ↦ rw (zero, decimal_digit 0 (omega arith)) refl
  | inr some ↦ absurd (omega (arith, first_decimal n (omega arith) small))
]

pub is_decimal-decimal : (n : ℕ) → n < 2 ^ 64 → is_decimal (decimal n) ≡ true
is_decimal-decimal n small = decimal_from (decimal n) (digits_decimal own n small) (decimal_nonempty n small) (zero_alone n small)

-- a number that is written is read
pub number_again : (limit n : ℕ) → n ≤ limit → n < 2 ^ 64 → number_in limit (decimal n) ≡ Some n
number_again limit n few small = rw (is_decimal-decimal n small, digits_value-decimal own n small, le-leb n limit few) refl

chosen : (b : Bool) (limit n : ℕ) → (b && nat_le n limit) ≡ true → n ≤ limit
chosen b limit n is = leb-true n limit ((and_parts b (nat_le n limit) is).1)

within_if : (b : Bool) (limit n : ℕ) → (b ≡ true → n ≤ limit) → IfSome (if b then Some n else None) (λ k. k ≤ limit)
within_if true limit n is = is refl
within_if false limit n is = tt

-- what is read is within the limit
pub number_within : (limit : ℕ) (text : List ℕ) → IfSome (number_in limit text) (λ n. n ≤ limit)
number_within limit text = within_if (is_decimal text && nat_le (digits_after 0 text) limit) limit (digits_after 0 text) (chosen (is_decimal text) limit (digits_after 0 text))

alone : (d k : ℕ) → (not (d == 48) || (k == 0)) ≡ true → d ≡ 48 → suc k ≡ 1
alone d k is zero = grind (arith, nat_tests, is, zero)

back : (text : List ℕ) → is_decimal text ≡ true → digits_after 0 text < 2 ^ 64 → decimal (digits_after 0 text) ≡ text
back [] is few = absurd (cc is)
back (d ∷ ds) is few =
    let parts = and_parts (list_all is_digit (d ∷ ds)) (not (d == 48) || (length ds == 0)) is in
    decimal-digits_value own (d ∷ ds) parts.0 (omega arith) (alone d (length ds) parts.1) few

-- what is read is what the text writes
pub number_back : (limit : ℕ) (text : List ℕ) → limit < 2 ^ 64 → IfSome (number_in limit text) (λ n. decimal n ≡ text)
number_back limit text few =
    under (is_decimal text && nat_le (digits_after 0 text) limit) (Some (digits_after 0 text)) (λ n. decimal n ≡ text) (λ is.
    let parts = and_parts (is_decimal text) (nat_le (digits_after 0 text) limit) is in
    let most = leb-true (digits_after 0 text) limit parts.1 in
    back text parts.0 (omega arith))

of_some : (limit : ℕ) (text : List ℕ) (o : Option ℕ) (n : ℕ) → o ≡ Some n → IfSome o (λ k. k ≤ limit) → IfSome o (λ k. decimal k ≡ text) → (n ≤ limit) × (text ≡ decimal n)
of_some limit text None n is few same = absurd (cc is)
of_some limit text (Some k) n is few same = let e : k ≡ n = cc is in rw (← e) (few, sym same)

-- a text is read as a number exactly where it writes it
pub number_exact : (limit : ℕ) (text : List ℕ) (read : Option ℕ) → limit < 2 ^ 64 → read ≡ number_in limit text → (n : ℕ) → (read ≡ Some n) ↔ ((n ≤ limit) × (text ≡ decimal n))
number_exact limit text read small is n = (
  λ found. of_some limit text (number_in limit text) n (sym is ∙ found) (number_within limit text) (number_back limit text small),
  λ all. is ∙ ap (number_in limit) all.1 ∙ number_again limit n all.0 (omega (arith, small, all.0)),
)
