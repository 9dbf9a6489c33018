-- Digests and their digits.
use Rattle.std.proofs.Common.{◌≡◌, ℕ, zero, suc, ◌+◌, ◌*◌, ◌/◌, ◌%◌, ◌<◌, ◌==◌, Bool, true, false, ◌&&◌, if◌then◌else◌, inl, inr, List, [], ◌∷◌, length, slice_index, Option, None, Some, IfSome, unwrap_or, Result, Ok, Err, refl, sym, ap, ◌∙◌, arith}
use Rattle.std.specs.List.{list_all}
use Rattle.std.specs.Result.{result_ok}
use Rattle.std.proofs.lemmas.Bool.{and_parts, cases_lt, eqb-true}
use Rattle.std.proofs.lemmas.Bool.Decides.{nat_tests}
use Rattle.hex.specs.declared.error.FromHexError.{FromHexError}
use Rattle.hex.specs.Hex.{IsBytes, decode_sized, decode_pairs, digit_or_error, encode_lower, encode_with, hex_digit_value, lower_digits, pair_value, value_at, ◌>>=◌}
use Rattle.hex.proofs.HexLemmas.{length-encode_with, decode_sized-encode_lower, decode_sized-ok, decode_sized-twice, decode_of-even, decode_of-ok}
use Rattle.asks.specs.Digests.{is_small_digit, are_digits, digest_of, IsDigest, IsDigestAgain}

-- ---- the digits that are written

-- each of the first n characters of a table is a small digit
abbrev all_small : List ℕ → ℕ → Bool
all_small t zero = true
all_small t (suc n) = is_small_digit (slice_index t n) && all_small t n

small_at : (t : List ℕ) (n k : ℕ) → all_small t n ≡ true → k < n → is_small_digit (slice_index t k) ≡ true
small_at t zero k all below = absurd (omega arith)
small_at t (suc n) k all below =
    let parts = and_parts (is_small_digit (slice_index t n)) (all_small t n) all in
    elim (cases_lt k n) [
      | inl lower ↦ small_at t n k parts.1 lower
      | inr top ↦
          let e : k ≡ n = omega arith in
          rw e parts.0
    ]

small_digit : (k : ℕ) → k < 16 → is_small_digit (slice_index lower_digits k) ≡ true
small_digit k below = small_at lower_digits 16 k refl below

pub small_written : (xs : List ℕ) → IsBytes xs → list_all is_small_digit (encode_lower xs) ≡ true
unfolding encode_with
small_written [] is = refl
small_written (b ∷ rest) is =
    let fits : b < 256 = is 0 in
    let high : b / 16 < 16 = omega arith in
    let low : b % 16 < 16 = omega arith in
    rw (small_digit (b / 16) high, small_digit (b % 16) low, small_written rest (λ k. is (suc k))) refl

are_written : (digest : List ℕ) → IsDigest digest → are_digits (encode_lower digest) ≡ true
are_written digest is =
    let long : length (encode_lower digest) ≡ 64 = let e = length-encode_with lower_digits digest in let l = is.long in omega arith in
    rw (long, small_written digest is.bytes) refl

-- the digits of a digest are read as it
pub digest_again : (digest : List ℕ) → IsDigest digest → digest_of (encode_lower digest) ≡ Some digest
unfolding digest_of
digest_again digest is = rw (are_written digest is, decode_sized-encode_lower digest 32 is.long is.bytes) refl

pub read_again : (text : List ℕ) (read : Option (List ℕ)) → read ≡ digest_of text → IsDigestAgain text read
read_again text read is digest good same = is ∙ ap digest_of same ∙ digest_again digest good

-- ---- the digits that are read

-- each small digit below n is written where its value is
abbrev all_back : ℕ → Bool
all_back zero = true
all_back (suc n) = (if is_small_digit n then slice_index lower_digits (unwrap_or (hex_digit_value n) 99) == n else true) && all_back n

back_at : (n c : ℕ) → all_back n ≡ true → c < n → is_small_digit c ≡ true → slice_index lower_digits (unwrap_or (hex_digit_value c) 99) ≡ c
back_at zero c all below small = absurd (omega arith)
back_at (suc n) c all below small =
    let parts = and_parts _ (all_back n) all in
    elim (cases_lt c n) [
      | inl lower ↦ back_at n c parts.1 lower small
      | inr top ↦
          let e : n ≡ c = omega arith in
          eqb-true _ _ (rw small at (rw e at parts.0))
    ]

few_digits : (c : ℕ) → is_small_digit c ≡ true → c < 103
few_digits c small = grind (arith, nat_tests)

digit_back : (c v : ℕ) → is_small_digit c ≡ true → hex_digit_value c ≡ Some v → slice_index lower_digits v ≡ c
digit_back c v small is = ap (λ (o : Option ℕ). slice_index lower_digits (unwrap_or o 99)) (sym is) ∙ back_at 103 c refl (few_digits c small) small

value_below : (c v : ℕ) → hex_digit_value c ≡ Some v → v < 16
value_below c v is = grind arith

digit_of_value : (c i v : ℕ) (o : Option ℕ) → digit_or_error c i o ≡ Ok v → o ≡ Some v
digit_of_value c i v (Some w) is = cc
digit_of_value c i v None is = cc

both : {A B : Type 0} (r : Result A FromHexError) (f : A → Result B FromHexError) (y : B) → (r >>= f) ≡ Ok y → (x : A) × (r ≡ Ok x) × (f x ≡ Ok y)
both (Ok x) f y is = (x, refl, is)
both (Err e) f y is = cc is

-- two digits that are read are those of the byte
pair_back : (a b i byte : ℕ) → is_small_digit a ≡ true → is_small_digit b ≡ true → pair_value a b i ≡ Ok byte
    → (slice_index lower_digits (byte / 16) ≡ a) × (slice_index lower_digits (byte % 16) ≡ b)
pair_back a b i byte first second is =
    let high = both (value_at a i) _ byte is in
    let low = both (value_at b (i + 1)) _ byte high.2 in
    let high_is = digit_of_value a i high.0 (hex_digit_value a) high.1 in
    let low_is = digit_of_value b (i + 1) low.0 (hex_digit_value b) low.1 in
    let whole : high.0 * 16 + low.0 ≡ byte = cc low.2 in
    let h : high.0 < 16 = value_below a high.0 high_is in
    let l : low.0 < 16 = value_below b low.0 low_is in
    let over : byte / 16 ≡ high.0 = omega arith in
    let under : byte % 16 ≡ low.0 = omega arith in
    (rw over (digit_back a high.0 first high_is), rw under (digit_back b low.0 second low_is))

pairs_back : (i : ℕ) (s bytes : List ℕ) → list_all is_small_digit s ≡ true → decode_pairs i s ≡ Ok bytes → encode_lower bytes ≡ s
unfolding decode_pairs encode_with
pairs_back i [] [] small is = refl
pairs_back i [] (byte ∷ bytes) small is = cc
pairs_back i (a ∷ []) bytes small is = cc is
pairs_back i (a ∷ b ∷ rest) bytes small is =
    let first = and_parts (is_small_digit a) _ small in
    let second = and_parts (is_small_digit b) (list_all is_small_digit rest) first.1 in
    let one = both (pair_value a b i) _ bytes is in
    let more = both (decode_pairs (i + 2) rest) _ bytes one.2 in
    let here = pair_back a b i one.0 first.0 second.0 one.1 in
    let there = pairs_back (i + 2) rest more.0 second.1 more.1 in
    let all : one.0 ∷ more.0 ≡ bytes = cc more.2 in
    rw (← all, here.0, here.1, there) refl

sized_back : (text bytes : List ℕ) → length text ≡ 64 → list_all is_small_digit text ≡ true → decode_sized text 32 ≡ Ok bytes → encode_lower bytes ≡ text
sized_back text bytes long small is =
    pairs_back 0 text bytes small (sym (decode_sized-twice text 32 long ∙ decode_of-even text (omega arith)) ∙ is)

result_back : (text : List ℕ) (r : Result (List ℕ) FromHexError) → length text ≡ 64 → list_all is_small_digit text ≡ true → decode_sized text 32 ≡ r
    → IfSome (result_ok r) (λ digest. encode_lower digest ≡ text)
result_back text (Ok bytes) long small is = sized_back text bytes long small is
result_back text (Err e) long small is = tt

tested_back : (text : List ℕ) (b : Bool) → are_digits text ≡ b → IfSome (if b then result_ok (decode_sized text 32) else None) (λ digest. encode_lower digest ≡ text)
tested_back text true is =
    let parts = and_parts (length text == 64) (list_all is_small_digit text) is in
    result_back text (decode_sized text 32) (eqb-true (length text) 64 parts.0) parts.1 refl
tested_back text false is = tt

pub digits_of_read : (text : List ℕ) (read : Option (List ℕ)) → read ≡ digest_of text → IfSome read (λ digest. encode_lower digest ≡ text)
unfolding digest_of
digits_of_read text read is = rw is (tested_back text (are_digits text) refl)

-- what is read is a digest
decoded : (text : List ℕ) (r : Result (List ℕ) FromHexError) → decode_sized text 32 ≡ r → IfSome (result_ok r) IsDigest
decoded text (Ok bytes) is =
    let twice = decode_sized-ok text 32 bytes is in
    let ok = decode_of-ok text bytes (sym (decode_sized-twice text 32 twice) ∙ is) in
    record { long = omega (arith, twice, ok.2); bytes = ok.3 }
decoded text (Err e) is = tt

decoded_by : (text : List ℕ) (digits : Bool) → IfSome (if digits then result_ok (decode_sized text 32) else None) IsDigest
decoded_by text true = decoded text (decode_sized text 32) refl
decoded_by text false = tt

pub digest_formed : (text : List ℕ) → IfSome (digest_of text) IsDigest
unfolding digest_of
digest_formed text = decoded_by text (are_digits text)
