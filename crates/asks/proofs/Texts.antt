-- Texts as JSON: what is UTF-8 is written as it is, and all that is written is UTF-8.
use Rattle.std.proofs.Common.{◌≡◌, ℕ, pos, zero, suc, ◌+◌, ◌/◌, ◌%◌, ◌<◌, ◌≤◌, ◌==◌, nat_lt, Bool, true, false, if◌then◌else◌, List, [], ◌∷◌, ◌++◌, length, slice_index, take, drop, take_all, length-drop, IsUtf8, refl, subst, arith, eqb-true, lt-ltb, unwrap_or, Option, None, Some}
use Rattle.std.specs.Char.{encode_utf8}
use Rattle.std.specs.Int.{is_in_range}
use Rattle.std.specs.List.{list_all}
use Rattle.std.specs.Str.{is_utf8}
use Rattle.std.specs.Str.Lossy.{valid_len_up_to, utf8_valid_len, second_byte_min, second_byte_max, error_len_after_two, error_len_after_one, error_len_of_some, utf8_error_len, utf8_invalid_len, after_first_chunk, replacement_bytes, utf8_lossy_within, utf8_lossy}
use Rattle.std.proofs.lemmas.Bool.{and_parts, eqb-false, cond_both}
use Rattle.std.proofs.lemmas.Bool.Decides.{nat_tests}
use Rattle.std.proofs.lemmas.Str.{IsUtf8-append, IsUtf8-nil, IsUtf8-from_is_utf8, utf8_valid_len_le}
use Rattle.json.proofs.Printed.Utf8.{are_ascii, IsUtf8-are_ascii}
use Rattle.jiff_core.proofs.CalendarLemmas.{days_in_month_bounds}
use Rattle.jiff_core.proofs.SignedLemmas.{signed_arith}
use Rattle.desk_time.specs.Calendar.{civil_of}
use Rattle.desk_time.specs.Moments.{two, shown}
use Rattle.desk_time.proofs.CalendarLaws.{civil_of-law}
use Rattle.desk_io.specs.Station.{is_station, is_capital_or_digit}
use Rattle.asks.specs.declared.plans.Form.{Form}
use Rattle.asks.specs.declared.plans.Form.TheVariants.{Flight, Tail, Captain}
use Rattle.hex.specs.Hex.{encode_lower}
use Rattle.asks.specs.Digests.{is_small_digit, IsDigest}
use Rattle.asks.specs.Plans.{is_of_form, has_form}
use Rattle.asks.proofs.DigestLaws.{small_written}

-- ---- whatever is written is UTF-8

front_by : (t : List ℕ) (n : ℕ) (whole : Bool) → is_utf8 (take (suc n) t) ≡ whole → IsUtf8 (take (valid_len_up_to t n) t)
    → IsUtf8 (take (if whole then suc n else valid_len_up_to t n) t)
front_by t n true is less = IsUtf8-from_is_utf8 _ is
front_by t n false is less = less

valid_front : (t : List ℕ) (n : ℕ) → IsUtf8 (take (valid_len_up_to t n) t)
valid_front t zero = IsUtf8-nil
valid_front t (suc n) = front_by t n (is_utf8 (take (suc n) t)) refl (valid_front t n)

pub valid : (t : List ℕ) → IsUtf8 (take (utf8_valid_len t) t)
unfolding utf8_valid_len
valid t = valid_front t (length t)

replacement : IsUtf8 replacement_bytes
unfolding encode_utf8
replacement = (0xFFFD ∷ [], (refl, refl))

-- where bytes stop being UTF-8, at least one of them is replaced
invalid_some : (t : List ℕ) → 0 < length t → 0 < utf8_invalid_len t
unfolding utf8_error_len
invalid_some t some =
    let P : Option ℕ → Type 0 = λ o. 0 < unwrap_or o (length t) in
    let one : P (Some 1) = omega arith in
    let two : P (Some 2) = omega arith in
    let three : P (Some 3) = omega arith in
    let third = is_in_range 0x80 0xBF (slice_index t 2) in
    let fourth : P (if nat_lt (length t) 4 then None else Some 3) = cond_both (nat_lt (length t) 4) None (Some 3) P (λ e. some) (λ e. three) in
    let after_two : P (error_len_after_two t) =
    cond_both (nat_lt (length t) 3) None (if third then (if nat_lt (length t) 4 then None else Some 3) else Some 2) P (λ e. some)
    (λ e. cond_both third (if nat_lt (length t) 4 then None else Some 3) (Some 2) P (λ e. fourth) (λ e. two)) in
    let second = is_in_range (second_byte_min (slice_index t 0)) (second_byte_max (slice_index t 0)) (slice_index t 1) in
    let after_one : P (error_len_after_one t) =
    cond_both (nat_lt (length t) 2) None (if second then error_len_after_two t else Some 1) P (λ e. some)
    (λ e. cond_both second (error_len_after_two t) (Some 1) P (λ e. after_two) (λ e. one)) in
    let first = is_in_range 0xC2 0xF4 (slice_index t 0) in
    cond_both (length t == 0) None (error_len_of_some t) P (λ e. some) (λ e. cond_both first (error_len_after_one t) (Some 1) P (λ e. after_one) (λ e. one))

shorter : (t : List ℕ) → (utf8_valid_len t ≡ length t → ⊥) → length (after_first_chunk t) < length t
shorter t faulty =
    let n = utf8_valid_len t in
    let few = utf8_valid_len_le t in
    let replaced = invalid_some (drop n t) (omega (arith, length-drop n t)) in
    omega (arith, length-drop (n + utf8_invalid_len (drop n t)) t)

within_by : (k : ℕ) (t : List ℕ) → length t ≤ suc k → (whole : Bool) → (utf8_valid_len t == length t) ≡ whole
    → (length (after_first_chunk t) ≤ k → IsUtf8 (utf8_lossy_within k (after_first_chunk t)))
    → IsUtf8 (if whole then t else take (utf8_valid_len t) t ++ (replacement_bytes ++ utf8_lossy_within k (after_first_chunk t)))
within_by k t few true is later =
    let all = eqb-true (utf8_valid_len t) (length t) is in
    subst IsUtf8 (take_all (utf8_valid_len t) t (omega (arith, all))) (valid t)
within_by k t few false is later =
    let less = shorter t (eqb-false (utf8_valid_len t) (length t) is) in
    IsUtf8-append _ _ (valid t) (IsUtf8-append _ _ replacement (later (omega (arith, less))))

within : (k : ℕ) (t : List ℕ) → length t ≤ k → IsUtf8 (utf8_lossy_within k t)
within zero [] few = IsUtf8-nil
within zero (b ∷ t) few = absurd (omega arith)
within (suc k) t few = within_by k t few (utf8_valid_len t == length t) refl (within k (after_first_chunk t))

pub written_utf8 : (t : List ℕ) → IsUtf8 (utf8_lossy t)
unfolding utf8_lossy
written_utf8 t = within (length t) t (omega arith)

-- ---- texts of the desk's forms are UTF-8

all_ascii : (p : ℕ → Bool) → ((b : ℕ) → p b ≡ true → nat_lt b 128 ≡ true) → (t : List ℕ) → list_all p t ≡ true → are_ascii t ≡ true
all_ascii p small [] all = refl
all_ascii p small (b ∷ t) all =
    let parts = and_parts (p b) (list_all p t) all in
    rw (small b parts.0) (all_ascii p small t parts.1)

-- each byte passes a test that only ASCII passes
pub passing_utf8 : (p : ℕ → Bool) → ((b : ℕ) → p b ≡ true → nat_lt b 128 ≡ true) → (t : List ℕ) → list_all p t ≡ true → IsUtf8 t
passing_utf8 p small t all = IsUtf8-are_ascii t (all_ascii p small t all)

capital_or_digit : (b : ℕ) → is_capital_or_digit b ≡ true → nat_lt b 128 ≡ true
capital_or_digit b is = grind (arith, nat_tests)

of_form : (form : Form) (b : ℕ) → is_of_form form b ≡ true → nat_lt b 128 ≡ true
of_form Flight b is = capital_or_digit b is
of_form Tail b is = grind (arith, nat_tests)
of_form Captain b is = grind (arith, nat_tests)

pub name_utf8 : (form : Form) (t : List ℕ) → has_form form t ≡ true → IsUtf8 t
name_utf8 form t is =
    passing_utf8 (is_of_form form) (of_form form) t (and_parts _ (list_all (is_of_form form) t) is).1

pub station_utf8 : (s : List ℕ) → is_station s ≡ true → IsUtf8 s
station_utf8 [] is = cc is
station_utf8 (a ∷ []) is = cc is
station_utf8 (a ∷ b ∷ []) is = cc is
station_utf8 (a ∷ b ∷ c ∷ []) is = cc is
station_utf8 (a ∷ b ∷ c ∷ d ∷ []) is = passing_utf8 is_capital_or_digit capital_or_digit _ (grind (arith, is))
station_utf8 (a ∷ b ∷ c ∷ d ∷ e ∷ rest) is = cc is

two_utf8 : (n : ℕ) → n < 100 → IsUtf8 (two n)
two_utf8 n small = IsUtf8-are_ascii (two n) (rw (lt-ltb (48 + n / 10) 128 (omega arith), lt-ltb (48 + n % 10) 128 (omega arith)) refl)

sign_then : (sign : ℕ) (t : List ℕ) → sign < 128 → IsUtf8 t → IsUtf8 (sign ∷ t)
sign_then sign t small is = IsUtf8-append (sign ∷ []) t (IsUtf8-are_ascii (sign ∷ []) (rw (lt-ltb sign 128 small) refl)) is

pub moment_utf8 : (at : ℕ) → at ≤ 69_000_000 → IsUtf8 (shown at)
moment_utf8 at high =
    let law = civil_of-law (at / 1440) (omega arith) in
    let d = civil_of (at / 1440) in
    let last = law.civil.0.1 in
    let year : d.year ≤ 9999 = omega (arith, signed_arith, last) in
    let month = law.civil.1.1 in
    let day = law.civil.2.1 in
    let longest = days_in_month_bounds (pos d.year) d.month in
    IsUtf8-append _ _
    (IsUtf8-append _ _ (two_utf8 (d.year / 100) (omega (arith, year)))
    (IsUtf8-append _ _ (two_utf8 (d.year % 100) (omega arith))
    (IsUtf8-append _ _ (sign_then 45 _ (omega arith) (two_utf8 d.month (omega (arith, month))))
    (sign_then 45 _ (omega arith) (two_utf8 d.day (omega (arith, day, longest.0)))))))
    (IsUtf8-append _ _ (sign_then 84 _ (omega arith) (two_utf8 (at % 1440 / 60) (omega arith)))
    (IsUtf8-append _ _ (sign_then 58 _ (omega arith) (two_utf8 (at % 1440 % 60) (omega arith)))
    (IsUtf8-are_ascii (90 ∷ []) refl)))

small_digit : (b : ℕ) → is_small_digit b ≡ true → nat_lt b 128 ≡ true
small_digit b is = grind (arith, nat_tests)

pub digest_utf8 : (digest : List ℕ) → IsDigest digest → IsUtf8 (encode_lower digest)
digest_utf8 digest is = passing_utf8 is_small_digit small_digit (encode_lower digest) (small_written digest is.bytes)
