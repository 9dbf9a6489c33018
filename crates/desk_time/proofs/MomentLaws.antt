-- A moment that is shown is read again.
use Rattle.std.proofs.Common.{◌≡◌, ℕ, ◌+◌, ◌-◌, ◌*◌, ◌/◌, ◌%◌, ◌<◌, ◌≤◌, pos, Some, [], ◌∷◌, refl, ◌∙◌, ap, arith}
use Rattle.std.proofs.lemmas.Bool.{le-leb, lt-ltb}
use Rattle.jiff_core.specs.Calendar.{days_in_month}
use Rattle.jiff_core.proofs.CalendarLemmas.{days_in_month_bounds}
use Rattle.desk_time.specs.Calendar.{day_number, day_at}
use Rattle.desk_time.specs.Digits.{digit, pair, ◌>>=◌}
use Rattle.desk_time.specs.Moments.{shown, written, up_to, minute_of, shown_of, date_at, time_at}
use Rattle.desk_time.proofs.CalendarLaws.{IsDateOf, civil_of-law, day_number-count, year_from}

pub digit_of : (n : ℕ) → n < 10 → digit (48 + n) ≡ Some n
digit_of n small = let same : 48 + n - 48 ≡ n = omega arith in rw (le-leb 48 (48 + n) (omega arith), le-leb (48 + n) 57 (omega arith), same) refl

pub pair_of : (n : ℕ) → n < 100 → pair (48 + n / 10) (48 + n % 10) ≡ Some n
pair_of n small =
    let same : 10 * (n / 10) + n % 10 ≡ n = omega arith in
    rw (digit_of (n / 10) (omega arith), digit_of (n % 10) (omega arith), same) refl

number_again : (y m d day : ℕ) → IsDateOf day (record { year = y; month = m; day = d }) → 2000 ≤ y → day_number y m d ≡ day
number_again y m d day law low = let n = day_number-count y m d (omega arith) law.civil.2.0 in let c = law.counted in omega (arith, n, c)

date_is_again : (y m d day : ℕ) → IsDateOf day (record { year = y; month = m; day = d }) → 2000 ≤ y → y ≤ 9999 → day_at y m d ≡ Some day
unfolding day_at
date_is_again y m d day law low high =
    rw (le-leb 2000 y low, le-leb y 9999 high, le-leb 1 m law.civil.1.0, le-leb m 12 law.civil.1.1, le-leb 1 d law.civil.2.0, le-leb d (days_in_month (pos y) m) law.civil.2.1, number_again y m d day law low) refl

date_text_again : (y m d day : ℕ) → IsDateOf day (record { year = y; month = m; day = d }) → 2000 ≤ y → y ≤ 9999
    → date_at ((48 + y / 100 / 10) ∷ (48 + y / 100 % 10) ∷ (48 + y % 100 / 10) ∷ (48 + y % 100 % 10) ∷ (48 + m / 10) ∷ (48 + m % 10) ∷ (48 + d / 10) ∷ (48 + d % 10) ∷ []) ≡ Some day
date_text_again y m d day law low high =
    let same : 100 * (y / 100) + y % 100 ≡ y = omega arith in
    let b = days_in_month_bounds (pos y) m in
    let dm = law.civil.2.1 in
    let mm = law.civil.1.1 in
    rw (pair_of (y / 100) (omega arith), pair_of (y % 100) (omega arith), pair_of m (omega (arith, mm)), pair_of d (omega (arith, dm, b.0)), same) (date_is_again y m d day law low high)

time_text_again : (at : ℕ) → time_at ((48 + at % 1440 / 60 / 10) ∷ (48 + at % 1440 / 60 % 10) ∷ (48 + at % 1440 % 60 / 10) ∷ (48 + at % 1440 % 60 % 10) ∷ []) ≡ Some (at % 1440)
time_text_again at =
    let same : 60 * (at % 1440 / 60) + at % 1440 % 60 ≡ at % 1440 = omega arith in
    rw (pair_of (at % 1440 / 60) (omega arith), pair_of (at % 1440 % 60) (omega arith), lt-ltb (at % 1440 / 60) 24 (omega arith), lt-ltb (at % 1440 % 60) 60 (omega arith), same) refl

written_again : (at : ℕ) → 15_778_080 ≤ at → at ≤ 69_000_000 → written (shown at) ≡ Some at
unfolding written
written_again at low high =
    let law = civil_of-law (at / 1440) (omega arith) in
    let date = date_text_again _ _ _ (at / 1440) law (year_from (at / 1440) (omega arith) (omega arith)) (let e = law.early in omega (arith, e)) in
    let same : 1440 * (at / 1440) + at % 1440 ≡ at = omega arith in
    rw (date, time_text_again at, same) refl

reached : (last at : ℕ) → at ≤ last → up_to last at ≡ Some at
reached last at within = rw (le-leb at last within) refl

pub minute_again : (at : ℕ) → 15_778_080 ≤ at → at ≤ 68_374_079 → minute_of (shown at) ≡ Some at
unfolding minute_of
minute_again at low high = ap (λ o. o >>= up_to 68_374_079) (written_again at low (omega arith)) ∙ reached 68_374_079 at high

pub shown_again : (at : ℕ) → 15_778_080 ≤ at → at ≤ 69_000_000 → shown_of (shown at) ≡ Some at
unfolding shown_of
shown_again at low high = ap (λ o. o >>= up_to 69_000_000) (written_again at low high) ∙ reached 69_000_000 at high
