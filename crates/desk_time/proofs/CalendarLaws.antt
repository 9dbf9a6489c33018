-- The date of a day is the one that the calendar counts to that day.
use Rattle.std.proofs.Common.{◌≡◌, ℕ, zero, suc, ◌+◌, ◌-◌, ◌*◌, ◌<◌, ◌≤◌, nat_lt, true, false, cond, ℤ, pos, ◌+ℤ◌, refl, sym, ◌∙◌, ap, subst, arith}
use Rattle.std.proofs.lemmas.Bool.{ltb-true, ltb-false}
use Rattle.jiff_core.proofs.SignedLemmas.{signed_arith}
use Rattle.jiff_core.specs.Calendar.{days_in_year, days_in_month, day_count, days_of_months, IsCivilDate}
use Rattle.jiff_core.proofs.CalendarLemmas.{days_in_year_bounds, day_count-next_year, day_count-next_month, day_count-day, days_of_months_all, days_of_months_more, day_count-epoch, days_of_months-zero, day_count-day_of_year, day_count-lt_year}
use Rattle.jiff_core.specs.Calendar.{days_from_civil}
use Rattle.jiff_core.specs.Date.{epoch_day}
use Rattle.jiff_core.specs.declared.civil.date.Date.{Date}
use Rattle.jiff_core.proofs.DateLemmas.{epoch_day_injective}
use Rattle.desk_time.specs.Calendar.{in_years, in_months, Civil, civil_of, days_of_years, day_number}

-- what is known of a year and the days of it that have passed
pub record InYear (count low high : ℕ) (a : ℕ × ℕ) : Type 0 where
  pub counted : day_count (pos a.0) 1 1 + a.1 ≡ count
  pub within : a.1 < days_in_year (pos a.0)
  pub later : low ≤ a.0
  pub early : a.0 ≤ high

pub next_year : (y : ℕ) → day_count (pos (y + 1)) 1 1 ≡ day_count (pos y) 1 1 + days_in_year (pos y)
next_year y = day_count-next_year (pos y) (pos (y + 1)) (omega (arith, signed_arith)) (omega (arith, signed_arith))

pub in_years-law : (k y n count low high : ℕ) → low ≤ y → y + k ≤ high → n < 365 * (k + 1) → day_count (pos y) 1 1 + n ≡ count → InYear count low high (in_years k y n)
in_years-law zero y n count low high l h small e = record {
  counted = e;
  within = let b = days_in_year_bounds (pos y) in omega (arith, b.1);
  later = l;
  early = omega arith;
}
in_years-law (suc k) y n count low high l h small e =
    elim (nat_lt n (days_in_year (pos y))) as (λ b. nat_lt n (days_in_year (pos y)) ≡ b → InYear count low high (cond b (y, n) (in_years k (y + 1) (n - days_in_year (pos y))))) [
      | true ↦ λ t. record { counted = e; within = ltb-true _ _ t; later = l; early = omega arith }
      | false ↦ λ t.
          let ge : days_in_year (pos y) ≤ n = ltb-false _ _ t in
          let b = days_in_year_bounds (pos y) in
          in_years-law k (y + 1) (n - days_in_year (pos y)) count low high (omega arith) (omega arith) (omega (arith, ge, b.1)) (let nx = next_year y in omega (arith, nx, ge, e))
    ] refl

-- what is known of a month and a day in it
pub record InMonth (y : ℤ) (count : ℕ) (a : ℕ × ℕ) : Type 0 where
  pub counted : day_count y a.0 a.1 ≡ count
  pub month_low : 1 ≤ a.0
  pub month_high : a.0 ≤ 12
  pub day_low : 1 ≤ a.1
  pub day_high : a.1 ≤ days_in_month y a.0

pub day_after_first : (y : ℤ) (m n count : ℕ) → day_count y m 1 + n ≡ count → day_count y m (n + 1) ≡ count
day_after_first y m n count e = let d = day_count-day y m 1 (n + 1) (omega arith) (omega arith) in omega (arith, d, e)

pub in_months-law : (k y m n count : ℕ) → 1 ≤ m → m + k ≡ 12 → n + days_of_months (pos y) (m - 1) < days_in_year (pos y) → day_count (pos y) m 1 + n ≡ count → InMonth (pos y) count (in_months k y m n)
in_months-law zero y m n count low sum within e =
    let is : m ≡ 12 = omega arith in
    let more = days_of_months_more (pos y) 12 (omega arith) in
    let all = days_of_months_all (pos y) in
    record {
      counted = day_after_first (pos y) m n count e;
      month_low = low;
      month_high = omega arith;
      day_low = omega arith;
      day_high = subst (λ (x : ℕ). n + 1 ≤ days_in_month (pos y) x) (sym is)
          (let w : n + days_of_months (pos y) 11 < days_in_year (pos y) = subst (λ (x : ℕ). n + days_of_months (pos y) (x - 1) < days_in_year (pos y)) is within in omega (arith, more, all, w));
    }
in_months-law (suc k) y m n count low sum within e =
    elim (nat_lt n (days_in_month (pos y) m)) as (λ b. nat_lt n (days_in_month (pos y) m) ≡ b → InMonth (pos y) count (cond b (m, n + 1) (in_months k y (m + 1) (n - days_in_month (pos y) m)))) [
      | true ↦ λ t. record { counted = day_after_first (pos y) m n count e; month_low = low; month_high = omega arith; day_low = omega arith; day_high = let lt : n < days_in_month (pos y) m = ltb-true _ _ t in omega (arith, lt) }
      | false ↦ λ t.
          let ge : days_in_month (pos y) m ≤ n = ltb-false _ _ t in
          let next = day_count-next_month (pos y) m low in
          let more = days_of_months_more (pos y) m low in
          in_months-law k y (m + 1) (n - days_in_month (pos y) m) count (omega arith) (omega arith)
          (let back : m + 1 - 1 ≡ m = omega arith in rw back (omega (arith, more, ge, within)))
          (omega (arith, next, ge, e))
    ] refl

-- the date of a day is in the calendar, and counts to the day
pub record IsDateOf (day : ℕ) (d : Civil) : Type 0 where
  pub civil : IsCivilDate (pos d.year) d.month d.day
  pub counted : day_count (pos d.year) d.month d.day ≡ 4_371_953 + day
  pub early : d.year ≤ 2170

pub in_year-law : (count : ℕ) (a : ℕ × ℕ) → InYear count 1970 2170 a → InMonth (pos a.0) count (in_months 11 a.0 1 a.1)
in_year-law count a k = in_months-law 11 a.0 1 a.1 count (omega arith) (omega arith)
    (let z = days_of_months-zero (pos a.0) in let w = k.within in omega (arith, z, w)) k.counted

pub civil_of-law : (day : ℕ) → day ≤ 60_000 → IsDateOf day (civil_of day)
unfolding civil_of
civil_of-law day small =
    let ep = day_count-epoch in
    let k = in_years-law 200 1970 day (4_371_953 + day) 1970 2170 (omega arith) (omega arith) (omega arith) (omega (arith, ep)) in
    let m = in_year-law (4_371_953 + day) (in_years 200 1970 day) k in
    let y = in_years-law 200 1970 day (4_371_953 + day) 1970 2170 (omega arith) (omega arith) (omega arith) (omega (arith, ep)) in
    record {
      civil = (let l = y.later in let h = y.early in (omega (arith, signed_arith), omega (arith, signed_arith)), (m.month_low, m.month_high), (m.day_low, m.day_high));
      counted = m.counted;
      early = y.early;
    }

pub days_are : (y : ℤ) (m d day : ℕ) → day_count y m d ≡ 4_371_953 + day → days_from_civil y m d ≡ pos day
unfolding days_from_civil
days_are y m d day e = rw (e, day_count-epoch) (omega (arith, signed_arith))

-- a date that is counted to a day is the date of it
pub date_is : (d : Date) (day : ℕ) → day ≤ 60_000 → epoch_day d ≡ pos day
    → (d.year ≡ pos (civil_of day).year) × (d.month ≡ (civil_of day).month) × (d.day ≡ (civil_of day).day)
date_is d day small e =
    let law = civil_of-law day small in
    let other : Date = record { year = pos (civil_of day).year; month = (civil_of day).month; day = (civil_of day).day; year_in = law.civil.0; month_in = law.civil.1; day_in = law.civil.2 } in
    epoch_day_injective d other (e ∙ sym (days_are _ _ _ day law.counted))

pub days_of_years-law : (n : ℕ) → day_count (pos (1970 + n)) 1 1 ≡ 4_371_953 + days_of_years n
unfolding days_of_years
days_of_years-law zero = day_count-epoch
days_of_years-law (suc n) =
    let nx = next_year (1970 + n) in
    let ih = days_of_years-law n in
    let y : 1970 + suc n ≡ 1970 + n + 1 = omega arith in
    rw y (omega (arith, nx, ih))

pub day_number-count : (y m d : ℕ) → 1970 ≤ y → 1 ≤ d → day_count (pos y) m d ≡ 4_371_953 + day_number y m d
unfolding day_number
day_number-count y m d late low =
    let yl = days_of_years-law (y - 1970) in
    let same : 1970 + (y - 1970) ≡ y = omega arith in
    let yl2 : day_count (pos y) 1 1 ≡ 4_371_953 + days_of_years (y - 1970) = subst (λ (z : ℕ). day_count (pos z) 1 1 ≡ 4_371_953 + days_of_years (y - 1970)) same yl in
    let dy = day_count-day_of_year (pos y) m d low in
    omega (arith, dy, yl2)

pub years_30 : days_of_years 30 ≡ 10_957
unfolding days_of_years
years_30 = refl

pub years_130 : days_of_years 130 ≡ 47_482
unfolding days_of_years
years_130 = refl

pub days_of_years-mono : (a n : ℕ) → days_of_years a ≤ days_of_years (a + n)
unfolding days_of_years
days_of_years-mono a zero = let e : a + 0 ≡ a = omega arith in rw e (omega arith)
days_of_years-mono a (suc n) = let ih = days_of_years-mono a n in let e : a + suc n ≡ suc (a + n) = omega arith in rw e (omega (arith, ih))

-- the number of a day of the calendar from 2000 on
pub number_is : (d : Date) (y m n days : ℕ) → d.year ≡ pos y → d.month ≡ m → d.day ≡ n → 2000 ≤ y → epoch_day d +ℤ pos 4_371_587 ≡ pos days
    → (days ≡ day_number y m n + 4_371_587) × (10_957 ≤ day_number y m n)
unfolding day_number days_of_years
number_is d y m n days ey em en low e =
    let low_day : 1 ≤ n = let l = d.day_in.0 in omega arith in
    let count : day_count d.year d.month d.day ≡ 4_371_953 + day_number y m n = rw (ey, em, en) (day_number-count y m n (omega arith) low_day) in
    let at : epoch_day d ≡ pos (day_number y m n) = days_are d.year d.month d.day (day_number y m n) count in
    let sum : pos (day_number y m n) +ℤ pos 4_371_587 ≡ pos days = rw at at e in
    let start : 30 + (y - 2000) ≡ y - 1970 = omega arith in
    let lo = subst (λ (z : ℕ). days_of_years 30 ≤ days_of_years z) start (days_of_years-mono 30 (y - 2000)) in
    (omega (arith, signed_arith, sum), omega (arith, lo, years_30))

-- the first and the last years of the days that are read
not_before : (y m d day : ℕ) → IsDateOf day (record { year = y; month = m; day = d }) → 10_957 ≤ day → y < 2000 → ⊥
not_before y m d day law low before =
    let first = days_of_years-law 30 ∙ ap (λ (n : ℕ). 4_371_953 + n) years_30 in
    let less = day_count-lt_year (pos y) m d (pos 2000) 1 1 law.civil (omega arith) (omega (arith, signed_arith)) in
    let c = law.counted in
    omega (arith, first, less, c)

pub year_from : (day : ℕ) → 10_957 ≤ day → day ≤ 60_000 → 2000 ≤ (civil_of day).year
year_from day low high =
    let b : (civil_of day).year < 2000 → ⊥ = not_before _ _ _ day (civil_of-law day high) low in
    omega (arith, b)

last_of_2099 : day_number 2099 12 31 ≡ 47_481
unfolding day_number days_of_years days_of_months
last_of_2099 = refl

not_after : (y m d day : ℕ) → IsDateOf day (record { year = y; month = m; day = d }) → day < 47_482 → 2099 < y → ⊥
not_after y m d day law high after =
    let last = day_number-count 2099 12 31 (omega arith) (omega arith) ∙ ap (λ (n : ℕ). 4_371_953 + n) last_of_2099 in
    let less = day_count-lt_year (pos 2099) 12 31 (pos y) m d ((omega (arith, signed_arith), omega (arith, signed_arith)), (omega arith, omega arith), (omega arith, omega arith)) law.civil.2.0 (omega (arith, signed_arith)) in
    let c = law.counted in
    omega (arith, last, less, c)

pub year_until : (day : ℕ) → day ≤ 47_481 → (civil_of day).year ≤ 2099
year_until day high =
    let a : 2099 < (civil_of day).year → ⊥ = not_after _ _ _ day (civil_of-law day (omega arith)) (omega arith) in
    omega (arith, a)
