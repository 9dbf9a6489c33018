-- What three months after a day is.
use Rattle.std.proofs.Common.{◌≡◌, ℕ, suc, ◌+◌, ◌-◌, ◌*◌, ◌<◌, ◌≤◌, min, nat_lt, true, false, pos, refl, sym, ap, subst, arith}
use Rattle.std.proofs.lemmas.Bool.{ltb-true, ltb-false}
use Rattle.jiff_core.proofs.SignedLemmas.{signed_arith}
use Rattle.jiff_core.specs.Calendar.{days_in_year, days_in_month, days_of_months, IsCivilDate}
use Rattle.jiff_core.proofs.CalendarLemmas.{day_of_year_bound, days_in_month_bounds, days_of_months_mono}
use Rattle.jiff_core.specs.declared.civil.date.Date.{Date}
use Rattle.desk_time.specs.Calendar.{Civil, civil_of, days_of_years, day_number, third_month, third_year, three_months, AreThreeMonths}
use Rattle.desk_time.proofs.CalendarLaws.{civil_of-law, date_is, days_are, day_number-count, days_of_years-mono, years_30, years_130, year_from, year_until}

is_civil : (y m d : ℕ) → y ≤ 9999 → 1 ≤ m → m ≤ 12 → 1 ≤ d → d ≤ days_in_month (pos y) m → IsCivilDate (pos y) m d
is_civil y m d yh ml mh dl dh = ((omega (arith, signed_arith), omega (arith, signed_arith)), (ml, mh), (dl, dh))

march : days_of_months (pos 2100) 2 ≡ 59
unfolding days_of_months
march = refl

year_more : (y : ℕ) → 1970 ≤ y → days_of_years (suc (y - 1970)) ≡ days_of_years (y - 1970) + days_in_year (pos y)
unfolding days_of_years
year_more y late = let same : 1970 + (y - 1970) ≡ y = omega arith in ap (λ (z : ℕ). days_of_years (y - 1970) + days_in_year (pos z)) same

-- the days of a date up to March 2100
until_march : (y m d : ℕ) → 2000 ≤ y → IsCivilDate (pos y) m d → 12 * y + m ≤ 25_203 → day_number y m d ≤ 47_571
unfolding day_number
until_march y m d low civil early =
    let db = day_of_year_bound (pos y) m d civil in
    let dm = days_in_month_bounds (pos y) m in
    let dh : d ≤ days_in_month (pos y) m = civil.2.1 in
    let ml : 1 ≤ m = civil.1.0 in
    elim (nat_lt y 2100) as (λ b. nat_lt y 2100 ≡ b → days_of_years (y - 1970) + days_of_months (pos y) (m - 1) + (d - 1) ≤ 47_571) [
      | true ↦ λ t.
          let before : y < 2100 = ltb-true y 2100 t in
          let end : suc (y - 1970) + (2099 - y) ≡ 130 = omega arith in
          let hi = subst (λ (z : ℕ). days_of_years (suc (y - 1970)) ≤ days_of_years z) end (days_of_years-mono (suc (y - 1970)) (2099 - y)) in
          let more = year_more y (omega arith) in
          omega (arith, db, hi, more, years_130)
      | false ↦ λ t.
          let after : 2100 ≤ y = ltb-false y 2100 t in
          let is : y ≡ 2100 = omega arith in
          let few : m - 1 ≤ 2 = omega arith in
          let mono = days_of_months_mono (pos 2100) (m - 1) 2 few in
          let start : days_of_years (y - 1970) ≡ 47_482 = subst (λ (z : ℕ). days_of_years (z - 1970) ≡ 47_482) (sym is) years_130 in
          let months : days_of_months (pos y) (m - 1) ≤ 59 = subst (λ (z : ℕ). days_of_months (pos z) (m - 1) ≤ 59) (sym is) (omega (arith, mono, march)) in
          omega (arith, start, months, dm.0, dh)
    ] refl

-- the date of the day of a date
date_again : (y m d : ℕ) → 1970 ≤ y → y ≤ 9999 → IsCivilDate (pos y) m d → day_number y m d ≤ 60_000
    → ((civil_of (day_number y m d)).year ≡ y) × ((civil_of (day_number y m d)).month ≡ m) × ((civil_of (day_number y m d)).day ≡ d)
date_again y m d low high civil few =
    let date : Date = record { year = pos y; month = m; day = d; year_in = civil.0; month_in = civil.1; day_in = civil.2 } in
    let same = date_is date (day_number y m d) few (days_are (pos y) m d (day_number y m d) (day_number-count y m d low civil.2.0)) in
    let y_is = same.0 in
    (omega (arith, signed_arith, y_is), sym same.1, sym same.2)

-- a date and the day of the third month after it
pub record IsThirdMonth (date : Civil) : Type 0 where
  pub civil : IsCivilDate (pos (third_year date.year date.month)) (third_month date.month) (min date.day (days_in_month (pos (third_year date.year date.month)) (third_month date.month)))
  pub year_low : 2000 ≤ third_year date.year date.month
  pub year_high : third_year date.year date.month ≤ 2100
  pub months : 12 * third_year date.year date.month + third_month date.month ≡ 12 * date.year + date.month + 3
  pub early : 12 * third_year date.year date.month + third_month date.month ≤ 25_203

third_of : (day : ℕ) → 10_957 ≤ day → day ≤ 47_481 → IsThirdMonth (civil_of day)
third_of day low high =
    let law = civil_of-law day (omega arith) in
    let yl = year_from day low (omega arith) in
    let yh = year_until day high in
    let ml : 1 ≤ (civil_of day).month = law.civil.1.0 in
    let mh : (civil_of day).month ≤ 12 = law.civil.1.1 in
    let dl : 1 ≤ (civil_of day).day = law.civil.2.0 in
    let dm = days_in_month_bounds (pos (third_year (civil_of day).year (civil_of day).month)) (third_month (civil_of day).month) in
    record {
      civil = is_civil _ _ _ (omega arith) (omega arith) (omega arith) (omega (arith, dm.1)) (omega arith);
      year_low = omega arith;
      year_high = omega arith;
      months = omega arith;
      early = omega arith;
    }

pub three_months_range : (day : ℕ) → 10_957 ≤ day → day ≤ 47_481 → three_months day ≤ 47_571
unfolding three_months
three_months_range day low high =
    let t = third_of day low high in
    until_march _ _ _ t.year_low t.civil t.early

from_2000 : (y m d : ℕ) → 2000 ≤ y → 10_957 ≤ day_number y m d
unfolding day_number days_of_years
from_2000 y m d low =
    let start : 30 + (y - 2000) ≡ y - 1970 = omega arith in
    let least = subst (λ (z : ℕ). days_of_years 30 ≤ days_of_years z) start (days_of_years-mono 30 (y - 2000)) in
    omega (arith, least, years_30)

pub three_months_low : (day : ℕ) → 10_957 ≤ day → day ≤ 47_481 → 10_957 ≤ three_months day
unfolding three_months
three_months_low day low high = from_2000 _ _ _ (third_of day low high).year_low

pub three_months_later : (day : ℕ) → 10_957 ≤ day → day ≤ 47_481 → AreThreeMonths (civil_of day) (civil_of (three_months day))
unfolding three_months
three_months_later day low high =
    let t = third_of day low high in
    let again = date_again _ _ _ (omega (arith, t.year_low)) (omega (arith, t.year_high)) t.civil (omega (arith, until_march _ _ _ t.year_low t.civil t.early)) in
    record {
      months = rw (again.0, again.1) t.months;
      month_low = rw again.1 t.civil.1.0;
      month_high = rw again.1 t.civil.1.1;
      same = rw (again.0, again.1, again.2) (λ within. omega arith);
      last = rw (again.0, again.1, again.2) (λ beyond. omega arith);
    }
