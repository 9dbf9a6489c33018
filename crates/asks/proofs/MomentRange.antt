-- Every moment that is read lies from 2000 to 2099.
use Rattle.std.proofs.Common.{◌≡◌, ℕ, ◌+◌, ◌*◌, ◌<◌, ◌≤◌, true, ◌&&◌, ◌==◌, List, [], ◌∷◌, Some, IfSome, pos, refl, ap, ◌∙◌, arith, nat_le, nat_lt}
use Rattle.std.proofs.lemmas.Bool.{and_parts, leb-true, ltb-true}
use Rattle.jiff_core.proofs.SignedLemmas.{signed_arith}
use Rattle.jiff_core.specs.Calendar.{days_in_month, days_of_months}
use Rattle.jiff_core.proofs.CalendarLemmas.{day_count-lt_year}
use Rattle.desk_time.specs.Calendar.{days_of_years, day_number, day_at, is_date}
use Rattle.desk_time.specs.Digits.{pair, ◌>>=◌}
use Rattle.desk_time.specs.Limits.{last_moment, IsMoment}
use Rattle.desk_time.specs.Moments.{written, up_to, minute_of, date_at, time_at, time_of}
use Rattle.desk_time.proofs.CalendarLaws.{day_number-count}
use Rattle.desk_time.proofs.Chains.{bind_if, bind_any, under}

last_of_1999 : day_number 1999 12 31 ≡ 10_956
unfolding day_number days_of_years days_of_months
last_of_1999 = refl

-- a day from 2000 on
abbrev IsDay : ℕ → Type 0
IsDay day = 10_957 ≤ day

not_before : (y m d : ℕ) → 2000 ≤ y → 1 ≤ d → 10_957 ≤ day_number y m d
not_before y m d year day =
    let last = day_number-count 1999 12 31 (omega arith) (omega arith) ∙ ap (λ (n : ℕ). 4_371_953 + n) last_of_1999 in
    let less = day_count-lt_year (pos 1999) 12 31 (pos y) m d ((omega (arith, signed_arith), omega (arith, signed_arith)), (omega arith, omega arith), (omega arith, omega arith)) day (omega (arith, signed_arith)) in
    omega (arith, last, less, day_number-count y m d (omega arith) day)

date_within : (y m d : ℕ) → is_date y m d ≡ true → IsDay (day_number y m d)
date_within y m d is =
    let a = and_parts _ (nat_le d (days_in_month (pos y) m)) is in
    let b = and_parts _ (nat_le 1 d) a.0 in
    let e = and_parts _ (nat_le m 12) b.0 in
    let f = and_parts _ (nat_le 1 m) e.0 in
    let g = and_parts (nat_le 2000 y) (nat_le y 9999) f.0 in
    not_before y m d (leb-true 2000 y g.0) (leb-true 1 d b.1)

day_within : (y m d : ℕ) → IfSome (day_at y m d) IsDay
unfolding day_at
day_within y m d = under (is_date y m d) (Some (day_number y m d)) IsDay (date_within y m d)

date_read : (a b c d e f g h : ℕ) → IfSome (date_at (a ∷ b ∷ c ∷ d ∷ e ∷ f ∷ g ∷ h ∷ [])) IsDay
date_read a b c d e f g h =
    bind_any (pair a b) _ IsDay (λ century. bind_any (pair c d) _ IsDay (λ year. bind_any (pair e f) _ IsDay (λ month. bind_any (pair g h) _ IsDay (λ day. day_within (100 * century + year) month day))))

abbrev IsTime : ℕ → Type 0
IsTime time = time < 1440

-- a moment from 2000 on
abbrev IsLate : ℕ → Type 0
IsLate at = 15_778_080 ≤ at

time_within : (hour minute : ℕ) → IfSome (time_of hour minute) IsTime
time_within hour minute = under (nat_lt hour 24 && nat_lt minute 60) (Some (60 * hour + minute)) IsTime (λ is.
    let parts = and_parts (nat_lt hour 24) (nat_lt minute 60) is in
    let h = ltb-true hour 24 parts.0 in
    let m = ltb-true minute 60 parts.1 in
    omega arith)

time_read : (i j k l : ℕ) → IfSome (time_at (i ∷ j ∷ k ∷ l ∷ [])) IsTime
time_read i j k l = bind_any (pair i j) _ IsTime (λ hour. bind_any (pair k l) _ IsTime (λ minute. time_within hour minute))

both_within : (a b c d e f g h i j k l : ℕ)
    → IfSome (date_at (a ∷ b ∷ c ∷ d ∷ e ∷ f ∷ g ∷ h ∷ []) >>= (λ day. time_at (i ∷ j ∷ k ∷ l ∷ []) >>= (λ time. Some (1440 * day + time)))) IsLate
both_within a b c d e f g h i j k l =
    bind_if (date_at (a ∷ b ∷ c ∷ d ∷ e ∷ f ∷ g ∷ h ∷ [])) _ IsDay IsLate (date_read a b c d e f g h) (λ day is.
    bind_if (time_at (i ∷ j ∷ k ∷ l ∷ [])) _ IsTime IsLate (time_read i j k l) (λ time few. omega arith))

written_late : (text : List ℕ) → IfSome (written text) IsLate
unfolding written
written_late [] = tt
written_late (a ∷ []) = tt
written_late (a ∷ b ∷ []) = tt
written_late (a ∷ b ∷ c ∷ []) = tt
written_late (a ∷ b ∷ c ∷ d ∷ []) = tt
written_late (a ∷ b ∷ c ∷ d ∷ m1 ∷ []) = tt
written_late (a ∷ b ∷ c ∷ d ∷ m1 ∷ e ∷ []) = tt
written_late (a ∷ b ∷ c ∷ d ∷ m1 ∷ e ∷ f ∷ []) = tt
written_late (a ∷ b ∷ c ∷ d ∷ m1 ∷ e ∷ f ∷ m2 ∷ []) = tt
written_late (a ∷ b ∷ c ∷ d ∷ m1 ∷ e ∷ f ∷ m2 ∷ g ∷ []) = tt
written_late (a ∷ b ∷ c ∷ d ∷ m1 ∷ e ∷ f ∷ m2 ∷ g ∷ h ∷ []) = tt
written_late (a ∷ b ∷ c ∷ d ∷ m1 ∷ e ∷ f ∷ m2 ∷ g ∷ h ∷ m3 ∷ []) = tt
written_late (a ∷ b ∷ c ∷ d ∷ m1 ∷ e ∷ f ∷ m2 ∷ g ∷ h ∷ m3 ∷ i ∷ []) = tt
written_late (a ∷ b ∷ c ∷ d ∷ m1 ∷ e ∷ f ∷ m2 ∷ g ∷ h ∷ m3 ∷ i ∷ j ∷ []) = tt
written_late (a ∷ b ∷ c ∷ d ∷ m1 ∷ e ∷ f ∷ m2 ∷ g ∷ h ∷ m3 ∷ i ∷ j ∷ m4 ∷ []) = tt
written_late (a ∷ b ∷ c ∷ d ∷ m1 ∷ e ∷ f ∷ m2 ∷ g ∷ h ∷ m3 ∷ i ∷ j ∷ m4 ∷ k ∷ []) = tt
written_late (a ∷ b ∷ c ∷ d ∷ m1 ∷ e ∷ f ∷ m2 ∷ g ∷ h ∷ m3 ∷ i ∷ j ∷ m4 ∷ k ∷ l ∷ []) = tt
written_late (a ∷ b ∷ c ∷ d ∷ m1 ∷ e ∷ f ∷ m2 ∷ g ∷ h ∷ m3 ∷ i ∷ j ∷ m4 ∷ k ∷ l ∷ m5 ∷ []) =
    under ((m1 == 45) && (m2 == 45) && (m3 == 84) && (m4 == 58) && (m5 == 90)) _ IsLate (λ signs. both_within a b c d e f g h i j k l)
written_late (a ∷ b ∷ c ∷ d ∷ m1 ∷ e ∷ f ∷ m2 ∷ g ∷ h ∷ m3 ∷ i ∷ j ∷ m4 ∷ k ∷ l ∷ m5 ∷ n ∷ more) = tt

up_to_last : (at : ℕ) → IsLate at → IfSome (up_to last_moment at) IsMoment
up_to_last at late = under (nat_le at last_moment) (Some at) IsMoment (λ is. (late, leb-true at last_moment is))

pub minute_within : (text : List ℕ) → IfSome (minute_of text) IsMoment
unfolding minute_of
minute_within text = bind_if (written text) (up_to last_moment) IsLate IsMoment (written_late text) up_to_last
