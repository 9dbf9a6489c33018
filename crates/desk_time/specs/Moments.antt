-- Moments in minutes since 1970-01-01 00:00 UTC: reading, printing, and finding them by day of the month.
use Rattle.std.specs.Prelude.{◌≡◌, ◌↔◌, ◌<◌, ◌≤◌, Bool, true, false, ℕ, zero, suc, ◌+◌, ◌*◌, ◌/◌, ◌%◌, nat_lt, nat_le, ◌==◌, ◌&&◌, ◌||◌, if◌then◌else◌, List, [], ◌∷◌, ◌++◌, Option, None, Some, Result, Ok, Err}
use Rattle.desk_time.specs.Digits.{pair, ◌>>=◌}
use Rattle.desk_time.specs.Calendar.{Civil, civil_of, day_of_month, day_at}
use Rattle.desk_time.specs.declared.moments.BadDay.{BadDay}
use Rattle.desk_time.specs.declared.moments.BadDay.TheVariants.{BadTime, OutOfReach}
use Rattle.desk_time.specs.Limits.{IsMoment, first_moment, last_moment, last_shown}

-- the first of k days from `from` on that has that day of the month
abbrev pub day_named : ℕ → ℕ → ℕ → Option ℕ
day_named zero from day = None
day_named (suc k) from day = if day_of_month from == day then Some from else day_named k (from + 1) day

abbrev pub in_reach : ℕ → Result ℕ BadDay
in_reach at = if nat_le first_moment at && nat_le at last_moment then Ok at else Err OutOfReach

abbrev pub at_time : Option ℕ → ℕ → ℕ → Result ℕ BadDay
at_time None hour minute = Err OutOfReach
at_time (Some day) hour minute = in_reach (1440 * day + 60 * hour + minute)

abbrev pub is_time : ℕ → ℕ → ℕ → Bool
is_time day hour minute = nat_le 1 day && nat_le day 31 && nat_le minute 59 && (nat_lt hour 24 || (hour == 24 && minute == 0))

-- the moment at that time of the day, among the five days from `first_day`, that has that day of the month
abbrev pub resolved : ℕ → ℕ → ℕ → ℕ → Result ℕ BadDay
resolved first_day day hour minute =
    if is_time day hour minute then at_time (day_named 5 first_day day) hour minute else Err BadTime

-- a day among the five from `first_day` that has that day of the month
pub record IsOfFive (first_day day d : ℕ) : Type 0 where
  pub from : first_day ≤ d
  pub within : d < first_day + 5
  pub named : day_of_month d ≡ day

-- The result for a day of the month and a time. A valid time gives the moment on the matching day of the five. If
-- there is no such day, or the moment can't be read, it gives `OutOfReach`.
pub record Resolves (first_day day hour minute : ℕ) (result : Result ℕ BadDay) : Type 0 where
  pub reached : is_time day hour minute ≡ true → (d : ℕ) → IsOfFive first_day day d → IsMoment (1440 * d + 60 * hour + minute) → result ≡ Ok (1440 * d + 60 * hour + minute)
  pub beyond : is_time day hour minute ≡ true → (d : ℕ) → IsOfFive first_day day d → (IsMoment (1440 * d + 60 * hour + minute) → ⊥) → result ≡ Err OutOfReach
  pub unnamed : is_time day hour minute ≡ true → ((d : ℕ) → IsOfFive first_day day d → ⊥) → result ≡ Err OutOfReach
  pub bad_time : (result ≡ Err BadTime) ↔ (is_time day hour minute ≡ false)

abbrev pub two : ℕ → List ℕ
two n = (48 + n / 10) ∷ (48 + n % 10) ∷ []

-- the text of a date, such as 2025-03-12
abbrev pub date_text : Civil → List ℕ
date_text d = two (d.year / 100) ++ two (d.year % 100) ++ (45 ∷ two d.month) ++ (45 ∷ two d.day)

-- the text of a moment, such as 2025-03-12T17:00Z
abbrev pub shown : ℕ → List ℕ
shown at = date_text (civil_of (at / 1440)) ++ (84 ∷ two (at % 1440 / 60)) ++ (58 ∷ two (at % 1440 % 60)) ++ 90 ∷ []

abbrev pub time_of : ℕ → ℕ → Option ℕ
time_of hour minute = if nat_lt hour 24 && nat_lt minute 60 then Some (60 * hour + minute) else None

-- the day of a date in eight digits
abbrev pub date_at : List ℕ → Option ℕ
date_at (a ∷ b ∷ c ∷ d ∷ e ∷ f ∷ g ∷ h ∷ []) = do
  century ← pair a b
  year ← pair c d
  month ← pair e f
  day ← pair g h
  day_at (100 * century + year) month day
date_at _ = None

-- the minute of the day of a time in four digits
abbrev pub time_at : List ℕ → Option ℕ
time_at (a ∷ b ∷ c ∷ d ∷ []) = do
  hour ← pair a b
  minute ← pair c d
  time_of hour minute
time_at _ = None

-- the moment of a text such as 2025-03-12T17:00Z, from 2000 to 9999
unfoldable pub written : List ℕ → Option ℕ
written (a ∷ b ∷ c ∷ d ∷ m1 ∷ e ∷ f ∷ m2 ∷ g ∷ h ∷ m3 ∷ i ∷ j ∷ m4 ∷ k ∷ l ∷ m5 ∷ []) =
    if (m1 == 45) && (m2 == 45) && (m3 == 84) && (m4 == 58) && (m5 == 90) then (do
      day ← date_at (a ∷ b ∷ c ∷ d ∷ e ∷ f ∷ g ∷ h ∷ [])
      time ← time_at (i ∷ j ∷ k ∷ l ∷ [])
      Some (1440 * day + time)) else None
written _ = None

abbrev pub up_to : ℕ → ℕ → Option ℕ
up_to last at = if nat_le at last then Some at else None

-- the moment of a text such as 2025-03-12T17:00Z, from `first_moment` to `last_moment`
unfoldable pub minute_of : List ℕ → Option ℕ
minute_of text = written text >>= up_to last_moment

-- the same, up to `last_shown`
unfoldable pub shown_of : List ℕ → Option ℕ
shown_of text = written text >>= up_to last_shown
