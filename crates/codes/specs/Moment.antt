-- Moments in reports: day of the month, hour and minute (FMH-1, 12.6.3).
use Rattle.std.specs.Prelude.{ℕ, ◌==◌, if◌then◌else◌, List, [], ◌∷◌, Option, None, Some, Result, Ok, Err}
use Rattle.desk_time.specs.Digits.{pair, ◌>>=◌}
use Rattle.desk_time.specs.Moments.{resolved}
use Rattle.desk_time.specs.declared.moments.BadDay.{BadDay}
use Rattle.desk_time.specs.declared.moments.BadDay.TheVariants.{BadTime, OutOfReach}
use Rattle.codes.specs.declared.fault.Why.{Why}
use Rattle.codes.specs.declared.fault.Why.TheVariants.{NotTime, DayOutOfReach}

-- the moment of two digits each of day, hour and minute; the day is one of the five from `first_day`
abbrev pub written_moment : List ℕ → ℕ → Option (Result ℕ BadDay)
written_moment (a ∷ b ∷ c ∷ d ∷ e ∷ f ∷ []) first_day =
    pair a b >>= λ day. pair c d >>= λ hour. pair e f >>= λ minute. Some (resolved first_day day hour minute)
written_moment _ first_day = None

-- the moment, or the reason why there is none: `miss` for malformed digits or an invalid time
abbrev pub moment_or : Why → Option (Result ℕ BadDay) → Result ℕ Why
moment_or miss None = Err miss
moment_or miss (Some (Ok at)) = Ok at
moment_or miss (Some (Err BadTime)) = Err miss
moment_or miss (Some (Err OutOfReach)) = Err DayOutOfReach

-- the moment of a group DDHHMMZ
unfoldable pub time_of : List ℕ → ℕ → Result ℕ Why
time_of (a ∷ b ∷ c ∷ d ∷ e ∷ f ∷ z ∷ []) first_day =
    if z == 90 then moment_or NotTime (written_moment (a ∷ b ∷ c ∷ d ∷ e ∷ f ∷ []) first_day) else Err NotTime
time_of _ first_day = Err NotTime
