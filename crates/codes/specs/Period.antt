-- Periods of forecasts: DDHH/DDHH (WMO FM 51, 51.1.3).
use Rattle.std.specs.Prelude.{ℕ, nat_lt, if◌then◌else◌, List, [], ◌∷◌, Result, Ok, Err}
use Rattle.codes.specs.declared.fault.Why.{Why}
use Rattle.codes.specs.declared.fault.Why.TheVariants.{Missing, BadPeriod}
use Rattle.codes.specs.declared.fault.BadReport.{BadReport}
use Rattle.codes.specs.Cond.{is_period}
use Rattle.codes.specs.Moment.{written_moment, moment_or}

-- the moment at which a period begins or ends, of two digits each of day, hour and minute
abbrev pub end_of : List ℕ → ℕ → Result ℕ Why
end_of digits first_day = moment_or BadPeriod (written_moment digits first_day)

-- A fault of the first end has precedence over one of the second. The order of the ends is checked last.
abbrev pub ends : Result ℕ Why → Result ℕ Why → Result (ℕ × ℕ) Why
ends (Err why) second = Err why
ends (Ok from) (Err why) = Err why
ends (Ok from) (Ok to) = if nat_lt from to then Ok (from, to) else Err BadPeriod

-- the period of a group; a group that isn't four digits, / and four digits is `BadPeriod`
unfoldable pub period_of : List ℕ → ℕ → Result (ℕ × ℕ) Why
period_of (a ∷ b ∷ c ∷ d ∷ s ∷ e ∷ f ∷ g ∷ h ∷ []) first_day =
    if is_period (a ∷ b ∷ c ∷ d ∷ s ∷ e ∷ f ∷ g ∷ h ∷ [])
    then ends (end_of (a ∷ b ∷ c ∷ d ∷ 48 ∷ 48 ∷ []) first_day) (end_of (e ∷ f ∷ g ∷ h ∷ 48 ∷ 48 ∷ []) first_day)
    else Err BadPeriod
period_of _ first_day = Err BadPeriod

-- adds the group's number to an error
abbrev pub numbered : {A : Type 0} → ℕ → Result A Why → Result A BadReport
numbered n (Ok value) = Ok value
numbered n (Err why) = Err (record { group = n; why = why })

-- the period in the first of the remaining groups, which has number n
abbrev pub period_due : ℕ → List (List ℕ) → ℕ → Result (ℕ × ℕ) BadReport
period_due n [] first_day = Err (record { group = n; why = Missing })
period_due n (g ∷ gs) first_day = numbered n (period_of g first_day)
