-- The moments at which the controlling weather can change.
use Rattle.std.specs.Prelude.{ℕ, ◌+◌, Bool, ◌&&◌, nat_le, nat_lt, List, [], ◌∷◌, ◌++◌, filter, length, Option, None, Some}
use Rattle.weather_reports.specs.declared.metar.Metar.{Metar}
use Rattle.weather_reports.specs.declared.forecast.Part.{Part}
use Rattle.weather_reports.specs.declared.forecast.Taf.{Taf}
use Rattle.weather_window.specs.Window.{least_of}

-- the first moment of each part, its last moment, and the minute after it
abbrev pub part_changes : List Part → List ℕ
part_changes [] = []
part_changes (p ∷ ps) = p.from ∷ p.to ∷ (p.to + 1) ∷ part_changes ps

-- the first moment of validity, the minute after its last, and the changes of the parts
abbrev pub forecast_changes : Option Taf → List ℕ
forecast_changes None = []
forecast_changes (Some taf) = taf.from ∷ (taf.to + 1) ∷ part_changes taf.parts

-- the observation of a report, and the minute at which it no longer counts
abbrev pub report_changes : ℕ → Option Metar → List ℕ
report_changes hold None = []
report_changes hold (Some metar) = metar.observed ∷ (metar.observed + hold + 1) ∷ []

-- all moments of change
abbrev pub changes : Option Taf → Option Metar → ℕ → List ℕ
changes taf metar hold = report_changes hold metar ++ forecast_changes taf

-- later than `after`, and not later than `to`
abbrev pub is_between : ℕ → ℕ → ℕ → Bool
is_between after to m = nat_lt after m && nat_le m to

-- the moments of change later than `after`, and not later than `to`
abbrev pub changes_between : Option Taf → Option Metar → ℕ → ℕ → ℕ → List ℕ
changes_between taf metar hold after to = filter (is_between after to) (changes taf metar hold)

-- the first of them
unfoldable pub next_change : Option Taf → Option Metar → ℕ → ℕ → ℕ → Option ℕ
next_change taf metar hold after to = least_of (changes_between taf metar hold after to)

-- the number of parts of a forecast
abbrev pub part_count : Option Taf → ℕ
part_count None = 0
part_count (Some taf) = length taf.parts
