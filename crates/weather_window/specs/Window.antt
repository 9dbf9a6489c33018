-- The controlling weather at a moment, and the worst over a time window.
use Rattle.std.specs.Prelude.{ℕ, ◌+◌, ◌-◌, if◌then◌else◌, is_none, List, [], ◌∷◌, map, filter_map, Option, None, Some}
use Rattle.std.specs.List.{list_any, range_with_len}
use Rattle.codes.specs.Cond.{lesser}
use Rattle.codes.specs.declared.cond.Cond.{Cond}
use Rattle.weather_reports.specs.declared.metar.Metar.{Metar}
use Rattle.weather_reports.specs.declared.forecast.Taf.{Taf}
use Rattle.weather_window.specs.Values.{Element, ceiling, visibility, values_at}

-- the least of the values; unknown if there are none
abbrev pub least_of : List ℕ → Option ℕ
least_of [] = None
least_of (x ∷ xs) = lesser (Some x) (least_of xs)

-- the least value of an element at a moment
unfoldable pub value_at : Element → Option Taf → Option Metar → ℕ → ℕ → Option ℕ
value_at element taf metar hold m = least_of (values_at element taf metar hold m)

-- ceiling and visibility at a moment
unfoldable pub cond_at : Option Taf → Option Metar → ℕ → ℕ → Cond
cond_at taf metar hold m = record { ceiling = value_at ceiling taf metar hold m; vis = value_at visibility taf metar hold m }

-- all minutes from `from` to `to`, both included
abbrev pub minutes : ℕ → ℕ → List ℕ
minutes from to = range_with_len from (to + 1 - from)

-- the least value; unknown if any value is unknown
abbrev pub worst_of : List (Option ℕ) → Option ℕ
worst_of values = if list_any is_none values then None else least_of (filter_map (λ value. value) values)

-- the worst value of an element over every minute
unfoldable pub worst_value : Element → Option Taf → Option Metar → ℕ → ℕ → ℕ → Option ℕ
worst_value element taf metar hold from to = worst_of (map (value_at element taf metar hold) (minutes from to))

-- the worst of every minute, for each element separately
unfoldable pub worst_cond : Option Taf → Option Metar → ℕ → ℕ → ℕ → Cond
worst_cond taf metar hold from to =
    record { ceiling = worst_value ceiling taf metar hold from to; vis = worst_value visibility taf metar hold from to }
