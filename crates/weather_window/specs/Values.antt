-- The ceilings or visibilities that forecast and report give at a moment (WMO FM 51; 14 CFR 121.613 to 121.625).
use Rattle.std.specs.Prelude.{ℕ, ◌+◌, Bool, true, false, ◌&&◌, not, nat_le, nat_lt, if◌then◌else◌, List, [], ◌∷◌, ◌++◌, filter, filter_map, option_to_list, Option, None, Some}
use Rattle.std.specs.List.{list_any}
use Rattle.desk_time.specs.Digits.{or_else}
use Rattle.codes.specs.declared.cond.Cond.{Cond}
use Rattle.weather_reports.specs.declared.metar.Metar.{Metar}
use Rattle.weather_reports.specs.declared.forecast.Part.{Part}
use Rattle.weather_reports.specs.declared.forecast.PartKind.{PartKind}
use Rattle.weather_reports.specs.declared.forecast.PartKind.TheVariants.{Base, From, Becoming, Tempo, Prob}
use Rattle.weather_reports.specs.declared.forecast.Taf.{Taf}
use Rattle.weather_reports.specs.declared.forecast.TafState.{TafState}
use Rattle.weather_reports.specs.declared.forecast.TafState.TheVariants.{Normal, Nil, Cancelled}

-- an element of a condition: ceiling or visibility
abbrev pub Element : Type 0
Element = Cond → Option ℕ

abbrev pub ceiling : Element
ceiling cond = cond.ceiling

abbrev pub visibility : Element
visibility cond = cond.vis

-- at or after `from`, and at or before `to`
abbrev pub is_within : ℕ → ℕ → ℕ → Bool
is_within from to m = nat_le from m && nat_le m to

-- parts of that kind replace all earlier parts
abbrev pub replaces : PartKind → Bool
replaces Base = true
replaces From = true
replaces Becoming = false
replaces Tempo = false
replaces Prob = false

abbrev pub is_becoming : PartKind → Bool
is_becoming Base = false
is_becoming From = false
is_becoming Becoming = true
is_becoming Tempo = false
is_becoming Prob = false

-- parts of that kind hold temporarily, or may hold
abbrev pub is_temporary : PartKind → Bool
is_temporary Base = false
is_temporary From = false
is_temporary Becoming = false
is_temporary Tempo = true
is_temporary Prob = true

-- the part has replaced all earlier parts
abbrev pub has_replaced : ℕ → Part → Bool
has_replaced m p = replaces p.kind && nat_le p.from m

-- The last part that has replaced all earlier ones, and the parts after it. If none has, all parts: the first is the
-- base.
abbrev pub in_force : ℕ → List Part → List Part
in_force m [] = []
in_force m (p ∷ ps) = if list_any (has_replaced m) ps then in_force m ps else p ∷ ps

-- the change is finished
abbrev pub has_become : ℕ → Part → Bool
has_become m p = is_becoming p.kind && nat_le p.to m

-- the change is in progress
abbrev pub is_changing : ℕ → Part → Bool
is_changing m p = is_becoming p.kind && nat_le p.from m && nat_lt m p.to

-- the temporary part is within its period
abbrev pub may_hold : ℕ → Part → Bool
may_hold m p = is_temporary p.kind && is_within p.from p.to m

-- the value of the last part that gives the element
abbrev pub last_named : Element → List Part → Option ℕ
last_named element [] = None
last_named element (p ∷ ps) = or_else (last_named element ps) (element p.cond)

-- the values of all parts that give the element
abbrev pub all_named : Element → List Part → List ℕ
all_named element ps = filter_map (λ p. element p.cond) ps

-- The values of the parts in force: the last value that lasts, those of changes in progress, and those of temporary
-- parts.
abbrev pub values_in_force : Element → ℕ → List Part → List ℕ
values_in_force element m [] = []
values_in_force element m (s ∷ after) =
    option_to_list (last_named element (s ∷ filter (has_become m) after))
    ++ all_named element (filter (is_changing m) after)
    ++ all_named element (filter (may_hold m) after)

-- the values of a forecast's parts at a moment
unfoldable pub part_values : Element → ℕ → List Part → List ℕ
part_values element m parts = values_in_force element m (in_force m parts)

abbrev pub is_normal : TafState → Bool
is_normal Normal = true
is_normal Nil = false
is_normal Cancelled = false

-- the values of a normal forecast within its validity; no other forecast has any
abbrev pub forecast_values : Element → ℕ → Option Taf → List ℕ
forecast_values element m None = []
forecast_values element m (Some taf) =
    if is_normal taf.state && is_within taf.from taf.to m then part_values element m taf.parts else []

-- the value of a report, from its observation on for `hold` minutes
abbrev pub report_values : Element → ℕ → ℕ → Option Metar → List ℕ
report_values element hold m None = []
report_values element hold m (Some metar) =
    if not metar.nil && is_within metar.observed (metar.observed + hold) m then option_to_list (element metar.cond) else []

-- the values that forecast and report give at a moment
abbrev pub values_at : Element → Option Taf → Option Metar → ℕ → ℕ → List ℕ
values_at element taf metar hold m = forecast_values element m taf ++ report_values element hold m metar
