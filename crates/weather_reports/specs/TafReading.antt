-- Reading the list of groups of a TAF (WMO FM 51).
use Rattle.std.specs.Prelude.{◌≡◌, ℕ, ◌+◌, ◌-◌, ◌/◌, ◌<◌, nat_lt, Bool, if◌then◌else◌, List, [], ◌∷◌, length, take, drop, All, Option, None, Some, Result, Ok, Err}
use Rattle.std.specs.List.{list_any, prefix_len}
use Rattle.desk_io.specs.Station.{Station, station_of}
use Rattle.codes.specs.Answers.{too_long}
use Rattle.codes.specs.Groups.{groups_of, first_of}
use Rattle.codes.specs.Moment.{time_of}
use Rattle.codes.specs.Period.{numbered, period_due}
use Rattle.codes.specs.declared.fault.Why.TheVariants.{Missing, NotStation}
use Rattle.codes.specs.declared.fault.BadReport.{BadReport}
use Rattle.weather_reports.specs.declared.forecast.Part.{Part}
use Rattle.weather_reports.specs.declared.forecast.PartKind.TheVariants.{Base}
use Rattle.weather_reports.specs.declared.forecast.Taf.{Taf}
use Rattle.weather_reports.specs.declared.forecast.TafState.{TafState}
use Rattle.weather_reports.specs.declared.forecast.TafState.TheVariants.{Normal, Nil, Cancelled}
use Rattle.weather_reports.specs.declared.reader.Head.{Head}
use Rattle.weather_reports.specs.Words.{is_amended, is_corrected, is_modifier, is_nil, is_cancelled}
use Rattle.weather_reports.specs.Parts.{◌>>=◌, part_of, parts_of, HasMoments, HasBase}
use Rattle.desk_time.specs.Limits.{IsMoment}

abbrev pub station_or_not : ℕ → Option Station → Result Station BadReport
station_or_not n None = Err (record { group = n; why = NotStation })
station_or_not n (Some station) = Ok station

-- the station that must be at group n
abbrev pub station_due : ℕ → List (List ℕ) → Result Station BadReport
station_due n [] = Err (record { group = n; why = Missing })
station_due n (g ∷ gs) = station_or_not n (station_of g)

-- the time that must be at group n
abbrev pub time_due : ℕ → List (List ℕ) → ℕ → Result ℕ BadReport
time_due n [] first_day = Err (record { group = n; why = Missing })
time_due n (g ∷ gs) first_day = numbered n (time_of g first_day)

abbrev pub forecast : Head → TafState → ℕ → ℕ → List Part → Taf
forecast h state from to parts =
    record { station = h.station; issued = h.issued; from = from; to = to; amended = h.amended; corrected = h.corrected; state = state; parts = parts }

-- the forecast of a base, whose groups begin at number n, and of the parts after it
abbrev pub with_parts : Head → ℕ → ℕ → ℕ → List (List ℕ) → Result Taf BadReport
with_parts h from to n gs =
    part_of Base from to n gs >>= λ base. parts_of [] n gs (h.issued / 1440 - 1) to >>= λ parts. Ok (forecast h Normal from to (base ∷ parts))

-- the groups after the validity: CNL, or the parts
abbrev pub after_validity : Head → ℕ → ℕ → ℕ → List (List ℕ) → Result Taf BadReport
after_validity h from to n gs =
    if is_cancelled (first_of gs) then Ok (forecast h Cancelled from to []) else with_parts h from to n gs

-- the groups after the time, numbered from n: NIL, or the validity
abbrev pub after_time : Head → ℕ → List (List ℕ) → Result Taf BadReport
after_time h n gs =
    if is_nil (first_of gs) then Ok (forecast h Nil h.issued h.issued [])
    else (period_due n gs (h.issued / 1440 - 1) >>= λ validity. after_validity h validity.0 validity.1 (n + 1) (drop 1 gs))

-- one of the modifiers is AMD
abbrev pub are_amended : List (List ℕ) → Bool
are_amended modifiers = list_any is_amended modifiers

-- one of the modifiers is COR
abbrev pub are_corrected : List (List ℕ) → Bool
are_corrected modifiers = list_any is_corrected modifiers

abbrev pub head_of : List (List ℕ) → Station → ℕ → Head
head_of modifiers station issued =
    record { station = station; issued = issued; amended = are_amended modifiers; corrected = are_corrected modifiers }

-- the groups after the station, numbered from n
abbrev pub after_station : List (List ℕ) → Station → ℕ → List (List ℕ) → ℕ → Result Taf BadReport
after_station modifiers station n gs first_day =
    time_due n gs first_day >>= λ issued. after_time (head_of modifiers station issued) (n + 1) (drop 1 gs)

-- the groups after AMD and COR, numbered from n
abbrev pub after_modifiers : List (List ℕ) → ℕ → List (List ℕ) → ℕ → Result Taf BadReport
after_modifiers modifiers n gs first_day = station_due n gs >>= λ station. after_station modifiers station (n + 1) (drop 1 gs) first_day

-- how many of the leading groups are AMD or COR
abbrev pub modifier_count : List (List ℕ) → ℕ
modifier_count gs = prefix_len is_modifier gs

-- The reading of groups that begin with TAF, or a fault at the first group that can't be read. The day of issue is
-- one of the five that begin three days before the day of receipt. Other days are among the five that begin one day
-- before the day of issue.
unfoldable pub reading : List (List ℕ) → ℕ → Result Taf BadReport
reading gs receipt =
    let words = drop 1 gs in
    let count = modifier_count words in
    after_modifiers (take count words) (2 + count) (drop count words) (receipt / 1440 - 3)

-- the reading of a text, or its fault
unfoldable pub taf_of : List ℕ → ℕ → Result Taf BadReport
taf_of text receipt = if nat_lt 2048 (length text) then Err too_long else reading (groups_of text) receipt

-- The validity begins before it ends. In a Nil TAF both are the moment of issue.
abbrev pub IsOrdered : TafState → ℕ → ℕ → ℕ → Type 0
IsOrdered Normal issued from to = from < to
IsOrdered Cancelled issued from to = from < to
IsOrdered Nil issued from to = (from ≡ issued) × (to ≡ issued)

-- the moments of a forecast and its parts can be read, and its validity is ordered
pub record IsInReach (taf : Taf) : Type 0 where
  pub issued : IsMoment taf.issued
  pub from : IsMoment taf.from
  pub to : IsMoment taf.to
  pub order : IsOrdered taf.state taf.issued taf.from taf.to
  pub parts : All HasMoments taf.parts

-- a normal forecast has a base and changes; any other has no parts
abbrev pub AreParts : TafState → ℕ → ℕ → List Part → Type 0
AreParts Normal from to parts = HasBase from to parts
AreParts Cancelled from to parts = parts ≡ []
AreParts Nil from to parts = parts ≡ []
