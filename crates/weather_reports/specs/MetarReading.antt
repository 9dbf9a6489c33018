-- Reading the list of groups of a METAR or SPECI (FMH-1, chapter 12; WMO FM 15).
use Rattle.std.specs.Prelude.{ℕ, ◌-◌, ◌/◌, ◌+◌, nat_lt, Bool, ◌||◌, if◌then◌else◌, true, false, List, [], ◌∷◌, length, take, Option, None, Some, Result, Ok, Err, codes}
use Rattle.std.specs.Str.{bytes_eq}
use Rattle.std.specs.List.{list_any}
use Rattle.desk_io.specs.Station.{Station, station_of}
use Rattle.codes.specs.Answers.{too_long}
use Rattle.codes.specs.Groups.{groups_of, first_of}
use Rattle.codes.specs.Moment.{time_of}
use Rattle.codes.specs.Cond.{stretch_of}
use Rattle.codes.specs.declared.cond.Stretch.{Stretch}
use Rattle.codes.specs.declared.cond.Cond.{Cond}
use Rattle.codes.specs.declared.fault.Why.{Why}
use Rattle.codes.specs.declared.fault.Why.TheVariants.{Missing, NotStation}
use Rattle.codes.specs.declared.fault.BadReport.{BadReport}
use Rattle.codes.specs.declared.fault.Form.TheVariants.{Report}
use Rattle.weather_reports.specs.declared.metar.Metar.{Metar}
use Rattle.weather_reports.specs.declared.metar.Head.{Head}
pub use Rattle.weather_reports.specs.Words.{is_nil}

abbrev pub is_speci : List ℕ → Bool
is_speci g = bytes_eq g (codes "SPECI")

abbrev pub is_report_word : List ℕ → Bool
is_report_word g = bytes_eq g (codes "METAR") || is_speci g

abbrev pub is_cor : List ℕ → Bool
is_cor g = bytes_eq g (codes "COR")

-- the groups without the first one, if that passes the test
abbrev pub after : (List ℕ → Bool) → List (List ℕ) → List (List ℕ)
after p [] = []
after p (g ∷ gs) = if p g then gs else g ∷ gs

-- the groups after the optional METAR or SPECI
abbrev pub after_word : List (List ℕ) → List (List ℕ)
after_word gs = after is_report_word gs

-- the groups after the optional COR that may follow
abbrev pub after_words : List (List ℕ) → List (List ℕ)
after_words gs = after is_cor (after_word gs)

-- a word that ends the body; remarks and trends aren't read
abbrev pub ends_body : List ℕ → Bool
ends_body g = bytes_eq g (codes "RMK") || bytes_eq g (codes "NOSIG") || bytes_eq g (codes "TEMPO") || bytes_eq g (codes "BECMG")

-- the number of groups before the first such word
abbrev pub body_length : List (List ℕ) → ℕ
body_length [] = 0
body_length (g ∷ gs) = if ends_body g then 0 else body_length gs + 1

-- the groups before the first such word
abbrev pub body_of : List (List ℕ) → List (List ℕ)
body_of gs = take (body_length gs) gs

abbrev pub has : List ℕ → List (List ℕ) → Bool
has word gs = list_any (λ g. bytes_eq g word) gs

-- the number of the first group that is left, in a text of `count` groups
abbrev pub number_of : ℕ → List (List ℕ) → ℕ
number_of count rest = count + 1 - length rest

abbrev pub bad_at : ℕ → List (List ℕ) → Why → BadReport
bad_at count rest why = record { group = number_of count rest; why = why }

-- both elements are unknown
abbrev pub no_cond : Cond
no_cond = record { ceiling = None; vis = None }

-- a NIL report
abbrev pub nil_report : Head → Metar
nil_report h =
    record { special = h.special; station = h.station; observed = h.observed; corrected = h.corrected; auto = false; nil = true; cond = no_cond; unread = 0 }

-- a report with this body and its reading
abbrev pub report_with : Head → List (List ℕ) → Stretch → Metar
report_with h body stretch =
    record { special = h.special; station = h.station; observed = h.observed; corrected = h.corrected || has (codes "COR") body; auto = has (codes "AUTO") body; nil = false; cond = stretch.cond; unread = stretch.unread }

abbrev pub with_stretch : Head → List (List ℕ) → Result Stretch BadReport → Result Metar BadReport
with_stretch h body (Err bad) = Err bad
with_stretch h body (Ok stretch) = Ok (report_with h body stretch)

-- the groups after the time: NIL or the body
abbrev pub after_time : ℕ → List (List ℕ) → Head → Result Metar BadReport
after_time count rest h =
    if is_nil (first_of rest) then Ok (nil_report h) else with_stretch h (body_of rest) (stretch_of Report (number_of count rest) (body_of rest))

abbrev pub observed_at : ℕ → List (List ℕ) → List (List ℕ) → Bool → Bool → Station → Result ℕ Why → Result Metar BadReport
observed_at count at rest special corrected station (Err why) = Err (bad_at count at why)
observed_at count at rest special corrected station (Ok observed) =
    after_time count rest (record { special = special; corrected = corrected; station = station; observed = observed })

-- the groups after the station
abbrev pub after_station : ℕ → List (List ℕ) → Bool → Bool → Station → ℕ → Result Metar BadReport
after_station count [] special corrected station first_day = Err (bad_at count [] Missing)
after_station count (t ∷ rest) special corrected station first_day =
    observed_at count (t ∷ rest) rest special corrected station (time_of t first_day)

abbrev pub at_station : ℕ → List (List ℕ) → List (List ℕ) → Bool → Bool → Option Station → ℕ → Result Metar BadReport
at_station count at rest special corrected None first_day = Err (bad_at count at NotStation)
at_station count at rest special corrected (Some station) first_day = after_station count rest special corrected station first_day

-- the groups after the optional words
abbrev pub from_station : ℕ → List (List ℕ) → Bool → Bool → ℕ → Result Metar BadReport
from_station count [] special corrected first_day = Err (bad_at count [] Missing)
from_station count (s ∷ rest) special corrected first_day = at_station count (s ∷ rest) rest special corrected (station_of s) first_day

-- The reading of a list of groups, or a fault at the first group that can't be read. The day of observation is one of
-- the five that begin three days before the day of receipt.
unfoldable pub reading : List (List ℕ) → ℕ → Result Metar BadReport
reading gs receipt =
    from_station (length gs) (after_words gs) (is_speci (first_of gs)) (is_cor (first_of (after_word gs))) (receipt / 1440 - 3)

-- the reading of a text, or its fault
unfoldable pub metar_of : List ℕ → ℕ → Result Metar BadReport
metar_of text receipt = if nat_lt 2048 (length text) then Err too_long else reading (groups_of text) receipt
