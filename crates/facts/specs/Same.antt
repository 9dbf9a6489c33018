-- The station and moment of a report, and the first report with a given text and moment.
use Rattle.std.specs.Prelude.{ℕ, Bool, ◌&&◌, ◌==◌, List, Option, None, Some}
use Rattle.std.specs.Str.{bytes_eq}
use Rattle.std.specs.List.{find}
use Rattle.std.specs.Option.{option_map}
use Rattle.desk_io.specs.Station.{Station}
use Rattle.weather_reports.specs.declared.metar.Metar.{Metar}
use Rattle.weather_reports.specs.declared.forecast.Taf.{Taf}
use Rattle.facts.specs.declared.report.Read.{Read}
use Rattle.facts.specs.declared.report.Read.TheVariants as read
use Rattle.facts.specs.declared.report.Report.{Report}

-- the moment of observation or issue
abbrev pub minute_of_read : Read → ℕ
minute_of_read (read.Metar metar) = metar.observed
minute_of_read (read.Taf taf) = taf.issued

abbrev pub minute_of_report : Report → ℕ
minute_of_report r = minute_of_read r.read

abbrev pub station_of_read : Read → Station
station_of_read (read.Metar metar) = metar.station
station_of_read (read.Taf taf) = taf.station

abbrev pub station_of_report : Report → Station
station_of_report r = station_of_read r.read

abbrev pub metar_of_read : Read → Option Metar
metar_of_read (read.Metar metar) = Some metar
metar_of_read (read.Taf taf) = None

abbrev pub taf_of_read : Read → Option Taf
taf_of_read (read.Metar metar) = None
taf_of_read (read.Taf taf) = Some taf

-- the report has that canonical text and that moment
abbrev pub is_same : List ℕ → ℕ → Report → Bool
is_same text minute r = bytes_eq r.text text && (minute_of_report r == minute)

-- the number of the first such report
unfoldable pub same_id : List Report → List ℕ → ℕ → Option ℕ
same_id rs text minute = option_map (λ r. r.id) (find (is_same text minute) rs)
