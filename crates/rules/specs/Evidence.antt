-- The latest reports of a station once a report is added to those that the desk holds.
use Rattle.std.specs.Prelude.{Bool, true, false, ◌&&◌, if◌then◌else◌, Option, None, Some}
use Rattle.std.specs.Str.{bytes_eq}
use Rattle.desk_io.specs.Station.{Station}
use Rattle.facts.specs.declared.report.Read.{Read}
use Rattle.facts.specs.declared.report.Read.TheVariants as read
use Rattle.facts.specs.declared.report.Report.{Report}
use Rattle.facts.specs.Same.{station_of_report}
use Rattle.facts.specs.Latest.{later}

abbrev pub is_metar : Read → Bool
is_metar (read.Metar metar) = true
is_metar (read.Taf taf) = false

abbrev pub is_taf : Read → Bool
is_taf (read.Metar metar) = false
is_taf (read.Taf taf) = true

-- the latest report of the station once r is added, if r is of the same kind
abbrev pub with_report : Bool → Option Report → Station → Report → Option Report
with_report alike held station r = if alike && bytes_eq (station_of_report r) station then later held (Some r) else held

abbrev pub with_metar : Option Report → Station → Option Report → Option Report
with_metar held station None = held
with_metar held station (Some r) = with_report (is_metar r.read) held station r

abbrev pub with_taf : Option Report → Station → Option Report → Option Report
with_taf held station None = held
with_taf held station (Some r) = with_report (is_taf r.read) held station r
