-- What a judgement reads: the latest METAR and TAF of each station, and the aircraft's open deferrals.
use Rattle.std.specs.Prelude.{◌≡◌, ℕ, List}
use Rattle.desk_io.specs.Station.{Station}
use Rattle.facts.specs.declared.report.Report.{Report}
use Rattle.facts.specs.Latest.{metar_latest, taf_latest}
use Rattle.deferrals.specs.declared.items.Deferral.{Deferral}
use Rattle.deferrals.specs.Limits.{open_on}
use Rattle.rules.specs.Grounds.{Grounds}

-- The station has the same latest METAR and TAF in both lists of reports.
pub record SameLatest (rs others : List Report) (station : Station) : Type 0 where
  pub metar : metar_latest others station ≡ metar_latest rs station
  pub taf : taf_latest others station ≡ taf_latest rs station

-- every other station has the same latest METAR and TAF
abbrev pub SameLatestBut : Station → List Report → List Report → Type 0
SameLatestBut station rs others = (other : Station) → (other ≡ station → ⊥) → SameLatest rs others other

-- the same deferrals are open on the aircraft in both lists
abbrev pub SameOpen : List Deferral → List Deferral → List ℕ → Type 0
SameOpen list others tail = open_on tail others ≡ open_on tail list

-- every other aircraft has the same open deferrals
abbrev pub SameOpenBut : List ℕ → List Deferral → List Deferral → Type 0
SameOpenBut tail list others = (other : List ℕ) → (other ≡ tail → ⊥) → SameOpen list others other

-- the same tables, deferrals and moment with other reports
abbrev pub with_reports : Grounds → List Report → Grounds
with_reports g others = record g { reports = others }

-- the same tables, reports and moment with other deferrals
abbrev pub with_deferrals : Grounds → List Deferral → Grounds
with_deferrals g others = record g { deferrals = others }
