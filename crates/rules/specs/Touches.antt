-- The reports and deferrals that can change a plan's findings: those of its stations and of its aircraft.
use Rattle.std.specs.Prelude.{◌≡◌, ℕ, ◌+◌, Bool, true, false, ◌||◌, List, [], ◌∷◌, ◌++◌, Option, None, Some, Any}
use Rattle.std.specs.List.{All, list_any}
use Rattle.std.specs.Str.{bytes_eq}
use Rattle.desk_io.specs.Station.{Station}
use Rattle.facts.specs.declared.report.Report.{Report}
use Rattle.facts.specs.Same.{station_of_report}
use Rattle.plan.specs.Phases.{standing}
use Rattle.plan.specs.declared.flights.Alternate.{Alternate}
use Rattle.plan.specs.declared.flights.Leg.{Leg}
use Rattle.plan.specs.declared.flights.Plan.{Plan}
use Rattle.plan.specs.declared.flights.TakeoffAlternate.{TakeoffAlternate}
use Rattle.plan.specs.declared.release.Phase.{Phase}
use Rattle.plan.specs.declared.release.Standing.{Standing}
use Rattle.plan.specs.declared.release.Standing.TheVariants.{Ahead, InFlight, Flown}
use Rattle.deferrals.specs.declared.items.Deferral.{Deferral}
use Rattle.deferrals.specs.Held.{without}
use Rattle.rules.specs.Grounds.{Grounds}
use Rattle.rules.specs.Judgement.{findings_of, leg_numbered}
use Rattle.rules.specs.Frame.{SameLatest, SameLatestBut, SameOpen, SameOpenBut, with_reports, with_deferrals}

abbrev pub is_takeoff_alternate : Station → Option TakeoffAlternate → Bool
is_takeoff_alternate station None = false
is_takeoff_alternate station (Some it) = bytes_eq it.station station

abbrev pub lists_station : Station → List Alternate → Bool
lists_station station listed = list_any (λ it. bytes_eq it.station station) listed

-- the leg names the station as departure, destination, takeoff alternate or alternate
abbrev pub leg_names : Station → Leg → Bool
leg_names station leg =
    bytes_eq leg.from station || bytes_eq leg.to station || is_takeoff_alternate station leg.takeoff_alternate || lists_station station leg.alternates

-- the same by the state of the leg; a flown leg names no station
abbrev pub names_at : Standing → Station → Leg → Bool
names_at Ahead station leg = leg_names station leg
names_at InFlight station leg = leg_names station leg
names_at Flown station leg = false

-- one of these legs names the station, if the first leg has number n
abbrev pub legs_name : Phase → Station → ℕ → List Leg → Bool
legs_name phase station n [] = false
legs_name phase station n (leg ∷ legs) = names_at (standing phase n) station leg || legs_name phase station (n + 1) legs

-- a leg of the plan that isn't flown names the station
unfoldable pub names_station : Plan → Phase → Station → Bool
names_station plan phase station = legs_name phase station 1 plan.legs

-- what the station is to the leg
pub data IsOf (leg : Leg) (station : Station) : Type 0 where
  departure : leg.from ≡ station → IsOf leg station
  destination : leg.to ≡ station → IsOf leg station
  takeoff_alternate : (it : TakeoffAlternate) → leg.takeoff_alternate ≡ Some it → it.station ≡ station → IsOf leg station
  alternate : Any (λ it. it.station ≡ station) leg.alternates → IsOf leg station

-- A leg of the plan that isn't flown names the station.
pub record Names (plan : Plan) (phase : Phase) (station : Station) : Type 0 where
  pub number : ℕ
  pub leg : Leg
  pub stands : leg_numbered number 1 plan.legs ≡ Some leg
  pub not_flown : standing phase number ≡ Flown → ⊥
  pub is_of : IsOf leg station

-- Other reports give the same findings.
abbrev pub SameByReports : Plan → Phase → Grounds → List Report → Type 0
SameByReports plan phase g others = findings_of plan phase (with_reports g others) ≡ findings_of plan phase g

-- Reports in which each station that the plan names has the same latest METAR and TAF give the same findings.
abbrev pub ReadsNamed : Plan → Phase → Type 0
ReadsNamed plan phase =
    (g : Grounds) (others : List Report) → ((station : Station) → names_station plan phase station ≡ true → SameLatest g.reports others station) → SameByReports plan phase g others

-- Other reports of this station give the same findings.
abbrev pub IgnoresStation : Plan → Phase → Station → Type 0
IgnoresStation plan phase station = (g : Grounds) (others : List Report) → SameLatestBut station g.reports others → SameByReports plan phase g others

-- One more report of this station gives the same findings.
abbrev pub IgnoresReport : Plan → Phase → Station → Type 0
IgnoresReport plan phase station = (g : Grounds) (report : Report) → station_of_report report ≡ station → SameByReports plan phase g (g.reports ++ report ∷ [])

-- the plan's aircraft has this registration
abbrev pub is_of_tail : Plan → List ℕ → Bool
is_of_tail plan tail = bytes_eq plan.tail tail

-- Other deferrals give the same findings.
abbrev pub SameByDeferrals : Plan → Phase → Grounds → List Deferral → Type 0
SameByDeferrals plan phase g others = findings_of plan phase (with_deferrals g others) ≡ findings_of plan phase g

-- In every phase, deferrals of which the same are open on the plan's aircraft give the same findings.
abbrev pub ReadsOpen : Plan → Type 0
ReadsOpen plan = (phase : Phase) (g : Grounds) (others : List Deferral) → SameOpen g.deferrals others plan.tail → SameByDeferrals plan phase g others

-- In every phase, other deferrals on this aircraft give the same findings.
abbrev pub IgnoresTail : Plan → List ℕ → Type 0
IgnoresTail plan tail = (phase : Phase) (g : Grounds) (others : List Deferral) → SameOpenBut tail g.deferrals others → SameByDeferrals plan phase g others

-- In every phase, one more deferral on this aircraft gives the same findings.
abbrev pub IgnoresDeferral : Plan → List ℕ → Type 0
IgnoresDeferral plan tail = (phase : Phase) (g : Grounds) (deferral : Deferral) → deferral.tail ≡ tail → SameByDeferrals plan phase g (g.deferrals ++ deferral ∷ [])

-- In every phase, clearing a deferral of this aircraft gives the same findings.
abbrev pub IgnoresClearing : Plan → List ℕ → Type 0
IgnoresClearing plan tail =
    (phase : Phase) (g : Grounds) (id : ℕ) → All (λ deferral. deferral.id ≡ id → deferral.tail ≡ tail) g.deferrals → SameByDeferrals plan phase g (without id g.deferrals)
