-- The attached weather reports, as 14 CFR 121.687(b) requires them.
use Rattle.std.specs.Prelude.{◌≡◌, ◌≢◌, ◌↔◌, ℕ, ◌+◌, IsTrue, List, ◌∷◌, ◌++◌, length, Option, None, Some, IfSome}
use Rattle.std.specs.List.{AllByRecursion}
use Rattle.desk_io.specs.Station.{Station}
use Rattle.plan.specs.declared.flights.Plan.{Plan}
use Rattle.plan.specs.declared.flights.Leg.{Leg}
use Rattle.plan.specs.declared.flights.Alternate.{Alternate}
use Rattle.plan.specs.declared.flights.TakeoffAlternate.{TakeoffAlternate}
use Rattle.plan.specs.declared.release.Phase.{Phase}
use Rattle.plan.specs.declared.release.Standing.{Standing}
use Rattle.plan.specs.declared.release.Standing.TheVariants.{Ahead, Flown}
use Rattle.plan.specs.Phases.{standing}
use Rattle.facts.specs.declared.latest.Kind.{Kind}
use Rattle.facts.specs.declared.report.Report.{Report}
use Rattle.facts.specs.Latest.{IsLatest, IsLatestReport}
use Rattle.plan.specs.declared.release.Attached.{Attached}
use Rattle.release_text.specs.Weather.{attached_of, is_attached, weather_for}

-- x is in the list, after the items of `before`
pub record StandsIn {X : Type 0} (xs : List X) (x : X) : Type 0 where
  pub before : List X
  pub after : List X
  pub whole : xs ≡ before ++ x ∷ after

-- What an airport is to a leg. Before the leg departs it is the departure or the takeoff alternate. Until the leg has
-- arrived it is the destination or an alternate.
pub data IsAirportOf : Standing → Leg → Station → Type 0 where
  departure : {leg : Leg} → IsAirportOf Ahead leg leg.from
  takeoff : {leg : Leg} {t : TakeoffAlternate} → leg.takeoff_alternate ≡ Some t → IsAirportOf Ahead leg t.station
  destination : {s : Standing} {leg : Leg} → s ≢ Flown → IsAirportOf s leg leg.to
  alternate : {s : Standing} {leg : Leg} {a : Alternate} → s ≢ Flown → StandsIn leg.alternates a
      → IsAirportOf s leg a.station

-- the station is an airport of one of the legs, by the state of that leg
pub record IsConcerned (plan : Plan) (phase : Phase) (station : Station) : Type 0 where
  pub leg : Leg
  pub one : StandsIn plan.legs leg
  pub airport : IsAirportOf (standing phase (length one.before + 1)) leg station

-- The attached report is the latest of its kind for an airport of one of the legs.
pub record IsLatestOfOne (reports : List Report) (plan : Plan) (phase : Phase) (a : Attached) : Type 0 where
  pub station : Station
  pub kind : Kind
  pub report : Report
  pub one : IsConcerned plan phase station
  pub latest : IsLatestReport kind station reports report
  pub stands : a ≡ attached_of report

-- each attached report is the latest of its kind for an airport of one of the legs
abbrev pub AreLatest : List Report → Plan → Phase → List Attached → Type 0
AreLatest reports plan phase attached = AllByRecursion (IsLatestOfOne reports plan phase) attached

-- the latest report of this kind for the station is attached, if there is one
pub record IsCovered (reports : List Report) (attached : List Attached) (station : Station) (kind : Kind) : Type 0 where
  pub report : Option Report
  pub latest : IsLatest kind station reports report
  pub stands : IfSome report (λ r. StandsIn attached (attached_of r))

-- the latest reports of every airport of the legs are attached
unfoldable pub AreCovered : List Report → Plan → Phase → List Attached → Type 0
AreCovered reports plan phase attached =
    (station : Station) → IsConcerned plan phase station → (kind : Kind) → IsCovered reports attached station kind

-- each of these reports is attached
abbrev pub AreAttached : List Attached → List Report → Type 0
AreAttached attached reports = AllByRecursion (λ report. IsTrue (is_attached attached report.id)) reports

-- `newer` is None exactly if the latest reports of all stations that the release concerns are attached
abbrev pub IsNoneNewer : List Report → Plan → Phase → List Attached → Option ℕ → Type 0
IsNoneNewer reports plan phase attached newer = (newer ≡ None) ↔ AreAttached attached (weather_for reports plan phase)
