-- Findings stay the same with other reports of which the latest of each station that the plan names are the same, as after
-- a sweep.
use Rattle.std.proofs.Common.{◌≡◌, ℕ, ◌+◌, ◌-◌, Bool, true, false, cond, not, ◌&&◌, ◌||◌, List, [], ◌∷◌, ◌++◌, Option, None, Some, refl, ap, ◌∙◌}
use Rattle.std.specs.Prelude.{is_none, nat_lt}
use Rattle.std.specs.List.{AllByRecursion}
use Rattle.std.specs.Option.{option_map, option_and_then}
use Rattle.std.specs.Str.{bytes_eq}
use Rattle.std.proofs.lemmas.Bool.{or_left, or_right}
use Rattle.desk_io.specs.Station.{Station}
use Rattle.codes.specs.Minima.{meets}
use Rattle.ops_tables.specs.declared.rows.TypeRow.{TypeRow}
use Rattle.ops_tables.specs.Tables.{type_of}
use Rattle.plan.specs.Check.{plan_fault}
use Rattle.plan.specs.Phases.{standing}
use Rattle.plan.specs.declared.check.BadPlan.{BadPlan}
use Rattle.plan.specs.declared.flights.Alternate.{Alternate}
use Rattle.plan.specs.declared.flights.Leg.{Leg}
use Rattle.plan.specs.declared.flights.Plan.{Plan}
use Rattle.plan.specs.declared.flights.TakeoffAlternate.{TakeoffAlternate}
use Rattle.plan.specs.declared.findings.Rule.{Rule}
use Rattle.plan.specs.declared.findings.Rule.TheVariants.{No3, No4, No5, No6, No7, No8, No9, No10, No14, No15}
use Rattle.plan.specs.declared.release.Phase.{Phase}
use Rattle.plan.specs.declared.release.Standing.{Standing}
use Rattle.plan.specs.declared.release.Standing.TheVariants.{Ahead, InFlight, Flown}
use Rattle.weather_window.specs.Window.{cond_at, worst_cond}
use Rattle.facts.specs.Same.{metar_of_read, taf_of_read}
use Rattle.facts.specs.Swept.{swept}
use Rattle.facts.specs.declared.latest.Kind.TheVariants as kind
use Rattle.facts.specs.declared.report.Report.{Report}
use Rattle.facts.proofs.SweepLaws.{latest_swept}
use Rattle.airport_minima.specs.Floor.{flag_floor}
use Rattle.plan.specs.AlternateNeeds.{needs_takeoff, needs_destination, is_marginal}
use Rattle.plan.specs.Fuel.{required}
use Rattle.plan.specs.declared.fuel.Basis.TheVariants as basis
use Rattle.rules.specs.Grounds.{Grounds}
use Rattle.rules.specs.Circumstances.{Case, case_of, weather_at, worst_weather, landing_at, arrival_minima, alternate_at, is_below_alternate}
use Rattle.rules.specs.Weather.{is_below_landing}
use Rattle.rules.specs.TakeoffAlternates.{needs_takeoff_alternate, is_far, is_below_there, has_low_takeoff_alternate}
use Rattle.rules.specs.DestinationAlternates.{is_domestic, is_flag, lists_none, needs_alternate, margin, is_marginal_landing, is_marginal_at, are_marginal, lacks_second_alternate, is_free, place_if, places_from, low_alternates}
use Rattle.rules.specs.Fuel.{is_within_states, required_fuel}
use Rattle.rules.specs.Judgement.{is_of_departure, places_of, places_at, places_in_case, places_for, case_unless, case_for, leg_numbered, findings_of_tables, findings_of}
use Rattle.plan.specs.Findings.{rules_of_legs}
use Rattle.rules.specs.Time.{late_places}
use Rattle.rules.specs.Frame.{SameLatest, with_reports}
use Rattle.rules.specs.Touches.{is_takeoff_alternate, lists_station, leg_names, names_at, names_station, SameByReports, ReadsNamed}
use Rattle.rules.proofs.Named.{station_same, first_named, second_named, third_named, listed_named, plan_names}
use Rattle.rules.proofs.UntilDue.{by_same}

-- Rule by rule: a case and a leg, and the same with other reports

module _ (c : Case) (others : List Report) (leg : Leg) (same : (station : Station) → leg_names station leg ≡ true → SameLatest c.grounds.reports others station) where
  abbrev other : Case
  other = record c { grounds = with_reports c.grounds others }

  weather_same : (station : Station) → SameLatest c.grounds.reports others station → (moment : ℕ) → weather_at other.grounds station moment ≡ weather_at c.grounds station moment
  weather_same station latest moment = λ i. cond_at (latest.taf i) (latest.metar i) c.grounds.tables.settings.hold_minutes moment

  worst_same : (station : Station) → SameLatest c.grounds.reports others station → (from to : ℕ) → worst_weather other.grounds station from to ≡ worst_weather c.grounds station from to
  worst_same station latest from to = λ i. worst_cond (latest.taf i) (latest.metar i) c.grounds.tables.settings.hold_minutes from to

  below_alternate_same : (station : Station) → SameLatest c.grounds.reports others station → (moment : ℕ) → is_below_alternate other station moment ≡ is_below_alternate c station moment
  below_alternate_same station latest moment = ap (λ w. not (meets w (alternate_at c station))) (weather_same station latest moment)

  same_from : SameLatest c.grounds.reports others leg.from
  same_from = same leg.from (first_named leg.from leg (station_same leg.from leg.from refl))

  same_to : SameLatest c.grounds.reports others leg.to
  same_to = same leg.to (second_named leg.to leg (station_same leg.to leg.to refl))

  below_landing_same : is_below_landing other leg ≡ is_below_landing c leg
  below_landing_same = ap (λ w. not (meets w (arrival_minima c leg.to))) (weather_same leg.to same_to leg.eta)

  takeoff_need_same : needs_takeoff_alternate other leg ≡ needs_takeoff_alternate c leg
  takeoff_need_same = ap (λ w. needs_takeoff w (landing_at c leg.from)) (weather_same leg.from same_from leg.etd)

  below_there_same : (it : Option TakeoffAlternate) → leg.takeoff_alternate ≡ it → is_below_there other leg it ≡ is_below_there c leg it
  below_there_same None is = refl
  below_there_same (Some it) is =
      below_alternate_same it.station (same it.station (third_named it.station leg (ap (λ o. is_takeoff_alternate it.station o) is ∙ station_same it.station it.station refl)))
      (leg.etd + it.minutes)

  low_takeoff_same : has_low_takeoff_alternate other leg ≡ has_low_takeoff_alternate c leg
  low_takeoff_same = λ i. takeoff_need_same i && below_there_same leg.takeoff_alternate refl i

  need_same : needs_alternate other leg ≡ needs_alternate c leg
  need_same = ap (λ w. needs_destination leg c.flight w (flag_floor c.grounds.tables c.aircraft leg.to c.limits.lost)) (worst_same leg.to same_to (leg.eta - 60) (leg.eta + 60))

  marginal_landing_same : is_marginal_landing other leg ≡ is_marginal_landing c leg
  marginal_landing_same = ap (λ w. is_marginal w (landing_at c leg.to) (margin c.grounds.tables.settings)) (weather_same leg.to same_to leg.eta)

  marginal_at_same : (it : Alternate) → SameLatest c.grounds.reports others it.station → is_marginal_at other leg it ≡ is_marginal_at c leg it
  marginal_at_same it latest = ap (λ w. is_marginal w (alternate_at c it.station) (margin c.grounds.tables.settings)) (weather_same it.station latest (leg.eta + it.minutes))

  each_listed : (listed : List Alternate) → ((station : Station) → lists_station station listed ≡ true → SameLatest c.grounds.reports others station)
      → AllByRecursion (λ it. SameLatest c.grounds.reports others it.station) listed
  each_listed [] latest = tt
  each_listed (it ∷ rest) latest = (
    latest it.station (or_left (bytes_eq it.station it.station) (lists_station it.station rest) (station_same it.station it.station refl)),
    each_listed rest (λ station e. latest station (or_right (bytes_eq it.station station) (lists_station station rest) e)),
  )

  all_listed : AllByRecursion (λ it. SameLatest c.grounds.reports others it.station) leg.alternates
  all_listed = each_listed leg.alternates (λ station e. same station (listed_named station leg e))

  marginal_same : (listed : List Alternate) → AllByRecursion (λ it. SameLatest c.grounds.reports others it.station) listed → are_marginal other leg listed ≡ are_marginal c leg listed
  marginal_same [] all = refl
  marginal_same (it ∷ []) all = λ i. marginal_landing_same i && marginal_at_same it all.0 i
  marginal_same (it ∷ second ∷ rest) all = refl

  second_same : lacks_second_alternate other leg ≡ lacks_second_alternate c leg
  second_same = λ i. is_domestic c.flight && need_same i && marginal_same leg.alternates all_listed i

  low_from : (n : ℕ) (listed : List Alternate) → AllByRecursion (λ it. SameLatest c.grounds.reports others it.station) listed
      → places_from (λ it. is_below_alternate other it.station (leg.eta + it.minutes)) n listed ≡ places_from (λ it. is_below_alternate c it.station (leg.eta + it.minutes)) n listed
  low_from n [] all = refl
  low_from n (it ∷ rest) all = λ i. place_if (below_alternate_same it.station all.0 (leg.eta + it.minutes) i) n ++ low_from (n + 1) rest all.1 i

  low_same : low_alternates other leg ≡ low_alternates c leg
  low_same = low_from 1 leg.alternates all_listed

  -- the fuel that is required, by whether an alternate is needed
  abbrev fuel_by : Bool → ℕ
  fuel_by needed =
      required leg
      (cond (is_flag c.flight && needed && lists_none leg.alternates && is_free c leg) basis.NoAlternate (cond (is_domestic c.flight || is_within_states c.grounds.tables leg) basis.Domestic basis.Flag))
      (needed && not (lists_none leg.alternates)) c.aircraft.cruise_pph c.aircraft.hold_pph c.limits.extra_fuel

  fuel_same : required_fuel other leg ≡ required_fuel c leg
  fuel_same = ap fuel_by need_same

  of_same : (rule : Rule) (ahead : Bool) → places_of rule other ahead leg ≡ places_of rule c ahead leg
  of_same No3 ahead = ap (λ low. place_if low 0) below_landing_same
  of_same No4 ahead = ap (λ needed. place_if (needed && is_none leg.takeoff_alternate) 0) takeoff_need_same
  of_same No5 ahead = ap (λ needed. place_if (needed && is_far c leg leg.takeoff_alternate) 0) takeoff_need_same
  of_same No6 ahead = ap (λ low. place_if low 0) low_takeoff_same
  of_same No7 ahead = ap (λ needed. place_if (is_domestic c.flight && needed && lists_none leg.alternates) 0) need_same
  of_same No8 ahead = ap (λ lacks. place_if lacks 0) second_same
  of_same No9 ahead = ap (λ needed. place_if (is_flag c.flight && needed && lists_none leg.alternates && not (is_free c leg)) 0) need_same
  of_same No10 ahead = low_same
  of_same No14 ahead = ap (λ pounds. place_if (is_domestic c.flight && nat_lt leg.minimum pounds) 0) fuel_same
  of_same No15 ahead = ap (λ pounds. place_if (is_flag c.flight && nat_lt leg.minimum pounds) 0) fuel_same
  of_same _ ahead = refl

-- by where the leg stands
at_same : (c : Case) (others : List Report) (rule : Rule) (s : Standing) (leg : Leg) → ((station : Station) → names_at s station leg ≡ true → SameLatest c.grounds.reports others station)
    → places_at rule (record c { grounds = with_reports c.grounds others }) s leg ≡ places_at rule c s leg
at_same c others rule Ahead leg same = of_same c others leg same rule true
at_same c others rule InFlight leg same = ap (λ ps. cond (is_of_departure rule) [] ps) (of_same c others leg same rule false)
at_same c others rule Flown leg same = refl

module _ (plan : Plan) (phase : Phase) (g : Grounds) (others : List Report) (same : (station : Station) → names_station plan phase station ≡ true → SameLatest g.reports others station) where
  with_same : (aircraft : Option TypeRow) (rule : Rule) (s : Standing) (leg : Leg) → ((station : Station) → names_at s station leg ≡ true → SameLatest g.reports others station)
      → places_in_case rule (option_map (case_of (with_reports g others) plan) aircraft) s leg ≡ places_in_case rule (option_map (case_of g plan) aircraft) s leg
  with_same None rule s leg latest = refl
  with_same (Some aircraft) rule s leg latest = at_same (case_of g plan aircraft) others rule s leg latest

  case_same : (bad : Option BadPlan) (rule : Rule) (s : Standing) (leg : Leg) → ((station : Station) → names_at s station leg ≡ true → SameLatest g.reports others station)
      → places_in_case rule (case_unless bad plan (with_reports g others)) s leg ≡ places_in_case rule (case_unless bad plan g) s leg
  case_same (Some bad) rule s leg latest = refl
  case_same None rule s leg latest = with_same (type_of g.tables plan.tail) rule s leg latest

  places_same : (rule : Rule) (number : ℕ) (leg : Leg) → leg_numbered number 1 plan.legs ≡ Some leg
      → places_for plan phase (with_reports g others) (case_for plan (with_reports g others)) rule number leg ≡ places_for plan phase g (case_for plan g) rule number leg
  places_same rule number leg stands =
      ap (λ ps. late_places rule g.tables.settings plan.kind phase number leg g.moment ++ ps)
      (case_same (plan_fault g.tables plan) rule (standing phase number) leg (λ station named. same station (plan_names plan phase station number leg stands named)))

  -- a plan fails the same with other reports, where the latest of each station that it names are the same
  pub findings_same : SameByReports plan phase g others
  unfolding findings_of
  findings_same =
      ap (λ fs. fs ++ findings_of_tables plan g)
      (by_same (places_for plan phase (with_reports g others) (case_for plan (with_reports g others))) (places_for plan phase g (case_for plan g)) rules_of_legs plan.legs places_same)

pub reads_named : (plan : Plan) (phase : Phase) → ReadsNamed plan phase
reads_named plan phase g others same = findings_same plan phase g others same

-- a sweep changes no latest
same_swept : (before : ℕ) (keep : List ℕ) (rs : List Report) (station : Station) → SameLatest rs (swept before keep rs) station
same_swept before keep rs station = record {
  metar = ap (option_and_then (λ r. metar_of_read r.read)) (latest_swept before keep rs kind.Observation station);
  taf = ap (option_and_then (λ r. taf_of_read r.read)) (latest_swept before keep rs kind.Forecast station);
}

-- and so no finding
pub findings_swept : (plan : Plan) (phase : Phase) (g : Grounds) (before : ℕ) (keep : List ℕ) → findings_of plan phase (with_reports g (swept before keep g.reports)) ≡ findings_of plan phase g
findings_swept plan phase g before keep = findings_same plan phase g (swept before keep g.reports) (λ station named. same_swept before keep g.reports station)
