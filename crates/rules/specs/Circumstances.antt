-- The case in which a plan is judged: its aircraft, captain and deferrals, and the weather and minima for them.
use Rattle.std.specs.Prelude.{ℕ, nat_lt, Bool, not, if◌then◌else◌, List}
use Rattle.desk_io.specs.Station.{Station}
use Rattle.codes.specs.declared.cond.Cond.{Cond}
use Rattle.desk_io.specs.declared.pair.Pair.{Pair}
use Rattle.codes.specs.Minima.{meets}
use Rattle.ops_tables.specs.Tables.{hours_of}
use Rattle.ops_tables.specs.declared.rows.TypeRow.{TypeRow}
use Rattle.plan.specs.declared.flights.Kind.{Kind}
use Rattle.plan.specs.declared.flights.Plan.{Plan}
use Rattle.weather_window.specs.Window.{cond_at, worst_cond}
use Rattle.facts.specs.Latest.{metar_latest, taf_latest}
use Rattle.airport_minima.specs.Minima.{landing, alternate_pairs}
use Rattle.airport_minima.specs.Raised.{raised}
use Rattle.deferrals.specs.declared.items.Deferral.{Deferral}
use Rattle.deferrals.specs.declared.limits.Limits.{Limits}
use Rattle.deferrals.specs.Limits.{open_on, rows_of, limits_by}
use Rattle.rules.specs.Grounds.{Grounds}

pub record Case : Type 0 where
  pub grounds : Grounds
  -- domestic or flag operation
  pub flight : Kind
  -- the type of the aircraft
  pub aircraft : TypeRow
  -- the captain's hours as pilot in command in the type
  pub hours : ℕ
  -- the open deferrals of the aircraft in the order of their ids
  pub deferred : List Deferral
  -- what these deferrals cost in fuel and capabilities
  pub limits : Limits

-- the case of a plan whose aircraft has this type
abbrev pub case_of : Grounds → Plan → TypeRow → Case
case_of g plan aircraft = record {
  grounds = g;
  flight = plan.kind;
  aircraft = aircraft;
  hours = hours_of g.tables plan.captain aircraft.kind;
  deferred = open_on plan.tail g.deferrals;
  limits = limits_by (rows_of g.tables aircraft.kind (open_on plan.tail g.deferrals));
}

-- the controlling weather at a station, by its latest TAF and its latest METAR or SPECI
abbrev pub weather_at : Grounds → Station → ℕ → Cond
weather_at g station moment = cond_at (taf_latest g.reports station) (metar_latest g.reports station) g.tables.settings.hold_minutes moment

-- the worst weather at a station from one minute to another
abbrev pub worst_weather : Grounds → Station → ℕ → ℕ → Cond
worst_weather g station from to = worst_cond (taf_latest g.reports station) (metar_latest g.reports station) g.tables.settings.hold_minutes from to

-- the landing minima of a station for the aircraft
abbrev pub landing_at : Case → Station → List Pair
landing_at c station = landing c.grounds.tables c.aircraft station c.limits.lost

-- the alternate minima of a station for the aircraft
abbrev pub alternate_at : Case → Station → List Pair
alternate_at c station = alternate_pairs c.grounds.tables c.aircraft station c.limits.lost

-- the weather at a station is below its alternate minima
abbrev pub is_below_alternate : Case → Station → ℕ → Bool
is_below_alternate c station moment = not (meets (weather_at c.grounds station moment) (alternate_at c station))

-- the captain has fewer than 100 hours in the type (14 CFR 121.652)
abbrev pub has_few_hours : Case → Bool
has_few_hours c = nat_lt c.hours 100

-- the landing minima at the destination that hold for the captain, by his hours (14 CFR 121.613, 121.652)
abbrev pub arrival_minima : Case → Station → List Pair
arrival_minima c station = if has_few_hours c then raised (landing_at c station) (alternate_at c station) else landing_at c station
