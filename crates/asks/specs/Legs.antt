-- Reading the legs of a plan from JSON objects with exactly their own keys.
use Rattle.std.specs.Prelude.{nat_le, if◌then◌else◌, List, Option, None, Some, codes, option_and_then, is_some}
use Rattle.serde_json.specs.Data.{Data, Items}
use Rattle.serde_json.specs.Events.{items_len}
use Rattle.serde_json.specs.Find.{get, as_null}
use Rattle.desk_time.specs.Digits.{◌>>=◌}
use Rattle.plan.specs.declared.flights.Alternate.{Alternate}
use Rattle.plan.specs.declared.flights.TakeoffAlternate.{TakeoffAlternate}
use Rattle.plan.specs.declared.flights.Leg.{Leg}
use Rattle.asks.specs.declared.legs.Route.{Route}
use Rattle.asks.specs.declared.legs.Times.{Times}
use Rattle.asks.specs.declared.legs.Fuel.{Fuel}
use Rattle.asks.specs.Fields.{amount_at, station_at, moment_at, list_at, each_read, has_members}

-- an alternate of the destination
abbrev pub alternate_of : Data → Option Alternate
alternate_of d =
    amount_at (codes "fuel") d >>= λ fuel. amount_at (codes "minutes") d >>= λ minutes. station_at (codes "station") d >>= λ station.
    if has_members 3 d then Some (record { station = station; minutes = minutes; fuel = fuel }) else None

-- a list of alternates, of any length
abbrev pub alternates_at : Data → Option (List Alternate)
alternates_at d = list_at (codes "alternates") d >>= λ ds. each_read alternate_of ds

-- a takeoff alternate
abbrev pub takeoff_of : Data → Option TakeoffAlternate
takeoff_of d =
    amount_at (codes "minutes") d >>= λ minutes. station_at (codes "station") d >>= λ station.
    if has_members 2 d then Some (record { station = station; minutes = minutes }) else None

-- null or a takeoff alternate
abbrev pub takeoff_in : Data → Option (Option TakeoffAlternate)
takeoff_in d = if is_some (as_null d) then Some None else (takeoff_of d >>= λ takeoff. Some (Some takeoff))

abbrev pub takeoff_at : Data → Option (Option TakeoffAlternate)
takeoff_at d = option_and_then takeoff_in (get (codes "takeoff_alternate") d)

abbrev pub route_of : Data → Option Route
route_of d = station_at (codes "from") d >>= λ from. station_at (codes "to") d >>= λ to. Some (record { from = from; to = to })

abbrev pub times_of : Data → Option Times
times_of d =
    moment_at (codes "etd") d >>= λ etd. moment_at (codes "eta") d >>= λ eta. amount_at (codes "minutes") d >>= λ minutes.
    Some (record { etd = etd; eta = eta; minutes = minutes })

abbrev pub fuel_of : Data → Option Fuel
fuel_of d =
    amount_at (codes "burn") d >>= λ burn. amount_at (codes "extra") d >>= λ extra. amount_at (codes "minimum") d >>= λ minimum. amount_at (codes "onboard") d >>= λ onboard.
    Some (record { burn = burn; extra = extra; minimum = minimum; onboard = onboard })

abbrev pub leg_with : Route → Times → Fuel → Option TakeoffAlternate → List Alternate → Leg
leg_with r t f takeoff alternates = record {
  from = r.from;
  to = r.to;
  etd = t.etd;
  eta = t.eta;
  minutes = t.minutes;
  burn = f.burn;
  extra = f.extra;
  minimum = f.minimum;
  onboard = f.onboard;
  takeoff_alternate = takeoff;
  alternates = alternates;
}

abbrev pub leg_of_parts : Data → Route → Times → Fuel → Option Leg
leg_of_parts d r t f =
    takeoff_at d >>= λ takeoff. alternates_at d >>= λ alternates.
    if has_members 11 d then Some (leg_with r t f takeoff alternates) else None

-- a leg
abbrev pub leg_of : Data → Option Leg
leg_of d = route_of d >>= λ r. times_of d >>= λ t. fuel_of d >>= λ f. leg_of_parts d r t f

-- a list of at most 1,000 legs
abbrev pub legs_of : Items → Option (List Leg)
legs_of ds = if nat_le (items_len ds) 1000 then each_read leg_of ds else None

abbrev pub legs_at : Data → Option (List Leg)
legs_at d = list_at (codes "legs") d >>= λ ds. legs_of ds
