-- The rule on the weather at the destination (14 CFR 121.613, 121.652).
use Rattle.std.specs.Prelude.{Bool, not}
use Rattle.codes.specs.Minima.{meets}
use Rattle.plan.specs.declared.flights.Leg.{Leg}
use Rattle.rules.specs.Circumstances.{Case, weather_at, arrival_minima}

-- The destination at the ETA is below landing minima (14 CFR 121.613). They are raised for a captain with few hours
-- in the type (14 CFR 121.652).
abbrev pub is_below_landing : Case → Leg → Bool
is_below_landing c leg = not (meets (weather_at c.grounds leg.to leg.eta) (arrival_minima c leg.to))
