-- The circumstances in which the legs of a plan are compared.
use Rattle.std.specs.Prelude.{◌≤◌, map}
use Rattle.rules.specs.Grounds.{Grounds, grounds_held}
use Rattle.rules.specs.Circumstances.{Case}
use Rattle.sheet.specs.declared.circumstances.World.{World}
use Rattle.sheet.specs.declared.circumstances.Circumstances.{Circumstances}

-- the grounds of a judgement in this world
abbrev pub grounds_of : World → Grounds
grounds_of w = grounds_held w.tables.now w.facts.now.reports w.deferrals.now.list w.moment

-- the case of these circumstances
abbrev pub case_by : Circumstances → Case
case_by c = record { grounds = grounds_of c.world; flight = c.flight; aircraft = c.aircraft.now; hours = c.hours; deferred = map (λ d. d.now) c.deferred.items; limits = c.limits }

-- the aircraft and the deferrals are within their bounds
pub record IsWithin (c : Circumstances) : Type 0 where
  pub knots : c.aircraft.now.oei_knots ≤ 1000
  pub extra_fuel : c.limits.extra_fuel ≤ 5_000_000_000
