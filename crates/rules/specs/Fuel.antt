-- The rules on fuel (14 CFR 121.639, 121.645).
use Rattle.std.specs.Prelude.{ℕ, nat_lt, Bool, false, not, ◌&&◌, ◌||◌, if◌then◌else◌, Option, None, Some}
use Rattle.ops_tables.specs.Tables.{TableRows, airport_of}
use Rattle.ops_tables.specs.declared.rows.Airport.{Airport}
use Rattle.plan.specs.declared.flights.Leg.{Leg}
use Rattle.plan.specs.declared.fuel.Basis.{Basis}
use Rattle.plan.specs.declared.fuel.Basis.TheVariants as basis
use Rattle.plan.specs.Fuel.{required}
use Rattle.rules.specs.Circumstances.{Case}
use Rattle.rules.specs.DestinationAlternates.{is_domestic, is_flag, lists_none, needs_alternate, is_free}

abbrev pub is_contiguous : Option Airport → Bool
is_contiguous None = false
is_contiguous (Some airport) = airport.conus

-- both airports are in the 48 contiguous states or the District of Columbia
abbrev pub is_within_states : TableRows → Leg → Bool
is_within_states tables leg = is_contiguous (airport_of tables leg.from) && is_contiguous (airport_of tables leg.to)

-- a flag leg needs an alternate and lists none, as its route allows
abbrev pub does_without : Case → Leg → Bool
does_without c leg = is_flag c.flight && needs_alternate c leg && lists_none leg.alternates && is_free c leg

-- the rule by which the fuel of the leg is counted
abbrev pub basis_of : Case → Leg → Basis
basis_of c leg =
    if does_without c leg then basis.NoAlternate
    else (if is_domestic c.flight || is_within_states c.grounds.tables leg then basis.Domestic else basis.Flag)

-- the fuel to the most distant alternate counts if an alternate is needed and one is listed
abbrev pub counts_alternate : Case → Leg → Bool
counts_alternate c leg = needs_alternate c leg && not (lists_none leg.alternates)

-- the fuel that the leg requires, in pounds
abbrev pub required_fuel : Case → Leg → ℕ
required_fuel c leg = required leg (basis_of c leg) (counts_alternate c leg) c.aircraft.cruise_pph c.aircraft.hold_pph c.limits.extra_fuel

-- The minimum fuel of a domestic leg is less than required (14 CFR 121.639).
abbrev pub is_short_domestic : Case → Leg → Bool
is_short_domestic c leg = is_domestic c.flight && nat_lt leg.minimum (required_fuel c leg)

-- The minimum fuel of a flag leg is less than required (14 CFR 121.645).
abbrev pub is_short_flag : Case → Leg → Bool
is_short_flag c leg = is_flag c.flight && nat_lt leg.minimum (required_fuel c leg)

-- The fuel on board is less than the minimum fuel.
abbrev pub is_underfilled : Leg → Bool
is_underfilled leg = nat_lt leg.onboard leg.minimum
