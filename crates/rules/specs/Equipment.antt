-- The rules on deferred equipment and on the airports that a type may use (14 CFR 121.628, 121.631).
use Rattle.std.specs.Prelude.{ℕ, nat_lt, nat_le, Bool, true, false, not, ◌&&◌, ◌||◌, List, ◌++◌, map, filter, Option, None, Some}
use Rattle.std.specs.List.{list_any}
use Rattle.desk_io.specs.Station.{Station}
use Rattle.ops_tables.specs.declared.rows.MelRow.{MelRow}
use Rattle.ops_tables.specs.Tables.{item_of, are_paired, may_use}
use Rattle.plan.specs.declared.flights.Leg.{Leg}
use Rattle.plan.specs.declared.flights.TakeoffAlternate.{TakeoffAlternate}
use Rattle.deferrals.specs.declared.items.Deferral.{Deferral}
use Rattle.deferrals.specs.Due.{due}
use Rattle.rules.specs.Circumstances.{Case}
use Rattle.rules.specs.DestinationAlternates.{is_flag, place_if, places_from}

-- e is an earlier deferral, and the items of both may not be deferred together
abbrev pub is_paired_with : Case → Deferral → Deferral → Bool
is_paired_with c d e = nat_lt e.id d.id && are_paired c.grounds.tables c.aircraft.kind e.item d.item

-- the item may not be deferred together with that of an earlier open deferral of the aircraft
abbrev pub is_paired : Case → Deferral → Bool
is_paired c d = list_any (is_paired_with c d) c.deferred

-- the leg is longer than the item allows; 0 is no limit
abbrev pub is_too_long : MelRow → Leg → Bool
is_too_long row leg = nat_lt 0 row.max_minutes && nat_lt row.max_minutes leg.minutes

-- the type's list lacks the item, or the item forbids the leg
abbrev pub forbids : Case → Leg → Deferral → Option MelRow → Bool
forbids c leg d None = true
forbids c leg d (Some row) = (is_flag c.flight && not row.flag_ok) || is_too_long row leg || is_paired c d

-- The type's list lacks the item of the deferral, or the item forbids the leg (14 CFR 121.628). It may forbid a flag
-- flight, a leg this long, or another item that was deferred earlier.
abbrev pub is_limiting : Case → Leg → Deferral → Bool
is_limiting c leg d = forbids c leg d (item_of c.grounds.tables c.aircraft.kind d.item)

abbrev pub limiting : Case → Leg → List ℕ
limiting c leg = map (λ d. d.id) (filter (is_limiting c leg) c.deferred)

abbrev pub is_due_by : Leg → Deferral → Option MelRow → Bool
is_due_by leg d None = false
is_due_by leg d (Some row) = nat_le (due row d.found) leg.eta

-- The item of the deferral is in the type's list and is due for repair at or before the ETA (14 CFR 121.628).
abbrev pub is_overdue : Case → Leg → Deferral → Bool
is_overdue c leg d = is_due_by leg d (item_of c.grounds.tables c.aircraft.kind d.item)

abbrev pub overdue : Case → Leg → List ℕ
overdue c leg = map (λ d. d.id) (filter (is_overdue c leg) c.deferred)

-- the type may not use the airport
abbrev pub is_barred : Case → Station → Bool
is_barred c station = not (may_use c.grounds.tables c.aircraft.kind station)

abbrev pub is_barred_takeoff : Case → Option TakeoffAlternate → Bool
is_barred_takeoff c None = false
is_barred_takeoff c (Some it) = is_barred c it.station

-- The airports that the type may not use (14 CFR 121.631): the destination (0) and the alternates (1 to 3). The
-- takeoff alternate (9) is judged only if the leg hasn't departed.
abbrev pub barred : Case → Bool → Leg → List ℕ
barred c ahead leg =
    place_if (is_barred c leg.to) 0 ++ places_from (λ it. is_barred c it.station) 1 leg.alternates
    ++ place_if (ahead && is_barred_takeoff c leg.takeoff_alternate) 9
