-- The lines on deferred equipment and on the airports that a type may use (14 CFR 121.628, 121.631).
use Rattle.std.specs.Prelude.{ℕ, nat_le, Bool, true, false, if◌then◌else◌, List, [], ◌∷◌, ◌++◌, map, find, Option, None, Some}
use Rattle.std.specs.List.{filter_map}
use Rattle.std.specs.Option.{option_map}
use Rattle.desk_io.specs.Station.{Station}
use Rattle.desk_time.specs.Limits.{last_moment}
use Rattle.ops_tables.specs.declared.rows.MelRow.{MelRow}
use Rattle.ops_tables.specs.Tables.{item_of, may_use}
use Rattle.deferrals.specs.Due.{due}
use Rattle.deferrals.specs.declared.items.Deferral.{Deferral}
use Rattle.plan.specs.declared.findings.Rule.TheVariants.{No11, No12, No13}
use Rattle.plan.specs.declared.flights.Leg.{Leg}
use Rattle.plan.specs.declared.flights.Alternate.{Alternate}
use Rattle.plan.specs.declared.flights.TakeoffAlternate.{TakeoffAlternate}
use Rattle.rules.specs.Circumstances.{Case}
use Rattle.rules.specs.DestinationAlternates.{is_flag}
use Rattle.rules.specs.Equipment.{is_paired_with}
use Rattle.sheet.specs.declared.lines.Line.{Line}
use Rattle.sheet.specs.declared.lines.Compared.TheVariants as compared
use Rattle.sheet.specs.declared.lines.Allowance.{Allowance}
use Rattle.sheet.specs.declared.lines.ItemLimit.{ItemLimit}
use Rattle.sheet.specs.declared.lines.Repair.{Repair}
use Rattle.sheet.specs.declared.lines.AirportUse.{AirportUse}
use Rattle.sheet.specs.Lines.{line, numbered}

-- what the type's list allows while the item is deferred
abbrev pub allowance : MelRow → Allowance
allowance row = record { flag_ok = row.flag_ok; max_minutes = row.max_minutes }

-- the first earlier deferral whose item excludes this one
abbrev pub excluded_by : Case → Deferral → Option ℕ
excluded_by c d = option_map (λ e. e.id) (find (is_paired_with c d) c.deferred)

-- the row of the type's list for the deferred item
abbrev pub row_of : Case → Deferral → Option MelRow
row_of c d = item_of c.grounds.tables c.aircraft.kind d.item

abbrev pub allows : Case → Deferral → Option Allowance
allows c d = option_map allowance (row_of c d)

abbrev pub item_limit : Case → Leg → Deferral → ItemLimit
item_limit c leg d = record { item = d.item; is_flag = is_flag c.flight; minutes = leg.minutes; allows = allows c d; excluded_by = excluded_by c d }

abbrev pub limit_line : Case → ℕ → Leg → Deferral → Line
limit_line c n leg d = line No11 n d.id (compared.Limit (item_limit c leg d))

-- the limits of each deferred item (14 CFR 121.628)
abbrev pub limit_lines : Case → ℕ → Leg → List Line
limit_lines c n leg = map (limit_line c n leg) c.deferred

-- the moment by which the item must be repaired, unless the fault was found after the last moment of the desk
abbrev pub due_in_time : MelRow → ℕ → Option ℕ
due_in_time row found = if nat_le found last_moment then Some (due row found) else None

abbrev pub repair : Leg → Deferral → MelRow → Repair
repair leg d row = record { item = d.item; found = d.found; due = due_in_time row d.found; eta = leg.eta }

abbrev pub repair_line : ℕ → Leg → Deferral → MelRow → Line
repair_line n leg d row = line No12 n d.id (compared.Due (repair leg d row))

abbrev pub repair_at : ℕ → Leg → Deferral → Option MelRow → Option Line
repair_at n leg d row = option_map (repair_line n leg d) row

-- the repair of each deferred item that the type's list has (14 CFR 121.628)
abbrev pub repair_lines : Case → ℕ → Leg → List Line
repair_lines c n leg = filter_map (λ d. repair_at n leg d (row_of c d)) c.deferred

abbrev pub airport_use : Case → Station → AirportUse
airport_use c station = record { kind = c.aircraft.kind; station = station; may_use = may_use c.grounds.tables c.aircraft.kind station }

abbrev pub airport_line : Case → ℕ → ℕ → Station → Line
airport_line c n place station = line No13 n place (compared.Airport (airport_use c station))

abbrev pub alternate_airport : Case → ℕ → ℕ → Alternate → Line
alternate_airport c n place it = airport_line c n place it.station

-- the takeoff alternate, if the leg hasn't departed
abbrev pub takeoff_airport : Case → Bool → ℕ → Option TakeoffAlternate → List Line
takeoff_airport c false n it = []
takeoff_airport c true n None = []
takeoff_airport c true n (Some it) = airport_line c n 9 it.station ∷ []

-- the destination, the alternates and the takeoff alternate (14 CFR 121.631)
abbrev pub airport_lines : Case → Bool → ℕ → Leg → List Line
airport_lines c ahead n leg =
    (airport_line c n 0 leg.to ∷ []) ++ numbered (alternate_airport c n) 1 leg.alternates ++ takeoff_airport c ahead n leg.takeoff_alternate
