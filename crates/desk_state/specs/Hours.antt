-- The hours that a captain has flown in the type of his plan.
use Rattle.std.specs.Prelude.{ℕ, List, Option, None, Some}
use Rattle.ops_tables.specs.Tables.{TableRows, hours_of, type_of}
use Rattle.ops_tables.specs.declared.rows.TypeRow.{TypeRow}
use Rattle.plan.specs.declared.flights.Plan.{Plan}

abbrev pub hours_in : TableRows → List ℕ → Option TypeRow → ℕ
hours_in tables captain None = 0
hours_in tables captain (Some aircraft) = hours_of tables captain aircraft.kind

-- The hours of a plan's captain in the type of its aircraft, by the tables. They are 0 if the tables lack the
-- aircraft.
unfoldable pub captain_hours : TableRows → Plan → ℕ
captain_hours tables plan = hours_in tables plan.captain (type_of tables plan.tail)
