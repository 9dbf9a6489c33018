-- The thirteen tables: file names, columns, references to other tables, and limits.
use Rattle.std.specs.Prelude.{ℕ, true, ◌&&◌, List, [], ◌∷◌, Result, codes}
use Rattle.ops_tables.specs.Tables.{TableRows, has_airport, has_type, has_item, has_captain}
use Rattle.ops_tables.specs.Keys.{is_same_airport, is_same_approach, is_same_alternate, is_same_type, is_same_tail, is_same_use, is_same_distance, is_same_route, is_same_item, is_same_pair, is_same_actor, is_same_hours}
use Rattle.table_files.specs.Records.{airport_row, approach_row, alternate_row, type_row, tail_row, use_row, distance_row, route_row, item_row, pair_row, actor_row, hours_row}
use Rattle.table_files.specs.Reading.{Table, with_table, placed}
use Rattle.table_files.specs.Settings.{settings_of}
use Rattle.ops_tables.specs.declared.rows.Airport.{Airport}
use Rattle.ops_tables.specs.declared.rows.Approach.{Approach}
use Rattle.ops_tables.specs.declared.rows.AlternateRow.{AlternateRow}
use Rattle.ops_tables.specs.declared.rows.TypeRow.{TypeRow}
use Rattle.ops_tables.specs.declared.rows.Tail.{Tail}
use Rattle.ops_tables.specs.declared.rows.Use.{Use}
use Rattle.ops_tables.specs.declared.rows.Distance.{Distance}
use Rattle.ops_tables.specs.declared.rows.Route.{Route}
use Rattle.ops_tables.specs.declared.rows.MelRow.{MelRow}
use Rattle.ops_tables.specs.Rows.{ItemPair, Actor, CaptainHours}
use Rattle.table_files.specs.declared.faults.BadRecord.{BadRecord}
use Rattle.table_files.specs.declared.files.File.{File}
use Rattle.table_files.specs.declared.files.File.TheVariants as file

-- the files, in the order in which they are read
abbrev pub files : List File
files = file.Settings ∷ file.Airports ∷ file.Approaches ∷ file.Alternates ∷ file.Types ∷ file.Tails ∷ file.Uses ∷ file.Distances ∷ file.Routes ∷ file.Mel ∷ file.Pairs ∷ file.Actors ∷ file.Hours ∷ []

abbrev pub name_of : File → List ℕ
name_of file.Settings = codes "settings.csv"
name_of file.Airports = codes "airports.csv"
name_of file.Approaches = codes "approaches.csv"
name_of file.Alternates = codes "alternates.csv"
name_of file.Types = codes "types.csv"
name_of file.Tails = codes "tails.csv"
name_of file.Uses = codes "uses.csv"
name_of file.Distances = codes "distances.csv"
name_of file.Routes = codes "routes.csv"
name_of file.Mel = codes "mel.csv"
name_of file.Pairs = codes "pairs.csv"
name_of file.Actors = codes "actors.csv"
name_of file.Hours = codes "hours.csv"

abbrev pub airports : Table Airport
airports = record {
  columns = codes "station" ∷ codes "conus" ∷ codes "circle" ∷ [];
  row_of = airport_row;
  is_linked = λ t row. true;
  with_rows = λ t rows. record t { airports = rows };
}

abbrev pub approaches : Table Approach
approaches = record {
  columns = codes "station" ∷ codes "name" ∷ codes "runway" ∷ codes "capability" ∷ codes "height" ∷ codes "ceiling" ∷ codes "vis16" ∷ [];
  row_of = approach_row;
  is_linked = λ t row. has_airport t row.station;
  with_rows = λ t rows. record t { approaches = rows };
}

abbrev pub alternates : Table AlternateRow
alternates = record {
  columns = codes "station" ∷ codes "ceiling" ∷ codes "vis16" ∷ [];
  row_of = alternate_row;
  is_linked = λ t row. has_airport t row.station;
  with_rows = λ t rows. record t { alternates = rows };
}

abbrev pub types : Table TypeRow
types = record {
  columns = codes "kind" ∷ codes "engines" ∷ codes "oei_knots" ∷ codes "cruise_pph" ∷ codes "hold_pph" ∷ codes "capabilities" ∷ [];
  row_of = type_row;
  is_linked = λ t row. true;
  with_rows = λ t rows. record t { types = rows };
}

abbrev pub tails : Table Tail
tails = record {
  columns = codes "tail" ∷ codes "kind" ∷ [];
  row_of = tail_row;
  is_linked = λ t row. has_type t row.kind;
  with_rows = λ t rows. record t { tails = rows };
}

abbrev pub uses : Table Use
uses = record {
  columns = codes "kind" ∷ codes "station" ∷ [];
  row_of = use_row;
  is_linked = λ t row. has_type t row.kind && has_airport t row.station;
  with_rows = λ t rows. record t { uses = rows };
}

abbrev pub distances : Table Distance
distances = record {
  columns = codes "from" ∷ codes "to" ∷ codes "miles" ∷ [];
  row_of = distance_row;
  is_linked = λ t row. has_airport t row.from && has_airport t row.to;
  with_rows = λ t rows. record t { distances = rows };
}

abbrev pub routes : Table Route
routes = record {
  columns = codes "from" ∷ codes "to" ∷ [];
  row_of = route_row;
  is_linked = λ t row. has_airport t row.from && has_airport t row.to;
  with_rows = λ t rows. record t { routes = rows };
}

abbrev pub mel : Table MelRow
mel = record {
  columns = codes "kind" ∷ codes "item" ∷ codes "category" ∷ codes "days" ∷ codes "capability" ∷ codes "extra_fuel" ∷ codes "flag_ok" ∷ codes "max_minutes" ∷ [];
  row_of = item_row;
  is_linked = λ t row. has_type t row.kind;
  with_rows = λ t rows. record t { mel = rows };
}

abbrev pub pairs : Table ItemPair
pairs = record {
  columns = codes "kind" ∷ codes "item" ∷ codes "other" ∷ [];
  row_of = pair_row;
  is_linked = λ t row. has_type t row.kind && has_item t row.kind row.item && has_item t row.kind row.other;
  with_rows = λ t rows. record t { pairs = rows };
}

abbrev pub actors : Table Actor
actors = record {
  columns = codes "name" ∷ codes "key" ∷ codes "role" ∷ [];
  row_of = actor_row;
  is_linked = λ t row. true;
  with_rows = λ t rows. record t { actors = rows };
}

abbrev pub hours : Table CaptainHours
hours = record {
  columns = codes "captain" ∷ codes "kind" ∷ codes "hours" ∷ [];
  row_of = hours_row;
  is_linked = λ t row. has_captain t row.captain && has_type t row.kind;
  with_rows = λ t rows. record t { hours = rows };
}

-- the tables after one more file with these records is read, or its first bad record
abbrev pub with_file : File → TableRows → List (List (List ℕ)) → Result TableRows BadRecord
with_file file.Settings t = λ records. placed (λ settings. record t { settings = settings }) (settings_of records)
with_file file.Airports t = with_table is_same_airport 5000 airports t
with_file file.Approaches t = with_table is_same_approach 50000 approaches t
with_file file.Alternates t = with_table is_same_alternate 20000 alternates t
with_file file.Types t = with_table is_same_type 200 types t
with_file file.Tails t = with_table is_same_tail 5000 tails t
with_file file.Uses t = with_table is_same_use 200000 uses t
with_file file.Distances t = with_table is_same_distance 200000 distances t
with_file file.Routes t = with_table is_same_route 50000 routes t
with_file file.Mel t = with_table is_same_item 50000 mel t
with_file file.Pairs t = with_table is_same_pair 50000 pairs t
with_file file.Actors t = with_table is_same_actor 5000 actors t
with_file file.Hours t = with_table is_same_hours 20000 hours t

-- tables without rows; every setting is 0
abbrev pub no_rows : TableRows
no_rows = record {
  settings = record { hold_minutes = 0; marginal_ceiling = 0; single_ceiling = 0; double_ceiling = 0; marginal_vis16 = 0; single_vis16 = 0; double_vis16 = 0; late_off = 0; late_on = 0 };
  airports = [];
  approaches = [];
  alternates = [];
  types = [];
  tails = [];
  uses = [];
  distances = [];
  routes = [];
  mel = [];
  pairs = [];
  actors = [];
  hours = [];
}
