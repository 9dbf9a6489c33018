-- The key of each table, and rows of which no two have the same key.
use Rattle.std.specs.Prelude.{◌≡◌, ℕ, ◌==◌, ◌≤◌, Bool, false, ◌&&◌, List, [], ◌∷◌, ◌++◌, length, All}
use Rattle.std.specs.List.{list_any}
use Rattle.std.specs.Str.{bytes_eq}
use Rattle.ops_tables.specs.Tables.{is_station, is_pair}
use Rattle.ops_tables.specs.declared.rows.Airport.{Airport}
use Rattle.ops_tables.specs.declared.rows.Approach.{Approach}
use Rattle.ops_tables.specs.declared.rows.AlternateRow.{AlternateRow}
use Rattle.ops_tables.specs.declared.rows.TypeRow.{TypeRow}
use Rattle.ops_tables.specs.declared.rows.Tail.{Tail}
use Rattle.ops_tables.specs.declared.rows.Use.{Use}
use Rattle.ops_tables.specs.declared.rows.Distance.{Distance}
use Rattle.ops_tables.specs.declared.rows.Route.{Route}
use Rattle.ops_tables.specs.declared.rows.MelRow.{MelRow}
use Rattle.ops_tables.specs.Rows.{ItemPair, Actor, CaptainHours}

abbrev pub is_same_airport : Airport → Airport → Bool
is_same_airport a b = is_station b.station a.station

abbrev pub is_same_approach : Approach → Approach → Bool
is_same_approach a b = is_station b.station a.station && bytes_eq b.name a.name

abbrev pub is_same_alternate : AlternateRow → AlternateRow → Bool
is_same_alternate a b = is_station b.station a.station && (b.ceiling == a.ceiling) && (b.vis16 == a.vis16)

abbrev pub is_same_type : TypeRow → TypeRow → Bool
is_same_type a b = bytes_eq b.kind a.kind

abbrev pub is_same_tail : Tail → Tail → Bool
is_same_tail a b = bytes_eq b.tail a.tail

abbrev pub is_same_use : Use → Use → Bool
is_same_use a b = bytes_eq b.kind a.kind && is_station b.station a.station

abbrev pub is_same_distance : Distance → Distance → Bool
is_same_distance a b = is_station b.from a.from && is_station b.to a.to

abbrev pub is_same_route : Route → Route → Bool
is_same_route a b = is_station b.from a.from && is_station b.to a.to

abbrev pub is_same_item : MelRow → MelRow → Bool
is_same_item a b = bytes_eq b.kind a.kind && bytes_eq b.item a.item

abbrev pub is_same_pair : ItemPair → ItemPair → Bool
is_same_pair a b = is_pair b a.kind a.item a.other

abbrev pub is_same_actor : Actor → Actor → Bool
is_same_actor a b = bytes_eq b.name a.name

abbrev pub is_same_hours : CaptainHours → CaptainHours → Bool
is_same_hours a b = bytes_eq b.captain a.captain && bytes_eq b.kind a.kind

-- each of these rows has a key that none of the `earlier` rows and no row before it has
abbrev pub AreNew : {R : Type 0} → (R → R → Bool) → List R → List R → Type 0
AreNew is_same_key earlier [] = Unit {0}
AreNew is_same_key earlier (row ∷ rows) = (list_any (is_same_key row) earlier ≡ false) × AreNew is_same_key (earlier ++ row ∷ []) rows

-- rows that a table may have: every column fits, all keys are distinct, and there are at most `limit` rows
pub record AreRows {R : Type 0} (is_same_key : R → R → Bool) (Fits : R → Type 0) (limit : ℕ) (rows : List R) : Type 0 where
  pub fits : All Fits rows
  pub distinct : AreNew is_same_key [] rows
  pub within : length rows ≤ limit
