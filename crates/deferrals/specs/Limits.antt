-- What the open deferrals of an aircraft cost its flights (14 CFR 121.628).
use Rattle.std.specs.Prelude.{ℕ, Bool, true, false, not, ◌&&◌, List, [], ◌∷◌, map, filter, Option, None, Some}
use Rattle.std.specs.List.{filter_map, sum}
use Rattle.std.specs.Str.{bytes_eq}
use Rattle.ops_tables.specs.declared.rows.MelRow.{MelRow}
use Rattle.ops_tables.specs.declared.rows.TypeRow.{TypeRow}
use Rattle.ops_tables.specs.Names.{has_name}
use Rattle.ops_tables.specs.Tables.{TableRows, type_of, item_of}
use Rattle.deferrals.specs.declared.items.Deferral.{Deferral}
use Rattle.deferrals.specs.declared.limits.Limits.{Limits}

abbrev pub is_of : List ℕ → Deferral → Bool
is_of tail deferral = bytes_eq deferral.tail tail

-- the open deferrals of the aircraft, in the order of the list
abbrev pub open_on : List ℕ → List Deferral → List Deferral
open_on tail list = filter (λ deferral. is_of tail deferral) list

-- the rows of the deferred items, in the order of deferral; an item that the type's list lacks is skipped
abbrev pub rows_of : TableRows → List ℕ → List Deferral → List MelRow
rows_of tables kind deferred = filter_map (λ deferral. item_of tables kind deferral.item) deferred

abbrev pub names_some : List ℕ → Bool
names_some [] = false
names_some (byte ∷ bytes) = true

-- the capabilities that the rows take away; a row without one takes none
abbrev pub capabilities_of : List MelRow → List (List ℕ)
capabilities_of rows = filter (λ name. names_some name) (map (λ row. row.capability) rows)

-- the names in order, without duplicates
abbrev pub once : List (List ℕ) → List (List ℕ)
once [] = []
once (name ∷ names) = name ∷ filter (λ other. not (bytes_eq name other)) (once names)

-- the capability isn't empty, and isn't in the list of lost ones yet
abbrev pub loses_more : List ℕ → List (List ℕ) → Bool
loses_more capability lost = names_some capability && not (has_name lost capability)

-- what the deferred items of these rows cost: their extra fuel, and the lost capabilities
abbrev pub limits_by : List MelRow → Limits
limits_by rows = record { extra_fuel = sum (map (λ row. row.extra_fuel) rows); lost = once (capabilities_of rows) }

-- the same for an aircraft and its type; without a known type the deferrals cost nothing
abbrev pub limits_with : TableRows → Option TypeRow → List ℕ → List Deferral → Limits
limits_with tables None tail list = limits_by []
limits_with tables (Some kind) tail list = limits_by (rows_of tables kind.kind (open_on tail list))

-- what the open deferrals cost the aircraft
unfoldable pub limits : TableRows → List ℕ → List Deferral → Limits
limits tables tail list = limits_with tables (type_of tables tail) tail list
