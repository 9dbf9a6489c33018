-- Stored rows: at most one body for each kind and key.
use Rattle.std.specs.Prelude.{ℕ, ◌==◌, ◌&&◌, Bool, if◌then◌else◌, List, [], ◌∷◌, find, Option, None, Some}
use Rattle.std.specs.Option.{option_map}
use Rattle.desk_io.specs.declared.rows.Row.{Row}
use Rattle.desk_io.specs.declared.rows.Change.{Change}
use Rattle.desk_io.specs.declared.rows.Change.TheVariants.{Put, Remove}

-- the body under each kind and key, if there is one
abbrev pub Rows : Type 0
Rows = ℕ → ℕ → Option (List ℕ)

-- no row is stored
abbrev pub no_rows : Rows
no_rows kind key = None

abbrev pub is_row : ℕ → ℕ → Row → Bool
is_row kind key row = (row.kind == kind) && (row.key == key)

-- the rows of a list; if several share a kind and a key, the first one counts
abbrev pub rows_of : List Row → Rows
rows_of rows kind key = option_map (λ (row : Row). row.body) (find (is_row kind key) rows)

-- the rows after one change
abbrev pub changed : Change → Rows → Rows
changed (Put row) rows kind key = if is_row kind key row then Some row.body else rows kind key
changed (Remove k q) rows kind key = if (k == kind) && (q == key) then None else rows kind key

-- the rows after the changes, applied in order
abbrev pub changed_by : List Change → Rows → Rows
changed_by [] rows = rows
changed_by (change ∷ changes) rows = changed_by changes (changed change rows)
