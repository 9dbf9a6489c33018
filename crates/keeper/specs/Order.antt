-- Lists of rows in order of kind, then key, and changes of such lists.
use Rattle.std.specs.Prelude.{◌≡◌, ℕ, zero, suc, ◌==◌, nat_lt, ◌&&◌, ◌||◌, Bool, true, false, if◌then◌else◌, List, [], ◌∷◌, Option, None, Some}
use Rattle.std.specs.List.{cons_option, AllPairs}
use Rattle.desk_io.specs.declared.rows.Row.{Row}
use Rattle.desk_io.specs.declared.rows.Change.{Change}
use Rattle.desk_io.specs.declared.rows.Change.TheVariants.{Put, Remove}
use Rattle.desk_io.specs.Rows.{is_row}

-- the first kind and key precede the second
abbrev pub comes_before : ℕ → ℕ → ℕ → ℕ → Bool
comes_before k q kind key = nat_lt k kind || ((k == kind) && nat_lt q key)

-- the row precedes that kind and key
abbrev pub is_below : ℕ → ℕ → Row → Bool
is_below kind key row = comes_before row.kind row.key kind key

-- no two rows have the same kind and key
abbrev pub AreApart : List Row → Type 0
AreApart rows = AllPairs (λ a b. is_row a.kind a.key b ≡ false) rows

-- the row at that place has that kind and key
abbrev pub stands_at : ℕ → ℕ → ℕ → List Row → Bool
stands_at place kind key [] = false
stands_at zero kind key (row ∷ rows) = is_row kind key row
stands_at (suc place) kind key (row ∷ rows) = stands_at place kind key rows

-- each row precedes the one after it
abbrev pub rises_from : Row → List Row → Bool
rises_from row [] = true
rises_from row (next ∷ rows) = is_below next.kind next.key row && rises_from next rows

-- Each row precedes the next, so that no two rows have the same kind and key.
abbrev pub rising : List Row → Bool
rising [] = true
rising (row ∷ rows) = rises_from row rows

abbrev pub put_here : Bool → Option Row → Row → List Row → List Row
put_here true put row rows = cons_option put rows
put_here false put row rows = cons_option put (row ∷ rows)

-- Sorted rows in which `put` replaces the row under a kind and key. Either of the two may be missing.
abbrev pub put_at : ℕ → ℕ → Option Row → List Row → List Row
put_at kind key put [] = cons_option put []
put_at kind key put (row ∷ rows) =
    if is_below kind key row then row ∷ put_at kind key put rows else put_here (is_row kind key row) put row rows

-- the list of rows after a change
abbrev pub list_changed : Change → List Row → List Row
list_changed (Put row) rows = put_at row.kind row.key (Some row) rows
list_changed (Remove kind key) rows = put_at kind key None rows

-- the list of rows after the changes, applied in order
abbrev pub list_changed_by : List Change → List Row → List Row
list_changed_by [] rows = rows
list_changed_by (change ∷ changes) rows = list_changed_by changes (list_changed change rows)
