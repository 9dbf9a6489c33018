-- Sequences of items, from any source.
use Rattle.std.specs.Prelude.{◌≡◌, List, [], ◌∷◌, map, Option, None, Some}
use Rattle.desk_state.specs.declared.lanes.Item.{Item}
use Rattle.imports.specs.Records.{Line}
use Rattle.desk.specs.Run.{item_of}

-- the first of the items before, followed by the items after; none if no item was left
abbrev pub Comes : Option Item → List Item → List Item → Type 0
Comes None before after = before ≡ []
Comes (Some i) before after = before ≡ i ∷ after

-- the items of an import's records
abbrev pub items_of_lines : List Line → List Item
items_of_lines lines = map item_of lines
