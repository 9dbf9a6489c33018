-- The text of the roster at the end of a shift script.
use Rattle.std.specs.Prelude.{ℕ, List, [], ◌∷◌, ◌++◌, codes, Option, None, Some}
use Rattle.std.specs.List.{concat}
use Rattle.relief.specs.declared.lines.RosterLine.{RosterLine}

-- to whom a desk is offered
abbrev pub offered_text : Option (List ℕ) → List ℕ
offered_text None = codes "-"
offered_text (Some person) = person

-- a desk, who sits there, and to whom it is offered
abbrev pub desk_text : RosterLine → List ℕ
desk_text line = concat (line.desk ∷ codes " " ∷ line.sitter ∷ codes " " ∷ []) ++ concat (offered_text line.offered ∷ codes "\n" ∷ [])

abbrev pub desks_text : List RosterLine → List ℕ
desks_text [] = []
desks_text (line ∷ roster) = desk_text line ++ desks_text roster

-- the roster: a line for each desk between two fixed lines
abbrev pub roster_text : List RosterLine → List ℕ
roster_text roster = codes "ROSTER\n" ++ (desks_text roster ++ codes "END\n")
