-- The roster of the desks: who sits at each desk, and to whom it is offered.
use Rattle.std.specs.Prelude.{◌≡◌, ℕ, ◌<◌, Bool, true, false, List, [], ◌∷◌, length, map, filter, find, Option, None, Some, if◌then◌else◌, option_and_then, slice_index_or, slice_set}
use Rattle.std.specs.Option.{option_map}
use Rattle.std.specs.Str.{bytes_eq}
use Rattle.ops_tables.specs.Names.{has_name}
use Rattle.ops_tables.specs.Rows.{Actor}
use Rattle.ops_tables.specs.Tables.{TableRows, actor_of}
use Rattle.ops_tables.specs.declared.rows.Role.{Role}
use Rattle.ops_tables.specs.declared.rows.Role.TheVariants.{D, C, F, M, S}
use Rattle.relief.specs.declared.lines.RosterLine.{RosterLine}

-- ---- dispatchers and desks

abbrev pub is_dispatcher_role : Role → Bool
is_dispatcher_role D = true
is_dispatcher_role C = false
is_dispatcher_role F = false
is_dispatcher_role M = false
is_dispatcher_role S = false

abbrev pub is_dispatcher : Option Actor → Bool
is_dispatcher None = false
is_dispatcher (Some actor) = is_dispatcher_role actor.role

-- the person of this name is a dispatcher
abbrev pub has_dispatcher : TableRows → List ℕ → Bool
has_dispatcher t name = is_dispatcher (actor_of t name)

-- the dispatchers' names among these people
abbrev pub dispatchers_among : List Actor → List (List ℕ)
dispatchers_among people = map (λ a. a.name) (filter (λ a. is_dispatcher_role a.role) people)

-- the desks: one for each dispatcher, named after him, in the order of actors.csv
abbrev pub desks_of : TableRows → List (List ℕ)
desks_of t = dispatchers_among t.actors

-- ---- the roster

-- a desk at which its namesake sits, and which is offered to nobody
abbrev pub own_line : List ℕ → RosterLine
own_line desk = record { desk = desk; sitter = desk; offered = None }

-- the lines of the dispatchers among these people, each at his own desk
abbrev pub own_lines : List Actor → List RosterLine
own_lines people = map own_line (dispatchers_among people)

-- the roster at the start
abbrev pub first_roster : TableRows → List RosterLine
first_roster t = own_lines t.actors

-- the desks of a roster, in order
abbrev pub desks_in : List RosterLine → List (List ℕ)
desks_in roster = map (λ l. l.desk) roster

-- no desk is named twice
abbrev pub HasEachOnce : List (List ℕ) → Type 0
HasEachOnce [] = Unit {0}
HasEachOnce (desk ∷ desks) = (has_name desks desk ≡ false) × HasEachOnce desks

abbrev pub is_line_of : List ℕ → RosterLine → Bool
is_line_of desk line = bytes_eq line.desk desk

-- the line of a desk
abbrev pub line_of : List RosterLine → List ℕ → Option RosterLine
line_of roster desk = find (is_line_of desk) roster

-- who sits at a desk
abbrev pub sitter_at : List RosterLine → List ℕ → Option (List ℕ)
sitter_at roster desk = option_map (λ l. l.sitter) (line_of roster desk)

-- to whom a desk is offered
abbrev pub offered_at : List RosterLine → List ℕ → Option (List ℕ)
offered_at roster desk = option_and_then (λ l. l.offered) (line_of roster desk)

-- ---- changes

-- the roster with the line of this desk changed
abbrev pub with_line : (RosterLine → RosterLine) → List ℕ → List RosterLine → List RosterLine
with_line change desk [] = []
with_line change desk (line ∷ roster) = if bytes_eq line.desk desk then change line ∷ roster else line ∷ with_line change desk roster

-- an offer takes the place of an earlier one
abbrev pub offered_to : List ℕ → RosterLine → RosterLine
offered_to to line = record line { offered = Some to }

-- whoever accepts a desk sits there, and it is offered to nobody any more
abbrev pub taken_by : List ℕ → RosterLine → RosterLine
taken_by actor line = record line { sitter = actor; offered = None }

-- The first line of a desk is at this index.
pub record IsPlaceOf (desk : List ℕ) (roster : List RosterLine) (place : ℕ) : Type 0 where
  pub within : place < length roster
  pub found : (line : RosterLine) → line_of roster desk ≡ Some (slice_index_or roster place line)
  pub changed : (change : RosterLine → RosterLine) (line : RosterLine)
      → with_line change desk roster ≡ slice_set roster place (change (slice_index_or roster place line))
