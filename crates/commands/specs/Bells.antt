-- What becomes of the bells that the program is given.
use Rattle.std.specs.Prelude.{◌≡◌, Bool, List, ℕ, Option, None, Some, Ok, Err}
use Rattle.alerts.specs.Ringing.{AreRung, DroppedSeen, Hung, dropped, fresh_from, staying}
use Rattle.alerts.specs.Seen.{BellSeen}
use Rattle.desk_io.specs.Over.{Over}
use Rattle.desk_io.specs.Seen.{ShelfSeen}
use Rattle.desk_io.specs.declared.source_read.SourceRead.{SourceRead}
use Rattle.scripts.specs.Below.{Shown, kept_at, told_by_all}
use Rattle.scripts.specs.ShiftLines.{HaveHeardSome}
use Rattle.scripts.specs.ShiftRuns.{IsSeatedRun}
use Rattle.words.specs.declared.task.DeskTask.{DeskTask}
use Rattle.words.specs.declared.task.DeskTask.TheVariants.{Shifts}
use Rattle.words.specs.declared.task.Task.{Task}
use Rattle.words.specs.declared.task.Task.TheVariants.{Desk}
use Rattle.commands.specs.Faults.{Outcome}
use Rattle.commands.specs.Seen.{Lent, kept_with}
use Rattle.commands.specs.Sources.{ReadsSources, first_of, from_reads}

-- The bells are rung for the notices of the board's history, in order. Without a board none is rung.
abbrev pub AreRungOver : Option Shown → List Hung → List Hung → Type 0
AreRungOver None old new = new ≡ old
AreRungOver (Some board) old new = AreRung (told_by_all board.opening board.state.entries) old new

-- A script of shifts was run on the board since its opening, and this is its text. The bells were rung at whoever sat at
-- the desks when the notices were made, and these are the notices of the board's history.
abbrev pub IsRungInShifts : List ℕ → Lent → Shown → Outcome → List Hung → List Hung → Type 0
IsRungInShifts script keeper board (Ok text) old new =
    (opened : List Bool) × IsSeatedRun board.opening (kept_with opened keeper) (kept_at keeper.after) board.opening script board.state text old new
IsRungInShifts script keeper board (Err fault) old new = Unit {0}

-- Whatever came of the run, the bells that stay are in their order, and each that was dropped has failed. Without a board
-- no bell is rung.
abbrev pub AreRungSeated : List ℕ → Lent → Outcome → Option Shown → List Hung → List Hung → Type 0
AreRungSeated script keeper answer None old new = new ≡ old
AreRungSeated script keeper answer (Some board) old new = HaveHeardSome old new × IsRungInShifts script keeper board answer old new

-- what a command makes of the bells, over the texts of its sources
abbrev pub AreRungBy : DeskTask → List (List ℕ) → Lent → Outcome → Option Shown → List Hung → List Hung → Type 0
AreRungBy Shifts texts keeper answer board old new = AreRungSeated (first_of texts) keeper answer board old new
AreRungBy _ texts keeper answer board old new = AreRungOver board old new

-- The same on a board that was opened, over the sources of these names. A script of shifts is the text that the last
-- reads of the run returned.
abbrev pub AreRungOn : Over ShelfSeen → DeskTask → List (List ℕ) → Lent → Outcome → Shown → List Hung → List Hung → Type 0
AreRungOn shelf Shifts names keeper answer board old new =
    HaveHeardSome old new
    × ((upto : List SourceRead) × (texts : List (List ℕ)) × ReadsSources (from_reads shelf upto) names (Ok texts) × IsRungInShifts (first_of texts) keeper board answer old new)
AreRungOn shelf _ names keeper answer board old new = AreRung (told_by_all board.opening board.state.entries) old new

abbrev pub AreRungUnder : Over ShelfSeen → DeskTask → List (List ℕ) → Lent → Outcome → Option Shown → List Hung → List Hung → Type 0
AreRungUnder shelf task names keeper answer None old new = new ≡ old
AreRungUnder shelf task names keeper answer (Some board) old new = AreRungOn shelf task names keeper answer board old new

abbrev pub AreRungIn : Over ShelfSeen → Task → List (List ℕ) → Lent → Outcome → Option Shown → List Hung → List Hung → Type 0
AreRungIn shelf (Desk task) names keeper answer board old new = AreRungUnder shelf task names keeper answer board old new
AreRungIn shelf _ names keeper answer board old new = AreRungOver board old new

-- what the command in the arguments makes of the bells, if there is one
abbrev pub AreRungAfter : Over ShelfSeen → Option (Task × List (List ℕ)) → Lent → Outcome → Option Shown → List Hung → List Hung → Type 0
AreRungAfter shelf None keeper answer board old new = AreRungOver board old new
AreRungAfter shelf (Some command) keeper answer board old new = AreRungIn shelf command.0 command.1 keeper answer board old new

-- Bells that heard nothing before are rung as the command with this answer does it. Those that stay are returned in order.
-- Those that failed are returned with their places and with how many notices they heard.
pub record AreHandedBack (shelf : Over ShelfSeen) (command : Option (Task × List (List ℕ))) (keeper : Lent) (answer : Outcome) (board : Option Shown) (given bells : List BellSeen) (gone : List DroppedSeen) : Type 0 where
  pub hung : List Hung
  pub rung : AreRungAfter shelf command keeper answer board (fresh_from 0 given) hung
  pub stay : bells ≡ staying hung
  pub leave : gone ≡ dropped hung
