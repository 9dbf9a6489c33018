-- The desk that a command opens, and the work of each command on it.
use Rattle.std.specs.Prelude.{◌≡◌, ◌≢◌, ℕ, ◌≤◌, Bool, true, false, List, Option, None, Some, Result, Ok, Err}
use Rattle.alerts.specs.Ringing.{Hung}
use Rattle.scripts.specs.Below.{Shown, Record, state_in, reopened, KeepsState, AreGivenInPart, IsRunInPart, items_of_lines, IsMade, IsMadeInPart, AreAsked, AreLoaded, IsEntered, IsLeft, IsOfKeeper, IsWhy, MayHaveAsked, NotEntered, TellsRowsOf, IsRace, IsRaceInPart, IsRun, IsRunOf, DeskAt, OpenWhy, IsBoard, State, grounds_of, closing, kept_at, stored_at_opening}
use Rattle.scripts.specs.PlannedHistory.{IsPlanned}
use Rattle.scripts.specs.PlannedRuns.{IsPlannedInPart}
use Rattle.scripts.specs.ShiftRuns.{IsSeatedRun, IsShiftRun, IsShiftRunInPart}
use Rattle.desk_json.specs.Plans.{plan_in}
use Rattle.desk_io.specs.Health.{HasFailed, IsSound, IsStill}
use Rattle.desk_io.specs.Over.{Over}
use Rattle.desk_net.specs.Seen.{ClockGoesOn}
use Rattle.imports.specs.Lines.{IsImport}
use Rattle.imports.specs.Records.{Line}
use Rattle.keeper.specs.Seen.{KeeperSeen, kept_rows}
use Rattle.ops_tables.specs.Tables.{TableRows}
use Rattle.plan.specs.declared.flights.Plan.{Plan}
use Rattle.advise.specs.Text.{IsAdviceText}
use Rattle.advise.specs.declared.candidates.Candidate.{Candidate}
use Rattle.connections.specs.Doors.{HasLinks}
use Rattle.connections.specs.declared.doors.ServeEnd.{ServeEnd}
use Rattle.connections.specs.declared.doors.ServeEnd.TheVariants as ends
use Rattle.desk_net.specs.Doors.{Links}
use Rattle.service.specs.Staying.{IsStaying}
use Rattle.service.specs.Doors.{IsServing}
use Rattle.service.specs.Shared.{counted_from}
use Rattle.table_files.specs.declared.faults.BadTable.{BadTable as ABadTable}
use Rattle.table_files.specs.declared.faults.TableWhy.TheVariants.{BadField}
use Rattle.words.specs.declared.task.DeskTask.{DeskTask}
use Rattle.words.specs.declared.task.DeskTask.TheVariants.{Run, Race, Serve, Stay, Import, Make, Advise, Planned, Shifts, Why, Check}
use Rattle.words.specs.declared.task.Task.{Task}
use Rattle.words.specs.declared.task.Task.TheVariants.{Desk}
use Rattle.commands.specs.Explained.{check_text, why_text}
use Rattle.commands.specs.Faults.{Gives, Outcome, of_opening}
use Rattle.commands.specs.Seen.{Lent, Service, kept_with}
use Rattle.commands.specs.Inputs.{AreStated, IsFirstBad, IsNoPlan}
use Rattle.commands.specs.Sources.{first_of}
use Rattle.commands.specs.declared.fault.BadInput.{BadInput as ABadInput}
use Rattle.commands.specs.declared.fault.Fault.{Fault}
use Rattle.commands.specs.declared.fault.Fault.TheVariants.{BadTable, DoorFault, ClockFault, OutOfMemory, BadInput}

-- ---- the work on an open desk

-- the closing text of the state, or the fault that ended the serving
abbrev pub EndSays : ServeEnd → State → Outcome → Type 0
EndSays ends.Done s answer = Gives (λ text. text ≡ closing s) answer
EndSays ends.DoorFault s answer = answer ≡ Err DoorFault
EndSays ends.ClockFault s answer = answer ≡ Err ClockFault
EndSays ends.OutOfMemory s answer = answer ≡ Err OutOfMemory

-- Connections are served. A sound clock doesn't end the serving, and neither does a sound door with enough links. If
-- the serving ends with `Done`, the clock's count is unchanged.
pub record Serves {L : Type 0} (service : Service L) (port most : ℕ) (desk : Over DeskAt) (answer : Outcome) : Type 0 where
  pub end : ServeEnd
  pub served : IsServing service.link service.door service.clock desk port most end
  pub says : EndSays end desk.after.state answer
  pub clock : ClockGoesOn service.clock.before service.clock.after
  pub still : end ≡ ends.Done → IsStill service.clock.before.health service.clock.after.health
  pub door : service.door.before.health.faults ≤ service.door.after.health.faults
  pub steady_clock : IsSound service.clock.before.health → end ≢ ends.ClockFault
  pub steady_door : IsSound service.door.before.health → HasLinks service.door.before.links most → end ≢ ends.DoorFault

-- Connections are served by 33 workers until the door fails, or memory runs out.
pub record Stays {L : Type 0} (service : Service L) (port : ℕ) (desk : Over DeskAt) (answer : Outcome) : Type 0 where
  pub end : ServeEnd
  pub stays : IsStaying service.door_type service.link service.door service.clock desk port 33 end
  pub says : EndSays end desk.after.state answer
  pub clock : ClockGoesOn service.clock.before service.clock.after
  pub door : service.door.before.health.faults ≤ service.door.after.health.faults

-- The work gives its text. Or memory ran out when it was done in part.
abbrev pub Ends : (List ℕ → Type 0) → Type 0 → Outcome → Type 0
Ends Whole Part (Ok text) = Whole text
Ends Whole Part (Err OutOfMemory) = Part
Ends Whole Part (Err other) = ⊥

-- A script was run on a desk.
abbrev pub Runs : List ℕ → Over DeskAt → Outcome → Type 0
Runs script desk =
    Ends (IsRun desk.before.kept desk.after.kept desk.before.state script desk.after.state)
    (IsRunInPart desk.before.kept desk.after.kept desk.before.state script desk.after.state)

-- a text, or out of memory
abbrev pub told_of : {E : Type 0} → Result (List ℕ) E → Outcome
told_of (Ok text) = Ok text
told_of (Err e) = Err OutOfMemory

-- Scripts were raced on a desk.
abbrev pub Races : List (List ℕ) → Over DeskAt → Outcome → Type 0
Races scripts desk =
    Ends (IsRace desk.before.kept desk.after.kept desk.before.state scripts desk.after.state)
    (IsRaceInPart desk.before.kept desk.after.kept desk.before.state scripts desk.after.state)

-- The lines of an import were answered on a desk, as the lines of a script are.
abbrev pub Imports : List Line → Over DeskAt → Outcome → Type 0
Imports lines desk =
    Ends (IsRunOf desk.before.kept desk.after.kept desk.before.state (items_of_lines lines) desk.after.state)
    (AreGivenInPart 1 desk.before.kept desk.after.kept desk.before.state (items_of_lines lines) desk.after.state)

-- The calls of a seed for `count` flights were made on a desk. The text has three lines of counts.
abbrev pub Makes : ℕ → ℕ → Over DeskAt → Outcome → Type 0
Makes number count desk =
    Ends (IsMade desk.before.kept desk.after.kept desk.before.state number count desk.after.state)
    (IsMadeInPart desk.before.kept desk.after.kept desk.before.state number count desk.after.state)

-- The text is the advice on each leg of a plan, by what the desk holds at its moment. Nothing on the desk changes.
abbrev pub Advises : Plan → List Candidate → Over DeskAt → Outcome → Type 0
Advises plan candidates desk answer = Gives (IsAdviceText plan candidates (grounds_of desk.before.state)) answer × (desk.after.state ≡ desk.before.state)

-- The text has every comparison that the rules make for the revisions of a release, by what the desk holds at its moment.
-- Nothing on the desk changes.
abbrev pub Explains : ℕ → Over DeskAt → Outcome → Type 0
Explains release desk answer = Gives (λ text. text ≡ why_text desk.before.state release) answer × (desk.after.state ≡ desk.before.state)

-- the same for a plan that nobody has filed
abbrev pub Checks : Plan → Over DeskAt → Outcome → Type 0
Checks plan desk answer = Gives (λ text. text ≡ check_text desk.before.state plan) answer × (desk.after.state ≡ desk.before.state)

-- A script of planned redispatches was run on a desk.
abbrev pub RunsPlanned : List ℕ → Over DeskAt → Outcome → Type 0
RunsPlanned script desk =
    Ends (IsPlanned desk.before.kept desk.after.kept desk.before.state script desk.after.state)
    (IsPlannedInPart desk.before.kept desk.after.kept desk.before.state script desk.after.state)

-- A script of shifts was run on a desk.
abbrev pub RunsShifts : List ℕ → Over DeskAt → Outcome → Type 0
RunsShifts script desk =
    Ends (IsShiftRun desk.before.kept desk.after.kept desk.before.state script desk.after.state)
    (IsShiftRunInPart desk.before.kept desk.after.kept desk.before.state script desk.after.state)

-- the same on a desk with this opening state, and bells were rung at whoever sat at the desks
abbrev pub RunsSeated : State → List ℕ → Over DeskAt → List Hung → List Hung → Outcome → Type 0
RunsSeated opening script desk old new =
    Ends (λ text. IsSeatedRun opening desk.before.kept desk.after.kept desk.before.state script desk.after.state text old new)
    (IsShiftRunInPart desk.before.kept desk.after.kept desk.before.state script desk.after.state)

-- ---- the commands

-- the same for the lines of an import file
abbrev pub ImportsFile : List ℕ → Over DeskAt → Outcome → Type 0
ImportsFile file desk answer = (lines : List Line) × IsImport file (Some lines) × Imports lines desk answer

-- the same for the plan and the candidates in two files
abbrev pub AdvisesFiles : TableRows → List (List ℕ) → Over DeskAt → Outcome → Type 0
AdvisesFiles tables texts desk answer = (plan : Plan) × (candidates : List Candidate) × AreStated tables texts plan candidates × Advises plan candidates desk answer

-- the same for the plan in a file
abbrev pub ChecksFile : List ℕ → Over DeskAt → Outcome → Type 0
ChecksFile file desk answer = (plan : Plan) × (plan_in file ≡ Some plan) × Checks plan desk answer

-- the work of a command on a desk, under these tables and over the texts of its sources
abbrev pub Does : {L : Type 0} → DeskTask → TableRows → List (List ℕ) → Service L → Over DeskAt → Outcome → Type 0
Does Run tables texts service = Runs (first_of texts)
Does Race tables texts service = Races texts
Does (Serve port most) tables texts service = Serves service port most
Does (Stay port) tables texts service = Stays service port
Does Import tables texts service = ImportsFile (first_of texts)
Does (Make number count) tables texts service = Makes number count
Does Advise tables texts service = AdvisesFiles tables texts
Does Planned tables texts service = RunsPlanned (first_of texts)
Does Shifts tables texts service = RunsShifts (first_of texts)
Does (Why release) tables texts service = Explains release
Does Check tables texts service = ChecksFile (first_of texts)

-- only `serve` and `stay` use the clock and the door
abbrev pub serves : DeskTask → Bool
serves (Serve port most) = true
serves (Stay port) = true
serves _ = false

-- If nothing is served, or no desk is opened, the clock and the door are unchanged.
abbrev pub AsksNothing : DeskTask → Option Shown → Type 0 → Type 0
AsksNothing task board idle = (serves task ≡ false → idle) × (board ≡ None → idle)

-- There is a link for each connection that a command serves. `stay` serves any number.
abbrev pub HasLinksFor : {L : Type 0} → Option (Links L) → Task → Type 0
HasLinksFor links (Desk (Serve port connections)) = HasLinks links connections
HasLinksFor links (Desk (Stay port)) = (n : ℕ) → HasLinks links n
HasLinksFor links _ = Unit {0}

abbrev pub HasLinksOf : {L : Type 0} → Option (Links L) → Option (Task × List (List ℕ)) → Type 0
HasLinksOf links None = Unit {0}
HasLinksOf links (Some command) = HasLinksFor links command.0

-- the bad record of a file whose first record isn't the header of an import
abbrev pub headerless : List ℕ → ABadTable
headerless name = record { name = name; line = 1; why = BadField }

-- the file to import lacks its header
abbrev pub LacksHeader : DeskTask → (names texts : List (List ℕ)) → ABadTable → Type 0
LacksHeader Import names texts bad = IsImport (first_of texts) None × (bad ≡ headerless (first_of names))
LacksHeader _ names texts bad = ⊥

-- the first bad record of a plan and its candidates, or a file to check that isn't a plan
abbrev pub HasBadInput : DeskTask → TableRows → (names texts : List (List ℕ)) → ABadInput → Type 0
HasBadInput Advise tables names texts bad = IsFirstBad tables names texts bad
HasBadInput Check tables names texts bad = IsNoPlan (first_of names) (first_of texts) bad
HasBadInput _ tables names texts bad = ⊥

-- The first fault in the texts of a command's sources, under these tables. No desk is opened for it.
abbrev pub HasFault : DeskTask → TableRows → (names texts : List (List ℕ)) → Fault → Type 0
HasFault task tables names texts (BadTable bad) = LacksHeader task names texts bad
HasFault task tables names texts (BadInput bad) = HasBadInput task tables names texts bad
HasFault task tables names texts other = ⊥

-- The texts of a command's sources have no fault: a file to import has its header, a plan and its candidates are good, and
-- a file to check is a plan.
abbrev pub ArePassed : DeskTask → TableRows → List (List ℕ) → Type 0
ArePassed Import tables texts = (lines : List Line) × IsImport (first_of texts) (Some lines)
ArePassed Advise tables texts = (plan : Plan) × (candidates : List Candidate) × AreStated tables texts plan candidates
ArePassed Check tables texts = (plan : Plan) × (plan_in (first_of texts) ≡ Some plan)
ArePassed _ tables texts = Unit {0}

-- the lines of an import file that was read, or the bad record of a file without a header, or out of memory
abbrev pub SaysLines : List ℕ → List ℕ → Result (List Line) Fault → Type 0
SaysLines name file (Ok lines) = IsImport file (Some lines)
SaysLines name file (Err (BadTable bad)) = IsImport file None × (bad ≡ headerless name)
SaysLines name file (Err OutOfMemory) = Unit {0}
SaysLines name file (Err other) = ⊥

-- ---- the desk

-- A board was opened over the rows. It is valid, and the stored rows match its state.
pub record IsOpenOver (tables : TableRows) (keeper : Lent) (board : Shown) : Type 0 where
  pub records : List Record
  pub old : Bool
  pub loaded : AreLoaded keeper.before.rows records old
  pub opening : board.opening ≡ reopened (state_in tables records)
  pub holds : IsBoard board.opening board.state
  -- The keeper's account tells the rows that it loaded, the commit of opening, and a commit for each entry of the history.
  pub entered : IsEntered keeper.before.account keeper.after.account tables board.opening board.state
  -- the rows that are kept are those of the state
  pub kept : KeepsState (kept_rows keeper.after) board.state

-- No desk was opened: the keeper failed, its rows aren't those of a desk, or memory ran out. A sound keeper doesn't
-- fail, and rows that a desk left are valid. The rows are unchanged, and at most the commit of opening was requested.
pub record IsUnopened (tables : TableRows) (keeper : Lent) (answer : Outcome) : Type 0 where
  pub why : OpenWhy
  pub says : answer ≡ Err (of_opening why)
  pub is : IsWhy keeper.before.rows (HasFailed keeper.before.health keeper.after.health) why
  pub left : (s : State) → IsLeft s → TellsRowsOf keeper.before.rows s → IsOfKeeper (HasFailed keeper.before.health keeper.after.health) why
  pub rows : keeper.after.rows ≡ keeper.before.rows
  pub asked : MayHaveAsked keeper.before.rows tables keeper.before.commits keeper.after.commits
  -- the same by the keeper's account, in which no commit was done
  pub unentered : NotEntered keeper.before.account keeper.after.account tables why

-- The commits of that opening: one that was stored, if opening changed the rows, otherwise none.
abbrev pub stored_to_open : (tables : TableRows) (keeper : Lent) (board : Shown) → IsOpenOver tables keeper board → List Bool
stored_to_open tables keeper board over = stored_at_opening tables over.entered.records over.entered.first

-- The desk at its opening, and the desk now. The keeper's faults are counted from before opening, and its commits are those
-- of before and of opening.
abbrev pub desk_over : List Bool → Lent → Shown → Over DeskAt
desk_over opened keeper board = record {
  before = record { state = board.opening; kept = kept_with opened keeper };
  after = record { state = board.state; kept = kept_at keeper.after };
}

-- the same desk, with the keeper's faults counted from an earlier count
abbrev pub since : ℕ → Over DeskAt → Over DeskAt
since less desk = record { before = counted_from less desk.before; after = desk.after }

-- A desk is opened over the rows, and the work is done on it; or no desk is opened.
abbrev pub Opens : TableRows → (Over DeskAt → Outcome → Type 0) → Lent → Option Shown → Outcome → Type 0
Opens tables Works keeper None answer = IsUnopened tables keeper answer
Opens tables Works keeper (Some board) answer =
    (over : IsOpenOver tables keeper board) × Works (desk_over (stored_to_open tables keeper board over) keeper board) answer

-- ---- what is asked of the keeper

-- If a desk was opened, the work on it asked this of the keeper, as it was after opening and is now.
abbrev pub AsksAfter : (KeeperSeen → KeeperSeen → Type 0) → TableRows → Lent → Option Shown → Type 0
AsksAfter Asks tables keeper None = Unit {0}
AsksAfter Asks tables keeper (Some board) =
    (opened : KeeperSeen) × AreAsked keeper.before.rows tables keeper.before.commits opened.commits × Asks opened keeper.after

-- only the commit of opening is requested, if any
abbrev pub AsksToOpen : TableRows → Lent → Type 0
AsksToOpen tables keeper = MayHaveAsked keeper.before.rows tables keeper.before.commits keeper.after.commits

-- `advise`, `why` and `check` store nothing on the desk that they open
abbrev pub AsksNoMore : DeskTask → TableRows → Lent → Type 0
AsksNoMore Advise tables keeper = AsksToOpen tables keeper
AsksNoMore (Why release) tables keeper = AsksToOpen tables keeper
AsksNoMore Check tables keeper = AsksToOpen tables keeper
AsksNoMore _ tables keeper = Unit {0}
