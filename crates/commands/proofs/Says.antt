-- What follows of all that is said, whatever it is.
use Rattle.std.proofs.Common.{◌≡◌, ℕ, ◌≤◌, List, [], ◌∷◌, ◌++◌, map, Option, None, Some, ap, arith, refl, sym, subst, inl, inr, false}
use Rattle.std.specs.Prelude.{◌==◌, All, IfErr, IfOk, IfSome, IsSome, MatchBool, MatchResult, Result, Ok, Err}
use Rattle.std.specs.List.{Contains}
use Rattle.scripts.specs.Below.{Shown, IsLeft, IsOfKeeper, IsWhy, TellsRowsOf, OpenWhy, DeskAt, IsBoard, State}
use Rattle.scripts.specs.Below.OpenWhyVariants as why
use Rattle.desk_io.specs.Rows.{Rows}
use Rattle.desk_io.specs.Told.{HoldsName}
use Rattle.desk_io.specs.Health.{HasFailed, IsSound, RoseOrFull}
use Rattle.desk_io.specs.Over.{Over}
use Rattle.desk_io.specs.Seen.{ShelfSeen, SinkSeen}
use Rattle.desk_io.specs.declared.source_read.SourceRead.{SourceRead}
use Rattle.desk_net.specs.Seen.{ClockSeen, DoorSeen, LinkSeen, ClockGoesOn}
use Rattle.desk_net.proofs.SeenLaws.{clock_stays}
use Rattle.keeper.proofs.SeenLaws.{keeper_stays}
use Rattle.keeper.specs.Seen.{KeeperSeen, KeeperGoesOn}
use Rattle.scripts.specs.Below.RowsFaultVariants as fault
use Rattle.connections.specs.Doors.{EndsServing, Visit}
use Rattle.connections.specs.declared.doors.ServeEnd.{ServeEnd}
use Rattle.connections.specs.declared.doors.ServeEnd.TheVariants as ends
use Rattle.service.proofs.StayingLaws.{door_rose, never_by_clock, never_done, never_lacking}
use Rattle.ops_tables.specs.Tables.{TableRows}
use Rattle.table_files.specs.Files.{files, name_of}
use Rattle.table_files.specs.Whole.{ReadsTables, RoseAt, StopsAtMissing, Told}
use Rattle.table_files.specs.declared.faults.TableFault.{TableFault}
use Rattle.table_files.specs.declared.faults.TableFault.TheVariants as table
use Rattle.words.specs.declared.task.DeskTask.TheVariants.{Run, Race, Serve, Stay, Import, Make, Advise, Planned, Shifts, Why, Check}
use Rattle.words.specs.declared.task.Task.{Task}
use Rattle.words.specs.declared.task.Task.TheVariants.{Weather, Desk}
use Rattle.commands.proofs.Reading.{after_files, among_here, none_long, none_missing}
use Rattle.commands.specs.Answers.{AreKeptOver, HasDoor, IsDone, IsUntouched, Says, Writes, IsRefusal, ReadsUnder, WorksUnder}
use Rattle.commands.specs.Complete.{AreFaultless, AreGood, AllPass, AreShort, IsTooLong}
use Rattle.commands.specs.Faults.{Gives, Outcome, of_opening, of_tables, status_of_fault}
use Rattle.commands.specs.Seen.{Lent, Service, lent as lent_over, service}
use Rattle.commands.specs.Sources.{FailsAt, ReadsFiles, ReadsSources, SourceFails, TablesFail, first_of, from_reads, sources_of, AreWhole}
use Rattle.commands.specs.Weather.{weather_text}
use Rattle.commands.specs.Working.{EndSays, Opens, desk_over, stored_to_open, AsksNothing, Does, Ends, serves}
use Rattle.commands.specs.declared.fault.Fault.{Fault}
use Rattle.commands.specs.declared.fault.Fault.TheVariants.{Usage, ReadFault, WriteFault, KeeperFault, BadTable, BadRow, BadPair, OutOfMemory, DoorFault, InputTooLong, ClockFault, BadInput}
use Rattle.words.specs.declared.task.DeskTask.{DeskTask}

-- ---- what a fault tells

-- what each fault tells: of the words, the tables, the sources and the rows, and of who has failed
pub record Charges : Type 1 where
  words : Type 0
  tables : Type 0
  long : Type 0
  rows : Type 0
  shelf : Type 0
  keeper : Type 0
  door : Type 0
  clock : Type 0
  input : Type 0

abbrev pub Tells : Charges → Fault → Type 0
Tells of Usage = of.words
Tells of (ReadFault name) = of.shelf
Tells of WriteFault = ⊥
Tells of KeeperFault = of.keeper
Tells of (BadTable bad) = of.tables
Tells of (BadRow row why) = of.rows
Tells of (BadPair one two) = of.rows
Tells of OutOfMemory = Unit {0}
Tells of DoorFault = of.door
Tells of (InputTooLong name) = of.long
Tells of ClockFault = of.clock
Tells of (BadInput bad) = of.input

abbrev TellsBy : Charges → Outcome → Type 0
TellsBy of answer = IfErr answer (Tells of)

-- the rows are told, and they are those of a desk that was left
abbrev pub AreLeft : Option Rows → Type 0
AreLeft rows = (s : State) × IsLeft s × TellsRowsOf rows s

-- what was read, or is to be read, can't be
abbrev Misses : Over ShelfSeen → List (List ℕ) → Type 0
Misses shelf names = RoseOrFull shelf.before.health.faults shelf.after.health.faults × (IsSound shelf.before.health × All (HoldsName shelf.before.sources) names → ⊥)

abbrev HasLong : Told → List (List ℕ) → Type 0
HasLong sources names = AreShort sources names → ⊥

module _ (of : Charges) (shelf : Over ShelfSeen) (names : List (List ℕ)) (misses : Misses shelf names → of.shelf) (long : HasLong shelf.before.sources names → of.long) where
  source_tells : (upto : List SourceRead) (name : List ℕ) → ((P : List ℕ → Type 0) → All P names → P name) → (fault : Fault) → SourceFails (from_reads shelf upto) name fault → Tells of fault
  source_tells upto name among (ReadFault file) says = misses (says.1.0, λ has. says.1.1 has.0 (among (HoldsName shelf.before.sources) has.1))
  source_tells upto name among (InputTooLong file) says = long (λ short. among (λ name. IsTooLong shelf.before.sources name → ⊥) short says.1)
  source_tells upto name among OutOfMemory says = tt
  source_tells upto name among other says = absurd says

  -- the first of several sources that wasn't read
  sources_tell : (last : List (List ℕ)) → ((P : List ℕ → Type 0) → All P names → All P last) → (fault : Fault) → FailsAt shelf last fault → Tells of fault
  sources_tell last within fault fails = source_tells fails.upto fails.name (λ P all. among_here P fails.earlier fails.name fails.later (subst (All P) fails.order (within P all))) fault fails.fails

  module _ (rest : List (List ℕ)) (are : names ≡ map name_of files ++ rest) (bad : (AreGood shelf.before.sources → ⊥) → of.tables) where
    tables_tell : (stop : TableFault) → ReadsTables shelf.before.sources shelf.before.reads shelf.after.reads (Err stop) → RoseAt shelf.before.health shelf.after.health stop
        → (IsSound shelf.before.health → StopsAtMissing shelf.before.sources shelf.before.reads shelf.after.reads stop) → Tells of (of_tables stop)
    tables_tell (table.Bad found) reads rose stops = bad (λ good. good found shelf.before.reads shelf.after.reads reads)
    tables_tell (table.ReadFault name) reads rose stops =
        misses (rose, λ has. none_missing shelf.before.sources shelf.before.reads shelf.after.reads name rest (subst (All (HoldsName shelf.before.sources)) are has.1) (stops has.0))
    tables_tell (table.TooLong name) reads rose stops =
        long (λ short. none_long shelf.before.sources shelf.before.reads shelf.after.reads name rest (subst (All (λ name. IsTooLong shelf.before.sources name → ⊥)) are short) reads)
    tables_tell table.OutOfMemory reads rose stops = tt

    files_tell : (fault : Fault) → TablesFail shelf fault → Tells of fault
    files_tell fault fails = subst (Tells of) (sym fails.is) (tables_tell fails.stop fails.reads fails.rose fails.sound)

module _ (of : Charges) where
  gives_tells : (P : List ℕ → Type 0) (answer : Outcome) → Gives P answer → TellsBy of answer
  gives_tells P (Ok text) gives = tt
  gives_tells P (Err OutOfMemory) gives = tt
  gives_tells P (Err other) gives = absurd gives

  ends_tell : (P : List ℕ → Type 0) (A : Type 0) (answer : Outcome) → Ends P A answer → TellsBy of answer
  ends_tell P A (Ok text) ends = tt
  ends_tell P A (Err OutOfMemory) ends = tt
  ends_tell P A (Err other) ends = absurd ends

  why_tells : (told : Option Rows) (failed : Type 0) (why : OpenWhy) → (failed → of.keeper) → ((AreFaultless told → ⊥) × (AreLeft told → ⊥) → of.rows) → IsWhy told failed why
      → (AreLeft told → IsOfKeeper failed why) → TellsBy of (Err (of_opening why))
  why_tells told failed why.KeeperFault keeper rows is left = keeper is
  why_tells told failed (why.BadRow row reason) keeper rows is left = rows (λ none. none (fault.BadRow row reason) (λ same. absurd (cc)) is, left)
  why_tells told failed (why.BadPair one two) keeper rows is left = rows (λ none. none (fault.BadPair one two) (λ same. absurd (cc)) is, left)
  why_tells told failed why.OutOfMemory keeper rows is left = tt

  end_tells : (end : ServeEnd) (s : State) (answer : Outcome) → EndSays end s answer → (end ≡ ends.ClockFault → of.clock) → (end ≡ ends.DoorFault → of.door) → TellsBy of answer
  end_tells ends.Done s answer says clock door = gives_tells _ answer says
  end_tells ends.DoorFault s answer says clock door = subst (TellsBy of) (sym says) (door refl)
  end_tells ends.ClockFault s answer says clock door = subst (TellsBy of) (sym says) (clock refl)
  end_tells ends.OutOfMemory s answer says clock door = subst (TellsBy of) (sym says) tt

pub is_formed : (command : Option (Task × List (List ℕ))) → IsSome command → command ≡ None → ⊥
is_formed None formed is = absurd (cc)
is_formed (Some command) formed is = absurd (cc)

-- why serving ended
door_failed : {L : Type 0} (door : Type 0) (most : ℕ) (vs : List (Visit L)) (end : ServeEnd) → EndsServing door most vs end → end ≡ ends.DoorFault → door
door_failed {L} door most vs end how is = (subst (EndsServing {L = L} door most vs) is how).0

ok_any : {P : Type 0} (answer : Outcome) → P → IfOk answer (λ text. P)
ok_any (Ok text) holds = holds
ok_any (Err fault) holds = tt

-- ---- what goes on, whatever is said

module _ {K C D L : Type 0} (k : K → KeeperSeen) (c : C → ClockSeen) (d : D → DoorSeen L) (l : L → LinkSeen) (lent kept : K) (clock_old clock_new : C) (door_old door_new : D) (shelf : Over ShelfSeen) where
  abbrev rows_over : Lent
  rows_over = lent_over k lent kept

  abbrev serving : Service L
  serving = service c d l clock_old clock_new door_old door_new

  -- what its fault tells of a command
  abbrev pub charges : Option (Task × List (List ℕ)) → Charges
  charges command = record {
    words = command ≡ None;
    tables = AreGood shelf.before.sources × AllPass shelf.before.sources command → ⊥;
    long = HasLong shelf.before.sources (sources_of command);
    rows = (AreFaultless (k lent).rows → ⊥) × (AreLeft (k lent).rows → ⊥);
    shelf = Misses shelf (sources_of command);
    keeper = HasFailed (k lent).health (k kept).health;
    door = RoseOrFull (d door_old).health.faults (d door_new).health.faults × (HasDoor (d door_old) command → ⊥);
    clock = HasFailed (c clock_old).health (c clock_new).health;
    input = AllPass shelf.before.sources command → ⊥;
  }

  abbrev IsStill : Type 0
  IsStill = (c clock_new).health.faults ≡ (c clock_old).health.faults

  -- what goes on of the clock and the door, and what is told
  pub record Served (command : Option (Task × List (List ℕ))) (answer : Outcome) : Type 0 where
    pub clock : ClockGoesOn (c clock_old) (c clock_new)
    pub door : (d door_old).health.faults ≤ (d door_new).health.faults
    pub still : IfOk answer (λ text. IsStill)
    pub tells : TellsBy (charges command) answer

  -- and of the keeper and the board
  pub record Follows (command : Option (Task × List (List ℕ))) (board : Option Shown) (answer : Outcome) : Type 0 where
    pub keeper : KeeperGoesOn (k lent) (k kept)
    pub are_kept : AreKeptOver rows_over board
    pub holds : IfSome board (λ b. IsBoard b.opening b.state)
    pub served : Served command answer

  idle_served : (command : Option (Task × List (List ℕ))) (answer : Outcome) → serving.idle → TellsBy (charges command) answer → Served command answer
  idle_served command answer idle tells =
      record {
        clock = subst (λ x. ClockGoesOn (c clock_old) (c x)) (sym idle.0) (clock_stays (c clock_old));
        door = subst (λ x. (d door_old).health.faults ≤ (d x).health.faults) (sym idle.1) (omega arith);
        still = ok_any answer (ap (λ x. (c x).health.faults) idle.0);
        tells = tells;
      }

  untouched_follows : (command : Option (Task × List (List ℕ))) (board : Option Shown) (answer : Outcome) → IsUntouched rows_over board → serving.idle → TellsBy (charges command) answer → Follows command board answer
  untouched_follows command board answer is idle tells =
      record {
        keeper = subst (λ x. KeeperGoesOn (k lent) (k x)) (sym is.same) (keeper_stays (k lent));
        are_kept = subst (λ b. AreKeptOver rows_over b) (sym is.none) (ap (λ x. (k x).rows) is.same);
        holds = subst (λ b. IfSome b (λ b. IsBoard b.opening b.state)) (sym is.none) tt;
        served = idle_served command answer idle tells;
      }

  -- a fault is told, and nothing else comes of it
  told_follows : (command : Option (Task × List (List ℕ))) (board : Option Shown) (answer : Outcome) (fault : Fault) → (answer ≡ Err fault) × IsUntouched rows_over board → serving.idle
      → Tells (charges command) fault → Follows command board answer
  told_follows command board answer fault says idle tells = untouched_follows command board answer says.1 idle (subst (TellsBy (charges command)) (sym says.0) tells)

  end_still : (end : ServeEnd) (s : State) (answer : Outcome) → EndSays end s answer → (end ≡ ends.Done → IsStill) → IfOk answer (λ text. IsStill)
  end_still ends.Done s answer says still = ok_any answer (still refl)
  end_still ends.DoorFault s answer says still = subst (λ a. IfOk a (λ text. IsStill)) (sym says) tt
  end_still ends.ClockFault s answer says still = subst (λ a. IfOk a (λ text. IsStill)) (sym says) tt
  end_still ends.OutOfMemory s answer says still = subst (λ a. IfOk a (λ text. IsStill)) (sym says) tt

  -- what follows of the work on a desk, of which this is known
  opens_follow : (command : Option (Task × List (List ℕ))) (tables : TableRows) (Works : Over DeskAt → Outcome → Type 0) (board : Option Shown) (answer : Outcome) → KeeperGoesOn (k lent) (k kept)
      → Opens tables Works rows_over board answer → (board ≡ None → serving.idle) → ((desk : Over DeskAt) → Works desk answer → Served command answer) → Follows command board answer
  opens_follow command tables Works None answer goes un idle served =
      let tells = why_tells (charges command) (k lent).rows _ un.why (λ failed. failed) (λ rows. rows) un.is (λ rows. un.left rows.0 rows.1 rows.2) in
      record { keeper = goes; are_kept = un.rows; holds = tt; served = idle_served command answer (idle refl) (subst (TellsBy (charges command)) (sym un.says) tells) }
  opens_follow command tables Works (Some b) answer goes opens idle served =
      record { keeper = goes; are_kept = (tables, opens.0); holds = opens.0.holds; served = served (desk_over (stored_to_open tables rows_over b opens.0) rows_over b) opens.1 }

  -- the answer is a fault, and nothing was touched
  abbrev IsFault : Option Shown → Outcome → Fault → Type 0
  IsFault board answer fault = (answer ≡ Err fault) × IsUntouched rows_over board

  reports_follow : (names : List (List ℕ)) (board : Option Shown) (answer : Outcome) (read : Result (List (List ℕ)) Fault) → ReadsSources shelf names read
      → MatchResult read (λ texts. Gives (λ text. text ≡ weather_text (first_of texts)) answer × IsUntouched rows_over board) (IsFault board answer) → serving.idle → Follows (Some (Weather, names)) board answer
  reports_follow names board answer (Ok texts) reads does idle = untouched_follows (Some (Weather, names)) board answer does.1 idle (gives_tells (charges (Some (Weather, names))) _ answer does.0)
  reports_follow names board answer (Err fault) reads does idle =
      told_follows (Some (Weather, names)) board answer fault does idle
      (sources_tell (charges (Some (Weather, names))) shelf names (λ misses. misses) (λ long. long) names (λ P all. all) fault reads)

  -- what the work of each command tells
  does_served : (task : DeskTask) (names : List (List ℕ)) (tables : TableRows) (texts : List (List ℕ)) (desk : Over DeskAt) (answer : Outcome) → (serves task ≡ false → serving.idle) → Does task tables texts serving desk answer
      → Served (Some (Desk task, names)) answer
  does_served Run names tables texts desk answer idle does = idle_served (Some (Desk Run, names)) answer (idle refl) (ends_tell (charges (Some (Desk Run, names))) _ _ answer does)
  does_served Race names tables texts desk answer idle does = idle_served (Some (Desk Race, names)) answer (idle refl) (ends_tell (charges (Some (Desk Race, names))) _ _ answer does)
  does_served (Serve port most) names tables texts desk answer idle does = record {
    clock = does.clock;
    door = does.door;
    still = end_still does.end desk.after.state answer does.says does.still;
    tells = end_tells (charges (Some (Desk (Serve port most), names))) does.end desk.after.state answer does.says
        (λ is. (does.served.by_clock is).0)
        (λ is. (door_failed _ most does.served.served.visits does.end does.served.served.ends is, λ has. does.steady_door has.0 has.1 is));
  }
  does_served (Stay port) names tables texts desk answer idle does = record {
    clock = does.clock;
    door = does.door;
    still = end_still does.end desk.after.state answer does.says (λ is. absurd (never_done serving.door_type serving.link serving.door serving.clock desk port 33 does.end does.stays is));
    tells = end_tells (charges (Some (Desk (Stay port), names))) does.end desk.after.state answer does.says
        (λ is. absurd (never_by_clock serving.door_type serving.link serving.door serving.clock desk port 33 does.end does.stays is))
        (λ is. (
          door_rose serving.door_type serving.link serving.door serving.clock desk port 33 does.end does.stays is,
          λ has. never_lacking serving.door_type serving.link serving.door serving.clock desk port 33 does.end does.stays is has.0 has.1,
        ));
  }
  does_served Import names tables texts desk answer idle does = idle_served (Some (Desk Import, names)) answer (idle refl) (ends_tell (charges (Some (Desk Import, names))) _ _ answer does.2)
  does_served (Make number count) names tables texts desk answer idle does = idle_served (Some (Desk (Make number count), names)) answer (idle refl) (ends_tell (charges (Some (Desk (Make number count), names))) _ _ answer does)
  does_served Advise names tables texts desk answer idle does = idle_served (Some (Desk Advise, names)) answer (idle refl) (gives_tells (charges (Some (Desk Advise, names))) _ answer does.3.0)
  does_served Planned names tables texts desk answer idle does = idle_served (Some (Desk Planned, names)) answer (idle refl) (ends_tell (charges (Some (Desk Planned, names))) _ _ answer does)
  does_served Shifts names tables texts desk answer idle does = idle_served (Some (Desk Shifts, names)) answer (idle refl) (ends_tell (charges (Some (Desk Shifts, names))) _ _ answer does)
  does_served (Why release) names tables texts desk answer idle does = idle_served (Some (Desk (Why release), names)) answer (idle refl) (gives_tells (charges (Some (Desk (Why release), names))) _ answer does.0)
  does_served Check names tables texts desk answer idle does = idle_served (Some (Desk Check, names)) answer (idle refl) (gives_tells (charges (Some (Desk Check, names))) _ answer does.2.0)

  -- no desk was opened for a fault in the sources
  refusal_tells : (task : DeskTask) (names : List (List ℕ)) (tables : TableRows) (texts : List (List ℕ)) (answer : Outcome) (upto : List SourceRead) → ReadsTables shelf.before.sources shelf.before.reads upto (Ok tables)
      → AreWhole shelf.before.sources names texts → IsRefusal task tables names texts answer → TellsBy (charges (Some (Desk task, names))) answer
  refusal_tells task names tables texts (Err (BadTable bad)) upto under whole is = λ good. good.1 tables texts (BadTable bad) shelf.before.reads upto under whole is
  refusal_tells task names tables texts (Err (BadInput bad)) upto under whole is = λ good. good tables texts (BadInput bad) shelf.before.reads upto under whole is
  refusal_tells task names tables texts (Err OutOfMemory) upto under whole is = tt
  refusal_tells task names tables texts (Err other) upto under whole is = absurd is
  refusal_tells task names tables texts (Ok text) upto under whole is = absurd is

  work_follows : (task : DeskTask) (names : List (List ℕ)) (tables : TableRows) (texts : List (List ℕ)) (board : Option Shown) (answer : Outcome) (upto : List SourceRead) → ReadsTables shelf.before.sources shelf.before.reads upto (Ok tables)
      → AreWhole shelf.before.sources names texts → WorksUnder tables (Does task tables texts serving) rows_over task names texts board answer → AsksNothing task board serving.idle → Follows (Some (Desk task, names)) board answer
  work_follows task names tables texts board answer upto under whole (inl works) asks =
      opens_follow (Some (Desk task, names)) tables (Does task tables texts serving) board answer works.1 works.3 asks.1 (λ desk does. does_served task names tables texts desk answer asks.0 does)
  work_follows task names tables texts board answer upto under whole (inr refused) asks =
      untouched_follows (Some (Desk task, names)) board answer refused.1 (asks.1 refused.1.none) (refusal_tells task names tables texts answer upto under whole refused.0)

  under_follows : (task : DeskTask) (names : List (List ℕ)) (tables : TableRows) (board : Option Shown) (answer : Outcome) (upto : List SourceRead) (read : Result (List (List ℕ)) Fault) → ReadsTables shelf.before.sources shelf.before.reads upto (Ok tables)
      → ReadsSources (from_reads shelf upto) names read → MatchResult read (λ texts. WorksUnder tables (Does task tables texts serving) rows_over task names texts board answer) (IsFault board answer) → AsksNothing task board serving.idle
      → Follows (Some (Desk task, names)) board answer
  under_follows task names tables board answer upto (Ok texts) under reads does asks = work_follows task names tables texts board answer upto under reads.0 does asks
  under_follows task names tables board answer upto (Err fault) under reads does asks =
      told_follows (Some (Desk task, names)) board answer fault does (asks.1 does.1.none)
      (sources_tell (charges (Some (Desk task, names))) (from_reads shelf upto) (map name_of files ++ names) (λ misses. misses) (λ long. long) names (λ P all. after_files P name_of files names all) fault reads)

  desk_follows : (task : DeskTask) (names : List (List ℕ)) (board : Option Shown) (answer : Outcome) (upto : List SourceRead) (read : Result TableRows Fault) → ReadsFiles shelf upto read
      → MatchResult read (λ tables. ReadsUnder tables (from_reads shelf upto) serving rows_over task names board answer) (IsFault board answer) → AsksNothing task board serving.idle → Follows (Some (Desk task, names)) board answer
  desk_follows task names board answer upto (Ok tables) reads does asks = under_follows task names tables board answer upto does.0 reads does.1 does.2 asks
  desk_follows task names board answer upto (Err fault) reads does asks =
      told_follows (Some (Desk task, names)) board answer fault does (asks.1 does.1.none)
      (files_tell (charges (Some (Desk task, names))) shelf (map name_of files ++ names) (λ misses. misses) (λ long. long) names refl (λ bad good. bad good.0) fault reads)

  done_follows : (task : Task) (names : List (List ℕ)) (board : Option Shown) (answer : Outcome) → IsDone shelf serving rows_over task names board answer → Follows (Some (task, names)) board answer
  done_follows Weather names board answer does = reports_follow names board answer does.0.0 does.0.1 does.0.2 does.1
  done_follows (Desk task) names board answer does = let read = does.0.1 in desk_follows task names board answer does.0.0 read.0 read.1 read.2 does.1

  pub follows : (command : Option (Task × List (List ℕ))) (board : Option Shown) (answer : Outcome) → Says shelf serving rows_over command board answer → Follows command board answer
  follows command board answer (inr says) = untouched_follows command board answer says.1 says.2 (subst (TellsBy (charges command)) (sym says.0) tt)
  follows None board answer (inl says) = untouched_follows None board answer says.1 says.2 (subst (TellsBy (charges None)) (sym says.0) refl)
  follows (Some command) board answer (inl does) = done_follows command.0 command.1 board answer does

-- ---- the status

-- what a status tells: at 0 no fault of the clock was passed over, and else what its fault tells, or that the sink has failed
abbrev pub Cause : (still sink : Type 0) → Charges → ℕ → Type 0
Cause still sink of n =
    MatchBool (n == 0) still (MatchBool (n == 2) of.words (MatchBool (n == 3) of.shelf (MatchBool (n == 4) sink (MatchBool (n == 5) of.keeper (MatchBool (n == 6) of.tables
    (MatchBool (n == 7) of.rows (MatchBool (n == 9) of.door (MatchBool (n == 10) of.long (MatchBool (n == 11) of.clock (MatchBool (n == 12) of.input (Unit {0})))))))))))

module _ (of : Charges) (sink : Over SinkSeen) where
  abbrev Failed : Type 0
  Failed = HasFailed sink.before.health sink.after.health

  module _ (P : ℕ → Type 0) (two : of.words → P 2) (three : of.shelf → P 3) (four : Failed → P 4) (five : of.keeper → P 5) (six : of.tables → P 6) (seven : of.rows → P 7) (eight : P 8) (nine : of.door → P 9)
      (ten : of.long → P 10) (eleven : of.clock → P 11) (twelve : of.input → P 12) where
    by_fault : (fault : Fault) → Tells of fault → P (status_of_fault fault)
    by_fault Usage says = two says
    by_fault (ReadFault name) says = three says
    by_fault WriteFault says = absurd says
    by_fault KeeperFault says = five says
    by_fault (BadTable bad) says = six says
    by_fault (BadRow row why) says = seven says
    by_fault (BadPair one two) says = seven says
    by_fault OutOfMemory says = eight
    by_fault DoorFault says = nine says
    by_fault (InputTooLong name) says = ten says
    by_fault ClockFault says = eleven says
    by_fault (BadInput bad) says = twelve says

    by_status : (answer : Outcome) (status : ℕ) → IfOk answer (λ text. P 0) → TellsBy of answer → Writes sink answer status → P status
    by_status (Ok text) status is says (inl (said, has, same, wrote)) = subst P (sym same) is
    by_status (Err fault) status is says (inl (said, has, same, wrote)) = subst P (sym same) (by_fault fault says)
    by_status answer status is says (inr (inl wrote)) = subst P (sym wrote.0) (four wrote.1)
    by_status answer status is says (inr (inr wrote)) = subst P (sym wrote.0) eight

  pub status_cause : (still : Type 0) (answer : Outcome) (status : ℕ) → IfOk answer (λ text. still) → TellsBy of answer → Writes sink answer status → Cause still Failed of status
  status_cause still = by_status (Cause still Failed of) (λ is. is) (λ is. is) (λ is. is) (λ is. is) (λ is. is) (λ is. is) tt (λ is. is) (λ is. is) (λ is. is) (λ is. is)

  -- over an outside that is sound
  pub status_remains : (of.shelf → ⊥) → (Failed → ⊥) → (of.keeper → ⊥) → (of.door → ⊥) → (of.clock → ⊥) → (answer : Outcome) (status : ℕ) → TellsBy of answer → Writes sink answer status
      → Contains (0 ∷ 2 ∷ 6 ∷ 7 ∷ 8 ∷ 10 ∷ 12 ∷ []) status
  status_remains s o k d c answer status says wrote =
      by_status (Contains (0 ∷ 2 ∷ 6 ∷ 7 ∷ 8 ∷ 10 ∷ 12 ∷ [])) (λ is. (1, omega arith, refl)) (λ is. absurd (s is)) (λ is. absurd (o is)) (λ is. absurd (k is)) (λ is. (2, omega arith, refl))
      (λ is. (3, omega arith, refl)) (4, omega arith, refl) (λ is. absurd (d is)) (λ is. (5, omega arith, refl)) (λ is. absurd (c is)) (λ is. (6, omega arith, refl)) answer status (ok_any answer (0, omega arith, refl)) says wrote

  -- where all that is read is valid, and no fault was counted
  pub status_done : (of.words → ⊥) → (of.shelf → ⊥) → (Failed → ⊥) → (of.keeper → ⊥) → (of.tables → ⊥) → (of.rows → ⊥) → (of.door → ⊥) → (of.long → ⊥) → (of.clock → ⊥) → (of.input → ⊥)
      → (answer : Outcome) (status : ℕ) → TellsBy of answer → Writes sink answer status → Contains (0 ∷ 8 ∷ []) status
  status_done w s o k t r d l c i answer status says wrote =
      by_status (Contains (0 ∷ 8 ∷ [])) (λ is. absurd (w is)) (λ is. absurd (s is)) (λ is. absurd (o is)) (λ is. absurd (k is)) (λ is. absurd (t is)) (λ is. absurd (r is)) (1, omega arith, refl)
      (λ is. absurd (d is)) (λ is. absurd (l is)) (λ is. absurd (c is)) (λ is. absurd (i is)) answer status (ok_any answer (0, omega arith, refl)) says wrote
