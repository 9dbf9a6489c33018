-- Rows that a desk has left are opened again.
use Rattle.std.proofs.Common.{◌≡◌, List, [], ◌∷◌, map, Option, None, Some, refl, ap, sym, ◌∙◌, subst, inl, inr, ◌⊎◌}
use Rattle.std.specs.Prelude.{Result, Ok, Err, IfOk, IfErr, IsTrue, MatchResult}
use Rattle.std.specs.List.{AllByRecursion}
use Rattle.std.proofs.lemmas.List.Elements.{All-from_recursion}
use Rattle.board.specs.Prepare.{Shown}
use Rattle.desk_io.specs.Rows.{Rows}
use Rattle.desk_io.specs.declared.rows.Row.{Row}
use Rattle.keeper.specs.Kept.{Lists}
use Rattle.keeper.specs.Order as order
use Rattle.board.specs.Below.{HasNoHours, Version, First, Second, AreKept, AreOldRows, records_of, row_in, row_of, IsFaultOf, version_of, fit, IsRecord, Record, AreOfDesk, state_in, reopened}
use Rattle.board.proofs.Below.{state_again, records_formed, no_bad_row, no_bad_pair, AreRowsIn, desk_records, first_rows, listed_as, listed_old, second_rows}
use Rattle.desk_state.specs.State.{State, start}
use Rattle.ops_tables.specs.Tables.{TableRows}
use Rattle.board.specs.Below.RowsFaultVariants as fault
use Rattle.desk.specs.Opening.{IsWhy, IsOfKeeper, IsOpened, IsLeft, TellsRowsOf, under}
use Rattle.desk.specs.declared.opening.OpenWhy.{OpenWhy}
use Rattle.desk.specs.declared.opening.OpenWhy.TheVariants.{KeeperFault, BadRow, BadPair, OutOfMemory}

-- ---- the state that is opened

left_desk : (s : State) → IsLeft s → AreOfDesk (records_of s)
left_desk s left = records_formed left.opening s left.board left.few left.room

none_of_desk : AreOfDesk []
unfolding fit
none_of_desk = record { valid = All-from_recursion IsRecord [] tt; fit = refl; order = refl }

no_records : (version : Version) (rs : List Record) → map (row_in version) rs ≡ [] → rs ≡ []
no_records version [] none = refl
no_records version (r ∷ rs) none = absurd (cc)

at_start : (tables : TableRows) → state_in tables [] ≡ start tables
unfolding state_in
at_start tables = refl

-- the rows that were loaded are those of the records of a state in a version, or there are none at the beginning
data AreLeft (s : State) (rows : List Row) : Type 0 where
  of_records : (version : Version) → AreRowsIn version rows (records_of s) → AreLeft s rows
  of_none : rows ≡ [] → s ≡ start s.tables → AreLeft s rows

second_at : (s : State) (rows : List Row) → AreOfDesk (records_of s) → rows ≡ map row_of (records_of s) → AreRowsIn Second rows (records_of s)
second_at s rows are same = subst (λ (xs : List Row). AreRowsIn Second xs (records_of s)) (sym same) (second_rows (records_of s) are)

first_at : (s : State) (rows : List Row) → AreOfDesk (records_of s) → AllByRecursion HasNoHours s.releases → rows ≡ map (row_in First) (records_of s) → AreRowsIn First rows (records_of s)
first_at s rows are lacks same = subst (λ (xs : List Row). AreRowsIn First xs (records_of s)) (sym same) (first_rows s are lacks)

kept_rows : (s : State) (rows : List Row) → AreOfDesk (records_of s) → (rows ≡ map row_of (records_of s)) ⊎ ((rows ≡ []) × (s ≡ start s.tables)) → AreLeft s rows
kept_rows s rows are (inl same) = of_records Second (second_at s rows are same)
kept_rows s rows are (inr none) = of_none none.0 none.1

left_rows : (s : State) (told : Rows) (rows : List Row) → AreOfDesk (records_of s) → AreKept told s ⊎ AreOldRows told s → Lists (Some told) rows → IsTrue (order.rising rows) → AreLeft s rows
left_rows s told rows are (inl kept) listed up = kept_rows s rows are (listed_as s told rows are kept listed up)
left_rows s told rows are (inr old) listed up = of_records First (first_at s rows are old.lacks (listed_old s told rows are old listed up))

opened_as : (tables : TableRows) (s : State) (told : Rows) (b : Shown) → IsLeft s → TellsRowsOf (Some told) s → IsOpened (Some told) tables b → b.state ≡ reopened (under tables s)
opened_as tables s told b left tells is =
    let rows : List Row = is.loaded.rows in
    let are = left_desk s left in
    by are (left_rows s told rows are tells is.loaded.listed is.loaded.order)
  where
    by : AreOfDesk (records_of s) → AreLeft s is.loaded.rows → b.state ≡ reopened (under tables s)
    by are (of_records version rows) =
        ap (λ (x : Shown). x.state) is.shows
        ∙ ap (λ (rs : List Record). reopened (state_in tables rs)) (desk_records version is.loaded.rows (records_of s) is.records rows.named rows.are is.loaded.has.desk)
        ∙ ap (λ (t : State). reopened t) (state_again left.opening s left.board tables)
    by are (of_none none at_first) =
        ap (λ (x : Shown). x.state) is.shows
        ∙ ap (λ (rs : List Record). reopened (state_in tables rs)) (no_records (version_of is.loaded.rows) is.records (is.loaded.has.desk.are.made ∙ none))
        ∙ ap (λ (t : State). reopened t) (at_start tables ∙ sym (ap (λ (t : State). under tables t) at_first))

-- ---- no fault of rows

no_fault : (s : State) (told : Rows) (rows : List Row) (P : List Row → Type 0) → AreOfDesk (records_of s) → AreLeft s rows → P rows
    → ((version : Version) (xs : List Row) (rs : List Record) → AreOfDesk rs → AreRowsIn version xs rs → P xs → ⊥) → ⊥
no_fault s told rows P are (of_records version left) has never = never version rows (records_of s) are left has
no_fault s told rows P are (of_none none at_first) has never = never Second [] [] none_of_desk (second_rows [] none_of_desk) (subst P none has)

left_why : (told : Option Rows) (rose : Type 0) (s : State) (why : OpenWhy) → IsLeft s → TellsRowsOf told s → IsWhy told rose why → IsOfKeeper rose why
left_why told rose s KeeperFault left tells is = is
left_why told rose s OutOfMemory left tells is = tt
left_why None rose s (BadRow row why) left tells is = absurd tells
left_why None rose s (BadPair one two) left tells is = absurd tells
left_why (Some told) rose s (BadRow row why) left tells is =
    let are = left_desk s left in
    no_fault s told is.rows (λ rows. IsFaultOf rows (fault.BadRow row why)) are (left_rows s told is.rows are tells is.listed is.order) is.has (λ version rows rs desk in_rows bad. no_bad_row version rows rs desk in_rows row why bad)
left_why (Some told) rose s (BadPair one two) left tells is =
    let are = left_desk s left in
    no_fault s told is.rows (λ rows. IsFaultOf rows (fault.BadPair one two)) are (left_rows s told is.rows are tells is.listed is.order) is.has (λ version rows rs desk in_rows bad. no_bad_pair version rows rs desk in_rows one two bad)

left_state : (told : Option Rows) (tables : TableRows) (s : State) (b : Shown) → IsLeft s → TellsRowsOf told s → IsOpened told tables b → b.state ≡ reopened (under tables s)
left_state None tables s b left tells is = absurd tells
left_state (Some told) tables s b left tells is = opened_as tables s told b left tells is

-- what comes of opening over the rows of a state that was left
pub opens_left : {D E : Type 0} (told : Option Rows) (tables : TableRows) (board : D → Shown) (rose : E → Type 0) (why : E → OpenWhy) (r : Result D E) (s : State) → IsLeft s → TellsRowsOf told s
    → IfOk r (λ d. IsOpened told tables (board d)) → IfErr r (λ e. IsWhy told (rose e) (why e)) → MatchResult r (λ d. (board d).state ≡ reopened (under tables s)) (λ e. IsOfKeeper (rose e) (why e))
opens_left told tables board rose why (Ok d) s left tells is none = left_state told tables s (board d) left tells is
opens_left told tables board rose why (Err e) s left tells none is = left_why told (rose e) s (why e) left tells is
