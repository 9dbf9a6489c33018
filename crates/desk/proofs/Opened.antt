-- The rows that a desk is opened over.
use Rattle.std.proofs.Common.{◌≡◌, ℕ, Bool, true, false, List, [], ◌∷◌, ◌++◌, map, Option, None, Some, refl, ap, sym, subst, ◌∙◌, ◌⊎◌, inl, inr}
use Rattle.std.specs.Prelude.{IsTrue, Result, Ok, Err, IfErr, IfOk, OnErr, OnOk, MatchResult}
use Rattle.std.proofs.lemmas.List.{append_assoc, append-nil}
use Rattle.board.specs.Prepare.{Shown, shown}
use Rattle.desk_io.specs.Rows.{Rows, rows_of, changed_by}
use Rattle.desk_io.specs.declared.rows.Change.{Change}
use Rattle.desk_io.specs.declared.rows.Row.{Row}
use Rattle.keeper.proofs.SeenLaws.{keeper_on}
use Rattle.keeper.specs.Account.{FailedCommit}
use Rattle.keeper.specs.Kept.{AreSame, Leads, Lists}
use Rattle.keeper.specs.Order as order
use Rattle.keeper.specs.Seen.{KeeperSeen, KeeperGoesOn, kept_rows}
use Rattle.keeper.specs.declared.account.AccountEntry.{AccountEntry}
use Rattle.keeper.specs.declared.account.AccountEntry.TheVariants.{Load, Commit}
use Rattle.keeper.specs.declared.account.Outcome.TheVariants.{Done}
use Rattle.keeper.specs.declared.keeping.KeepFault.TheVariants.{Failed}
use Rattle.board.specs.Below.{AreKept, row_in, IsChecked, IsDesk, version_if, version_of, Checked, Record, AreOfDesk, state_in, judged_changes, opened_changes, upgraded_changes}
use Rattle.desk_state.specs.State.{State}
use Rattle.board.proofs.Below.{reopened_tables, rise_as}
use Rattle.desk.proofs.AskedLaws.{stored_on}
use Rattle.desk.proofs.SavedLaws.{saves_on}
use Rattle.desk.proofs.Steps.{same_kept, still_keeps}
use Rattle.desk.specs.Keeping.{KeepsState}
use Rattle.desk.specs.Saved.{Saves, SavesBetween, stored_in}
use Rattle.desk.specs.Opening.{AreLoaded, AreAsked, FailsToOpen, IsEntered, IsLoad, IsOfKeeper, IsOfRows, IsOpened, MayHaveAsked, NotEntered, NotRead, NotSaved, OpensOver, board_of, commits_for, commits_of, commits_where, commits_to_open, opening_changes, stored_at_opening}
use Rattle.desk.specs.declared.opening.OpenWhy.{OpenWhy}
use Rattle.desk.specs.declared.opening.OpenWhy.TheVariants.{KeeperFault, BadRow, BadPair, OutOfMemory}
use Rattle.desk_state.specs.Effects.{nothing}
use Rattle.desk_state.specs.Events.{alert_changes}
use Rattle.desk_state.specs.declared.change.AlertChange.{AlertChange}
use Rattle.ops_tables.specs.Tables.{TableRows}

-- the records of rows in order that are those of a desk
pub of_desk : (rows : List Row) (records : List Record) → IsDesk rows records → IsTrue (order.rising rows) → AreOfDesk records
of_desk rows records is up = record {
  valid = is.are.valid;
  fit = is.fit;
  order = sym (rise_as (version_of rows) records) ∙ ap order.rising is.are.made ∙ up;
}

-- the same of rows that were checked
pub checked_desk : (rows : List Row) (found : Checked) → IsChecked rows found → IsTrue (order.rising rows) → AreOfDesk found.records.items
checked_desk rows found is up = of_desk rows found.records.items is.desk up

pub checked_loaded : (told : Option Rows) (rows : List Row) (found : Checked) → Lists told rows → IsTrue (order.rising rows) → IsChecked rows found → AreLoaded told found.records.items found.is_old
checked_loaded told rows found listed up is = record { rows = rows; listed = listed; order = up; has = record { desk = is.desk; first = is.old } }

pub checked_load : (old new : List AccountEntry) (rows : List Row) (found : Checked) → new ≡ old ++ Load (Some rows) ∷ [] → IsChecked rows found → IsLoad old new found.records.items found.is_old
checked_load old new rows found grew is = record { rows = rows; account = grew; read = record { desk = is.desk; first = is.old } }

-- it is opened under the tables
pub opened_tables : (told : Option Rows) (tables : TableRows) (b : Shown) → IsOpened told tables b → b.state.tables ≡ tables
opened_tables told tables b opened = ap (λ (x : Shown). x.state.tables) opened.shows ∙ reopened_tables tables opened.records

-- an account that grew says the same of its load
unfoldable pub entered_on : (old mid new : List AccountEntry) (tables : TableRows) (o opening s t : State) → o ≡ opening → IsEntered old mid tables opening s → SavesBetween mid new s t → IsEntered old new tables o t
entered_on old mid new tables o opening s t same entered more =
    let opened = commits_of (opening_changes tables entered.records entered.first) in
    record {
      rows = entered.rows;
      records = entered.records;
      first = entered.first;
      later = entered.later ++ more.asked;
      account =
          more.account
          ∙ ap (λ es. es ++ more.asked) entered.account
          ∙ append_assoc old (Load (Some entered.rows) ∷ (opened ++ entered.later)) more.asked
          ∙ ap (λ es. old ++ Load (Some entered.rows) ∷ es) (append_assoc opened entered.later more.asked);
      read = entered.read;
      opens = same ∙ entered.opens;
      saves = subst (λ (u : State). Saves u (entered.later ++ more.asked) t) (sym same) (saves_on opening entered.later more.asked s t entered.saves more.saves);
    }

load_entered : (old mid new : List AccountEntry) (tables : TableRows) (records : List Record) (first : Bool) (board : Shown) → IsLoad old mid records first
    → new ≡ mid ++ commits_of (opening_changes tables records first) → board ≡ board_of tables records false → IsEntered old new tables board.opening board.state
load_entered old mid new tables records first board load grew shows =
    let opened = commits_of (opening_changes tables records first) in
    record {
      rows = load.rows;
      records = records;
      first = first;
      later = [];
      account =
          grew
          ∙ ap (λ es. es ++ opened) load.account
          ∙ append_assoc old (Load (Some load.rows) ∷ []) opened
          ∙ ap (λ es. old ++ Load (Some load.rows) ∷ es) (sym (append-nil opened));
      read = load.read;
      opens = ap (λ (b : Shown). b.opening) shows;
      saves = ap (λ (b : Shown). b.state) shows ∙ sym (ap (λ (b : Shown). b.opening) shows);
    }

-- the board that was opened over the rows of a load
pub opens_over : {T E : Type 0} (board : T → Shown) (keeper : T → KeeperSeen) (r : Result T E) (old : KeeperSeen) (mid : List AccountEntry) (tables : TableRows) (records : List Record) (first : Bool)
    → IsLoad old.account mid records first → IfOk r (λ d. board d ≡ board_of tables records false)
    → IfOk r (λ d. (keeper d).account ≡ mid ++ commits_of (opening_changes tables records first))
    → IfOk r (λ d. KeepsState (kept_rows (keeper d)) (board d).state) → IfOk r (λ d. OpensOver old (keeper d) tables (board d))
unfolding load_entered
opens_over board keeper (Ok d) old mid tables records first load shows grew keeps =
    record { entered = load_entered old.account mid (keeper d).account tables records first (board d) load grew shows; none = refl; kept = keeps }
opens_over board keeper (Err e) old mid tables records first load shows grew keeps = tt

-- the commits so far are those of before, and the one of opening
pub opened_stored : (old new : KeeperSeen) (tables : TableRows) (board : Shown) → (over : OpensOver old new tables board)
    → stored_in new.account ≡ stored_in old.account ++ stored_at_opening tables over.entered.records over.entered.first
opened_stored old new tables board over =
    let commits = commits_of (opening_changes tables over.entered.records over.entered.first) in
    ap stored_in over.entered.account
    ∙ stored_on old.account (Load (Some over.entered.rows) ∷ (commits ++ over.entered.later))
    ∙ ap (λ es. stored_in old.account ++ stored_in (commits ++ es)) over.none
    ∙ ap (λ es. stored_in old.account ++ stored_in es) (append-nil commits)

-- ---- what the account says where no desk is opened

of_keeper_known : (rose : Type 0) (why : OpenWhy) → IsOfKeeper rose why → IsOfKeeper (Unit {0}) why
of_keeper_known rose KeeperFault is = tt
of_keeper_known rose (BadRow row why) is = absurd is
of_keeper_known rose (BadPair one two) is = absurd is
of_keeper_known rose OutOfMemory is = tt

-- a load that failed, or that memory ran out in
pub load_failed : (old new : List AccountEntry) (rose : Type 0) (why : OpenWhy) → IsOfKeeper rose why → new ≡ old ++ Load None ∷ [] → NotRead old new why
load_failed old new rose why is grew = inl (of_keeper_known rose why is, grew)

-- rows that were checked
pub rows_refused : {T : Type 0} (r : Result T OpenWhy) (P : T → Type 0) (old new : List AccountEntry) (rows : List Row) → new ≡ old ++ Load (Some rows) ∷ [] → MatchResult r P (IsOfRows rows)
    → IfErr r (NotRead old new)
rows_refused (Ok x) P old new rows grew is = tt
rows_refused (Err why) P old new rows grew is = inr (record { rows = rows; account = grew; has = is })

-- the commit of an opening
pub no_commit : (old : List AccountEntry) (changes : List Change) → changes ≡ [] → old ≡ old ++ commits_of changes
no_commit old changes none = sym (append-nil old) ∙ ap (λ cs. old ++ commits_of cs) (sym none)

pub one_commit : (old new : List AccountEntry) (changes : List Change) → (changes ≡ [] → ⊥) → new ≡ old ++ Commit changes Done ∷ [] → new ≡ old ++ commits_of changes
one_commit old new [] some done = absurd (some refl)
one_commit old new (change ∷ changes) some done = done

pub restored_enters : {T E : Type 0} (r : Result T E) (old new : List AccountEntry) (changes others : List Change) → changes ≡ others → OnOk r (new ≡ old ++ commits_of changes)
    → OnOk r (new ≡ old ++ commits_of others)
restored_enters r old new changes others are done = subst (λ cs. OnOk r (new ≡ old ++ commits_of cs)) are done

pub restored_unsaved : {T E : Type 0} (r : Result T E) (old new : List AccountEntry) (tables : TableRows) (records : List Record) (first : Bool) (changes : List Change)
    → changes ≡ opening_changes tables records first → OnErr r (FailedCommit old new changes Failed) → (P : E → Type 0) → ((e : E) → FailsToOpen old new tables records first → P e) → IfErr r P
restored_unsaved (Ok x) old new tables records first changes are failed P makes = tt
restored_unsaved (Err e) old new tables records first changes are failed P makes = makes e (subst (λ cs. FailedCommit old new cs Failed) are failed)

in_vain : (old mid new : List AccountEntry) (tables : TableRows) (records : List Record) (first : Bool) (why : OpenWhy) → IsLoad old mid records first → IsOfKeeper (Unit {0}) why
    → NotSaved mid new tables records first why → NotEntered old new tables why
in_vain old mid new tables records first why load is (inl none) =
    inl (inr (record { rows = load.rows; account = none.1 ∙ load.account; has = subst (IsOfRows load.rows) (sym none.0) tt }))
in_vain old mid new tables records first why load is (inr failed) =
    inr (
      is,
      record {
        rows = load.rows;
        records = records;
        first = first;
        read = load.read;
        failed = subst (λ es. FailsToOpen es new tables records first) load.account failed;
      },
    )

-- the same of an opening's answer
pub open_in_vain : {T E : Type 0} (keeper : E → KeeperSeen) (why : E → OpenWhy) (r : Result T E) (old mid : List AccountEntry) (tables : TableRows) (records : List Record) (first : Bool) (rose : E → Type 0)
    → IsLoad old mid records first → IfErr r (λ e. IsOfKeeper (rose e) (why e)) → IfErr r (λ e. NotSaved mid (keeper e).account tables records first (why e))
    → IfErr r (λ e. NotEntered old (keeper e).account tables (why e))
open_in_vain keeper why (Ok x) old mid tables records first rose load is unsaved = tt
open_in_vain keeper why (Err e) old mid tables records first rose load is unsaved =
    in_vain old mid (keeper e).account tables records first (why e) load (of_keeper_known (rose e) (why e) is) unsaved

-- the keeper of an opening goes on from before its load
pub opens_on : {T E : Type 0} (keeper : T → KeeperSeen) (lost : E → KeeperSeen) (r : Result T E) (old mid : KeeperSeen) → KeeperGoesOn old mid
    → MatchResult r (λ d. KeeperGoesOn mid (keeper d)) (λ e. KeeperGoesOn mid (lost e)) → MatchResult r (λ d. KeeperGoesOn old (keeper d)) (λ e. KeeperGoesOn old (lost e))
opens_on keeper lost (Ok d) old mid one two = keeper_on old mid (keeper d) one two
opens_on keeper lost (Err e) old mid one two = keeper_on old mid (lost e) one two

-- what restoring changed is kept for the state
pub opened_keeps : (before after : Option Rows) (records : List Record) (old : Bool) (changes : List Change) (s : State) → AreLoaded before records old → Leads before changes after
    → ((rows : Rows) → AreSame rows (rows_of (map (row_in (version_if old)) records)) → AreKept (changed_by changes rows) s) → KeepsState after s
opened_keeps None None records old changes s loaded leads kept = tt
opened_keeps None (Some after) records old changes s loaded leads kept = absurd leads
opened_keeps (Some before) None records old changes s loaded leads kept = absurd leads
opened_keeps (Some before) (Some after) records old changes s loaded leads kept =
    let made = sym loaded.has.desk.are.made ∙ ap (λ (b : Bool). map (row_in (version_if b)) records) (sym loaded.has.first) in
    same_kept after (changed_by changes before) s leads (kept before (λ kind key. sym (loaded.listed kind key) ∙ ap (λ rs. rows_of rs kind key) made))

-- no change leads to the same rows
pub leads_nowhere : (told : Option Rows) (changes : List Change) → changes ≡ [] → Leads told changes told
leads_nowhere None changes none = tt
leads_nowhere (Some rows) changes none = λ kind key. sym (ap (λ cs. changed_by cs rows kind key) none)

-- where an answer is Ok, what follows from its clause
pub match_ok : {T E : Type 0} (P : T → Type 0) (Q : E → Type 0) (R : T → Type 0) (r : Result T E) → ((x : T) → P x → R x) → MatchResult r P Q → IfOk r R
match_ok P Q R (Ok x) follows is = follows x is
match_ok P Q R (Err e) follows is = tt

pub restored_keeps : {E : Type 0} (before after : Option Rows) (records : List Record) (old : Bool) (changes : List Change) (s : State) (board : Shown) (r : Result Shown E) → IfOk r (λ b. b ≡ board)
    → OnOk r (Leads before changes after) → AreLoaded before records old → board ≡ shown s s None false
    → ((rows : Rows) → AreSame rows (rows_of (map (row_in (version_if old)) records)) → AreKept (changed_by changes rows) s) → IfOk r (λ b. KeepsState after b.state)
restored_keeps before after records old changes s board (Ok b) is leads loaded shows kept =
    still_keeps after s b.state (ap (λ (x : Shown). x.state) (is ∙ shows)) (opened_keeps before after records old changes s loaded leads kept)
restored_keeps before after records old changes s board (Err e) is leads loaded shows kept = tt

-- ---- what is asked of the keeper

asked_for : (s : State) (old : Bool) (alerts : List AlertChange) (n : ℕ) → commits_for (opened_changes old s alerts) n ≡ commits_where old alerts n
unfolding opened_changes upgraded_changes judged_changes
asked_for s true alerts n = refl
asked_for s false [] n = refl
asked_for s false (c ∷ cs) n = refl

-- what restoring changed asks for a commit where the rows are of the first version, or an alert changed
asks_to_open : (tables : TableRows) (records : List Record) (old : Bool) (changes : List Change) (before now : ℕ) → now ≡ commits_for changes before
    → changes ≡ opened_changes old (state_in tables records) (alert_changes nothing (state_in tables records)) → now ≡ commits_to_open tables records old before
asks_to_open tables records old changes before now asked are =
    let s : State = state_in tables records in asked ∙ ap (λ cs. commits_for cs before) are ∙ asked_for s old (alert_changes nothing s) before

pub restored_asks : {T E : Type 0} (result : Result T E) (tables : TableRows) (records : List Record) (old : Bool) (changes : List Change) (before now : ℕ) → now ≡ commits_for changes before
    → changes ≡ opened_changes old (state_in tables records) (alert_changes nothing (state_in tables records)) → IfOk result (λ b. now ≡ commits_to_open tables records old before)
restored_asks (Ok b) tables records old changes before now asked are = asks_to_open tables records old changes before now asked are
restored_asks (Err e) tables records old changes before now asked are = tt

pub restored_failed : {T E : Type 0} (result : Result T E) (tables : TableRows) (records : List Record) (old : Bool) (changes : List Change) (before now : ℕ) → now ≡ commits_for changes before
    → changes ≡ opened_changes old (state_in tables records) (alert_changes nothing (state_in tables records)) → OnErr result ((now ≡ before) ⊎ (now ≡ commits_to_open tables records old before))
restored_failed (Ok b) tables records old changes before now asked are = tt
restored_failed (Err e) tables records old changes before now asked are = inr (asks_to_open tables records old changes before now asked are)

-- the same of the records that were loaded
pub opened_asks : {T E : Type 0} (count : T → ℕ) (result : Result T E) (told : Option Rows) (tables : TableRows) (records : List Record) (old : Bool) (before middle : ℕ) → AreLoaded told records old → middle ≡ before
    → IfOk result (λ d. count d ≡ commits_to_open tables records old middle) → IfOk result (λ d. AreAsked told tables before (count d))
opened_asks count (Ok d) told tables records old before middle loaded none asked =
    record { records = records; old = old; loaded = loaded; asked = asked ∙ ap (commits_to_open tables records old) none }
opened_asks count (Err e) told tables records old before middle loaded none asked = tt

pub opened_failed : {T E : Type 0} (count : E → ℕ) (result : Result T E) (told : Option Rows) (tables : TableRows) (records : List Record) (old : Bool) (before middle : ℕ) → AreLoaded told records old → middle ≡ before
    → IfErr result (λ f. (count f ≡ middle) ⊎ (count f ≡ commits_to_open tables records old middle)) → IfErr result (λ f. MayHaveAsked told tables before (count f))
opened_failed count (Ok d) told tables records old before middle loaded none asked = tt
opened_failed count (Err f) told tables records old before middle loaded none (inl same) = inl (same ∙ none)
opened_failed count (Err f) told tables records old before middle loaded none (inr asked) =
    inr (record { records = records; old = old; loaded = loaded; asked = asked ∙ ap (commits_to_open tables records old) none })
