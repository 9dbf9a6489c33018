-- The work on a desk that was opened, over the rows before it was.
use Rattle.std.proofs.Common.{◌≡◌, ℕ, ◌≤◌, Bool, true, List, [], map, Option, None, Some, ap, append-nil, ◌∙◌, inr, refl, subst, sym, arith}
use Rattle.std.specs.Prelude.{Ok, Err}
use Rattle.std.specs.List.{concat}
use Rattle.alerts.specs.Seen.{BellSeen}
use Rattle.scripts.specs.Below.{Shown, shown, numbers_of, AreAsked, IsLeft, IsOfKeeper, IsOpened, IsWhy, MayHaveAsked, NotEntered, OpensOver, TellsRowsOf, board_of, OpenWhy, AreGivenInPart, IsRunOf, KeptAt, stored_in, Desk, DeskAt, DeskGoesOn, desk_at, desk_seen, IsBoard, State, Item}
use Rattle.scripts.proofs.Below.{rise_lower, rise_within, entered_on, opened_stored}
use Rattle.desk_io.specs.Health.{HasFailed}
use Rattle.desk_io.specs.Over.{Over, over}
use Rattle.desk_io.specs.Rows.{Rows}
use Rattle.keeper.proofs.SeenLaws.{keeper_on, keeper_stays}
use Rattle.keeper.specs.Seen.{KeeperSeen, KeeperGoesOn}
use Rattle.ops_tables.specs.Tables.{TableRows}
use Rattle.commands.specs.Faults.{Outcome, of_opening}
use Rattle.commands.specs.Seen.{lent as lent_over, Lent}
use Rattle.commands.specs.Working.{AsksAfter, AsksToOpen, Opens, Ends, desk_over, since, stored_to_open}
use Rattle.commands.specs.declared.fault.Fault.TheVariants.{OutOfMemory}
use Rattle.commands.specs.declared.working.Ended.{Ended}

-- a run that counts from before
pub run_lower : (less : ℕ) (before after : KeptAt) (s : State) (items : List Item) (t : State) (text : List ℕ) → less ≤ before.faults → IsRunOf before after s items t text
    → IsRunOf (record { faults = less; stored = before.stored }) after s items t text
run_lower less before after s items t text under run =
    let within = rise_within before.faults (concat (map numbers_of run.choices)) after.faults run.counted in
    record {
      choices = run.choices;
      counted = rise_lower less before.faults (concat (map numbers_of run.choices)) after.faults under run.counted;
      stored = run.stored;
      says = run.says;
      state = run.state;
      steady = λ same. run.steady (omega (arith, same, under, within));
    }

pub items_lower : (less : ℕ) (before after : KeptAt) (s : State) (items : List Item) (t : State) → less ≤ before.faults → AreGivenInPart 1 before after s items t
    → AreGivenInPart 1 (record { faults = less; stored = before.stored }) after s items t
items_lower less before after s items t under part = record {
  front = part.front;
  left = part.left;
  choices = part.choices;
  whole = part.whole;
  kept = part.kept;
  counted = rise_lower less before.faults (concat (map numbers_of part.choices)) part.kept.faults under part.counted;
  stored = part.stored;
  later = part.later;
  state = part.state;
}

-- what follows of a text, and of work in part
pub ends_map : {P Q : List ℕ → Type 0} {A B : Type 0} (answer : Outcome) → Ends P A answer → ((text : List ℕ) → P text → Q text) → (A → B) → Ends Q B answer
ends_map (Ok text) ends whole some = whole text ends
ends_map (Err OutOfMemory) ends whole some = some ends
ends_map (Err other) ends whole some = absurd ends

-- the keeper that is given back goes on from the one that was lent
pub keeper_worked : {K : Type 0} (seen : K → KeeperSeen) (lent opened done given : K) → given ≡ done → KeeperGoesOn (seen lent) (seen opened) → KeeperGoesOn (seen opened) (seen done)
    → KeeperGoesOn (seen lent) (seen given)
keeper_worked seen lent opened done given is one two = subst (λ k. KeeperGoesOn (seen lent) (seen k)) (sym is) (keeper_on (seen lent) (seen opened) (seen done) one two)

-- where no desk is opened, nothing is worked on
pub not_opened : {K B : Type 0} (seen : K → KeeperSeen) (tables : TableRows) (Works : Over DeskAt → Outcome → Type 0) (lent kept : K) (why : OpenWhy) (said : Ended K B)
    → said.answer ≡ Err (of_opening why) → said.board ≡ None → said.keeper ≡ kept → IsWhy (seen lent).rows (HasFailed (seen lent).health (seen kept).health) why
    → ((s : State) → IsLeft s → TellsRowsOf (seen lent).rows s → IsOfKeeper (HasFailed (seen lent).health (seen kept).health) why)
    → (seen kept).rows ≡ (seen lent).rows → MayHaveAsked (seen lent).rows tables (seen lent).commits (seen kept).commits
    → NotEntered (seen lent).account (seen kept).account tables why
    → Opens tables Works (lent_over seen lent said.keeper) said.board said.answer
not_opened seen tables Works lent kept why said answer_is board_is keeper_is is left rows asked unentered =
    subst (λ k. Opens tables Works (lent_over seen lent k) said.board said.answer) (sym keeper_is)
    (subst (λ b. Opens tables Works (lent_over seen lent kept) b said.answer) (sym board_is)
    (record { why = why; says = answer_is; is = is; left = left; rows = rows; asked = asked; unentered = unentered }))

-- a desk that was opened has no history yet
pub opened_fresh : (told : Option Rows) (tables : TableRows) (b : Shown) → IsOpened told tables b → IsBoard b.opening b.state → b.state.entries ≡ []
opened_fresh told tables b opened holds =
    ap (λ (x : Shown). x.state.entries) opened.shows ∙ sym (ap (λ (x : Shown). x.opening.entries) opened.shows) ∙ holds.history.empty

-- it is one that was opened, when its board holds its entries too
pub held_opened : (told : Option Rows) (tables : TableRows) (b c : Shown) → IsOpened told tables b → c ≡ shown b.opening b.state None true → IsOpened told tables c
held_opened told tables b c opened is = record {
  records = opened.records;
  old = opened.old;
  loaded = opened.loaded;
  shows =
      is
      ∙ ap (λ (x : Shown). shown x.opening x.state None true) opened.shows
      ∙ ap (λ (listed : Bool). board_of tables opened.records listed) (sym (ap (λ (x : Shown). x.listed) is));
}

module _ {K B : Type 0} (seen : K → KeeperSeen) (heard : B → BellSeen) (tables : TableRows) (Works : Over DeskAt → Outcome → Type 0) (lent : K) where
  opened_over : (desk done : Desk K B) (answer : Outcome) → IsOpened (seen lent).rows tables desk.board → KeeperGoesOn (seen lent) (seen desk.keeper) → OpensOver (seen lent) (seen desk.keeper) tables desk.board
      → DeskGoesOn (desk_seen seen heard desk) (desk_seen seen heard done) → ((less : ℕ) → less ≤ (seen desk.keeper).health.faults → Works (since less (over (desk_at seen) desk done)) answer) → IsBoard done.board.opening done.board.state
      → Opens tables Works (lent_over seen lent done.keeper) (Some done.board) answer
  unfolding entered_on
  opened_over desk done answer opened lasts kept goes works holds =
      let first = ap (λ (b : Shown). b.state) opened.shows ∙ sym (ap (λ (b : Shown). b.opening) opened.shows) ∙ sym goes.opening in
      let less = (seen lent).health.faults in (
        record {
          records = opened.records;
          old = opened.old;
          loaded = opened.loaded;
          opening = goes.opening ∙ ap (λ (b : Shown). b.opening) opened.shows;
          holds = holds;
          entered =
              entered_on (seen lent).account (seen desk.keeper).account (seen done.keeper).account tables done.board.opening desk.board.opening desk.board.state done.board.state goes.opening kept.entered goes.saves;
          kept = goes.rows kept.kept;
        },
        subst (λ (bs : List Bool). Works (record { before = record { state = done.board.opening; kept = record { faults = less; stored = bs } }; after = desk_at seen done }) answer)
            (opened_stored (seen lent) (seen desk.keeper) tables desk.board kept)
            (subst (λ (s : State). Works (record { before = record { state = s; kept = record { faults = less; stored = stored_in (seen desk.keeper).account } }; after = desk_at seen done }) answer) first
            (works less lasts.health.later)),
      )

  -- what is given back is the desk on which the work was done
  pub worked : (desk done : Desk K B) (answer : Outcome) (said : Ended K B) → said.answer ≡ answer → said.board ≡ Some done.board → said.keeper ≡ done.keeper
      → IsOpened (seen lent).rows tables desk.board → KeeperGoesOn (seen lent) (seen desk.keeper) → OpensOver (seen lent) (seen desk.keeper) tables desk.board
      → DeskGoesOn (desk_seen seen heard desk) (desk_seen seen heard done) → ((less : ℕ) → less ≤ (seen desk.keeper).health.faults → Works (since less (over (desk_at seen) desk done)) answer) → IsBoard done.board.opening done.board.state
      → Opens tables Works (lent_over seen lent said.keeper) said.board said.answer
  worked desk done answer said answer_is board_is keeper_is opened lasts kept goes works holds =
      subst (λ k. Opens tables Works (lent_over seen lent k) said.board said.answer) (sym keeper_is)
      (subst (λ b. Opens tables Works (lent_over seen lent done.keeper) b said.answer) (sym board_is)
      (subst (λ a. Opens tables Works (lent_over seen lent done.keeper) (Some done.board) a) (sym answer_is)
      (opened_over desk done answer opened lasts kept goes works holds)))

-- a desk on which nothing was done
pub still : {K B : Type 0} (seen : K → KeeperSeen) (heard : B → BellSeen) (desk : Desk K B) → DeskGoesOn (desk_seen seen heard desk) (desk_seen seen heard desk)
still seen heard desk = record {
  opening = refl;
  rows = λ kept. kept;
  keeper = keeper_stays (seen desk.keeper);
  saves = record { asked = []; account = sym (append-nil (seen desk.keeper).account); saves = refl };
  listed = λ held. held;
  rung = λ bells since. since;
}

-- what goes on by a work's own view of the keeper and the bells
pub goes_by : {K B : Type 0} (seen own : K → KeeperSeen) (heard told : B → BellSeen) (desk done : Desk K B) → own ≡ seen → told ≡ heard → DeskGoesOn (desk_seen own told desk) (desk_seen own told done)
    → DeskGoesOn (desk_seen seen heard desk) (desk_seen seen heard done)
goes_by seen own heard told desk done same alike goes =
    subst (λ s. DeskGoesOn (desk_seen s heard desk) (desk_seen s heard done)) same (subst (λ h. DeskGoesOn (desk_seen own h desk) (desk_seen own h done)) alike goes)

pub does_by : {K B : Type 0} (seen own : K → KeeperSeen) (desk done : Desk K B) (Works : Over DeskAt → Outcome → Type 0) (answer : Outcome) → own ≡ seen
    → ((less : ℕ) → less ≤ (own desk.keeper).health.faults → Works (since less (over (desk_at own) desk done)) answer)
    → (less : ℕ) → less ≤ (seen desk.keeper).health.faults → Works (since less (over (desk_at seen) desk done)) answer
does_by seen own desk done Works answer same does =
    subst (λ s. (less : ℕ) → less ≤ (s desk.keeper).health.faults → Works (since less (over (desk_at s) desk done)) answer) same does

-- work that comes to more
pub opens_with : (tables : TableRows) (P Q : Over DeskAt → Outcome → Type 0) (keeper : Lent) (board : Option Shown) (answer : Outcome) → ((desk : Over DeskAt) → P desk answer → Q desk answer)
    → Opens tables P keeper board answer → Opens tables Q keeper board answer
opens_with tables P Q keeper None answer more opens = opens
opens_with tables P Q keeper (Some board) answer more opens = (opens.0, more (desk_over (stored_to_open tables keeper board opens.0) keeper board) opens.1)

-- ---- what was asked of the keeper

pub asked_after : {K B : Type 0} (seen : K → KeeperSeen) (tables : TableRows) (Asks : KeeperSeen → KeeperSeen → Type 0) (lent opened done : K) (board : Shown) (said : Ended K B)
    → said.board ≡ Some board → said.keeper ≡ done → AreAsked (seen lent).rows tables (seen lent).commits (seen opened).commits → Asks (seen opened) (seen done)
    → AsksAfter Asks tables (lent_over seen lent said.keeper) said.board
asked_after seen tables Asks lent opened done board said board_is keeper_is asked asks =
    subst (λ k. AsksAfter Asks tables (lent_over seen lent k) said.board) (sym keeper_is)
    (subst (λ b. AsksAfter Asks tables (lent_over seen lent done) b) (sym board_is) (seen opened, asked, asks))

pub asked_nothing : {K B : Type 0} (tables : TableRows) (Asks : KeeperSeen → KeeperSeen → Type 0) (keeper : Lent) (said : Ended K B) → said.board ≡ None → AsksAfter Asks tables keeper said.board
asked_nothing tables Asks keeper said none = subst (AsksAfter Asks tables keeper) (sym none) tt

-- work that asks for no commit: at most that of opening is requested
pub asked_to_open : (tables : TableRows) (Works : Over DeskAt → Outcome → Type 0) (keeper : Lent) (board : Option Shown) (answer : Outcome) → Opens tables Works keeper board answer
    → AsksAfter (λ opened after. after.commits ≡ opened.commits) tables keeper board → AsksToOpen tables keeper
asked_to_open tables Works keeper None answer opens asks = opens.asked
asked_to_open tables Works keeper (Some board) answer opens asks =
    inr (subst (λ n. AreAsked keeper.before.rows tables keeper.before.commits n) (sym asks.2) asks.1)
