-- Bells that were rung over a desk that was opened.
use Rattle.std.proofs.Common.{◌≡◌, ℕ, ◌+◌, ◌≤◌, Bool, List, [], ◌∷◌, Option, None, Some, refl, ap, sym, ◌∙◌, subst}
use Rattle.std.specs.Prelude.{Ok, Err}
use Rattle.alerts.proofs.RungLaws.{are_rung_none}
use Rattle.alerts.specs.Ringing.{AreRung, Hung, dropped, fresh_from, hung_all, staying}
use Rattle.alerts.specs.Seen.{BellSeen}
use Rattle.scripts.proofs.Below.{keeper_later}
use Rattle.scripts.specs.Below.{Shown, told_by_all, IsOpened, DeskGoesOn, desk_at, desk_seen, Desk, IsBoard, KeptAt, State, kept_at}
use Rattle.commands.proofs.Reading.{between, whole_as}
use Rattle.commands.specs.Bells.{AreRungAfter, AreRungBy, AreRungIn, AreRungOver, AreRungSeated, AreRungUnder, IsRungInShifts}
use Rattle.commands.specs.Faults.{Outcome}
use Rattle.commands.specs.Seen.{lent as lent_over, Lent}
use Rattle.commands.specs.Sources.{ReadsSources}
use Rattle.commands.specs.Working.{RunsSeated}
use Rattle.commands.specs.declared.working.Ended.{Ended}
use Rattle.desk_io.specs.Over.{Over, over}
use Rattle.desk_io.specs.Rows.{Rows}
use Rattle.desk_io.specs.Seen.{ShelfSeen}
use Rattle.keeper.specs.Seen.{KeeperGoesOn, KeeperSeen}
use Rattle.ops_tables.specs.Tables.{TableRows}
use Rattle.scripts.proofs.RunLaws.{seated_run_lower}
use Rattle.scripts.specs.ShiftLines.{HaveHeardSome}
use Rattle.scripts.specs.ShiftRuns.{IsSeatedRun}
use Rattle.words.specs.declared.task.DeskTask.{DeskTask}
use Rattle.words.specs.declared.task.DeskTask.TheVariants.{Shifts}
use Rattle.words.specs.declared.task.Task.{Task}
use Rattle.words.specs.declared.task.Task.TheVariants.{Desk as OnDesk, Weather}

-- the desk that was opened has no history yet
pub rung_over : {K B : Type 0} (seen : K → KeeperSeen) (heard : B → BellSeen) (told : Option Rows) (tables : TableRows) (desk done : Desk K B) (said : Ended K B) (bells : List Hung)
    → said.board ≡ Some done.board → hung_all heard said.ringer ≡ hung_all heard done.ringer → hung_all heard desk.ringer ≡ bells → IsOpened told tables desk.board
    → DeskGoesOn (desk_seen seen heard desk) (desk_seen seen heard done) → IsBoard done.board.opening done.board.state → AreRungOver said.board bells (hung_all heard said.ringer)
rung_over seen heard told tables desk done said bells board_is rung_is given opened goes holds =
    let first : desk.board.state ≡ desk.board.opening = ap (λ (b : Shown). b.state) opened.shows ∙ sym (ap (λ (b : Shown). b.opening) opened.shows) in
    let none : desk.board.state.entries ≡ [] =
    ap (λ (s : State). s.entries) first ∙ ap (λ (s : State). s.entries) (sym goes.opening) ∙ holds.history.empty in
    let before : AreRung (told_by_all desk.board.opening desk.board.state.entries) bells (hung_all heard desk.ringer) =
    subst (λ now. AreRung (told_by_all desk.board.opening desk.board.state.entries) bells now) (sym given)
    (subst (λ es. AreRung (told_by_all desk.board.opening es) bells bells) (sym none) (are_rung_none bells)) in
    subst (λ (b : Option Shown). AreRungOver b bells (hung_all heard said.ringer)) (sym board_is)
    (subst (λ now. AreRung (told_by_all done.board.opening done.board.state.entries) bells now) (sym rung_is) (goes.rung bells before))

-- bells that heard nothing all stay
pub all_stay : (bells : List BellSeen) (place : ℕ) → bells ≡ staying (fresh_from place bells)
all_stay [] place = refl
all_stay (b ∷ bells) place = ap (λ more. b ∷ more) (all_stay bells (place + 1))

pub none_leaves : (bells : List BellSeen) (place : ℕ) → [] ≡ dropped (fresh_from place bells)
none_leaves [] place = refl
none_leaves (b ∷ bells) place = none_leaves bells (place + 1)

-- ---- a run of shifts

-- a run that began in the opening state, where the keeper's faults are counted from before
rung_shifts : (less : ℕ) (before after : KeptAt) (opening s t : State) (script text : List ℕ) (board : Shown) (old new : List Hung) → less ≤ before.faults → IsSeatedRun opening before after s script t text old new → s ≡ opening
    → board.opening ≡ opening → board.state ≡ t → IsSeatedRun board.opening (record { faults = less; stored = before.stored }) after board.opening script board.state text old new
rung_shifts less before after opening s t script text board old new under run first begun ended =
    let low : KeptAt = record { faults = less; stored = before.stored } in
    let lower : IsSeatedRun opening low after s script t text old new = seated_run_lower less before after opening s script t text old new under run in
    let at : IsSeatedRun opening low after opening script t text old new = subst (λ (u : State). IsSeatedRun opening low after u script t text old new) first lower in
    let from : IsSeatedRun board.opening low after board.opening script t text old new = subst (λ (o : State). IsSeatedRun o low after o script t text old new) (sym begun) at in
    subst (λ (u : State). IsSeatedRun board.opening low after board.opening script u text old new) (sym ended) from

seated_by : {K : Type 0} {B : Type 0} (seen : K → KeeperSeen) (heard : B → BellSeen) (lent : K) (desk done : Desk K B) (script : List ℕ) (old new : List Hung) (answer : Outcome)
    → RunsSeated desk.board.opening script (over (desk_at seen) desk done) old new answer → KeeperGoesOn (seen lent) (seen desk.keeper) → desk.board.state ≡ desk.board.opening
    → done.board.opening ≡ desk.board.opening → IsRungInShifts script (lent_over seen lent done.keeper) done.board answer old new
seated_by seen heard lent desk done script old new (Ok text) runs lasts first begun =
    let less = (seen lent).health.faults in
    let opened = keeper_later (seen lent) (seen desk.keeper) lasts in (
      opened.asked,
      subst (λ (bs : List Bool). IsSeatedRun done.board.opening (record { faults = less; stored = bs }) (kept_at (seen done.keeper)) done.board.opening script done.board.state text old new) opened.stored
          (rung_shifts less (kept_at (seen desk.keeper)) (kept_at (seen done.keeper)) desk.board.opening desk.board.state done.board.state script text done.board old new lasts.health.later runs first begun refl),
    )
seated_by seen heard lent desk done script old new (Err fault) runs lasts first begun = tt

pub rung_seated : {K B : Type 0} (seen : K → KeeperSeen) (heard : B → BellSeen) (told : Option Rows) (tables : TableRows) (lent : K) (desk done : Desk K B) (said : Ended K B) (script texts_first : List ℕ) (answer : Outcome) (old new bells : List Hung)
    → said.answer ≡ answer → said.board ≡ Some done.board → said.keeper ≡ done.keeper → bells ≡ new → script ≡ texts_first → IsOpened told tables desk.board → KeeperGoesOn (seen lent) (seen desk.keeper)
    → DeskGoesOn (desk_seen seen heard desk) (desk_seen seen heard done) → HaveHeardSome old new → RunsSeated desk.board.opening script (over (desk_at seen) desk done) old new answer
    → AreRungSeated texts_first (lent_over seen lent said.keeper) said.answer said.board old bells
rung_seated {K} seen heard told tables lent desk done said script texts_first answer old new bells answer_is board_is keeper_is bells_are script_is opened lasts goes some runs =
    let first : desk.board.state ≡ desk.board.opening = ap (λ (b : Shown). b.state) opened.shows ∙ sym (ap (λ (b : Shown). b.opening) opened.shows) in
    let one = subst (λ text. IsRungInShifts text (lent_over seen lent done.keeper) done.board answer old new) script_is
    (seated_by seen heard lent desk done script old new answer runs lasts first goes.opening) in
    let two = subst (λ now. HaveHeardSome old now × IsRungInShifts texts_first (lent_over seen lent done.keeper) done.board answer old now) (sym bells_are) (some, one) in
    let three = subst (λ (a : Outcome). HaveHeardSome old bells × IsRungInShifts texts_first (lent_over seen lent done.keeper) done.board a old bells) (sym answer_is) two in
    let four = subst (λ (k : K). HaveHeardSome old bells × IsRungInShifts texts_first (lent_over seen lent k) done.board said.answer old bells) (sym keeper_is) three in
    subst (λ (b : Option Shown). AreRungSeated texts_first (lent_over seen lent said.keeper) said.answer b old bells) (sym board_is) four

-- ---- the bells of a command

-- without a board no bell is rung
pub none_rung : (shelf : Over ShelfSeen) (task : DeskTask) (names : List (List ℕ)) (keeper : Lent) (answer : Outcome) (board : Option Shown) (old new : List Hung) → board ≡ None → new ≡ old → AreRungUnder shelf task names keeper answer board old new
none_rung shelf task names keeper answer board old new none same =
    subst (λ (b : Option Shown). AreRungUnder shelf task names keeper answer b old new) (sym none) same

-- over sources that were read
pub rung_under : (begun done : ShelfSeen) (task : DeskTask) (names texts : List (List ℕ)) (keeper : Lent) (answer : Outcome) (board : Option Shown) (old new : List Hung) → ReadsSources (between begun done) names (Ok texts)
    → AreRungBy task texts keeper answer board old new → AreRungUnder (between begun done) task names keeper answer board old new
rung_under begun done Shifts names texts keeper answer None old new read rung = rung
rung_under begun done Shifts names texts keeper answer (Some b) old new read rung = (rung.0, (begun.reads, texts, read, rung.1))
rung_under begun done other names texts keeper answer None old new read rung = rung
rung_under begun done other names texts keeper answer (Some b) old new read rung = rung

-- over the same sources, with more reads before
pub rung_from : (begun middle done : ShelfSeen) (task : DeskTask) (names : List (List ℕ)) (keeper : Lent) (answer : Outcome) (board : Option Shown) (old new : List Hung) → middle.sources ≡ begun.sources
    → AreRungUnder (between middle done) task names keeper answer board old new → AreRungUnder (between begun done) task names keeper answer board old new
rung_from begun middle done Shifts names keeper answer None old new same rung = rung
rung_from begun middle done Shifts names keeper answer (Some b) old new same rung =
    let last = rung.1 in (rung.0, (last.0, last.1, (whole_as begun.sources middle.sources names last.1 same last.2.0, last.2.1), last.3))
rung_from begun middle done other names keeper answer None old new same rung = rung
rung_from begun middle done other names keeper answer (Some b) old new same rung = rung

-- where no command was run
nothing_in : (shelf : Over ShelfSeen) (task : Task) (names : List (List ℕ)) (keeper : Lent) (answer : Outcome) (bells : List Hung) → AreRungIn shelf task names keeper answer None bells bells
nothing_in shelf Weather names keeper answer bells = refl
nothing_in shelf (OnDesk task) names keeper answer bells = refl

pub nothing_rung : (shelf : Over ShelfSeen) (command : Option (Task × List (List ℕ))) (keeper : Lent) (answer : Outcome) (bells : List Hung) → AreRungAfter shelf command keeper answer None bells bells
nothing_rung shelf None keeper answer bells = refl
nothing_rung shelf (Some command) keeper answer bells = nothing_in shelf command.0 command.1 keeper answer bells

pub unrung : (shelf : Over ShelfSeen) (command : Option (Task × List (List ℕ))) (keeper : Lent) (answer : Outcome) (board : Option Shown) (old new : List Hung) → board ≡ None → new ≡ old → AreRungAfter shelf command keeper answer board old new
unrung shelf command keeper answer board old new none same =
    subst (λ (b : Option Shown). AreRungAfter shelf command keeper answer b old new) (sym none)
    (subst (λ now. AreRungAfter shelf command keeper answer None old now) (sym same) (nothing_rung shelf command keeper answer old))
