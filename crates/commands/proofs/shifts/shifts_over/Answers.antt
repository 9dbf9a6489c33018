use Rattle.std.proofs.Common.{ℕ, ◌≡◌, ◌≤◌, ap, ◌∙◌, List, subst}
use Rattle.std.specs.Prelude.{Err}
use Rattle.alerts.specs.Ringing.{Hung, hung_all}
use Rattle.commands.proofs.Opened.{ends_map, items_lower, keeper_worked, not_opened, worked}
use Rattle.commands.proofs.RungLaws.{rung_seated}
use Rattle.commands.specs.Faults.{Outcome}
use Rattle.commands.specs.Sources.{first_of}
use Rattle.commands.specs.Working.{RunsSeated, RunsShifts, since}
use Rattle.scripts.specs.Below.{DeskAt, desk_at, State}
use Rattle.desk_io.specs.Over.{Over, over}
use Rattle.scripts.proofs.RunLaws.{shift_run_lower}
use Rattle.scripts.specs.Routes.{items_in}
use Rattle.scripts.specs.ShiftRuns.{shifts_of}
use Rattle.commands.proofs.shifts.shifts_over.Goals as goal

shifts_since : (opening : State) (script : List ℕ) (desk : Over DeskAt) (old new : List Hung) (answer : Outcome) → RunsSeated opening script desk old new answer → (less : ℕ) → less ≤ desk.before.kept.faults
    → RunsShifts script (since less desk) answer
shifts_since opening script desk old new answer runs less under = ends_map answer runs
    (λ text run. shift_run_lower less desk.before.kept desk.after.kept desk.before.state script desk.after.state text under run.run)
    (λ part. items_lower less desk.before.kept desk.after.kept desk.before.state (items_in (shifts_of desk.before.state script)) desk.after.state under part)

shifts_from : (opening : State) (script first : List ℕ) (desk : Over DeskAt) (old new : List Hung) (answer : Outcome) → script ≡ first → RunsSeated opening script desk old new answer → (less : ℕ) → less ≤ desk.before.kept.faults
    → RunsShifts first (since less desk) answer
shifts_from opening script first desk old new answer same runs less under =
    subst (λ (text : List ℕ). RunsShifts text (since less desk) answer) same (shifts_since opening script desk old new answer runs less under)

pub returns-in-Ok-clause-opens : goal.returns-in-Ok-clause-opens
returns-in-Ok-clause-opens g c =
    let opened = c.in-Ok.ensures in
    let work = c.run-answer in
    let left = c.left_with in
    let seen = g.K.Keeper.seen in
    let heard = g.B.Bell.seen in
    let read = c.first_of-script.ensures ∙ ap first_of c.as_slice.ensures in
    worked seen heard c.args.provided.tables (RunsShifts (first_of c.args.texts.now)) c.args.provided.keeper c.in-Ok.desk work.new.desk work.result left.result
    left.ensures.answer left.ensures.board left.ensures.keeper opened.opened opened.on opened.kept work.ensures.desk
    (shifts_from c.in-Ok.desk.board.opening c.first_of-script.result.now (first_of c.args.texts.now) (over (desk_at seen) c.in-Ok.desk work.new.desk) (hung_all heard c.args.provided.ringer) (hung_all heard work.new.ringer) work.result
    read work.ensures.run) left.ensures.holds

pub returns-in-Ok-clause-rung : goal.returns-in-Ok-clause-rung
returns-in-Ok-clause-rung g c =
    let work = c.run-answer in
    let left = c.left_with in
    let heard = g.B.Bell.seen in
    let read = c.first_of-script.ensures ∙ ap first_of c.as_slice.ensures in
    rung_seated g.K.Keeper.seen heard _ c.args.provided.tables c.args.provided.keeper c.in-Ok.desk work.new.desk left.result c.first_of-script.result.now (first_of c.args.texts.now) work.result
    (hung_all heard c.args.provided.ringer) (hung_all heard work.new.ringer) (hung_all heard left.result.ringer)
    left.ensures.answer left.ensures.board left.ensures.keeper (ap (hung_all heard) left.ensures.ringer) read c.in-Ok.ensures.opened c.in-Ok.ensures.on work.ensures.desk work.ensures.hears work.ensures.run

pub returns-in-Ok-clause-keeper : goal.returns-in-Ok-clause-keeper
returns-in-Ok-clause-keeper g c =
    keeper_worked g.K.Keeper.seen c.args.provided.keeper c.in-Ok.desk.keeper c.run-answer.new.desk.keeper c.left_with.result.keeper c.left_with.ensures.keeper c.in-Ok.ensures.on c.run-answer.ensures.desk.keeper

pub returns-clause-opens : goal.returns-clause-opens
returns-clause-opens g c =
    let opened = c.in-Err.ensures in
    let ended = c.boardless in
    not_opened g.K.Keeper.seen c.args.provided.tables (RunsShifts (first_of c.args.texts.now)) c.args.provided.keeper c.in-Err.field-0.keeper c.in-Err.field-0.why ended.result (ended.ensures.answer ∙ ap (λ f. Err f) c.from.ensures)
    ended.ensures.none ended.ensures.keeper opened.why opened.left opened.same opened.failed opened.unentered
