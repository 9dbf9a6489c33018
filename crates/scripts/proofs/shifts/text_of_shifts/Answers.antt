use Rattle.std.proofs.Common.{[], ap, ◌∙◌}
use Rattle.desk.proofs.InPart.{none_given, on_err}
use Rattle.relief.proofs.HeardLaws.{heard_none}
use Rattle.relief.specs.Roster.{first_roster}
use Rattle.scripts.proofs.RunLaws.{are_shifts, begun_as, ended_as, stopped_at_end, stopped_in}
use Rattle.scripts.proofs.shifts.text_of_shifts.Goals as goal

pub returns-in_err-lines-clause-err : goal.returns-in_err-lines-clause-err
returns-in_err-lines-clause-err g c = on_err c.from_residual.result (none_given 1 _ _ _)

pub returns-in_err-roster-clause-err : goal.returns-in_err-roster-clause-err
returns-in_err-roster-clause-err g c = on_err c.from_residual-in_err-roster.result (none_given 1 _ _ _)

pub returns-in_err-out-clause-err : goal.returns-in_err-out-clause-err
returns-in_err-out-clause-err g c =
    let one = (c.in_ok-roster.ensures {u = tt}).value ∙ ap first_roster c.tables.ensures in
    let two = c.deref.ensures.value ∙ c.in_ok-lines.ensures {u = tt} in
    on_err c.from_residual-in_err-out.result
    (stopped_in c.args.desk.now.board.state c.args.script.now c.in_ok-roster.roster c.deref.result.now one two _ _ _ c.in_err-out.ensures.err)

pub returns-in_err-push_ending-clause-err : goal.returns-in_err-push_ending-clause-err
returns-in_err-push_ending-clause-err g c =
    let one = (c.in_ok-roster.ensures {u = tt}).value ∙ ap first_roster c.tables.ensures in
    let two = c.deref.ensures.value ∙ c.in_ok-lines.ensures {u = tt} in
    on_err c.from_residual-in_err-push_ending.result
    (stopped_at_end c.args.desk.now.board.state c.args.script.now c.in_ok-roster.roster c.deref.result.now one two _ _ _ _ _ _ c.in_ok-out.ensures.replied)

pub returns-clause-run : goal.returns-clause-run
returns-clause-run g c =
    let s = c.args.desk.now.board.state in
    let script = c.args.script.now in
    let one = (c.in_ok-roster.ensures {u = tt}).value ∙ ap first_roster c.tables.ensures in
    let two = c.deref.ensures.value ∙ c.in_ok-lines.ensures {u = tt} in
    are_shifts _ _ _ _ _ _ _ _ _ _ _ (begun_as s script c.in_ok-roster.roster c.deref.result.now one two)
    (c.in_ok-out.ensures.roster ∙ ended_as s script c.in_ok-roster.roster c.deref.result.now one two) c.in_ok-out.ensures.replied c.in_ok-push_ending.ensures

pub returns-in_err-lines-clause-hears : goal.returns-in_err-lines-clause-hears
returns-in_err-lines-clause-hears g c = ([], heard_none _)

pub returns-in_err-roster-clause-hears : goal.returns-in_err-roster-clause-hears
returns-in_err-roster-clause-hears g c = ([], heard_none _)
