use Rattle.std.proofs.Common.{◌∙◌}
use Rattle.desk.proofs.InPart.{on_err}
use Rattle.scripts.proofs.PlannedPlaces.{found_planned}
use Rattle.scripts.proofs.PlannedTelling.{none_run}
use Rattle.scripts.proofs.planned.planned_text.Goals as goal

pub returns-in_err-lines-clause-err : goal.returns-in_err-lines-clause-err
returns-in_err-lines-clause-err g c = on_err c.from_residual.result (none_run _ _ _)

pub returns-clause-run : goal.returns-clause-run
returns-clause-run g c =
    let two = c.deref.ensures.value ∙ c.in_ok-lines.ensures {u = tt} in
    found_planned c.text_of_lines-text.result (λ v. v.items) _ _ _ c.args.desk.now.board.state c.args.script.now c.deref.result.now _ two c.text_of_lines-text.ensures.run c.text_of_lines-text.ensures.forms
    c.now.ensures.board

pub returns-in_err-lines-clause-plans : goal.returns-in_err-lines-clause-plans
returns-in_err-lines-clause-plans g c = c.now.ensures.board.plans
