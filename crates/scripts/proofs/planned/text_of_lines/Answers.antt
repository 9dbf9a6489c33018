use Rattle.desk.proofs.AskedLaws.{keeper_later}
use Rattle.desk.proofs.InPart.{on_err}
use Rattle.desk.proofs.SeenLaws.{desk_on, desk_stays}
use Rattle.scripts.proofs.PlannedHeld.{none_formed, stay_formed}
use Rattle.scripts.proofs.PlannedTelling.{all_formed, line_there, no_line, none_told, run_told, told_after, told_at, told_before, told_next}
use Rattle.scripts.proofs.planned.text_of_lines.Goals as goal

pub loop-line-init : goal.loop-line-init
loop-line-init g c = record { told = none_told _ _ _ _ _ c.new-planned.ensures c.new-out.ensures.items; plans = none_formed _ c.new-planned.ensures; on = desk_stays _ }

pub returns-in_err-item-clause-err : goal.returns-in_err-item-clause-err
returns-in_err-item-clause-err g c = on_err c.from_residual.result (told_before _ _ _ _ _ _ _ _ c.loop-line.invariant.told)

pub returns-in_err-outcome-clause-err : goal.returns-in_err-outcome-clause-err
returns-in_err-outcome-clause-err g c =
    let is = c.in_err-outcome.ensures in
    let left = line_there c.args.lines.now c.loop-line.line-index c.line-item.result c.bytes.result.now c.in_ok-item.item c.loop-line-test.true c.line-item.is c.bytes.ensures c.in_ok-item.ensures.value in
    on_err c.from_residual-in_err-outcome.result (told_at _ _ _ _ _ _ _ _ _ _ _ _ left c.loop-line.invariant.told (keeper_later _ _ is.on.keeper) is.err)

pub returns-in_err-push_line-clause-err : goal.returns-in_err-push_line-clause-err
returns-in_err-push_line-clause-err g c =
    let left = line_there c.args.lines.now c.loop-line.line-index c.line-item.result c.bytes.result.now c.in_ok-item.item c.loop-line-test.true c.line-item.is c.bytes.ensures c.in_ok-item.ensures.value in
    on_err c.from_residual-in_err-push_line.result
    (told_after _ _ _ _ _ _ _ _ _ _ _ _ _ _ left c.loop-line.invariant.told c.in_ok-outcome.ensures.answered c.in_ok-item.ensures.forms)

pub returns-in_err-outcome-clause-on : goal.returns-in_err-outcome-clause-on
returns-in_err-outcome-clause-on g c = desk_on _ _ _ c.loop-line.invariant.on c.in_err-outcome.ensures.on

pub returns-in_err-push_line-clause-on : goal.returns-in_err-push_line-clause-on
returns-in_err-push_line-clause-on g c = desk_on _ _ _ c.loop-line.invariant.on c.in_ok-outcome.ensures.on

pub loop-line-preserved : goal.loop-line-preserved
loop-line-preserved g c =
    let is = c.in_ok-outcome.ensures in
    let left = line_there c.args.lines.now c.loop-line.line-index c.line-item.result c.bytes.result.now c.in_ok-item.item c.loop-line-test.true c.line-item.is c.bytes.ensures c.in_ok-item.ensures.value in
    let next = told_next _ _ _ _ _ _ _ _ _ _ _ _ _ _ _ left c.loop-line.invariant.told is.answered c.in_ok-item.ensures.forms c.in_ok-push_line.ensures in
    let plans = stay_formed _ _ _ _ _ _ _ _ is.answered c.in_ok-item.ensures.forms c.loop-line.invariant.plans in
    record { told = next; plans = plans; on = desk_on _ _ _ c.loop-line.invariant.on is.on }

pub returns-in_err-push_closing-clause-err : goal.returns-in_err-push_closing-clause-err
returns-in_err-push_closing-clause-err g c = on_err c.from_residual-in_err-push_closing.result (told_before _ _ _ _ _ _ _ _ c.loop-line.invariant.told)

pub returns-clause-run : goal.returns-clause-run
returns-clause-run g c =
    run_told _ _ _ _ _ _ _ _ _ (no_line c.args.lines.now c.loop-line.line-index c.loop-line-test.false) c.loop-line.invariant.told c.in_ok-push_closing.ensures

pub returns-clause-forms : goal.returns-clause-forms
returns-clause-forms g c = all_formed _ _ _ _ _ _ _ _ (no_line c.args.lines.now c.loop-line.line-index c.loop-line-test.false) c.loop-line.invariant.told
