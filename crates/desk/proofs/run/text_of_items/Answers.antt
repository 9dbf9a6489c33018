use Rattle.desk.proofs.AskedLaws.{keeper_later}
use Rattle.desk.proofs.Choices.{kept_by}
use Rattle.desk.proofs.InPart.{on_err}
use Rattle.desk.proofs.SeenLaws.{desk_on, desk_stays}
use Rattle.desk.proofs.Told.{comes_first, comes_last, is_run_told, none_told, told_after, told_at, told_before, told_next}
use Rattle.desk.proofs.run.text_of_items.Goals as goal

pub loop-out-init : goal.loop-out-init
loop-out-init g c = record { told = none_told 1 _ _ _ _ c.new-out.ensures.items; on = desk_stays _ }

pub returns-in_err-item-clause-err : goal.returns-in_err-item-clause-err
returns-in_err-item-clause-err g c = on_err c.from_residual.result (told_before 1 _ _ _ _ _ _ _ c.loop-out.invariant.told)

pub returns-in_err-answered-clause-err : goal.returns-in_err-answered-clause-err
returns-in_err-answered-clause-err g c =
    let is = c.in_err-answered.ensures in
    let left = comes_first _ c.in-Some.item _ _ c.in-Some.is c.in_ok-item.ensures.comes in
    on_err c.from_residual-in_err-answered.result (told_at 1 _ _ _ _ _ _ _ _ _ _ _ left c.loop-out.invariant.told (keeper_later _ _ is.on.keeper) is.err)

pub returns-in_err-push_outcome-clause-err : goal.returns-in_err-push_outcome-clause-err
returns-in_err-push_outcome-clause-err g c =
    let given = c.in_ok-answered.ensures.given in
    let left = comes_first _ c.in-Some.item _ _ c.in-Some.is c.in_ok-item.ensures.comes in
    on_err c.from_residual-in_err-push_outcome.result (told_after 1 _ _ _ _ _ _ _ _ _ _ _ given.choice left c.loop-out.invariant.told (kept_by _ _ _ _ given.counted given.asks) given.is.its_state)

pub loop-out-preserved : goal.loop-out-preserved
loop-out-preserved g c =
    let is = c.in_ok-answered.ensures in
    let left = comes_first _ c.in-Some.item _ _ c.in-Some.is c.in_ok-item.ensures.comes in
    let next = told_next 1 _ _ _ _ _ _ _ _ _ _ _ _ is.given.choice _ left c.loop-out.invariant.told (kept_by _ _ _ _ is.given.counted is.given.asks) is.given.is.its_outcome is.given.is.its_state c.in_ok-push_outcome.ensures in
    record { told = next; on = desk_on _ _ _ c.loop-out.invariant.on is.on }

pub loop-out-preserved-in_ok-push_outcome : goal.loop-out-preserved-in_ok-push_outcome
loop-out-preserved-in_ok-push_outcome g c =
    let is = c.in_ok-answered.ensures in
    let left = comes_first _ c.in-Some.item _ _ c.in-Some.is c.in_ok-item.ensures.comes in
    let next = told_next 1 _ _ _ _ _ _ _ _ _ _ _ _ is.given.choice _ left c.loop-out.invariant.told (kept_by _ _ _ _ is.given.counted is.given.asks) is.given.is.its_outcome is.given.is.its_state c.in_ok-push_outcome.ensures in
    record { told = next; on = desk_on _ _ _ c.loop-out.invariant.on is.on }

pub returns-in_err-push_closing-clause-err : goal.returns-in_err-push_closing-clause-err
returns-in_err-push_closing-clause-err g c = on_err c.from_residual-in_err-push_closing.result (told_before 1 _ _ _ _ _ _ _ c.loop-out.invariant.told)

pub returns-clause-run : goal.returns-clause-run
returns-clause-run g c =
    is_run_told _ _ _ _ _ _ _ _ (comes_last _ _ _ c.in_default.is c.in_ok-item.ensures.comes) c.loop-out.invariant.told c.in_ok-push_closing.ensures

pub returns-in_err-answered-clause-on : goal.returns-in_err-answered-clause-on
returns-in_err-answered-clause-on g c = desk_on _ _ _ c.loop-out.invariant.on c.in_err-answered.ensures.on

pub returns-in_err-push_outcome-clause-on : goal.returns-in_err-push_outcome-clause-on
returns-in_err-push_outcome-clause-on g c = desk_on _ _ _ c.loop-out.invariant.on c.in_ok-answered.ensures.on
