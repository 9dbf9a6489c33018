use Rattle.std.proofs.lemmas.Result.{IfOk-weaker}
use Rattle.desk.proofs.AskedLaws.{keeper_later}
use Rattle.desk.proofs.Choices.{kept_by}
use Rattle.desk.proofs.InPart.{on_err}
use Rattle.scripts.proofs.Answering.{answered_alone, answered_under, begun_alone, hears_on}
use Rattle.scripts.proofs.shifts.answer_on_board.Goals as goal

pub returns-in_err-answered-clause-err : goal.returns-in_err-answered-clause-err
returns-in_err-answered-clause-err g c =
    let is = c.in_err-answered.ensures in
    on_err c.from_residual.result (begun_alone _ _ _ _ _ (keeper_later _ _ is.on.keeper) is.err)

pub returns-in_err-answered-clause-hears : goal.returns-in_err-answered-clause-hears
returns-in_err-answered-clause-hears g c = λ bells some. some

pub returns-clause-answered : goal.returns-clause-answered
returns-clause-answered g c =
    IfOk-weaker c.said_text.result _ _ (λ reply says. answered_under _ _ _ _ _ _ c.in_ok-answered.answered reply _ _ c.requires c.in_ok-answered.ensures.given c.as_slice.ensures c.as_slice-2.ensures
    (λ told bells since. c.ring.ensures told bells since) says) c.said_text.ensures

pub returns-clause-err : goal.returns-clause-err
returns-clause-err g c =
    let given = c.in_ok-answered.ensures.given in
    on_err c.said_text.result (answered_alone _ _ _ _ _ given.choice (kept_by _ _ _ _ given.counted given.asks) given.is.its_state)

pub returns-clause-hears : goal.returns-clause-hears
returns-clause-hears g c = λ bells some. hears_on bells _ _ _ some c.ring.ensures
