use Rattle.std.proofs.Common.{refl}
use Rattle.desk.proofs.HeardLaws.{call_settles}
use Rattle.desk_state.proofs.Boards.{call_keeps}
use Rattle.desk.proofs.Steps.{asks_as, history_as, keeps_as, next_as, no_event, replies_to, settled_is}
use Rattle.desk.proofs.answering.make_call.Goals as goal

pub settle-requires-clause-keeps : goal.settle-requires-clause-keeps
settle-requires-clause-keeps g c = keeps_as _ _ _ _ _ _ c.in_ok-prepared.ensures.ok c.in_ok-prepared.ensures.rows

pub settle-requires-clause-history : goal.settle-requires-clause-history
settle-requires-clause-history g c = history_as _ _ _ _ _ c.in_ok-prepared.ensures.ok c.now.ensures.board.history

pub settle-requires-clause-next : goal.settle-requires-clause-next
settle-requires-clause-next g c =
    next_as _ _ _ _ _ _ _ c.in_ok-prepared.ensures.ok c.in_ok-prepared.ensures.stepped (call_keeps _ _ _ c.args.lane c.args.call.now c.now.ensures.board c.requires refl).history

pub returns-clause-settled : goal.returns-clause-settled
returns-clause-settled g c = settled_is _ _ _ _ _ _ _ _ _ c.in_ok-prepared.ensures.ok c.in_ok-prepared.ensures.stepped c.settle.ensures.settled

pub returns-clause-still : goal.returns-clause-still
returns-clause-still g c = λ none. c.settle.ensures.still (no_event _ _ _ c.in_ok-prepared.ensures.stepped none)

pub returns-clause-replied : goal.returns-clause-replied
returns-clause-replied g c =
    replies_to _ _ _ _ _ (settled_is _ _ _ _ _ _ _ _ _ c.in_ok-prepared.ensures.ok c.in_ok-prepared.ensures.stepped c.settle.ensures.settled)

pub returns-clause-asks : goal.returns-clause-asks
returns-clause-asks g c = asks_as _ _ _ _ _ _ c.in_ok-prepared.ensures.stepped c.settle.ensures.asks

pub returns-clause-on : goal.returns-clause-on
returns-clause-on g c =
    let settled = settled_is _ _ _ _ _ _ _ _ _ c.in_ok-prepared.ensures.ok c.in_ok-prepared.ensures.stepped c.settle.ensures.settled in
    call_settles _ _ _ _ _ _ _ _ _ c.in_ok-prepared.ensures.ok c.now.ensures.board.history c.settle.ensures.on c.settle.ensures.rung c.settle.ensures.err c.settle.ensures.unrung _ _ settled
