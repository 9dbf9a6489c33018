use Rattle.std.proofs.Common.{refl}
use Rattle.desk.proofs.Choices.{counted_as}
use Rattle.desk.proofs.SeenLaws.{desk_on}
use Rattle.scripts.proofs.PlannedTicks.{answered_asks, answered_given}
use Rattle.scripts.proofs.planned_lines.answer_line.Goals as goal

pub returns-clause-given : goal.returns-clause-given
returns-clause-given g c = answered_given _ _ _ _ _ _ _ _ _ _ c.line_at-at.ensures c.in_ok-reply.ensures.ticked c.in_ok-made.ensures.given

pub returns-clause-count : goal.returns-clause-count
returns-clause-count g c =
    counted_as _ _ _ _ _ (record { tick = c.in_ok-reply.field-0.fault; call = c.in_ok-made.made.fault }) refl refl c.in_ok-reply.ensures.count c.in_ok-made.ensures.count

pub returns-clause-asks : goal.returns-clause-asks
returns-clause-asks g c =
    answered_asks _ _ _ _ _ _ _ c.in_ok-reply.field-0.fault c.in_ok-made.made.fault _ _ c.line_at-at.ensures c.in_ok-reply.ensures.ticked c.in_ok-reply.ensures.asks c.in_ok-made.ensures.asks

pub returns-clause-on : goal.returns-clause-on
returns-clause-on g c = desk_on _ _ _ c.in_ok-reply.ensures.on c.in_ok-made.ensures.on

pub returns-in_err-made-clause-on : goal.returns-in_err-made-clause-on
returns-in_err-made-clause-on g c = desk_on _ _ _ c.in_ok-reply.ensures.on c.in_err-made.ensures.on
