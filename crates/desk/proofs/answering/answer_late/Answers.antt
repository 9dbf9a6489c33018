use Rattle.desk.specs.Settled.{choice_of}
use Rattle.desk.proofs.AskedLaws.{asks_late}
use Rattle.desk.proofs.Choices.{counted_as, exact_late}
use Rattle.desk.proofs.SeenLaws.{desk_on}
use Rattle.desk.proofs.answering.answer_late.Goals as goal

pub returns-clause-count : goal.returns-clause-count
returns-clause-count g c =
    let ticked = c.in_ok-reply.ensures in
    counted_as _ _ _ _ _ (choice_of c.joined.result) c.joined.ensures.tick c.joined.ensures.call ticked.count c.in_ok-settled.ensures.count

pub returns-clause-exact : goal.returns-clause-exact
returns-clause-exact g c =
    let ticked = c.in_ok-reply.ensures in
    exact_late _ _ _ _ _ _ (choice_of c.joined.result) c.joined.ensures.tick c.joined.ensures.call ticked.count c.in_ok-settled.ensures.count ticked.told c.in_ok-settled.ensures.stays

pub returns-clause-asks : goal.returns-clause-asks
returns-clause-asks g c =
    let ticked = c.in_ok-reply.ensures in
    asks_late _ _ _ (choice_of c.joined.result) _ _ c.args.lane _ _ c.args.at c.args.call.now _ c.joined.ensures.tick c.joined.ensures.call ticked.settled.reply ticked.settled.state ticked.asks
    c.in_ok-settled.ensures.asks

pub returns-clause-on : goal.returns-clause-on
returns-clause-on g c = desk_on _ _ _ c.in_ok-reply.ensures.on c.in_ok-settled.ensures.on

pub returns-in_err-settled-clause-on : goal.returns-in_err-settled-clause-on
returns-in_err-settled-clause-on g c = desk_on _ _ _ c.in_ok-reply.ensures.on c.in_err-settled.ensures.on
