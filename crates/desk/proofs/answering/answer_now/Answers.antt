use Rattle.std.proofs.Common.{None, arith}
use Rattle.desk.specs.Settled.{choice_of}
use Rattle.desk.proofs.AskedLaws.{asks_now}
use Rattle.desk.proofs.Choices.{counted_as, exact_call}
use Rattle.desk.proofs.answering.answer_now.Goals as goal

pub returns-clause-count : goal.returns-clause-count
returns-clause-count g c = counted_as _ _ _ None _ (choice_of c.joined.result) c.joined.ensures.tick c.joined.ensures.call (omega arith) c.in_ok-settled.ensures.count

pub returns-clause-exact : goal.returns-clause-exact
returns-clause-exact g c = exact_call _ _ _ (choice_of c.joined.result) c.joined.ensures.tick c.joined.ensures.call c.in_ok-settled.ensures.count

pub returns-clause-asks : goal.returns-clause-asks
returns-clause-asks g c = asks_now _ _ _ _ _ c.joined.ensures.call c.in_ok-settled.ensures.asks
