use Rattle.desk_state.proofs.RepeatLaws.{comes_again}
use Rattle.desk.specs.Settled.{choice_of}
use Rattle.desk.proofs.Choices.{quiet_answer, again_answered, again_after_tick}
use Rattle.desk.proofs.answering.answer.Goals as goal

pub returns-clause-given : goal.returns-clause-given
returns-clause-given g c =
    let is = c.in_ok-judged.ensures in record { choice = choice_of c.in_ok-judged.judged; counted = is.count; exact = is.exact; asks = is.asks; is = is.given }

pub returns-clause-quiet : goal.returns-clause-quiet
returns-clause-quiet g c = λ sound.
    quiet_answer _ _ _ _ _ _ (choice_of c.in_ok-judged.judged) _ _ _ _ (c.in_ok-judged.ensures.on.keeper.health.sound sound).1 c.in_ok-judged.ensures.count c.in_ok-judged.ensures.given

pub returns-clause-again : goal.returns-clause-again
returns-clause-again g c = λ k within may is.
    again_answered _ _ _ _ k (choice_of c.in_ok-judged.judged) _ _ _ _ within may is c.in_ok-judged.ensures.given

pub returns-clause-late : goal.returns-clause-late
returns-clause-late g c = λ k later reached may is.
    again_after_tick _ _ _ _ k (choice_of c.in_ok-judged.judged) _ _ _ _ later reached may is c.in_ok-judged.ensures.given

pub returns-clause-kept : goal.returns-clause-kept
returns-clause-kept g c = record { each = λ call k may is. comes_again _ _ call k c.now.ensures.board may is }
