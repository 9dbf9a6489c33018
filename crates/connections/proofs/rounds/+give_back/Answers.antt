use Rattle.std.proofs.Common.{rules, ◌≡◌, []}
use Rattle.connections.proofs.RoundLaws.{given_more, given_none}
use Rattle.connections.proofs.rounds.+give_back.Goals as goal

pub returns-in_default-clause-back : goal.returns-in_default-clause-back
returns-in_default-clause-back g t c =
    let none : c.args.done.now.items ≡ [] = search rules in λ vs is. given_none _ _ c.args.done.now.items vs none is

pub returns-clause-back : goal.returns-clause-back
returns-clause-back g t c = λ vs is.
    given_more _ _ _ _ _ _ c.args.done.now.items c.pop.new.self.items c.in-Some.visited vs c.in-Some.ensures.items is c.give_one-next.ensures.given c.give_back.ensures.back
