use Rattle.std.proofs.Common.{◌∙◌, ◌++◌, ap}
use Rattle.made_items.specs.Calls.{made_at}
use Rattle.desk.specs.Keeping.{answer_with, asked_with}
use Rattle.desk.specs.Saved.{stored_in}
use Rattle.desk.proofs.made.answer_made_call.Goals as goal

pub returns-clause-given : goal.returns-clause-given
returns-clause-given g c =
    let given = c.in_ok-answered.ensures.given in
    let is = c.in_ok-of.ensures in
    record {
      choice = given.choice;
      counted = given.counted;
      stored = given.asks.stored ∙ ap (λ call. stored_in (g.K.Keeper.seen c.args.desk.now.keeper).account ++ asked_with given.choice 1 c.args.desk.now.board.state made_at call) is;
      outcome = c.outcome_of.ensures ∙ given.is.its_outcome ∙ ap (λ call. (answer_with given.choice 1 c.args.desk.now.board.state made_at call).outcome) is;
      state = given.is.its_state ∙ ap (λ call. (answer_with given.choice 1 c.args.desk.now.board.state made_at call).state) is;
    }
