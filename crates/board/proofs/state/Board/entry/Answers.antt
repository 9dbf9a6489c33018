use Rattle.std.proofs.Common.{List, ap, ◌∙◌}
use Rattle.desk_state.specs.Contents.{Held}
use Rattle.board.proofs.Kept.{entry_form}
use Rattle.board.proofs.state.Board.entry.Goals as goal

pub returns-clause-form : goal.returns-clause-form
returns-clause-form c =
    entry_form c.history.result.now.list _ c.args.i c.get.result.now (c.history.ensures.list ∙ ap (λ (h : Held). h.state.entries) c.content.ensures.value)
    c.self.invariant.0.kept.forms c.get.ensures
