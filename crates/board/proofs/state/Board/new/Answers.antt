use Rattle.std.proofs.Common.{ap, ◌∙◌}
use Rattle.desk_state.specs.Contents.{Held}
use Rattle.board.proofs.Anew.{new_board}
use Rattle.board.proofs.state.Board.new.Goals as goal

pub invariant_of-result : goal.invariant_of-result
invariant_of-result c =
    (new_board c.args.tables _ _ c.are_named.ensures (ap (λ (h : Held). h.state) (c.of-held.ensures ∙ c.new.ensures)) (ap (λ (h : Held). h.state) c.of-opening.ensures), tt)
