use Rattle.std.proofs.Common.{arith}
use Rattle.std.proofs.lemmas.Result.{IfOk-weaker}
use Rattle.release_text.proofs.TextLaws.{tells}
use Rattle.release_text.proofs.written.text_of.Goals as goal

pub returns-clause-tells : goal.returns-clause-tells
returns-clause-tells c =
    IfOk-weaker c.text_in_turn.result _ _ (λ text is. tells c.args.plan.now c.args.revision c.args.attached.now text (omega (arith, c.ranges.revision)) is) c.text_in_turn.ensures
