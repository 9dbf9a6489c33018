use Rattle.std.proofs.Common.{◌∙◌, ap}
use Rattle.std.proofs.lemmas.Result.{IfOk-weaker}
use Rattle.desk.specs.Made.{made_text}
use Rattle.desk.proofs.InPart.{on_err}
use Rattle.desk.proofs.MadeLaws.{is_made, made_whole}
use Rattle.desk.proofs.made.make_from.Goals as goal

pub returns-clause-made : goal.returns-clause-made
returns-clause-made g c =
    IfOk-weaker c.text_of_made.result _ _ (λ v is.
    is_made _ _ _ c.args.number c.args.count _ c.in_ok-outcomes.outcomes.items _ c.in_ok-outcomes.ensures.given
    (is ∙ ap (λ made. made_text c.args.number c.args.count made c.outcomes_made.new.desk.board.state) c.deref.ensures.value))
    c.text_of_made.ensures

pub returns-clause-err : goal.returns-clause-err
returns-clause-err g c = on_err c.text_of_made.result (made_whole _ _ _ c.args.number c.args.count _ c.in_ok-outcomes.outcomes.items c.in_ok-outcomes.ensures.given)
