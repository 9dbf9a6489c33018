use Rattle.desk.proofs.InPart.{none_given, on_err}
use Rattle.desk.proofs.run.text_from.Goals as goal

pub returns-in_err-lines-clause-err : goal.returns-in_err-lines-clause-err
returns-in_err-lines-clause-err g c = on_err c.from_residual.result (none_given 1 _ _ _)
