use Rattle.desk.proofs.InPart.{none_given, on_err}
use Rattle.scripts.proofs.shifts.answer_line.Goals as goal

pub returns-in_err-routed-clause-err : goal.returns-in_err-routed-clause-err
returns-in_err-routed-clause-err g c = on_err c.from_residual.result (none_given 1 _ _ _)

pub returns-in_err-routed-clause-hears : goal.returns-in_err-routed-clause-hears
returns-in_err-routed-clause-hears g c = λ bells some. some
