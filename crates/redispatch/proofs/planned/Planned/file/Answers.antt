use Rattle.redispatch.proofs.FiledLaws.{formed_once_filed}
use Rattle.redispatch.proofs.planned.Planned.file.Goals as goal

pub returns-clause-forms : goal.returns-clause-forms
returns-clause-forms c = λ one all. formed_once_filed _ _ _ c.in_ok-put.ensures.ok one all
