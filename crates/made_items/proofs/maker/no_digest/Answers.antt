use Rattle.made_items.proofs.FormLaws.{zeros}
use Rattle.made_items.proofs.maker.no_digest.Goals as goal

pub returns-clause-form : goal.returns-clause-form
returns-clause-form c = zeros
