use Rattle.relief.proofs.HeardLaws.{heard_none}
use Rattle.relief.proofs.seated.Seated.new.Goals as goal

pub returns-clause-since : goal.returns-clause-since
returns-clause-since g c = heard_none _
