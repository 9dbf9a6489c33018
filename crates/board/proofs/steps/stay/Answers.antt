use Rattle.std.proofs.Common.{refl}
use Rattle.board.proofs.Kept.{stay_keeps}
use Rattle.board.proofs.steps.stay.Goals as goal

pub returns-clause-rows : goal.returns-clause-rows
returns-clause-rows c = λ s. stay_keeps _ s refl c.new-2.ensures.items
