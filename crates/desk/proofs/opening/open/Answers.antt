use Rattle.desk_io.specs.Health.{HasFailed}
use Rattle.desk.proofs.LeftLaws.{opens_left}
use Rattle.desk.proofs.opening.open.Goals as goal

pub returns-clause-left : goal.returns-clause-left
returns-clause-left g c = λ s left tells.
    opens_left _ _ (λ d. d.board) (λ f. HasFailed (g.K.Keeper.seen c.args.keeper).health (g.K.Keeper.seen f.keeper).health) (λ f. f.why) c.open_desk.result s left tells c.open_desk.ensures.opened
    c.open_desk.ensures.why
