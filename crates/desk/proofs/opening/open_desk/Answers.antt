use Rattle.desk_io.specs.Health.{HasFailed}
use Rattle.desk.proofs.Opened.{open_in_vain, opened_asks, opened_failed, opens_on, opens_over}
use Rattle.desk.proofs.opening.open_desk.Goals as goal

pub returns-in-Ok-clause-asked : goal.returns-in-Ok-clause-asked
returns-in-Ok-clause-asked g c =
    opened_asks (λ d. (g.K.Keeper.seen d.keeper).commits) c.open_over.result _ _ _ _ _ _ c.in-Ok.ensures.loaded c.in-Ok.ensures.none c.open_over.ensures.asked

pub returns-in-Ok-clause-failed : goal.returns-in-Ok-clause-failed
returns-in-Ok-clause-failed g c =
    opened_failed (λ f. (g.K.Keeper.seen f.keeper).commits) c.open_over.result _ _ _ _ _ _ c.in-Ok.ensures.loaded c.in-Ok.ensures.none c.open_over.ensures.failed

pub returns-in-Ok-clause-kept : goal.returns-in-Ok-clause-kept
returns-in-Ok-clause-kept g c =
    opens_over (λ d. d.board) (λ d. g.K.Keeper.seen d.keeper) c.open_over.result _ _ _ _ _ c.in-Ok.ensures.entered c.open_over.ensures.board c.open_over.ensures.account c.open_over.ensures.kept

pub returns-in-Ok-clause-unentered : goal.returns-in-Ok-clause-unentered
returns-in-Ok-clause-unentered g c =
    open_in_vain (λ f. g.K.Keeper.seen f.keeper) (λ f. f.why) c.open_over.result _ _ _ _ _ (λ f. HasFailed _ (g.K.Keeper.seen f.keeper).health) c.in-Ok.ensures.entered c.open_over.ensures.why
    c.open_over.ensures.unsaved

pub returns-in-Ok-clause-on : goal.returns-in-Ok-clause-on
returns-in-Ok-clause-on g c = opens_on (λ d. g.K.Keeper.seen d.keeper) (λ f. g.K.Keeper.seen f.keeper) c.open_over.result _ _ c.in-Ok.ensures.on c.open_over.ensures.on
