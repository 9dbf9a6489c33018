use Rattle.std.proofs.Common.{◌∙◌, ap}
use Rattle.std.proofs.lemmas.Result.{IfOk-weaker}
use Rattle.row_changes.proofs.RestoringLaws.{held_state, made_holds}
use Rattle.row_changes.proofs.restoring.content_of.Goals as goal

pub content_with-requires-clause-holds : goal.content_with-requires-clause-holds
content_with-requires-clause-holds c = made_holds _ _ c.args.records.items c.in_ok-held.held c.are_named.ensures c.requires c.in_ok-held.ensures

pub content_with-requires-clause-settings : goal.content_with-requires-clause-settings
content_with-requires-clause-settings c = ap (λ r. r.settings) c.in_ok-held.ensures.releases ∙ c.settings.ensures.value

pub returns-clause-state : goal.returns-clause-state
returns-clause-state c =
    IfOk-weaker c.content_with.result _ _ (λ content is. is ∙ held_state _ _ c.args.records.items c.in_ok-held.held c.in_ok-held.ensures) c.content_with.ensures.state
