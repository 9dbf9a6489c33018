use Rattle.std.proofs.Common.{◌∙◌, ap, List, ℕ}
use Rattle.std.proofs.lemmas.Result.{IfOk-weaker}
use Rattle.alert_judging.specs.Prospect.{changes_named}
use Rattle.alert_judging.proofs.Judged.{all_judged}
use Rattle.alert_judging.proofs.prospect.Prospect.all_changes.Goals as goal

pub returns : goal.returns
returns g c =
    let p = c.args.self.now in
    let ids = c.in_ok-ids in
    IfOk-weaker c.changes_named.result _ _ (λ v is. is
    ∙ ap (λ (xs : List ℕ). changes_named p xs) c.deref.ensures.value
    ∙ all_judged p ids.ids.items ids.ensures.rising ids.ensures.there c.requires c.holds.ensures) c.changes_named.ensures.changes
