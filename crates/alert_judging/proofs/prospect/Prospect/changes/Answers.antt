use Rattle.std.proofs.Common.{◌∙◌, ap, arith, List, ℕ}
use Rattle.std.proofs.lemmas.Result.{IfOk-weaker}
use Rattle.alert_judging.specs.Prospect.{changes_named, count_named}
use Rattle.alert_judging.proofs.Judged.{touched_judged, touched_counted}
use Rattle.alert_judging.proofs.prospect.Prospect.changes.Goals as goal

pub returns-clause-value : goal.returns-clause-value
returns-clause-value g c =
    let p = c.args.self.now in
    let ids = c.in_ok-ids in
    IfOk-weaker c.changes_named.result _ _ (λ v is. is
    ∙ ap (λ (xs : List ℕ). changes_named p xs) c.deref.ensures.value
    ∙ touched_judged p ids.ids.items ids.ensures.rising ids.ensures.touched c.requires.sound c.requires.fits c.holds.ensures) c.changes_named.ensures.changes

pub returns-clause-steps : goal.returns-clause-steps
returns-clause-steps g c =
    let p = c.args.self.now in
    let ids = c.in_ok-ids in
    let few = c.changes_named.ensures.steps in
    let same = ap (λ (xs : List ℕ). count_named p xs) c.deref.ensures.value ∙ touched_counted p ids.ids.items ids.ensures.rising ids.ensures.touched c.requires.fits c.holds.ensures in
    omega (arith, few, same)
