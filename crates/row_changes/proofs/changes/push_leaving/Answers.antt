use Rattle.std.proofs.Common.{◌∙◌, ap, map}
use Rattle.std.proofs.lemmas.Result.{on_ok_weaker}
use Rattle.facts.specs.Swept.{leaving}
use Rattle.row_changes.proofs.Pushed.{removed_ids}
use Rattle.row_changes.proofs.changes.push_leaving.Goals as goal

pub returns : goal.returns
returns c =
    let a = c.args in
    let gone = leaving a.sweep.now.before a.sweep.now.attached a.reports.now.reports in
    on_ok_weaker c.push_removals.result
    (λ pushed. removed_ids a.changes.now.items c.push_removals.new.changes.items c.as_slice-2.result.now gone pushed
    (c.as_slice-2.ensures ∙ c.in_ok-ids.ensures ∙ ap (λ attached. map (λ r. r.id) (leaving a.sweep.now.before attached a.reports.now.reports)) c.as_slice.ensures)) c.push_removals.ensures
