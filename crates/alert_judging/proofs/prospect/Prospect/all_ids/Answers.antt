use Rattle.std.proofs.Common.{◌++◌, ◌∙◌, ap, List, map}
use Rattle.plan.specs.declared.release.Release.{Release}
use Rattle.alert_judging.proofs.Ids.{there_added}
use Rattle.alert_judging.proofs.prospect.Prospect.all_ids.Goals as goal

pub returns-clause-there : goal.returns-clause-there
returns-clause-there c =
    there_added c.args.self.now.content.now.state c.args.self.now.effect.now c.new-ids.result.items c.push_all.new.ids.items c.push_by_release.new.ids.items c.sort_once.new.ids.items
    c.new-ids.ensures.items
    (c.in_ok-push_all.ensures ∙ ap (λ (rs : List Release). c.new-ids.result.items ++ map (λ r. r.id) rs) (c.as_slice.ensures.value ∙ c.releases.ensures.list))
    c.in_ok-push_by_release.ensures c.sort_once.ensures.same
