use Rattle.std.proofs.Common.{◌≡◌, sym, subst}
use Rattle.desk_state.specs.Touched.{by_deferral}
use Rattle.desk_state.specs.declared.effect.OnDeferrals.{OnDeferrals}
use Rattle.desk_state.specs.declared.effect.OnDeferrals.TheVariants as on_deferrals
use Rattle.release_index.specs.Touched.{held_where}
use Rattle.alert_judging.specs.Touching.{Adds}
use Rattle.alert_judging.proofs.Ids.{none_added}
use Rattle.alert_judging.proofs.prospect.Prospect.push_by_deferral.Goals as goal

pub returns-in-Nothing : goal.returns-in-Nothing
returns-in-Nothing c =
    let p = c.args.self.now in
    let s = p.content.now.state in
    let ids = c.args.ids.now.items in
    let is : p.effect.now.on_deferrals ≡ on_deferrals.Nothing = cc in
    subst (λ (o : OnDeferrals). Adds (λ id. held_where (by_deferral o s.deferrals) id s.releases) ids ids) (sym is) (none_added ids s.releases)
