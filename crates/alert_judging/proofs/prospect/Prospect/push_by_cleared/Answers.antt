use Rattle.std.proofs.Common.{◌≡◌, sym, subst, Option, None}
use Rattle.std.specs.Option.{option_copied}
use Rattle.deferrals.specs.declared.items.Deferral.{Deferral}
use Rattle.desk_state.specs.Touched.{by_cleared}
use Rattle.release_index.specs.Touched.{held_where}
use Rattle.alert_judging.specs.Touching.{Adds}
use Rattle.alert_judging.proofs.Ids.{none_added}
use Rattle.alert_judging.proofs.prospect.Prospect.push_by_cleared.Goals as goal

pub returns-in-None : goal.returns-in-None
returns-in-None c =
    let p = c.args.self.now in
    let s = p.content.now.state in
    let ids = c.args.ids.now.items in
    let is : option_copied c.args.cleared ≡ None = cc in
    subst (λ (o : Option Deferral). Adds (λ id. held_where (by_cleared o) id s.releases) ids ids) (sym is) (none_added ids s.releases)
