use Rattle.std.proofs.Common.{◌≡◌, sym, subst, Option, None, ℕ}
use Rattle.desk_state.specs.Touched.{by_time}
use Rattle.release_index.specs.Touched.{held_where}
use Rattle.alert_judging.specs.Touching.{Adds}
use Rattle.alert_judging.proofs.Ids.{none_added}
use Rattle.alert_judging.proofs.prospect.Prospect.push_by_time.Goals as goal

pub returns-in-None : goal.returns-in-None
returns-in-None c =
    let p = c.args.self.now in
    let s = p.content.now.state in
    let ids = c.args.ids.now.items in
    let is : p.effect.now.moment ≡ None = cc in
    subst (λ (o : Option ℕ). Adds (λ id. held_where (by_time o s.tables.settings s.moment) id s.releases) ids ids) (sym is) (none_added ids s.releases)
