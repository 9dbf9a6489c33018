use Rattle.std.proofs.Common.{◌∙◌, ap}
use Rattle.std.specs.BTreeMap.{is_at}
use Rattle.desk_io.proofs.KeyLaws.{copied_some, held_found}
use Rattle.desk_io.proofs.keys.Keys.has.Goals as goal

pub returns : goal.returns
returns g c =
    c.is_some.ensures ∙ copied_some c.get.result
    ∙ held_found (is_at (g.K.Ord.cmp c.args.key.now)) c.self.inside.held.entries c.args.self.now.keys _ (ap (λ s. s.keys) c.self.view_is) c.get.ensures
