use Rattle.std.proofs.Common.{◌∙◌, ap}
use Rattle.std.specs.BTreeMap.{is_at}
use Rattle.desk_io.proofs.KeyLaws.{held_found, held_without}
use Rattle.desk_io.proofs.keys.Keys.take.Goals as goal

pub returns-clause-value : goal.returns-clause-value
returns-clause-value g c =
    c.is_some.ensures ∙ held_found (is_at (g.K.Ord.cmp c.args.key.now)) c.self.inside.held.entries c.args.self.now.keys c.remove.result (ap (λ s. s.keys) c.self.view_is) c.remove.ensures.value

pub returns-clause-each : goal.returns-clause-each
returns-clause-each g c q =
    held_without (is_at (g.K.Ord.cmp q)) _ c.self.inside.held.entries c.remove.new.self.entries c.args.self.now.keys (ap (λ s. s.keys) c.self.view_is) (c.remove.ensures.each q)
