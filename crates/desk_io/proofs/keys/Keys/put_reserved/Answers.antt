use Rattle.std.proofs.Common.{ap}
use Rattle.std.specs.BTreeMap.{is_at}
use Rattle.desk_io.proofs.KeyLaws.{held_with}
use Rattle.desk_io.proofs.keys.Keys.put_reserved.Goals as goal

pub returns-clause-each : goal.returns-clause-each
returns-clause-each g c q =
    held_with (is_at (g.K.Ord.cmp q)) _ tt c.self.inside.held.entries c.put_reserved.new.self.entries c.args.self.now.keys (ap (λ s. s.keys) c.self.view_is) (c.put_reserved.ensures.each q)
