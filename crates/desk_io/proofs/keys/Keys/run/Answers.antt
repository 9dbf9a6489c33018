use Rattle.std.proofs.Common.{◌∙◌, ap, filter}
use Rattle.std.specs.Map.{keys_of}
use Rattle.desk_io.specs.Sorted.{within}
use Rattle.desk_io.proofs.KeyLaws.{keys_passing}
use Rattle.desk_io.proofs.keys.Keys.run.Goals as goal

pub returns-clause-value : goal.returns-clause-value
returns-clause-value g c =
    let run = within g.K.Ord.cmp c.args.low.now c.args.high.now in
    ap keys_of c.run.ensures.value ∙ keys_passing run c.self.inside.held.entries ∙ ap (λ s. filter run s.keys) c.self.view_is
