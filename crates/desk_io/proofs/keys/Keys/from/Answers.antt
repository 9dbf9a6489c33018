use Rattle.std.proofs.Common.{◌∙◌, ap, filter}
use Rattle.std.specs.Map.{keys_of}
use Rattle.std.specs.Ordering.{is_ge}
use Rattle.desk_io.proofs.KeyLaws.{keys_passing}
use Rattle.desk_io.proofs.keys.Keys.from.Goals as goal

pub returns-clause-value : goal.returns-clause-value
returns-clause-value g c =
    let from = λ (k : _). is_ge (g.K.Ord.cmp k c.args.low.now) in
    ap keys_of c.from.ensures.value ∙ keys_passing from c.self.inside.held.entries ∙ ap (λ s. filter from s.keys) c.self.view_is
