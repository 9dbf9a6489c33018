use Rattle.std.proofs.Common.{◌∙◌, ap, filter}
use Rattle.std.specs.Map.{keys_of}
use Rattle.desk_io.proofs.KeyLaws.{keys_passing}
use Rattle.desk_io.proofs.keys.Keys.retain.Goals as goal

pub returns-clause-keys : goal.returns-clause-keys
returns-clause-keys g c p computes =
    ap keys_of (c.retain.ensures.entries (λ e. p e.0) computes) ∙ keys_passing p c.self.inside.held.entries ∙ ap (λ s. filter p s.keys) c.self.view_is
