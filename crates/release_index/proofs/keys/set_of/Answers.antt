use Rattle.std.proofs.Common.{ap, ◌∙◌}
use Rattle.facts.specs.Index.{key_cmp}
use Rattle.desk_io.specs.Keys.{is_held}
use Rattle.release_index.proofs.keys.set_of.Goals as goal

pub returns : goal.returns
returns c = λ q. c.from_vec.ensures q ∙ ap (is_held key_cmp q) c.in_ok-entries.ensures
