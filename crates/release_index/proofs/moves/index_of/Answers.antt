use Rattle.std.proofs.Common.{ap, ◌∙◌}
use Rattle.std.proofs.lemmas.Result.{IfOk-weaker}
use Rattle.facts.specs.Index.{key_cmp}
use Rattle.desk_io.specs.Keys.{is_held}
use Rattle.release_index.proofs.EntryLaws.{set_is_index}
use Rattle.release_index.proofs.moves.index_of.Goals as goal

pub returns : goal.returns
returns c =
    IfOk-weaker c.set_of.result _ _
    (λ set each. set_is_index c.args.by c.args.settings set.keys c.in_ok-keys.keys.items c.args.list.now c.in_ok-keys.ensures (λ q. each q ∙ ap (is_held key_cmp q) c.as_slice.ensures.value))
    c.set_of.ensures
