use Rattle.std.proofs.Common.{ap, ◌∙◌}
use Rattle.std.specs.Map.{keys_of}
use Rattle.desk_io.proofs.SortedEdits.{keys_set, sorted_same, replaced_found, replaced_gap}
use Rattle.desk_io.proofs.vector.Sorted.replace.Goals as goal

pub invariant_of-self : goal.invariant_of-self
invariant_of-self g c = sorted_same g.K.Ord.cmp _ _ (keys_set _ c.in-Ok.i c.index_mut.result.now c.args.value c.index_mut.ensures.value) c.self.invariant

pub returns-in-Ok-clause-keys : goal.returns-in-Ok-clause-keys
returns-in-Ok-clause-keys g c = keys_set _ c.in-Ok.i c.index_mut.result.now c.args.value c.index_mut.ensures.value ∙ ap (λ s. keys_of s.entries) c.self.view_is

pub returns-in-Ok-clause-each : goal.returns-in-Ok-clause-each
returns-in-Ok-clause-each g c q =
    replaced_found g.K.Ord.cmp g.met.K.Ord.total c.args.key.now c.args.value _ _ c.in-Ok.i c.index_mut.result.now q (ap (λ s. s.entries) c.self.view_is) c.in-Ok.ensures.found c.index_mut.ensures.value

pub returns-in_default-clause-each : goal.returns-in_default-clause-each
returns-in_default-clause-each g c q =
    replaced_gap g.K.Ord.cmp g.met.K.Ord.total c.args.key.now c.args.value _ _ c.in_default.field-0 q (ap (λ s. s.entries) c.self.view_is) c.in_default.ensures.absent c.self.invariant
