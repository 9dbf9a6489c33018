use Rattle.std.proofs.Common.{ap, refl, arith}
use Rattle.desk_io.proofs.SortedEdits.{set_next, sorted_same, all_set_keys, all_set_values}
use Rattle.desk_io.proofs.vector.Sorted.set_all.Goals as goal

pub loop-place-preserved : goal.loop-place-preserved
loop-place-preserved g c = set_next c.args.value c.loop-place.place c.self.inside.held.items c.loop-place.self-inside.held.items c.index_mut.result.now c.loop-place.invariant (omega arith) c.index_mut.ensures.value

pub invariant_of-self : goal.invariant_of-self
invariant_of-self g c =
    sorted_same g.K.Ord.cmp c.self.inside.held.items c.loop-place.self-inside.held.items
    (all_set_keys c.args.value c.loop-place.place c.self.inside.held.items c.self.inside.held.items c.loop-place.self-inside.held.items refl c.loop-place.invariant) c.self.invariant

pub returns-clause-keys : goal.returns-clause-keys
returns-clause-keys g c =
    all_set_keys c.args.value c.loop-place.place c.self.inside.held.items c.args.self.now.entries c.loop-place.self-inside.held.items (ap (λ s. s.entries) c.self.view_is) c.loop-place.invariant

pub returns-clause-each : goal.returns-clause-each
returns-clause-each g c q =
    all_set_values c.args.value _ c.loop-place.place c.self.inside.held.items c.args.self.now.entries c.loop-place.self-inside.held.items (ap (λ s. s.entries) c.self.view_is) c.loop-place.invariant (omega arith)
