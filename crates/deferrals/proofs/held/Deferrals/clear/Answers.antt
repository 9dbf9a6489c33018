use Rattle.std.proofs.Common.{◌≡◌, ◌<◌, ◌∙◌, sym, subst, arith, length, position, List, Some}
use Rattle.std.specs.List.{remove}
use Rattle.deferrals.specs.declared.items.Deferral.{Deferral}
use Rattle.deferrals.specs.Held.{has_id, without}
use Rattle.deferrals.proofs.TailLaws.{keys_taken, rising_removed}
use Rattle.deferrals.proofs.held.Deferrals.clear.Goals as goal

pub invariant_of-self : goal.invariant_of-self
invariant_of-self c =
    let items = c.remove-gone.ensures.items in
    let len = c.remove-gone.ensures.len in
    let capacity = c.remove-gone.ensures.capacity in
    let few = c.self.invariant.0 in
    let kept = c.take.ensures.room in
    let within = subst (λ (ds : List Deferral). c.in-Some.place < length ds) c.deref.ensures.value c.in-Some.ensures.found.0 in
    let gone = subst (λ (ds : List Deferral). without c.args.id ds ≡ remove ds c.in-Some.place) c.deref.ensures.value c.in-Some.ensures.found.1 in
    let stands = subst (λ (ds : List Deferral). position (has_id c.args.id) ds ≡ Some c.in-Some.place) c.deref.ensures.value (sym c.in-Some.ensures.place) in (
      omega (arith, few, len),
      rising_removed c.self.inside.held.items c.remove-gone.new.self.items c.in-Some.place c.self.invariant.1 within items,
      keys_taken c.self.inside.by_tail.keys c.take.new.self.keys c.self.inside.held.items c.remove-gone.new.self.items c.args.id c.in-Some.place c.remove-gone.result c.key_of.result
          c.self.invariant.1 stands (sym c.remove-gone.ensures.value) c.key_of.ensures c.self.invariant.2 c.take.ensures.each (items ∙ sym gone),
      λ e. let old = c.self.invariant.3 e in omega (arith, old, kept),
      λ e. let old = c.self.invariant.4 e in omega (arith, old, len, capacity),
    )
