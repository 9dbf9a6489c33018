use Rattle.std.proofs.Common.{rules, subst, ap, ◌∙◌, IfOk, IfErr}
use Rattle.std.proofs.lemmas.Fn.{always_returns_same}
use Rattle.desk_io.specs.Sorted.{IsFoundAt, IsGapAt}
use Rattle.desk_io.proofs.SortedLaws.{searched}
use Rattle.desk_io.proofs.vector.Sorted.place.Goals as goal

-- the closure compares an entry's key, and the slice is the vector's entries
pub returns-clause-found : goal.returns-clause-found
returns-clause-found g c =
    let facts = c.binary_search_by.ensures in
    let by_key = facts.position (λ e. g.K.Ord.cmp e.0 c.args.key.now) (always_returns_same _ _ _ (λ a r f called. search rules)) in
    let is = searched g.K.Ord.cmp g.met.K.Ord.total c.args.key.now _ _ (rw c.deref.ensures.value c.self.invariant) facts.bound by_key in
    subst (λ es. IfOk c.binary_search_by.result (IsFoundAt g.K.Ord.cmp c.args.key.now es)) (c.deref.ensures.value ∙ ap (λ s. s.entries) c.self.view_is) is.0

pub returns-clause-absent : goal.returns-clause-absent
returns-clause-absent g c =
    let facts = c.binary_search_by.ensures in
    let by_key = facts.position (λ e. g.K.Ord.cmp e.0 c.args.key.now) (always_returns_same _ _ _ (λ a r f called. search rules)) in
    let is = searched g.K.Ord.cmp g.met.K.Ord.total c.args.key.now _ _ (rw c.deref.ensures.value c.self.invariant) facts.bound by_key in
    subst (λ es. IfErr c.binary_search_by.result (IsGapAt g.K.Ord.cmp c.args.key.now es)) (c.deref.ensures.value ∙ ap (λ s. s.entries) c.self.view_is) is.1
