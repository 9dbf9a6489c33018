use Rattle.std.proofs.Common.{rules, subst, ap, ◌∙◌, IfOk, IfErr}
use Rattle.std.proofs.lemmas.Fn.{always_returns_same}
use Rattle.desk_io.specs.ById.{IsFoundAt, IsGapAt}
use Rattle.desk_io.proofs.ByIdLaws.{searched}
use Rattle.desk_io.proofs.by_id.ById.place.Goals as goal

-- the closure gives a value's id, and the slice is the vector's values
pub returns-clause-found : goal.returns-clause-found
returns-clause-found g c =
    let is = searched g.T.HasId.id_of c.args.id c.deref.result.now c.binary_search_by_key.result (rw c.deref.ensures.value c.self.invariant) c.binary_search_by_key.ensures.bound
    (c.binary_search_by_key.ensures.position g.T.HasId.id_of (always_returns_same _ _ _ (λ a r f called. search rules))) in
    subst (λ xs. IfOk c.binary_search_by_key.result (IsFoundAt g.T.HasId.id_of c.args.id xs)) (c.deref.ensures.value ∙ ap (λ s. s.list) c.self.view_is) is.0

pub returns-clause-absent : goal.returns-clause-absent
returns-clause-absent g c =
    let is = searched g.T.HasId.id_of c.args.id c.deref.result.now c.binary_search_by_key.result (rw c.deref.ensures.value c.self.invariant) c.binary_search_by_key.ensures.bound
    (c.binary_search_by_key.ensures.position g.T.HasId.id_of (always_returns_same _ _ _ (λ a r f called. search rules))) in
    subst (λ xs. IfErr c.binary_search_by_key.result (IsGapAt g.T.HasId.id_of c.args.id xs)) (c.deref.ensures.value ∙ ap (λ s. s.list) c.self.view_is) is.1
