use Rattle.std.proofs.Common.{rules, arith, ◌≡◌, ◌<◌, ◌≤◌, inl, inr, length, List, [], ◌∷◌, get_or, refl, sym, ap}
use Rattle.sqlite_keeper.specs.Transactions.{IsClean}
use Rattle.sqlite_keeper.proofs.table.make_table.Goals as goal

none : {A : Type 0} (xs : List A) → length xs < 1 → xs ≡ []
none [] few = refl
none (x ∷ xs) few = absurd (omega (arith, few))

single : {A : Type 0} (xs : List A) (x : A) → 1 ≤ length xs → length xs < 2 → x ≡ get_or xs 0 x → xs ≡ x ∷ []
single [] x some few is = absurd (omega (arith, some))
single (y ∷ []) x some few is = ap (λ z. z ∷ []) (sym is)
single (y ∷ z ∷ xs) x some few is = absurd (omega (arith, few))

pub returns-in-empty-clause-has : goal.returns-in-empty-clause-has
returns-in-empty-clause-has g c clean =
    let early : IsClean g.S.Store c.query_all.new.self = omega (arith, c.execute.ensures.survives.clean) in
    let empty : c.in_ok-found.found.items ≡ [] = search (rules, none) in
    (c.query_all.new.self, c.in_ok-found.found.items, c.in_ok-found.ensures.ok early, inr (empty, _, c.in_ok-execute-in-empty.ensures.runs clean))

pub returns-in-len1-clause-has : goal.returns-in-len1-clause-has
returns-in-len1-clause-has g c clean =
    let one : c.in_ok-found.found.items ≡ c.line-item.result ∷ [] = search (rules, single) in
    (c.query_all.new.self, c.in_ok-found.found.items, c.in_ok-found.ensures.ok clean, inl (c.line-item.result, one, c.is_text.ensures c.if-is_text.true, refl))
