use Rattle.std.proofs.Common.{rules, subst, List, ℕ, nat_cmp}
use Rattle.std.specs.Cmp.Lexicographic.{slice_cmp}
use Rattle.std.specs.List.Sorted.{IsPermutation, IsStableByKey}
use Rattle.std.proofs.lemmas.Fn.{always_returns_same}
use Rattle.ops_tables.specs.Order.{name_at}
use Rattle.ops_tables.proofs.Orders.{is_order}
use Rattle.ops_tables.proofs.order.order_of.Goals as goal

pub returns : goal.returns
returns g c =
    let name = λ (place : ℕ). name_at g.row.N g.R.Row.name c.args.rows.now place in
    let order = c.sort_by_key.new.self.items in
    is_order g.row.N g.R.Row.name c.args.rows.now order
    (subst (λ (xs : List ℕ). IsPermutation xs order) c.in_ok-order.ensures c.in_ok-sort_by_key.ensures.permutation)
    (c.in_ok-sort_by_key.ensures.sorted name (always_returns_same _ _ _ (λ a r f k. search rules)))
    (subst (λ (xs : List ℕ). IsStableByKey name (slice_cmp nat_cmp) xs order) c.in_ok-order.ensures (c.in_ok-sort_by_key.ensures.stable name (always_returns_same _ _ _ (λ a r f k. search rules))))
