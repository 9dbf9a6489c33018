use Rattle.std.proofs.Common.{◌≡◌, drop, Result, IsTrue}
use Rattle.sqlite.specs.Held.{Held, state}
use Rattle.sqlite.specs.State.{Survives}
use Rattle.sqlite_keeper.specs.declared.trouble.Trouble.{Trouble}
use Rattle.sqlite_keeper.specs.Transactions.{IsClean, MakesEach}
use Rattle.sqlite_keeper.proofs.table.make_each.Given as goal

abbrev pub invariant-loop-change : goal.invariant-loop-change
invariant-loop-change g l =
    let old = l.fn.changing.conn.now in
    let now = l.changing.conn.now in
    record {
      same_reference : l.changing.conn.ghost_name ≡ l.fn.changing.conn.ghost_name;
      survives : Survives (state g.S.Store old) (state g.S.Store now) (λ _. ⊥);
      inside : IsClean g.S.Store now → IsTrue old.in_transaction → IsTrue now.in_transaction;
      made : IsClean g.S.Store now → IsTrue old.in_transaction → (new : Held g.row.S.Denot) (r : Result (Unit {0}) Trouble)
          → MakesEach g.S.Store (drop l.change-index l.changes) now new r → MakesEach g.S.Store l.changes old new r;
    }
