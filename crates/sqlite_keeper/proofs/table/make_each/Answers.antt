use Rattle.std.proofs.Common.{rules, arith}
use Rattle.sqlite.specs.Held.{state}
use Rattle.sqlite.proofs.StateLemmas.{survives_then}
use Rattle.sqlite_keeper.specs.Transactions.{IsClean, MakesEach}
use Rattle.sqlite_keeper.proofs.StepLaws.{more_made, next_stops, stays_inside}
use Rattle.sqlite_keeper.proofs.table.make_each.Goals as goal

pub loop-change-preserved : goal.loop-change-preserved
loop-change-preserved g c =
    let now = c.loop-change.changing.conn.now in
    let mid = c.make.new.changing.conn.now in
    let i = c.loop-change.invariant in
    let one = c.in_ok-make.ensures in
    let early = λ (clean : IsClean g.S.Store mid). let it : IsClean g.S.Store now = omega (arith, clean, one.survives.clean) in it in
    record {
      same_reference = search rules;
      survives = survives_then _ (state g.S.Store now) (state g.S.Store mid) _ _ _ (λ _ db none. none) (λ _ db none. none) i.survives one.survives;
      inside = λ clean inside. stays_inside g.S.Store c.change-item.result now mid (one.made clean (i.inside (early clean) inside));
      made = λ clean inside. more_made g.S.Store c.args.changes.now c.loop-change.change-index c.change-item.result now mid (MakesEach g.S.Store c.args.changes.now c.args.changing.now.conn.now)
          (omega arith) c.change-item.is (one.made clean (i.inside (early clean) inside)) (i.made (early clean) inside);
    }

pub returns-in_err-make-clause-made : goal.returns-in_err-make-clause-made
returns-in_err-make-clause-made g c clean inside =
    let now = c.loop-change.changing.conn.now in
    let i = c.loop-change.invariant in
    let one = c.in_err-make.ensures in
    let early : IsClean g.S.Store now = omega (arith, clean, one.survives.clean) in
    next_stops g.S.Store c.args.changes.now c.loop-change.change-index c.change-item.result now _ c.from_residual.result _ (MakesEach g.S.Store c.args.changes.now c.args.changing.now.conn.now)
    (omega arith) c.change-item.is c.from_residual.ensures.0 c.from_residual.ensures.1 (one.made clean (i.inside early inside)) (i.made early inside)
