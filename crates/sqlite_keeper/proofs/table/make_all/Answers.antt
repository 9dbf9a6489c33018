use Rattle.std.proofs.Common.{rules, arith, ◌≡◌, false, Ok, sym, subst}
use Rattle.sqlite.specs.Held.{state}
use Rattle.sqlite.specs.State.{Survives}
use Rattle.sqlite_keeper.specs.Transactions.{IsClean, Changes, IsAfter}
use Rattle.sqlite_keeper.proofs.StepLaws.{changes_made, changes_stopped, changes_uncommitted, crash_after}
use Rattle.sqlite_keeper.proofs.table.make_all.Goals as goal

pub returns-in_err-make_each-clause-made : goal.returns-in_err-make_each-clause-made
returns-in_err-make_each-clause-made g c clean =
    let last = c.make_each.new.changing.conn.now in
    let end = c.drop-changing.new.self.0 in
    let same : end ≡ c.conn-1.given.0 = search rules in
    let outside : c.args.conn.now.in_transaction ≡ false = search rules in
    let late = subst (IsClean g.S.Store) (sym same) clean in
    let early : IsClean g.S.Store last = omega (arith, late, c.drop-changing.ensures.survives.clean) in
    subst (λ h. Changes g.S.Store c.args.changes.now c.args.conn.now h c.from_residual.result) same
    (changes_stopped g.S.Store c.args.changes.now c.args.conn.now c.transaction-changing.result.conn.now last end outside c.transaction-changing.ensures.begun
    c.from_residual.result _ c.from_residual.ensures.0 c.from_residual.ensures.1 (c.in_err-make_each.ensures.made early) (c.drop-changing.ensures.undone late))

pub returns-in_err-commit-clause-made : goal.returns-in_err-commit-clause-made
returns-in_err-commit-clause-made g c clean =
    let last = c.make_each.new.changing.conn.now in
    let end = c.commit.new.self.0 in
    let same : end ≡ c.conn-2-1.given.0 = search rules in
    let outside : c.args.conn.now.in_transaction ≡ false = search rules in
    let late = subst (IsClean g.S.Store) (sym same) clean in
    let early : IsClean g.S.Store last = omega (arith, late, c.commit.ensures.survives.clean) in
    let r = c.from_residual-in_err-commit in
    subst (λ h. Changes g.S.Store c.args.changes.now c.args.conn.now h r.result) same
    (changes_uncommitted g.S.Store c.args.changes.now c.args.conn.now c.transaction-changing.result.conn.now last end outside c.transaction-changing.ensures.begun
    r.result _ r.ensures.0 r.ensures.1 (c.in_ok-make_each.ensures.made early) (c.in_err-commit.ensures.err late))

pub returns-clause-made : goal.returns-clause-made
returns-clause-made g c clean =
    let last = c.make_each.new.changing.conn.now in
    let end = c.commit.new.self.0 in
    let same : end ≡ c.conn-2-1.given.0 = search rules in
    let outside : c.args.conn.now.in_transaction ≡ false = search rules in
    let late = subst (IsClean g.S.Store) (sym same) clean in
    let early : IsClean g.S.Store last = omega (arith, late, c.commit.ensures.survives.clean) in
    let done = c.in_ok-commit.ensures.ok late in
    subst (λ h. Changes g.S.Store c.args.changes.now c.args.conn.now h (Ok tt)) same
    (changes_made g.S.Store c.args.changes.now c.args.conn.now c.transaction-changing.result.conn.now last end outside c.transaction-changing.ensures.begun
    (c.in_ok-make_each.ensures.made early) (done.1, done.2, done.3))

pub returns-clause-crash : goal.returns-clause-crash
returns-clause-crash g c =
    let same : c.commit.new.self.0 ≡ c.conn-2-1.given.0 = search rules in
    let outside : c.args.conn.now.in_transaction ≡ false = search rules in
    subst (λ h. Survives (state g.S.Store c.args.conn.now) (state g.S.Store h) (IsAfter g.S.Store c.args.changes.now c.args.conn.now)) same
    (crash_after g.S.Store c.args.changes.now c.args.conn.now c.transaction-changing.result.conn.now c.make_each.new.changing.conn.now c.commit.new.self.0 outside
    c.transaction-changing.ensures.begun c.make_each.ensures.survives c.in_ok-make_each.ensures.made c.commit.ensures.survives)

pub returns-in_err-commit-clause-crash : goal.returns-in_err-commit-clause-crash
returns-in_err-commit-clause-crash g c =
    let same : c.commit.new.self.0 ≡ c.conn-2-1.given.0 = search rules in
    let outside : c.args.conn.now.in_transaction ≡ false = search rules in
    subst (λ h. Survives (state g.S.Store c.args.conn.now) (state g.S.Store h) (IsAfter g.S.Store c.args.changes.now c.args.conn.now)) same
    (crash_after g.S.Store c.args.changes.now c.args.conn.now c.transaction-changing.result.conn.now c.make_each.new.changing.conn.now c.commit.new.self.0 outside
    c.transaction-changing.ensures.begun c.make_each.ensures.survives c.in_ok-make_each.ensures.made c.commit.ensures.survives)
