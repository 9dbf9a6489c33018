use Rattle.std.proofs.Common.{rules, ◌≡◌, refl}
use Rattle.desk_io.specs.Planned.{after}
use Rattle.keeper.specs.declared.account.Outcome.TheVariants.{Done, Refused}
use Rattle.keeper.proofs.AccountLaws.{count_commit, kept_done, kept_refused}
use Rattle.keeper.proofs.memory.MemoryKeeperKeeper.commit.Goals as goal

pub invariant_of-self : goal.invariant_of-self
invariant_of-self c =
    let was = c.args.self.now in
    let changes = c.args.changes.now in
    let rose : c.saturating_add-self.result ≡ after was.calls = search rules in
    record {
      in_order = was.in_order;
      agrees = kept_refused was.account.list c.with.result.list changes was.rows.items was.rows.items was.began.list c.with.ensures refl was.agrees;
      counted = count_commit was.account.list c.with.result.list changes Refused was.calls c.saturating_add-self.result c.with.ensures rose was.counted;
    }

pub invariant_of-self-in-Ok : goal.invariant_of-self-in-Ok
invariant_of-self-in-Ok c =
    let was = c.args.self.now in
    let changes = c.args.changes.now in
    let rose : c.saturating_add-self.result ≡ after was.calls = search rules in
    record {
      in_order = c.in-Ok.ensures.rising;
      agrees = kept_done was.account.list c.with-in-Ok.result.list changes was.rows.items c.apply.new.rows.items was.began.list c.with-in-Ok.ensures c.in-Ok.ensures.ok was.agrees;
      counted = count_commit was.account.list c.with-in-Ok.result.list changes Done was.calls c.saturating_add-self.result c.with-in-Ok.ensures rose was.counted;
    }

pub invariant_of-self-in-Err : goal.invariant_of-self-in-Err
invariant_of-self-in-Err c =
    let was = c.args.self.now in
    let changes = c.args.changes.now in
    let rose : c.saturating_add-self.result ≡ after was.calls = search rules in
    record {
      in_order = c.in-Err.ensures.rising;
      agrees = kept_refused was.account.list c.with-in-Err.result.list changes was.rows.items c.apply.new.rows.items was.began.list c.with-in-Err.ensures c.in-Err.ensures.err was.agrees;
      counted = count_commit was.account.list c.with-in-Err.result.list changes Refused was.calls c.saturating_add-self.result c.with-in-Err.ensures rose was.counted;
    }
