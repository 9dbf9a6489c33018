use Rattle.desk.proofs.RaceLaws.{entries_next}
use Rattle.desk.proofs.racing.push_entries.Goals as goal

pub loop-i-preserved : goal.loop-i-preserved
loop-i-preserved c =
    entries_next c.args.board.now.state.entries c.loop-i.i c.entry.result.now c.loop-i.out.items c.push_entry.new.out.items _ c.entry.ensures.entry c.loop-i.invariant c.in_ok-push_entry.ensures
