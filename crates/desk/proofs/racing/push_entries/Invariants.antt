use Rattle.std.proofs.Common.{◌≡◌, ◌++◌, drop}
use Rattle.desk.specs.Race.{entries_text}
use Rattle.desk.proofs.racing.push_entries.Given as goal

abbrev pub invariant-loop-i : goal.invariant-loop-i
invariant-loop-i l = l.out.items ++ entries_text (drop l.i l.board.state.entries) ≡ l.fn.out.items ++ entries_text l.board.state.entries
