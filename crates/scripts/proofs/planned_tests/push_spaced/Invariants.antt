use Rattle.std.proofs.Common.{◌≡◌, ◌++◌, drop}
use Rattle.desk_state.specs.Texts.{spaced_findings}
use Rattle.scripts.proofs.planned_tests.push_spaced.Given as goal

abbrev pub invariant-loop-finding : goal.invariant-loop-finding
invariant-loop-finding l = l.out.items ++ spaced_findings (drop l.finding-index l.findings) ≡ l.fn.out.items ++ spaced_findings l.findings
