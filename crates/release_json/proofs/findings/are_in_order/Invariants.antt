use Rattle.std.proofs.Common.{◌≡◌, length}
use Rattle.release_json.specs.Findings.{are_in_order}
use Rattle.release_json.proofs.findings.are_in_order.Given as goal

abbrev pub invariant-loop-left : goal.invariant-loop-left
invariant-loop-left l = are_in_order l.left ≡ are_in_order l.findings

abbrev pub decreases-loop-left : goal.decreases-loop-left
decreases-loop-left l = length l.left
