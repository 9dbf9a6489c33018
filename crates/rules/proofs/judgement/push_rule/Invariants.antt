use Rattle.std.proofs.Common.{◌≡◌, ◌+◌, ◌++◌, drop}
use Rattle.rules.specs.Sights.{findings_in}
use Rattle.rules.proofs.judgement.push_rule.Given as goal

abbrev pub invariant-loop-i : goal.invariant-loop-i
invariant-loop-i l =
    l.findings ++ findings_in l.rule (l.i + 1) (drop l.i l.sights) ≡ l.fn.findings ++ findings_in l.rule 1 l.sights
