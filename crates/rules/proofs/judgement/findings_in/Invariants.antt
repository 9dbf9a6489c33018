use Rattle.std.proofs.Common.{◌≡◌, ◌++◌, drop}
use Rattle.rules.specs.Sights.{findings_in_all}
use Rattle.rules.proofs.judgement.findings_in.Given as goal

abbrev pub invariant-loop-rule : goal.invariant-loop-rule
invariant-loop-rule l =
    l.findings ++ findings_in_all (drop l.rule-index l.rules) l.sights ≡ findings_in_all l.rules l.sights
