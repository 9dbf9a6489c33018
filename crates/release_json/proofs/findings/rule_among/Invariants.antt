use Rattle.std.proofs.Common.{◌≡◌, drop}
use Rattle.release_json.specs.Findings.{rule_among}
use Rattle.release_json.proofs.findings.rule_among.Given as goal

abbrev pub invariant-loop-rule : goal.invariant-loop-rule
invariant-loop-rule l = rule_among (drop l.rule-index l.rules) l.code ≡ rule_among l.rules l.code
