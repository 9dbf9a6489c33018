use Rattle.std.proofs.Common.{◌≡◌, ◌+◌, ◌≤◌, ◌++◌, drop}
use Rattle.alert_judging.specs.Prospect.{changes_named, count_named}
use Rattle.alert_judging.proofs.prospect.Prospect.changes_named.Given as goal

abbrev pub invariant-loop-id : goal.invariant-loop-id
invariant-loop-id g l = record {
  changes : l.out.items ++ changes_named l.self (drop l.id-index l.ids) ≡ changes_named l.self l.ids;
  steps : l.steps + count_named l.self (drop l.id-index l.ids) ≤ l.fn.steps + count_named l.self l.ids;
}
