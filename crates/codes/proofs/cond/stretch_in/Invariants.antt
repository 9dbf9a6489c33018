use Rattle.std.proofs.Common.{◌≡◌, ◌+◌, ◌≤◌, [], drop}
use Rattle.codes.specs.Cond.{first_fault, found_in, nothing_found}
use Rattle.codes.proofs.cond.stretch_in.Given as goal

abbrev pub invariant-loop-i : goal.invariant-loop-i
invariant-loop-i l = record {
  fault : first_fault l.form (l.number + l.i) (drop l.i l.groups) ≡ first_fault l.form l.number l.groups;
  found : found_in l.form l.found l.before (drop l.i l.groups) ≡ found_in l.form nothing_found [] l.groups;
  few : l.found.unread ≤ l.i;
}
