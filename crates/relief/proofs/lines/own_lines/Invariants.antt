use Rattle.std.proofs.Common.{◌≡◌, ◌++◌, drop}
use Rattle.relief.specs.Roster.{own_lines}
use Rattle.relief.proofs.lines.own_lines.Given as goal

abbrev pub invariant-loop-person : goal.invariant-loop-person
invariant-loop-person l = l.lines.items ++ own_lines (drop l.person-index l.people) ≡ own_lines l.people
