use Rattle.std.proofs.Common.{◌≡◌, ◌++◌, drop}
use Rattle.codes.specs.Groups.{spaced}
use Rattle.codes.proofs.groups.push_spaced.Given as goal

abbrev pub invariant-loop-group : goal.invariant-loop-group
invariant-loop-group l = l.text.items ++ spaced (drop l.group-index l.groups) ≡ l.fn.text.items ++ spaced l.groups
