use Rattle.std.proofs.Common.{◌≡◌, ◌+◌, ◌++◌, length}
use Rattle.pg_wire.specs.Crossing.{came, took}
use Rattle.pg_wire.proofs.backend.read_whole.Given as goal

abbrev pub invariant-loop-left : goal.invariant-loop-left
invariant-loop-left g l = record {
  read : came (g.L.Link.seen l.link).crossed ≡ came (g.L.Link.seen l.fn.link).crossed ++ l.content.items;
  sent : took (g.L.Link.seen l.link).crossed ≡ took (g.L.Link.seen l.fn.link).crossed;
  sized : length l.content.items + l.left ≡ l.size;
}

abbrev pub decreases-loop-left : goal.decreases-loop-left
decreases-loop-left g l = l.left
