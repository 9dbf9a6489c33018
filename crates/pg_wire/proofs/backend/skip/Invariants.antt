use Rattle.std.proofs.Common.{◌≡◌, ◌≤◌, ◌-◌}
use Rattle.pg_wire.specs.Backend.{Skips}
use Rattle.pg_wire.specs.Crossing.{came, took}
use Rattle.pg_wire.proofs.backend.skip.Given as goal

abbrev pub invariant-loop-left : goal.invariant-loop-left
invariant-loop-left g l = record {
  skipped : Skips (came (g.L.Link.seen l.fn.link).crossed) (came (g.L.Link.seen l.link).crossed) (l.count - l.left);
  sent : took (g.L.Link.seen l.link).crossed ≡ took (g.L.Link.seen l.fn.link).crossed;
  within : l.left ≤ l.count;
}

abbrev pub decreases-loop-left : goal.decreases-loop-left
decreases-loop-left g l = l.left
