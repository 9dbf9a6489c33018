use Rattle.std.proofs.Common.{◌≡◌, ◌≤◌, ◌-◌, ◌++◌, length, take}
use Rattle.pg_wire.specs.Crossing.{came, took}
use Rattle.pg_wire.proofs.crossing.read_exactly.Given as goal

abbrev pub invariant-loop-place : goal.invariant-loop-place
invariant-loop-place g l = record {
  read : came (g.L.Link.seen l.link).crossed ≡ came (g.L.Link.seen l.fn.link).crossed ++ take l.place l.into;
  sent : took (g.L.Link.seen l.link).crossed ≡ took (g.L.Link.seen l.fn.link).crossed;
  within : l.place ≤ length l.into;
}

abbrev pub decreases-loop-place : goal.decreases-loop-place
decreases-loop-place g l = length l.into - l.place
