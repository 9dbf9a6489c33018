use Rattle.std.proofs.Common.{◌≡◌}
use Rattle.pg_wire.specs.Answers.{told_of}
use Rattle.pg_wire.specs.Crossing.{came, took}
use Rattle.pg_wire.proofs.Settling.{HasCome}
use Rattle.pg_wire.proofs.session.settle.Given as goal

abbrev pub invariant-loop : goal.invariant-loop
invariant-loop g l = record {
  come : HasCome (came (g.L.Link.seen l.fn.link).crossed) (came (g.L.Link.seen l.link).crossed) (told_of l.answer);
  sent : took (g.L.Link.seen l.link).crossed ≡ took (g.L.Link.seen l.fn.link).crossed;
}
