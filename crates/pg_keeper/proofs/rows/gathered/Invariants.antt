use Rattle.std.proofs.Common.{◌≡◌}
use Rattle.pg_wire.specs.Answers.{told_of}
use Rattle.pg_wire.specs.Crossing.{came, took}
use Rattle.pg_keeper.proofs.LoadLaws.{Gathering}
use Rattle.pg_keeper.proofs.rows.gathered.Given as goal

abbrev pub invariant-loop : goal.invariant-loop
invariant-loop g l = record {
  gathering : Gathering (came (g.L.Link.seen l.fn.link).crossed) (came (g.L.Link.seen l.link).crossed) l.rows.items (told_of l.answer);
  sent : took (g.L.Link.seen l.link).crossed ≡ took (g.L.Link.seen l.fn.link).crossed;
}
