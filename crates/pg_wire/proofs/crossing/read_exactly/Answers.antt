use Rattle.std.proofs.Common.{◌∙◌}
use Rattle.pg_wire.proofs.Reading.{front_more}
use Rattle.pg_wire.proofs.crossing.read_exactly.Goals as goal

pub loop-place-preserved : goal.loop-place-preserved
loop-place-preserved g c = record {
  read = front_more _ _ _ _ _ _ _ c.loop-place.invariant.read c.in_ok-count.ensures.front c.in_ok-count.ensures.read;
  sent = c.in_ok-count.ensures.sent ∙ c.loop-place.invariant.sent;
  within = c.in_ok-count.ensures.bound;
}
