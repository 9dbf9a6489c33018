use Rattle.std.proofs.Common.{refl, arith}
use Rattle.facts.specs.Index.{key_cmp}
use Rattle.desk_io.specs.Keys.{is_held}
use Rattle.release_index.proofs.SetLaws.{spare_one, spared_all}
use Rattle.release_index.proofs.moves.leave_others.Goals as goal

pub loop-key-init : goal.loop-key-init
loop-key-init c = record { each = λ q. refl; room = omega arith }

pub loop-key-preserved : goal.loop-key-preserved
loop-key-preserved c = record {
  each = λ q. spare_one q c.args.leaving.now c.loop-key.key-index _ c.loop-key.index.keys c.leave_unless.new.index.keys (is_held key_cmp q c.args.coming.now) _ c.loop-key-test.true (c.leave_unless.ensures.each q) (c.loop-key.invariant.each q);
  room = let before = c.loop-key.invariant.room in let more = c.leave_unless.ensures.room in omega (arith, before, more);
}

pub returns-clause-each : goal.returns-clause-each
returns-clause-each c q = spared_all q c.args.leaving.now c.loop-key.key-index c.loop-key.index.keys (is_held key_cmp q c.args.coming.now) _ c.loop-key-test.false (c.loop-key.invariant.each q)
