use Rattle.std.proofs.Common.{refl, arith}
use Rattle.release_index.proofs.SetLaws.{enter_one, entered_all}
use Rattle.release_index.proofs.keys.enter.Goals as goal

pub loop-key-init : goal.loop-key-init
loop-key-init c = record { each = λ q. refl; room = let some = c.requires.room in omega (arith, some) }

pub loop-key-preserved : goal.loop-key-preserved
loop-key-preserved c = record {
  each = λ q. enter_one q c.args.coming.now c.loop-key.key-index _ c.loop-key.held.keys c.put_reserved.new.self.keys _ c.loop-key-test.true (c.put_reserved.ensures.each q) (c.loop-key.invariant.each q);
  room = let before = c.loop-key.invariant.room in let less = c.put_reserved.ensures.room in omega (arith, before, less);
}

pub returns : goal.returns
returns c = λ q. entered_all q c.args.coming.now c.loop-key.key-index c.loop-key.held.keys _ c.loop-key-test.false (c.loop-key.invariant.each q)
