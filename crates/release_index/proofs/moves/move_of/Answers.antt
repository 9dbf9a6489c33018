use Rattle.std.proofs.Common.{subst, sym, IfSome}
use Rattle.release_index.specs.Bounds.{ReleaseInBounds}
use Rattle.release_index.proofs.HeldLaws.{old_bounds}
use Rattle.release_index.proofs.moves.move_of.Goals as goal

pub keys_of-requires : goal.keys_of-requires
keys_of-requires c = subst (λ o. IfSome o ReleaseInBounds) (sym c.old_of.ensures) (old_bounds c.args.on.now c.args.held.now.list c.requires.each)
