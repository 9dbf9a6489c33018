use Rattle.std.proofs.Common.{arith}
use Rattle.std.proofs.lemmas.Grind.{common_steps}
use Rattle.codes.specs.Cond.{shape_fault}
use Rattle.codes.proofs.CondLaws.{stretch_found, stretch_fault}
use Rattle.codes.proofs.cond.stretch_in.Goals as goal

pub returns-in-Some : goal.returns-in-Some
unfolding shape_fault
returns-in-Some c = stretch_fault _ _ _ _ (grind (arith, common_steps))

pub returns : goal.returns
returns c = stretch_found _ _ _ c.loop-i.found _ (grind (arith, common_steps)) c.stretch.ensures.cond c.stretch.ensures.unread (grind (arith, common_steps))
