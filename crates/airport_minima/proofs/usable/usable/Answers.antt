use Rattle.std.proofs.Common.{rules, arith}
use Rattle.std.proofs.lemmas.Grind.{common_steps}
use Rattle.airport_minima.proofs.RowLaws.{approach_fits}
use Rattle.airport_minima.proofs.usable.usable.Goals as goal
use Rattle.airport_minima.proofs.usable.usable.Goals.{then-is_usable+in_ok-push, else-is_usable}

pub loop-place-preserved : goal.loop-place-preserved
loop-place-preserved c =
    let fits = approach_fits _ _ _ _ c.requires c.row-approach.ensures in
    elim c.if-is_usable.branch [
      | then-is_usable+in_ok-push w ↦ (grind (arith, common_steps), grind (arith, common_steps, fits))
      | else-is_usable w ↦ (search rules, search rules)
    ]
