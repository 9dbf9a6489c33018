use Rattle.std.proofs.Common.{◌≡◌, ℕ, Option, None, Some, IfSome}
use Rattle.desk_state.proofs.Deciding.{found_fits}
use Rattle.desk_state.specs.Sound.{Fits, IsBoard, ReleaseInBounds}
use Rattle.desk_state.specs.State.{State, release_at}
use Rattle.plan.specs.declared.release.Release.{Release}
use Rattle.commands.proofs.explained.held.Goals as goal

fits_bounds : (most : ℕ) (o : Option Release) → IfSome o (Fits most) → IfSome o ReleaseInBounds
fits_bounds most None fits = tt
fits_bounds most (Some r) fits = fits.kept

pub returns-clause-bounds : goal.returns-clause-bounds
returns-clause-bounds c =
    let s = c.args.board.now.state in
    let board = c.now.ensures.board in
    fits_bounds s.counters.events _ (found_fits s c.args.id _ c.release.ensures board.sound board.kept)
