use Rattle.std.proofs.Common.{sym, ◌∙◌}
use Rattle.deferrals.proofs.Without.{placed_is}
use Rattle.deferrals.proofs.by_tail.deferral_of.Goals as goal

pub returns : goal.returns
returns c = c.standing_at.ensures ∙ placed_is c.args.id c.args.held.now c.in_ok-place.place (sym c.in_ok-place.ensures)
