use Rattle.std.proofs.Common.{◌∙◌, ◌+◌, ap}
use Rattle.release_text.specs.Concerned.{leg_stations, with_stations}
use Rattle.release_text.proofs.StationLaws.{next_leg}
use Rattle.release_text.proofs.airports.add_legs.Goals as goal

pub loop-i-preserved : goal.loop-i-preserved
loop-i-preserved c =
    next_leg c.args.phase (c.loop-i.i + 1) c.args.legs.now c.loop-i.i c.index-legs-i.result c.loop-i.found.items c.add_leg.new.found.items c.loop-i-test.true c.index-legs-i.is
    (c.in_ok-add_leg.ensures ∙ ap (λ s. with_stations c.loop-i.found.items (leg_stations s c.index-legs-i.result)) c.standing_of.ensures)
    ∙ c.loop-i.invariant
