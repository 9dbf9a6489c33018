use Rattle.std.proofs.Common.{◌∙◌, ◌+◌, ap}
use Rattle.codes.specs.Cond.{lesser}
use Rattle.release_text.specs.Concerned.{leg_stations}
use Rattle.release_text.specs.Weather.{newer_of}
use Rattle.release_text.proofs.NewerLaws.{next_leg}
use Rattle.release_text.proofs.unattached.newer_on_legs.Goals as goal

pub loop-i-preserved : goal.loop-i-preserved
loop-i-preserved c =
    next_leg c.args.reports.now.reports c.args.attached.now c.args.phase (c.loop-i.i + 1) c.args.legs.now c.loop-i.i c.index-legs-i.result c.loop-i.least c.least_of-least.result c.loop-i-test.true c.index-legs-i.is
    (c.least_of-least.ensures
    ∙ ap (λ n. lesser c.loop-i.least n) (c.newer_on_leg.ensures ∙ ap (λ s. newer_of c.args.reports.now.reports c.args.attached.now (leg_stations s c.index-legs-i.result)) c.standing_of-standing.ensures))
    ∙ c.loop-i.invariant
