use Rattle.std.proofs.Common.{sym}
use Rattle.serde_json.specs.View.{view}
use Rattle.plan.specs.Check.{HasMoments}
use Rattle.asks.specs.Canonical.{leg_data}
use Rattle.asks.proofs.Lists.{all_left, written_on}
use Rattle.asks.proofs.leg_values.leg_values.Goals as goal

pub loop-leg-preserved : goal.loop-leg-preserved
loop-leg-preserved c =
    let known = c.loop-leg.invariant in
    let within = c.loop-leg-test.true in
    rw c.in_ok-push.ensures.items (record {
      written = written_on view leg_data c.loop-leg.values.items c.in_ok-leg_value.field-0 c.args.legs.now c.loop-leg.leg-index c.leg-item.result within (sym c.leg-item.is) c.in_ok-leg_value.ensures known.written;
      rest = (all_left HasMoments c.args.legs.now c.loop-leg.leg-index c.leg-item.result within (sym c.leg-item.is) known.rest).1;
    })
