use Rattle.std.proofs.Common.{◌∙◌}
use Rattle.decisions.proofs.FloorLaws.{swept_one, swept_rise}
use Rattle.decisions.proofs.sweeps.raised.Goals as goal

pub loop-reply-preserved : goal.loop-reply-preserved
loop-reply-preserved c = record {
  raised =
      swept_one c.args.before c.args.content.now.state.kept c.as_slice-reply-items.result.now c.loop-reply.reply-index c.reply-item.result c.loop-reply.floors.items c.raise_by.new.floors.items _
      (c.as_slice-reply-items.ensures.value ∙ c.replies-2.ensures.list) c.loop-reply-test.true c.reply-item.is c.in_ok-raise_by.ensures c.loop-reply.invariant.raised;
  rising = swept_rise c.args.before c.reply-item.result c.loop-reply.floors.items c.raise_by.new.floors.items c.loop-reply.invariant.rising c.in_ok-raise_by.ensures;
}
