use Rattle.std.proofs.Common.{refl, subst, sym, ◌∙◌}
use Rattle.asks.specs.Forms.{CallHasForms}
use Rattle.service.proofs.MinuteLaws.{minute_forms, ticked_more, ticked_none}
use Rattle.service.specs.Turns.{ComesOnce}
use Rattle.turn_lock.proofs.ElementLaws.{prefix_self, prefix_trans}
use Rattle.turn_lock.specs.Passes.{pass_seen}
use Rattle.service.proofs.minutes.tick_counted.Goals as goal

pub loop-init : goal.loop-init
loop-init g c = record {
  lock = refl;
  number = c.requires.lock.1;
  numbers = refl;
  seen = prefix_self _;
  ticked = ticked_none g.A.Opened.desk.opening g.A.Opened.clock.dial c.args.lane (pass_seen c.args.pass);
}

pub loop-preserved : goal.loop-preserved
loop-preserved g c =
    let inv = c.loop.invariant in
    let is = c.answer_in_turn-next.ensures in
    let opening = g.A.Opened.desk.opening in
    let dial = g.A.Opened.clock.dial in
    let before = pass_seen c.args.pass in
    let middle = pass_seen c.loop.pass in
    let list = pass_seen c.answer_in_turn-next.result.1 in
    record {
      lock = is.pass.0 ∙ inv.lock;
      number = is.pass.1;
      numbers = is.numbers ∙ inv.numbers;
      seen = prefix_trans before middle list inv.seen is.seen;
      ticked = ticked_more opening dial c.args.lane before middle list c.answer_in_turn-next.result.0 inv.ticked is.seen
          (subst (λ k. ComesOnce opening dial c.args.lane middle list k c.answer_in_turn-next.result.0) c.nobodys_call-call.ensures is.comes);
    }

pub answer_in_turn-next-requires-clause-call : goal.answer_in_turn-next-requires-clause-call
answer_in_turn-next-requires-clause-call g c = subst (λ k. CallHasForms k) (sym c.nobodys_call-call.ensures) minute_forms
