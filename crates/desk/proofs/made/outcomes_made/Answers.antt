use Rattle.std.proofs.Common.{◌≡◌, ◌∙◌, Some, sym}
use Rattle.made_items.specs.Makers.{next_call}
use Rattle.desk.proofs.AskedLaws.{keeper_later}
use Rattle.desk.proofs.InPart.{on_err}
use Rattle.desk.proofs.MadeLaws.{all_made, made_after, made_at, made_next, made_so_far, none_made}
use Rattle.desk.proofs.SeenLaws.{desk_on, desk_stays}
use Rattle.desk.proofs.made.outcomes_made.Goals as goal

pub loop-outcomes-init : goal.loop-outcomes-init
loop-outcomes-init g c = record {
  made = none_made _ _ c.args.number c.args.count _ _ c.new-outcomes.ensures.items c.of-maker.ensures.calls;
  on = desk_stays _;
}

pub returns-in_err-call-clause-err : goal.returns-in_err-call-clause-err
returns-in_err-call-clause-err g c = on_err c.from_residual.result (made_so_far _ _ _ c.args.number c.args.count _ _ _ c.loop-outcomes.invariant.made)

pub returns-in_err-outcome-clause-err : goal.returns-in_err-outcome-clause-err
returns-in_err-outcome-clause-err g c =
    let maker = c.loop-outcomes.maker in
    let is : next_call maker ≡ Some c.in-Some.call = sym c.in_ok-call.ensures.next ∙ c.in-Some.is in
    let one = c.in_err-outcome.ensures in
    on_err c.from_residual-in_err-outcome.result
    (made_at _ _ _ _ c.args.number c.args.count _ _ maker c.loop-outcomes.outcomes.items c.in-Some.call c.loop-outcomes.invariant.made is (keeper_later _ _ one.on.keeper) one.err)

pub returns-in_err-push-clause-err : goal.returns-in_err-push-clause-err
returns-in_err-push-clause-err g c =
    let maker = c.loop-outcomes.maker in
    let is : next_call maker ≡ Some c.in-Some.call = sym c.in_ok-call.ensures.next ∙ c.in-Some.is in
    let given = c.in_ok-outcome.ensures.given in
    on_err c.from_residual-in_err-push.result
    (made_after _ _ _ _ c.args.number c.args.count _ _ maker c.loop-outcomes.outcomes.items c.in-Some.call given.choice c.loop-outcomes.invariant.made is (record { counted = given.counted; stored = given.stored }) given.state)

pub returns-in_err-push-clause-on : goal.returns-in_err-push-clause-on
returns-in_err-push-clause-on g c = desk_on _ _ _ c.loop-outcomes.invariant.on c.in_ok-outcome.ensures.on

pub loop-outcomes-preserved : goal.loop-outcomes-preserved
loop-outcomes-preserved g c =
    let inv = c.loop-outcomes.invariant in
    let maker = c.loop-outcomes.maker in
    let is : next_call maker ≡ Some c.in-Some.call = sym c.in_ok-call.ensures.next ∙ c.in-Some.is in
    let given = c.in_ok-outcome.ensures.given in
    record {
      made = made_next _ _ _ _ c.args.number c.args.count _ _ maker c.note.new.self c.loop-outcomes.outcomes.items _ c.in-Some.call given.choice c.in_ok-outcome.outcome c.done_of.result
          inv.made is c.done_of.ensures c.note.ensures.on (record { counted = given.counted; stored = given.stored }) given.outcome given.state c.in_ok-push.ensures.items;
      on = desk_on _ _ _ inv.on c.in_ok-outcome.ensures.on;
    }

pub returns-clause-given : goal.returns-clause-given
returns-clause-given g c =
    all_made _ _ _ c.args.number c.args.count _ c.loop-outcomes.maker c.loop-outcomes.outcomes.items c.loop-outcomes.invariant.made (c.in_ok-call.ensures.last.0 c.in_default.is)

pub returns-in_err-outcome-clause-on : goal.returns-in_err-outcome-clause-on
returns-in_err-outcome-clause-on g c = desk_on _ _ _ c.loop-outcomes.invariant.on c.in_err-outcome.ensures.on
