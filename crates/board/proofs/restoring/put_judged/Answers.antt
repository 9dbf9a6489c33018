use Rattle.std.proofs.lemmas.Result.{on_ok_weaker}
use Rattle.board.proofs.Anew.{counted_so, judged_holds, judged_leads, judged_own}
use Rattle.board.proofs.restoring.put_judged.Goals as goal

pub put_judged-requires-clause-own : goal.put_judged-requires-clause-own
put_judged-requires-clause-own c = judged_own c.args.content.now.state c.args.alerts.items c.requires.judged

pub put_judged-requires-clause-holds : goal.put_judged-requires-clause-holds
put_judged-requires-clause-holds c =
    judged_holds c.args.content.now.state c.args.alerts.items c.events_with-events.result c.requires.may c.requires.judged
    (counted_so c.args.content.now.state c.counters.result c.args.alerts.items c.deref.result.now c.events_with-events.result c.counters.ensures c.deref.ensures.value c.events_with-events.ensures)

pub returns-clause-state : goal.returns-clause-state
returns-clause-state c =
    on_ok_weaker c.put_judged.result
    (λ leads. judged_leads c.args.content.now.state _ c.args.alerts.items c.events_with-events.result _ c.requires.may c.requires.judged
    (counted_so c.args.content.now.state c.counters.result c.args.alerts.items c.deref.result.now c.events_with-events.result c.counters.ensures c.deref.ensures.value c.events_with-events.ensures) leads)
    c.put_judged.ensures.ok
