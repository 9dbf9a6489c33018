use Rattle.std.proofs.Common.{◌≡◌, sym, subst}
use Rattle.std.specs.Prelude.{IfOk}
use Rattle.service.proofs.RouteForms.{asks_routed, routed_forms}
use Rattle.service.proofs.requested.requested_by.Goals as goal

pub asked_by-requires : goal.asked_by-requires
asked_by-requires c = routed_forms c.args.wire.now _ c.in-Ok.ensures

pub returns-in-Ok-clause-asked : goal.returns-in-Ok-clause-asked
returns-in-Ok-clause-asked c = subst (λ asked. IfOk c.asked_by.result (λ r. r ≡ asked)) (sym (asks_routed c.args.wire.now _ c.in-Ok.ensures)) c.asked_by.ensures.asked
