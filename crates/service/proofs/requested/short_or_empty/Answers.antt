use Rattle.service.proofs.RouteForms.{short_ok}
use Rattle.service.proofs.requested.short_or_empty.Goals as goal

pub returns-then-is_short-clause-form : goal.returns-then-is_short-clause-form
returns-then-is_short-clause-form c = short_ok c.args.text.now c.of.result c.if-is_short.ensures c.of.ensures
