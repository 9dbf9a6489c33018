use Rattle.std.proofs.Common.{ℕ, subst}
use Rattle.facts.specs.Reading.{IsRead, report_of}
use Rattle.decisions.proofs.reports.received.Goals as goal

pub returns-in-Ok-clause-read : goal.returns-in-Ok-clause-read
returns-in-Ok-clause-read c = λ id. subst (λ (m : ℕ). IsRead (report_of id m c.in-Ok.received)) c.moment.ensures (c.in-Ok.ensures.read id)
