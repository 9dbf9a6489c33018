use Rattle.small_airline.proofs.reports.report.Goals as goal

pub returns-clause-read : goal.returns-clause-read
returns-clause-read c = c.in_ok-text.ensures.read c.args.id
