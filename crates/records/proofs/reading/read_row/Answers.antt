use Rattle.records.proofs.reading.read_row.Goals as goal

pub returns-clause-again : goal.returns-clause-again
returns-clause-again c = λ r valid has. c.read_in.ensures.again r valid tt has
