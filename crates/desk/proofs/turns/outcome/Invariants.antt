use Rattle.desk.proofs.turns.outcome.Given as goal

abbrev pub ghosts-outcome_with : goal.ghosts-outcome_with
ghosts-outcome_with g a = record { name = a.blank.name; parts = a.blank.parts }
