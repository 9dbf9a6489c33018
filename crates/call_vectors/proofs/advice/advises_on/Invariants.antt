use Rattle.call_vectors.proofs.advice.advises_on.Given as goal

abbrev pub ghosts-are_advised : goal.ghosts-are_advised
ghosts-are_advised a = record { name = a.blank.name; parts = a.blank.parts }
