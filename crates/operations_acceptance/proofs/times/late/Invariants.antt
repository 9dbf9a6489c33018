use Rattle.operations_acceptance.proofs.times.late.Given as goal

abbrev pub ghosts-late_text : goal.ghosts-late_text
ghosts-late_text a = record { name = a.blank.name; parts = a.blank.parts }
