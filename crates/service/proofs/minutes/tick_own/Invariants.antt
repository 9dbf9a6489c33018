use Rattle.service.proofs.minutes.tick_own.Given as goal

abbrev pub ghosts-tick_counted : goal.ghosts-tick_counted
ghosts-tick_counted g a = record { name = a.blank.name; parts = a.blank.parts }
