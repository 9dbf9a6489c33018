use Rattle.weather_window.proofs.window.worst.Given as goal

abbrev pub ghosts-worst_uncounted : goal.ghosts-worst_uncounted
ghosts-worst_uncounted a = record { name = a.blank.name; parts = a.blank.parts }
