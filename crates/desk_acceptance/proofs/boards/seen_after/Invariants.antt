use Rattle.desk_acceptance.proofs.boards.seen_after.Given as goal

abbrev pub ghosts-play : goal.ghosts-play
ghosts-play a = record { name = a.blank.name; parts = a.blank.parts }
