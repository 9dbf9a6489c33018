use Rattle.desk_acceptance.proofs.links.serve.Given as goal

abbrev pub ghosts-serve_lent : goal.ghosts-serve_lent
ghosts-serve_lent g a = record { name = a.blank.name; parts = a.blank.parts }
