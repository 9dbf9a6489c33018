use Rattle.desk.specs.Seen.{desk_seen}
use Rattle.service.proofs.staying.stay_at_door.Given as goal

-- how the desk and its clock are as they are handed in
abbrev pub ghosts-stay_from : goal.ghosts-stay_from
ghosts-stay_from g a = record { desk = desk_seen g.K.Keeper.seen g.B.Bell.seen a.desk; clock = g.C.Clock.seen a.clock }
