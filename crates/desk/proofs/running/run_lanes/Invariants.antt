use Rattle.std.proofs.Common.{map}
use Rattle.desk.specs.Round.{items_in}
use Rattle.desk.specs.Seen.{desk_seen}
use Rattle.desk.proofs.running.run_lanes.Given as goal

-- where these lanes begin
abbrev pub ghosts-run_from : goal.ghosts-run_from
ghosts-run_from g a = record { began = record { desk = desk_seen g.K.Keeper.seen g.B.Bell.seen a.desk; items = map items_in a.lanes.items } }
