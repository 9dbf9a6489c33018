use denote.Param.Send.{sendable}
use Rattle.std.proofs.Crossing.{crosses}
use Rattle.desk_net.proofs.Crossing.{SystemClock_send}
use Rattle.release_desk.proofs.BellCrossing.{StderrBell_send}
use Rattle.release_desk.proofs.KeeperCrossing.{EitherKeeper_send}
use Rattle.release_desk.proofs.shipped.run_shipped.Goals as goal

pub desk_main-requires-send-C : goal.desk_main-requires-send-C
desk_main-requires-send-C g c κs = search (sendable, crosses, SystemClock_send) depth 60 fits 9000

pub desk_main-requires-send-K : goal.desk_main-requires-send-K
desk_main-requires-send-K g c κs = search (sendable, crosses, EitherKeeper_send) depth 60 fits 9000

pub desk_main-requires-send-B : goal.desk_main-requires-send-B
desk_main-requires-send-B g c κs = search (sendable, crosses, StderrBell_send) depth 60 fits 9000

pub returns : goal.returns
returns g c =
    let is = c.desk_main.ensures in
    record { ends = is.ends; kept = is.kept; keeper_on = is.keeper; clock_on = is.clock; door_on = is.door; still = is.still; holds = is.board; handed = is.bells }
