use Rattle.std.proofs.Common.{true, false}
use Rattle.workers.proofs.DoorLaws.{goes_back, goes_lost, went_as}
use Rattle.workers.proofs.doorway.give_back_one.Goals as goal

pub returns-in-Ok : goal.returns-in-Ok
returns-in-Ok g c =
    let is = c.in-Ok.ensures in
    (true, goes_back _ _ _ c.args.worker c.args.visited _ is.told is.passed is.port is.health, went_as c.args.worker _ _ _ c.args.visited true c.of-told.ensures c.with.ensures, c.lacks_memory.ensures)

pub returns-in-Err : goal.returns-in-Err
returns-in-Err g c =
    let is = c.in-Err.ensures in
    (false, goes_lost _ _ _ c.args.worker c.args.visited _ is.told is.passed is.port is.health, went_as c.args.worker _ _ _ c.args.visited false c.of-told.ensures c.with-in-Err.ensures, c.lacks_memory-in-Err.ensures)
