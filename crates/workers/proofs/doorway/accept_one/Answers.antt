use Rattle.workers.proofs.DoorLaws.{goes_came, goes_failed}
use Rattle.workers.proofs.doorway.accept_one.Goals as goal

pub returns-in-Ok : goal.returns-in-Ok
returns-in-Ok g c = let is = c.in-Ok.ensures in (goes_came _ _ _ c.args.worker c.in-Ok.link is.told is.passed is.port is.on, c.with.ensures)

pub returns-in-Err : goal.returns-in-Err
returns-in-Err g c = let is = c.in-Err.ensures in (goes_failed _ _ c.args.worker _ is.told is.passed is.port is.on is.cause, c.with-in-Err.ensures)
