-- The bell that writes to standard error may go to another thread.
use denote.RattleType.{RattleType}
use denote.Param.Send.{IsSend, sendable}
use Rattle.std.proofs.Crossing.{crosses}
use Rattle.release_desk.specs.contracts.stderr_bell.StderrBell as StderrBell

pub StderrBell_send : (E T : RattleType) → IsSend E → IsSend T → IsSend (StderrBell.the_row E T)
StderrBell_send E T e t = search (sendable, crosses) depth 60 fits 5000
