-- What holds of a run, also over objects that don't show what they hold: what was read and written, and why; what is
-- left; which commits were made.
use Rattle.std.specs.Prelude.{◌≡◌, ◌≤◌, ℕ, List, Option, IfSome}
use Rattle.alerts.specs.Ringing.{DroppedSeen}
use Rattle.alerts.specs.Seen.{BellSeen}
use Rattle.commands.specs.Answers.{AreKeptOver, EndsProgram, Says}
use Rattle.commands.specs.Bells.{AreHandedBack}
use Rattle.commands.specs.Seen.{Lent, Service}
use Rattle.scripts.specs.Below.{IsBoard, Shown}
use Rattle.desk_io.specs.Health.{IsStill}
use Rattle.desk_io.specs.Over.{Over}
use Rattle.desk_io.specs.Seen.{ShelfSeen, SinkSeen}
use Rattle.desk_net.specs.Seen.{ClockGoesOn}
use Rattle.keeper.specs.Seen.{KeeperGoesOn}
use Rattle.words.specs.declared.task.Task.{Task}

-- A run of a command over these objects, with this board and exit status.
pub record Runs {L : Type 0} (command : Option (Task × List (List ℕ))) (shelf : Over ShelfSeen) (sink : Over SinkSeen) (service : Service L) (keeper : Lent) (given bells : List BellSeen) (gone : List DroppedSeen) (board : Option Shown) (status : ℕ) : Type 0 where
  -- The sink accepted exactly the text of the command's answer. Or it failed, and accepted a prefix (status 4). Or
  -- memory ran out, and it accepted nothing (8). The answer is made of what was read: the thirteen tables, then the
  -- sources that the arguments name, each once and from its start to its end, up to the first that failed, and nothing
  -- else.
  pub ends : EndsProgram (Says shelf service keeper command board) sink status
  -- With a board: the keeper's account gained a load of the rows of a desk, over which the board was opened. The rows
  -- of the latest load, changed by exactly the commits that the account calls done, are the rows of the board's state.
  pub kept : AreKeptOver keeper board
  -- The keeper's account only grows. The counts of faults of the keeper, the clock and the door never fall.
  pub keeper_on : KeeperGoesOn keeper.before keeper.after
  pub clock_on : ClockGoesOn service.clock.before service.clock.after
  pub door_on : service.door.before.health.faults ≤ service.door.after.health.faults
  -- at status 0 the clock never failed
  pub still : status ≡ 0 → IsStill service.clock.before.health service.clock.after.health
  -- the history is legal, and each active release is signed and judged
  pub holds : IfSome board (λ b. IsBoard b.opening b.state)
  -- A bell that failed counted a fault, and is dropped. Bells that show what they heard, heard the notices of the
  -- board's history. At `shifts` the notices are those of a run over the script that the last reads returned.
  pub handed : EndsProgram (λ answer. AreHandedBack shelf command keeper answer board given bells gone) sink status
