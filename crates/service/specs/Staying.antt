-- The connections of a door over one shared desk, served by workers.
use Rattle.std.specs.Prelude.{ℕ, true, List}
use Rattle.connections.specs.declared.doors.ServeEnd.{ServeEnd}
use Rattle.desk.specs.Seen.{DeskAt}
use Rattle.desk_io.specs.Over.{Over}
use Rattle.desk_net.specs.Seen.{ClockSeen, DoorSeen, LinkSeen}
use Rattle.service.specs.Minutes.{HasTicked}
use Rattle.service.specs.Doors.{IsServedInTurns}
use Rattle.service.specs.Events.{lane_of}
use Rattle.service.specs.Shared.{IsOneList}
use Rattle.service.specs.declared.events.Event.{Event}
use Rattle.workers.specs.Staying.{HasStayed}

-- At most `most` workers served connections at a port, over a desk that was just opened. One list contains the history,
-- the clock's answers and the misses: the turns of every connection and the ticks of the minutes, and nothing else.
pub record IsStaying (D : Type 0) {L : Type 0} (link : L → LinkSeen) (door : Over (DoorSeen L)) (clock : Over ClockSeen) (desk : Over DeskAt) (port most : ℕ) (end : ServeEnd) : Type 0 where
  pub list : List Event
  pub stayed : HasStayed D lane_of (IsServedInTurns true link desk.before.state clock.before) (HasTicked desk.before.state clock.before.dial) door list port most end
  pub is : IsOneList clock desk list
