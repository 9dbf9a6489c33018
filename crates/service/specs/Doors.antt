-- Connections of a door, each answered in turns of its own lane, over one shared desk.
use Rattle.std.specs.Prelude.{◌≡◌, ◌≢◌, ℕ, Bool, false, List, []}
use Rattle.connections.specs.Connections.{IsConnection}
use Rattle.connections.specs.Crossed.{Crosses, IsConnectionBy}
use Rattle.connections.specs.Rounds.{HasServed}
use Rattle.connections.specs.Writing.{Wrote}
use Rattle.connections.specs.declared.doors.ServeEnd.{ServeEnd}
use Rattle.connections.specs.declared.doors.ServeEnd.TheVariants as ends
use Rattle.connections.specs.declared.serving.Served.{Served}
use Rattle.connections.specs.declared.serving.Served.TheVariants as served
use Rattle.desk.specs.Seen.{DeskAt}
use Rattle.desk_io.specs.Health.{HasFailed, IsSound}
use Rattle.desk_io.specs.Over.{Over}
use Rattle.desk_net.specs.Seen.{ClockSeen, DoorSeen, LinkGoesOn, LinkSeen}
use Rattle.desk_net.specs.Streams.{unread}
use Rattle.desk_state.specs.State.{State}
use Rattle.service.specs.Connections.{in_lane}
use Rattle.service.specs.Turning.{GoesInTurns}
use Rattle.service.specs.Events.{faults_in, lane_of}
use Rattle.service.specs.Shared.{IsOneList}
use Rattle.service.specs.declared.events.Event.{Event}
use Rattle.service.specs.declared.misses.MissOf.TheVariants as of

-- The link gained the responses of its connection, which was answered in turns of a lane, by a service with pages or without. `before` and `seen` are the
-- lists that its pass saw before and at the end.
pub record IsServedInTurns (pages : Bool) {L : Type 0} (link : L → LinkSeen) (opening : State) (clock : ClockSeen) (lane : ℕ) (before seen : List Event) (came went : L) (how : Served) : Type 0 where
  pub answered :
      Wrote (link came).stream (link went).stream
      (IsConnection (in_lane pages lane) (GoesInTurns pages opening clock.dial lane before seen) (HasFailed (link came).health (link went).health) (unread (link came).stream) (unread (link went).stream) how)
  -- the same of every link, by the record of what crossed it
  pub crossed :
      Crosses (link came).crossed (link went).crossed (IsConnectionBy (in_lane pages lane) (GoesInTurns pages opening clock.dial lane before seen) (HasFailed (link came).health (link went).health) how)
  pub goes_on : LinkGoesOn (link came) (link went)
  -- a clock that was sound at the opening ends no connection
  pub steady : IsSound clock.health → how ≢ served.ClockFault

-- At most `most` connections at a port were served, over a desk that was just opened. One list contains the history,
-- the clock's answers and the misses: the turns of every connection, and nothing else.
pub record IsServing {L : Type 0} (link : L → LinkSeen) (door : Over (DoorSeen L)) (clock : Over ClockSeen) (desk : Over DeskAt) (port most : ℕ) (end : ServeEnd) : Type 0 where
  pub list : List Event
  pub served : HasServed lane_of (IsServedInTurns false link desk.before.state clock.before) door list port most end
  pub is : IsOneList clock desk list
  -- If the serving ended with `Done`, the clock missed nothing. `ClockFault` is reported only if the clock failed and
  -- missed something.
  pub well : end ≡ ends.Done → faults_in of.Clock list ≡ []
  pub by_clock : end ≡ ends.ClockFault → HasFailed clock.before.health clock.after.health × (faults_in of.Clock list ≢ [])
