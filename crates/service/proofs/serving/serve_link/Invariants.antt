use Rattle.std.proofs.Common.{false, ◌≡◌}
use Rattle.connections.specs.Connections.{GoesOn}
use Rattle.connections.specs.Writing.{Wrote}
use Rattle.desk.specs.Seen.{desk_seen, DeskGoesOn}
use Rattle.desk_http.specs.Requests.{unused}
use Rattle.desk_net.specs.Seen.{ClockGoesOn, LinkGoesOn}
use Rattle.desk_net.specs.Streams.{unread}
use Rattle.service.specs.Alone.{GoesAlone}
use Rattle.service.specs.Connections.{in_lane}
use Rattle.service.proofs.serving.serve_link.Given as goal

abbrev pub invariant-loop : goal.invariant-loop
invariant-loop g l = record {
  served : Wrote (g.N.Link.seen l.fn.link).stream (g.N.Link.seen l.link).stream
      (GoesOn (in_lane false l.lane)
      (GoesAlone l.lane (g.C.Clock.seen l.fn.clock) (g.C.Clock.seen l.clock) (g.K.Keeper.seen l.fn.desk.keeper).health.faults (g.K.Keeper.seen l.desk.keeper).health.faults l.fn.desk.board.state l.desk.board.state)
      (unread (g.N.Link.seen l.fn.link).stream) (unused l.buffer (unread (g.N.Link.seen l.link).stream)));
  desk : DeskGoesOn (desk_seen g.K.Keeper.seen g.B.Bell.seen l.fn.desk) (desk_seen g.K.Keeper.seen g.B.Bell.seen l.desk);
  still : (g.C.Clock.seen l.clock).health.faults ≡ (g.C.Clock.seen l.fn.clock).health.faults;
  clock : ClockGoesOn (g.C.Clock.seen l.fn.clock) (g.C.Clock.seen l.clock);
  link : LinkGoesOn (g.N.Link.seen l.fn.link) (g.N.Link.seen l.link);
}
