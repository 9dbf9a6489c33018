use Rattle.std.proofs.Common.{◌≡◌, []}
use mathlib.Core.List.{IsPrefix}
use Rattle.connections.specs.Connections.{GoesOn}
use Rattle.connections.specs.Crossed.{Crosses, GoesOnBy}
use Rattle.connections.specs.Writing.{Wrote}
use Rattle.desk_http.specs.Requests.{unused}
use Rattle.desk_net.specs.Seen.{LinkGoesOn}
use Rattle.desk_net.specs.Streams.{unread}
use Rattle.service.specs.Connections.{in_lane}
use Rattle.service.specs.Turning.{GoesInTurns}
use Rattle.service.specs.Shared.{IsSharedList}
use Rattle.turn_lock.specs.Passes.{pass_lock, pass_number, pass_numbers, pass_seen}
use Rattle.service.proofs.turns.serve_turns.Given as goal

abbrev pub invariant-loop : goal.invariant-loop
invariant-loop g l = record {
  lock : pass_lock l.pass ≡ pass_lock l.fn.pass;
  number : pass_number l.pass ≡ l.lane;
  numbers : pass_numbers l.pass ≡ pass_numbers l.fn.pass;
  seen : IsPrefix (pass_seen l.fn.pass) (pass_seen l.pass);
  shared : IsSharedList g.A.Opened.desk g.A.Opened.clock (pass_seen l.fn.pass) → IsSharedList g.A.Opened.desk g.A.Opened.clock (pass_seen l.pass);
  served : Wrote (g.N.Link.seen l.fn.link).stream (g.N.Link.seen l.link).stream
      (GoesOn (in_lane g.S.Surface.pages l.lane) (GoesInTurns g.S.Surface.pages g.A.Opened.desk.opening g.A.Opened.clock.dial l.lane (pass_seen l.fn.pass) (pass_seen l.pass)) (unread (g.N.Link.seen l.fn.link).stream)
      (unused l.buffer (unread (g.N.Link.seen l.link).stream)));
  crossed : Crosses (g.N.Link.seen l.fn.link).crossed (g.N.Link.seen l.link).crossed
      (GoesOnBy (in_lane g.S.Surface.pages l.lane) (GoesInTurns g.S.Surface.pages g.A.Opened.desk.opening g.A.Opened.clock.dial l.lane (pass_seen l.fn.pass) (pass_seen l.pass)) [] l.buffer);
  link : LinkGoesOn (g.N.Link.seen l.fn.link) (g.N.Link.seen l.link);
}
