use Rattle.std.proofs.Common.{[], Some, append-nil, refl, ◌∙◌, subst, sym}
use Rattle.connections.proofs.Crossing.{begins_crossed, crossed_end, crossed_on}
use Rattle.connections.proofs.Joins.{begins, written_end, written_on}
use Rattle.connections.proofs.Lines.{gains_still}
use Rattle.connections.specs.Connections.{IsStep}
use Rattle.connections.specs.Crossed.{Crosses, GoesOnBy, IsStepBy}
use Rattle.connections.specs.Writing.{Wrote}
use Rattle.desk_http.specs.Requests.{unused}
use Rattle.desk_io.proofs.HealthLaws.{failed_last, stays}
use Rattle.desk_io.proofs.HealthLaws as health
use Rattle.desk_io.specs.Health.{HasFailed}
use Rattle.desk_net.specs.Streams.{unread}
use Rattle.service.proofs.TurningLaws.{goes_none}
use Rattle.service.proofs.TurningLaws as turning
use Rattle.service.proofs.Endings.{not_by_link, unserved}
use Rattle.service.specs.Connections.{in_lane}
use Rattle.service.specs.Turning.{GoesInTurns}
use Rattle.turn_lock.proofs.ElementLaws.{prefix_self, prefix_trans}
use Rattle.turn_lock.specs.Passes.{pass_seen}
use Rattle.service.proofs.turns.serve_turns.Goals as goal

pub returns-in_default-clause-serves : goal.returns-in_default-clause-serves
returns-in_default-clause-serves g c = ([], gains_still _, unserved (in_lane g.S.Surface.pages c.args.lane) _ _ _ (goes_none _ _ _ _ _))

pub returns-in_default-clause-crosses : goal.returns-in_default-clause-crosses
returns-in_default-clause-crosses g c = ([], sym (append-nil _), record { is = unserved (in_lane g.S.Surface.pages c.args.lane) _ _ (Some []) (goes_none _ _ _ _ _); read_out = tt })

pub loop-init : goal.loop-init
loop-init g c = record {
  lock = refl;
  number = c.requires.lock.1;
  numbers = refl;
  seen = prefix_self _;
  shared = λ is. is;
  served = ([], gains_still _, begins _ _ _ _ c.new-buffer.ensures (goes_none _ _ _ _ _));
  crossed = subst (λ b. Crosses (g.N.Link.seen c.args.link.now).crossed (g.N.Link.seen c.args.link.now).crossed
      (GoesOnBy (in_lane g.S.Surface.pages c.args.lane) (GoesInTurns g.S.Surface.pages g.A.Opened.desk.opening g.A.Opened.clock.dial c.args.lane (pass_seen c.args.pass) (pass_seen c.args.pass)) [] b)) (sym c.new-buffer.ensures)
      (begins_crossed (in_lane g.S.Surface.pages c.args.lane) _ _ [] (goes_none _ _ _ _ _));
  link = stays _;
}

pub serve_next_in_turn-ended-requires : goal.serve_next_in_turn-ended-requires
serve_next_in_turn-ended-requires g c = record { lock = (c.loop.invariant.lock ∙ c.requires.lock.0, c.loop.invariant.number) }

pub returns-in-Some-ended-clause-serves : goal.returns-in-Some-ended-clause-serves
returns-in-Some-ended-clause-serves g c =
    let opening = g.A.Opened.desk.opening in
    let dial = g.A.Opened.clock.dial in
    let before = pass_seen c.args.pass in
    let middle = pass_seen c.loop.pass in
    let list = pass_seen c.serve_next_in_turn-ended.result.1 in
    let inv = c.loop.invariant in
    let is = c.serve_next_in_turn-ended.ensures in
    let ends = subst (λ r. Wrote (g.N.Link.seen c.loop.link).stream (g.N.Link.seen c.serve_next_in_turn-ended.new.link).stream (IsStep (in_lane g.S.Surface.pages c.args.lane) (GoesInTurns g.S.Surface.pages g.A.Opened.desk.opening g.A.Opened.clock.dial c.args.lane (pass_seen c.loop.pass) (pass_seen c.serve_next_in_turn-ended.result.1))
    (HasFailed (g.N.Link.seen c.loop.link).health (g.N.Link.seen c.serve_next_in_turn-ended.new.link).health) (unused c.loop.buffer (unread (g.N.Link.seen c.loop.link).stream))
    (unused c.serve_next_in_turn-ended.new.buffer (unread (g.N.Link.seen c.serve_next_in_turn-ended.new.link).stream)) (unread (g.N.Link.seen c.serve_next_in_turn-ended.new.link).stream) r)) c.in-Some-ended.is is.serves in
    written_end (in_lane g.S.Surface.pages c.args.lane) (GoesInTurns g.S.Surface.pages opening dial c.args.lane before middle) (GoesInTurns g.S.Surface.pages opening dial c.args.lane middle list) (GoesInTurns g.S.Surface.pages opening dial c.args.lane before list)
    (turning.goes_on g.S.Surface.pages opening dial c.args.lane before middle list is.seen) _ _ _ _ _ _ _ _ _ (failed_last _ _ (g.N.Link.seen c.serve_next_in_turn-ended.new.link).health inv.link) inv.served ends

pub returns-in-Some-ended-clause-crosses : goal.returns-in-Some-ended-clause-crosses
returns-in-Some-ended-clause-crosses g c =
    let opening = g.A.Opened.desk.opening in
    let dial = g.A.Opened.clock.dial in
    let before = pass_seen c.args.pass in
    let middle = pass_seen c.loop.pass in
    let list = pass_seen c.serve_next_in_turn-ended.result.1 in
    let inv = c.loop.invariant in
    let is = c.serve_next_in_turn-ended.ensures in
    let ends = subst (λ r. Crosses (g.N.Link.seen c.loop.link).crossed (g.N.Link.seen c.serve_next_in_turn-ended.new.link).crossed (IsStepBy (in_lane g.S.Surface.pages c.args.lane) (GoesInTurns g.S.Surface.pages g.A.Opened.desk.opening g.A.Opened.clock.dial c.args.lane (pass_seen c.loop.pass) (pass_seen c.serve_next_in_turn-ended.result.1))
    (HasFailed (g.N.Link.seen c.loop.link).health (g.N.Link.seen c.serve_next_in_turn-ended.new.link).health) c.loop.buffer c.serve_next_in_turn-ended.new.buffer r)) c.in-Some-ended.is is.crosses in
    crossed_end (in_lane g.S.Surface.pages c.args.lane) (GoesInTurns g.S.Surface.pages opening dial c.args.lane before middle) (GoesInTurns g.S.Surface.pages opening dial c.args.lane middle list) (GoesInTurns g.S.Surface.pages opening dial c.args.lane before list)
    (turning.goes_on g.S.Surface.pages opening dial c.args.lane before middle list is.seen) _ _ _ _ _ [] c.loop.buffer _ (failed_last _ _ (g.N.Link.seen c.serve_next_in_turn-ended.new.link).health inv.link) inv.crossed ends

pub loop-preserved : goal.loop-preserved
loop-preserved g c =
    let opening = g.A.Opened.desk.opening in
    let dial = g.A.Opened.clock.dial in
    let before = pass_seen c.args.pass in
    let middle = pass_seen c.loop.pass in
    let list = pass_seen c.serve_next_in_turn-ended.result.1 in
    let inv = c.loop.invariant in
    let is = c.serve_next_in_turn-ended.ensures in
    let more = subst (λ r. Wrote (g.N.Link.seen c.loop.link).stream (g.N.Link.seen c.serve_next_in_turn-ended.new.link).stream (IsStep (in_lane g.S.Surface.pages c.args.lane) (GoesInTurns g.S.Surface.pages g.A.Opened.desk.opening g.A.Opened.clock.dial c.args.lane (pass_seen c.loop.pass) (pass_seen c.serve_next_in_turn-ended.result.1))
    (HasFailed (g.N.Link.seen c.loop.link).health (g.N.Link.seen c.serve_next_in_turn-ended.new.link).health) (unused c.loop.buffer (unread (g.N.Link.seen c.loop.link).stream))
    (unused c.serve_next_in_turn-ended.new.buffer (unread (g.N.Link.seen c.serve_next_in_turn-ended.new.link).stream)) (unread (g.N.Link.seen c.serve_next_in_turn-ended.new.link).stream) r)) c.in_default-ended.is is.serves in
    let crosses = subst (λ r. Crosses (g.N.Link.seen c.loop.link).crossed (g.N.Link.seen c.serve_next_in_turn-ended.new.link).crossed (IsStepBy (in_lane g.S.Surface.pages c.args.lane) (GoesInTurns g.S.Surface.pages g.A.Opened.desk.opening g.A.Opened.clock.dial c.args.lane (pass_seen c.loop.pass) (pass_seen c.serve_next_in_turn-ended.result.1))
    (HasFailed (g.N.Link.seen c.loop.link).health (g.N.Link.seen c.serve_next_in_turn-ended.new.link).health) c.loop.buffer c.serve_next_in_turn-ended.new.buffer r)) c.in_default-ended.is is.crosses in
    record {
      lock = is.pass.0 ∙ inv.lock;
      number = is.pass.1;
      numbers = is.numbers ∙ inv.numbers;
      seen = prefix_trans before middle list inv.seen is.seen;
      shared = λ shared. is.shared (inv.shared shared);
      served = written_on (in_lane g.S.Surface.pages c.args.lane) (GoesInTurns g.S.Surface.pages opening dial c.args.lane before middle) (GoesInTurns g.S.Surface.pages opening dial c.args.lane middle list) (GoesInTurns g.S.Surface.pages opening dial c.args.lane before list)
          (turning.goes_on g.S.Surface.pages opening dial c.args.lane before middle list is.seen) _ _ _ _ _ _ inv.served more;
      crossed = crossed_on (in_lane g.S.Surface.pages c.args.lane) (GoesInTurns g.S.Surface.pages opening dial c.args.lane before middle) (GoesInTurns g.S.Surface.pages opening dial c.args.lane middle list) (GoesInTurns g.S.Surface.pages opening dial c.args.lane before list)
          (turning.goes_on g.S.Surface.pages opening dial c.args.lane before middle list is.seen) _ _ _ [] c.loop.buffer c.serve_next_in_turn-ended.new.buffer inv.crossed crosses;
      link = health.goes_on _ _ _ inv.link is.link;
    }

pub returns-in-Some-ended-clause-steady_link : goal.returns-in-Some-ended-clause-steady_link
returns-in-Some-ended-clause-steady_link g c =
    let serves = returns-in-Some-ended-clause-serves g c in
    λ sound. not_by_link (in_lane g.S.Surface.pages c.args.lane) _ _ _ _ _ _ serves.2 (λ failed. failed.1 sound)

pub returns-in-Some-ended-clause-shared : goal.returns-in-Some-ended-clause-shared
returns-in-Some-ended-clause-shared g c = λ shared. c.serve_next_in_turn-ended.ensures.shared (c.loop.invariant.shared shared)
