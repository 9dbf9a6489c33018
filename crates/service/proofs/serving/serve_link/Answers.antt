use Rattle.std.proofs.Common.{false, [], ◌∙◌, refl}
use Rattle.connections.proofs.Joins.{begins, written_end, written_on}
use Rattle.connections.proofs.Lines.{gains_still}
use Rattle.desk.proofs.SeenLaws.{desk_stays, desk_on}
use Rattle.desk_io.proofs.HealthLaws.{stays, failed_last}
use Rattle.desk_io.proofs.HealthLaws as health
use Rattle.desk_net.proofs.SeenLaws.{clock_stays, clock_on}
use Rattle.service.specs.Alone.{GoesAlone}
use Rattle.service.specs.Connections.{in_lane}
use Rattle.service.proofs.AloneLaws.{goes_none, goes_on}
use Rattle.service.proofs.Endings.{not_by_clock, not_by_link, unserved}
use Rattle.service.proofs.serving.serve_link.Goals as goal

pub returns-in_default-clause-serves : goal.returns-in_default-clause-serves
returns-in_default-clause-serves g c = ([], gains_still _, unserved (in_lane false c.args.lane) _ _ _ (goes_none _ _ _ _))

pub loop-init : goal.loop-init
loop-init g c = record {
  served = ([], gains_still _, begins _ _ _ _ c.new-buffer.ensures (goes_none _ _ _ _));
  desk = desk_stays _;
  still = refl;
  clock = clock_stays _;
  link = stays _;
}

pub returns-in-Some-serve_next-clause-serves : goal.returns-in-Some-serve_next-clause-serves
returns-in-Some-serve_next-clause-serves g c =
    let inv = c.loop.invariant in
    let is = c.in-Some-serve_next.ensures in
    let lane = c.args.lane in
    written_end (in_lane false lane) (GoesAlone lane (g.C.Clock.seen c.args.clock.now) (g.C.Clock.seen c.loop.clock) _ _ _ _) (GoesAlone lane (g.C.Clock.seen c.loop.clock) (g.C.Clock.seen c.serve_next.new.clock) _ _ _ _)
    (GoesAlone lane (g.C.Clock.seen c.args.clock.now) (g.C.Clock.seen c.serve_next.new.clock) _ _ _ _)
    (goes_on lane _ _ _ _ _ _ _ _ _ inv.clock) _ _ _ _ _ _ _ _ _ (failed_last _ _ (g.N.Link.seen c.serve_next.new.link).health inv.link) inv.served is.serves

pub returns-in-Some-serve_next-clause-desk : goal.returns-in-Some-serve_next-clause-desk
returns-in-Some-serve_next-clause-desk g c = desk_on _ _ _ c.loop.invariant.desk c.serve_next.ensures.desk

pub returns-in-Some-serve_next-clause-clock : goal.returns-in-Some-serve_next-clause-clock
returns-in-Some-serve_next-clause-clock g c = clock_on _ _ _ c.loop.invariant.clock c.serve_next.ensures.clock

pub returns-in-Some-serve_next-clause-still : goal.returns-in-Some-serve_next-clause-still
returns-in-Some-serve_next-clause-still g c = λ other more. c.serve_next.ensures.still (λ e. other (cc)) (λ e. more (cc)) ∙ c.loop.invariant.still

pub returns-in-Some-serve_next-clause-link : goal.returns-in-Some-serve_next-clause-link
returns-in-Some-serve_next-clause-link g c = health.goes_on _ _ _ c.loop.invariant.link c.serve_next.ensures.link

pub returns-in-Some-serve_next-clause-steady_clock : goal.returns-in-Some-serve_next-clause-steady_clock
returns-in-Some-serve_next-clause-steady_clock g c =
    let serves = returns-in-Some-serve_next-clause-serves g c in λ sound. not_by_clock _ _ _ _ _ _ _ _ _ _ _ _ serves.2 (λ failed. failed.1 sound)

pub returns-in-Some-serve_next-clause-steady_link : goal.returns-in-Some-serve_next-clause-steady_link
returns-in-Some-serve_next-clause-steady_link g c =
    let serves = returns-in-Some-serve_next-clause-serves g c in λ sound. not_by_link (in_lane false c.args.lane) _ _ _ _ _ _ serves.2 (λ failed. failed.1 sound)

pub loop-preserved : goal.loop-preserved
loop-preserved g c =
    let inv = c.loop.invariant in
    let is = c.serve_next.ensures in
    let lane = c.args.lane in record {
      served = written_on (in_lane false lane) (GoesAlone lane (g.C.Clock.seen c.args.clock.now) (g.C.Clock.seen c.loop.clock) _ _ _ _) (GoesAlone lane (g.C.Clock.seen c.loop.clock) (g.C.Clock.seen c.serve_next.new.clock) _ _ _ _)
          (GoesAlone lane (g.C.Clock.seen c.args.clock.now) (g.C.Clock.seen c.serve_next.new.clock) _ _ _ _)
          (goes_on lane _ _ _ _ _ _ _ _ _ inv.clock) _ _ _ _ _ _ inv.served c.in_default-serve_next.ensures.serves;
      desk = desk_on _ _ _ inv.desk is.desk;
      still = is.still (λ e. absurd (cc)) (λ e. absurd (cc)) ∙ inv.still;
      clock = clock_on _ _ _ inv.clock is.clock;
      link = health.goes_on _ _ _ inv.link is.link;
    }
