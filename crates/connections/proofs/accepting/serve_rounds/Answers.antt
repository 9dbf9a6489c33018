use Rattle.std.proofs.Common.{◌≡◌, ◌+◌, inl, true, false, refl, sym, subst, ◌∙◌, arith}
use Rattle.desk_io.specs.Health.{RoseOrFull}
use Rattle.turn_lock.specs.Passes.{pass_numbers, pass_seen, pass_splits}
use Rattle.connections.specs.Rounds.{EndsRound}
use Rattle.connections.proofs.Counting.{full_before, next_round}
use Rattle.connections.proofs.RunLaws.{end_not_door, round_links, run_to_end, run_to_fault, run_unopened, served_none}
use Rattle.connections.proofs.accepting.serve_rounds.Goals as goal

pub returns-in_default-clause-run : goal.returns-in_default-clause-run
returns-in_default-clause-run g c = λ list is_last.
    let early = c.args.between in
    let is = c.in_default.ensures in
    run_unopened g.T.Listed.bears g.W.Serving.says (g.D.Door.seen early.door) (g.D.Door.seen c.bind.new.self) (pass_seen early.pass) list (pass_numbers early.pass) (pass_splits early.pass) c.args.port
    c.args.connections c.requires.first.0 c.requires.first.1 c.requires.none is.same is.passed is.cause.0 is_last

pub loop-before-init : goal.loop-before-init
loop-before-init g c =
    let early = c.args.between in
    let is = c.in-Ok.ensures in
    record {
      lock = refl;
      number = c.requires.lock.1;
      splits = c.requires.first.0;
      within = omega arith;
      round = (0, inl refl);
      empty = c.requires.room.0;
      room = c.requires.room.1;
      served = served_none g.T.Listed.bears g.W.Serving.says c.args.port (g.D.Door.seen early.door) (g.D.Door.seen c.bind.new.self) (pass_seen early.pass) (pass_numbers early.pass) (pass_splits early.pass) early.met
          c.requires.first.0 c.requires.first.1 c.requires.none is.same is.passed is.opened is.on c.requires.met;
    }

pub returns-then-failed-clause-run : goal.returns-then-failed-clause-run
returns-then-failed-clause-run g c = λ list is_last.
    let inv = c.loop-before.invariant in
    let old = c.loop-before.between in
    let next = c.serve_round-next.result.0 in
    let is = c.serve_round-next.ensures in
    let within = c.loop-before-test.true in
    let least = c.min-most.ensures in
    let ended : EndsRound (RoseOrFull (g.D.Door.seen old.door).health.faults (g.D.Door.seen next.door).health.faults) (c.loop-before.before + c.min-most.result) (pass_splits next.pass) true =
    subst (EndsRound (RoseOrFull (g.D.Door.seen old.door).health.faults (g.D.Door.seen next.door).health.faults) (c.loop-before.before + c.min-most.result) (pass_splits next.pass)) c.if-failed.true is.ends in
    let few = ended.1 in
    run_to_fault g.T.Listed.bears g.W.Serving.says (g.D.Door.seen c.args.between.door) (g.D.Door.seen old.door) (g.D.Door.seen next.door) (pass_seen next.pass) list (pass_numbers next.pass) (pass_splits next.pass)
    c.args.port c.args.connections next.met c.end_at_door-end.result c.end_at_door-end.ensures (omega (arith, few, least, within)) inv.served.later ended.0 (is.served c.args.port (g.D.Door.seen c.args.between.door) inv.round.0 (full_before c.loop-before.before c.args.connections inv.round within) inv.served) is_last

pub returns-then-failed-clause-steady : goal.returns-then-failed-clause-steady
returns-then-failed-clause-steady g c = λ sound links is_fault.
    let inv = c.loop-before.invariant in
    let old = c.loop-before.between in
    let within = c.loop-before-test.true in
    let least = c.min-most.ensures in
    let splits = inv.splits in
    let next = round_links g.T.Listed.bears g.W.Serving.says c.args.port (g.D.Door.seen c.args.between.door) (g.D.Door.seen old.door) (pass_seen old.pass) (pass_numbers old.pass) (pass_splits old.pass) c.min-most.result
    c.args.connections old.met inv.served (omega (arith, splits, least, within)) links in
    let both : true ≡ false = sym c.if-failed.true ∙ c.serve_round-next.ensures.steady (inv.served.sound sound) next in absurd (cc)

pub returns-clause-run : goal.returns-clause-run
returns-clause-run g c = λ list is_last.
    let inv = c.loop-before.invariant in
    let last = c.loop-before.between in
    let all = c.loop-before-test.false in
    let within = inv.within in
    let splits = inv.splits in
    run_to_end g.T.Listed.bears g.W.Serving.says (g.D.Door.seen c.args.between.door) (g.D.Door.seen last.door) (pass_seen last.pass) list (pass_numbers last.pass) (pass_splits last.pass) c.args.port c.args.connections last.met
    c.end_of-end.result c.end_of-end.ensures (omega (arith, all, within, splits)) inv.served is_last

pub returns-clause-steady : goal.returns-clause-steady
returns-clause-steady g c = λ sound links. end_not_door c.loop-before.between.met c.end_of-end.result c.end_of-end.ensures

pub loop-before-preserved : goal.loop-before-preserved
loop-before-preserved g c =
    let inv = c.loop-before.invariant in
    let old = c.loop-before.between in
    let next = c.serve_round-next.result.0 in
    let is = c.serve_round-next.ensures in
    let within = c.loop-before-test.true in
    let least = c.min-most.ensures in
    let same = is.room.1 in
    let had = inv.room in
    record {
      lock = is.pass.0 ∙ inv.lock;
      number = is.pass.1;
      splits = subst (EndsRound (RoseOrFull (g.D.Door.seen old.door).health.faults (g.D.Door.seen next.door).health.faults) (c.loop-before.before + c.min-most.result) (pass_splits next.pass)) c.if-failed.false is.ends;
      within = omega (arith, least, within);
      empty = is.room.0;
      room = omega (arith, same, had);
      round = next_round c.loop-before.before c.args.connections c.min-most.result inv.round within least;
      served = is.served c.args.port (g.D.Door.seen c.args.between.door) inv.round.0 (full_before c.loop-before.before c.args.connections inv.round within) inv.served;
    }
