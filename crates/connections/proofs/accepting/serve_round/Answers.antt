use Rattle.std.proofs.Common.{◌≤◌, sym, subst}
use Rattle.desk_io.specs.Health.{Health}
use Rattle.turn_lock.specs.Passes.{pass_numbers, pass_seen, pass_splits}
use Rattle.connections.specs.Rounds.{AreServed}
use Rattle.connections.proofs.RunLaws.{goes_over, round_ends, round_on}
use Rattle.connections.proofs.accepting.serve_round.Goals as goal

pub returns-clause-served : goal.returns-clause-served
returns-clause-served g c = λ port began round full has.
    let early = c.args.between in
    let looked = c.look-seen.ensures in
    let rest = c.serve_rest-door.ensures in
    let gave = c.give_back-met.ensures in
    let last = c.serve_rest-door.result.3 in
    round_on g.T.Listed.bears g.W.Serving.says port began (g.D.Door.seen early.door) (g.D.Door.seen c.serve_rest-door.result.0) (g.D.Door.seen c.give_back-met.new.door) (pass_seen early.pass) (pass_seen c.look-seen.result) (pass_seen last)
    (pass_numbers early.pass) (pass_numbers last) c.args.before (pass_splits last) c.args.most round early.met c.give_back-met.result c.serve_rest-door.result.1.items c.serve_rest-door.result.2 full c.requires.lanes.2
    (subst (λ n. AreServed g.T.Listed.bears g.W.Serving.says port began (g.D.Door.seen early.door) (pass_seen early.pass) (pass_numbers early.pass) n early.met) c.requires.lanes.0 has) looked.seen
    (goes_over g.T.Listed.bears (pass_seen early.pass) (pass_seen c.look-seen.result) (pass_seen last) (pass_numbers early.pass) (pass_numbers c.look-seen.result) (pass_numbers last) looked.numbers looked.seen looked.own
    rest.seen rest.own rest.among) rest.round gave.back gave.health gave.port

pub returns-clause-ends : goal.returns-clause-ends
returns-clause-ends g c =
    let last = c.serve_rest-door.result.3 in
    round_ends g.T.Listed.bears g.W.Serving.says (g.D.Door.seen c.args.between.door) (g.D.Door.seen c.serve_rest-door.result.0) (g.D.Door.seen c.give_back-met.new.door) (pass_seen c.look-seen.result) (pass_seen last) (pass_numbers last) c.args.before
    (pass_splits last) c.args.most c.serve_rest-door.result.1.items c.serve_rest-door.result.2 c.serve_rest-door.ensures.round c.give_back-met.ensures.health

pub returns-clause-steady : goal.returns-clause-steady
returns-clause-steady g c = λ sound links. (c.serve_rest-door.ensures.round.steady sound).1 links

pub returns-clause-count : goal.returns-clause-count
returns-clause-count g c =
    subst (λ (h : Health). (g.D.Door.seen c.args.between.door).health.faults ≤ h.faults) (sym c.give_back-met.ensures.health) c.serve_rest-door.ensures.round.later
