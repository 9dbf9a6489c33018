use denote.Param.Send.{sendable}
use Rattle.std.proofs.Crossing.{crosses}
use Rattle.std.proofs.Common.{rules, ◌≡◌, ◌+◌, ◌-◌, ◌<◌, [], ◌∷◌, ap, ◌∙◌, arith}
use Rattle.desk_io.specs.Over.{over}
use Rattle.turn_lock.specs.Elements.{elements_of}
use Rattle.turn_lock.specs.Passes.{pass_numbers, pass_seen, pass_splits}
use Rattle.connections.proofs.RoundLaws.{all_more, none_at, none_next, own_more, round_failed, round_more, round_none}
use Rattle.connections.proofs.rounds.+fn-serve_rest-join+arg3+serve_rest.Goals as goal

pub returns-then-left-eq0-clause-round : goal.returns-then-left-eq0-clause-round
returns-then-left-eq0-clause-round g t c =
    let zero = c.if-left-eq0.true in
    let given = c.requires.lanes.0 in
    round_none g.T.Listed.bears g.W.Serving.says (c.args.before + 1) c.args.left (g.D.Door.seen c.args.door) (pass_seen c.args.pass) (pass_seen c.args.pass) (pass_numbers c.args.pass) (pass_splits c.args.pass) c.args.done.items
    (omega (arith, zero)) (omega (arith, given)) c.requires.room.0

pub returns-in_default-clause-round : goal.returns-in_default-clause-round
returns-in_default-clause-round g t c =
    let some = c.if-left-eq0.false in
    let given = c.requires.lanes.0 in
    let is = c.in_default.ensures in
    round_failed g.T.Listed.bears g.W.Serving.says (c.args.before + 1) c.args.left (over g.D.Door.seen c.args.door c.accept.new.self) (pass_seen c.args.pass) (pass_seen c.args.pass) (pass_numbers c.args.pass) (pass_splits c.args.pass) c.args.done.items
    c.in_default.field-0 (omega (arith, some)) (omega (arith, given)) c.requires.room.0 is.told is.port is.passed is.on is.cause

pub push_reserved-requires : goal.push_reserved-requires
push_reserved-requires g t c =
    let deep = c.join-visited.ensures.second in
    let some = c.if-left-eq0.false in
    let room = deep.1.1.1.1.1.0 in
    let many = deep.1.1.1.1.1.1 in
    let enough = c.requires.room.1 in omega (arith, some, room, many, enough)

pub returns-clause-among : goal.returns-clause-among
returns-clause-among g t c =
    let deep = c.join-visited.ensures.second in
    all_more (pass_numbers c.args.pass) (pass_numbers c.split.new.pass) (pass_numbers c.join-visited.result.1.3) (pass_numbers c.join-visited.result.0.1) (pass_numbers c.join.new.pass) c.split.ensures.kept.numbers
    c.join.ensures.takes_in.numbers deep.1.1.0

pub returns-clause-own : goal.returns-clause-own
returns-clause-own g t c =
    let deep = c.join-visited.ensures.second in
    own_more g.T.Listed.bears (pass_numbers c.args.pass) (pass_numbers c.split.new.pass) (pass_numbers c.join-visited.result.1.3) (pass_seen c.args.pass) (pass_seen c.split.new.pass) (pass_seen c.join-visited.result.1.3)
    (pass_seen c.join.new.pass) c.split.ensures.kept.numbers c.split.ensures.kept.seen deep.1.1.0 deep.1.1.1.0 c.join.ensures.own_this

pub returns-clause-round : goal.returns-clause-round
returns-clause-round g t c =
    let one = c.join-visited.ensures.first in
    let deep = c.join-visited.ensures.second in
    let some = c.if-left-eq0.false in
    let accepted = c.in-Ok.ensures in
    let new = c.in-Ok-split.ensures.part in
    let given = c.requires.lanes.0 in
    let lane : pass_splits c.args.pass + 1 ≡ c.args.before + 1 = omega (arith, given) in
    let joined = c.join.ensures in
    round_more _ g.T.Listed.bears g.W.Serving.says (c.args.before + 1) c.args.left (g.D.Door.seen c.args.door) (g.D.Door.seen c.accept.new.self) (g.D.Door.seen c.join-visited.result.1.0)
    (pass_seen c.args.pass) (pass_seen c.split.new.pass) (pass_seen c.join-visited.result.0.1) (pass_seen c.join-visited.result.1.3) (pass_seen c.join.new.pass) (pass_seen c.in-Ok-split.own) (pass_numbers c.join-visited.result.0.1) (pass_numbers c.join-visited.result.1.3)
    (pass_numbers c.join.new.pass) (pass_splits c.join.new.pass) (pass_splits c.join-visited.result.1.3) c.in-Ok.link c.join-visited.result.0.0 c.join-visited.result.1.1.items c.push_reserved.new.self.items c.join-visited.result.1.2
    (omega (arith, some)) joined.takes_in.splits accepted.told accepted.passed accepted.port accepted.on one.1.1.1 new.seen c.split.ensures.kept.seen one.1.1.0
    (ap (elements_of g.T.Listed.bears (c.args.before + 1)) new.seen ∙ none_at g.T.Listed.bears (c.args.before + 1) (pass_seen c.args.pass) c.requires.none) deep.1.1.1.1.0
    record {
      own_is = one.1.0 ∙ (new.numbers ∙ ap (λ n. n ∷ []) lane);
      all_are = joined.takes_in.numbers;
      deep_within = joined.this;
      own_within = joined.that;
      deep_adds = joined.own_this;
      own_adds = joined.own_that;
    }
    c.push_reserved.ensures.items

pub join-visited-requires-after_bounds : goal.join-visited-requires-after_bounds
join-visited-requires-after_bounds g t c κs within =
    let some = c.if-left-eq0.false in
    let few = c.requires.lanes.1 in
    let given = c.requires.lanes.0 in
    let enough = c.requires.room.1 in
    let kept = c.split.ensures.kept in
    let less : c.args.left - 1 < c.args.left = omega (arith, some) in (
      (search (sendable, crosses, rules) depth 60 fits 9000, c.requires.way, search rules, search rules),
      (
        search (rules, less),
        (
          (λ a is. is),
          (
            (λ a is. is),
            (
              (λ a is. is),
              (
                (λ a is. is),
                (
                  (λ a is. is),
                  (
                    (λ a is. is),
                    (
                      (
                        search (sendable, crosses, rules) depth 60 fits 9000,
                        c.requires.way,
                        search (sendable, crosses, rules) depth 60 fits 9000,
                        search (sendable, crosses, rules) depth 60 fits 9000,
                        search (sendable, crosses, rules) depth 60 fits 9000,
                        kept.lock ∙ c.requires.lock.0,
                        kept.number ∙ c.requires.lock.1,
                        search rules,
                        omega (arith, some, few),
                        none_next g.T.Listed.bears (c.args.before + 1) (pass_seen c.args.pass) (pass_seen c.split.new.pass) kept.seen c.requires.none,
                        c.requires.room.0,
                        omega (arith, some, enough),
                      ),
                      (
                        search (sendable, crosses, rules) depth 60 fits 9000,
                        search (sendable, crosses, rules) depth 60 fits 9000,
                        search (sendable, crosses, rules) depth 60 fits 9000,
                        search (sendable, crosses, rules) depth 60 fits 9000,
                      ),
                    ),
                  ),
                ),
              ),
            ),
          ),
        ),
      ),
    )
