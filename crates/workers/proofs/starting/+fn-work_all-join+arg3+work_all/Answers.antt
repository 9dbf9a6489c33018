use denote.Param.Send.{sendable}
use Rattle.std.proofs.Crossing.{crosses}
use Rattle.std.proofs.Common.{rules, ◌+◌, ◌-◌, ◌<◌, ap, subst, ◌∙◌, arith}
use Rattle.connections.proofs.RoundLaws.{none_at, none_next}
use Rattle.turn_lock.specs.Elements.{elements_of}
use Rattle.turn_lock.specs.Passes.{pass_numbers, pass_seen, pass_splits}
use Rattle.workers.proofs.CrewLaws.{have_more, have_none, takes_more, takes_none}
use Rattle.workers.proofs.Crossing.{Record_send}
use Rattle.workers.specs.Passages.{worker_of}
use Rattle.workers.specs.Work.{TakesLanes}
use Rattle.workers.proofs.starting.+fn-work_all-join+arg3+work_all.Goals as goal

pub returns-then-left-eq0-clause-takes : goal.returns-then-left-eq0-clause-takes
returns-then-left-eq0-clause-takes g t c =
    let zero = c.if-left-eq0.true in
    let early = c.args.pass in
    let last = c.run_beside-pass.result in
    subst (λ n. TakesLanes g.T.Listed.bears (pass_seen early) (pass_seen last) (pass_numbers early) (pass_numbers last) (pass_splits early) (pass_splits last) (c.args.before + 1) n) (omega (arith, zero)) c.run_beside-pass.ensures.takes

pub returns-then-left-eq0-clause-takes_at_door : goal.returns-then-left-eq0-clause-takes_at_door
returns-then-left-eq0-clause-takes_at_door g t c =
    takes_none worker_of (pass_seen c.args.at_door) (pass_numbers c.args.at_door) (pass_splits c.args.at_door) (c.args.before + 1) c.args.left c.if-left-eq0.true

pub returns-then-left-eq0-clause-worked : goal.returns-then-left-eq0-clause-worked
returns-then-left-eq0-clause-worked g t c =
    have_none g.T.Listed.bears g.W.Serving.says g.B.Beside.does (c.args.before + 1) c.args.left (pass_seen c.run_beside-pass.result) (pass_seen c.args.at_door) c.if-left-eq0.true c.run_beside-pass.ensures.beside

pub returns-clause-takes : goal.returns-clause-takes
returns-clause-takes g t c =
    let early = c.args.pass in
    let split = c.part-own.new.pass in
    let own = c.join-own.result.0.0 in
    let deep = c.join-own.result.1.0 in
    let last = c.join.new.pass in
    let some = c.if-left-eq0.false in
    let given = c.requires.lanes.0 in
    let count = c.part-own.ensures.count in
    let kept = c.part-own.ensures.kept in
    let joined = c.join.ensures in
    takes_more g.T.Listed.bears (pass_seen early) (pass_seen split) (pass_seen own) (pass_seen deep) (pass_seen last) (pass_numbers early) (pass_numbers split) (pass_numbers own) (pass_numbers deep) (pass_numbers last) (pass_splits early)
    (pass_splits split) (pass_splits deep) (pass_splits last) (c.args.before + 1) (c.args.left + 1) (c.args.left - 1 + 1) (omega (arith, some)) kept.seen kept.numbers (omega (arith, given, count)) joined.takes_in.splits
    record {
      own_is = c.join-own.ensures.first.0.numbers ∙ c.part-own.ensures.part.numbers;
      all_are = joined.takes_in.numbers;
      deep_within = joined.this;
      own_within = joined.that;
      deep_adds = joined.own_this;
      own_adds = joined.own_that;
    }
    c.join-own.ensures.second.1.1.0

pub returns-clause-takes_at_door : goal.returns-clause-takes_at_door
returns-clause-takes_at_door g t c =
    let early = c.args.at_door in
    let split = c.part-own_at_door.new.pass in
    let own = c.join-own.result.0.1 in
    let deep = c.join-own.result.1.1 in
    let last = c.join-2.new.pass in
    let some = c.if-left-eq0.false in
    let given = c.requires.lanes.1 in
    let count = c.part-own_at_door.ensures.count in
    let kept = c.part-own_at_door.ensures.kept in
    let joined = c.join-2.ensures in
    takes_more worker_of (pass_seen early) (pass_seen split) (pass_seen own) (pass_seen deep) (pass_seen last) (pass_numbers early) (pass_numbers split) (pass_numbers own) (pass_numbers deep) (pass_numbers last) (pass_splits early)
    (pass_splits split) (pass_splits deep) (pass_splits last) (c.args.before + 1) c.args.left (c.args.left - 1) (omega (arith, some)) kept.seen kept.numbers (omega (arith, given, count)) joined.takes_in.splits
    record {
      own_is = c.join-own.ensures.first.1.0.numbers ∙ c.part-own_at_door.ensures.part.numbers;
      all_are = joined.takes_in.numbers;
      deep_within = joined.this;
      own_within = joined.that;
      deep_adds = joined.own_this;
      own_adds = joined.own_that;
    }
    c.join-own.ensures.second.1.1.1.0

pub returns-clause-worked : goal.returns-clause-worked
returns-clause-worked g t c =
    let one = c.join-own.ensures.first in
    let two = c.join-own.ensures.second in
    let own = c.join-own.result.0.0 in
    let deep = c.join-own.result.1.0 in
    let at_own = c.join-own.result.0.1 in
    let at_deep = c.join-own.result.1.1 in
    let some = c.if-left-eq0.false in
    let joined = c.join.ensures in
    let at_joined = c.join-2.ensures in
    let lane = c.args.before + 1 in
    have_more g.T.Listed.bears g.W.Serving.says g.B.Beside.does (c.args.before + 1) c.args.left (c.args.left - 1) (pass_seen c.part-own.result) (pass_seen own) (pass_seen deep) (pass_seen c.join.new.pass) (pass_seen c.part-own_at_door.result)
    (pass_seen at_own) (pass_seen at_deep) (pass_seen c.join-2.new.pass) (pass_numbers own) (pass_numbers deep) (pass_numbers c.join.new.pass) (pass_numbers at_own) (pass_numbers at_deep) (pass_numbers c.join-2.new.pass) (omega (arith, some))
    (ap (elements_of g.T.Listed.bears (c.args.before + 1)) c.part-own.ensures.part.seen ∙ none_at g.T.Listed.bears (c.args.before + 1) (pass_seen c.args.pass) c.requires.none)
    (ap (elements_of worker_of (c.args.before + 1)) c.part-own_at_door.ensures.part.seen ∙ none_at worker_of (c.args.before + 1) (pass_seen c.args.at_door) c.requires.none_at_door) one.1.1
    record {
      own_is = one.0.numbers ∙ c.part-own.ensures.part.numbers;
      all_are = joined.takes_in.numbers;
      deep_within = joined.this;
      own_within = joined.that;
      deep_adds = joined.own_this;
      own_adds = joined.own_that;
    }
    record {
      own_is = one.1.0.numbers ∙ c.part-own_at_door.ensures.part.numbers;
      all_are = at_joined.takes_in.numbers;
      deep_within = at_joined.this;
      own_within = at_joined.that;
      deep_adds = at_joined.own_this;
      own_adds = at_joined.own_that;
    }
    two.1.1.0.lanes two.1.1.1.0.lanes two.1.1.1.1

pub join-own-requires-after_bounds : goal.join-own-requires-after_bounds
join-own-requires-after_bounds g t c κs within =
    let some = c.if-left-eq0.false in
    let few = c.requires.lanes.2 in
    let kept = c.part-own.ensures.kept in
    let at_kept = c.part-own_at_door.ensures.kept in
    let less : c.args.left - 1 < c.args.left = omega (arith, some) in (
      (
        search (sendable, crosses, rules) depth 60 fits 9000,
        c.requires.way,
        c.part-own.ensures.part.lock ∙ c.requires.lock.0,
        c.part-own.ensures.part.number,
        c.part-own_at_door.ensures.part.lock ∙ c.requires.doors.0,
        c.part-own_at_door.ensures.part.number,
      ),
      (
        search (rules, less),
        (
          (λ a is. is),
          (
            (λ a is. is),
            (
              (λ a is. is),
              (
                (λ a is. is),
                (
                  (λ a is. is),
                  (
                    (λ a is. is),
                    (
                      (λ a is. is),
                      (
                        (
                          search (sendable, crosses, rules) depth 60 fits 9000,
                          c.requires.way,
                          c.requires.beside,
                          search (sendable, crosses, rules) depth 60 fits 9000,
                          search (sendable, crosses, rules) depth 60 fits 9000,
                          search (sendable, crosses, rules) depth 60 fits 9000,
                          search (sendable, crosses, rules) depth 60 fits 9000,
                          search (sendable, crosses, rules) depth 60 fits 9000,
                          kept.lock ∙ c.requires.lock.0,
                          kept.number ∙ c.requires.lock.1,
                          at_kept.lock ∙ c.requires.doors.0,
                          at_kept.number ∙ c.requires.doors.1,
                          c.part-own.ensures.count,
                          c.part-own_at_door.ensures.count,
                          omega (arith, some, few),
                          none_next g.T.Listed.bears (c.args.before + 1) (pass_seen c.args.pass) (pass_seen c.part-own.new.pass) kept.seen c.requires.none,
                          none_next worker_of (c.args.before + 1) (pass_seen c.args.at_door) (pass_seen c.part-own_at_door.new.pass) at_kept.seen c.requires.none_at_door,
                        ),
                        (
                          search (sendable, crosses, rules, Record_send) depth 60 fits 9000,
                          search (sendable, crosses, rules, Record_send) depth 60 fits 9000,
                          search (sendable, crosses, rules, Record_send) depth 60 fits 9000,
                          search (sendable, crosses, rules, Record_send) depth 60 fits 9000,
                          search (sendable, crosses, rules, Record_send) depth 60 fits 9000,
                          search (sendable, crosses, rules, Record_send) depth 60 fits 9000,
                        ),
                      ),
                    ),
                  ),
                ),
              ),
            ),
          ),
        ),
      ),
    )
