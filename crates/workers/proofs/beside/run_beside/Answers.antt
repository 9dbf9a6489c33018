use Rattle.std.proofs.Common.{◌≡◌, ◌+◌, [], refl, ap, ◌∙◌, arith}
use Rattle.connections.proofs.RoundLaws.{none_at}
use Rattle.turn_lock.specs.Elements.{elements_of}
use Rattle.turn_lock.specs.Passes.{pass_numbers, pass_seen, pass_splits}
use Rattle.workers.proofs.CrewLaws.{beside_in, takes_more, takes_none}
use Rattle.workers.proofs.beside.run_beside.Goals as goal

pub returns-clause-takes : goal.returns-clause-takes
returns-clause-takes g c =
    let early = c.args.pass in
    let split = c.part-own.new.pass in
    let own = c.run_one-own.result in
    let kept = c.part-own.ensures.kept in
    let new = c.part-own.ensures.part in
    let joined = c.join.ensures in
    let given = c.requires.lanes.0 in
    let count = c.part-own.ensures.count in
    takes_more g.T.Listed.bears (pass_seen early) (pass_seen split) (pass_seen own) (pass_seen split) (pass_seen c.join.new.pass) (pass_numbers early) (pass_numbers split) (pass_numbers own) (pass_numbers split)
    (pass_numbers c.join.new.pass) (pass_splits early) (pass_splits split) (pass_splits split) (pass_splits c.join.new.pass) (c.args.before + 1) 1 0 refl kept.seen kept.numbers (omega (arith, given, count)) joined.takes_in.splits
    record {
      own_is = c.run_one-own.ensures.pass.numbers ∙ new.numbers;
      all_are = joined.takes_in.numbers;
      deep_within = joined.this;
      own_within = joined.that;
      deep_adds = joined.own_this;
      own_adds = joined.own_that;
    }
    (takes_none g.T.Listed.bears (pass_seen split) (pass_numbers split) (pass_splits split) (c.args.before + 1 + 1) 0 refl)

pub returns-clause-beside : goal.returns-clause-beside
returns-clause-beside g c =
    let split = c.part-own.new.pass in
    let own = c.run_one-own.result in
    let new = c.part-own.ensures.part in
    let joined = c.join.ensures in
    let fresh : elements_of g.T.Listed.bears (c.args.before + 1) (pass_seen c.part-own.result) ≡ [] =
    ap (elements_of g.T.Listed.bears (c.args.before + 1)) new.seen ∙ none_at g.T.Listed.bears (c.args.before + 1) (pass_seen c.args.pass) c.requires.none in
    beside_in g.T.Listed.bears g.B.Beside.does (c.args.before + 1) (pass_seen c.part-own.result) (pass_seen own) (pass_seen split) (pass_seen c.join.new.pass) (pass_numbers own) (pass_numbers split) (pass_numbers c.join.new.pass) fresh
    c.run_one-own.ensures.pass.seen c.run_one-own.ensures.does
    record {
      own_is = c.run_one-own.ensures.pass.numbers ∙ new.numbers;
      all_are = joined.takes_in.numbers;
      deep_within = joined.this;
      own_within = joined.that;
      deep_adds = joined.own_this;
      own_adds = joined.own_that;
    }
