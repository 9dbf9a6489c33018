use Rattle.std.proofs.Common.{rules, ◌≡◌, inl, sym, ap, subst, ◌∙◌}
use mathlib.Core.List.{IsPrefix}
use Rattle.turn_lock.specs.Elements.{elements_of}
use Rattle.turn_lock.specs.Passes.{pass_seen, turn_number, turn_taken}
use Rattle.workers.proofs.DoorLaws.{continues_as}
use Rattle.workers.proofs.TurnLaws.{came_of, failed_of, none_of, seen_on}
use Rattle.workers.specs.Passages.{worker_of}
use Rattle.workers.proofs.turns.accept.Goals as goal

pub returns-clause-came : goal.returns-clause-came
returns-clause-came g c =
    let next = c.accept-next in
    let taken = turn_taken c.take-turn.result in
    let now : c.value.result.now.passages ≡ taken = search rules in
    let seen : pass_seen c.give.result ≡ next.new.self.passages = search rules in
    let own : elements_of worker_of c.args.worker taken ≡ elements_of worker_of c.args.worker (pass_seen c.args.pass) = c.take-turn.ensures.own c.args.worker (inl (sym c.requires.1)) in
    came_of c.args.worker (pass_seen c.args.pass) c.value.result.now.passages next.new.self.passages (pass_seen c.give.result) next.result (ap (elements_of worker_of c.args.worker) now ∙ own) seen next.ensures.came

pub returns-clause-none : goal.returns-clause-none
returns-clause-none g c =
    let next = c.accept-next in
    let taken = turn_taken c.take-turn.result in
    let now : c.value.result.now.passages ≡ taken = search rules in
    let seen : pass_seen c.give.result ≡ next.new.self.passages = search rules in
    let own : elements_of worker_of c.args.worker taken ≡ elements_of worker_of c.args.worker (pass_seen c.args.pass) = c.take-turn.ensures.own c.args.worker (inl (sym c.requires.1)) in
    none_of c.args.worker (pass_seen c.args.pass) c.value.result.now.passages next.new.self.passages (pass_seen c.give.result) next.result (ap (elements_of worker_of c.args.worker) now ∙ own) seen next.ensures.none

pub returns-clause-failed : goal.returns-clause-failed
returns-clause-failed g c =
    let next = c.accept-next in
    let seen : pass_seen c.give.result ≡ next.new.self.passages = search rules in failed_of c.args.worker next.new.self.passages (pass_seen c.give.result) next.result seen next.ensures.failed

pub returns-clause-pass : goal.returns-clause-pass
returns-clause-pass g c =
    let next = c.accept-next in
    let taken = turn_taken c.take-turn.result in
    let now : c.value.result.now.passages ≡ taken = search rules in
    let seen : pass_seen c.give.result ≡ next.new.self.passages = search rules in
    record {
      lock = search rules;
      number = search rules;
      numbers = search rules;
      seen = seen_on c.args.worker (pass_seen c.args.pass) c.value.result.now.passages next.new.self.passages (pass_seen c.give.result) (subst (λ l. IsPrefix (pass_seen c.args.pass) l) (sym now) c.take-turn.ensures.seen)
          next.ensures.list seen;
    }

pub give-requires-clause-list : goal.give-requires-clause-list
give-requires-clause-list g c =
    let next = c.accept-next in
    let taken = turn_taken c.take-turn.result in
    let now : c.value.result.now.passages ≡ taken = search rules in
    let number : turn_number c.take-turn.result ≡ c.args.worker = c.take-turn.ensures.turn.number ∙ c.requires.1 in
    continues_as c.args.worker (turn_number c.take-turn.result) c.value.result.now.passages taken next.new.self.passages number now next.ensures.list
