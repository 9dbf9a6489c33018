use Rattle.std.proofs.Common.{rules, ◌≡◌, inl, sym, ap, subst, ◌∙◌}
use mathlib.Core.List.{IsPrefix}
use Rattle.turn_lock.specs.Elements.{elements_of}
use Rattle.turn_lock.specs.Passes.{pass_seen, turn_taken}
use Rattle.workers.proofs.TurnLaws.{back_of, seen_on}
use Rattle.workers.specs.Passages.{worker_of}
use Rattle.workers.proofs.turns.give_back.Goals as goal

pub returns-clause-went : goal.returns-clause-went
returns-clause-went g c =
    let taken = turn_taken c.take-turn.result in
    let now : c.value.result.now.passages ≡ taken = search rules in
    let seen : pass_seen c.give.result ≡ c.give_back.new.self.passages = search rules in
    let own : elements_of worker_of c.args.worker taken ≡ elements_of worker_of c.args.worker (pass_seen c.args.pass) = c.take-turn.ensures.own c.args.worker (inl (sym c.requires.1)) in
    back_of c.args.worker (pass_seen c.args.pass) c.value.result.now.passages c.give_back.new.self.passages (pass_seen c.give.result) c.args.visited (ap (elements_of worker_of c.args.worker) now ∙ own) seen c.give_back.ensures.went

pub returns-clause-pass : goal.returns-clause-pass
returns-clause-pass g c =
    let taken = turn_taken c.take-turn.result in
    let now : c.value.result.now.passages ≡ taken = search rules in
    let seen : pass_seen c.give.result ≡ c.give_back.new.self.passages = search rules in
    record {
      lock = search rules;
      number = search rules;
      numbers = search rules;
      seen = seen_on c.args.worker (pass_seen c.args.pass) c.value.result.now.passages c.give_back.new.self.passages (pass_seen c.give.result)
          (subst (λ l. IsPrefix (pass_seen c.args.pass) l) (sym now) c.take-turn.ensures.seen) c.give_back.ensures.list seen;
    }
