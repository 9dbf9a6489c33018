use Rattle.std.proofs.Common.{rules, ◌≡◌, sym, subst, ◌∙◌}
use Rattle.turn_lock.proofs.ElementLaws.{prefix_trans}
use mathlib.Core.List.{IsPrefix}
use Rattle.turn_lock.specs.Elements.{IsAmong, elements_of}
use Rattle.workers.specs.Passages.{worker_of}
use Rattle.turn_lock.specs.Passes.{pass_seen, turn_taken}
use Rattle.workers.proofs.DoorLaws.{continues_nothing}
use Rattle.workers.proofs.turns.take.Goals as goal

pub returns-then-has_room-clause-own : goal.returns-then-has_room-clause-own
returns-then-has_room-clause-own g c = λ n among. c.take-turn.ensures.own n (subst (IsAmong n) (sym c.loop.invariant.numbers) among) ∙ c.loop.invariant.own n among

pub give-pass-requires-clause-list : goal.give-pass-requires-clause-list
give-pass-requires-clause-list g c =
    let same : c.value.result.now.passages ≡ turn_taken c.take-turn.result = search rules in continues_nothing _ _ _ same

pub loop-preserved : goal.loop-preserved
loop-preserved g c =
    let inv = c.loop.invariant in
    let taken = c.take-turn.ensures in
    let same : c.value.result.now.passages ≡ turn_taken c.take-turn.result = search rules in
    let seen : pass_seen c.give-pass.result ≡ turn_taken c.take-turn.result = c.give-pass.ensures.seen ∙ same in
    record {
      lock = search rules;
      number = search rules;
      numbers = search rules;
      splits = search rules;
      seen = prefix_trans (pass_seen c.args.pass) (pass_seen c.loop.pass) (pass_seen c.give-pass.result) inv.seen (subst (λ l. IsPrefix (pass_seen c.loop.pass) l) (sym seen) taken.seen);
      own = λ n among. subst (λ l. elements_of worker_of n l ≡ elements_of worker_of n (pass_seen c.args.pass)) (sym seen) (taken.own n (subst (IsAmong n) (sym inv.numbers) among) ∙ inv.own n among);
    }
