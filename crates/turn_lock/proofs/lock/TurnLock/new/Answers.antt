use Rattle.std.proofs.Common.{rules, ℕ, ◌++◌, sym, ap, subst, ◌∙◌}
use Rattle.turn_lock.specs.Elements.{EachBears}
use Rattle.turn_lock.proofs.StateLaws.{begins}
use Rattle.turn_lock.proofs.StepLaws.{lifts}
use Rattle.turn_lock.proofs.lock.TurnLock.new.Goals as goal

pub vacant-requires : goal.vacant-requires
vacant-requires g c = begins _ _

pub load-requires : goal.load-requires
load-requires g c = let opened = c.in-Ok.ensures in (search rules, search rules, lifts _ _ _ _ 0 _ (ap (λ m. m.0.stage) opened.4))

pub give-pass-requires-clause-list : goal.give-pass-requires-clause-list
give-pass-requires-clause-list g c =
    let opened = c.in-Ok.ensures in
    let view = c.load.ensures.2.0 in
    let bears = g.T.Listed.bears in
    let list = g.T.Listed.list c.args.value in (
      list,
      ap (λ l. l ++ list) (sym (ap (λ v. v.seen) view ∙ ap (λ m. m.0.seen) opened.4)),
      subst (λ (n : ℕ). EachBears bears n list) (sym (ap (λ v. v.number) view ∙ ap (λ m. m.0.number) opened.4)) c.requires,
    )
