use Rattle.std.proofs.Common.{rules, ◌∷◌, Some, sym, ap, subst, ◌∙◌}
use Rattle.turn_lock.specs.Elements.{Continues}
use Rattle.turn_lock.specs.Views.{ticket_of}
use Rattle.turn_lock.proofs.StepLaws.{counts, serves}
use Rattle.atomic_table.specs.Table.{rest}
use Rattle.turn_lock.specs.declared.view.View.{View}
use Rattle.turn_lock.proofs.lock.TurnLock.give.Goals as goal

pub store-requires : goal.store-requires
store-requires g c =
    let held = c.args.turn.place.out in
    let now = c.exchange.ensures.3 in
    let view = ap (λ m. m.0) now in
    let holds = ap (λ v. v.stage) view ∙ held.1 in
    let has = ap (λ m. m.1) now ∙ ap (λ l. (0, Some c.args.turn.value) ∷ l) (ap rest held.0) in (
      search rules,
      search rules,
      counts _ _ _ _ (ticket_of c.args.turn.place.seat.me.0.stage) _ c.exchange.new.seat.me c.args.turn.value holds has
          (subst (λ (v : View g.row.T-Element.Denot). Continues g.T.Listed.bears v.number v.seen (g.T.Listed.list c.args.turn.value)) (sym view) c.requires.list) c.length-length.ensures,
    )

pub fetch_add-served-requires : goal.fetch_add-served-requires
fetch_add-served-requires g c =
    let held = c.args.turn.place.out in
    let now = c.exchange.ensures.3 in
    let view = ap (λ m. m.0) now in
    let holds = ap (λ v. v.stage) view ∙ held.1 in
    let has = ap (λ m. m.1) now ∙ ap (λ l. (0, Some c.args.turn.value) ∷ l) (ap rest held.0) in
    let counted = c.store.ensures.2 c.args.turn.value has in (
      search rules,
      search rules,
      serves _ _ _ _ (ticket_of c.args.turn.place.seat.me.0.stage) c.store.new.seat.me c.args.turn.value (ap (λ v. v.stage) counted.0 ∙ holds) (counted.1 ∙ has) (ap (λ v. v.seen) counted.0),
    )

pub invariant_of-result : goal.invariant_of-result
invariant_of-result g c =
    let held = c.args.turn.place.out in
    let now = c.exchange.ensures.3 in
    let view = ap (λ m. m.0) now in
    let has = ap (λ m. m.1) now ∙ ap (λ l. (0, Some c.args.turn.value) ∷ l) (ap rest held.0) in
    let counted = c.store.ensures.2 c.args.turn.value has in
    let served = c.fetch_add-served.ensures.2 in
    record {
      idle = (
        served.1,
        ap (λ v. v.stage) served.0,
        held.2 ∙ sym (ap (λ v. v.splits) served.0 ∙ ap (λ v. v.splits) counted.0 ∙ ap (λ v. v.splits) view),
      );
    }
