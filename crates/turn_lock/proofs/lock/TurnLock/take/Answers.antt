use Rattle.std.proofs.Common.{rules, ap, sym, ◌∙◌, ◌%◌, ◌^◌, ◌∷◌, None, Some}
use Rattle.turn_lock.specs.declared.view.Stage.TheVariants.{Holding}
use Rattle.turn_lock.specs.Views.{ticket_of}
use Rattle.turn_lock.proofs.StateLaws.{slot_same, some_is}
use Rattle.turn_lock.proofs.StepLaws.{draws, looks}
use Rattle.atomic_table.specs.Table.{rest}
use Rattle.turn_lock.proofs.lock.TurnLock.take.Goals as goal

pub fetch_add-ticket-requires : goal.fetch_add-ticket-requires
fetch_add-ticket-requires g c = (search rules, search rules, draws _ _ _ _ _ (search rules))

pub load-served-requires : goal.load-served-requires
load-served-requires g c = let drew = c.fetch_add-ticket.ensures.2 in (
  search rules,
  search rules,
  looks _ _ _ _ drew.0 _ (ap (λ m. m.0.stage) c.loop.invariant.1 ∙ ap (λ v. v.stage) drew.1),
)

pub exchange-requires : goal.exchange-requires
exchange-requires g c =
    let drew = c.fetch_add-ticket.ensures.2 in
    let waits = ap (λ m. m.0.stage) c.loop.invariant.1 ∙ ap (λ v. v.stage) drew.1 in
    let took = c.load-served.ensures.2.0 (c.if-served-ticket.true ∙ drew.3 ∙ ap (λ g. ticket_of g % 2 ^ 64) (sym waits)) in
    (search rules, (Some took.0, took.2 ∙ ap (λ l. (0, Some took.0) ∷ l) (sym (ap rest took.2))))

pub unwrap-value-requires : goal.unwrap-value-requires
unwrap-value-requires g c =
    let drew = c.fetch_add-ticket.ensures.2 in
    let waits = ap (λ m. m.0.stage) c.loop.invariant.1 ∙ ap (λ v. v.stage) drew.1 in
    let took = c.load-served.ensures.2.0 (c.if-served-ticket.true ∙ drew.3 ∙ ap (λ g. ticket_of g % 2 ^ 64) (sym waits)) in
    some_is c.exchange.result took.0 (slot_same _ _ _ _ (sym c.exchange.ensures.2 ∙ took.2))

pub invariant_of-result : goal.invariant_of-result
invariant_of-result g c =
    let drew = c.fetch_add-ticket.ensures.2 in
    let waits = ap (λ m. m.0.stage) c.loop.invariant.1 ∙ ap (λ v. v.stage) drew.1 in
    let took = c.load-served.ensures.2.0 (c.if-served-ticket.true ∙ drew.3 ∙ ap (λ g. ticket_of g % 2 ^ 64) (sym waits)) in
    let now = c.exchange.ensures.3 in
    let nothing = ap rest took.2 ∙ ap (λ m. m.1) c.loop.invariant.1 ∙ drew.2 ∙ c.args.pass.idle.0 in
    let view = ap (λ m. m.0) now ∙ took.1 in
    record {
      out = (
        ap (λ m. m.1) now ∙ ap (λ l. (0, None) ∷ l) nothing,
        ap (λ v. v.stage) view ∙ ap (λ v. Holding (ticket_of v.stage)) (sym view),
        c.args.pass.idle.2 ∙ sym (ap (λ v. v.splits) view ∙ ap (λ m. m.0.splits) c.loop.invariant.1 ∙ ap (λ v. v.splits) drew.1),
      );
    }
