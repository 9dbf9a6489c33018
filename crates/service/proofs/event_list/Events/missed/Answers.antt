use Rattle.std.proofs.Common.{◌≡◌, ◌+◌, ap, arith, length, length-append, sym, ◌∙◌}
use Rattle.service.specs.Events.{keeps, keeps_after}
use Rattle.service.proofs.KeepsLaws.{keeps_missed}
use Rattle.service.proofs.event_list.Events.missed.Goals as goal

pub invariant_of-self : goal.invariant_of-self
invariant_of-self c =
    let grown = ap length c.with.ensures ∙ length-append c.self.inside.record.list _ in
    let before = c.self.invariant.0 in
    let count : c.self.inside.count + 1 ≡ length c.with.result.list = omega (arith, before, grown) in (
      count,
      c.keeps_after-self-inside.ensures
          ∙ ap (λ kept. keeps_after kept c.args.miss.source) c.self.invariant.1
          ∙ sym (keeps_missed c.self.inside.record.list c.args.miss)
          ∙ ap (λ l. keeps l) (sym c.with.ensures),
    )
