use Rattle.std.proofs.Common.{◌≡◌, ◌+◌, ap, arith, length, length-append, sym, ◌∙◌}
use Rattle.service.specs.Events.{keeps}
use Rattle.service.proofs.KeepsLaws.{keeps_told}
use Rattle.service.proofs.event_list.Events.told.Goals as goal

pub invariant_of-self : goal.invariant_of-self
invariant_of-self c =
    let grown = ap length c.with.ensures ∙ length-append c.self.inside.record.list _ in
    let before = c.self.invariant.0 in
    let count : c.self.inside.count + 1 ≡ length c.with.result.list = omega (arith, before, grown) in
    (count, c.self.invariant.1 ∙ sym (keeps_told c.self.inside.record.list c.args.lane c.args.at) ∙ ap (λ l. keeps l) (sym c.with.ensures))
