use Rattle.std.proofs.Common.{◌≡◌, ◌+◌, ◌-◌, ◌||◌, ap, arith, drop, length, length-append, nat_lt, sym, ◌∙◌}
use Rattle.std.proofs.lemmas.List.{length-drop, length-map}
use Rattle.desk_state.specs.declared.entry.Entry.{Entry}
use Rattle.service.specs.Events.{entered, keeps}
use Rattle.service.specs.declared.events.Event.TheVariants.{Entered}
use Rattle.service.proofs.KeepsLaws.{keeps_entered}
use Rattle.service.proofs.event_list.Events.entered.Goals as goal

pub invariant_of-self : goal.invariant_of-self
invariant_of-self c =
    let list = c.self.inside.record.list in
    let entries = c.args.board.now.state.entries in
    let es = drop c.args.held entries in
    let many : c.saturating_sub-more.result ≡ length es = c.saturating_sub-more.ensures ∙ ap (λ n. n - c.args.held) c.entries.ensures ∙ sym (length-drop c.args.held entries) in
    let added : length (entered es) ≡ length es = length-map es (λ (e : Entry). Entered e) in
    let grown : length c.with.result.list ≡ length list + length (entered es) = ap length c.with.ensures ∙ length-append list (entered es) in
    let before = c.self.invariant.0 in (
      omega (arith, before, grown, many, added),
      c.kept_since-self-inside.ensures
          ∙ ap (λ n. c.self.inside.kept || nat_lt 0 n) many
          ∙ ap (λ kept. kept || nat_lt 0 (length es)) c.self.invariant.1
          ∙ sym (keeps_entered list es)
          ∙ ap (λ l. keeps l) (sym c.with.ensures),
    )
