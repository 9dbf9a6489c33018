use Rattle.std.proofs.Common.{List, Bor, ap, ◌∙◌}
use Rattle.std.specs.Prelude.{map}
use Rattle.deferrals.specs.Limits.{open_on}
use Rattle.deferrals.specs.declared.items.Deferral.{Deferral}
use Rattle.views.proofs.Found.{shown_on}
use Rattle.views.proofs.items.deferred_members.Goals as goal

pub item_values-requires : goal.item_values-requires
item_values-requires c =
    shown_on _ _ _ _
    (ap (λ (ds : List (Bor Deferral)). map (λ d. d.now) ds) c.deref.ensures.value ∙ c.in_ok-open.ensures.value ∙ ap (λ (ds : List Deferral). open_on c.bytes.result.now ds) c.deferrals.ensures)
    c.holds.ensures.bounds.deferrals.each
