use Rattle.std.proofs.Common.{List, Bor, ap, ◌∙◌}
use Rattle.std.specs.Prelude.{map}
use Rattle.deferrals.specs.declared.items.Deferral.{Deferral}
use Rattle.deferrals.specs.Limits.{open_on}
use Rattle.decisions.proofs.Open.{shown_on}
use Rattle.decisions.proofs.equipment.view_deferred.Goals as goal

pub deferral_lines-requires : goal.deferral_lines-requires
deferral_lines-requires c =
    shown_on _ _ _ _
    (ap (λ (ds : List (Bor Deferral)). map (λ d. d.now) ds) c.deref.ensures.value ∙ c.in_ok-open.ensures.value ∙ ap (λ (ds : List Deferral). open_on c.bytes-2.result.now ds) c.deferrals.ensures)
    c.holds.ensures.bounds.deferrals.each
