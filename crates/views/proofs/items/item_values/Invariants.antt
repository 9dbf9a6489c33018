use Rattle.std.proofs.Common.{◌≡◌, ◌++◌, drop}
use Rattle.std.specs.Prelude.{map}
use Rattle.std.specs.List.{AllByRecursion}
use Rattle.desk_time.specs.Limits.{IsMoment}
use Rattle.serde_json.specs.View.{view}
use Rattle.views.specs.Objects.{item_data}
use Rattle.views.specs.Shown.{items_shown}
use Rattle.views.proofs.items.item_values.Given as goal

abbrev pub invariant-loop-deferral : goal.invariant-loop-deferral
invariant-loop-deferral l = record {
  values : map view l.values.items ++ map item_data (items_shown l.tables l.kind (map (λ d. d.now) (drop l.deferral-index l.deferrals)))
      ≡ map item_data (items_shown l.tables l.kind (map (λ d. d.now) l.deferrals));
  rest : AllByRecursion (λ d. IsMoment d.found) (map (λ d. d.now) (drop l.deferral-index l.deferrals));
}
