use Rattle.std.proofs.Common.{◌≡◌, ◌++◌, map, drop}
use Rattle.std.specs.List.{AllByRecursion}
use Rattle.desk_time.specs.Limits.{IsMoment}
use Rattle.serde_json.specs.View.{view}
use Rattle.views.specs.Objects.{alert_data}
use Rattle.views.proofs.alert_objects.alert_values.Given as goal

abbrev pub invariant-loop-alert : goal.invariant-loop-alert
invariant-loop-alert l = record {
  values : map view l.values.items ++ map alert_data (drop l.alert-index l.alerts) ≡ map alert_data l.alerts;
  rest : AllByRecursion (λ a. IsMoment a.opened) (drop l.alert-index l.alerts);
}
