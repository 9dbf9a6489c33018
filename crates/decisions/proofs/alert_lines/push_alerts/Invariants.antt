use Rattle.std.proofs.Common.{◌≡◌, ◌++◌, drop}
use Rattle.std.specs.List.{AllByRecursion}
use Rattle.desk_state.specs.Texts.{alert_lines}
use Rattle.alerts.specs.Alerts.{IsAlert}
use Rattle.decisions.proofs.alert_lines.push_alerts.Given as goal

abbrev pub invariant-loop-alert : goal.invariant-loop-alert
invariant-loop-alert l = record {
  lines : l.out.items ++ alert_lines (drop l.alert-index l.content.state.alerts) ≡ l.fn.out.items ++ alert_lines l.content.state.alerts;
  rest : AllByRecursion (IsAlert l.content.state.counters.events) (drop l.alert-index l.content.state.alerts);
}
