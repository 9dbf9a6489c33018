use Rattle.std.proofs.Common.{sym, subst, IfSome, Option}
use Rattle.alerts.specs.declared.alert.Alert.{Alert}
use Rattle.desk_time.specs.Limits.{IsMoment}
use Rattle.views.proofs.Found.{opened_at}
use Rattle.views.proofs.alert_objects.alert_of.Goals as goal

pub returns-clause-opened : goal.returns-clause-opened
returns-clause-opened c =
    subst (λ (o : Option Alert). IfSome o (λ a. IsMoment a.opened)) (sym c.alert.ensures) (opened_at c.args.id _ _ c.holds.ensures.judgeable.alerts)
