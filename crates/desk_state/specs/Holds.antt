-- What always holds of the desk's content, even before its alerts are judged.
use Rattle.std.specs.List.{AllByRecursion}
use Rattle.desk_state.specs.Formed.{AreFormed}
use Rattle.desk_state.specs.Sound.{AreJudgeable, AreSingle, AreUnlike, InBounds, IsToldTo, MayStand}
use Rattle.desk_state.specs.State.{State, alert_at}

-- The state is sound, except that its alerts may be from an earlier judgement. It is within its bounds, and each part
-- has its forms.
pub record Holds (s : State) : Type 0 where
  pub bounds : InBounds s
  pub judgeable : AreJudgeable s
  pub told : AllByRecursion (λ r. IsToldTo r.holder (alert_at r.id s.alerts)) s.releases
  pub valid : AllByRecursion (MayStand s.counters.events) s.releases
  pub unlike : AreUnlike s.reports
  pub single : AreSingle s.kept
  pub formed : AreFormed s
