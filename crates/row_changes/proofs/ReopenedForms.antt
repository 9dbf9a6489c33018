-- A state that is judged as it is opened keeps its forms.
use Rattle.desk_state.specs.Formed.{AreFormed}
use Rattle.desk_state.specs.State.{State}
use Rattle.desk_state.proofs.AlertForms.{all_judged, ids_low}
use Rattle.row_changes.specs.Opening.{MayReopen, reopened}

pub reopened_formed : (s : State) → MayReopen s → AreFormed (reopened s)
unfolding reopened
reopened_formed s may = record {
  names = may.holds.formed.names;
  reports = may.holds.formed.reports;
  deferrals = may.holds.formed.deferrals;
  releases = may.holds.formed.releases;
  alerts = all_judged s s.releases (ids_low s may.holds.bounds) may.holds.bounds.releases may.holds.formed.alerts;
  kept = may.holds.formed.kept;
  floors = may.holds.formed.floors;
  rising = may.holds.formed.rising;
}
