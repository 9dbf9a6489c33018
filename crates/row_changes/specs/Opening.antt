-- The state of a desk that opens, once its alerts are judged.
use Rattle.std.specs.Prelude.{◌≡◌, ℕ, ◌+◌, ◌<◌, List, [], ◌∷◌}
use Rattle.desk_state.specs.Effects.{nothing}
use Rattle.desk_state.specs.Events.{alert_changes}
use Rattle.desk_state.specs.Holds.{Holds}
use Rattle.desk_state.specs.State.{State, judged_all}
use Rattle.desk_state.specs.declared.change.AlertChange.{AlertChange}
use Rattle.desk_state.specs.declared.counters.Counters.{Counters}

-- A judgement that changes an alert counts as an event.
abbrev pub events_with : List AlertChange → ℕ → ℕ
events_with [] events = events
events_with (c ∷ cs) events = events + 1

abbrev pub counters_with : List AlertChange → Counters → Counters
counters_with changes c = record c { events = events_with changes c.events }

-- a state after its active releases are judged
unfoldable pub reopened : State → State
reopened s = record s { counters = counters_with (alert_changes nothing s) s.counters; alerts = judged_all s }

-- A state from which a desk may open: it has no history, and one more event is within its bounds.
pub record MayReopen (s : State) : Type 0 where
  pub holds : Holds s
  pub room : s.counters.events < 999_999_999_999_999
  pub fresh : s.entries ≡ []
