-- The state that the desk's parts in code represent, and their model in contracts.
use Rattle.std.specs.Prelude.{ℕ, Bool, Option}
use Rattle.desk_state.specs.State.{State}
use Rattle.desk_state.specs.declared.effect.Effect.{Effect}
use Rattle.desk_state.specs.declared.holdings.Holdings.{Holdings}

-- the state that the parts represent
abbrev pub state_of : Holdings → State
state_of p = record {
  tables = p.tables;
  moment = p.moment;
  counters = p.counters;
  reports = p.reports.reports;
  deferrals = p.deferrals.list;
  releases = p.releases.list;
  alerts = p.alerts.list;
  kept = p.replies.list;
  floors = p.replies.floors;
  entries = p.history.list;
}

-- an effect, and the maximum number of changed alerts, for which memory is reserved
pub record RoomFor : Type 0 where
  pub effect : Effect
  pub more : ℕ

-- The model of the desk's content. It has the state, the event for which memory is reserved, and whether the
-- history's entries are stored or only counted.
pub record Held : Type 0 where
  pub state : State
  pub room : Option RoomFor
  pub listed : Bool

abbrev pub held : State → Option RoomFor → Bool → Held
held s room listed = record { state = s; room = room; listed = listed }
