-- The ids of the releases to judge.
use Rattle.std.specs.Prelude.{◌≡◌, ℕ, Bool, true, ◌||◌, List}
use Rattle.release_index.specs.Touched.{held_where, is_among}
use Rattle.desk_state.specs.declared.effect.Effect.{Effect}
use Rattle.desk_state.specs.State.{State}
use Rattle.desk_state.specs.Touched.{by_report, by_deferral, by_time, by_release, by_alert}

-- the ids that pass a test are added to others
abbrev pub Adds : (ℕ → Bool) → List ℕ → List ℕ → Type 0
Adds test ids fresh = (id : ℕ) → is_among fresh id ≡ (is_among ids id || test id)

-- an event touches the stored release with this id, or names the id
abbrev pub touches : State → Effect → ℕ → Bool
touches s e id =
    held_where (by_report e.report) id s.releases || held_where (by_deferral e.on_deferrals s.deferrals) id s.releases || held_where (by_time e.moment s.tables.settings s.moment) id s.releases
    || by_release e.on_releases id || by_alert e.on_alerts id

-- a release with this id is stored, or an event brings it
abbrev pub is_there : State → Effect → ℕ → Bool
is_there s e id = held_where (λ r. true) id s.releases || by_release e.on_releases id
