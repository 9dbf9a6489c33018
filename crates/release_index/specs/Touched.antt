-- Which active releases an event touches: a report by its station, a deferral by its aircraft, time by its rules.
use Rattle.std.specs.Prelude.{ℕ, ◌==◌, nat_le, Bool, false, ◌&&◌, List, Option, None, Some}
use Rattle.std.specs.List.{list_any}
use Rattle.desk_io.specs.Station.{Station}
use Rattle.ops_tables.specs.declared.rows.Settings.{Settings}
use Rattle.plan.specs.Phases.{is_active}
use Rattle.plan.specs.declared.flights.Plan.{Plan}
use Rattle.plan.specs.declared.release.Phase.{Phase}
use Rattle.plan.specs.declared.release.Release.{Release}
use Rattle.plan.specs.declared.release.Revision.{Revision}
use Rattle.rules.specs.Due.{next_due}
use Rattle.rules.specs.Touches.{names_station, is_of_tail}

-- an active plan passes a test in its phase
abbrev pub passes_in : (Plan → Phase → Bool) → Option Revision → Phase → Bool
passes_in test None phase = false
passes_in test (Some v) phase = is_active phase && test v.plan phase

-- a release is active, and its active plan passes a test
abbrev pub is_active_where : (Plan → Phase → Bool) → Release → Bool
is_active_where test r = passes_in test r.active r.phase

-- a station touches the active releases whose active plan names it in a leg that isn't flown
abbrev pub touched_at : Station → Release → Bool
touched_at station r = is_active_where (λ plan phase. names_station plan phase station) r

-- an aircraft touches the active releases whose active plan uses it
abbrev pub touched_on : List ℕ → Release → Bool
touched_on tail r = is_active_where (λ plan phase. is_of_tail plan tail) r

abbrev pub is_due_by : ℕ → Option ℕ → Bool
is_due_by minute None = false
is_due_by minute (Some due) = nat_le due minute

-- a minute touches the active releases for which a time rule begins to fail after the moment and at or before that
-- minute
abbrev pub touched_by : Settings → ℕ → ℕ → Release → Bool
touched_by settings moment minute r = is_active_where (λ plan phase. is_due_by minute (next_due plan phase settings moment)) r

-- the list has a release with this id that passes the test
abbrev pub held_where : (Release → Bool) → ℕ → List Release → Bool
held_where test id list = list_any (λ r. (r.id == id) && test r) list

-- an id is in the list
abbrev pub is_among : List ℕ → ℕ → Bool
is_among ids id = list_any (λ other. other == id) ids
