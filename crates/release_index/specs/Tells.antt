-- When a station, an aircraft or a minute touches a release, in the terms of an airline.
use Rattle.std.specs.Prelude.{◌≡◌, ◌↔◌, ℕ, ◌<◌, ◌≤◌, true, List, Some}
use Rattle.desk_io.specs.Station.{Station}
use Rattle.ops_tables.specs.declared.rows.Settings.{Settings}
use Rattle.plan.specs.Phases.{is_active}
use Rattle.plan.specs.declared.flights.Plan.{Plan}
use Rattle.plan.specs.declared.release.Phase.{Phase}
use Rattle.plan.specs.declared.release.Release.{Release}
use Rattle.plan.specs.declared.release.Revision.{Revision}
use Rattle.rules.specs.Due.{Begins}
use Rattle.rules.specs.Touches.{Names}
use Rattle.release_index.specs.Touched.{touched_at, touched_on, touched_by}

-- A release is active, and its active plan has a property in its phase.
pub record IsActiveWhere (Holds : Plan → Phase → Type 0) (r : Release) : Type 0 where
  pub revision : Revision
  pub stands : r.active ≡ Some revision
  pub active : is_active r.phase ≡ true
  pub holds : Holds revision.plan r.phase

-- A time rule begins to fail for a plan after a moment and at or before a minute.
pub record BeginsBy (settings : Settings) (moment minute : ℕ) (plan : Plan) (phase : Phase) : Type 0 where
  pub due : ℕ
  pub later : moment < due
  pub within : due ≤ minute
  pub begins : Begins plan phase settings due

-- A station touches exactly the active releases whose active plan names it in a leg that isn't flown.
pub record TellsAt (station : Station) : Type 0 where
  pub exactly : (r : Release) → (touched_at station r ≡ true) ↔ IsActiveWhere (λ plan phase. Names plan phase station) r

-- An aircraft touches exactly the active releases whose active plan uses it.
pub record TellsOn (tail : List ℕ) : Type 0 where
  pub exactly : (r : Release) → (touched_on tail r ≡ true) ↔ IsActiveWhere (λ plan phase. plan.tail ≡ tail) r

-- A minute touches exactly the active releases for which a time rule begins to fail after the moment and by then.
pub record TellsBy (settings : Settings) (moment minute : ℕ) : Type 0 where
  pub exactly : (r : Release) → (touched_by settings moment minute r ≡ true) ↔ IsActiveWhere (BeginsBy settings moment minute) r
