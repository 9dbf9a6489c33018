-- The stored releases as contracts see them, and what always holds of them.
use Rattle.std.specs.Prelude.{ℕ, ◌≤◌, List, length, Option, None, Some}
use Rattle.std.specs.List.{AllByRecursion}
use Rattle.ops_tables.specs.declared.rows.Settings.{Settings}
use Rattle.plan.specs.declared.release.Release.{Release}
use Rattle.release_index.specs.declared.change.OnReleases.{OnReleases}
use Rattle.release_index.specs.declared.moves.By.TheVariants as by
use Rattle.release_index.specs.declared.releases.Ready.{Ready}
use Rattle.release_index.specs.Bounds.{ReleaseInBounds}
use Rattle.release_index.specs.Changes.{releases_after, MayChange}
use Rattle.release_index.specs.Index.{onto_by, IsIndexOf, IsMove}

pub record HeldReleases : Type 0 where
  -- in increasing order of their ids
  pub list : List Release
  -- the airline's settings
  pub settings : Settings
  -- the change for which room is reserved
  pub room : Option OnReleases

abbrev pub held_of : Settings → List Release → HeldReleases
held_of settings list = record { list = list; settings = settings; room = None }

-- the releases, with room reserved for a change
abbrev pub reserved : HeldReleases → OnReleases → HeldReleases
reserved held on = record { list = held.list; settings = held.settings; room = Some on }

-- the releases after a change, with no room reserved
abbrev pub changed : OnReleases → HeldReleases → HeldReleases
changed on held = held_of held.settings (releases_after on held.list)

-- A change is ready to apply: its keys are computed, and the given spare capacities suffice. The capacity free is in
-- releases; stations, tails and dues are in keys of each index.
pub record IsReady (settings : Settings) (list : List Release) (free stations tails dues : ℕ) (ready : Ready) : Type 0 where
  pub may : MayChange ready.on.value list
  pub room : 1 ≤ free
  pub by_station : IsMove by.Station settings ready.on.value list ready.stations
  pub few_stations : length ready.stations.coming.items ≤ stations
  pub by_tail : IsMove by.Tail settings ready.on.value list ready.tails
  pub few_tails : length ready.tails.coming.items ≤ tails
  pub by_due : IsMove by.Due settings ready.on.value list ready.dues
  pub few_dues : length ready.dues.coming.items ≤ dues

-- at most 20,000 releases in bounds, with an index by stations, one by aircraft and one by due minutes
pub record AreHeld (settings : Settings) (list : List Release) (stations tails dues : List (ℕ × ℕ)) : Type 0 where
  pub each : AllByRecursion ReleaseInBounds list
  pub few : length list ≤ 20_000
  pub by_station : IsIndexOf (onto_by by.Station settings) stations list
  pub by_tail : IsIndexOf (onto_by by.Tail settings) tails list
  pub by_due : IsIndexOf (onto_by by.Due settings) dues list
