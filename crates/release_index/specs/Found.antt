-- Which keys find a release, in terms of what touches it.
use Rattle.std.specs.Prelude.{◌≡◌, ◌↔◌, ℕ, true, List, Some, Any}
use Rattle.facts.specs.Index.{fingerprint, key_cmp}
use Rattle.ops_tables.specs.declared.rows.Settings.{Settings}
use Rattle.plan.specs.Phases.{is_active}
use Rattle.plan.specs.declared.flights.Plan.{Plan}
use Rattle.plan.specs.declared.release.Phase.{Phase}
use Rattle.plan.specs.declared.release.Release.{Release}
use Rattle.plan.specs.declared.release.Revision.{Revision}
use Rattle.rules.specs.Due.{Begins}
use Rattle.rules.specs.Touches.{Names}
use Rattle.desk_io.specs.Keys.{is_held}
use Rattle.desk_io.specs.Station.{Station}
use Rattle.release_index.specs.declared.moves.By.{By}
use Rattle.release_index.specs.declared.moves.By.TheVariants as by

-- The plan names a station with this fingerprint in a leg that isn't flown.
pub record NamesOne (number : ℕ) (plan : Plan) (phase : Phase) : Type 0 where
  pub station : Station
  pub mark : fingerprint station ≡ number
  pub named : Names plan phase station

-- A key's number touches the plan: it is the fingerprint of a station that the plan names, or of its aircraft's
-- registration. Or it is a minute at which a time rule begins to fail.
abbrev pub Touches : By → Settings → ℕ → Plan → Phase → Type 0
Touches by.Station settings number plan phase = NamesOne number plan phase
Touches by.Tail settings number plan phase = fingerprint plan.tail ≡ number
Touches by.Due settings number plan phase = Begins plan phase settings number

-- A key finds a release: the release has the key's id and is active, and the key's number touches its active plan.
pub record IsFoundBy (kind : By) (settings : Settings) (key : ℕ × ℕ) (r : Release) : Type 0 where
  pub id : key.1 ≡ r.id
  pub revision : Revision
  pub stands : r.active ≡ Some revision
  pub active : is_active r.phase ≡ true
  pub touches : Touches kind settings key.0 revision.plan r.phase

-- The index contains a key exactly if the key finds one of the releases.
abbrev pub FindsBy : By → Settings → List (ℕ × ℕ) → List Release → Type 0
FindsBy kind settings keys list = (key : ℕ × ℕ) → (is_held key_cmp key keys ≡ true) ↔ Any (IsFoundBy kind settings key) list
