-- The index keys of a release: pairs of what touches it and its id.
use Rattle.std.specs.Prelude.{ℕ, ◌+◌, if◌then◌else◌, List, [], ◌∷◌, ◌++◌, Option, None, Some}
use Rattle.facts.specs.Index.{fingerprint}
use Rattle.ops_tables.specs.declared.rows.Settings.{Settings}
use Rattle.rules.specs.Due.{due_minutes}
use Rattle.plan.specs.Phases.{is_active, standing}
use Rattle.plan.specs.declared.flights.Alternate.{Alternate}
use Rattle.plan.specs.declared.flights.Leg.{Leg}
use Rattle.plan.specs.declared.flights.Plan.{Plan}
use Rattle.plan.specs.declared.flights.TakeoffAlternate.{TakeoffAlternate}
use Rattle.plan.specs.declared.release.Phase.{Phase}
use Rattle.plan.specs.declared.release.Release.{Release}
use Rattle.plan.specs.declared.release.Revision.{Revision}
use Rattle.plan.specs.declared.release.Standing.{Standing}
use Rattle.plan.specs.declared.release.Standing.TheVariants.{Ahead, InFlight, Flown}

-- Each definition appends keys to a list. The first number of a key is a minute, or the fingerprint of a station or a
-- registration. Other texts may share a fingerprint, so the reader of a key tests the release.

-- the key of a station or a registration, by its fingerprint
abbrev pub text_onto : ℕ → List (ℕ × ℕ) → List ℕ → List (ℕ × ℕ)
text_onto id keys text = keys ++ (fingerprint text, id) ∷ []

abbrev pub takeoff_onto : ℕ → List (ℕ × ℕ) → Option TakeoffAlternate → List (ℕ × ℕ)
takeoff_onto id keys None = keys
takeoff_onto id keys (Some it) = text_onto id keys it.station

abbrev pub alternates_onto : ℕ → List (ℕ × ℕ) → List Alternate → List (ℕ × ℕ)
alternates_onto id keys [] = keys
alternates_onto id keys (it ∷ listed) = alternates_onto id (text_onto id keys it.station) listed

-- the keys of the stations that a leg names
abbrev pub leg_onto : ℕ → List (ℕ × ℕ) → Leg → List (ℕ × ℕ)
leg_onto id keys leg = alternates_onto id (takeoff_onto id (text_onto id (text_onto id keys leg.from) leg.to) leg.takeoff_alternate) leg.alternates

abbrev pub standing_onto : Standing → ℕ → List (ℕ × ℕ) → Leg → List (ℕ × ℕ)
standing_onto Ahead id keys leg = leg_onto id keys leg
standing_onto InFlight id keys leg = leg_onto id keys leg
standing_onto Flown id keys leg = keys

-- the keys of the stations of legs not yet flown, where n is the number of the first leg
abbrev pub legs_onto : ℕ → Phase → ℕ → List (ℕ × ℕ) → List Leg → List (ℕ × ℕ)
legs_onto id phase n keys [] = keys
legs_onto id phase n keys (leg ∷ legs) = legs_onto id phase (n + 1) (standing_onto (standing phase n) id keys leg) legs

-- the keys of the active plan, if the release is active
abbrev pub active_onto : (List (ℕ × ℕ) → Plan → Phase → List (ℕ × ℕ)) → List (ℕ × ℕ) → Option Revision → Phase → List (ℕ × ℕ)
active_onto add keys None phase = keys
active_onto add keys (Some v) phase = if is_active phase then add keys v.plan phase else keys

-- the keys of the stations that a release names in legs not yet flown
abbrev pub stations_onto : List (ℕ × ℕ) → Release → List (ℕ × ℕ)
stations_onto keys r = active_onto (λ some plan phase. legs_onto r.id phase 1 some plan.legs) keys r.active r.phase

-- the keys of minutes
abbrev pub minutes_onto : ℕ → List (ℕ × ℕ) → List ℕ → List (ℕ × ℕ)
minutes_onto id keys [] = keys
minutes_onto id keys (minute ∷ minutes) = minutes_onto id (keys ++ (minute, id) ∷ []) minutes

-- the keys of the minutes at which a time rule begins to fail for a release
abbrev pub dues_onto : Settings → List (ℕ × ℕ) → Release → List (ℕ × ℕ)
dues_onto settings keys r = active_onto (λ some plan phase. minutes_onto r.id some (due_minutes plan phase settings)) keys r.active r.phase

-- the key of a release's aircraft
abbrev pub tail_onto : List (ℕ × ℕ) → Release → List (ℕ × ℕ)
tail_onto keys r = active_onto (λ some plan phase. text_onto r.id some plan.tail) keys r.active r.phase
