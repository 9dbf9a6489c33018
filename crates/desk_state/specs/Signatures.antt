-- What the signatures on a board stand for: who signed, and which release his text is (14 CFR 121.663).
use Rattle.std.specs.Prelude.{◌≡◌, ◌⊎◌, ℕ, List, Option, Some, IfSome}
use Rattle.plan.specs.declared.release.Release.{Release}
use Rattle.plan.specs.declared.release.Revision.{Revision}
use Rattle.plan.specs.declared.release.Signature.{Signature}
use Rattle.asks.specs.Forms.{IsRevision}
use Rattle.release_text.specs.Legible.{AreSame}
use Rattle.release_text.specs.Revisions.{revision_text}
use Rattle.desk_state.specs.State.{State, release_at}

-- The text of a revision determines its plan and its number, and its reports if each is one line. Any other revision
-- with that text has the same.
abbrev pub IsKnownByText : Revision → Type 0
IsKnownByText v = (other : Revision) → IsRevision other → revision_text other ≡ revision_text v → AreSame v.plan other.plan v.number other.number v.attached other.attached

-- the texts of both revisions of a release determine them
pub record AreKnownByText (r : Release) : Type 0 where
  pub pending : IfSome r.pending IsKnownByText
  pub active : IfSome r.active IsKnownByText

-- a revision's signature in one of the two places
abbrev pub Place : Type 0
Place = Revision → Option Signature

abbrev pub of_dispatcher : Place
of_dispatcher v = v.dispatcher

abbrev pub of_captain : Place
of_captain v = v.captain

-- When the desk opened, the revision of this number and plan had the same signature in this place.
pub record WasSigned (opening : State) (id : ℕ) (place : Place) (v : Revision) : Type 0 where
  pub release : Release
  pub found : release_at id opening.releases ≡ Some release
  pub revision : Revision
  pub one : (release.pending ≡ Some revision) ⊎ (release.active ≡ Some revision)
  pub number : revision.number ≡ v.number
  pub plan : revision.plan ≡ v.plan
  pub same : place revision ≡ place v

-- The signature in a place, if there is one, is this person's. Or it was there when the desk opened.
abbrev pub IsSignedOnlyBy : State → ℕ → Place → List ℕ → Revision → Type 0
IsSignedOnlyBy opening id place person v = IfSome (place v) (λ signature. (signature.actor ≡ person) ⊎ WasSigned opening id place v)

-- The dispatcher who signed a revision holds the release, and the captain who signed it is its plan's.
pub record HasOwnSignatures (opening : State) (id : ℕ) (holder : List ℕ) (v : Revision) : Type 0 where
  pub dispatcher : IsSignedOnlyBy opening id of_dispatcher holder v
  pub captain : IsSignedOnlyBy opening id of_captain v.plan.captain v

-- Both revisions of a release have such signatures. No call changes who holds a release. Signatures from before the
-- desk opened are taken as their rows state them.
pub record AreOwnSignatures (opening : State) (r : Release) : Type 0 where
  pub pending : IfSome r.pending (HasOwnSignatures opening r.id r.holder)
  pub active : IfSome r.active (HasOwnSignatures opening r.id r.holder)
