-- Releases whose phase, revisions and signatures agree (14 CFR 121.593 to 121.597, 121.687).
use Rattle.std.specs.Prelude.{◌≡◌, ◌<◌, ◌≤◌, true, length, Option, None, Some, IfSome, IsSome}
use Rattle.plan.specs.Phases.{PhaseFits}
use Rattle.plan.specs.declared.release.Phase.{Phase}
use Rattle.plan.specs.declared.release.Phase.TheVariants.{Drafted, Ready, Flying, Stopped, Completed, Cancelled}
use Rattle.plan.specs.declared.release.Release.{Release}
use Rattle.plan.specs.declared.release.Revision.{Revision}
use Rattle.plan.specs.declared.release.Signature.{Signature}
use Rattle.release_text.specs.Revisions.{revision_digest}

abbrev pub IsThere : Option Revision → Type 0
IsThere None = ⊥
IsThere (Some v) = Unit {0}

abbrev pub IsNone : Option Revision → Type 0
IsNone None = Unit {0}
IsNone (Some v) = ⊥

-- A draft has a pending revision and no active one. A release in force has an active revision. An ended release has
-- no pending one.
abbrev pub IsPhased : Phase → Option Revision → Option Revision → Type 0
IsPhased Drafted pending active = IsThere pending × IsNone active
IsPhased Ready pending active = IsThere active
IsPhased (Flying leg) pending active = IsThere active
IsPhased (Stopped next since again) pending active = IsThere active
IsPhased (Completed at) pending active = IsNone pending
IsPhased (Cancelled at) pending active = IsNone pending

-- the revision is signed, and the signature names the digest of its text
abbrev pub IsSigned : Revision → Option Signature → Type 0
IsSigned v None = ⊥
IsSigned v (Some signature) = signature.digest ≡ revision_digest v

-- An active revision is prepared and has the signatures of the dispatcher and the captain on its text.
pub record BearsBoth (v : Revision) : Type 0 where
  pub prepared : v.prepared ≡ true
  pub dispatcher : IsSigned v v.dispatcher
  pub captain : IsSigned v v.captain

-- no signature, or one on the text of a prepared revision
abbrev pub MaySigned : Revision → Option Signature → Type 0
MaySigned v None = Unit {0}
MaySigned v (Some signature) = (v.prepared ≡ true) × (signature.digest ≡ revision_digest v)

-- A pending revision has neither a captain's signature nor his hours. It has a dispatcher's signature only on its
-- text and only if it is prepared.
pub record Waits (v : Revision) : Type 0 where
  pub captain : v.captain ≡ None
  pub hours : v.hours ≡ None
  pub dispatcher : MaySigned v v.dispatcher

-- the plan of the revision has a leg, and has the leg that the phase names
pub record HasLegs (phase : Phase) (v : Revision) : Type 0 where
  pub some : 1 ≤ length v.plan.legs
  pub fits : PhaseFits phase v.plan.legs

-- if both are there, the pending revision has the greater number
abbrev pub AreNumbered : Option Revision → Option Revision → Type 0
AreNumbered None active = Unit {0}
AreNumbered (Some v) None = Unit {0}
AreNumbered (Some v) (Some w) = w.number < v.number

-- a release whose phase, revisions and signatures agree
pub record IsValid (r : Release) : Type 0 where
  pub phased : IsPhased r.phase r.pending r.active
  pub numbered : AreNumbered r.pending r.active
  pub pending_legs : IfSome r.pending (HasLegs r.phase)
  pub active_legs : IfSome r.active (HasLegs r.phase)
  pub both : IfSome r.active BearsBoth
  pub waits : IfSome r.pending Waits

-- a revision has its captain's hours only if it has his signature
abbrev pub HasSignedHours : Revision → Type 0
HasSignedHours v = IfSome v.hours (λ hours. IsSome v.captain)

-- each revision of the release has its captain's hours only with his signature
pub record HoursAreSigned (r : Release) : Type 0 where
  pub pending : IfSome r.pending HasSignedHours
  pub active : IfSome r.active HasSignedHours
