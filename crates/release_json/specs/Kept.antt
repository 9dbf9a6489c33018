-- Which releases may be stored: those whose fields have their forms and that are valid.
use Rattle.std.specs.Prelude.{ℕ, nat_lt, nat_le, Bool, true, false, not, ◌&&◌, List, length, Option, None, Some, is_some}
use Rattle.std.specs.Str.{bytes_eq}
use Rattle.plan.specs.declared.release.Phase.{Phase}
use Rattle.plan.specs.declared.release.Phase.TheVariants.{Drafted, Ready, Flying, Stopped, Completed, Cancelled}
use Rattle.plan.specs.declared.release.Release.{Release}
use Rattle.plan.specs.declared.release.Revision.{Revision}
use Rattle.plan.specs.declared.release.Signature.{Signature}
use Rattle.asks.specs.Forms.{IsFormed}
use Rattle.release_text.specs.Revisions.{revision_digest}
use Rattle.release_text.specs.Valid.{IsValid}

-- a release may be stored
pub record IsKept (r : Release) : Type 0 where
  pub formed : IsFormed r
  pub valid : IsValid r

-- ---- the validity of a release, as a test

-- a phase goes with the presence of a pending and of an active revision
abbrev pub is_phased : Phase → Bool → Bool → Bool
is_phased Drafted pending active = pending && not active
is_phased Ready pending active = active
is_phased (Flying leg) pending active = active
is_phased (Stopped next since again) pending active = active
is_phased (Completed at) pending active = not pending
is_phased (Cancelled at) pending active = not pending

-- the leg that a phase names is between 1 and legs
abbrev pub phase_fits : Phase → ℕ → Bool
phase_fits Drafted legs = true
phase_fits Ready legs = true
phase_fits (Flying leg) legs = nat_le 1 leg && nat_le leg legs
phase_fits (Stopped next since again) legs = nat_le 1 next && nat_le next legs
phase_fits (Completed at) legs = true
phase_fits (Cancelled at) legs = true

abbrev pub has_legs : Phase → Option Revision → Bool
has_legs phase None = true
has_legs phase (Some v) = nat_le 1 (length v.plan.legs) && phase_fits phase (length v.plan.legs)

abbrev pub are_numbered : Option Revision → Option Revision → Bool
are_numbered None active = true
are_numbered (Some v) None = true
are_numbered (Some v) (Some w) = nat_lt w.number v.number

-- the part of validity that needs no digest
abbrev pub is_shaped : Release → Bool
is_shaped r =
    is_phased r.phase (is_some r.pending) (is_some r.active) && are_numbered r.pending r.active && has_legs r.phase r.pending && has_legs r.phase r.active

abbrev pub has_digest : List ℕ → Option Signature → Bool
has_digest digest None = false
has_digest digest (Some s) = bytes_eq s.digest digest

abbrev pub bears_both : Option Revision → Bool
bears_both None = true
bears_both (Some v) = v.prepared && has_digest (revision_digest v) v.dispatcher && has_digest (revision_digest v) v.captain

abbrev pub may_be_signed : Revision → Option Signature → Bool
may_be_signed v None = true
may_be_signed v (Some s) = v.prepared && bytes_eq s.digest (revision_digest v)

abbrev pub waits : Option Revision → Bool
waits None = true
waits (Some v) = not (is_some v.captain) && not (is_some v.hours) && may_be_signed v v.dispatcher

-- the phase, the revisions and the signatures agree
unfoldable pub is_valid : Release → Bool
is_valid r = is_shaped r && bears_both r.active && waits r.pending
