-- A release as JSON, with its keys in byte order and without its id, the key of its row.
use Rattle.std.specs.Prelude.{ℕ, Option, None, Some, IfSome, codes}
use Rattle.serde_json.specs.Data.{Data, null, boolean, object, Members, member, no_members}
use Rattle.plan.specs.Check.{IsPlan}
use Rattle.plan.specs.Texts.{HasMoment, phase_text}
use Rattle.desk_time.specs.Limits.{IsMoment}
use Rattle.plan.specs.declared.release.Attached.{Attached}
use Rattle.plan.specs.declared.release.Release.{Release}
use Rattle.plan.specs.declared.release.Revision.{Revision}
use Rattle.plan.specs.declared.release.Signature.{Signature}
use Rattle.asks.specs.Canonical.{count, text_data, moment_data, list_data, plan_data}
use Rattle.asks.specs.Digests.{digest_data}
use Rattle.release_json.specs.declared.version.Version.{Version}
use Rattle.release_json.specs.declared.version.Version.TheVariants.{First, Second}

abbrev pub signature_members : Signature → Members
signature_members s = member (codes "actor") (text_data s.actor) (member (codes "at") (moment_data s.at) (member (codes "digest") (digest_data s.digest) no_members))

-- a signature, or null: who signed, when, and the digest of the text
unfoldable pub signature_data : Option Signature → Data
signature_data None = null
signature_data (Some s) = object (signature_members s)

-- an attached report: its number and its text
abbrev pub attached_members : Attached → Members
attached_members a = member (codes "report") (count a.report) (member (codes "text") (text_data a.text) no_members)

abbrev pub attached_data : Attached → Data
attached_data a = object (attached_members a)

-- a captain's hours, or null
unfoldable pub hours_data : Option ℕ → Data
hours_data None = null
hours_data (Some hours) = count hours

-- adds the hours before the later members, unless rows of the version lack them
abbrev pub with_hours : Version → Option ℕ → Members → Members
with_hours First hours later = later
with_hours Second hours later = member (codes "hours") (hours_data hours) later

abbrev pub revision_members : Version → Revision → Members
revision_members version v =
    member (codes "attached") (list_data attached_data v.attached)
    (member (codes "captain") (signature_data v.captain)
    (member (codes "dispatcher") (signature_data v.dispatcher)
    (with_hours version v.hours
    (member (codes "number") (count v.number)
    (member (codes "plan") (plan_data v.plan)
    (member (codes "prepared") (boolean v.prepared) no_members))))))

-- a revision, or null
unfoldable pub revision_data : Version → Option Revision → Data
revision_data version None = null
revision_data version (Some v) = object (revision_members version v)

abbrev pub release_members : Version → Release → Members
release_members version r =
    member (codes "active") (revision_data version r.active)
    (member (codes "holder") (text_data r.holder)
    (member (codes "pending") (revision_data version r.pending)
    (member (codes "phase") (text_data (phase_text r.phase)) no_members)))

-- the JSON of a release in this version of rows
unfoldable pub release_data : Version → Release → Data
release_data version r = object (release_members version r)

abbrev pub SignedAtMoment : Option Signature → Type 0
SignedAtMoment signature = IfSome signature (λ s. IsMoment s.at)

-- a revision whose plan is in bounds, and whose signatures have moments from 2000 to 2099
pub record RevisionHasMoments (v : Revision) : Type 0 where
  pub is_plan : IsPlan v.plan
  pub dispatcher : SignedAtMoment v.dispatcher
  pub captain : SignedAtMoment v.captain

-- a release whose phase, if it has a moment, and whose revisions have moments from 2000 to 2099
pub record ReleaseHasMoments (r : Release) : Type 0 where
  pub moment : HasMoment r.phase
  pub pending : IfSome r.pending RevisionHasMoments
  pub active : IfSome r.active RevisionHasMoments
