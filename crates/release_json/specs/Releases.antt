-- The release that a JSON object represents, with exactly the keys named here.
use Rattle.std.specs.Prelude.{◌≡◌, ℕ, Bool, if◌then◌else◌, List, Option, None, Some, codes, option_and_then, is_some}
use Rattle.std.specs.Str.{is_utf8}
use Rattle.serde_json.specs.Data.{Data}
use Rattle.serde_json.specs.Find.{get, as_null, as_bool, as_number, as_u64}
use Rattle.desk_time.specs.Digits.{◌>>=◌}
use Rattle.desk_time.specs.Moments.{up_to}
use Rattle.ops_tables.specs.Forms.{is_person}
use Rattle.plan.specs.declared.flights.Plan.{Plan}
use Rattle.plan.specs.declared.release.Attached.{Attached}
use Rattle.plan.specs.declared.release.Phase.{Phase}
use Rattle.plan.specs.declared.release.Release.{Release}
use Rattle.plan.specs.declared.release.Revision.{Revision}
use Rattle.plan.specs.declared.release.Signature.{Signature}
use Rattle.asks.specs.Digests.{digest_at}
use Rattle.asks.specs.Fields.{text_at, id_at, moment_at, list_at, each_read, has_members}
use Rattle.asks.specs.Plans.{plan_of}
use Rattle.release_json.specs.Kept.{is_valid, IsKept}
use Rattle.release_json.specs.Phases.{phase_of}
use Rattle.release_json.specs.Rows.{release_data}
use Rattle.release_json.specs.Versions.{members_of, SaysRelease}
use Rattle.release_json.specs.declared.revisions.Head.{Head}
use Rattle.release_json.specs.declared.revisions.Signatures.{Signatures}
use Rattle.release_json.specs.declared.releases.Revisions.{Revisions}
use Rattle.release_json.specs.declared.version.Version.{Version}
use Rattle.release_json.specs.declared.version.Version.TheVariants.{First, Second}

abbrev pub bool_at : List ℕ → Data → Option Bool
bool_at key d = option_and_then as_bool (get key d)

-- the name of a person
abbrev pub person : List ℕ → Option (List ℕ)
person t = if is_person t then Some t else None

abbrev pub person_at : List ℕ → Data → Option (List ℕ)
person_at key d = option_and_then person (text_at key d)

-- an attached report, whose text must be UTF-8
abbrev pub attached_with : ℕ → List ℕ → Option Attached
attached_with report text = if is_utf8 text then Some (record { report = report; text = text }) else None

abbrev pub attached_of : Data → Option Attached
attached_of d =
    id_at (codes "report") d >>= λ report. text_at (codes "text") d >>= λ text. if has_members 2 d then attached_with report text else None

abbrev pub attached_at : Data → Option (List Attached)
attached_at d = list_at (codes "attached") d >>= λ ds. each_read attached_of ds

-- a signature
abbrev pub signature_of : Data → Option Signature
signature_of d =
    person_at (codes "actor") d >>= λ actor. moment_at (codes "at") d >>= λ at. digest_at (codes "digest") d >>= λ digest.
    if has_members 3 d then Some (record { actor = actor; at = at; digest = digest }) else None

-- a signature, or null
unfoldable pub signature_in : Data → Option (Option Signature)
signature_in d = if is_some (as_null d) then Some None else (signature_of d >>= λ s. Some (Some s))

abbrev pub signature_at : List ℕ → Data → Option (Option Signature)
signature_at key d = option_and_then signature_in (get key d)

abbrev pub signatures_of : Data → Option Signatures
signatures_of d =
    signature_at (codes "dispatcher") d >>= λ dispatcher. signature_at (codes "captain") d >>= λ captain.
    Some (record { dispatcher = dispatcher; captain = captain })

-- a number of hours, at most 100,000
abbrev pub hours_of : Data → Option ℕ
hours_of d = option_and_then (up_to 100_000) (option_and_then as_u64 (as_number d))

-- a number of hours, or null
unfoldable pub hours_in : Data → Option (Option ℕ)
hours_in d = if is_some (as_null d) then Some None else (hours_of d >>= λ hours. Some (Some hours))

-- a captain's hours, which rows of the first version lack
abbrev pub hours_at : Version → Data → Option (Option ℕ)
hours_at First d = Some None
hours_at Second d = option_and_then hours_in (get (codes "hours") d)

-- the number of a revision, whether it is prepared, and its captain's hours
abbrev pub head_of : Version → Data → Option Head
head_of version d =
    id_at (codes "number") d >>= λ number. bool_at (codes "prepared") d >>= λ prepared. hours_at version d >>= λ hours.
    if has_members (members_of version) d then Some (record { number = number; prepared = prepared; hours = hours }) else None

abbrev pub plan_at : Data → Option Plan
plan_at d = option_and_then plan_of (get (codes "plan") d)

abbrev pub revision_with : Head → Plan → Signatures → List Attached → Revision
revision_with h plan s attached = record {
  number = h.number;
  plan = plan;
  prepared = h.prepared;
  attached = attached;
  dispatcher = s.dispatcher;
  captain = s.captain;
  hours = h.hours;
}

-- a revision
abbrev pub revision_of : Version → Data → Option Revision
revision_of version d =
    head_of version d >>= λ h. plan_at d >>= λ plan. signatures_of d >>= λ s. attached_at d >>= λ attached. Some (revision_with h plan s attached)

-- a revision, or null
unfoldable pub revision_in : Version → Data → Option (Option Revision)
revision_in version d = if is_some (as_null d) then Some None else (revision_of version d >>= λ v. Some (Some v))

abbrev pub revision_at : Version → List ℕ → Data → Option (Option Revision)
revision_at version key d = option_and_then (revision_in version) (get key d)

abbrev pub revisions_of : Version → Data → Option Revisions
revisions_of version d =
    revision_at version (codes "pending") d >>= λ pending. revision_at version (codes "active") d >>= λ active.
    Some (record { pending = pending; active = active })

abbrev pub phase_at : Data → Option Phase
phase_at d = option_and_then phase_of (text_at (codes "phase") d)

abbrev pub release_with : ℕ → List ℕ → Phase → Revisions → Release
release_with id holder phase v = record { id = id; holder = holder; phase = phase; pending = v.pending; active = v.active }

-- the release that an object represents in this version of rows, valid or not
unfoldable pub release_in : Version → ℕ → Data → Option Release
release_in version id d =
    person_at (codes "holder") d >>= λ holder. phase_at d >>= λ phase. revisions_of version d >>= λ v.
    if has_members 4 d then Some (release_with id holder phase v) else None

abbrev pub if_valid : Release → Option Release
if_valid r = if is_valid r then Some r else None

-- the release with this id, if an object represents a valid one
unfoldable pub release_of : Version → ℕ → Data → Option Release
release_of version id d = release_in version id d >>= λ r. if_valid r

-- What was written is read back. From the JSON of a release that may be stored, and that rows of the version
-- represent in full, the reader returns that release.
abbrev pub IsReleaseAgain : Version → ℕ → Data → Option Release → Type 0
IsReleaseAgain version id d read =
    (r : Release) → IsKept r → SaysRelease version r → r.id ≡ id → d ≡ release_data version r → read ≡ Some r
