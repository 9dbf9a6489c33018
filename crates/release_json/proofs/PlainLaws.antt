-- What is written of a release has one text: its numbers are whole, its keys in byte order, its texts UTF-8.
use Rattle.std.proofs.Common.{◌≡◌, ℕ, ◌^◌, ◌<◌, ◌≤◌, List, [], ◌∷◌, Option, None, Some, IfSome, refl, arith}
use Rattle.serde_json.specs.Data.{depth}
use Rattle.serde_json.specs.Read.{read}
use Rattle.serde_json.specs.Written.{compact_text}
use Rattle.plan.specs.declared.findings.Finding.{Finding}
use Rattle.plan.specs.declared.release.Attached.{Attached}
use Rattle.plan.specs.declared.release.Release.{Release}
use Rattle.plan.specs.declared.release.Revision.{Revision}
use Rattle.plan.specs.declared.release.Signature.{Signature}
use Rattle.plan.specs.Texts.{finding_text, phase_text}
use Rattle.desk_time.specs.Moments.{shown}
use Rattle.asks.specs.Forms.{IsId, IsHours, IsAttached, IsSignature, IsRevision, IsFormed}
use Rattle.asks.specs.Plain.{IsPlain, HasText}
use Rattle.asks.proofs.Compact.{read_compact}
use Rattle.asks.proofs.Plain.{order_of, text_of, list_plain, list_has_text, list_depth, plan_plain, plan_has_text, plan_depth}
use Rattle.asks.proofs.Texts.{written_utf8, digest_utf8}
use Rattle.std.specs.List.{AllByRecursion}
use Rattle.release_json.specs.Findings.{finding_data, findings_data}
use Rattle.release_json.specs.Kept.{IsKept}
use Rattle.release_json.specs.Rows.{attached_members, attached_data, signature_members, signature_data, hours_data, revision_members, revision_data, release_members, release_data}
use Rattle.release_json.specs.declared.version.Version.{Version}
use Rattle.release_json.specs.declared.version.Version.TheVariants.{First, Second}

pub id_plain : (n : ℕ) → IsId n → n < 2 ^ 64
id_plain n few = omega arith

-- ---- numbers and keys

attached_plain : (a : Attached) → IsAttached a → IsPlain (attached_data a)
attached_plain a is = (order_of (attached_members a) refl, (id_plain a.report is.report, (tt, tt)))

signature_plain : (s : Option Signature) → IsPlain (signature_data s)
unfolding signature_data
signature_plain None = tt
signature_plain (Some s) = (order_of (signature_members s) refl, (tt, (tt, (tt, tt))))

hours_plain : (hours : Option ℕ) → IfSome hours IsHours → IsPlain (hours_data hours)
unfolding hours_data
hours_plain None is = tt
hours_plain (Some hours) is = omega (arith, is)

revision_plain : (version : Version) (v : Option Revision) → IfSome v IsRevision → IsPlain (revision_data version v)
unfolding revision_data
revision_plain version None is = tt
revision_plain First (Some v) is = (
  order_of (revision_members First v) refl,
  (
    list_plain IsAttached attached_data attached_plain v.attached is.attached,
    (signature_plain v.captain, (signature_plain v.dispatcher, (id_plain v.number is.number, (plan_plain v.plan is.plan, (tt, tt))))),
  ),
)
revision_plain Second (Some v) is = (
  order_of (revision_members Second v) refl,
  (
    list_plain IsAttached attached_data attached_plain v.attached is.attached,
    (signature_plain v.captain, (signature_plain v.dispatcher, (hours_plain v.hours is.hours, (id_plain v.number is.number, (plan_plain v.plan is.plan, (tt, tt)))))),
  ),
)

-- a release whose fields have their forms is plain data
pub release_plain : (version : Version) (r : Release) → IsFormed r → IsPlain (release_data version r)
unfolding release_data
release_plain version r is =
    (order_of (release_members version r) refl, (revision_plain version r.active is.active, (tt, (revision_plain version r.pending is.pending, (tt, tt)))))

all_plain : (fs : List Finding) → AllByRecursion (λ f. Unit {0}) fs
all_plain [] = tt
all_plain (f ∷ fs) = (tt, all_plain fs)

pub findings_plain : (fs : List Finding) → IsPlain (findings_data fs)
findings_plain fs = list_plain (λ f. Unit {0}) finding_data (λ f is. tt) fs (all_plain fs)

-- ---- texts

attached_has_text : (a : Attached) → HasText (attached_data a)
attached_has_text a = text_of (attached_members a) refl (tt, (written_utf8 a.text, tt))

signature_has_text : (s : Option Signature) → IfSome s IsSignature → HasText (signature_data s)
unfolding signature_data
signature_has_text None is = tt
signature_has_text (Some s) is = text_of (signature_members s) refl (written_utf8 s.actor, (written_utf8 (shown s.at), (digest_utf8 s.digest is.digest, tt)))

hours_have_text : (hours : Option ℕ) → HasText (hours_data hours)
unfolding hours_data
hours_have_text None = tt
hours_have_text (Some hours) = tt

revision_has_text : (version : Version) (v : Option Revision) → IfSome v IsRevision → HasText (revision_data version v)
unfolding revision_data
revision_has_text version None is = tt
revision_has_text First (Some v) is = text_of (revision_members First v) refl (
  list_has_text attached_data attached_has_text v.attached,
  (signature_has_text v.captain is.captain, (signature_has_text v.dispatcher is.dispatcher, (tt, (plan_has_text v.plan, (tt, tt))))),
)
revision_has_text Second (Some v) is = text_of (revision_members Second v) refl (
  list_has_text attached_data attached_has_text v.attached,
  (signature_has_text v.captain is.captain, (signature_has_text v.dispatcher is.dispatcher, (hours_have_text v.hours, (tt, (plan_has_text v.plan, (tt, tt)))))),
)

-- all its text is UTF-8
pub release_has_text : (version : Version) (r : Release) → IsFormed r → HasText (release_data version r)
unfolding release_data
release_has_text version r is =
    text_of (release_members version r) refl (revision_has_text version r.active is.active, (written_utf8 r.holder, (revision_has_text version r.pending is.pending, (written_utf8 (phase_text r.phase), tt))))

pub findings_have_text : (fs : List Finding) → HasText (findings_data fs)
findings_have_text fs = list_has_text finding_data (λ f. written_utf8 (finding_text f)) fs

-- ---- depth

attached_depth : (a : Attached) → depth (attached_data a) ≤ 1
attached_depth a = omega arith

signature_depth : (s : Option Signature) → depth (signature_data s) ≤ 1
unfolding signature_data
signature_depth None = omega arith
signature_depth (Some s) = omega arith

hours_depth : (hours : Option ℕ) → depth (hours_data hours) ≤ 0
unfolding hours_data
hours_depth None = omega arith
hours_depth (Some hours) = omega arith

revision_depth : (version : Version) (v : Option Revision) → depth (revision_data version v) ≤ 6
unfolding revision_data
revision_depth version None = omega arith
revision_depth First (Some v) =
    let attached = list_depth attached_data 1 attached_depth v.attached in
    let captain = signature_depth v.captain in
    let dispatcher = signature_depth v.dispatcher in
    let plan = plan_depth v.plan in
    omega (arith, attached, captain, dispatcher, plan)
revision_depth Second (Some v) =
    let attached = list_depth attached_data 1 attached_depth v.attached in
    let captain = signature_depth v.captain in
    let dispatcher = signature_depth v.dispatcher in
    let hours = hours_depth v.hours in
    let plan = plan_depth v.plan in
    omega (arith, attached, captain, dispatcher, hours, plan)

-- lists and objects in a release nest seven times
pub release_depth : (version : Version) (r : Release) → depth (release_data version r) ≤ 7
unfolding release_data
release_depth version r =
    let active = revision_depth version r.active in
    let pending = revision_depth version r.pending in
    omega (arith, active, pending)

finding_depth : (f : Finding) → depth (finding_data f) ≤ 0
finding_depth f = omega arith

pub findings_depth : (fs : List Finding) → depth (findings_data fs) ≤ 1
findings_depth fs = let all = list_depth finding_data 0 finding_depth fs in omega (arith, all)

-- ---- rows

-- the text of a valid release is read as its JSON, and that as the release
pub row_read : (version : Version) (r : Release) → IsKept r → read (compact_text (release_data version r)) ≡ Some (release_data version r)
row_read version r is = read_compact (release_data version r) (release_plain version r is.formed) (let few = release_depth version r in omega arith)
