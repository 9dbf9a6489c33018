-- No body has a number with a fraction.
use Rattle.std.proofs.Common.{◌≡◌, ℕ, false, List, [], ◌∷◌, Option, None, Some, refl, ap, ◌∙◌, nat_cmp, Ordering, Less, Equal, Greater}
use Rattle.std.proofs.lemmas.Bool.{or_parts}
use Rattle.std.specs.Ordering.{match_ordering}
use Rattle.std.specs.Cmp.Lexicographic.{slice_cmp}
use Rattle.std.specs.Str.Lossy.{utf8_lossy}
use Rattle.serde_json.specs.Data.{Data, Members, no_members, member, put}
use Rattle.serde_json.specs.Written.{has_float, members_have_float}
use Rattle.asks.specs.declared.kept.Floor.{Floor}
use Rattle.plan.specs.declared.release.Attached.{Attached}
use Rattle.plan.specs.declared.release.Release.{Release as ReleaseOf}
use Rattle.plan.specs.declared.release.Revision.{Revision}
use Rattle.plan.specs.declared.release.Signature.{Signature}
use Rattle.asks.specs.Canonical.{count}
use Rattle.asks.proofs.Whole.{list_whole, plan_whole, done_whole}
use Rattle.release_json.specs.Findings.{finding_data}
use Rattle.release_json.specs.Rows.{signature_data, attached_data, hours_data, revision_data, release_data}
use Rattle.release_json.specs.declared.version.Version.{Version}
use Rattle.release_json.specs.declared.version.Version.TheVariants.{First, Second}
use Rattle.records.specs.Bodies.{with_floors, floors_data, body_data}
use Rattle.records.specs.declared.record.Record.{Record}
use Rattle.records.specs.declared.record.Record.TheVariants.{Meta, Report, Deferral, Release, Kept, Alert}

put_whole : (k : List ℕ) (d : Data) (ms : Members) → has_float d ≡ false → members_have_float ms ≡ false → members_have_float (put k d ms) ≡ false
put_whole k d no_members e f = rw e refl
put_whole k d (member l x ms) e f = by (slice_cmp nat_cmp k l) (or_parts (has_float x) (members_have_float ms) f) (put_whole k d ms e)
  where
    by : (o : Ordering) → (has_float x ≡ false) × (members_have_float ms ≡ false) → (members_have_float ms ≡ false → members_have_float (put k d ms) ≡ false)
        → members_have_float (match_ordering o (member k d (member l x ms)) (member l d ms) (member l x (put k d ms))) ≡ false
    by Less two rest = rw (e, two.0) two.1
    by Equal two rest = rw e two.1
    by Greater two rest = rw two.0 (rest two.1)

floors_whole : (ms : Members) (fs : List Floor) → members_have_float ms ≡ false → members_have_float (with_floors ms fs) ≡ false
floors_whole ms [] e = e
floors_whole ms (f ∷ fs) e = floors_whole (put (utf8_lossy f.actor) (count f.number) ms) fs (put_whole (utf8_lossy f.actor) (count f.number) ms refl e)

signature_whole : (s : Option Signature) → has_float (signature_data s) ≡ false
unfolding signature_data
signature_whole None = refl
signature_whole (Some s) = refl

attached_whole : (a : Attached) → has_float (attached_data a) ≡ false
attached_whole a = refl

hours_whole : (hours : Option ℕ) → has_float (hours_data hours) ≡ false
unfolding hours_data
hours_whole None = refl
hours_whole (Some hours) = refl

revision_whole : (version : Version) (v : Option Revision) → has_float (revision_data version v) ≡ false
unfolding revision_data
revision_whole version None = refl
revision_whole First (Some v) = rw (list_whole attached_data attached_whole v.attached, signature_whole v.captain, signature_whole v.dispatcher, plan_whole v.plan) refl
revision_whole Second (Some v) =
    rw (list_whole attached_data attached_whole v.attached, signature_whole v.captain, signature_whole v.dispatcher, hours_whole v.hours, plan_whole v.plan) refl

release_whole : (version : Version) (r : ReleaseOf) → has_float (release_data version r) ≡ false
unfolding release_data
release_whole version r = rw (revision_whole version r.active, revision_whole version r.pending) refl

body_whole : (version : Version) (r : Record) → has_float (body_data version r) ≡ false
unfolding body_data floors_data
body_whole version (Meta m) = rw (floors_whole no_members m.floors refl) refl
body_whole version (Report r) = refl
body_whole version (Deferral d) = refl
body_whole version (Release r) = release_whole version r
body_whole version (Kept k) = rw (done_whole k.done) refl
body_whole version (Alert a) = rw (list_whole finding_data (λ f. refl) a.ever, list_whole finding_data (λ f. refl) a.failing) refl

pub body_is_whole : (version : Version) (r : Record) (d : Data) → d ≡ body_data version r → has_float d ≡ false
body_is_whole version r d is = ap has_float is ∙ body_whole version r
