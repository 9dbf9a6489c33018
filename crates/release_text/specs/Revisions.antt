-- The text and digest of a revision, which the dispatcher and the captain sign (14 CFR 121.663, 121.687).
use Rattle.std.specs.Prelude.{◌≡◌, ℕ, List}
use Rattle.sha2.specs.Sha256.{sha256}
use Rattle.plan.specs.declared.flights.Plan.{Plan}
use Rattle.plan.specs.declared.release.Attached.{Attached}
use Rattle.plan.specs.declared.release.Revision.{Revision}
use Rattle.release_text.specs.Text.{release_text}
use Rattle.release_text.specs.declared.revision.Written.{Written}

-- the SHA-256 of the text of a plan in a revision
unfoldable pub text_digest : Plan → ℕ → List Attached → List ℕ
text_digest plan revision attached = sha256 (release_text plan revision attached)

abbrev pub revision_text : Revision → List ℕ
revision_text v = release_text v.plan v.number v.attached

-- The digest of a revision's text. Signatures aren't part of the text, so the digest stays the same.
abbrev pub revision_digest : Revision → List ℕ
revision_digest v = text_digest v.plan v.number v.attached

-- the text of the revision and its digest
pub record IsWritten (v : Revision) (w : Written) : Type 0 where
  pub text : w.text ≡ revision_text v
  pub digest : w.digest ≡ revision_digest v
