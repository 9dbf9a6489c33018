-- What is read of what was done has its forms.
use Rattle.std.proofs.Common.{◌≡◌, ℕ, ◌≤◌, Bool, true, false, if◌then◌else◌, List, Option, None, Some, IfSome, codes, subst, sym, option_and_then}
use Rattle.std.specs.Option.{option_or}
use Rattle.serde_json.specs.Data.{Data}
use Rattle.desk_time.specs.Digits.{◌>>=◌}
use Rattle.asks.specs.declared.reply.Done.{Done}
use Rattle.asks.specs.declared.reply.Done.TheVariants.{Report, Deferral, Filed, Prepared, Release, Swept}
use Rattle.asks.specs.Digests.{digest_of, digest_at, IsDigest}
use Rattle.asks.specs.Fields.{text_at, number_at, has_members}
use Rattle.asks.specs.Forms.{DoneWithin}
use Rattle.asks.specs.Dones.{report_of, deferral_of, filed_of, prepared_of, release_of, swept_of, done_within}
use Rattle.asks.proofs.DigestLaws.{digest_formed}
use Rattle.asks.proofs.PlanForms.{number_formed}

found_then : {A B : Type 0} (P : A → Type 0) (Q : B → Type 0) (o : Option A) (next : A → Option B) → IfSome o P → ((x : A) → P x → IfSome (next x) Q) → IfSome (o >>= next) Q
found_then P Q None next has each = tt
found_then P Q (Some x) next has each = each x has

tested : (P : Done → Type 0) (whole : Bool) (done : Done) → P done → IfSome (if whole then Some done else None) P
tested P true done is = is
tested P false done is = tt

one_or : (P : Done → Type 0) (first second : Option Done) → IfSome first P → IfSome second P → IfSome (option_or first second) P
one_or P None second one other = other
one_or P (Some done) second one other = one

digest_in : (o : Option (List ℕ)) → IfSome (option_and_then digest_of o) IsDigest
digest_in None = tt
digest_in (Some text) = digest_formed text

pub digest_is : (key : List ℕ) (d : Data) → IfSome (digest_at key d) IsDigest
digest_is key d = digest_in (text_at key d)

module _ (ids counts : ℕ) where
  abbrev Few : ℕ → Type 0
  Few n = n ≤ ids

  abbrev Counts : ℕ → Type 0
  Counts n = n ≤ counts

  abbrev Within : Done → Type 0
  Within done = DoneWithin ids counts done

  report_is : (d : Data) → IfSome (report_of ids d) Within
  report_is d = found_then Few Within (number_at (codes "report") ids d) _ (number_formed (codes "report") ids d) (λ id is. tested Within (has_members 1 d) (Report id) is)

  deferral_is : (d : Data) → IfSome (deferral_of ids d) Within
  deferral_is d = found_then Few Within (number_at (codes "deferral") ids d) _ (number_formed (codes "deferral") ids d) (λ id is. tested Within (has_members 1 d) (Deferral id) is)

  filed_is : (d : Data) → IfSome (filed_of ids d) Within
  filed_is d =
      found_then Few Within (number_at (codes "release") ids d) _ (number_formed (codes "release") ids d) (λ release is_release.
      found_then Few Within (number_at (codes "revision") ids d) _ (number_formed (codes "revision") ids d) (λ revision is_revision.
      tested Within (has_members 2 d) (Filed release revision) (is_release, is_revision)))

  prepared_is : (d : Data) → IfSome (prepared_of ids d) Within
  prepared_is d =
      found_then Few Within (number_at (codes "release") ids d) _ (number_formed (codes "release") ids d) (λ release is_release.
      found_then Few Within (number_at (codes "revision") ids d) _ (number_formed (codes "revision") ids d) (λ revision is_revision.
      found_then IsDigest Within (digest_at (codes "digest") d) _ (digest_is (codes "digest") d) (λ digest is_digest.
      tested Within (has_members 3 d) (Prepared release revision digest) (is_release, is_revision, is_digest))))

  release_is : (d : Data) → IfSome (release_of ids d) Within
  release_is d = found_then Few Within (number_at (codes "release") ids d) _ (number_formed (codes "release") ids d) (λ id is. tested Within (has_members 1 d) (Release id) is)

  swept_is : (d : Data) → IfSome (swept_of counts d) Within
  swept_is d =
      found_then Counts Within (number_at (codes "reports") counts d) _ (number_formed (codes "reports") counts d) (λ reports is_reports.
      found_then Counts Within (number_at (codes "kept") counts d) _ (number_formed (codes "kept") counts d) (λ kept is_kept.
      tested Within (has_members 2 d) (Swept reports kept) (is_reports, is_kept)))

  within_formed : (d : Data) → IfSome (done_within ids counts d) Within
  unfolding done_within
  within_formed d =
      one_or Within _ (swept_of counts d)
      (one_or Within _ (release_of ids d)
      (one_or Within _ (prepared_of ids d)
      (one_or Within _ (filed_of ids d)
      (one_or Within (report_of ids d) (deferral_of ids d) (report_is d) (deferral_is d))
      (filed_is d))
      (prepared_is d))
      (release_is d))
      (swept_is d)

pub done_formed : (ids counts : ℕ) (d : Data) → IfSome (done_within ids counts d) (DoneWithin ids counts)
done_formed ids counts d = within_formed ids counts d

pub formed_of_read : (ids counts : ℕ) (d : Data) (read : Option Done) → read ≡ done_within ids counts d → IfSome read (DoneWithin ids counts)
formed_of_read ids counts d read is = subst (λ o. IfSome o (DoneWithin ids counts)) (sym is) (done_formed ids counts d)
