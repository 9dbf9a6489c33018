-- What SHA-256 gives is 32 bytes.
use Rattle.std.proofs.Common.{ℕ, zero, suc, ◌/◌, ◌%◌, ◌<◌, ◌^◌, List, [], ◌∷◌, slice_index, arith}
use Rattle.std.specs.Int.{byte_at, bytes_high_first, to_be_bytes, w32}
use Rattle.std.specs.List.{AllByRecursion}
use Rattle.asks.specs.declared.call.Ask.{Ask}
use Rattle.plan.specs.declared.release.Revision.{Revision}
use Rattle.asks.specs.Canonical.{ask_digest}
use Rattle.asks.specs.Digests.{IsDigest}
use Rattle.release_text.specs.Revisions.{text_digest, revision_digest, revision_text}
use Rattle.sha2.specs.Sha256.{digest_bytes, final_hash, initial_hash_256, sha256}
use Rattle.sha2.proofs.Facts256.{length-sha256}
use Rattle.desk_io.proofs.Each.{each_append}

abbrev IsByte : ℕ → Type 0
IsByte b = b < 256

byte_low : (m : ℕ) → m % 256 < 256
byte_low m = omega arith

byte_is : (i n : ℕ) → IsByte (byte_at i n)
byte_is zero n = byte_low n
byte_is (suc i) n = byte_low (n / 256 ^ suc i)

bytes_are : (k n : ℕ) → AllByRecursion IsByte (bytes_high_first k n)
bytes_are zero n = tt
bytes_are (suc k) n = (byte_is k n, bytes_are k n)

words_are : (h : List ℕ) (n : ℕ) → AllByRecursion IsByte (digest_bytes h n)
unfolding digest_bytes
words_are h zero = tt
words_are h (suc n) = each_append IsByte (digest_bytes h n) (to_be_bytes w32 (slice_index h n)) (words_are h n) (bytes_are 4 (slice_index h n))

at_each : (xs : List ℕ) → AllByRecursion IsByte xs → (i : ℕ) → slice_index xs i < 256
at_each [] all i = omega arith
at_each (x ∷ xs) all zero = all.0
at_each (x ∷ xs) all (suc i) = at_each xs all.1 i

bytes_of_sha : (m : List ℕ) → AllByRecursion IsByte (sha256 m)
unfolding sha256
bytes_of_sha m = words_are (final_hash initial_hash_256 m) 8

digest_formed : (m : List ℕ) → IsDigest (sha256 m)
digest_formed m = record { long = length-sha256 m; bytes = at_each (sha256 m) (bytes_of_sha m) }

-- the digest of what is asked
pub ask_digest_formed : (a : Ask) → IsDigest (ask_digest a)
unfolding ask_digest
ask_digest_formed a = digest_formed _

-- and of the text of a revision
pub revision_digest_formed : (v : Revision) → IsDigest (revision_digest v)
unfolding text_digest
revision_digest_formed v = digest_formed (revision_text v)
