-- How much of the bytes a box takes, and that what is written as a box is read as that box.
use Rattle.std.proofs.Common.{◌≡◌, ℕ, ◌-◌, ◌^◌, ◌<◌, ◌≤◌, Bool, true, false, List, [], ◌∷◌, length, drop, w32, refl, arith, length-drop, length-take, lt-ltb, le-ltb}
use Rattle.std.specs.Prelude.{nat_lt, if◌then◌else◌}
use Rattle.std.specs.Int.{to_le_bytes, from_le_bytes}
use Rattle.std.proofs.lemmas.Nat.{from_le_bytes-to_le_bytes_4}
use Rattle.std.proofs.Math.Seq.{take-append_seam, drop-append_seam}
use Rattle.compact_json.specs.Written.{IsBoxOf}
use Rattle.compact_json.specs.Boxes.{first, kind_by, kind_of, before, size, content, after, long_box}

-- ---- lengths

one_of : (b c : Bool) → 1 ≤ (if b then 1 else (if c then 2 else 5))
one_of true c = omega arith
one_of false true = omega arith
one_of false false = omega arith

before_some : (bytes : List ℕ) → 1 ≤ before bytes
unfolding before
before_some bytes = one_of (nat_lt (first bytes) 3) (nat_lt (first bytes) 5)

pub content_shorter : (bytes : List ℕ) → length (content bytes) ≤ length bytes - 1
unfolding content
content_shorter bytes =
    omega (arith, length-take (size bytes) (drop (before bytes) bytes), length-drop (before bytes) bytes, before_some bytes)

pub after_shorter : (bytes : List ℕ) → length (after bytes) ≤ length bytes - 1
unfolding after
after_shorter bytes =
    omega (arith, length-drop (size bytes) (drop (before bytes) bytes), length-drop (before bytes) bytes, before_some bytes)

-- ---- a box that is written

-- one byte
pub small_box : (b : ℕ) → b < 3 → IsBoxOf (kind_by b) [] (b ∷ [])
unfolding kind_of before size content after
small_box b small =
    let is = lt-ltb b 3 small in
    record { some = omega arith; kind_is = λ more. refl; content_is = λ more. rw is; after_is = λ more. rw is }

-- one byte for the length
pub short_box : (b : ℕ) (s : List ℕ) → 3 ≤ b → b < 5 → IsBoxOf (kind_by b) s (b ∷ length s ∷ s)
unfolding kind_of before size content after
short_box b s low high =
    let no = le-ltb b 3 low in
    let yes = lt-ltb b 5 high in
    record { some = omega arith; kind_is = λ more. refl; content_is = λ more. rw (no, yes) (take-append_seam s more); after_is = λ more. rw (no, yes) (drop-append_seam s more) }

-- four bytes for the length
pub long_box_of : (b : ℕ) (s : List ℕ) → 5 ≤ b → length s < 2 ^ 32 → IsBoxOf (kind_by b) s (long_box b s)
unfolding kind_of before size content after
long_box_of b s low small =
    let no : nat_lt b 3 ≡ false = le-ltb b 3 (omega (arith, low)) in
    let none : nat_lt b 5 ≡ false = le-ltb b 5 low in
    let len : from_le_bytes w32 (to_le_bytes w32 (length s)) ≡ length s = from_le_bytes-to_le_bytes_4 (length s) small in
    record {
      some = omega arith;
      kind_is = λ more. refl;
      content_is = λ more. rw (no, none, len) (take-append_seam s more);
      after_is = λ more. rw (no, none, len) (drop-append_seam s more);
    }
