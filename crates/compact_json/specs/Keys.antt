-- The keys of an object in byte order, without duplicates.
use Rattle.std.specs.Prelude.{ℕ, List, Bool, true, ◌&&◌, ◌||◌, ◌==◌, not, false, if◌then◌else◌, Option, None, Some}
use Rattle.std.specs.Ordering.{nat_cmp, is_lt}
use Rattle.std.specs.Cmp.Lexicographic.{slice_cmp}
use Rattle.serde_json.specs.Data.{Data, Members, no_members, member}
use Rattle.serde_json.specs.Events.{members_len}
use Rattle.serde_json.specs.Find.{as_object}
use Rattle.compact_json.specs.Kept.{is_text}

abbrev pub is_below : List ℕ → List ℕ → Bool
is_below a b = is_lt (slice_cmp nat_cmp a b)

-- the key comes after the last one, or there is no last one
abbrev pub is_past : Bool → List ℕ → List ℕ → Bool
is_past started last k = not started || is_below last k

-- the members whose keys come after the last one
abbrev pub past : Bool → List ℕ → Members → Members
past started last no_members = no_members
past started last (member k d ms) = if is_past started last k then member k d (past started last ms) else past started last ms

abbrev pub first_key : Members → Option (List ℕ)
first_key no_members = None
first_key (member k d ms) = Some k

abbrev pub is_below_all : List ℕ → Option (List ℕ) → Bool
is_below_all k None = true
is_below_all k (Some q) = is_below k q

-- the lesser of a box's key and the least key found so far, among the keys after the last one
abbrev pub lesser : Bool → List ℕ → List ℕ → Option (List ℕ) → Option (List ℕ)
lesser started last k least = if is_text k && is_past started last k && is_below_all k least then Some k else least

abbrev pub has_count : ℕ → Option Members → Bool
has_count n None = false
has_count n (Some ms) = members_len ms == n

-- an object of exactly n members
abbrev pub has_members : ℕ → Data → Bool
has_members n d = has_count n (as_object d)
