-- Indices of rows, sorted by the names of the rows' groups.
use Rattle.std.specs.Prelude.{◌≡◌, ℕ, suc, ◌<◌, Bool, true, false, List, [], ◌∷◌, ◌++◌, length, Option, None, Some, All, filter, replicate, slice_get, take}
use Rattle.std.specs.List.{filter_map, list_any}
use Rattle.std.specs.List.Sorted.{IsSortedBy}
use Rattle.std.specs.Ordering.{nat_cmp, is_lt}
use Rattle.std.specs.Cmp.Lexicographic.{slice_cmp}
use Rattle.std.specs.Str.{bytes_eq}
use Rattle.ops_tables.specs.Keys.{AreNew}

-- the rows at these indices
abbrev pub picked : {R : Type 0} → List R → List ℕ → List R
picked rows places = filter_map (λ place. slice_get rows place) places

-- the indices of the rows, counted from `start`
abbrev pub places_from : {R : Type 0} → ℕ → List R → List ℕ
places_from start [] = []
places_from start (row ∷ rows) = start ∷ places_from (suc start) rows

abbrev pub name_or : {R : Type 0} → ℕ → (R → List ℕ) → Option R → List ℕ
name_or size name None = replicate size 0
name_or size name (Some row) = name row

-- the group name of the row at this index; zeros if there is none
abbrev pub name_at : {R : Type 0} → ℕ → (R → List ℕ) → List R → ℕ → List ℕ
name_at size name rows place = name_or size name (slice_get rows place)

-- those of the indices whose row is in the group named s
abbrev pub places_at : {R : Type 0} → ℕ → (R → List ℕ) → List R → List ℕ → List ℕ → List ℕ
places_at size name rows s places = filter (λ place. bytes_eq (name_at size name rows place) s) places

-- the indices of all rows, sorted by the names of their groups; rows of one group keep their order
pub record IsOrder {R : Type 0} (size : ℕ) (name : R → List ℕ) (rows : List R) (order : List ℕ) : Type 0 where
  pub sorted : IsSortedBy (λ a b. is_lt (slice_cmp nat_cmp (name_at size name rows a) (name_at size name rows b))) order
  pub groups : (s : List ℕ) → places_at size name rows s order ≡ places_at size name rows s (places_from 0 rows)
  pub within : All (λ place. place < length rows) order

abbrev pub is_same_as : {R : Type 0} → (R → R → Bool) → R → Option R → Bool
is_same_as is_same_key row None = false
is_same_as is_same_key row (Some other) = is_same_key row other

-- an earlier row has the key of this row
abbrev pub is_doubled_by : {R : Type 0} → (R → R → Bool) → List R → Option R → Bool
is_doubled_by is_same_key earlier None = false
is_doubled_by is_same_key earlier (Some row) = list_any (is_same_key row) earlier

-- an earlier row has the key of the row at this index
abbrev pub is_doubled : {R : Type 0} → (R → R → Bool) → List R → ℕ → Bool
is_doubled is_same_key rows place = is_doubled_by is_same_key (take place rows) (slice_get rows place)

-- the row at this index is the first whose key an earlier row has
pub record IsFirstDoubled {R : Type 0} (is_same_key : R → R → Bool) (rows : List R) (place : ℕ) : Type 0 where
  pub before : List R
  pub row : R
  pub after : List R
  pub is : rows ≡ before ++ row ∷ after
  pub at : length before ≡ place
  pub new : AreNew is_same_key [] before
  pub doubled : list_any (is_same_key row) before ≡ true
