-- The groups of a report's text (FMH-1, chapter 12; WMO FM 15 and FM 51).
use Rattle.std.specs.Prelude.{◌≡◌, ℕ, ◌-◌, ◌==◌, true, false, if◌then◌else◌, List, [], ◌∷◌, ◌++◌, length, take, slice_index, All}
use Rattle.desk_io.specs.Runs.{blanks, is_among, has_bytes, kept, runs_between}

-- a group isn't empty and contains no blank
pub record IsGroup (g : List ℕ) : Type 0 where
  pub full : has_bytes g ≡ true
  pub plain : All (λ b. is_among blanks b ≡ false) g

-- the run without a final =
abbrev pub without_end_sign : List ℕ → List ℕ
without_end_sign g = if slice_index g (length g - 1) == 61 then take (length g - 1) g else g

-- removes a final = from the last run, and the run itself if nothing is left
abbrev pub last_without_end_sign : List (List ℕ) → List (List ℕ)
last_without_end_sign [] = []
last_without_end_sign (g ∷ []) = kept (without_end_sign g)
last_without_end_sign (g ∷ h ∷ gs) = g ∷ last_without_end_sign (h ∷ gs)

-- the groups of a text: its maximal runs of bytes that aren't blank, without the = that ends a report
unfoldable pub groups_of : List ℕ → List (List ℕ)
groups_of text = last_without_end_sign (runs_between blanks text)

-- the first group, or no bytes if there is none
abbrev pub first_of : List (List ℕ) → List ℕ
first_of [] = []
first_of (g ∷ gs) = g

-- the groups, with a space before each
abbrev pub spaced : List (List ℕ) → List ℕ
spaced [] = []
spaced (g ∷ gs) = (32 ∷ g) ++ spaced gs

abbrev pub joined : List (List ℕ) → List ℕ
joined [] = []
joined (g ∷ gs) = g ++ spaced gs

-- appends another =, if the text ends in =
abbrev pub with_end_sign : List ℕ → List ℕ
with_end_sign text = if slice_index text (length text - 1) == 61 then text ++ 61 ∷ [] else text

-- The canonical text, in which single spaces separate the groups. If the last group ends in =, another = follows, so
-- that the text splits into the same groups.
unfoldable pub canonical : List (List ℕ) → List ℕ
canonical gs = with_end_sign (joined gs)
