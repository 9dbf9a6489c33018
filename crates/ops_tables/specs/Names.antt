-- Lists of names, and their text with spaces between them.
use Rattle.std.specs.Prelude.{ℕ, ◌==◌, Bool, List, [], length, if◌then◌else◌}
use Rattle.std.specs.List.{list_any, slice_split}
use Rattle.std.specs.Str.{bytes_eq}

-- the list contains the name
abbrev pub has_name : List (List ℕ) → List ℕ → Bool
has_name names name = list_any (λ n. bytes_eq n name) names

abbrev pub is_blank : ℕ → Bool
is_blank b = b == 32

-- the names that single spaces separate; none in the empty text
abbrev pub names_of : List ℕ → List (List ℕ)
names_of text = if length text == 0 then [] else slice_split is_blank text
