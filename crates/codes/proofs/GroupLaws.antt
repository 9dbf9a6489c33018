-- Laws on the last group.
use Rattle.std.proofs.Common.{◌≡◌, ℕ, ◌+◌, ◌≤◌, true, false, cond, eqb, List, [], ◌∷◌, ◌++◌, length, refl, ap, arith}
use Rattle.std.proofs.lemmas.List.Sums.{count_by-le-length, length-filter}
use Rattle.std.proofs.lemmas.List.Splits.{length-slice_split}
use Rattle.std.specs.List.{slice_split}
use Rattle.desk_io.specs.Runs.{blanks, is_among, has_bytes, kept, runs_between}
use Rattle.codes.specs.Groups.{last_without_end_sign, without_end_sign, groups_of}

last_without_end_sign_append : (gs : List (List ℕ)) (g : List ℕ) → last_without_end_sign (gs ++ g ∷ []) ≡ gs ++ kept (without_end_sign g)
last_without_end_sign_append [] g = refl
last_without_end_sign_append (h ∷ []) g = refl
last_without_end_sign_append (h ∷ k ∷ gs) g = ap (λ xs. h ∷ xs) (last_without_end_sign_append (k ∷ gs) g)

-- the same of a list that ends so
pub last_without_end_sign_push : (gs all : List (List ℕ)) (g : List ℕ) → all ≡ gs ++ g ∷ [] → last_without_end_sign all ≡ gs ++ kept (without_end_sign g)
last_without_end_sign_push gs all g e = rw e (last_without_end_sign_append gs g)

length-kept : (g : List ℕ) → length (kept g) ≤ 1
length-kept g = elim (eqb (length g) 0) as (λ b. length (cond b [] (g ∷ [])) ≤ 1) [ true ↦ omega arith | false ↦ omega arith ]

pub length-last_without_end_sign : (gs : List (List ℕ)) → length (last_without_end_sign gs) ≤ length gs
length-last_without_end_sign [] = omega arith
length-last_without_end_sign (g ∷ []) = length-kept (without_end_sign g)
length-last_without_end_sign (g ∷ h ∷ gs) = let more = length-last_without_end_sign (h ∷ gs) in omega (arith, more)

-- a text has at most one group more than bytes
pub groups_of_length : (text : List ℕ) → length (groups_of text) ≤ length text + 1
unfolding groups_of
groups_of_length text =
    let last = length-last_without_end_sign (runs_between blanks text) in
    let runs = length-filter has_bytes (slice_split (is_among blanks) text) in
    let some = count_by-le-length has_bytes (slice_split (is_among blanks) text) in
    let cut = length-slice_split (is_among blanks) text in
    let pieces = count_by-le-length (is_among blanks) text in
    omega (arith, last, runs, some, cut, pieces)
