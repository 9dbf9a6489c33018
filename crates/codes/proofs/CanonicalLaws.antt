-- The groups of a text are groups, and the canonical text of groups has these groups.
use Rattle.std.proofs.Common.{◌≡◌, ℕ, ◌-◌, ◌<◌, Bool, true, false, not, cond, eqb, List, [], ◌∷◌, ◌++◌, length, take, get_or, refl, ap, sym, ◌∙◌, arith, append_assoc, length-append}
use Rattle.std.specs.List.{All, filter, slice_split, onto_first, slice_index}
use Rattle.std.proofs.lemmas.Bool.{ne_eqb}
use Rattle.std.proofs.lemmas.List.{append-nil}
use Rattle.std.proofs.Math.Seq.{get_or-append_right, get_or-append_seam, take-append_seam}
use Rattle.std.proofs.lemmas.List.Elements.{All-nil, All-cons, All-head, All-tail, All-append, All-take, All-filter, filter_passes}
use Rattle.std.proofs.lemmas.List.Splits.{slice_split-cons_yes, slice_split-cons_no, slice_split_none, slice_split_at}
use Rattle.desk_io.specs.Runs.{blanks, is_among, has_bytes, kept, runs_between}
use Rattle.codes.specs.Groups.{IsGroup, without_end_sign, last_without_end_sign, spaced, joined, groups_of, canonical}

abbrev Passes : (ℕ → Bool) → List ℕ → Type 0
Passes p g = All (λ b. p b ≡ false) g

-- no separator is left in a piece

onto_passes : (p : ℕ → Bool) (x : ℕ) (gs : List (List ℕ)) → p x ≡ false → All (Passes p) gs → All (Passes p) (onto_first x gs)
onto_passes p x [] e h = All-cons (Passes p) (x ∷ []) [] (All-cons (λ b. p b ≡ false) x [] e (All-nil _)) (All-nil _)
onto_passes p x (g ∷ gs) e h =
    All-cons (Passes p) (x ∷ g) gs (All-cons (λ b. p b ≡ false) x g e (All-head (Passes p) g gs h)) (All-tail (Passes p) g gs h)

pieces_step : (p : ℕ → Bool) (b : Bool) (x : ℕ) (xs : List ℕ) → p x ≡ b → All (Passes p) (slice_split p xs) → All (Passes p) (slice_split p (x ∷ xs))
pieces_step p true x xs e h = rw (slice_split-cons_yes p x xs e) (All-cons (Passes p) [] (slice_split p xs) (All-nil _) h)
pieces_step p false x xs e h = rw (slice_split-cons_no p x xs e) (onto_passes p x (slice_split p xs) e h)

pieces_pass : (p : ℕ → Bool) (text : List ℕ) → All (Passes p) (slice_split p text)
pieces_pass p [] = All-cons (Passes p) [] [] (All-nil _) (All-nil _)
pieces_pass p (x ∷ xs) = pieces_step p (p x) x xs refl (pieces_pass p xs)

pub runs_are_groups : (text : List ℕ) → All IsGroup (runs_between blanks text)
runs_are_groups text =
    let passes = All-filter has_bytes (Passes (is_among blanks)) (slice_split (is_among blanks) text) (pieces_pass (is_among blanks) text) in
    let full = filter_passes has_bytes (slice_split (is_among blanks) text) in
    λ k d within. record { full = full k d within; plain = passes k d within }

-- the last group without its end sign

without_end_sign_passes : (p : ℕ → Bool) (b : Bool) (g : List ℕ) → Passes p g → Passes p (cond b (take (length g - 1) g) g)
without_end_sign_passes p true g h = All-take (λ b. p b ≡ false) (length g - 1) g h
without_end_sign_passes p false g h = h

kept_is_group : (b : Bool) (g : List ℕ) → eqb (length g) 0 ≡ b → Passes (is_among blanks) g → All IsGroup (cond b [] (g ∷ []))
kept_is_group true g e h = All-nil _
kept_is_group false g e h = All-cons IsGroup g [] (record { full = rw e refl; plain = h }) (All-nil _)

pub last_are_groups : (gs : List (List ℕ)) → All IsGroup gs → All IsGroup (last_without_end_sign gs)
last_are_groups [] h = All-nil _
last_are_groups (g ∷ []) h =
    kept_is_group (eqb (length (without_end_sign g)) 0) (without_end_sign g) refl (without_end_sign_passes (is_among blanks) (eqb (slice_index g (length g - 1)) 61) g ((All-head IsGroup g [] h).plain))
last_are_groups (g ∷ h ∷ gs) all =
    All-cons IsGroup g (last_without_end_sign (h ∷ gs)) (All-head IsGroup g (h ∷ gs) all) (last_are_groups (h ∷ gs) (All-tail IsGroup g (h ∷ gs) all))

pub groups_are_groups : (text : List ℕ) → All IsGroup (groups_of text)
unfolding groups_of
groups_are_groups text = last_are_groups (runs_between blanks text) (runs_are_groups text)

-- the runs of joined groups are these groups

full_front : (g : List ℕ) (gs : List (List ℕ)) → has_bytes g ≡ true → filter has_bytes (g ∷ gs) ≡ g ∷ filter has_bytes gs
full_front g gs e = rw e refl

runs_joined : (g : List ℕ) (gs : List (List ℕ)) → All IsGroup (g ∷ gs) → runs_between blanks (g ++ spaced gs) ≡ g ∷ gs
runs_joined g [] h =
    let is = All-head IsGroup g [] h in
    rw (append-nil g, slice_split_none (is_among blanks) g is.plain) (full_front g [] is.full)
runs_joined g (h ∷ gs) all =
    let is = All-head IsGroup g (h ∷ gs) all in
    rw (slice_split_at (is_among blanks) g 32 (h ++ spaced gs) is.plain refl)
    (full_front g (slice_split (is_among blanks) (h ++ spaced gs)) is.full ∙ ap (λ xs. g ∷ xs) (runs_joined h gs (All-tail IsGroup g (h ∷ gs) all)))

-- one more end sign

abbrev ended : List (List ℕ) → List (List ℕ)
ended [] = []
ended (g ∷ []) = (g ++ 61 ∷ []) ∷ []
ended (g ∷ h ∷ gs) = g ∷ ended (h ∷ gs)

spaced_ended : (g : List ℕ) (gs : List (List ℕ)) → spaced (g ∷ gs) ++ 61 ∷ [] ≡ spaced (ended (g ∷ gs))
spaced_ended g [] = ap (λ xs. (32 ∷ xs) ++ 61 ∷ []) (append-nil g) ∙ sym (append-nil (32 ∷ (g ++ 61 ∷ [])))
spaced_ended g (h ∷ gs) = append_assoc (32 ∷ g) (spaced (h ∷ gs)) (61 ∷ []) ∙ ap (λ xs. (32 ∷ g) ++ xs) (spaced_ended h gs)

joined_ended : (g : List ℕ) (gs : List (List ℕ)) → joined (g ∷ gs) ++ 61 ∷ [] ≡ joined (ended (g ∷ gs))
joined_ended g [] = ap (λ xs. xs ++ 61 ∷ []) (append-nil g) ∙ sym (append-nil (g ++ 61 ∷ []))
joined_ended g (h ∷ gs) = append_assoc g (spaced (h ∷ gs)) (61 ∷ []) ∙ ap (λ xs. g ++ xs) (spaced_ended h gs)

ended_group : (g : List ℕ) → IsGroup g → IsGroup (g ++ 61 ∷ [])
ended_group g is = record {
  full = ap not (ne_eqb (length (g ++ 61 ∷ [])) 0 (λ e. omega (arith, length-append g (61 ∷ []))));
  plain = All-append (λ b. is_among blanks b ≡ false) g (61 ∷ []) is.plain (All-cons (λ b. is_among blanks b ≡ false) 61 [] refl (All-nil _));
}

ended_are_groups : (gs : List (List ℕ)) → All IsGroup gs → All IsGroup (ended gs)
ended_are_groups [] h = All-nil _
ended_are_groups (g ∷ []) h = All-cons IsGroup (g ++ 61 ∷ []) [] (ended_group g (All-head IsGroup g [] h)) (All-nil _)
ended_are_groups (g ∷ h ∷ gs) all =
    All-cons IsGroup g (ended (h ∷ gs)) (All-head IsGroup g (h ∷ gs) all) (ended_are_groups (h ∷ gs) (All-tail IsGroup g (h ∷ gs) all))

kept_full : (b : Bool) (g : List ℕ) → not b ≡ true → cond b [] (g ∷ []) ≡ g ∷ []
kept_full true g e = absurd cc
kept_full false g e = refl

kept_group : (g : List ℕ) → IsGroup g → kept g ≡ g ∷ []
kept_group g is = kept_full (eqb (length g) 0) g is.full

without_with_end_sign : (g : List ℕ) → without_end_sign (g ++ 61 ∷ []) ≡ g
without_with_end_sign g =
    let long : length (g ++ 61 ∷ []) - 1 ≡ length g = omega (arith, length-append g (61 ∷ [])) in
    rw (long, get_or-append_seam g 61 [] 0) (take-append_seam g (61 ∷ []))

last_ended : (gs : List (List ℕ)) → All IsGroup gs → last_without_end_sign (ended gs) ≡ gs
last_ended [] h = refl
last_ended (g ∷ []) h = rw (without_with_end_sign g) (kept_group g (All-head IsGroup g [] h))
last_ended (g ∷ h ∷ []) all = ap (λ xs. g ∷ xs) (last_ended (h ∷ []) (All-tail IsGroup g (h ∷ []) all))
last_ended (g ∷ h ∷ k ∷ gs) all = ap (λ xs. g ∷ xs) (last_ended (h ∷ k ∷ gs) (All-tail IsGroup g (h ∷ k ∷ gs) all))

-- no end sign

abbrev pub last_byte : List ℕ → ℕ
last_byte text = slice_index text (length text - 1)

last_byte_append : (xs ys : List ℕ) → 0 < length ys → last_byte (xs ++ ys) ≡ last_byte ys
last_byte_append xs ys some =
    let long = length-append xs ys in
    let place : length (xs ++ ys) - 1 - length xs ≡ length ys - 1 = omega arith in
    get_or-append_right xs ys (length (xs ++ ys) - 1) 0 (omega arith) ∙ ap (λ n. get_or ys n 0) place

pub group_has_bytes : (g xs : List ℕ) → IsGroup g → 0 < length (g ++ xs)
group_has_bytes [] xs is = absurd (let full = is.full in cc)
group_has_bytes (b ∷ g) xs is = omega arith

-- the last byte is that of what follows the first group
pub last_byte_after : (g h : List ℕ) (gs : List (List ℕ)) → IsGroup h → last_byte (g ++ spaced (h ∷ gs)) ≡ last_byte (h ++ spaced gs)
last_byte_after g h gs is =
    let cut : g ++ spaced (h ∷ gs) ≡ (g ++ 32 ∷ []) ++ (h ++ spaced gs) = sym (append_assoc g (32 ∷ []) (h ++ spaced gs)) in
    ap last_byte cut ∙ last_byte_append (g ++ 32 ∷ []) (h ++ spaced gs) (group_has_bytes h (spaced gs) is)

last_unchanged : (g : List ℕ) (gs : List (List ℕ)) → All IsGroup (g ∷ gs) → eqb (last_byte (g ++ spaced gs)) 61 ≡ false → last_without_end_sign (g ∷ gs) ≡ g ∷ gs
last_unchanged g [] all e =
    let e' = rw (append-nil g) at e in
    rw e' (kept_group g (All-head IsGroup g [] all))
last_unchanged g (h ∷ gs) all e =
    let rest = All-tail IsGroup g (h ∷ gs) all in
    let last = last_byte_after g h gs (All-head IsGroup h gs rest) in
    ap (λ xs. g ∷ xs) (last_unchanged h gs rest (ap (λ n. eqb n 61) (sym last) ∙ e))

runs_of_joined : (gs : List (List ℕ)) → All IsGroup gs → runs_between blanks (joined gs) ≡ gs
runs_of_joined [] h = refl
runs_of_joined (g ∷ gs) h = runs_joined g gs h

again : (b : Bool) (g : List ℕ) (gs : List (List ℕ)) → All IsGroup (g ∷ gs) → eqb (last_byte (joined (g ∷ gs))) 61 ≡ b
    → last_without_end_sign (runs_between blanks (cond b (joined (g ∷ gs) ++ 61 ∷ []) (joined (g ∷ gs)))) ≡ g ∷ gs
again true g gs all e =
    ap (λ t. last_without_end_sign (runs_between blanks t)) (joined_ended g gs)
    ∙ ap last_without_end_sign (runs_of_joined (ended (g ∷ gs)) (ended_are_groups (g ∷ gs) all)) ∙ last_ended (g ∷ gs) all
again false g gs all e = ap last_without_end_sign (runs_joined g gs all) ∙ last_unchanged g gs all e

-- the canonical text of groups has these groups
pub groups_of_canonical : (gs : List (List ℕ)) → All IsGroup gs → groups_of (canonical gs) ≡ gs
unfolding groups_of canonical
groups_of_canonical [] all = refl
groups_of_canonical (g ∷ gs) all = again (eqb (last_byte (joined (g ∷ gs))) 61) g gs all refl
