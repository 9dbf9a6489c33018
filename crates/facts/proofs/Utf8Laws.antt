-- The canonical text of a text in UTF-8 is in UTF-8.
use Rattle.std.proofs.Common.{◌≡◌, refl, sym, ap, ◌∙◌, subst, ℕ, zero, suc, ◌+◌, ◌-◌, ◌<◌, Bool, true, false, cond, eqb, List, [], ◌∷◌, ◌++◌, length, take, drop, get_or, arith, length-append, append_assoc, IsUtf8, eqb-true, append-nil}
use Rattle.std.specs.List.{All, slice_split, onto_first, slice_index}
use Rattle.std.proofs.lemmas.List.Elements.{All-nil, All-cons, All-head, All-tail, All-filter}
use Rattle.std.proofs.lemmas.List.Splits.{slice_split-cons_yes, slice_split-cons_no, length-slice_split}
use Rattle.std.proofs.lemmas.Str.{IsUtf8-nil, IsUtf8-from_ascii, IsUtf8-append, IsUtf8-take, IsUtf8-drop, IsCharBoundary-before_ascii, IsCharBoundary-after_ascii}
use Rattle.desk_io.specs.Runs.{blanks, is_among, has_bytes, runs_between}
use Rattle.codes.specs.Groups.{without_end_sign, last_without_end_sign, spaced, joined, groups_of, canonical}
use Rattle.std.proofs.Math.Seq.{take-append_seam, drop-append_seam, get_or-append_seam}

-- each piece of a text that is cut at ASCII characters

abbrev with_front : List ℕ → List (List ℕ) → List (List ℕ)
with_front pre [] = pre ∷ []
with_front pre (g ∷ gs) = (pre ++ g) ∷ gs

front_onto : (pre : List ℕ) (x : ℕ) (gs : List (List ℕ)) → with_front pre (onto_first x gs) ≡ with_front (pre ++ x ∷ []) gs
front_onto pre x [] = refl
front_onto pre x (g ∷ gs) = ap (λ xs. xs ∷ gs) (sym (append_assoc pre (x ∷ []) g))

no_front : (gs : List (List ℕ)) → All IsUtf8 (with_front [] gs) → 0 < length gs → All IsUtf8 gs
no_front [] all some = absurd (omega arith)
no_front (g ∷ gs) all some = all

module _ (p : ℕ → Bool) (ascii : (x : ℕ) → p x ≡ true → x < 128) where
  cut_before : (pre xs : List ℕ) (x : ℕ) → p x ≡ true → IsUtf8 (pre ++ x ∷ xs) → IsUtf8 pre
  cut_before pre xs x e is =
      let here : get_or (pre ++ x ∷ xs) (length pre) 0 ≡ x = get_or-append_seam pre x xs 0 in
      let low = ascii x e in
      let long = length-append pre (x ∷ xs) in
      subst IsUtf8 (take-append_seam pre (x ∷ xs)) (IsUtf8-take (pre ++ x ∷ xs) (length pre) is (IsCharBoundary-before_ascii (pre ++ x ∷ xs) (length pre) (omega arith) (omega (arith, here, low))))

  cut_after : (pre xs : List ℕ) (x : ℕ) → p x ≡ true → IsUtf8 (pre ++ x ∷ xs) → IsUtf8 xs
  cut_after pre xs x e is =
      let here : get_or (pre ++ x ∷ xs) (length pre) 0 ≡ x = get_or-append_seam pre x xs 0 in
      let low = ascii x e in
      let long = length-append pre (x ∷ xs) in
      let next : length pre + 1 ≡ length (pre ++ x ∷ []) = sym (length-append pre (x ∷ [])) in
      let split : drop (length pre + 1) (pre ++ x ∷ xs) ≡ xs = (λ i. drop (next i) (sym (append_assoc pre (x ∷ []) xs) i)) ∙ drop-append_seam (pre ++ x ∷ []) xs in
      subst IsUtf8 split (IsUtf8-drop (pre ++ x ∷ xs) (length pre + 1) is (IsCharBoundary-after_ascii (pre ++ x ∷ xs) (length pre) is (omega arith) (omega (arith, here, low))))

  pieces_front : (pre xs : List ℕ) → IsUtf8 (pre ++ xs) → All IsUtf8 (with_front pre (slice_split p xs))
  pieces_front pre [] is = All-cons IsUtf8 (pre ++ []) [] is (All-nil IsUtf8)
  pieces_front pre (x ∷ xs) is = by (p x) refl (pieces_front [] xs) (pieces_front (pre ++ x ∷ []) xs)
    where
      by : (b : Bool) → p x ≡ b → (IsUtf8 xs → All IsUtf8 (with_front [] (slice_split p xs))) → (IsUtf8 ((pre ++ x ∷ []) ++ xs) → All IsUtf8 (with_front (pre ++ x ∷ []) (slice_split p xs)))
          → All IsUtf8 (with_front pre (slice_split p (x ∷ xs)))
      by true e fresh more =
          subst (λ gs. All IsUtf8 (with_front pre gs)) (sym (slice_split-cons_yes p x xs e))
          (All-cons IsUtf8 (pre ++ []) (slice_split p xs) (subst IsUtf8 (sym (append-nil pre)) (cut_before pre xs x e is)) (no_front (slice_split p xs) (fresh (cut_after pre xs x e is)) (omega (arith, length-slice_split p xs))))
      by false e fresh more =
          subst (λ gs. All IsUtf8 (with_front pre gs)) (sym (slice_split-cons_no p x xs e))
          (subst (All IsUtf8) (sym (front_onto pre x (slice_split p xs))) (more (subst IsUtf8 (sym (append_assoc pre (x ∷ []) xs)) is)))

  pieces_utf8 : (xs : List ℕ) → IsUtf8 xs → All IsUtf8 (slice_split p xs)
  pieces_utf8 xs is = no_front (slice_split p xs) (pieces_front [] xs is) (omega (arith, length-slice_split p xs))

low_blank : (x : ℕ) (a b c d : Bool) → (eqb 32 x ≡ a) → (eqb 9 x ≡ b) → (eqb 13 x ≡ c) → (eqb 10 x ≡ d) → is_among blanks x ≡ true → x < 128
low_blank x true b c d e f g h is = let s = eqb-true 32 x e in omega arith
low_blank x false true c d e f g h is = let s = eqb-true 9 x f in omega arith
low_blank x false false true d e f g h is = let s = eqb-true 13 x g in omega arith
low_blank x false false false true e f g h is = let s = eqb-true 10 x h in omega arith
low_blank x false false false false e f g h is = absurd (let no : is_among blanks x ≡ false = rw (e, f, g, h) refl in cc)

blank_ascii : (x : ℕ) → is_among blanks x ≡ true → x < 128
blank_ascii x is = low_blank x (eqb 32 x) (eqb 9 x) (eqb 13 x) (eqb 10 x) refl refl refl refl is

-- the groups

without_end_sign_utf8 : (g : List ℕ) (b : Bool) → eqb (slice_index g (length g - 1)) 61 ≡ b → IsUtf8 g → IsUtf8 (cond b (take (length g - 1) g) g)
without_end_sign_utf8 g false e is = is
without_end_sign_utf8 [] true e is = is
without_end_sign_utf8 (c ∷ g) true e is =
    let sign = eqb-true (slice_index (c ∷ g) (length (c ∷ g) - 1)) 61 e in
    IsUtf8-take (c ∷ g) (length (c ∷ g) - 1) is (IsCharBoundary-before_ascii (c ∷ g) (length (c ∷ g) - 1) (omega arith) (omega (arith, sign)))

kept_utf8 : (b : Bool) (g : List ℕ) → IsUtf8 g → All IsUtf8 (cond b [] (g ∷ []))
kept_utf8 true g is = All-nil IsUtf8
kept_utf8 false g is = All-cons IsUtf8 g [] is (All-nil IsUtf8)

last_utf8 : (gs : List (List ℕ)) → All IsUtf8 gs → All IsUtf8 (last_without_end_sign gs)
last_utf8 [] all = All-nil IsUtf8
last_utf8 (g ∷ []) all = kept_utf8 (eqb (length (without_end_sign g)) 0) (without_end_sign g) (without_end_sign_utf8 g (eqb (slice_index g (length g - 1)) 61) refl (All-head IsUtf8 g [] all))
last_utf8 (g ∷ h ∷ gs) all = All-cons IsUtf8 g (last_without_end_sign (h ∷ gs)) (All-head IsUtf8 g (h ∷ gs) all) (last_utf8 (h ∷ gs) (All-tail IsUtf8 g (h ∷ gs) all))

one_utf8 : (b : ℕ) → b < 128 → IsUtf8 (b ∷ [])
one_utf8 b low = IsUtf8-from_ascii (b ∷ []) (λ i. elim i as (λ i. slice_index (b ∷ []) i < 128) [ zero ↦ low | suc n ↦ omega arith ])

spaced_utf8 : (gs : List (List ℕ)) → All IsUtf8 gs → IsUtf8 (spaced gs)
spaced_utf8 [] all = IsUtf8-nil
spaced_utf8 (g ∷ gs) all =
    IsUtf8-append (32 ∷ g) (spaced gs) (IsUtf8-append (32 ∷ []) g (one_utf8 32 (omega arith)) (All-head IsUtf8 g gs all)) (spaced_utf8 gs (All-tail IsUtf8 g gs all))

joined_utf8 : (gs : List (List ℕ)) → All IsUtf8 gs → IsUtf8 (joined gs)
joined_utf8 [] all = IsUtf8-nil
joined_utf8 (g ∷ gs) all = IsUtf8-append g (spaced gs) (All-head IsUtf8 g gs all) (spaced_utf8 gs (All-tail IsUtf8 g gs all))

with_end_sign_utf8 : (b : Bool) (text : List ℕ) → IsUtf8 text → IsUtf8 (cond b (text ++ 61 ∷ []) text)
with_end_sign_utf8 true text is = IsUtf8-append text (61 ∷ []) is (one_utf8 61 (omega arith))
with_end_sign_utf8 false text is = is

-- the canonical text of a text in UTF-8
canonical_utf8 : (text : List ℕ) → IsUtf8 text → IsUtf8 (canonical (groups_of text))
unfolding canonical groups_of
canonical_utf8 text is =
    let pieces = pieces_utf8 (is_among blanks) blank_ascii text is in
    let runs = All-filter has_bytes IsUtf8 (slice_split (is_among blanks) text) pieces in
    let gs = last_without_end_sign (runs_between blanks text) in
    with_end_sign_utf8 (eqb (slice_index (joined gs) (length (joined gs) - 1)) 61) (joined gs) (joined_utf8 gs (last_utf8 (runs_between blanks text) runs))

-- the same, of a text that is that canonical text
pub received_utf8 : (text received : List ℕ) → received ≡ canonical (groups_of text) → IsUtf8 text → IsUtf8 received
received_utf8 text received e is = subst IsUtf8 (sym e) (canonical_utf8 text is)
