-- No text is shorter than the canonical text of its groups.
use Rattle.std.proofs.Common.{◌≡◌, ℕ, ◌+◌, ◌-◌, ◌<◌, ◌≤◌, Bool, true, false, cond, eqb, List, [], ◌∷◌, ◌++◌, length, take, refl, ap, arith, length-append}
use Rattle.std.specs.List.{All, filter, slice_split, onto_first}
use Rattle.std.proofs.lemmas.List.{append-nil, length-take}
use Rattle.std.proofs.lemmas.List.Elements.{All-head, All-tail}
use Rattle.std.proofs.lemmas.List.Splits.{slice_split-cons_yes, slice_split-cons_no}
use Rattle.desk_io.specs.Runs.{blanks, is_among, has_bytes, kept, runs_between}
use Rattle.codes.specs.Groups.{IsGroup, last_without_end_sign, spaced, joined, groups_of, canonical}
use Rattle.codes.proofs.CanonicalLaws.{last_byte, last_byte_after, group_has_bytes, runs_are_groups, last_are_groups}
use Rattle.desk_io.specs.Station.{is_station}

-- the bytes of lists, and one more for each
abbrev size : List (List ℕ) → ℕ
size [] = 0
size (g ∷ gs) = length g + 1 + size gs

onto_size : (x : ℕ) (gs : List (List ℕ)) (n : ℕ) → size gs ≡ n + 1 → size (onto_first x gs) ≡ n + 2
onto_size x [] n e = absurd (omega arith)
onto_size x (g ∷ gs) n e = omega arith

pieces_size_step : (p : ℕ → Bool) (b : Bool) (x : ℕ) (xs : List ℕ) → p x ≡ b → size (slice_split p xs) ≡ length xs + 1 → size (slice_split p (x ∷ xs)) ≡ length xs + 2
pieces_size_step p true x xs e h = rw (slice_split-cons_yes p x xs e) (omega arith)
pieces_size_step p false x xs e h = rw (slice_split-cons_no p x xs e) (onto_size x (slice_split p xs) (length xs) h)

pieces_size : (p : ℕ → Bool) (text : List ℕ) → size (slice_split p text) ≡ length text + 1
pieces_size p [] = refl
pieces_size p (x ∷ xs) = let more = pieces_size_step p (p x) x xs refl (pieces_size p xs) in omega (arith, more)

kept_size : (b : Bool) (g : List ℕ) (gs hs : List (List ℕ)) → size hs ≤ size gs → size (cond b (g ∷ hs) hs) ≤ length g + 1 + size gs
kept_size true g gs hs h = omega arith
kept_size false g gs hs h = omega arith

filter_size : (p : List ℕ → Bool) (gs : List (List ℕ)) → size (filter p gs) ≤ size gs
filter_size p [] = omega arith
filter_size p (g ∷ gs) = kept_size (p g) g gs (filter p gs) (filter_size p gs)

spaced_size : (gs : List (List ℕ)) → length (spaced gs) ≡ size gs
spaced_size [] = refl
spaced_size (g ∷ gs) = let e = length-append (32 ∷ g) (spaced gs) in let more = spaced_size gs in omega (arith, e, more)

joined_size : (g : List ℕ) (gs : List (List ℕ)) → length (joined (g ∷ gs)) + 1 ≡ size (g ∷ gs)
joined_size g gs = let e = length-append g (spaced gs) in let more = spaced_size gs in omega (arith, e, more)

-- one, where the joined groups end in the end_sign
abbrev end_sign : List (List ℕ) → ℕ
end_sign gs = cond (eqb (last_byte (joined gs)) 61) 1 0

with_end_sign_length : (b : Bool) (text : List ℕ) → length (cond b (text ++ 61 ∷ []) text) ≡ length text + cond b 1 0
with_end_sign_length true text = length-append text (61 ∷ [])
with_end_sign_length false text = omega arith

canonical_length : (g : List ℕ) (gs : List (List ℕ)) → length (canonical (g ∷ gs)) + 1 ≡ size (g ∷ gs) + end_sign (g ∷ gs)
unfolding canonical
canonical_length g gs =
    let r = with_end_sign_length (eqb (last_byte (joined (g ∷ gs))) 61) (joined (g ∷ gs)) in
    let j = joined_size g gs in
    omega (arith, r, j)

at_most_one : (b : Bool) → cond b 1 0 ≤ 1
at_most_one true = omega arith
at_most_one false = omega arith

last_size : (b : Bool) (g : List ℕ) (n : ℕ) → length g + 1 ≤ n → size (cond b [] (g ∷ [])) + end_sign (cond b [] (g ∷ [])) ≤ n + 1
last_size true g n h = omega arith
last_size false g n h = let m = at_most_one (eqb (last_byte (g ++ [])) 61) in omega (arith, m)

plain_size : (b : Bool) (g : List ℕ) → eqb (last_byte g) 61 ≡ false → size (cond b [] (g ∷ [])) + end_sign (cond b [] (g ∷ [])) ≤ length g + 1
plain_size true g e = omega arith
plain_size false g e = let m : end_sign (g ∷ []) ≡ 0 = rw (append-nil, e) refl in omega (arith, m)

without_end_sign_size : (b : Bool) (g : List ℕ) → IsGroup g → eqb (last_byte g) 61 ≡ b
    → size (kept (cond b (take (length g - 1) g) g)) + end_sign (kept (cond b (take (length g - 1) g) g)) ≤ length g + 1
without_end_sign_size true g is e =
    let some = group_has_bytes g [] is in
    let cut = length-take (length g - 1) g in
    last_size (eqb (length (take (length g - 1) g)) 0) (take (length g - 1) g) (length g) (omega (arith, some, cut, length-append g []))
without_end_sign_size false g is e = plain_size (eqb (length g) 0) g e

end_more : (g : List ℕ) (gs hs : List (List ℕ)) → All IsGroup hs → size hs + end_sign hs ≤ size gs → 0 < size gs → size (g ∷ hs) + end_sign (g ∷ hs) ≤ length g + 1 + size gs
end_more g gs [] all h some = let m = at_most_one (eqb (last_byte (g ++ [])) 61) in omega (arith, m)
end_more g gs (k ∷ ks) all h some =
    let same = last_byte_after g k ks (All-head IsGroup k ks all) in
    let m : end_sign (g ∷ k ∷ ks) ≡ end_sign (k ∷ ks) = ap (λ n. cond (eqb n 61) 1 0) same in
    omega (arith, m)

last_without_end_sign_size : (gs : List (List ℕ)) → All IsGroup gs → size (last_without_end_sign gs) + end_sign (last_without_end_sign gs) ≤ size gs
last_without_end_sign_size [] all = omega arith
last_without_end_sign_size (g ∷ []) all = let one = without_end_sign_size (eqb (last_byte g) 61) g (All-head IsGroup g [] all) refl in omega (arith, one)
last_without_end_sign_size (g ∷ h ∷ gs) all =
    let rest = All-tail IsGroup g (h ∷ gs) all in
    end_more g (h ∷ gs) (last_without_end_sign (h ∷ gs)) (last_are_groups (h ∷ gs) rest) (last_without_end_sign_size (h ∷ gs) rest) (omega arith)

canonical_bound : (gs : List (List ℕ)) (n : ℕ) → size gs + end_sign gs ≤ n + 1 → length (canonical gs) ≤ n
unfolding canonical
canonical_bound [] n h = omega arith
canonical_bound (g ∷ gs) n h = let e = canonical_length g gs in omega (arith, e)

-- a text isn't shorter than the canonical text of its groups
pub length-canonical : (text : List ℕ) → length (canonical (groups_of text)) ≤ length text
unfolding groups_of
length-canonical text =
    let last = last_without_end_sign_size (runs_between blanks text) (runs_are_groups text) in
    let runs = filter_size has_bytes (slice_split (is_among blanks) text) in
    let pieces = pieces_size (is_among blanks) text in
    canonical_bound (last_without_end_sign (runs_between blanks text)) (length text) (omega (arith, last, runs, pieces))

-- the same, of a text that has these groups
pub no_text_is_shorter : (gs : List (List ℕ)) (text : List ℕ) → groups_of text ≡ gs → length (canonical gs) ≤ length text
no_text_is_shorter gs text e = rw (← e) (length-canonical text)

pub station_length : (station : List ℕ) → is_station station ≡ true → length station ≡ 4
station_length [] e = absurd cc
station_length (a ∷ []) e = absurd cc
station_length (a ∷ b ∷ []) e = absurd cc
station_length (a ∷ b ∷ c ∷ []) e = absurd cc
station_length (a ∷ b ∷ c ∷ d ∷ []) e = refl
station_length (a ∷ b ∷ c ∷ d ∷ f ∷ rest) e = absurd cc
