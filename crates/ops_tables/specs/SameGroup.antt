-- Proofs that rows with the same key are in the same group.
use Rattle.std.proofs.Common.{◌≡◌, ◌∙◌, ap, refl, arith, ℕ, List, [], ◌∷◌, length, Bool, true, ◌&&◌, bytes_eq}
use Rattle.std.specs.Prelude.{◌==◌}
use Rattle.ops_tables.specs.Grouped.{group_name}
use Rattle.std.proofs.lemmas.Bool.{and_parts}
use Rattle.std.proofs.lemmas.Bool.Decides.{nat_tests}
use Rattle.desk_io.proofs.Bytes.{same_bytes, equal_bytes}

-- equal keys of one part have the same group name
pub one_part : (a b : List ℕ) → bytes_eq a b ≡ true → bytes_eq (group_name a [] []) (group_name b [] []) ≡ true
one_part a b h = ap (λ x. bytes_eq (group_name x [] []) (group_name b [] [])) (same_bytes a b h) ∙ equal_bytes (group_name b [] [])

pub two_parts : (a b c d : List ℕ) → (bytes_eq a c && bytes_eq b d) ≡ true → bytes_eq (group_name a b []) (group_name c d []) ≡ true
two_parts a b c d h =
    let each = and_parts (bytes_eq a c) (bytes_eq b d) h in
    ap (λ x. bytes_eq (group_name x b []) (group_name c d [])) (same_bytes a c each.0)
    ∙ ap (λ x. bytes_eq (group_name c x []) (group_name c d [])) (same_bytes b d each.1) ∙ equal_bytes (group_name c d [])

pub same_name : (a b c d e f : List ℕ) → (bytes_eq a d && bytes_eq b e && bytes_eq c f) ≡ true → group_name a b c ≡ group_name d e f
same_name a b c d e f h =
    let each = and_parts (bytes_eq a d && bytes_eq b e) (bytes_eq c f) h in
    let front = and_parts (bytes_eq a d) (bytes_eq b e) each.0 in
    ap (λ x. group_name x b c) (same_bytes a d front.0) ∙ ap (λ x. group_name d x c) (same_bytes b e front.1) ∙ ap (λ x. group_name d e x) (same_bytes c f each.1)

pub three_parts : (a b c d e f : List ℕ) → (bytes_eq a d && bytes_eq b e && bytes_eq c f) ≡ true → bytes_eq (group_name a b c) (group_name d e f) ≡ true
three_parts a b c d e f h = ap (λ x. bytes_eq x (group_name d e f)) (same_name a b c d e f h) ∙ equal_bytes (group_name d e f)

pub first_of_two : (a b : Bool) → (a && b) ≡ true → a ≡ true
first_of_two a b h = (and_parts a b h).0

pub first_of_three : (a b c : Bool) → (a && b && c) ≡ true → a ≡ true
first_of_three a b c h = first_of_two a b (first_of_two (a && b) c h)

zero_if : (n : ℕ) → (n == 0) ≡ true → n ≡ 0
zero_if n h = grind (arith, nat_tests, h)

none_there : (b : List ℕ) → (length b == 0) ≡ true → b ≡ []
none_there [] h = refl
none_there (x ∷ xs) h = absurd (omega (arith, zero_if (length (x ∷ xs)) h))

-- a row whose key has one part is in the group of that key
pub by_one : (a b c k : List ℕ) → ((length b == 0) && (length c == 0) && bytes_eq k a) ≡ true → bytes_eq (group_name k [] []) (group_name a b c) ≡ true
by_one a b c k h =
    let each = and_parts ((length b == 0) && (length c == 0)) (bytes_eq k a) h in
    let front = and_parts (length b == 0) (length c == 0) each.0 in
    rw (none_there b front.0, none_there c front.1) (one_part k a each.1)

pub by_two : (a b c k l : List ℕ) → ((length c == 0) && (bytes_eq k a && bytes_eq l b)) ≡ true → bytes_eq (group_name k l []) (group_name a b c) ≡ true
by_two a b c k l h =
    let each = and_parts (length c == 0) (bytes_eq k a && bytes_eq l b) h in
    rw (none_there c each.0) (two_parts k l a b each.1)
