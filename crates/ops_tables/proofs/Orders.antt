-- Laws on places of rows, and on the order of the names of their groups.
use Rattle.std.proofs.Common.{◌≡◌, refl, sym, ap, ◌∙◌, subst, ℕ, zero, suc, ◌+◌, ◌-◌, ◌<◌, ◌≤◌, ◌&&◌, not, Bool, true, false, ◌⊎◌, inl, inr, List, [], ◌∷◌, ◌++◌, length, take, drop, filter, get_or, Option, None, Some, All, slice_get, arith, nat_lt, nat_cmp, is_eq, bytes_eq}
use Rattle.std.specs.List.{filter_map, list_any, AllWithin}
use Rattle.std.specs.List.Sorted.{IsPermutation, IsSortedBy, IsSortedByKey, IsStableByKey, IsNonDecreasingBy, IsPartitionPoint, IsPartitionedBy, ties}
use Rattle.std.specs.Ordering.{is_lt, ordering_reverse, ordering_index}
use Rattle.std.specs.declared.cmp.Ordering.{Ordering}
use Rattle.std.specs.declared.cmp.Ordering.TheVariants.{Less, Equal, Greater}
use Rattle.std.specs.Cmp.Lexicographic.{slice_cmp}
use Rattle.std.proofs.lemmas.Bool.Decides.{nat_tests}
use Rattle.std.proofs.lemmas.Cmp.{nat_list_cmp_total}
use Rattle.std.proofs.lemmas.Map.Text.{is_eq-slice_cmp}
use Rattle.std.proofs.lemmas.List.{get_or-drop, length-drop, length-take}
use Rattle.std.proofs.lemmas.List.Elements.{All-head, All-tail}
use Rattle.std.proofs.lemmas.List.Sorted.{All-permutation, searchable_from_sorted}
use Rattle.desk_io.proofs.Bytes.{same_bytes}
use Rattle.ops_tables.specs.Grouped.{rows_at}
use Rattle.std.proofs.lemmas.Bool.{and_parts, true≢false}
use Rattle.std.proofs.lemmas.Map.Views.{any-filter_same}
use Rattle.ops_tables.specs.Keys.{AreNew}
use Rattle.ops_tables.specs.Order.{picked, places_from, places_at, name_or, name_at, is_same_as, is_doubled_by, is_doubled, IsOrder, IsFirstDoubled}
use Rattle.ops_tables.proofs.Distinct.{one_more}

-- the row at a place that there is
pub there : {R : Type 0} (rows : List R) (place : ℕ) (row : R) → place < length rows → slice_get rows place ≡ Some (get_or rows place row)
there [] place row within = absurd (omega (arith, within))
there (r ∷ rows) zero row within = refl
there (r ∷ rows) (suc place) row within = there rows place row (omega (arith, within))

abbrev pub AreThere : {R : Type 0} → List R → List ℕ → Type 0
AreThere rows places = All (λ place. place < length rows) places

some_row : {R : Type 0} (rows : List R) (place : ℕ) → place < length rows → (row : R) × (slice_get rows place ≡ Some row)
some_row [] place within = absurd (omega (arith, within))
some_row (r ∷ rows) zero within = (r, refl)
some_row (r ∷ rows) (suc place) within = some_row rows place (omega (arith, within))

-- as many rows are picked as there are places
pub picked_length : {R : Type 0} (rows : List R) (places : List ℕ) → AreThere rows places → length (picked rows places) ≡ length places
picked_length rows [] within = refl
picked_length rows (place ∷ places) within =
    let first = some_row rows place (All-head (λ p. p < length rows) place places within) in
    rw first.1 (ap suc (picked_length rows places (All-tail (λ p. p < length rows) place places within)))

-- the row at one of the places, and those after it
pub picked_row : {R : Type 0} (rows : List R) (places : List ℕ) (i : ℕ) (row : R) → AreThere rows places → i < length places
    → drop i (picked rows places) ≡ get_or rows (get_or places i 0) row ∷ drop (suc i) (picked rows places)
picked_row rows [] i row within less = absurd (omega (arith, less))
picked_row rows (place ∷ places) zero row within less = rw (there rows place row (All-head (λ p. p < length rows) place places within)) refl
picked_row rows (place ∷ places) (suc i) row within less =
    rw (there rows place row (All-head (λ p. p < length rows) place places within))
    (picked_row rows places i row (All-tail (λ p. p < length rows) place places within) (omega (arith, less)))

pub picked_at : {R : Type 0} (rows : List R) (places : List ℕ) (i : ℕ) (row : R) → AreThere rows places → i < length places
    → drop i (picked rows places) ≡ get_or rows (get_or places i 0) row ∷ drop (i + 1) (picked rows places)
picked_at rows places i row within less =
    let next : suc i ≡ i + 1 = omega arith in
    picked_row rows places i row within less ∙ ap (λ n. get_or rows (get_or places i 0) row ∷ drop n (picked rows places)) next

-- the places of rows are within them
places_within : {R : Type 0} (start : ℕ) (rows : List R) → All (λ place. place < start + length rows) (places_from start rows)
places_within start [] = λ i d within. absurd (omega (arith, within))
places_within start (row ∷ rows) = by (places_within (suc start) rows)
  where
    by : All (λ place. place < suc start + length rows) (places_from (suc start) rows) → All (λ place. place < start + length (row ∷ rows)) (places_from start (row ∷ rows))
    by rest zero d within = omega arith
    by rest (suc i) d within = let later = rest i d (omega (arith, within)) in omega (arith, later)

-- the earlier rows, by their places
earlier_from : {R : Type 0} (same : R → R → Bool) (row : R) (start place : ℕ) (rows : List R) (at : ℕ → Option R) → ((i : ℕ) → at (start + i) ≡ slice_get rows i)
    → list_any (λ other. nat_lt other place && is_same_as same row (at other)) (places_from start rows) ≡ list_any (same row) (take (place - start) rows)
earlier_from same row start place [] at gives = by (place - start)
  where
    by : (n : ℕ) → false ≡ list_any (same row) (take n [])
    by zero = refl
    by (suc n) = refl
earlier_from same row start place (r ∷ rows) at gives =
    by (nat_lt start place) refl (earlier_from same row (suc start) place rows at (λ i. let next : suc start + i ≡ start + suc i = omega arith in ap at next ∙ gives (suc i)))
  where
    here : at start ≡ Some r
    here = let same_place : start ≡ start + 0 = omega arith in ap at same_place ∙ gives 0

    by : (b : Bool) → nat_lt start place ≡ b
        → list_any (λ other. nat_lt other place && is_same_as same row (at other)) (places_from (suc start) rows) ≡ list_any (same row) (take (place - suc start) rows)
        → list_any (λ other. nat_lt other place && is_same_as same row (at other)) (places_from start (r ∷ rows)) ≡ list_any (same row) (take (place - start) (r ∷ rows))
    by true less rest =
        let more : place - start ≡ suc (place - suc start) = grind (arith, nat_tests, less) in
        rw (less, here, more, rest) refl
    by false not_less rest =
        let none : place - start ≡ 0 = grind (arith, nat_tests, not_less) in
        let none_after : place - suc start ≡ 0 = grind (arith, nat_tests, not_less) in
        rw (not_less, none) (rest ∙ ap (λ n. list_any (same row) (take n rows)) none_after)

pub earlier : {R : Type 0} (same : R → R → Bool) (row : R) (place : ℕ) (rows : List R)
    → list_any (λ other. nat_lt other place && is_same_as same row (slice_get rows other)) (places_from 0 rows) ≡ list_any (same row) (take place rows)
earlier same row place rows =
    let all : place - 0 ≡ place = omega arith in
    earlier_from same row 0 place rows (slice_get rows) (λ i. let from_start : 0 + i ≡ i = omega arith in ap (slice_get rows) from_start)
    ∙ ap (λ n. list_any (same row) (take n rows)) all

-- the rows of a group, by their places
picked_from : {R : Type 0} (size : ℕ) (name : R → List ℕ) (s : List ℕ) (start : ℕ) (rows : List R) (at : ℕ → Option R) → ((i : ℕ) → at (start + i) ≡ slice_get rows i)
    → filter_map at (filter (λ place. bytes_eq (name_or size name (at place)) s) (places_from start rows)) ≡ rows_at name s rows
picked_from size name s start [] at gives = refl
picked_from size name s start (r ∷ rows) at gives =
    by (bytes_eq (name r) s) refl (picked_from size name s (suc start) rows at (λ i. let next : suc start + i ≡ start + suc i = omega arith in ap at next ∙ gives (suc i)))
  where
    here : at start ≡ Some r
    here = let same_place : start ≡ start + 0 = omega arith in ap at same_place ∙ gives 0

    by : (b : Bool) → bytes_eq (name r) s ≡ b
        → filter_map at (filter (λ place. bytes_eq (name_or size name (at place)) s) (places_from (suc start) rows)) ≡ rows_at name s rows
        → filter_map at (filter (λ place. bytes_eq (name_or size name (at place)) s) (places_from start (r ∷ rows))) ≡ rows_at name s (r ∷ rows)
    by true is rest = rw (here, is, here) (ap (λ xs. r ∷ xs) rest)
    by false is rest = rw (here, is) rest

pub picked_group : {R : Type 0} (size : ℕ) (name : R → List ℕ) (s : List ℕ) (rows : List R)
    → picked rows (places_at size name rows s (places_from 0 rows)) ≡ rows_at name s rows
picked_group size name s rows = picked_from size name s 0 rows (slice_get rows) (λ i. let from_start : 0 + i ≡ i = omega arith in ap (slice_get rows) from_start)

-- what a sort keeps of places with the same name
ties_same : (a b : List ℕ) → ties (λ x y. is_lt (slice_cmp nat_cmp x y)) a b ≡ bytes_eq b a
ties_same a b =
    ap (λ o. not (is_lt o) && not (is_lt (slice_cmp nat_cmp b a))) (nat_list_cmp_total.antisymm a b) ∙ by (slice_cmp nat_cmp b a) ∙ is_eq-slice_cmp b a
  where
    by : (o : Ordering) → (not (is_lt (ordering_reverse o)) && not (is_lt o)) ≡ is_eq o
    by Less = refl
    by Equal = refl
    by Greater = refl

none_pass : {X : Type 0} (test : X → Bool) (xs : List X) → All (λ x. test x ≡ false) xs → filter test xs ≡ []
none_pass test [] none = refl
none_pass test (x ∷ xs) none = rw (All-head (λ x. test x ≡ false) x xs none) (none_pass test xs (All-tail (λ x. test x ≡ false) x xs none))

-- a list has an element that passes, or none
abbrev passing : {X : Type 0} (test : X → Bool) → List X → Type 0
passing {X} test xs = ((x : X) × (test x ≡ true)) ⊎ All (λ x. test x ≡ false) xs

has_passing : {X : Type 0} (test : X → Bool) (xs : List X) → passing test xs
has_passing test [] = inr (λ i d within. absurd (omega (arith, within)))
has_passing {X} test (x ∷ xs) = by (test x) refl (has_passing test xs)
  where
    by : (b : Bool) → test x ≡ b → passing test xs → passing test (x ∷ xs)
    by true is rest = inl (x, is)
    by false is (inl found) = inl found
    by false is (inr none) = inr (all is none)
      where
        all : test x ≡ false → All (λ x. test x ≡ false) xs → All (λ x. test x ≡ false) (x ∷ xs)
        all is none zero d within = is
        all is none (suc i) d within = none i d (omega (arith, within))

pub same_groups : (name : ℕ → List ℕ) (old new : List ℕ) → IsPermutation old new → IsStableByKey name (slice_cmp nat_cmp) old new
    → (s : List ℕ) → filter (λ place. bytes_eq (name place) s) new ≡ filter (λ place. bytes_eq (name place) s) old
same_groups name old new moved stable s = by (has_passing (λ place. bytes_eq (name place) s) old)
  where
    by : passing (λ place. bytes_eq (name place) s) old → filter (λ place. bytes_eq (name place) s) new ≡ filter (λ place. bytes_eq (name place) s) old
    by (inl found) =
        let is : name found.0 ≡ s = same_bytes (name found.0) s found.1 in
        let kept : filter (λ place. bytes_eq (name place) (name found.0)) new ≡ filter (λ place. bytes_eq (name place) (name found.0)) old
        = (λ k. filter (λ place. sym (ties_same (name found.0) (name place)) k) new) ∙ stable found.0 ∙ (λ k. filter (λ place. ties_same (name found.0) (name place) k) old) in
        subst (λ t. filter (λ place. bytes_eq (name place) t) new ≡ filter (λ place. bytes_eq (name place) t) old) is kept
    by (inr none) =
        none_pass (λ place. bytes_eq (name place) s) new (All-permutation (λ place. bytes_eq (name place) s ≡ false) old new moved none)
        ∙ sym (none_pass (λ place. bytes_eq (name place) s) old none)

-- the places of rows that were sorted by the names of their groups
pub is_order : {R : Type 0} (size : ℕ) (name : R → List ℕ) (rows : List R) (order : List ℕ) → IsPermutation (places_from 0 rows) order
    → IsSortedByKey (λ place. name_at size name rows place) (slice_cmp nat_cmp) order
    → IsStableByKey (λ place. name_at size name rows place) (slice_cmp nat_cmp) (places_from 0 rows) order → IsOrder size name rows order
is_order size name rows order moved sorted stable = record {
  sorted = sorted;
  groups = λ s. same_groups (λ place. name_at size name rows place) (places_from 0 rows) order moved stable s;
  within = All-permutation (λ place. place < length rows) (places_from 0 rows) order moved (λ i d less. let within = places_within 0 rows i d less in omega (arith, within));
}

-- the run of a group in the order
lower : (o p : Ordering) → ordering_index o ≤ ordering_index p → is_lt p ≡ true → is_lt o ≡ true
lower Less p less is = refl
lower o Equal less is = absurd (cc)
lower o Greater less is = absurd (cc)
lower Equal Less less is = absurd (omega (arith, less))
lower Greater Less less is = absurd (omega (arith, less))

level : (o p : Ordering) → ordering_index o ≤ ordering_index p → is_lt o ≡ false → is_eq p ≡ true → is_eq o ≡ true
level Equal p less not_lower is = refl
level Less p less not_lower is = absurd (cc)
level Greater Less less not_lower is = absurd (cc)
level Greater Equal less not_lower is = absurd (omega (arith, less))
level Greater Greater less not_lower is = absurd (cc)

lower_other : (o : Ordering) → is_lt o ≡ true → is_eq o ≡ false
lower_other Less is = refl
lower_other Equal is = absurd (cc)
lower_other Greater is = absurd (cc)

rises : (name : ℕ → List ℕ) (s : List ℕ) (order : List ℕ) → IsSortedBy (λ a b. is_lt (slice_cmp nat_cmp (name a) (name b))) order
    → IsNonDecreasingBy (λ place. ordering_index (slice_cmp nat_cmp (name place) s)) order
rises name s order sorted = searchable_from_sorted nat_list_cmp_total name order s sorted

pub parted_before : (name : ℕ → List ℕ) (s : List ℕ) (order : List ℕ) → IsSortedBy (λ a b. is_lt (slice_cmp nat_cmp (name a) (name b))) order
    → IsPartitionedBy (λ place. is_lt (slice_cmp nat_cmp (name place) s)) order
parted_before name s order sorted i j d from within passes =
    lower (slice_cmp nat_cmp (name (get_or order i d)) s) (slice_cmp nat_cmp (name (get_or order j d)) s) (rises name s order sorted i j d from within) passes

pub parted_in : (name : ℕ → List ℕ) (s : List ℕ) (order : List ℕ) (start : ℕ) → IsSortedBy (λ a b. is_lt (slice_cmp nat_cmp (name a) (name b))) order
    → AllWithin (λ place. is_lt (slice_cmp nat_cmp (name place) s) ≡ false) order start (length order)
    → IsPartitionedBy (λ place. bytes_eq (name place) s) (drop start order)
parted_in name s order start sorted later i j d from within passes =
    let size = length-drop start order in
    let first = get_or-drop start order i d in
    let second = get_or-drop start order j d in
    let x = get_or order (start + i) d in
    let y = get_or order (start + j) d in
    let y_is : is_eq (slice_cmp nat_cmp (name y) s) ≡ true = is_eq-slice_cmp (name y) s ∙ ap (λ z. bytes_eq (name z) s) (sym second) ∙ passes in
    let x_is = level (slice_cmp nat_cmp (name x) s) (slice_cmp nat_cmp (name y) s)
    (rises name s order sorted (start + i) (start + j) d (omega (arith, from)) (omega (arith, size, within)))
    (later (start + i) d (omega arith) (omega (arith, size, within, from))) y_is in
    ap (λ z. bytes_eq (name z) s) first ∙ sym (is_eq-slice_cmp (name x) s) ∙ x_is

skipped : {X : Type 0} (test : X → Bool) (xs : List X) (start : ℕ) → AllWithin (λ x. test x ≡ false) xs 0 start → start ≤ length xs → filter test xs ≡ filter test (drop start xs)
skipped test xs zero none within = refl
skipped test [] (suc start) none within = absurd (omega (arith, within))
skipped test (x ∷ xs) (suc start) none within =
    rw (none 0 x (omega arith) (omega arith)) (skipped test xs start (λ k d low high. none (suc k) d (omega arith) (omega (arith, high))) (omega (arith, within)))

front_passes : {X : Type 0} (test : X → Bool) (xs : List X) (count : ℕ) → AllWithin (λ x. test x ≡ true) xs 0 count → AllWithin (λ x. test x ≡ false) xs count (length xs)
    → count ≤ length xs → filter test xs ≡ take count xs
front_passes test [] zero all none within = refl
front_passes test (x ∷ xs) zero all none within = none_pass test (x ∷ xs) (λ k d less. none k d (omega arith) less)
front_passes test [] (suc count) all none within = absurd (omega (arith, within))
front_passes test (x ∷ xs) (suc count) all none within =
    rw (all 0 x (omega arith) (omega arith))
    (ap (λ ys. x ∷ ys) (front_passes test xs count (λ k d low high. all (suc k) d (omega arith) (omega (arith, high)))
    (λ k d low high. none (suc k) d (omega (arith, low)) (omega (arith, high))) (omega (arith, within))))

pub group_run : (name : ℕ → List ℕ) (s : List ℕ) (order : List ℕ) (start count : ℕ)
    → IsPartitionPoint (λ place. is_lt (slice_cmp nat_cmp (name place) s) ≡ true) (λ place. is_lt (slice_cmp nat_cmp (name place) s) ≡ false) order start → start ≤ length order
    → IsPartitionPoint (λ place. bytes_eq (name place) s ≡ true) (λ place. bytes_eq (name place) s ≡ false) (drop start order) count → count ≤ length (drop start order)
    → take count (drop start order) ≡ filter (λ place. bytes_eq (name place) s) order
group_run name s order start count first start_within second count_within =
    sym (skipped (λ place. bytes_eq (name place) s) order start
    (λ k d low high. sym (is_eq-slice_cmp (name (get_or order k d)) s) ∙ lower_other (slice_cmp nat_cmp (name (get_or order k d)) s) (first.0 k d low high)) start_within
    ∙ front_passes (λ place. bytes_eq (name place) s) (drop start order) count second.0 second.1 count_within)

-- the same where what stands from the start on has a name
pub parted_rest : (name : ℕ → List ℕ) (s : List ℕ) (order rest : List ℕ) (start : ℕ) → rest ≡ drop start order → IsSortedBy (λ a b. is_lt (slice_cmp nat_cmp (name a) (name b))) order
    → IsPartitionPoint (λ place. is_lt (slice_cmp nat_cmp (name place) s) ≡ true) (λ place. is_lt (slice_cmp nat_cmp (name place) s) ≡ false) order start
    → IsPartitionedBy (λ place. bytes_eq (name place) s) rest
parted_rest name s order rest start is sorted first = subst (λ xs. IsPartitionedBy (λ place. bytes_eq (name place) s) xs) (sym is) (parted_in name s order start sorted first.1)

pub rest_run : (name : ℕ → List ℕ) (s : List ℕ) (order rest : List ℕ) (start count : ℕ) → rest ≡ drop start order
    → IsPartitionPoint (λ place. is_lt (slice_cmp nat_cmp (name place) s) ≡ true) (λ place. is_lt (slice_cmp nat_cmp (name place) s) ≡ false) order start → start ≤ length order
    → IsPartitionPoint (λ place. bytes_eq (name place) s ≡ true) (λ place. bytes_eq (name place) s ≡ false) rest count → count ≤ length rest
    → take count rest ≡ filter (λ place. bytes_eq (name place) s) order
rest_run name s order rest start count is first start_within second count_within =
    ap (take count) is
    ∙ group_run name s order start count first start_within
    (subst (λ xs. IsPartitionPoint (λ place. bytes_eq (name place) s ≡ true) (λ place. bytes_eq (name place) s ≡ false) xs count) is second)
    (subst (λ (xs : List ℕ). count ≤ length xs) is count_within)

-- whether an earlier row has a key, by the places of its group
pub doubled_in_group : {R : Type 0} (size : ℕ) (name : R → List ℕ) (same : R → R → Bool) (same_group : (a b : R) → same a b ≡ true → bytes_eq (name b) (name a) ≡ true)
    (rows : List R) (order : List ℕ) (row : R) (place : ℕ) → IsOrder size name rows order
    → list_any (λ other. nat_lt other place && is_same_as same row (slice_get rows other)) (places_at size name rows (name row) order) ≡ list_any (same row) (take place rows)
doubled_in_group size name same same_group rows order row place is_order =
    ap (list_any test) (is_order.groups (name row))
    ∙ any-filter_same test (λ other. bytes_eq (name_at size name rows other) (name row)) true kept (places_from 0 rows)
    ∙ earlier same row place rows
  where
    test : ℕ → Bool
    test other = nat_lt other place && is_same_as same row (slice_get rows other)

    kept_by : (o : Option _) → is_same_as same row o ≡ true → bytes_eq (name_or size name o) (name row) ≡ true
    kept_by None passes = absurd (true≢false (sym passes))
    kept_by (Some other) passes = same_group row other passes

    kept : (other : ℕ) → test other ≡ true → bytes_eq (name_at size name rows other) (name row) ≡ true
    kept other passes = kept_by (slice_get rows other) (and_parts (nat_lt other place) (is_same_as same row (slice_get rows other)) passes).1

take_more : {R : Type 0} (rows : List R) (place : ℕ) (row : R) → slice_get rows place ≡ Some row → take (place + 1) rows ≡ take place rows ++ row ∷ []
take_more rows place row is = ap (λ n. take n rows) next ∙ by rows place is
  where
    next : place + 1 ≡ suc place
    next = omega arith

    by : (rs : List _) (i : ℕ) → slice_get rs i ≡ Some row → take (suc i) rs ≡ take i rs ++ row ∷ []
    by [] i is = absurd (cc)
    by (r ∷ rs) zero is = let same : r ≡ row = cc in ap (λ x. x ∷ []) same
    by (r ∷ rs) (suc i) is = ap (λ xs. r ∷ xs) (by rs i is)

-- the first rows and one more, none of which has the key of an earlier one
pub more_new : {R : Type 0} (same : R → R → Bool) (rows : List R) (place : ℕ) → place < length rows → AreNew same [] (take place rows) → is_doubled same rows place ≡ false
    → AreNew same [] (take (place + 1) rows)
more_new same rows place within new not_doubled =
    let row = some_row rows place within in
    subst (AreNew same []) (sym (take_more rows place row.0 row.1))
    (one_more same [] (take place rows) row.0 new (ap (is_doubled_by same (take place rows)) (sym row.1) ∙ not_doubled))

cut_there : {R : Type 0} (rows : List R) (place : ℕ) (row : R) → slice_get rows place ≡ Some row → rows ≡ take place rows ++ row ∷ drop (suc place) rows
cut_there [] place row is = absurd (cc)
cut_there (r ∷ rows) zero row is = let same : r ≡ row = cc in ap (λ x. x ∷ rows) same
cut_there (r ∷ rows) (suc place) row is = ap (λ xs. r ∷ xs) (cut_there rows place row is)

-- the first row whose key an earlier one has
pub first_at : {R : Type 0} (same : R → R → Bool) (rows : List R) (place : ℕ) → place < length rows → AreNew same [] (take place rows) → is_doubled same rows place ≡ true
    → IsFirstDoubled same rows place
first_at same rows place within new doubled =
    let row = some_row rows place within in
    record {
      before = take place rows;
      row = row.0;
      after = drop (suc place) rows;
      is = cut_there rows place row.0 row.1;
      at = length-take place rows ∙ omega (arith, within);
      new = new;
      doubled = ap (is_doubled_by same (take place rows)) (sym row.1) ∙ doubled;
    }
