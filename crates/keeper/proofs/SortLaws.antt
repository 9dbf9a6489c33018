-- Rows that are put in order: they are the same rows, and the same list where they were in order.
use Rattle.std.proofs.Common.{◌≡◌, refl, sym, ap, ◌∙◌, subst, ℕ, zero, suc, ◌+◌, ◌<◌, ◌≤◌, Bool, true, false, ◌&&◌, cond, List, [], ◌∷◌, length, get_or, Option, None, Some, arith}
use Rattle.std.specs.Prelude.{◌==◌, ◌||◌, nat_lt, find, slice_index_or}
use Rattle.std.specs.List.{All, Contains, sum_by}
use Rattle.std.specs.Option.{option_map}
use Rattle.std.specs.List.Sorted.{IsPermutation, IsSortedBy, IsSortedByKey}
use Rattle.std.specs.Ordering.{nat_cmp, ordering_then, is_lt}
use Rattle.std.specs.declared.cmp.Ordering.TheVariants.{Less, Equal, Greater}
use Rattle.std.proofs.lemmas.Bool.{and_from}
use Rattle.std.proofs.lemmas.Bool.Decides.{nat_tests}
use Rattle.std.proofs.lemmas.List.Sums.{sum_by-cons}
use Rattle.std.proofs.lemmas.List.Sorted.{All-permutation, Contains-permutation, sum_by-IsPermutation}
use Rattle.desk_io.specs.declared.rows.Row.{Row}
use Rattle.desk_io.specs.Rows.{is_row, rows_of}
use Rattle.keeper.specs.Order.{comes_before, is_below, rises_from, rising, AreApart}
use Rattle.keeper.specs.Kept.{AreSame}
use Rattle.keeper.proofs.OrderLaws.{same_place, rising_rest, none_before, none_twice}

-- 1 for a row of that kind and key
abbrev one : ℕ → ℕ → Row → ℕ
one k q row = cond (is_row k q row) 1 0

-- one row of a kind and a key at most
abbrev pub Ones : List Row → Type 0
Ones rows = (k q : ℕ) → sum_by (one k q) rows ≤ 1

apart_from : (a b c d k q : ℕ) → same_place a b k q ≡ true → same_place c d a b ≡ false → same_place c d k q ≡ false
apart_from a b c d k q one two = grind (arith, nat_tests, one, two)

own_place : (a b : ℕ) → same_place a b a b ≡ true
own_place a b = grind (arith, nat_tests)

none_of : (k q : ℕ) (rows : List Row) → All (λ row. is_row k q row ≡ false) rows → sum_by (one k q) rows ≡ 0
none_of k q [] none = refl
none_of k q (row ∷ rows) none =
    let rest = none_of k q rows (λ i d within. none (suc i) d (omega arith)) in
    sum_by-cons (one k q) row rows ∙ rw (none 0 row (omega arith), rest) refl

pub ones_apart : (rows : List Row) → AreApart rows → Ones rows
ones_apart [] apart k q = omega arith
ones_apart (row ∷ rows) apart k q = by (is_row k q row) refl (ones_apart rows (λ i j d less within. apart (suc i) (suc j) d (omega arith) (omega arith)) k q)
  where
    by : (b : Bool) → is_row k q row ≡ b → sum_by (one k q) rows ≤ 1 → sum_by (one k q) (row ∷ rows) ≤ 1
    by true is most =
        let sum = sum_by-cons (one k q) row rows in
        let rest : All (λ r. is_row k q r ≡ false) rows
        = λ i d within. let r = get_or rows i d in apart_from row.kind row.key r.kind r.key k q is (apart 0 (suc i) d (omega arith) (omega arith)) in
        let none = none_of k q rows rest in
        let here : one k q row ≡ 1 = rw is refl in
        omega arith
    by false is most =
        let sum = sum_by-cons (one k q) row rows in
        let here : one k q row ≡ 0 = rw is refl in
        omega arith

ones_rest : (row : Row) (rows : List Row) → Ones (row ∷ rows) → Ones rows
ones_rest row rows ones k q = let all = ones k q in let sum = sum_by-cons (one k q) row rows in omega arith

-- a second row isn't of the place of the first
other_next : (row next : Row) (rows : List Row) → Ones (row ∷ next ∷ rows) → is_row next.kind next.key row ≡ false
other_next row next rows ones = by (is_row next.kind next.key row) refl
  where
    by : (b : Bool) → is_row next.kind next.key row ≡ b → b ≡ false
    by false is = refl
    by true is =
        let all = ones next.kind next.key in
        let first = sum_by-cons (one next.kind next.key) row (next ∷ rows) in
        let second = sum_by-cons (one next.kind next.key) next rows in
        let here : one next.kind next.key row ≡ 1 = rw is refl in
        let there : one next.kind next.key next ≡ 1 = rw (own_place next.kind next.key) refl in
        absurd (omega arith)

-- the order of two places, where the second doesn't come first
before_next : (a b c d : ℕ) → comes_before c d a b ≡ false → same_place a b c d ≡ false → comes_before a b c d ≡ true
before_next a b c d one two = grind (arith, nat_tests, one, two)

-- the kind and the key of a row
abbrev pub place : Row → ℕ × ℕ
place row = (row.kind, row.key)

-- what a sort by kind and key says
pub sorted_places : (rows : List Row) → IsSortedByKey place (λ x y. ordering_then (nat_cmp x.0 y.0) (nat_cmp x.1 y.1)) rows
    → IsSortedBy (λ (a b : Row). is_below b.kind b.key a) rows
sorted_places rows sorted k d from within =
    let row = slice_index_or rows k d in
    let next = slice_index_or rows (k + 1) d in
    sym (less next.kind next.key row.kind row.key) ∙ sorted k d from within
  where
    less : (a b c d : ℕ) → is_lt (ordering_then (nat_cmp a c) (nat_cmp b d)) ≡ comes_before a b c d
    less a b c d = by (nat_lt a c) (a == c) (nat_lt b d) (b == d) refl refl
      where
        by : (s t u v : Bool) → nat_lt a c ≡ s → (a == c) ≡ t → is_lt (ordering_then (cond s Less (cond t Equal Greater)) (cond u Less (cond v Equal Greater))) ≡ (s || (t && u))
        by true t u v less same = refl
        by false false u v less same = refl
        by false true true v less same = refl
        by false true false true less same = refl
        by false true false false less same = refl

sorted_rest : (row : Row) (rows : List Row) → IsSortedBy (λ (a b : Row). is_below b.kind b.key a) (row ∷ rows) → IsSortedBy (λ (a b : Row). is_below b.kind b.key a) rows
sorted_rest row rows sorted k d from within =
    let next : suc k + 1 ≡ suc (k + 1) = omega arith in
    let here : Row = get_or rows k d in
    subst (λ n. is_below here.kind here.key (get_or (row ∷ rows) n d) ≡ false) next (sorted (suc k) d (omega arith) (omega arith))

pub rising_sorted : (rows : List Row) → IsSortedBy (λ (a b : Row). is_below b.kind b.key a) rows → Ones rows → rising rows ≡ true
rising_sorted [] sorted ones = refl
rising_sorted (row ∷ []) sorted ones = refl
rising_sorted (row ∷ next ∷ rows) sorted ones =
    let first = before_next row.kind row.key next.kind next.key (sorted 0 row (omega arith) (omega arith)) (other_next row next rows ones) in
    let rest = rising_sorted (next ∷ rows) (sorted_rest row (next ∷ rows) sorted) (ones_rest row (next ∷ rows) ones) in
    and_from (is_below next.kind next.key row) (rises_from next rows) first rest

-- a row that is found stands there and passes
found_one : (p : Row → Bool) (rows : List Row) (row : Row) → find p rows ≡ Some row → Contains rows row × (p row ≡ true)
found_one p [] row is = absurd (cc)
found_one p (first ∷ rows) row is = by (p first) refl is (found_one p rows row)
  where
    by : (b : Bool) → p first ≡ b → cond b (Some first) (find p rows) ≡ Some row → (find p rows ≡ Some row → Contains rows row × (p row ≡ true)) → Contains (first ∷ rows) row × (p row ≡ true)
    by true passes is later = let same : first ≡ row = cc in ((0, omega arith, same), subst (λ r. p r ≡ true) same passes)
    by false fails is later = let rest = later is in let within = rest.0.1 in ((suc rest.0.0, omega arith, rest.0.2), rest.1)

-- where none is found, each fails
all_fail : (p : Row → Bool) (rows : List Row) → find p rows ≡ None → All (λ row. p row ≡ false) rows
all_fail p [] none = λ i d within. absurd (omega arith)
all_fail p (row ∷ rows) none = by (p row) refl none (all_fail p rows)
  where
    by : (b : Bool) → p row ≡ b → cond b (Some row) (find p rows) ≡ None → (find p rows ≡ None → All (λ row. p row ≡ false) rows) → All (λ row. p row ≡ false) (row ∷ rows)
    by true passes none later i d within = absurd (cc)
    by false fails none later zero d within = fails
    by false fails none later (suc i) d within = later none i d (omega arith)

none_found : (p : Row → Bool) (rows : List Row) → All (λ row. p row ≡ false) rows → find p rows ≡ None
none_found p [] fail = refl
none_found p (row ∷ rows) fail = rw (fail 0 row (omega arith)) (none_found p rows (λ i d within. fail (suc i) d (omega arith)))

-- a row that stands there is one
one_there : (k q : ℕ) (rows : List Row) (row : Row) (i : ℕ) → i < length rows → get_or rows i row ≡ row → is_row k q row ≡ true → 1 ≤ sum_by (one k q) rows
one_there k q [] row i within at is = absurd (omega arith)
one_there k q (first ∷ rows) row zero within at is =
    let sum = sum_by-cons (one k q) first rows in
    let here : one k q first ≡ 1 = ap (one k q) at ∙ rw is refl in
    omega arith
one_there k q (first ∷ rows) row (suc i) within at is =
    let sum = sum_by-cons (one k q) first rows in
    let rest = one_there k q rows row i (omega arith) at is in
    omega arith

-- the one row of a place is found
found_in : (k q : ℕ) (rows : List Row) (row : Row) (i : ℕ) → Ones rows → i < length rows → get_or rows i row ≡ row → is_row k q row ≡ true → find (is_row k q) rows ≡ Some row
found_in k q [] row i ones within at is = absurd (omega arith)
found_in k q (first ∷ rows) row zero ones within at is = rw (ap (is_row k q) at ∙ is) (ap Some at)
found_in k q (first ∷ rows) row (suc i) ones within at is = by (is_row k q first) refl (found_in k q rows row i (ones_rest first rows ones) (omega arith) at is)
  where
    by : (b : Bool) → is_row k q first ≡ b → find (is_row k q) rows ≡ Some row → cond b (Some first) (find (is_row k q) rows) ≡ Some row
    by false other later = later
    by true same later =
        let all = ones k q in
        let sum = sum_by-cons (one k q) first rows in
        let here : one k q first ≡ 1 = rw same refl in
        let there = one_there k q rows row i (omega arith) at is in
        absurd (omega arith)

pub ones_moved : (rows others : List Row) → IsPermutation rows others → Ones rows → Ones others
ones_moved rows others moved ones k q = let all = ones k q in let same = sum_by-IsPermutation (one k q) rows others moved in omega arith

found_moved : (rows others : List Row) → IsPermutation rows others → Ones rows → (k q : ℕ) → find (is_row k q) others ≡ find (is_row k q) rows
found_moved rows others moved ones k q = by (find (is_row k q) rows) refl
  where
    by : (o : Option Row) → find (is_row k q) rows ≡ o → find (is_row k q) others ≡ o
    by None none = none_found (is_row k q) others (All-permutation (λ row. is_row k q row ≡ false) rows others moved (all_fail (is_row k q) rows none))
    by (Some row) some =
        let found = found_one (is_row k q) rows row some in
        let there = Contains-permutation rows others row moved found.0 in
        found_in k q others row there.0 (ones_moved rows others moved ones) there.1 there.2 found.1

-- they are the same rows
pub same_moved : (rows others : List Row) → AreApart rows → IsPermutation rows others → AreSame (rows_of others) (rows_of rows)
same_moved rows others apart moved k q = ap (option_map (λ (r : Row). r.body)) (found_moved rows others moved (ones_apart rows apart) k q)

pub rising_moved : (rows others : List Row) → AreApart rows → IsPermutation rows others → IsSortedBy (λ (a b : Row). is_below b.kind b.key a) others → rising others ≡ true
rising_moved rows others apart moved sorted = rising_sorted others sorted (ones_moved rows others moved (ones_apart rows apart))

-- rows in order are found each at its place
found_first : (row : Row) (rows : List Row) → find (is_row row.kind row.key) (row ∷ rows) ≡ Some row
found_first row rows = rw (own_place row.kind row.key) refl

neither : (a b c d : ℕ) → comes_before a b c d ≡ false → comes_before c d a b ≡ false → same_place c d a b ≡ true
neither a b c d one two = grind (arith, nat_tests, one, two)

-- two lists in order that find the same are the same
pub rising_same : (rows others : List Row) → rising rows ≡ true → rising others ≡ true → ((k q : ℕ) → find (is_row k q) rows ≡ find (is_row k q) others) → rows ≡ others
rising_same [] [] up risen same = refl
rising_same [] (other ∷ others) up risen same = let found = found_first other others in let none = same other.kind other.key in absurd (cc)
rising_same (row ∷ rows) [] up risen same = let found = found_first row rows in let none = same row.kind row.key in absurd (cc)
rising_same (row ∷ rows) (other ∷ others) up risen same =
    by (comes_before row.kind row.key other.kind other.key) (comes_before other.kind other.key row.kind row.key) refl refl
    (rising_same rows others (rising_rest row rows up) (rising_rest other others risen))
  where
    by : (b c : Bool) → comes_before row.kind row.key other.kind other.key ≡ b → comes_before other.kind other.key row.kind row.key ≡ c
        → (((k q : ℕ) → find (is_row k q) rows ≡ find (is_row k q) others) → rows ≡ others) → row ∷ rows ≡ other ∷ others
    by true c low high later =
        let found = found_first row rows in
        let none = none_before row.kind row.key other others low risen in
        let is = same row.kind row.key in
        absurd (cc)
    by false true high low later =
        let found = found_first other others in
        let none = none_before other.kind other.key row rows low up in
        let is = same other.kind other.key in
        absurd (cc)
    by false false one two later =
        let here = neither row.kind row.key other.kind other.key one two in
        let found : find (is_row row.kind row.key) (other ∷ others) ≡ Some other = rw here refl in
        let first = found_first row rows in
        let is = same row.kind row.key in
        let first_same : row ≡ other = cc in
        let rest_same = later (λ k q. rest k q first_same (is_row k q row) refl) in
        cc
      where
        rest : (k q : ℕ) → row ≡ other → (b : Bool) → is_row k q row ≡ b → find (is_row k q) rows ≡ find (is_row k q) others
        rest k q first_same true is = none_twice k q row rows is up ∙ sym (none_twice k q other others (subst (λ r. is_row k q r ≡ true) first_same is) risen)
        rest k q first_same false is =
            let past : find (is_row k q) (other ∷ others) ≡ find (is_row k q) others = rw (subst (λ r. is_row k q r ≡ false) first_same is) refl in
            let there : find (is_row k q) (row ∷ rows) ≡ find (is_row k q) rows = rw is refl in
            sym there ∙ same k q ∙ past

-- rows in order that are moved into order are as they were
pub already_moved : (rows others : List Row) → AreApart rows → IsPermutation rows others → IsSortedBy (λ (a b : Row). is_below b.kind b.key a) others → rising rows ≡ true → others ≡ rows
already_moved rows others apart moved sorted up =
    rising_same others rows (rising_moved rows others apart moved sorted) up (found_moved rows others moved (ones_apart rows apart))

-- no two rows of a list in order have the same kind and key
pub rising_apart : (rows : List Row) → rising rows ≡ true → AreApart rows
rising_apart [] up i j d less within = absurd (omega arith)
rising_apart (row ∷ rows) up zero zero d less within = absurd (omega arith)
rising_apart (row ∷ rows) up zero (suc j) d less within =
    all_fail (is_row row.kind row.key) rows (none_twice row.kind row.key row rows (own_place row.kind row.key) up) j d (omega arith)
rising_apart (row ∷ rows) up (suc i) zero d less within = absurd (omega arith)
rising_apart (row ∷ rows) up (suc i) (suc j) d less within = rising_apart rows (rising_rest row rows up) i j d (omega arith) (omega arith)
