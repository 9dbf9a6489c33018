-- A row that is put into rows in order, or taken out: the order stays, and every other row.
use Rattle.std.proofs.Common.{◌≡◌, refl, sym, ap, ◌∙◌, subst, ℕ, Bool, true, false, ◌&&◌, cond, List, [], ◌∷◌, Option, None, Some, arith}
use Rattle.std.specs.Prelude.{◌==◌, find, IsTrue}
use Rattle.std.specs.List.{cons_option}
use Rattle.std.specs.Option.{option_map}
use Rattle.std.proofs.lemmas.Bool.{and_parts, and_from}
use Rattle.std.proofs.lemmas.Bool.Decides.{nat_tests}
use Rattle.desk_io.specs.declared.rows.Row.{Row}
use Rattle.desk_io.specs.declared.rows.Change.{Change}
use Rattle.desk_io.specs.declared.rows.Change.TheVariants.{Put, Remove}
use Rattle.desk_io.specs.Rows.{Rows, is_row, rows_of, changed, changed_by}
use Rattle.keeper.specs.Order.{comes_before, is_below, rises_from, rising, put_here, put_at, list_changed, list_changed_by}
use Rattle.keeper.specs.Kept.{AreSame}

-- two places are the same
abbrev pub same_place : ℕ → ℕ → ℕ → ℕ → Bool
same_place a b c d = (a == c) && (b == d)

pub before_trans : (a b c d e f : ℕ) → comes_before a b c d ≡ true → comes_before c d e f ≡ true → comes_before a b e f ≡ true
before_trans a b c d e f one two = grind (arith, nat_tests, one, two)

before_other : (a b c d : ℕ) → comes_before a b c d ≡ false → same_place a b c d ≡ false → comes_before c d a b ≡ true
before_other a b c d one two = grind (arith, nat_tests, one, two)

not_after : (a b c d : ℕ) → comes_before a b c d ≡ true → same_place c d a b ≡ false
not_after a b c d one = grind (arith, nat_tests, one)

not_before : (a b c d e f : ℕ) → comes_before a b c d ≡ true → same_place c d e f ≡ true → same_place a b e f ≡ false
not_before a b c d e f one two = grind (arith, nat_tests, one, two)

before_same : (a b c d e f : ℕ) → same_place a b c d ≡ true → comes_before a b e f ≡ true → comes_before c d e f ≡ true
before_same a b c d e f one two = grind (arith, nat_tests, one, two)

place_same : (a b c d e f : ℕ) → same_place a b c d ≡ true → same_place c d e f ≡ true → same_place a b e f ≡ true
place_same a b c d e f one two = grind (arith, nat_tests, one, two)

place_apart : (a b c d e f : ℕ) → same_place a b c d ≡ true → same_place c d e f ≡ false → same_place a b e f ≡ false
place_apart a b c d e f one two = grind (arith, nat_tests, one, two)

-- what is put under a kind and a key is of them
abbrev Fits : ℕ → ℕ → Option Row → Type 0
Fits kind key None = Unit {0}
Fits kind key (Some row) = (row.kind ≡ kind) × (row.key ≡ key)

-- rows in order are, without the first
pub rising_rest : (row : Row) (rows : List Row) → rises_from row rows ≡ true → rising rows ≡ true
rising_rest row [] up = refl
rising_rest row (next ∷ rows) up = (and_parts (is_below next.kind next.key row) (rises_from next rows) up).1

-- no row of a place before the first
pub none_before : (k q : ℕ) (row : Row) (rows : List Row) → comes_before k q row.kind row.key ≡ true → rises_from row rows ≡ true → find (is_row k q) (row ∷ rows) ≡ None
none_before k q row [] low up = rw (not_after k q row.kind row.key low) refl
none_before k q row (next ∷ rows) low up =
    let parts = and_parts (is_below next.kind next.key row) (rises_from next rows) up in
    rw (not_after k q row.kind row.key low) (none_before k q next rows (before_trans k q row.kind row.key next.kind next.key low parts.0) parts.1)

-- no second row of the place of the first
pub none_twice : (k q : ℕ) (row : Row) (rows : List Row) → is_row k q row ≡ true → rises_from row rows ≡ true → find (is_row k q) rows ≡ None
none_twice k q row [] is up = refl
none_twice k q row (next ∷ rows) is up =
    let parts = and_parts (is_below next.kind next.key row) (rises_from next rows) up in
    none_before k q next rows (before_same row.kind row.key k q next.kind next.key is parts.0) parts.1

-- what is found where a row, or none, stands before the others
found_here : (a b k q : ℕ) (put : Option Row) (rows : List Row) → Fits k q put → (same_place k q a b ≡ true → find (is_row a b) rows ≡ None)
    → find (is_row a b) (cons_option put rows) ≡ cond (same_place k q a b) put (find (is_row a b) rows)
found_here a b k q (Some row) rows fits none = rw (fits.0, fits.1) refl
found_here a b k q None rows fits none = by (same_place k q a b) none
  where
    by : (t : Bool) → (t ≡ true → find (is_row a b) rows ≡ None) → find (is_row a b) rows ≡ cond t None (find (is_row a b) rows)
    by true none = none refl
    by false none = refl

-- two tests that don't both hold may change their order
exchanged : (s t : Bool) (row put rest : Option Row) → (t ≡ true → s ≡ false) → cond s row (cond t put rest) ≡ cond t put (cond s row rest)
exchanged true true row put rest apart = absurd (let e = apart refl in cc)
exchanged true false row put rest apart = refl
exchanged false t row put rest apart = refl

-- the place has what was put there, and every other what it had
found_put : (a b k q : ℕ) (put : Option Row) (rows : List Row) → Fits k q put → rising rows ≡ true
    → find (is_row a b) (put_at k q put rows) ≡ cond (same_place k q a b) put (find (is_row a b) rows)
found_put a b k q put [] fits up = found_here a b k q put [] fits (λ _. refl)
found_put a b k q put (row ∷ rows) fits up = by (is_below k q row) (is_row k q row) refl refl (found_put a b k q put rows fits (rising_rest row rows up))
  where
    by : (low here : Bool) → is_below k q row ≡ low → is_row k q row ≡ here
        → find (is_row a b) (put_at k q put rows) ≡ cond (same_place k q a b) put (find (is_row a b) rows)
        → find (is_row a b) (cond low (row ∷ put_at k q put rows) (put_here here put row rows)) ≡ cond (same_place k q a b) put (cond (is_row a b row) (Some row) (find (is_row a b) rows))
    by true here low is rest =
        ap (λ o. cond (is_row a b row) (Some row) o) rest
        ∙ exchanged (is_row a b row) (same_place k q a b) (Some row) put (find (is_row a b) rows) (λ same. not_before row.kind row.key k q a b low same)
    by false true low is rest =
        found_here a b k q put rows fits (λ same. none_twice a b row rows (place_same row.kind row.key k q a b is same) up)
        ∙ here (same_place k q a b) refl
      where
        here : (t : Bool) → same_place k q a b ≡ t → cond t put (find (is_row a b) rows) ≡ cond t put (cond (is_row a b row) (Some row) (find (is_row a b) rows))
        here true e = refl
        here false e = rw (place_apart row.kind row.key k q a b is e) refl
    by false false low is rest =
        found_here a b k q put (row ∷ rows) fits
        (λ same. none_before a b row rows (before_same k q a b row.kind row.key same (before_other row.kind row.key k q low is)) up)

module _ (k q : ℕ) where
  -- what stands before a row in order may stand before the next
  rises_past : (before row : Row) (rows : List Row) → is_below row.kind row.key before ≡ true → rises_from row rows ≡ true → rises_from before rows ≡ true
  rises_past before row [] low up = refl
  rises_past before row (next ∷ rows) low up =
      let parts = and_parts (is_below next.kind next.key row) (rises_from next rows) up in
      and_from (is_below next.kind next.key before) (rises_from next rows) (before_trans before.kind before.key row.kind row.key next.kind next.key low parts.0) parts.1

  -- a row may stand for another of its place
  rises_alike : (row other : Row) (rows : List Row) → same_place row.kind row.key other.kind other.key ≡ true → rises_from row rows ≡ true → rises_from other rows ≡ true
  rises_alike row other [] same up = refl
  rises_alike row other (next ∷ rows) same up =
      let parts = and_parts (is_below next.kind next.key row) (rises_from next rows) up in
      and_from (is_below next.kind next.key other) (rises_from next rows) (before_same row.kind row.key other.kind other.key next.kind next.key same parts.0) parts.1

  rises_put : (before : Row) (put : Option Row) (rows : List Row) → Fits k q put → is_below k q before ≡ true → rises_from before rows ≡ true → rises_from before (put_at k q put rows) ≡ true
  rises_put before None [] fits high up = refl
  rises_put before (Some new) [] fits high up = rw (fits.0, fits.1) (and_from (is_below k q before) true high refl)
  rises_put before put (row ∷ rows) fits high up =
      let parts = and_parts (is_below row.kind row.key before) (rises_from row rows) up in
      by put fits (is_below k q row) (is_row k q row) refl refl parts.0 parts.1 (λ low. rises_put row put rows fits low parts.1)
    where
      by : (put : Option Row) → Fits k q put → (low here : Bool) → is_below k q row ≡ low → is_row k q row ≡ here → is_below row.kind row.key before ≡ true → rises_from row rows ≡ true
          → (is_below k q row ≡ true → rises_from row (put_at k q put rows) ≡ true)
          → rises_from before (cond low (row ∷ put_at k q put rows) (put_here here put row rows)) ≡ true
      by put fits true here low is first up rest = and_from (is_below row.kind row.key before) (rises_from row (put_at k q put rows)) first (rest low)
      by None fits false true low is first up rest = rises_past before row rows first up
      by (Some new) fits false true low is first up rest =
          let alike = rises_alike row new rows (rw (fits.0, fits.1) is) up in
          and_from (is_below new.kind new.key before) (rises_from new rows) (rw (fits.0, fits.1) high) alike
      by None fits false false low is first up rest = and_from (is_below row.kind row.key before) (rises_from row rows) first up
      by (Some new) fits false false low is first up rest =
          let next = before_other row.kind row.key k q low is in
          and_from (is_below new.kind new.key before) (is_below row.kind row.key new && rises_from row rows) (rw (fits.0, fits.1) high)
          (and_from (is_below row.kind row.key new) (rises_from row rows) (rw (fits.0, fits.1) next) up)

  -- rows in order stay in order
  rising_put : (put : Option Row) (rows : List Row) → Fits k q put → rising rows ≡ true → rising (put_at k q put rows) ≡ true
  rising_put None [] fits up = refl
  rising_put (Some new) [] fits up = refl
  rising_put put (row ∷ rows) fits up = by put fits (is_below k q row) (is_row k q row) refl refl (λ low. rises_put row put rows fits low up)
    where
      by : (put : Option Row) → Fits k q put → (low here : Bool) → is_below k q row ≡ low → is_row k q row ≡ here
          → (is_below k q row ≡ true → rises_from row (put_at k q put rows) ≡ true)
          → rising (cond low (row ∷ put_at k q put rows) (put_here here put row rows)) ≡ true
      by put fits true here low is rest = rest low
      by None fits false true low is rest = rising_rest row rows up
      by (Some new) fits false true low is rest = rises_alike row new rows (rw (fits.0, fits.1) is) up
      by None fits false false low is rest = up
      by (Some new) fits false false low is rest =
          and_from (is_below row.kind row.key new) (rises_from row rows) (rw (fits.0, fits.1) (before_other row.kind row.key k q low is)) up

rising_change : (change : Change) (rows : List Row) → rising rows ≡ true → rising (list_changed change rows) ≡ true
rising_change (Put row) rows up = rising_put row.kind row.key (Some row) rows (refl, refl) up
rising_change (Remove kind key) rows up = rising_put kind key None rows tt up

-- rows in order stay in order through a change
pub rising_changed : (change : Change) (rows fresh : List Row) → fresh ≡ list_changed change rows → IsTrue (rising rows) → IsTrue (rising fresh)
rising_changed change rows fresh is up = subst (λ xs. rising xs ≡ true) (sym is) (rising_change change rows up)

mapped : (t : Bool) (put rest : Option Row) → option_map (λ (r : Row). r.body) (cond t put rest) ≡ cond t (option_map (λ (r : Row). r.body) put) (option_map (λ (r : Row). r.body) rest)
mapped true put rest = refl
mapped false put rest = refl

-- a change of the list is that change of the rows
told_change : (change : Change) (rows : List Row) → rising rows ≡ true → AreSame (rows_of (list_changed change rows)) (changed change (rows_of rows))
told_change (Put row) rows up a b =
    ap (option_map (λ (r : Row). r.body)) (found_put a b row.kind row.key (Some row) rows (refl, refl) up)
    ∙ mapped (same_place row.kind row.key a b) (Some row) (find (is_row a b) rows)
told_change (Remove kind key) rows up a b =
    ap (option_map (λ (r : Row). r.body)) (found_put a b kind key None rows tt up)
    ∙ mapped (same_place kind key a b) None (find (is_row a b) rows)

same_change : (change : Change) (rows others : Rows) → AreSame rows others → AreSame (changed change rows) (changed change others)
same_change (Put row) rows others same a b = ap (λ o. cond (is_row a b row) (Some row.body) o) (same a b)
same_change (Remove kind key) rows others same a b = ap (λ o. cond (same_place kind key a b) None o) (same a b)

pub same_changes : (changes : List Change) (rows others : Rows) → AreSame rows others → AreSame (changed_by changes rows) (changed_by changes others)
same_changes [] rows others same = same
same_changes (change ∷ changes) rows others same = same_changes changes (changed change rows) (changed change others) (same_change change rows others same)

told_changes : (changes : List Change) (rows : List Row) → rising rows ≡ true → AreSame (rows_of (list_changed_by changes rows)) (changed_by changes (rows_of rows))
told_changes [] rows up a b = refl
told_changes (change ∷ changes) rows up a b =
    told_changes changes (list_changed change rows) (rising_change change rows up) a b
    ∙ same_changes changes (rows_of (list_changed change rows)) (changed change (rows_of rows)) (told_change change rows up) a b

-- changes of the list are those changes of the rows
pub same_changed : (changes : List Change) (rows fresh : List Row) → fresh ≡ list_changed_by changes rows → IsTrue (rising rows) → AreSame (rows_of fresh) (changed_by changes (rows_of rows))
same_changed changes rows fresh is up a b = ap (λ xs. rows_of xs a b) is ∙ told_changes changes rows up a b
