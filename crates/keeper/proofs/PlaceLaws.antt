-- Where a row goes among rows in order.
use Rattle.std.proofs.Common.{◌≡◌, refl, ap, ◌∙◌, ℕ, zero, suc, ◌+◌, ◌<◌, ◌≤◌, Bool, true, false, cond, List, [], ◌∷◌, ◌++◌, length, get_or, take, drop, Option, arith}
use Rattle.std.specs.List.{cons_option, AllWithin}
use Rattle.std.specs.List.Sorted.{IsPartitionedBy}
use Rattle.std.proofs.lemmas.Bool.{and_parts}
use Rattle.desk_io.specs.declared.rows.Row.{Row}
use Rattle.desk_io.specs.Rows.{is_row}
use Rattle.keeper.specs.Order.{is_below, rises_from, rising, put_here, put_at, stands_at}
use Rattle.keeper.proofs.OrderLaws.{before_trans, rising_rest}

module _ (k q : ℕ) where
  -- what comes before a place leaves all before it there too
  below_first : (row : Row) (rows : List Row) (j : ℕ) (d : Row) → rises_from row rows ≡ true → j < length rows → is_below k q (get_or rows j d) ≡ true → is_below k q row ≡ true
  below_first row [] j d up within low = absurd (omega arith)
  below_first row (next ∷ rows) zero d up within low =
      before_trans row.kind row.key next.kind next.key k q (and_parts (is_below next.kind next.key row) (rises_from next rows) up).0 low
  below_first row (next ∷ rows) (suc j) d up within low =
      let parts = and_parts (is_below next.kind next.key row) (rises_from next rows) up in
      before_trans row.kind row.key next.kind next.key k q parts.0 (below_first next rows j d parts.1 (omega arith) low)

  pub parted : (rows : List Row) → rising rows ≡ true → IsPartitionedBy (is_below k q) rows
  parted [] up i j d le within low = absurd (omega arith)
  parted (row ∷ rows) up zero zero d le within low = low
  parted (row ∷ rows) up zero (suc j) d le within low = below_first row rows j d up (omega arith) low
  parted (row ∷ rows) up (suc i) zero d le within low = absurd (omega arith)
  parted (row ∷ rows) up (suc i) (suc j) d le within low = parted rows (rising_rest row rows up) i j d (omega arith) (omega arith) low

  -- a row that stands at a place is one of them
  pub stands_within : (rows : List Row) (i : ℕ) → i ≤ length rows → i + cond (stands_at i k q rows) 1 0 ≤ length rows
  stands_within [] i within = omega arith
  stands_within (row ∷ rows) zero within = by (is_row k q row)
    where
      by : (b : Bool) → 0 + cond b 1 0 ≤ suc (length rows)
      by true = omega arith
      by false = omega arith
  stands_within (row ∷ rows) (suc i) within = let rest = stands_within rows i (omega arith) in omega arith

  -- what a partition says of the place
  pub put_parted : (put : Option Row) (rows : List Row) (i : ℕ) → i ≤ length rows → AllWithin (λ r. is_below k q r ≡ true) rows 0 i → AllWithin (λ r. is_below k q r ≡ false) rows i (length rows)
      → put_at k q put rows ≡ take i rows ++ cons_option put (drop (i + cond (stands_at i k q rows) 1 0) rows)
  put_parted put [] zero within low high = refl
  put_parted put [] (suc i) within low high = absurd (omega arith)
  put_parted put (row ∷ rows) zero within low high = rw (high 0 row (omega arith) (omega arith)) (by (is_row k q row))
    where
      by : (b : Bool) → put_here b put row rows ≡ take 0 (row ∷ rows) ++ cons_option put (drop (0 + cond b 1 0) (row ∷ rows))
      by true = refl
      by false = refl
  put_parted put (row ∷ rows) (suc i) within low high =
      let here = low 0 row (omega arith) (omega arith) in
      let rest = put_parted put rows i (omega arith) (λ j d from under. low (suc j) d (omega arith) (omega arith)) (λ j d from under. high (suc j) d (omega arith) (omega arith)) in
      let next : suc i + cond (stands_at i k q rows) 1 0 ≡ suc (i + cond (stands_at i k q rows) 1 0) = omega arith in
      rw (here, next) (ap (λ xs. row ∷ xs) rest)

  -- what stands at a place
  pub stands_past : (rows : List Row) (i : ℕ) → length rows ≤ i → false ≡ stands_at i k q rows
  stands_past [] i past = refl
  stands_past (row ∷ rows) zero past = absurd (omega arith)
  stands_past (row ∷ rows) (suc i) past = stands_past rows i (omega arith)

  stands_here : (rows : List Row) (i : ℕ) (d : Row) → i < length rows → is_row k q (get_or rows i d) ≡ stands_at i k q rows
  stands_here [] i d within = absurd (omega arith)
  stands_here (row ∷ rows) zero d within = refl
  stands_here (row ∷ rows) (suc i) d within = stands_here rows i d (omega arith)

  pub stands_of : (rows : List Row) (i : ℕ) (row : Row) → i < length rows → row ≡ get_or rows i row → is_row k q row ≡ stands_at i k q rows
  stands_of rows i row within is = ap (is_row k q) is ∙ stands_here rows i row within
