-- A row beside rows of which none has its kind and key.
use Rattle.std.proofs.Common.{◌≡◌, refl, sym, ap, ◌∙◌, subst, zero, suc, ◌-◌, ◌≤◌, Bool, true, false, ◌||◌, List, [], ◌∷◌, length, get_or, take, drop, take_all, arith}
use Rattle.std.specs.List.{All, list_any}
use Rattle.std.proofs.lemmas.List.Kept.{AllPairs-cons}
use Rattle.desk_io.specs.declared.rows.Row.{Row}
use Rattle.desk_io.specs.Rows.{is_row}
use Rattle.keeper.specs.Order.{AreApart}

none_passes : (p : Row → Bool) (rows : List Row) → list_any p rows ≡ false → All (λ row. p row ≡ false) rows
none_passes p [] none = λ i d within. absurd (omega arith)
none_passes p (row ∷ rows) none = by (p row) refl none (none_passes p rows)
  where
    by : (b : Bool) → p row ≡ b → (b || list_any p rows) ≡ false → (list_any p rows ≡ false → All (λ row. p row ≡ false) rows) → All (λ row. p row ≡ false) (row ∷ rows)
    by true passes none rest i d within = absurd (cc)
    by false fails none rest zero d within = fails
    by false fails none rest (suc i) d within = rest none i d (omega arith)

apart_on : (row : Row) (rows : List Row) → list_any (is_row row.kind row.key) rows ≡ false → AreApart rows → AreApart (row ∷ rows)
apart_on row rows none apart = AllPairs-cons (λ a b. is_row a.kind a.key b ≡ false) row rows (none_passes (is_row row.kind row.key) rows none) apart

-- one row more that the rest hasn't
pub apart_past : (rows all : List Row) (row : Row) (found : Bool) → 1 ≤ length rows → row ≡ get_or rows 0 row → found ≡ list_any (is_row row.kind row.key) (take (length rows - 1) (drop 1 rows)) → found ≡ false
    → (AreApart rows → AreApart all) → AreApart (take (length rows - 1) (drop 1 rows)) → AreApart all
apart_past [] all row found many is found_is none left rest = absurd (omega arith)
apart_past (first ∷ rows) all row found many is found_is none left rest =
    let whole : take (length (first ∷ rows) - 1) (drop 1 (first ∷ rows)) ≡ rows = take_all _ rows (omega arith) in
    let alone : list_any (is_row row.kind row.key) rows ≡ false = ap (list_any (is_row row.kind row.key)) (sym whole) ∙ sym found_is ∙ none in
    left (subst (λ r. AreApart (r ∷ rows)) is (apart_on row rows alone (subst AreApart whole rest)))
