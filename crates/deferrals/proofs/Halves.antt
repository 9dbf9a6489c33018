-- A deferral is found by halves, where ids rise.
use Rattle.std.proofs.Common.{inl, inr, ◌⊎◌, ◌≡◌, refl, sym, ap, ◌∙◌, ℕ, zero, suc, ◌+◌, ◌-◌, ◌<◌, ◌≤◌, arith, Bool, true, false, cond, ◌&&◌, nat_lt, List, [], ◌∷◌, length, get_or, All, None, Some, position, ltb-true, ltb-false, lt-ltb}
use Rattle.std.specs.List.{AllByRecursion, AllWithin, slice_get, position_from}
use Rattle.std.specs.List.Sorted.{IsPartitionedBy}
use Rattle.std.proofs.lemmas.Bool.{cases_lt, ne_eqb}
use Rattle.std.proofs.lemmas.Iterator.Adapters.{position_from-zero}
use Rattle.std.proofs.lemmas.List.Elements.{recursion_from_All}
use Rattle.desk_io.proofs.Each.{each_weaker}
use Rattle.deferrals.specs.declared.items.Deferral.{Deferral}
use Rattle.deferrals.specs.Held.{AreRising, has_id}
use Rattle.deferrals.specs.Limits.{is_of}
use Rattle.deferrals.specs.ByTail.{open_as, open_if, place_if, id_or_none}
use Rattle.deferrals.proofs.TailLaws.{Rise, rise_from, none_as}

abbrev pub is_below : ℕ → Deferral → Bool
is_below id d = nat_lt d.id id

below_by : (i j : ℕ) (x : Deferral) (ds : List Deferral) (id : ℕ) (b : Bool) → AreRising ds → i ≤ j → j < length ds → is_below id (get_or ds j x) ≡ true → nat_lt i j ≡ b → is_below id (get_or ds i x) ≡ true
below_by i j x ds id true rising before within low e =
    let less = rising i j x (ltb-true i j e) within in let under = ltb-true (get_or ds j x).id id low in lt-ltb (get_or ds i x).id id (omega (arith, less, under))
below_by i j x ds id false rising before within low e = let same : i ≡ j = (let least = ltb-false i j e in omega (arith, least, before)) in ap (λ k. is_below id (get_or ds k x)) same ∙ low

-- the deferrals with a lesser id come first
pub parted : (id : ℕ) (ds : List Deferral) → AreRising ds → IsPartitionedBy (is_below id) ds
parted id ds rising i j x before within low = below_by i j x ds id (nat_lt i j) rising before within low refl

module _ (id : ℕ) where
  above : (d : Deferral) (ds : List Deferral) → is_below id d ≡ false → AllByRecursion (λ e. d.id < e.id) ds → AllByRecursion (λ e. id < e.id) ds
  above d ds high later = let least = ltb-false d.id id high in each_weaker (λ e. d.id < e.id) (λ e. id < e.id) (λ e more. omega (arith, least, more)) ds later

  other : (d : Deferral) → is_below id d ≡ true → has_id id d ≡ false
  other d low = let less = ltb-true d.id id low in ne_eqb d.id id (λ e. absurd (omega (arith, e, less)))

  opened_by : (tail : List ℕ) (ds : List Deferral) (i : ℕ) → Rise ds → AllWithin (λ d. is_below id d ≡ true) ds 0 i → AllWithin (λ d. is_below id d ≡ false) ds i (length ds)
      → open_if tail id (slice_get ds i) ≡ open_as tail id ds
  opened_by tail [] i rise low high = refl
  opened_by tail (d ∷ ds) zero rise low high =
      let none = none_as tail id ds (above d ds (high 0 d (omega arith) (omega arith)) rise.0) in
      ap (λ xs. cond (has_id id d && is_of tail d) (d ∷ xs) xs) (sym none)
  opened_by tail (d ∷ ds) (suc i) rise low high =
      rw (other d (low 0 d (omega arith) (omega arith)))
      (opened_by tail ds i rise.1 (λ j x from under. low (suc j) x (omega arith) (omega (arith, under))) (λ j x from under. high (suc j) x (omega (arith, from)) (omega (arith, under))))

  none_from : (n : ℕ) (ds : List Deferral) → AllByRecursion (λ e. id < e.id) ds → position_from (has_id id) n ds ≡ None
  none_from n [] all = refl
  none_from n (d ∷ ds) all = let less = all.0 in rw (ne_eqb d.id id (λ e. absurd (omega (arith, e, less)))) (none_from (n + 1) ds all.1)

  placed_by : (n : ℕ) (ds : List Deferral) (i : ℕ) → Rise ds → AllWithin (λ d. is_below id d ≡ true) ds 0 i → AllWithin (λ d. is_below id d ≡ false) ds i (length ds)
      → place_if id (n + i) (slice_get ds i) ≡ position_from (has_id id) n ds
  placed_by n [] i rise low high = refl
  placed_by n (d ∷ ds) zero rise low high =
      let none = none_from (n + 1) ds (above d ds (high 0 d (omega arith) (omega arith)) rise.0) in
      let here : n + 0 ≡ n = omega arith in
      ap (λ m. cond (has_id id d) (Some m) None) here ∙ ap (cond (has_id id d) (Some n)) (sym none)
  placed_by n (d ∷ ds) (suc i) rise low high =
      let next : n + suc i ≡ n + 1 + i = omega arith in
      rw (other d (low 0 d (omega arith) (omega arith)))
      (ap (λ m. place_if id m (slice_get ds i)) next
      ∙ placed_by (n + 1) ds i rise.1 (λ j x from under. low (suc j) x (omega arith) (omega (arith, under))) (λ j x from under. high (suc j) x (omega (arith, from)) (omega (arith, under))))

  -- what stands at the place is the first of that id, if any is
  pub opened : (tail : List ℕ) (ds : List Deferral) (i : ℕ) → AreRising ds → AllWithin (λ d. is_below id d ≡ true) ds 0 i → AllWithin (λ d. is_below id d ≡ false) ds i (length ds)
      → open_if tail id (slice_get ds i) ≡ open_as tail id ds
  opened tail ds i rising low high = opened_by tail ds i (rise_from ds rising) low high

  pub placed : (ds : List Deferral) (i : ℕ) → AreRising ds → AllWithin (λ d. is_below id d ≡ true) ds 0 i → AllWithin (λ d. is_below id d ≡ false) ds i (length ds)
      → place_if id i (slice_get ds i) ≡ position (has_id id) ds
  placed ds i rising low high =
      let same : i ≡ 0 + i = omega arith in
      ap (λ m. place_if id m (slice_get ds i)) same ∙ placed_by 0 ds i (rise_from ds rising) low high ∙ sym (position_from-zero (has_id id) ds)

got : (ds : List Deferral) (n : ℕ) (x : Deferral) → n < length ds → slice_get ds n ≡ Some (get_or ds n x)
got [] n x within = absurd (omega (arith, within))
got (d ∷ ds) zero x within = refl
got (d ∷ ds) (suc n) x within = got ds n x (omega (arith, within))

-- no id is above that of the last
pub last_above : (ds : List Deferral) → AreRising ds → AllByRecursion (λ d. d.id ≤ id_or_none (slice_get ds (length ds - 1))) ds
last_above ds rising = recursion_from_All (λ d. d.id ≤ id_or_none (slice_get ds (length ds - 1))) ds each
  where
    by : (k n : ℕ) (x : Deferral) → n ≡ length ds - 1 → k < length ds → (k < n) ⊎ (n ≤ k) → (get_or ds k x).id ≤ (get_or ds n x).id
    by k n x is within (inl before) = let less = rising k n x before (omega (arith, is, within)) in omega (arith, less)
    by k n x is within (inr after) = let same : k ≡ n = omega (arith, is, within, after) in rw same (omega arith)

    each : All (λ d. d.id ≤ id_or_none (slice_get ds (length ds - 1))) ds
    each k x within =
        let n = length ds - 1 in
        rw (got ds n x (omega (arith, within))) (by k n x refl within (cases_lt k n))
