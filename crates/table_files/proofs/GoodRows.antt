-- The rows that a table gives are those of its records, and the record that it names is the first bad one.
use Rattle.std.proofs.Common.{◌≡◌, ◌∙◌, sym, ap, refl, subst, ℕ, ◌+◌, ◌<◌, ◌≤◌, List, [], ◌∷◌, ◌++◌, append-nil, append_assoc, length, map, Bool, true, false, Option, Some, None, Result, Ok, Err, All, AllPairs, arith, MatchResult, nat_le, get_or, cond}
use Rattle.std.specs.List.{list_any}
use Rattle.std.proofs.Math.Seq.{get_or-append_seam}
use Rattle.std.proofs.lemmas.Bool.Decides.{nat_tests}
use Rattle.std.proofs.lemmas.List.{length-append, length-map, map-append, get_or_append_left}
use Rattle.std.proofs.lemmas.List.Elements.{All-push, All-nil}
use Rattle.std.proofs.lemmas.List.Folds.{Any-from_list_any, list_any-from_Any, list_any_none, list_any_at}
use Rattle.std.proofs.lemmas.List.Quantifiers.{all_pairs_push}
use Rattle.ops_tables.specs.Tables.{TableRows}
use Rattle.table_files.specs.Reading.{Table, linked_row, new_row, row_after, rows_after}
use Rattle.table_files.specs.Good.{AreRowsOf, IsBadAfter, IsFirstBad}
use Rattle.table_files.specs.declared.faults.BadRecord.{BadRecord}
use Rattle.table_files.specs.declared.faults.TableWhy.{TableWhy}
use Rattle.table_files.specs.declared.faults.TableWhy.TheVariants as why
use Rattle.table_files.proofs.Steps.{good_row, bad_row}

none_passes : {X : Type 0} (test : X → Bool) (xs : List X) → list_any test xs ≡ false → All (λ x. test x ≡ false) xs
none_passes test xs e i d within = by (test (get_or xs i d)) refl
  where
    by : (b : Bool) → test (get_or xs i d) ≡ b → test (get_or xs i d) ≡ false
    by true h = absurd (let both = sym e ∙ list_any_at test xs i d within h in cc)
    by false h = h

module _ {R : Type 0} (same : R → R → Bool) (limit : ℕ) (table : Table R) (t : TableRows) where
  abbrev Apart : R → R → Type 0
  Apart earlier later = same later earlier ≡ false

  -- a record that is good after some rows
  record IsNext (rows : List R) (fields : List (List ℕ)) (row : R) : Type 0 where
    room : length rows < limit
    gives : table.row_of fields ≡ Some row
    fresh : All (λ earlier. same row earlier ≡ false) rows
    linked : table.is_linked t row ≡ true

  abbrev IsTested : List R → List (List ℕ) → Result R TableWhy → Type 0
  IsTested rows fields result = MatchResult result (IsNext rows fields) (IsBadAfter same limit table t rows fields)

  tested_link : (rows : List R) (fields : List (List ℕ)) (row : R) → length rows < limit → table.row_of fields ≡ Some row → list_any (same row) rows ≡ false
      → (b : Bool) → table.is_linked t row ≡ b → IsTested rows fields (linked_row table t row)
  tested_link rows fields row room gives fresh true h = subst (λ b. IsTested rows fields (cond b (Ok row) (Err why.Unlinked))) (sym h) (record { room = room; gives = gives; fresh = none_passes (same row) rows fresh; linked = h })
  tested_link rows fields row room gives fresh false h = subst (λ b. IsTested rows fields (cond b (Ok row) (Err why.Unlinked))) (sym h) (row, room, gives, none_passes (same row) rows fresh, h)

  tested_key : (rows : List R) (fields : List (List ℕ)) (row : R) → length rows < limit → table.row_of fields ≡ Some row → (b : Bool) → list_any (same row) rows ≡ b → IsTested rows fields (new_row same table t rows (Some row))
  tested_key rows fields row room gives true h = subst (λ b. IsTested rows fields (cond b (Err why.Doubled) (linked_row table t row))) (sym h) (row, room, gives, Any-from_list_any (same row) rows h)
  tested_key rows fields row room gives false h = subst (λ b. IsTested rows fields (cond b (Err why.Doubled) (linked_row table t row))) (sym h) (tested_link rows fields row room gives h (table.is_linked t row) refl)

  tested_form : (rows : List R) (fields : List (List ℕ)) → length rows < limit → (o : Option R) → table.row_of fields ≡ o → IsTested rows fields (new_row same table t rows o)
  tested_form rows fields room None h = (room, h)
  tested_form rows fields room (Some row) h = tested_key rows fields row room h (list_any (same row) rows) refl

  tested_room : (rows : List R) (fields : List (List ℕ)) → (b : Bool) → nat_le limit (length rows) ≡ b → IsTested rows fields (row_after same limit table t rows fields)
  tested_room rows fields true h = subst (λ b. IsTested rows fields (cond b (Err why.OverLimit) (new_row same table t rows (table.row_of fields)))) (sym h) (grind (arith, nat_tests, h))
  tested_room rows fields false h = subst (λ b. IsTested rows fields (cond b (Err why.OverLimit) (new_row same table t rows (table.row_of fields)))) (sym h) (tested_form rows fields (grind (arith, nat_tests, h)) (table.row_of fields) refl)

  tested : (rows : List R) (fields : List (List ℕ)) → IsTested rows fields (row_after same limit table t rows fields)
  tested rows fields = tested_room rows fields (nat_le limit (length rows)) refl

  has_room : (rows : List R) → length rows < limit → nat_le limit (length rows) ≡ false
  has_room rows room = grind (arith, nat_tests, room)

  is_next : (rows : List R) (fields : List (List ℕ)) (row : R) → IsNext rows fields row → row_after same limit table t rows fields ≡ Ok row
  is_next rows fields row n = rw (has_room rows n.room, n.gives, list_any_none (same row) rows n.fresh, n.linked) refl

  is_bad : (rows : List R) (fields : List (List ℕ)) (reason : TableWhy) → IsBadAfter same limit table t rows fields reason → row_after same limit table t rows fields ≡ Err reason
  is_bad rows fields why.OverLimit h =
      let full : nat_le limit (length rows) ≡ true = grind (arith, nat_tests, h) in
      rw full refl
  is_bad rows fields why.BadField h = rw (has_room rows h.0, h.1) refl
  is_bad rows fields why.Doubled h = rw (has_room rows h.1, h.2, list_any-from_Any (same h.0) rows h.3) refl
  is_bad rows fields why.Unlinked h = rw (has_room rows h.1, h.2, list_any_none (same h.0) rows h.3, h.4) refl

  one_more : (read : List (List (List ℕ))) (rows : List R) (fields : List (List ℕ)) (row : R) → AreRowsOf same limit table t read rows → IsNext rows fields row → AreRowsOf same limit table t (read ++ fields ∷ []) (rows ++ row ∷ [])
  one_more read rows fields row good n = record {
    given = map-append table.row_of read (fields ∷ []) ∙ ap (λ os. os ++ table.row_of fields ∷ []) good.given ∙ ap (λ o. map Some rows ++ o ∷ []) n.gives ∙ sym (map-append Some rows (row ∷ []));
    within = omega (arith, n.room, length-append rows (row ∷ []));
    distinct = all_pairs_push Apart rows row good.distinct n.fresh;
    linked = All-push (λ r. table.is_linked t r ≡ true) rows row good.linked n.linked;
  }

  -- what comes of records after good ones
  abbrev Comes : List (List (List ℕ)) → Result (List R) BadRecord → Type 0
  Comes records made = MatchResult made (AreRowsOf same limit table t records) (IsFirstBad same limit table t records)

  sound : (rest read : List (List (List ℕ))) (rows : List R) → AreRowsOf same limit table t read rows → Comes (read ++ rest) (rows_after same limit table t rows rest)
  sound [] read rows good = subst (λ rs. AreRowsOf same limit table t rs rows) (sym (append-nil read)) good
  sound (fields ∷ others) read rows good =
      by (row_after same limit table t rows fields) refl (tested rows fields) (λ row n. sound others (read ++ fields ∷ []) (rows ++ row ∷ []) (one_more read rows fields row good n))
    where
      by : (o : Result R TableWhy) → row_after same limit table t rows fields ≡ o → IsTested rows fields o
          → ((row : R) → IsNext rows fields row → Comes ((read ++ fields ∷ []) ++ others) (rows_after same limit table t (rows ++ row ∷ []) others))
          → Comes (read ++ fields ∷ others) (rows_after same limit table t rows (fields ∷ others))
      by (Err reason) h j more = subst (Comes (read ++ fields ∷ others)) (sym (bad_row same limit table t rows reason fields others h)) (record {
        good = read;
        fields = fields;
        others = others;
        rows = rows;
        order = refl;
        are_rows = good;
        number = ap (λ n. n + 2) (sym (length-map rows Some) ∙ ap length (sym good.given) ∙ length-map read table.row_of);
        fails = j;
      })
      by (Ok row) h j more =
          subst (Comes (read ++ fields ∷ others)) (sym (good_row same limit table t rows row fields others h))
          (subst (λ rs. Comes rs (rows_after same limit table t (rows ++ row ∷ []) others)) (append_assoc read (fields ∷ []) others) (more row j))

  apart_from : (earlier : List R) (row : R) (later : List R) → AllPairs Apart (earlier ++ row ∷ later) → All (λ e. same row e ≡ false) earlier
  apart_from earlier row later pairs i d within =
      subst (λ x. same x (get_or earlier i d) ≡ false) (get_or-append_seam earlier row later d)
      (subst (λ x. same (get_or (earlier ++ row ∷ later) (length earlier) d) x ≡ false) (get_or_append_left earlier (row ∷ later) d i within)
      (pairs i (length earlier) d within (omega (arith, length-append earlier (row ∷ later)))))

  all_at : (earlier : List R) (row : R) (later : List R) → All (λ r. table.is_linked t r ≡ true) (earlier ++ row ∷ later) → table.is_linked t row ≡ true
  all_at earlier row later all =
      subst (λ x. table.is_linked t x ≡ true) (get_or-append_seam earlier row later row) (all (length earlier) row (omega (arith, length-append earlier (row ∷ later))))

  -- good records are passed over
  over : (good rest : List (List (List ℕ))) (earlier rows : List R) → map table.row_of good ≡ map Some rows → length (earlier ++ rows) ≤ limit → AllPairs Apart (earlier ++ rows)
      → All (λ r. table.is_linked t r ≡ true) (earlier ++ rows) → rows_after same limit table t earlier (good ++ rest) ≡ rows_after same limit table t (earlier ++ rows) rest
  over [] rest earlier [] given within distinct linked = ap (λ rs. rows_after same limit table t rs rest) (sym (append-nil earlier))
  over [] rest earlier (row ∷ rows) given within distinct linked = absurd cc
  over (fields ∷ good) rest earlier [] given within distinct linked = absurd cc
  over (fields ∷ good) rest earlier (row ∷ rows) given within distinct linked =
      let n : IsNext earlier fields row = record {
        room = omega (arith, within, length-append earlier (row ∷ rows));
        gives = cc;
        fresh = apart_from earlier row rows distinct;
        linked = all_at earlier row rows linked;
      } in
      let given_rest : map table.row_of good ≡ map Some rows = cc in
      let same_rows : (earlier ++ row ∷ []) ++ rows ≡ earlier ++ row ∷ rows = append_assoc earlier (row ∷ []) rows in
      good_row same limit table t earlier row fields (good ++ rest) (is_next earlier fields row n)
      ∙ over good rest (earlier ++ row ∷ []) rows given_rest (subst (λ rs. length rs ≤ limit) (sym same_rows) within) (subst (AllPairs Apart) (sym same_rows) distinct) (subst (All (λ r. table.is_linked t r ≡ true)) (sym same_rows) linked)
      ∙ ap (λ rs. rows_after same limit table t rs rest) same_rows

  passes : (good rest : List (List (List ℕ))) (rows : List R) → AreRowsOf same limit table t good rows → rows_after same limit table t [] (good ++ rest) ≡ rows_after same limit table t rows rest
  passes good rest rows g = over good rest [] rows g.given g.within g.distinct g.linked

  pub comes : (records : List (List (List ℕ))) → Comes records (rows_after same limit table t [] records)
  comes records = sound records [] [] (record { given = refl; within = omega arith; distinct = λ i j d before within. absurd (omega (arith, within)); linked = All-nil (λ r. table.is_linked t r ≡ true) })

  pub if_rows : (records : List (List (List ℕ))) (rows : List R) → AreRowsOf same limit table t records rows → rows_after same limit table t [] records ≡ Ok rows
  if_rows records rows good = ap (rows_after same limit table t []) (sym (append-nil records)) ∙ passes records [] rows good

  pub if_bad : (records : List (List (List ℕ))) (bad : BadRecord) → IsFirstBad same limit table t records bad → rows_after same limit table t [] records ≡ Err bad
  if_bad records bad b =
      let lengths : length b.rows ≡ length b.good = sym (length-map b.rows Some) ∙ ap length (sym b.are_rows.given) ∙ length-map b.good table.row_of in
      let is : record { line = length b.rows + 2; why = bad.why } ≡ bad = ap (λ n. record bad { line = n }) (ap (λ n. n + 2) lengths ∙ sym b.number) in
      ap (rows_after same limit table t []) b.order ∙ passes b.good (b.fields ∷ b.others) b.rows b.are_rows ∙ bad_row same limit table t b.rows bad.why b.fields b.others (is_bad b.rows b.fields bad.why b.fails) ∙ ap Err is
