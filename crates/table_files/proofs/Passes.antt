-- A table that is read in two passes gives what it gives record by record.
use Rattle.std.proofs.Common.{◌≡◌, ◌∙◌, sym, ap, refl, ℕ, ◌+◌, nat_le, List, [], ◌∷◌, ◌++◌, append-nil, append_assoc, length, take, if◌then◌else◌, Bool, true, false, Option, Some, None, Result, Ok, Err, cond}
use Rattle.std.specs.List.{list_any}
use Rattle.std.proofs.lemmas.List.{length-append}
use Rattle.ops_tables.specs.Keys.{AreNew}
use Rattle.ops_tables.specs.Order.{IsFirstDoubled}
use Rattle.ops_tables.specs.Tables.{TableRows}
use Rattle.table_files.specs.Filling.{Gives}
use Rattle.table_files.specs.Passes.{RowsRead, onto, row_given, row_at, rows_read, stopped, ended, keyed}
use Rattle.table_files.specs.Reading.{Table, IsToldByFirst, are_same, rows_after, rows_of, under_header, bad_header}
use Rattle.table_files.specs.declared.faults.BadRecord.{BadRecord}
use Rattle.table_files.specs.declared.faults.TableWhy.{TableWhy}
use Rattle.table_files.specs.declared.faults.TableWhy.TheVariants as why

module _ {R : Type 0} (same : R → R → Bool) (limit : ℕ) (table : Table R) (t : TableRows) where
  -- the keys of the rows that are read, tested after earlier ones
  abbrev tested : List R → RowsRead R → Result (List R) BadRecord
  tested earlier read = keyed same earlier read.rows read.stop

  abbrev Same : List (List ℕ) → List (List (List ℕ)) → List R → Type 0
  Same fields others earlier = rows_after same limit table t earlier (fields ∷ others) ≡ tested earlier (rows_read limit table t (length earlier) (fields ∷ others))

  -- one record, where what comes after it is known
  one : (fields : List (List ℕ)) (others : List (List (List ℕ))) (earlier : List R)
      → ((row : R) → rows_after same limit table t (earlier ++ row ∷ []) others ≡ tested (earlier ++ row ∷ []) (rows_read limit table t (length (earlier ++ row ∷ [])) others)) → Same fields others earlier
  one fields others earlier later = at_limit (nat_le limit (length earlier)) refl
    where
      more : (row : R) → rows_after same limit table t (earlier ++ row ∷ []) others ≡ tested (earlier ++ row ∷ []) (rows_read limit table t (length earlier + 1) others)
      more row = later row ∙ ap (λ n. tested (earlier ++ row ∷ []) (rows_read limit table t n others)) (length-append earlier (row ∷ []))

      at_link : (row : R) (b : Bool) → nat_le limit (length earlier) ≡ false → table.row_of fields ≡ Some row → list_any (same row) earlier ≡ false → table.is_linked t row ≡ b → Same fields others earlier
      at_link row true room gives new linked = rw (room, gives, linked, new) (more row)
      at_link row false room gives new linked = rw (room, gives, linked, new) refl

      at_doubled : (row : R) (b : Bool) → nat_le limit (length earlier) ≡ false → table.row_of fields ≡ Some row → list_any (same row) earlier ≡ true → table.is_linked t row ≡ b → Same fields others earlier
      at_doubled row true room gives old linked = rw (room, gives, linked, old) refl
      at_doubled row false room gives old linked = rw (room, gives, linked, old) refl

      at_key : (row : R) (b : Bool) → nat_le limit (length earlier) ≡ false → table.row_of fields ≡ Some row → list_any (same row) earlier ≡ b → Same fields others earlier
      at_key row true room gives old = at_doubled row (table.is_linked t row) room gives old refl
      at_key row false room gives new = at_link row (table.is_linked t row) room gives new refl

      at_row : (o : Option R) → nat_le limit (length earlier) ≡ false → table.row_of fields ≡ o → Same fields others earlier
      at_row None room none = rw (room, none) refl
      at_row (Some row) room gives = at_key row (list_any (same row) earlier) room gives refl

      at_limit : (b : Bool) → nat_le limit (length earlier) ≡ b → Same fields others earlier
      at_limit true full = rw full refl
      at_limit false room = at_row (table.row_of fields) room refl

  pub in_passes : (records : List (List (List ℕ))) (earlier : List R) → rows_after same limit table t earlier records ≡ tested earlier (rows_read limit table t (length earlier) records)
  in_passes [] earlier = refl
  in_passes (fields ∷ others) earlier = one fields others earlier (λ row. in_passes others (earlier ++ row ∷ []))

-- what a record gives is told by the first of its fields
pub row_told : {R : Type 0} (limit : ℕ) (table : Table R) → IsToldByFirst table → (most count : ℕ) (first read fields : List (List ℕ)) (given : Result R TableWhy)
    → most ≡ length table.columns + 1 → first ≡ take most fields → read ≡ first → given ≡ row_at limit table count read → row_at limit table count fields ≡ given
row_told {R} limit table told most count first read fields given all front same is =
    let row = λ (o : Option R). if nat_le limit count then Err why.OverLimit else row_given o in
    sym (is ∙ ap (row_at limit table count) (same ∙ front) ∙ ap (λ n. row_at limit table count (take n fields)) all ∙ ap row (told fields))

-- rows that were read, and what is read of the records after them
module _ {R : Type 0} (limit : ℕ) (table : Table R) (t : TableRows) where
  abbrev pub ReadsOn : List R → List (List (List ℕ)) → RowsRead R
  ReadsOn rows others = onto rows (rows_read limit table t (length rows) others)

  at_count : (rows : List R) (count : ℕ) (records : List (List (List ℕ))) → count ≡ length rows → ReadsOn rows records ≡ onto rows (rows_read limit table t count records)
  at_count rows count records e = ap (λ n. onto rows (rows_read limit table t n records)) (sym e)

  pub one_more : (rows : List R) (count : ℕ) (row : R) (fields : List (List ℕ)) (others : List (List (List ℕ))) → count ≡ length rows → row_at limit table count fields ≡ Ok row
      → true ≡ table.is_linked t row → ReadsOn rows (fields ∷ others) ≡ ReadsOn (rows ++ row ∷ []) others
  one_more rows count row fields others e is linked =
      let more = rows ++ row ∷ [] in
      let read = rows_read limit table t (count + 1) others in
      let whole : onto rows (onto (row ∷ []) read) ≡ onto more read = ap (λ rs. record { rows = rs; stop = read.stop }) (sym (append_assoc rows (row ∷ []) read.rows)) in
      let counted : count + 1 ≡ length more = ap (λ n. n + 1) e ∙ sym (length-append rows (row ∷ [])) in
      at_count rows count (fields ∷ others) e ∙ rw (is, sym linked) whole ∙ ap (λ n. onto more (rows_read limit table t n others)) counted

  pub last : (rows : List R) (count : ℕ) (row : R) (fields : List (List ℕ)) (others : List (List (List ℕ))) (more : List R) (made : RowsRead R)
      → count ≡ length rows → row_at limit table count fields ≡ Ok row → false ≡ table.is_linked t row
      → more ≡ rows ++ row ∷ [] → made ≡ stopped more count why.Unlinked → ReadsOn rows (fields ∷ others) ≡ made
  last rows count row fields others more made e is unlinked pushed ends =
      at_count rows count (fields ∷ others) e ∙ rw (is, sym unlinked) (sym (ends ∙ ap (λ rs. stopped rs count why.Unlinked) pushed))

  pub none : (rows : List R) (count : ℕ) (reason : TableWhy) (fields : List (List ℕ)) (others : List (List (List ℕ))) (made : RowsRead R)
      → count ≡ length rows → row_at limit table count fields ≡ Err reason → made ≡ stopped rows count reason → ReadsOn rows (fields ∷ others) ≡ made
  none rows count reason fields others made e is ends = at_count rows count (fields ∷ others) e ∙ rw is (ap (λ rs. stopped rs count reason) (append-nil rows) ∙ sym ends)

  pub at_end : (rows : List R) → ReadsOn rows [] ≡ record { rows = rows; stop = None }
  at_end rows = ap (λ rs. record { rows = rs; stop = None }) (append-nil rows)

-- rows of which none has the key of an earlier one
pub all_new : {R : Type 0} (same : R → R → Bool) (earlier rows : List R) (stop : Option BadRecord) → AreNew same earlier rows → keyed same earlier rows stop ≡ ended (earlier ++ rows) stop
all_new same earlier [] stop new = ap (λ rows. ended rows stop) (sym (append-nil earlier))
all_new same earlier (row ∷ rows) stop new =
    rw new.0 (all_new same (earlier ++ row ∷ []) rows stop new.1 ∙ ap (λ rows. ended rows stop) (append_assoc earlier (row ∷ []) rows))

doubled : {R : Type 0} (same : R → R → Bool) (earlier before after : List R) (row : R) (stop : Option BadRecord) → AreNew same earlier before → list_any (same row) (earlier ++ before) ≡ true
    → keyed same earlier (before ++ row ∷ after) stop ≡ Err (record { line = length (earlier ++ before) + 2; why = why.Doubled })
doubled same earlier [] after row stop new old =
    let old_here : list_any (same row) earlier ≡ true = ap (list_any (same row)) (sym (append-nil earlier)) ∙ old in
    rw (old_here, append-nil earlier) refl
doubled same earlier (first ∷ before) after row stop new old =
    let whole = append_assoc earlier (first ∷ []) before in
    rw new.0 (doubled same (earlier ++ first ∷ []) before after row stop new.1 (ap (list_any (same row)) whole ∙ old) ∙ ap (λ rows. Err (record { line = length rows + 2; why = why.Doubled })) whole)

-- the first row whose key an earlier one has
pub first_doubled : {R : Type 0} (same : R → R → Bool) (rows : List R) (place : ℕ) (stop : Option BadRecord) → IsFirstDoubled same rows place
    → keyed same [] rows stop ≡ Err (record { line = place + 2; why = why.Doubled })
first_doubled same rows place stop first =
    ap (λ rows. keyed same [] rows stop) first.is ∙ doubled same [] first.before first.after first.row stop first.new first.doubled
    ∙ ap (λ n. Err (record { line = n + 2; why = why.Doubled })) first.at

-- what a text gives in two passes
abbrev pub and_then : {A B : Type 0} → Result A BadRecord → (A → Result B BadRecord) → Result B BadRecord
and_then (Ok a) next = next a
and_then (Err bad) next = Err bad

below : {A B : Type 0} (columns : List (List ℕ)) (first : List (List (List ℕ)) → A) (next : A → Result B BadRecord) (whole : List (List (List ℕ)) → Result B BadRecord)
    → ((records : List (List (List ℕ))) → whole records ≡ next (first records)) → (records : List (List (List ℕ)))
    → under_header columns whole records ≡ and_then (under_header columns (λ rs. Ok (first rs)) records) next
below columns first next whole same [] = refl
below columns first next whole same (header ∷ records) = by (are_same header columns)
  where
    by : (b : Bool) → cond b (whole records) bad_header ≡ and_then (cond b (Ok (first records)) bad_header) next
    by true = same records
    by false = refl

pub gives : {R : Type 0} (same : R → R → Bool) (limit : ℕ) (table : Table R) (t : TableRows) (text : List ℕ) (read : Result (RowsRead R) BadRecord)
    → Gives text (under_header table.columns (λ records. Ok (rows_read limit table t 0 records))) read
    → Gives text (rows_of same limit table t) (and_then read (λ r. keyed same [] r.rows r.stop))
gives {R} same limit table t text read is =
    let next = λ (r : RowsRead R). keyed same [] r.rows r.stop in
    record {
      records = is.records;
      are_records = is.are_records;
      gives = below table.columns (rows_read limit table t 0) next (rows_after same limit table t []) (λ records. in_passes same limit table t records []) is.records
          ∙ ap (λ made. and_then made next) is.gives;
    }
