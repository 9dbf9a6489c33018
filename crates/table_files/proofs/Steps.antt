-- What one more record does to the rows that were read.
use Rattle.std.proofs.Common.{◌≡◌, ◌∙◌, sym, ap, refl, subst, ℕ, ◌+◌, List, [], ◌∷◌, ◌++◌, append-nil, append_assoc, length, Bool, true, false, Ok, Err, Result, if◌then◌else◌}
use Rattle.csv_text.specs.Records.{AreRecordsOf, HasGiven}
use Rattle.csv_text.specs.declared.records.Records.{Records}
use Rattle.csv_text.proofs.Totals.{all_records}
use Rattle.ops_tables.specs.Tables.{TableRows}
use Rattle.table_files.specs.Filling.{Gives}
use Rattle.table_files.specs.Reading.{Table, are_same, HasHeader, Begins, under_header, bad_header, row_after, rows_after, or_bad}
use Rattle.table_files.specs.declared.faults.BadRecord.{BadRecord}
use Rattle.table_files.specs.declared.faults.TableWhy.{TableWhy}

-- the records of a text that were given after some earlier ones, and what all records after those give
pub record After {A : Type 0} (text : List ℕ) (earlier : List (List (List ℕ))) (read now : List (List (List ℕ)) → A) (reader : Records) : Type 0 where
  pub seen : List (List (List ℕ))
  pub given : HasGiven text (earlier ++ seen) reader
  pub same : (others : List (List (List ℕ))) → read (seen ++ others) ≡ now others

-- all records of a text after some earlier ones, and what they give
abbrev pub Ends : {A : Type 0} → List ℕ → List (List (List ℕ)) → (List (List (List ℕ)) → A) → A → Type 0
Ends text earlier read made = (others : List (List (List ℕ))) × AreRecordsOf text (earlier ++ others) × (read others ≡ made)

pub at_start : {A : Type 0} (text : List ℕ) (earlier : List (List (List ℕ))) (read : List (List (List ℕ)) → A) (reader : Records) → HasGiven text earlier reader → After text earlier read read reader
at_start text earlier read reader h = record { seen = []; given = subst (λ (e : List (List (List ℕ))). HasGiven text e reader) (sym (append-nil earlier)) h; same = λ others. refl }

-- one record more
pub one_more : {A : Type 0} (text : List ℕ) (earlier : List (List (List ℕ))) (read before now : List (List (List ℕ)) → A) (old new : Records) (fields : List (List ℕ))
    → (after : After text earlier read before old) → HasGiven text ((earlier ++ after.seen) ++ fields ∷ []) new → ((others : List (List (List ℕ))) → before (fields ∷ others) ≡ now others)
    → After text earlier read now new
one_more text earlier read before now old new fields after h step = record {
  seen = after.seen ++ fields ∷ [];
  given = subst (λ (e : List (List (List ℕ))). HasGiven text e new) (append_assoc earlier after.seen (fields ∷ [])) h;
  same = λ others. ap read (append_assoc after.seen (fields ∷ []) others) ∙ after.same (fields ∷ others) ∙ step others;
}

-- no record is left
pub no_more : {A : Type 0} (text : List ℕ) (earlier : List (List (List ℕ))) (read before : List (List (List ℕ)) → A) (made : A) (old : Records)
    → (after : After text earlier read before old) → AreRecordsOf text (earlier ++ after.seen) → before [] ≡ made → Ends text earlier read made
no_more text earlier read before made old after all e = (after.seen, all, ap read (sym (append-nil after.seen)) ∙ after.same [] ∙ e)

-- the next records tell all
pub some_left : {A : Type 0} (text : List ℕ) (earlier : List (List (List ℕ))) (read before : List (List (List ℕ)) → A) (made : A) (old : Records) (others : List (List (List ℕ)))
    → (after : After text earlier read before old) → AreRecordsOf text ((earlier ++ after.seen) ++ others) → before others ≡ made → Ends text earlier read made
some_left text earlier read before made old others after all e =
    (after.seen ++ others, subst (λ (e : List (List (List ℕ))). AreRecordsOf text e) (append_assoc earlier after.seen others) all, after.same others ∙ e)

-- the first of the records that are left tells all
pub one_tells : {A : Type 0} (text : List ℕ) (earlier : List (List (List ℕ))) (read before : List (List (List ℕ)) → A) (made : A) (old new : Records) (fields : List (List ℕ))
    → (after : After text earlier read before old) → HasGiven text ((earlier ++ after.seen) ++ fields ∷ []) new → ((others : List (List (List ℕ))) → before (fields ∷ others) ≡ made)
    → Ends text earlier read made
one_tells text earlier read before made old new fields after h step =
    let rest = all_records text ((earlier ++ after.seen) ++ fields ∷ []) new h in
    some_left text earlier read before made old (fields ∷ rest.0) after
    (subst (λ (e : List (List (List ℕ))). AreRecordsOf text e) (append_assoc (earlier ++ after.seen) (fields ∷ []) rest.0) rest.1) (step rest.0)

-- a row more
pub good_row : {R : Type 0} (same : R → R → Bool) (limit : ℕ) (table : Table R) (t : TableRows) (rows : List R) (row : R) (fields : List (List ℕ)) (others : List (List (List ℕ)))
    → row_after same limit table t rows fields ≡ Ok row → rows_after same limit table t rows (fields ∷ others) ≡ rows_after same limit table t (rows ++ row ∷ []) others
good_row same limit table t rows row fields others e = ap (λ r. or_bad (length rows + 2) r (λ row. rows_after same limit table t (rows ++ row ∷ []) others)) e

pub bad_row : {R : Type 0} (same : R → R → Bool) (limit : ℕ) (table : Table R) (t : TableRows) (rows : List R) (why : TableWhy) (fields : List (List ℕ)) (others : List (List (List ℕ)))
    → row_after same limit table t rows fields ≡ Err why → rows_after same limit table t rows (fields ∷ others) ≡ Err (record { line = length rows + 2; why = why })
bad_row same limit table t rows why fields others e = ap (λ r. or_bad (length rows + 2) r (λ row. rows_after same limit table t (rows ++ row ∷ []) others)) e

-- what a text gives under its header
pub with_header : {A : Type 0} (text : List ℕ) (columns : List (List ℕ)) (read : List (List (List ℕ)) → Result A BadRecord) (reader : Records) (made : Result A BadRecord)
    → (h : HasHeader text columns reader) → Ends text (h.header ∷ []) read made → Gives text (under_header columns read) made
with_header {A} text columns read reader made h ends = record {
  records = h.header ∷ ends.0;
  are_records = ends.1;
  gives = ap (λ b. if b then read ends.0 else bad_header {A = A}) h.is_same ∙ ends.2;
}

-- the first record of a text is a header, or all its records have none
pub begins : (text : List ℕ) (header columns : List (List ℕ)) (reader : Records) (b : Bool) → HasGiven text (header ∷ []) reader → b ≡ are_same header columns → Begins text columns b reader
begins text header columns reader true h e = record { header = header; is_same = sym e; given = h }
begins text header columns reader false h e =
    let rest = all_records text (header ∷ []) reader h in
    record { records = header ∷ rest.0; are_records = rest.1; none = sym e }
