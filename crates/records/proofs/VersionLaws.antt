-- Which rows are of the first version.
use Rattle.std.proofs.Common.{◌≡◌, ◌↔◌, ℕ, Bool, true, false, ◌&&◌, All, List, [], ◌∷◌, map, Option, None, Some, refl, sym, ap, ◌∙◌, subst, is_some}
use Rattle.std.specs.Prelude.{◌==◌, Any}
use Rattle.std.specs.List.{AllByRecursion}
use Rattle.std.specs.Option.{option_map}
use Rattle.std.proofs.lemmas.Bool.{and_parts, and_from, eqb-true}
use Rattle.std.proofs.lemmas.List.Elements.{recursion_from_All}
use Rattle.std.proofs.lemmas.List.Folds.{Any-from_list_any, list_any-from_Any}
use Rattle.serde_json.specs.Data.{Data}
use Rattle.desk_io.specs.declared.rows.Row.{Row}
use Rattle.desk_time.specs.Digits.{◌>>=◌}
use Rattle.release_json.specs.declared.version.Version.{Version}
use Rattle.release_json.specs.declared.version.Version.TheVariants.{First, Second}
use Rattle.records.specs.Kinds.{kind_of}
use Rattle.records.specs.Bodies.{body_data, row_in, row_of}
use Rattle.records.specs.Reading.{IsOldMeta, is_old_meta, are_old, found_in, if_has, record_of, record_with}
use Rattle.records.specs.Valid.{IsMeta, IsRecord}
use Rattle.records.specs.declared.record.Meta.{Meta as MetaOf}
use Rattle.records.specs.declared.record.Record.{Record}
use Rattle.records.specs.declared.record.Record.TheVariants.{Meta, Report, Deferral, Release, Kept, Alert}
use Rattle.records.proofs.AgainRows.{not_first}
use Rattle.records.proofs.RowLaws.{Has, body_again, record_read, some_has_row}

-- ---- one row

no_meta : (row : Row) (r : Record) → row_in First r ≡ row → row.kind ≡ 0 → (kind_of r == 0) ≡ false → ⊥
unfolding row_in
no_meta row r has at other =
    let same : (kind_of r == 0) ≡ true = ap (λ (x : Row). x.kind == 0) has ∙ ap (λ (n : ℕ). n == 0) at in
    let no : true ≡ false = sym same ∙ other in
    absurd (cc)

meta_by : (row : Row) (r : Record) → Has First row r → row.kind ≡ 0 → IsOldMeta row
unfolding IsRecord
meta_by row (Meta m) has at = (m, has.0, has.2)
meta_by row (Report r) has at = absurd (no_meta row (Report r) has.2 at refl)
meta_by row (Deferral d) has at = absurd (no_meta row (Deferral d) has.2 at refl)
meta_by row (Release r) has at = absurd (no_meta row (Release r) has.2 at refl)
meta_by row (Kept k) has at = absurd (no_meta row (Kept k) has.2 at refl)
meta_by row (Alert a) has at = absurd (no_meta row (Alert a) has.2 at refl)

found_meta : (row : Row) (o : Option Record) → record_with First row ≡ o → is_some o ≡ true → row.kind ≡ 0 → IsOldMeta row
found_meta row None is some at = absurd (cc some)
found_meta row (Some r) is some at = meta_by row r (some_has_row First row (record_with First row) r refl is) at

is_meta_row : (row : Row) → is_old_meta row ≡ true → IsOldMeta row
unfolding is_old_meta
is_meta_row row is =
    let parts = and_parts (row.kind == 0) (is_some (record_with First row)) is in
    found_meta row (record_with First row) refl parts.1 (eqb-true row.kind 0 parts.0)

meta_record : (m : MetaOf) → IsMeta m → IsRecord (Meta m)
unfolding IsRecord
meta_record m is = is

meta_kind : (version : Version) (m : MetaOf) → ((row_in version (Meta m)).kind == 0) ≡ true
unfolding row_in
meta_kind version m = refl

old_row : (m : MetaOf) → IsMeta m → is_old_meta (row_in First (Meta m)) ≡ true
unfolding is_old_meta
old_row m is =
    let row = row_in First (Meta m) in
    and_from (row.kind == 0) (is_some (record_with First row)) (meta_kind First m) (ap is_some (record_read First (Meta m) (meta_record m is) tt))

is_tested : (row : Row) → IsOldMeta row → is_old_meta row ≡ true
is_tested row is = subst (λ (x : Row). is_old_meta x ≡ true) is.2 (old_row is.0 is.1)

-- the test tells whether a row is that of the counters in the first version
pub old_meta_tested : (row : Row) → (is_old_meta row ≡ true) ↔ IsOldMeta row
old_meta_tested row = (is_meta_row row, is_tested row)

-- ---- rows

any_each : (P Q : Row → Type 0) → ((row : Row) → P row → Q row) → (rows : List Row) → Any P rows → Any Q rows
any_each P Q f rows any = (any.0, any.1, any.2, any.3, f any.1 any.4)

-- rows are of the first version exactly where one of them is that of the counters in it
pub old_tested : (rows : List Row) → (are_old rows ≡ true) ↔ Any IsOldMeta rows
old_tested rows = (
  λ is. any_each (λ row. is_old_meta row ≡ true) IsOldMeta is_meta_row rows (Any-from_list_any is_old_meta rows is),
  λ any. list_any-from_Any is_old_meta rows (any_each IsOldMeta (λ row. is_old_meta row ≡ true) is_tested rows any),
)

pub old_is_tested : (rows : List Row) (old : Bool) → old ≡ are_old rows → (old ≡ true) ↔ Any IsOldMeta rows
old_is_tested rows old is = subst (λ (b : Bool). (b ≡ true) ↔ Any IsOldMeta rows) (sym is) (old_tested rows)

-- ---- rows of valid records

none_first : (m : MetaOf) → IsMeta m → record_of First 0 0 (body_data Second (Meta m)) ≡ None
unfolding record_of body_data
none_first m is = ap (λ (o : Option MetaOf). option_map Meta o) (not_first m is)

none_found : (m : MetaOf) → IsMeta m → found_in First (row_in Second (Meta m)) ≡ None
unfolding found_in row_in
none_found m is = ap (λ (o : Option Data). o >>= record_of First 0 0) (body_again Second (Meta m) (meta_record m is)) ∙ none_first m is

none_read : (m : MetaOf) → IsMeta m → record_with First (row_in Second (Meta m)) ≡ None
unfolding record_with
none_read m is = ap (λ (o : Option Record). o >>= if_has First (row_in Second (Meta m))) (none_found m is)

both_false : (a b : Bool) → b ≡ false → (a && b) ≡ false
both_false true b e = e
both_false false b e = refl

new_meta : (m : MetaOf) → IsMeta m → is_old_meta (row_in Second (Meta m)) ≡ false
unfolding is_old_meta
new_meta m is =
    let row = row_in Second (Meta m) in
    both_false (row.kind == 0) (is_some (record_with First row)) (ap is_some (none_read m is))

other_row : (r : Record) → (kind_of r == 0) ≡ false → is_old_meta (row_of r) ≡ false
unfolding is_old_meta row_in
other_row r other = rw other refl

-- the row of a record as it is written isn't that of the counters in the first version
new_row : (r : Record) → IsRecord r → is_old_meta (row_of r) ≡ false
unfolding IsRecord
new_row (Meta m) is = new_meta m is
new_row (Report r) is = other_row (Report r) refl
new_row (Deferral d) is = other_row (Deferral d) refl
new_row (Release r) is = other_row (Release r) refl
new_row (Kept k) is = other_row (Kept k) refl
new_row (Alert a) is = other_row (Alert a) refl

none_old : (rs : List Record) → AllByRecursion IsRecord rs → are_old (map row_of rs) ≡ false
none_old [] all = refl
none_old (r ∷ rs) all = rw (new_row r all.0) (none_old rs all.1)

-- rows as they are written are of the second version
pub new_rows : (rs : List Record) → All IsRecord rs → are_old (map row_of rs) ≡ false
new_rows rs all = none_old rs (recursion_from_All IsRecord rs all)

-- rows of the first version are, where the counters are among them
pub old_rows : (m : MetaOf) (rs : List Record) → IsRecord (Meta m) → are_old (row_in First (Meta m) ∷ map (row_in First) rs) ≡ true
unfolding IsRecord
old_rows m rs is = rw (old_row m is) refl
