-- A row is read as the valid record that has it.
use Rattle.std.proofs.Common.{◌≡◌, Bool, true, false, ◌&&◌, Option, None, Some, IfSome, refl, sym, ap, ◌∙◌, subst, arith, length, eq-eqb}
use Rattle.std.specs.Prelude.{◌==◌, if◌then◌else◌}
use Rattle.std.specs.Str.{bytes_eq}
use Rattle.std.proofs.lemmas.Bool.{and_parts, eqb-true}
use Rattle.std.proofs.lemmas.Slice.Eq.{bytes_eq-Decides}
use Rattle.std.proofs.lemmas.Str.{utf8_valid_len-IsUtf8}
use Rattle.serde_json.specs.Written.{compact_text}
use Rattle.desk_io.specs.declared.rows.Row.{Row}
use Rattle.desk_time.specs.Digits.{◌>>=◌}
use Rattle.desk_time.proofs.Chains.{bind_if, bind_any, both_held}
use Rattle.asks.specs.Fields.{data_of}
use Rattle.asks.proofs.Compact.{read_compact, utf8_compact}
use Rattle.release_json.proofs.ReleaseForms.{moments_formed}
use Rattle.records.specs.Kinds.{kind_of, key_of}
use Rattle.release_json.specs.declared.version.Version.{Version}
use Rattle.records.specs.Bodies.{body_data, row_in, HasMoments}
use Rattle.records.specs.Reading as spec
use Rattle.records.specs.Valid.{IsRecord, SaysRecord}
use Rattle.records.specs.declared.record.Record.{Record}
use Rattle.records.specs.declared.record.Record.TheVariants.{Meta, Report, Deferral, Release, Kept, Alert}
use Rattle.records.proofs.AgainRows.{record_again}
use Rattle.records.proofs.Formed.{record_formed, record_said}
use Rattle.records.proofs.PlainRows.{body_plain, body_has_text, body_depth}
use Rattle.std.proofs.lemmas.Option.{IfSome_then}

-- the moments of a valid record can be shown
pub valid_moments : (r : Record) → IsRecord r → HasMoments r
unfolding IsRecord
valid_moments (Meta m) is = is.moment
valid_moments (Report r) is = is.received
valid_moments (Deferral d) is = is.found
valid_moments (Release r) is = moments_formed r is.1.formed
valid_moments (Kept k) is = is.at
valid_moments (Alert a) is = is.opened

-- the body of a valid record is JSON
pub body_again : (version : Version) (r : Record) → IsRecord r → data_of (compact_text (body_data version r)) ≡ Some (body_data version r)
body_again version r is =
    rw (utf8_valid_len-IsUtf8 (compact_text (body_data version r)) (utf8_compact (body_data version r) (body_plain version r is) (body_has_text version r is)), eq-eqb (length (compact_text (body_data version r))) (length (compact_text (body_data version r))) refl)
    (read_compact (body_data version r) (body_plain version r is) (let few = body_depth version r is in omega (arith, few)))

-- a valid record is found in its row
found_again : (version : Version) (r : Record) → IsRecord r → SaysRecord version r → spec.found_in version (row_in version r) ≡ Some r
unfolding row_in spec.found_in
found_again version r is said = ap (λ o. o >>= spec.record_of version (kind_of r) (key_of r)) (body_again version r is) ∙ record_again version r is said

pub found_valid : (version : Version) (row : Row) → IfSome (spec.found_in version row) IsRecord
unfolding spec.found_in
found_valid version row = bind_any (data_of row.body) (spec.record_of version row.kind row.key) IsRecord (record_formed version row.kind row.key)

found_said : (version : Version) (row : Row) → IfSome (spec.found_in version row) (SaysRecord version)
unfolding spec.found_in
found_said version row = bind_any (data_of row.body) (spec.record_of version row.kind row.key) (SaysRecord version) (record_said version row.kind row.key)

-- what is found can be shown
pub found_moments : (version : Version) (row : Row) (found : Option Record) → found ≡ spec.found_in version row → IfSome found HasMoments
found_moments version row found is = subst (λ o. IfSome o HasMoments) (sym is) (IfSome_then (spec.found_in version row) (found_valid version row) valid_moments)

-- ---- rows that are the same

row_from_test : (one two : Row) → spec.is_same_row one two ≡ true → one ≡ two
row_from_test one two is =
    let parts = and_parts ((one.kind == two.kind) && (one.key == two.key)) (bytes_eq one.body two.body) is in
    let numbers = and_parts (one.kind == two.kind) (one.key == two.key) parts.0 in
    let kind = eqb-true one.kind two.kind numbers.0 in
    let key = eqb-true one.key two.key numbers.1 in
    let body = (bytes_eq-Decides one.body two.body).0 parts.1 in
    λ i. record { kind = kind i; key = key i; body = body i }

row_itself : (row : Row) → spec.is_same_row row row ≡ true
row_itself row = rw (eq-eqb row.kind row.kind refl, eq-eqb row.key row.key refl, (bytes_eq-Decides row.body row.body).1 refl) refl

-- ---- the record of a row

-- a valid record that rows of the version say whole, and whose row it is
abbrev pub Has : Version → Row → Record → Type 0
Has version row r = IsRecord r × SaysRecord version r × (row_in version r ≡ row)

if_same : (version : Version) (row : Row) (r : Record) → IsRecord r × SaysRecord version r → IfSome (spec.if_has version row r) (Has version row)
if_same version row r valid = by (spec.is_same_row (row_in version r) row) refl
  where
    by : (b : Bool) → spec.is_same_row (row_in version r) row ≡ b → IfSome (if b then Some r else None) (Has version row)
    by true is = (valid.0, valid.1, row_from_test (row_in version r) row is)
    by false is = tt

-- what is read is valid, and has the row
pub read_has_row : (version : Version) (row : Row) → IfSome (spec.record_with version row) (Has version row)
unfolding spec.record_with
read_has_row version row =
    bind_if (spec.found_in version row) (spec.if_has version row) (λ r. IsRecord r × SaysRecord version r) (Has version row)
    (both_held (spec.found_in version row) IsRecord (SaysRecord version) (found_valid version row) (found_said version row)) (if_same version row)

-- a valid record is read of its row
pub record_read : (version : Version) (r : Record) → IsRecord r → SaysRecord version r → spec.record_with version (row_in version r) ≡ Some r
unfolding spec.record_with
record_read version r is said = ap (λ o. o >>= spec.if_has version (row_in version r)) (found_again version r is said) ∙ rw (row_itself (row_in version r)) refl

-- what was read in code is valid, and has the row
pub some_has_row : (version : Version) (row : Row) (found : Option Record) (r : Record) → found ≡ spec.record_with version row → found ≡ Some r → Has version row r
some_has_row version row found r is some = subst (λ o. IfSome o (Has version row)) (sym is ∙ some) (read_has_row version row)

-- a row of which nothing was read is no valid record's
pub none_has_row : (version : Version) (row : Row) (found : Option Record) → found ≡ spec.record_with version row → found ≡ None → (r : Record) → IsRecord r → SaysRecord version r → row_in version r ≡ row → ⊥
none_has_row version row found is none r valid said has = let read_it = ap (spec.record_with version) (sym has) ∙ record_read version r valid said in cc

-- what was read is the valid record that has the row
pub some_again : (version : Version) (row : Row) (found : Option Record) (x : Record) → found ≡ spec.record_with version row → found ≡ Some x → (r : Record) → IsRecord r → SaysRecord version r → row_in version r ≡ row → x ≡ r
some_again version row found x is some r valid said has = let read_it = ap (spec.record_with version) (sym has) ∙ record_read version r valid said in cc
