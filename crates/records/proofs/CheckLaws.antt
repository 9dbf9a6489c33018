-- Rows that are checked, and the rows that a fault names.
use Rattle.std.proofs.Common.{◌≡◌, ℕ, zero, suc, ◌+◌, ◌<◌, All, List, [], ◌∷◌, ◌++◌, length, map, take, drop, get_or, Option, None, Some, Result, Ok, Err, refl, sym, ap, ◌∙◌, subst, arith}
use Rattle.std.specs.List.{slice_get}
use Rattle.std.specs.Option.{option_map}
use Rattle.std.specs.Result.{MatchResult, IsErr, IsErrAnd}
use Rattle.std.proofs.lemmas.List.{take_more, map-append}
use Rattle.std.proofs.lemmas.List.Elements.{All-push}
use Rattle.desk_io.specs.declared.rows.Row.{Row}
use Rattle.desk_time.specs.Digits.{◌>>=◌}
use Rattle.release_json.specs.declared.version.Version.{Version}
use Rattle.records.specs.Bodies.{row_in}
use Rattle.records.specs.Checks.{AreRowsOf, HasNoRecord, IsBadPair, IsBadRow, IsFaultOf, OrMemory, Names, IsUnread, IsReadOf}
use Rattle.records.specs.Faults.{fit, has_meta, within_limits, have_releases, agree, are_counted, lacks_meta, first_after, is_over, place_of, is_orphan, pair_after, is_bad_pair, ahead_of, meta_from, bad, pair, ◌>>◌}
use Rattle.records.specs.Reading.{version_of}
use Rattle.records.specs.Valid.{IsRecord, SaysRecord}
use Rattle.records.specs.declared.faults.Fault.{Fault}
use Rattle.records.specs.declared.faults.Fault.TheVariants.{Bad, Pair}
use Rattle.records.specs.declared.faults.RowWhy.{RowWhy}
use Rattle.records.specs.declared.faults.RowWhy.TheVariants.{NotCanonical, NoMeta, Orphan, OverLimit}
use Rattle.records.specs.declared.faults.RowsFault.{RowsFault}
use Rattle.records.specs.declared.faults.RowsFault.TheVariants.{BadRow, BadPair, OutOfMemory}
use Rattle.records.specs.declared.record.Record.{Record}

-- ---- one row

pub unread : (version : Version) (row : Row) (answer : RowsFault) → OrMemory (BadRow row NotCanonical) answer → HasNoRecord version row → IsUnread version row answer
unread version row (BadRow r why) is none = record { same = cc; reason = cc; none = none }
unread version row (BadPair one two) is none = cc
unread version row OutOfMemory is none = tt

-- ---- the tests that fail name no other reason

other_reason : (why : RowWhy) (o : Option ℕ) (place : ℕ) → (why ≡ NotCanonical → ⊥) → bad why o ≡ Err (Bad place NotCanonical) → ⊥
other_reason why None place other is = cc
other_reason why (Some at) place other is = other cc

no_pair : (o : Option (ℕ × ℕ)) (place : ℕ) → pair o ≡ Err (Bad place NotCanonical) → ⊥
no_pair None place is = cc
no_pair (Some places) place is = cc

either_fails : (one two : Result (Unit {0}) Fault) (fault : Fault) → (one ≡ Err fault → ⊥) → (two ≡ Err fault → ⊥) → one >> two ≡ Err fault → ⊥
either_fails (Ok done) two fault first later is = later is
either_fails (Err other) two fault first later is = first is

never_unread : (rs : List Record) (place : ℕ) → fit rs ≡ Err (Bad place NotCanonical) → ⊥
unfolding fit
never_unread rs place is =
    either_fails (has_meta rs) _ _ (other_reason NoMeta (lacks_meta rs) place (λ e. cc))
    (either_fails (within_limits rs) _ _ (other_reason OverLimit (first_after is_over [] rs) place (λ e. cc))
    (either_fails (have_releases rs) _ _ (other_reason Orphan (place_of (is_orphan rs) rs) place (λ e. cc))
    (either_fails (agree rs) (are_counted rs) _ (no_pair (pair_after is_bad_pair [] rs) place) (no_pair (ahead_of rs (meta_from 0 rs)) place)))) is

-- ---- the rows at the places of a fault

misfit_row : (rows : List Row) (records : List Record) (place : ℕ) (why : RowWhy) (row : Row) → AreRowsOf (version_of rows) rows records → fit records ≡ Err (Bad place why) → slice_get rows place ≡ Some row → IsBadRow rows row why
misfit_row rows records place NotCanonical row are fails there = absurd (never_unread records place fails)
misfit_row rows records place NoMeta row are fails there = record { place = place; there = there; misfit = record { records = records; are = are; fails = fails } }
misfit_row rows records place Orphan row are fails there = record { place = place; there = there; misfit = record { records = records; are = are; fails = fails } }
misfit_row rows records place OverLimit row are fails there = record { place = place; there = there; misfit = record { records = records; are = are; fails = fails } }

answered_row : (rows : List Row) (row : Row) (why : RowWhy) (answer : RowsFault) → IsBadRow rows row why → OrMemory (BadRow row why) answer → IsFaultOf rows answer
answered_row rows row why (BadRow r w) is same = subst (IsFaultOf rows) (sym same) is
answered_row rows row why (BadPair one two) is same = cc
answered_row rows row why OutOfMemory is same = tt

answered_pair : (rows : List Row) (one two : Row) (answer : RowsFault) → IsBadPair rows one two → OrMemory (BadPair one two) answer → IsFaultOf rows answer
answered_pair rows one two (BadRow r w) is same = cc
answered_pair rows one two (BadPair a b) is same = subst (IsFaultOf rows) (sym same) is
answered_pair rows one two OutOfMemory is same = tt

at_place : (rows : List Row) (records : List Record) (place : ℕ) (why : RowWhy) (wanted answer : RowsFault) (o : Option Row) → slice_get rows place ≡ o → AreRowsOf (version_of rows) rows records → fit records ≡ Err (Bad place why)
    → option_map (λ row. BadRow row why) o ≡ Some wanted → OrMemory wanted answer → IsFaultOf rows answer
at_place rows records place why wanted answer None there are fails is answered = cc
at_place rows records place why wanted answer (Some row) there are fails is answered =
    let same : wanted ≡ BadRow row why = cc in
    answered_row rows row why answer (misfit_row rows records place why row are fails there) (subst (λ w. OrMemory w answer) same answered)

at_places : (rows : List Row) (records : List Record) (first second : ℕ) (wanted answer : RowsFault) (o p : Option Row) → slice_get rows first ≡ o → slice_get rows second ≡ p → AreRowsOf (version_of rows) rows records
    → fit records ≡ Err (Pair first second) → (o >>= λ one. p >>= λ two. Some (BadPair one two)) ≡ Some wanted → OrMemory wanted answer → IsFaultOf rows answer
at_places rows records first second wanted answer None p there_one there_two are fails is answered = cc
at_places rows records first second wanted answer (Some one) None there_one there_two are fails is answered = cc
at_places rows records first second wanted answer (Some one) (Some two) there_one there_two are fails is answered =
    let same : wanted ≡ BadPair one two = cc in
    answered_pair rows one two answer
    (record { first = first; second = second; first_row = there_one; second_row = there_two; misfit = record { records = records; are = are; fails = fails } })
    (subst (λ w. OrMemory w answer) same answered)

-- the fault of records that don't fit, with the rows at its places
pub misfit_fault : (rows : List Row) (records : List Record) (fault : Fault) (answer : RowsFault) → AreRowsOf (version_of rows) rows records → fit records ≡ Err fault → Names rows fault answer → IsFaultOf rows answer
misfit_fault rows records (Bad place why) answer are fails names =
    at_place rows records place why names.wanted answer (slice_get rows place) refl are fails names.named names.answered
misfit_fault rows records (Pair first second) answer are fails names =
    at_places rows records first second names.wanted answer (slice_get rows first) (slice_get rows second) refl refl are fails names.named names.answered

get_there : (rows : List Row) (place : ℕ) (row : Row) → place < length rows → row ≡ get_or rows place row → slice_get rows place ≡ Some row
get_there [] place row within is = absurd (omega arith)
get_there (r ∷ rs) zero row within is = ap Some (sym is)
get_there (r ∷ rs) (suc place) row within is = get_there rs place row (omega arith) is

pub row_named : (rows : List Row) (place : ℕ) (why : RowWhy) (row : Row) (answer : RowsFault) → place < length rows → row ≡ get_or rows place row → OrMemory (BadRow row why) answer → Names rows (Bad place why) answer
row_named rows place why row answer within is answered = record { wanted = BadRow row why; named = rw (get_there rows place row within is) refl; answered = answered }

pub pair_named : (rows : List Row) (first second : ℕ) (one two : Row) (answer : RowsFault) → first < length rows → second < length rows → one ≡ get_or rows first one → two ≡ get_or rows second two
    → OrMemory (BadPair one two) answer → Names rows (Pair first second) answer
pair_named rows first second one two answer within_one within_two is_one is_two answered =
    record { wanted = BadPair one two; named = rw (get_there rows first one within_one is_one, get_there rows second two within_two is_two) refl; answered = answered }

-- ---- rows in a loop

cut_at : (rows : List Row) (i : ℕ) (row : Row) → i < length rows → row ≡ get_or rows i row → rows ≡ take i rows ++ row ∷ drop (suc i) rows
cut_at [] i row within is = absurd (omega arith)
cut_at (r ∷ rs) zero row within is = ap (λ x. x ∷ rs) (sym is)
cut_at (r ∷ rs) (suc i) row within is = ap (λ xs. r ∷ xs) (cut_at rs i row (omega arith) is)

-- the first row that no valid record has in the version of the rows
stops_at : (rows : List Row) (records : List Record) (i : ℕ) (row : Row) (answer : RowsFault) → AreRowsOf (version_of rows) (take i rows) records → i < length rows → row ≡ get_or rows i row
    → IsUnread (version_of rows) row answer → IsFaultOf rows answer
stops_at rows records i row (BadRow r why) are within is un =
    subst (λ w. IsBadRow rows r w) (sym un.reason)
    (record {
      before = take i rows;
      after = drop (suc i) rows;
      stands = cut_at rows i r within (un.same ∙ is ∙ ap (get_or rows i) (sym un.same));
      records = records;
      good = are;
      bad = λ x valid said has. un.none x valid said (has ∙ un.same);
    })
stops_at rows records i row (BadPair one two) are within is un = absurd un
stops_at rows records i row OutOfMemory are within is un = tt

pub stops_in : (version : Version) (rows : List Row) (records : List Record) (i : ℕ) (row : Row) (answer : RowsFault) → version ≡ version_of rows → AreRowsOf version (take i rows) records → i < length rows
    → row ≡ get_or rows i row → IsUnread version row answer → IsFaultOf rows answer
stops_in version rows records i row answer same are within is un =
    stops_at rows records i row answer (subst (λ w. AreRowsOf w (take i rows) records) same are) within is (subst (λ w. IsUnread w row answer) same un)

-- one more row is read
pub goes_on : (version : Version) (rows : List Row) (records made : List Record) (i : ℕ) (row : Row) (r : Record) → AreRowsOf version (take i rows) records → i < length rows → row ≡ get_or rows i row
    → IsReadOf version row r → made ≡ records ++ r ∷ [] → AreRowsOf version (take (i + 1) rows) made
goes_on version rows records made i row r are within is read more = record {
  valid = subst (All IsRecord) (sym more) (All-push IsRecord records r are.valid read.valid);
  said = subst (All (SaysRecord version)) (sym more) (All-push (SaysRecord version) records r are.said read.said);
  made = ap (map (row_in version)) more ∙ map-append (row_in version) records (r ∷ []) ∙ ap (λ xs. xs ++ row_in version r ∷ []) are.made ∙ ap (λ x. take i rows ++ x ∷ []) (read.has ∙ is) ∙ sym (take_more rows i row within);
}

-- a fault that is passed on
pub passed_on : {T : Type 0} (r : Result T RowsFault) (fault : RowsFault) (P : T → Type 0) (Q : RowsFault → Type 0) → IsErr r → IsErrAnd r (λ e. e ≡ fault) → Q fault → MatchResult r P Q
passed_on (Ok t) fault P Q fails is held = cc
passed_on (Err e) fault P Q fails is held = subst Q (sym is) held
