-- Rows that are the same are those of the same records.
use Rattle.std.proofs.Common.{◌≡◌, ◌⊎◌, inl, inr, Bool, true, ◌&&◌, List, [], ◌∷◌, map, Some, refl, sym, ap, ◌∙◌, subst}
use Rattle.std.specs.Prelude.{IsTrue}
use Rattle.std.specs.List.{AllByRecursion}
use Rattle.std.proofs.lemmas.List.Elements.{All-from_recursion, recursion_from_All}
use Rattle.desk_io.specs.Rows.{Rows, rows_of}
use Rattle.desk_io.specs.declared.rows.Row.{Row}
use Rattle.keeper.specs.Kept.{AreSame, Lists}
use Rattle.keeper.specs.Order as order
use Rattle.row_changes.specs.Rows.{AreKept, AreOldRows, alert_kept, meta_of, records_of, report_kept, state_rows}
use Rattle.row_changes.proofs.Rising as rising_rows
use Rattle.row_changes.proofs.Together.{all_records}
use Rattle.desk_state.specs.State.{State, start}
use Rattle.release_json.specs.Versions.{HasNoHours}
use Rattle.release_json.specs.declared.version.Version.{Version}
use Rattle.release_json.specs.declared.version.Version.TheVariants.{First, Second}
use Rattle.records.specs.Bodies.{row_in, row_of}
use Rattle.records.specs.Checks.{AreRowsOf, IsDesk}
use Rattle.records.specs.Reading.{are_old, record_with, version_if, version_of}
use Rattle.records.specs.Valid.{IsRecord, SaysRecord}
use Rattle.records.specs.declared.record.Meta.{Meta as MetaOf}
use Rattle.records.specs.declared.record.Record.{Record}
use Rattle.records.specs.declared.record.Record.TheVariants as record_of
use Rattle.records.proofs.RowLaws.{record_read}
use Rattle.records.proofs.VersionLaws.{new_rows, old_rows}
use Rattle.row_changes.specs.Held.{AreOfDesk, comes_before, rises_from, rising}

-- two lists of rows in order that say the same are the same list
pub same_list : (xs ys : List Row) → IsTrue (order.rising xs) → IsTrue (order.rising ys) → AreSame (rows_of xs) (rows_of ys) → xs ≡ ys
same_list xs ys low high same = rising_rows.same_list xs ys low high same

-- valid records that have one row in a version are one
pub one_record : (version : Version) (a b : Record) → IsRecord a → SaysRecord version a → IsRecord b → SaysRecord version b → row_in version a ≡ row_in version b → a ≡ b
one_record version a b one says two said same = let reads = sym (record_read version a one says) ∙ ap (record_with version) same ∙ record_read version b two said in cc

each_one : (version : Version) (xs ys : List Record) → AllByRecursion IsRecord xs → AllByRecursion (SaysRecord version) xs → AllByRecursion IsRecord ys → AllByRecursion (SaysRecord version) ys
    → map (row_in version) xs ≡ map (row_in version) ys → xs ≡ ys
each_one version [] [] one says two said same = refl
each_one version [] (y ∷ ys) one says two said same = absurd cc
each_one version (x ∷ xs) [] one says two said same = absurd cc
each_one version (x ∷ xs) (y ∷ ys) one says two said same =
    let first = one_record version x y one.0 says.0 two.0 said.0 (cc) in
    let rest = each_one version xs ys one.1 says.1 two.1 said.1 (cc) in
    λ i. first i ∷ rest i

-- lists of valid records that have the same rows in a version are one list
pub one_list : (version : Version) (rows : List Row) (xs ys : List Record) → AreRowsOf version rows xs → AreRowsOf version rows ys → xs ≡ ys
one_list version rows xs ys one two =
    each_one version xs ys (recursion_from_All IsRecord xs one.valid) (recursion_from_All (SaysRecord version) xs one.said) (recursion_from_All IsRecord ys two.valid)
    (recursion_from_All (SaysRecord version) ys two.said) (one.made ∙ sym two.made)

-- the records of a desk are those of its rows
pub desk_records : (version : Version) (rows : List Row) (rs records : List Record) → version_of rows ≡ version → AreRowsOf version rows rs → IsDesk rows records → records ≡ rs
desk_records version rows rs records named are is = one_list version rows records rs (subst (λ v. AreRowsOf v rows records) named is.are) are

rise_from : (version : Version) (r : Record) (rs : List Record) → order.rises_from (row_in version r) (map (row_in version) rs) ≡ rises_from r rs
unfolding row_in
rise_from version r [] = refl
rise_from version r (next ∷ rs) = ap (λ (rest : Bool). comes_before r next && rest) (rise_from version next rs)

-- rows stand in order as their records do
pub rise_as : (version : Version) (rs : List Record) → order.rising (map (row_in version) rs) ≡ rising rs
rise_as version [] = refl
rise_as version (r ∷ rs) = rise_from version r rs

-- A list of the rows that are kept for a state is that of its records, or is empty at the beginning.
pub listed_as : (s : State) (told : Rows) (rows : List Row) → AreOfDesk (records_of s) → AreKept told s → Lists (Some told) rows → IsTrue (order.rising rows)
    → (rows ≡ map row_of (records_of s)) ⊎ ((rows ≡ []) × (s ≡ start s.tables))
unfolding state_rows
listed_as s told rows desk (inl own) listed up =
    inl (same_list rows (map row_of (records_of s)) up (rise_as Second (records_of s) ∙ desk.order) (λ kind key. listed kind key ∙ own kind key))
listed_as s told rows desk (inr none) listed up = inr (same_list rows [] up refl (λ kind key. listed kind key ∙ none.0 kind key), none.1)

-- a list of a state's rows in the first version is that of its records
pub listed_old : (s : State) (told : Rows) (rows : List Row) → AreOfDesk (records_of s) → AreOldRows told s → Lists (Some told) rows → IsTrue (order.rising rows) → rows ≡ map (row_in First) (records_of s)
listed_old s told rows desk old listed up =
    same_list rows (map (row_in First) (records_of s)) up (rise_as First (records_of s) ∙ desk.order) (λ kind key. listed kind key ∙ old.same kind key)

-- ---- in which version rows are those of a desk

-- rows of valid records that fit together, in the version of the rows
pub record AreRowsIn (version : Version) (rows : List Row) (rs : List Record) : Type 0 where
  pub named : version_of rows ≡ version
  pub are : AreRowsOf version rows rs

each_of : {A : Type 0} (P : A → Type 0) → ((x : A) → P x) → (xs : List A) → AllByRecursion P xs
each_of P has [] = tt
each_of P has (x ∷ xs) = (has x, each_of P has xs)

pub second_rows : (rs : List Record) → AreOfDesk rs → AreRowsIn Second (map row_of rs) rs
second_rows rs desk = record {
  named = ap version_if (new_rows rs desk.valid);
  are = record { valid = desk.valid; said = All-from_recursion (SaysRecord Second) rs (each_of (SaysRecord Second) (λ r. tt) rs); made = refl };
}

-- rows of the first version say all of a state without hours
first_said : (s : State) → AllByRecursion HasNoHours s.releases → AllByRecursion (SaysRecord First) (records_of s)
first_said s lacks =
    all_records (SaysRecord First) s tt (each_of (λ r. SaysRecord First (record_of.Report (report_kept r))) (λ r. tt) s.reports)
    (each_of (λ d. SaysRecord First (record_of.Deferral d)) (λ d. tt) s.deferrals) lacks
    (each_of (λ k. SaysRecord First (record_of.Kept k)) (λ k. tt) s.kept)
    (each_of (λ a. SaysRecord First (record_of.Alert (alert_kept a))) (λ a. tt) s.alerts)

-- the row of the counters is among the rows of a state
old_by : (rs : List Record) (m : MetaOf) (rest : List Record) → rs ≡ record_of.Meta m ∷ rest → AllByRecursion IsRecord rs → are_old (map (row_in First) rs) ≡ true
old_by rs m rest is valid =
    let valid_meta = (subst (AllByRecursion IsRecord) is valid).0 in
    subst (λ (xs : List Record). are_old (map (row_in First) xs) ≡ true) (sym is) (old_rows m rest valid_meta)

old_there : (s : State) → AreOfDesk (records_of s) → are_old (map (row_in First) (records_of s)) ≡ true
unfolding records_of
old_there s desk = old_by (records_of s) (meta_of s) _ refl (recursion_from_All IsRecord (records_of s) desk.valid)

-- the rows of a state without hours, in the first version
pub first_rows : (s : State) → AreOfDesk (records_of s) → AllByRecursion HasNoHours s.releases → AreRowsIn First (map (row_in First) (records_of s)) (records_of s)
first_rows s desk lacks = record {
  named = ap version_if (old_there s desk);
  are = record { valid = desk.valid; said = All-from_recursion (SaysRecord First) (records_of s) (first_said s lacks); made = refl };
}
