-- What a file gives is what its records say.
use Rattle.std.proofs.Common.{◌≡◌, ◌∙◌, sym, ap, refl, subst, ℕ, ◌≤◌, length, List, [], ◌∷◌, Bool, true, false, Result, Ok, Err, MatchResult, cond, bytes_eq}
use Rattle.desk_io.specs.Reads.{ReadsTo}
use Rattle.desk_io.specs.Told.{OnSource}
use Rattle.desk_io.specs.declared.source_read.SourceRead.{SourceRead}
use Rattle.std.proofs.lemmas.Bool.{and_parts}
use Rattle.std.proofs.lemmas.Slice.Eq.{bytes_eq-Decides}
use Rattle.ops_tables.specs.Tables.{TableRows}
use Rattle.ops_tables.specs.Keys.{is_same_airport, is_same_approach, is_same_alternate, is_same_type, is_same_tail, is_same_use, is_same_distance, is_same_route, is_same_item, is_same_pair, is_same_actor, is_same_hours}
use Rattle.table_files.specs.Files.{airports, approaches, alternates, types, tails, uses, distances, routes, mel, pairs, actors, hours, name_of, with_file}
use Rattle.table_files.specs.Filling.{Gives}
use Rattle.table_files.specs.Good.{AreRowsOf, IsFirstBad, AreSettings, IsFirstBadSetting, UnderHeader, IsBadUnder, no_header, under_header as bad_below, Exactly, SaysTable, SaysSettings, SaysFile}
use Rattle.table_files.specs.Reading.{Table, are_same, under_header, bad_header, rows_after, placed, with_table}
use Rattle.table_files.specs.Settings.{settings, settings_columns, settings_from, values_after}
use Rattle.table_files.specs.Whole.{Told, FileGives}
use Rattle.table_files.specs.declared.faults.BadRecord.{BadRecord}
use Rattle.table_files.specs.declared.files.File.{File}
use Rattle.table_files.specs.declared.files.File.TheVariants as file
use Rattle.table_files.proofs.GoodRows.{comes, if_rows, if_bad}
use Rattle.table_files.proofs.GoodSettings.{settings_come, if_settings, if_bad_settings}

exactly : {A E : Type 0} (IsGood : A → Type 0) (IsBad : E → Type 0) (made : Result A E) → MatchResult made IsGood IsBad
    → ((a : A) → IsGood a → made ≡ Ok a) → ((e : E) → IsBad e → made ≡ Err e) → Exactly IsGood IsBad made
exactly {A} {E} IsGood IsBad (Ok x) is if_good if_bad = record {
  good = λ a. (if_good a, λ e. subst IsGood (let same : x ≡ a = cc in same) is);
  bad = λ e. (if_bad e, λ (h : Ok x ≡ Err e). absurd cc);
}
exactly {A} {E} IsGood IsBad (Err x) is if_good if_bad = record {
  good = λ a. (if_good a, λ (h : Err x ≡ Ok a). absurd cc);
  bad = λ e. (if_bad e, λ h. subst IsBad (let same : x ≡ e = cc in same) is);
}

pub same_names : (fields names : List (List ℕ)) → are_same fields names ≡ true → fields ≡ names
same_names [] [] e = refl
same_names [] (name ∷ names) e = absurd cc
same_names (field ∷ fields) [] e = absurd cc
same_names (field ∷ fields) (name ∷ names) e =
    let both = and_parts (bytes_eq field name) (are_same fields names) e in
    ap (λ f. f ∷ fields) ((bytes_eq-Decides field name).0 both.0) ∙ ap (λ fs. name ∷ fs) (same_names fields names both.1)

pub names_same : (names : List (List ℕ)) → are_same names names ≡ true
names_same [] = refl
names_same (name ∷ names) = rw ((bytes_eq-Decides name name).1 refl) (names_same names)

module _ {A : Type 0} (columns : List (List ℕ)) (read : List (List (List ℕ)) → Result A BadRecord) (IsGood : List (List (List ℕ)) → A → Type 0) (IsBad : List (List (List ℕ)) → BadRecord → Type 0)
    (come : (below : List (List (List ℕ))) → MatchResult (read below) (IsGood below) (IsBad below))
    (if_good : (below : List (List (List ℕ))) (a : A) → IsGood below a → read below ≡ Ok a)
    (if_bad_one : (below : List (List (List ℕ))) (bad : BadRecord) → IsBad below bad → read below ≡ Err bad) where
  abbrev Comes : List (List (List ℕ)) → Result A BadRecord → Type 0
  Comes records made = MatchResult made (λ a. UnderHeader columns (λ below. IsGood below a) records) (IsBadUnder columns IsBad records)

  come_below : (below : List (List (List ℕ))) (made : Result A BadRecord) → MatchResult made (IsGood below) (IsBad below) → Comes (columns ∷ below) made
  come_below below (Ok a) is = record { below = below; order = refl; holds = is }
  come_below below (Err bad) is = bad_below (record { below = below; order = refl; holds = is })

  come_if : (header : List (List ℕ)) (below : List (List (List ℕ))) (b : Bool) → are_same header columns ≡ b → Comes (header ∷ below) (cond b (read below) bad_header)
  come_if header below true h = subst (λ hs. Comes (hs ∷ below) (read below)) (sym (same_names header columns h)) (come_below below (read below) (come below))
  come_if header below false h = no_header (λ u. apart u) refl
    where
      apart : UnderHeader columns (λ below. Unit {0}) (header ∷ below) → ⊥
      apart u =
          let order : header ∷ below ≡ columns ∷ u.below = u.order in
          let same : header ≡ columns = cc in
          let both = sym h ∙ ap (λ hs. are_same hs columns) same ∙ names_same columns in
          cc

  come_all : (records : List (List (List ℕ))) → Comes records (under_header columns read records)
  come_all [] = no_header (λ u. let order : [] ≡ columns ∷ u.below = u.order in cc) refl
  come_all (header ∷ below) = come_if header below (are_same header columns) refl

  headed : (below : List (List (List ℕ))) → under_header columns read (columns ∷ below) ≡ read below
  headed below = rw (names_same columns) refl

  unheaded : (records : List (List (List ℕ))) → (UnderHeader columns (λ below. Unit {0}) records → ⊥) → under_header columns read records ≡ bad_header
  unheaded [] none = refl
  unheaded (header ∷ below) none = by (are_same header columns) refl
    where
      by : (b : Bool) → are_same header columns ≡ b → under_header columns read (header ∷ below) ≡ bad_header
      by true h = absurd (none (record { below = below; order = ap (λ hs. hs ∷ below) (same_names header columns h); holds = tt }))
      by false h = rw h refl

  all_good : (records : List (List (List ℕ))) (a : A) → UnderHeader columns (λ below. IsGood below a) records → under_header columns read records ≡ Ok a
  all_good records a u = ap (under_header columns read) u.order ∙ headed u.below ∙ if_good u.below a u.holds

  one_bad : (records : List (List (List ℕ))) (bad : BadRecord) → IsBadUnder columns IsBad records bad → under_header columns read records ≡ Err bad
  one_bad records bad (no_header none is) = unheaded records none ∙ ap Err (sym is)
  one_bad records bad (bad_below u) = ap (under_header columns read) u.order ∙ headed u.below ∙ if_bad_one u.below bad u.holds

  placed_in : (with_rows : A → TableRows) (records : List (List (List ℕ))) (made : Result A BadRecord) → Comes records made
      → MatchResult (placed with_rows made) (λ after. (rows : A) × UnderHeader columns (λ below. IsGood below rows) records × (with_rows rows ≡ after)) (IsBadUnder columns IsBad records)
  placed_in with_rows records (Ok rows) is = (rows, is, refl)
  placed_in with_rows records (Err bad) is = is

  pub says : (with_rows : A → TableRows) (records : List (List (List ℕ)))
      → Exactly (λ after. (rows : A) × UnderHeader columns (λ below. IsGood below rows) records × (with_rows rows ≡ after)) (IsBadUnder columns IsBad records) (placed with_rows (under_header columns read records))
  says with_rows records =
      exactly (λ after. (rows : A) × UnderHeader columns (λ below. IsGood below rows) records × (with_rows rows ≡ after)) (IsBadUnder columns IsBad records)
      (placed with_rows (under_header columns read records)) (placed_in with_rows records (under_header columns read records) (come_all records))
      (λ after g. ap (placed with_rows) (all_good records g.0 g.1) ∙ ap Ok g.2) (λ bad b. ap (placed with_rows) (one_bad records bad b))

table_says : {R : Type 0} (same : R → R → Bool) (limit : ℕ) (table : Table R) (before : TableRows) (records : List (List (List ℕ))) → SaysTable same limit table before records (with_table same limit table before records)
table_says same limit table before records =
    says table.columns (rows_after same limit table before []) (AreRowsOf same limit table before) (IsFirstBad same limit table before)
    (comes same limit table before) (if_rows same limit table before) (if_bad same limit table before) (table.with_rows before) records

settings_say : (before : TableRows) (records : List (List (List ℕ))) → SaysSettings before records (with_file file.Settings before records)
settings_say before records =
    says settings_columns (λ under. settings_from (values_after [] settings under)) AreSettings (IsFirstBadSetting settings) settings_come if_settings if_bad_settings (λ made. record before { settings = made }) records

file_says : (f : File) (before : TableRows) (records : List (List (List ℕ))) → SaysFile f before records (with_file f before records)
file_says file.Settings before records = settings_say before records
file_says file.Airports before records = table_says is_same_airport 5000 airports before records
file_says file.Approaches before records = table_says is_same_approach 50000 approaches before records
file_says file.Alternates before records = table_says is_same_alternate 20000 alternates before records
file_says file.Types before records = table_says is_same_type 200 types before records
file_says file.Tails before records = table_says is_same_tail 5000 tails before records
file_says file.Uses before records = table_says is_same_use 200000 uses before records
file_says file.Distances before records = table_says is_same_distance 200000 distances before records
file_says file.Routes before records = table_says is_same_route 50000 routes before records
file_says file.Mel before records = table_says is_same_item 50000 mel before records
file_says file.Pairs before records = table_says is_same_pair 50000 pairs before records
file_says file.Actors before records = table_says is_same_actor 5000 actors before records
file_says file.Hours before records = table_says is_same_hours 20000 hours before records

pub file_gives : (told : Told) (old new : List SourceRead) (f : File) (before : TableRows) (text : List ℕ) (made : Result TableRows BadRecord) → length text ≤ 67_108_864
    → OnSource told (name_of f) (λ given. given ≡ text) → ReadsTo (name_of f) old new (Ok text) → Gives text (with_file f before) made → FileGives told old new f before made
file_gives told old new f before text made within source handed g =
    record { bytes = text; within = within; source = source; handed = handed; gives = g; says = subst (SaysFile f before g.records) g.gives (file_says f before g.records) }
