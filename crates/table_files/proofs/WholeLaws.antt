-- Reading one file after another.
use Rattle.std.proofs.Common.{◌≡◌, ◌<◌, ◌≤◌, ◌∙◌, sym, refl, ap, subst, ℕ, zero, suc, ◌+◌, List, [], ◌∷◌, ◌++◌, take, drop, get_or, length, arith, add-one, Result, Ok, Err, MatchResult, IsErr, IsErrAnd}
use Rattle.desk_io.specs.Reads.{ReadsTo}
use Rattle.desk_io.specs.Seen.{ShelfSeen, ShelfGoesOn}
use Rattle.desk_io.specs.Told.{HoldsName}
use Rattle.desk_io.specs.declared.source_read.SourceRead.{SourceRead}
use Rattle.desk_io.proofs.HealthLaws.{goes_on_where}
use Rattle.ops_tables.specs.Tables.{TableRows}
use Rattle.table_files.specs.Files.{files, name_of, no_rows}
use Rattle.table_files.specs.Whole.{Told, FileFails, FileGives, FilesGive, ReadsFile, StopsAt, HoldsFile, HoldsFiles}
use Rattle.table_files.specs.declared.faults.TableFault.{TableFault}
use Rattle.table_files.specs.declared.faults.TableFault.TheVariants as fault
use Rattle.table_files.specs.declared.files.File.{File}

and_one : (told : Told) (old upto new : List SourceRead) (start : TableRows) (before : List File) (file : File) (between after : TableRows)
    → FilesGive told old upto start before between → FileGives told upto new file between (Ok after) → FilesGive told old new start (before ++ file ∷ []) after
and_one told old upto new start [] file between after same gives =
    (after, new, subst (λ (us : List SourceRead). FileGives told us new file start (Ok after)) same.1 (subst (λ (t : TableRows). FileGives told upto new file t (Ok after)) (sym same.0) gives), (refl, refl))
and_one told old upto new start (first ∷ others) file between after read gives =
    (read.0, read.1, read.2, and_one told read.1 upto new read.0 others file between after read.3 gives)

front-suc : {X : Type 0} (xs : List X) (i : ℕ) (d : X) → i < length xs → take (suc i) xs ≡ take i xs ++ get_or xs i d ∷ []
front-suc [] i d within = absurd (omega (arith, within))
front-suc (x ∷ xs) zero d within = refl
front-suc (x ∷ xs) (suc i) d within = ap (λ ys. x ∷ ys) (front-suc xs i d (omega (arith, within)))

pub front : {X : Type 0} (xs : List X) (i : ℕ) (d : X) → i < length xs → take (i + 1) xs ≡ take i xs ++ get_or xs i d ∷ []
front xs i d within = rw add-one (front-suc xs i d within)

parts-suc : {X : Type 0} (xs : List X) (i : ℕ) (d : X) → i < length xs → xs ≡ take i xs ++ get_or xs i d ∷ drop (suc i) xs
parts-suc [] i d within = absurd (omega (arith, within))
parts-suc (x ∷ xs) zero d within = refl
parts-suc (x ∷ xs) (suc i) d within = ap (λ ys. x ∷ ys) (parts-suc xs i d (omega (arith, within)))

pub parts : {X : Type 0} (xs : List X) (i : ℕ) (d : X) → i < length xs → xs ≡ take i xs ++ get_or xs i d ∷ drop (i + 1) xs
parts xs i d within = rw add-one (parts-suc xs i d within)

all : {X : Type 0} (xs : List X) (i : ℕ) → length xs ≤ i → take i xs ≡ xs
all [] zero past = refl
all [] (suc i) past = refl
all (x ∷ xs) zero past = absurd (omega (arith, past))
all (x ∷ xs) (suc i) past = ap (λ ys. x ∷ ys) (all xs i (omega (arith, past)))

pub reads_more : (told : Told) (old upto new : List SourceRead) (i : ℕ) (d : File) (before after : TableRows) → i < length files
    → FilesGive told old upto no_rows (take i files) before → FileGives told upto new (get_or files i d) before (Ok after) → FilesGive told old new no_rows (take (i + 1) files) after
reads_more told old upto new i d before after within read gives =
    subst (λ fs. FilesGive told old new no_rows fs after) (sym (front files i d within)) (and_one told old upto new no_rows (take i files) (get_or files i d) before after read gives)

pub reads_all : (told : Told) (old new : List SourceRead) (i : ℕ) (tables : TableRows) → length files ≤ i → FilesGive told old new no_rows (take i files) tables → FilesGive told old new no_rows files tables
reads_all told old new i tables past read = subst (λ fs. FilesGive told old new no_rows fs tables) (all files i past) read

pub stops : (told : Told) (old upto : List SourceRead) (Fails : List SourceRead → File → TableRows → Type 0) (i : ℕ) (d : File) (before : TableRows) → i < length files
    → FilesGive told old upto no_rows (take i files) before → Fails upto (get_or files i d) before → StopsAt told old Fails
stops told old upto Fails i d before within read fails = record {
  earlier = take i files;
  file = get_or files i d;
  later = drop (i + 1) files;
  order = parts files i d within;
  before = before;
  upto = upto;
  read = read;
  fails = fails;
}

-- a shelf goes on through one file more
pub shelf_goes_on : (old mid new : ShelfSeen) (file : File) → ShelfGoesOn (HoldsFiles old) old mid → ShelfGoesOn (HoldsFile mid file) mid new → ShelfGoesOn (HoldsFiles old) old new
shelf_goes_on old mid new file one two = record {
  sources = two.sources ∙ one.sources;
  health = goes_on_where (HoldsFiles old) (HoldsFile mid file) old.health mid.health new.health
      (λ all. subst (λ told. HoldsName told (name_of file)) (sym one.sources) (all file)) one.health two.health;
}

-- an error that is passed on
pub passed_on : {T : Type 0} (r : Result T TableFault) (fault : TableFault) (P : T → Type 0) (Q : TableFault → Type 0) → IsErr r → IsErrAnd r (λ e. e ≡ fault) → Q fault → MatchResult r P Q
passed_on (Ok x) fault P Q err is holds = absurd is
passed_on (Err e) fault P Q err is holds = subst Q (sym is) holds

-- Memory ran out after the text of a file was read.
pub read_for_nothing : {A : Type 0} (told : Told) (old new : List SourceRead) (file : File) (before after : TableRows) (text : List ℕ) (r : Result A TableFault)
    → ReadsTo (name_of file) old new (Ok text) → IsErr r → IsErrAnd r (λ e. e ≡ fault.OutOfMemory) → ReadsFile told old new file before r after
read_for_nothing told old new file before after text r reads err is =
    passed_on r fault.OutOfMemory (λ _. FileGives told old new file before (Ok after)) (λ why. FileFails told old new file before why) err is (Ok text, reads)
