-- Where all sources of a command are held, none is missing; and what is read later is read over the shelf as it was before.
use Rattle.std.proofs.Common.{◌≡◌, ℕ, ◌+◌, ◌<◌, ◌≤◌, ◌∙◌, length, List, [], ◌∷◌, ◌++◌, map, take, drop, get_or, ap, arith, subst, sym}
use Rattle.std.proofs.lemmas.List.{drop_more, map-append, take_more, take-append-drop}
use Rattle.std.specs.Prelude.{All, IsErr, IsErrAnd, Result, Ok, Err}
use Rattle.std.proofs.lemmas.List.Elements.{All-head, All-tail}
use Rattle.desk_io.specs.Reads.{ReadsTo}
use Rattle.desk_io.specs.Told.{HoldsName, OnSource}
use Rattle.desk_io.specs.declared.source_read.SourceRead.{SourceRead}
use Rattle.desk_io.specs.Health.{IsSound}
use Rattle.desk_io.specs.Over.{Over}
use Rattle.desk_io.specs.Seen.{ShelfSeen}
use Rattle.table_files.specs.Files.{files, name_of}
use Rattle.table_files.specs.Whole.{ReadsTables, Told, StopsAtMissing}
use Rattle.table_files.specs.declared.faults.TableFault.TheVariants as fault
use Rattle.commands.specs.Complete.{IsTooLong}
use Rattle.commands.proofs.Handed.{handed_more}
use Rattle.commands.specs.Sources.{AreHanded, AreWhole, FailsAt, IsWhole, ReadsSources, SourceFails, from_reads}
use Rattle.commands.specs.declared.fault.Fault.{Fault}
use Rattle.commands.specs.declared.fault.Fault.TheVariants.{ReadFault, OutOfMemory, InputTooLong}

held_among : {F : Type 0} (name : F → List ℕ) (P : List ℕ → Type 0) (earlier : List F) (file : F) (later : List F) (rest : List (List ℕ))
    → All P (map name (earlier ++ file ∷ later) ++ rest) → P (name file)
held_among name P [] file later rest all = All-head P (name file) (map name later ++ rest) all
held_among name P (first ∷ earlier) file later rest all =
    held_among name P earlier file later rest (All-tail P (name first) (map name (earlier ++ file ∷ later) ++ rest) all)

pub none_missing : (told : Told) (old new : List SourceRead) (name : List ℕ) (rest : List (List ℕ)) → All (HoldsName told) (map name_of files ++ rest)
    → StopsAtMissing told old new (fault.ReadFault name) → ⊥
none_missing told old new name rest all stop =
    stop.fails.1 (held_among name_of (HoldsName told) stop.earlier stop.file stop.later rest (subst (λ fs. All (HoldsName told) (map name_of fs ++ rest)) stop.order all))

pub none_long : (told : Told) (old new : List SourceRead) (name : List ℕ) (rest : List (List ℕ)) → All (λ name. IsTooLong told name → ⊥) (map name_of files ++ rest)
    → ReadsTables told old new (Err (fault.TooLong name)) → ⊥
none_long told old new name rest all stop =
    held_among name_of (λ name. IsTooLong told name → ⊥) stop.earlier stop.file stop.later rest
    (subst (λ fs. All (λ name. IsTooLong told name → ⊥) (map name_of fs ++ rest)) stop.order all) stop.fails.1

abbrev pub between : ShelfSeen → ShelfSeen → Over ShelfSeen
between old new = record { before = old; after = new }

module _ (old middle new : ShelfSeen) (same : middle.sources ≡ old.sources) (later : old.health.faults ≤ middle.health.faults) (sound : IsSound old.health → IsSound middle.health) where
  pub fails_earlier : (name : List ℕ) (fault : Fault) → SourceFails (between middle new) name fault → SourceFails (from_reads (between old new) middle.reads) name fault
  fails_earlier name (ReadFault file) says =
      let rose = says.1.0 in (says.0, (omega (arith, later, rose), λ is held. says.1.1 (sound is) (subst (λ told. HoldsName told name) (sym same) held)), says.2)
  fails_earlier name (InputTooLong file) says = (says.0, subst (λ told. OnSource told name (λ bytes. 67_108_864 < length bytes)) same says.1, says.2)
  fails_earlier name OutOfMemory says = says
  fails_earlier name other says = absurd says

-- ---- several sources

pub whole_more : (sources : Told) (names texts : List (List ℕ)) (name text : List ℕ) → AreWhole sources names texts → IsWhole sources name text → AreWhole sources (names ++ name ∷ []) (texts ++ text ∷ [])
whole_more sources [] [] name text all is = (is, tt)
whole_more sources [] (t ∷ texts) name text all is = absurd all
whole_more sources (n ∷ names) [] name text all is = absurd all
whole_more sources (n ∷ names) (t ∷ texts) name text all is = (all.0, whole_more sources names texts name text all.1 is)

pub whole_as : (sources told : Told) (names texts : List (List ℕ)) → told ≡ sources → AreWhole told names texts → AreWhole sources names texts
whole_as sources told names texts same all = subst (λ (x : Told). AreWhole x names texts) same all

pub among_here : (P : List ℕ → Type 0) (earlier : List (List ℕ)) (name : List ℕ) (later : List (List ℕ)) → All P (earlier ++ name ∷ later) → P name
among_here P [] name later all = All-head P name later all
among_here P (n ∷ earlier) name later all = among_here P earlier name later (All-tail P n (earlier ++ name ∷ later) all)

pub after_files : {F : Type 0} (P : List ℕ → Type 0) (of : F → List ℕ) (fs : List F) (names : List (List ℕ)) → All P (map of fs ++ names) → All P names
after_files P of [] names all = all
after_files P of (f ∷ fs) names all = after_files P of fs names (All-tail P (of f) (map of fs ++ names) all)

-- sources that were read after others
pub sources_earlier : (old middle new : ShelfSeen) → middle.sources ≡ old.sources → old.health.faults ≤ middle.health.faults → (IsSound old.health → IsSound middle.health) → (names : List (List ℕ))
    → (read : Result (List (List ℕ)) Fault) → ReadsSources (between middle new) names read → ReadsSources (from_reads (between old new) middle.reads) names read
sources_earlier old middle new same later sound names (Ok texts) all = (whole_as old.sources middle.sources names texts same all.0, all.1)
sources_earlier old middle new same later sound names (Err fault) f = record {
  earlier = f.earlier;
  name = f.name;
  later = f.later;
  order = f.order;
  texts = f.texts;
  read = whole_as old.sources middle.sources f.earlier f.texts same f.read;
  upto = f.upto;
  handed = f.handed;
  fails = fails_earlier old (record middle { reads = f.upto }) new same later sound f.name fault f.fails;
}

names_split : {S : Type 0} (f : S → List ℕ) (names : List S) (i : ℕ) (n : S) → i < length names → n ≡ get_or names i n → map f names ≡ map f (take i names) ++ f n ∷ map f (drop (i + 1) names)
names_split f names i n within is =
    let left : drop i names ≡ n ∷ drop (i + 1) names = drop_more names i n within ∙ ap (λ x. x ∷ drop (i + 1) names) (sym is) in
    ap (map f) (sym (take-append-drop i names)) ∙ (map-append f (take i names) (drop i names) ∙ ap (λ xs. map f (take i names) ++ map f xs) left)

-- one more source was read
pub whole_next : {S : Type 0} (f : S → List ℕ) (sources told : Told) (names : List S) (i : ℕ) (n : S) (name text : List ℕ) (texts more : List (List ℕ)) → i < length names → n ≡ get_or names i n → name ≡ f n
    → told ≡ sources → AreWhole sources (map f (take i names)) texts → IsWhole told name text → more ≡ texts ++ text ∷ [] → AreWhole sources (map f (take (i + 1) names)) more
whole_next f sources told names i n name text texts more within is seen same all one pushed =
    let own : IsWhole sources (f n) text = subst (λ (x : Told). IsWhole x (f n) text) same (subst (λ (x : List ℕ). IsWhole told x text) seen one) in
    let both : AreWhole sources (map f (take i names) ++ f n ∷ []) (texts ++ text ∷ []) = whole_more sources (map f (take i names)) texts (f n) text all own in
    let taken : map f (take (i + 1) names) ≡ map f (take i names) ++ f n ∷ [] =
    ap (map f) (take_more names i n within ∙ ap (λ x. take i names ++ x ∷ []) (sym is)) ∙ map-append f (take i names) (n ∷ []) in
    subst (λ ns. AreWhole sources ns more) (sym taken) (subst (λ ts. AreWhole sources (map f (take i names) ++ f n ∷ []) ts) (sym pushed) both)

pub handed_next : {S : Type 0} (f : S → List ℕ) (old upto new : List SourceRead) (names : List S) (i : ℕ) (n : S) (name text : List ℕ) (texts more : List (List ℕ)) → i < length names → n ≡ get_or names i n
    → name ≡ f n → AreHanded old upto (map f (take i names)) texts → ReadsTo name upto new (Ok text) → more ≡ texts ++ text ∷ [] → AreHanded old new (map f (take (i + 1) names)) more
handed_next f old upto new names i n name text texts more within is seen all one pushed =
    let own : ReadsTo (f n) upto new (Ok text) = subst (λ (x : List ℕ). ReadsTo x upto new (Ok text)) seen one in
    let both : AreHanded old new (map f (take i names) ++ f n ∷ []) (texts ++ text ∷ []) =
    handed_more old upto new (map f (take i names)) texts (f n) text all own in
    let taken : map f (take (i + 1) names) ≡ map f (take i names) ++ f n ∷ [] =
    ap (map f) (take_more names i n within ∙ ap (λ x. take i names ++ x ∷ []) (sym is)) ∙ map-append f (take i names) (n ∷ []) in
    subst (λ ns. AreHanded old new ns more) (sym taken) (subst (λ ts. AreHanded old new (map f (take i names) ++ f n ∷ []) ts) (sym pushed) both)

-- the next one wasn't
pub fails_next : {S : Type 0} (f : S → List ℕ) (old middle new : ShelfSeen) (names : List S) (i : ℕ) (n : S) (name : List ℕ) (texts : List (List ℕ)) (fault : Fault) → middle.sources ≡ old.sources
    → old.health.faults ≤ middle.health.faults → (IsSound old.health → IsSound middle.health) → i < length names → n ≡ get_or names i n → name ≡ f n → AreWhole old.sources (map f (take i names)) texts
    → AreHanded old.reads middle.reads (map f (take i names)) texts → SourceFails (between middle new) name fault → FailsAt (between old new) (map f names) fault
fails_next f old middle new names i n name texts fault same later sound within is seen all handed fails = record {
  earlier = map f (take i names);
  name = f n;
  later = map f (drop (i + 1) names);
  order = names_split f names i n within is;
  texts = texts;
  read = all;
  upto = middle.reads;
  handed = handed;
  fails = fails_earlier old middle new same later sound (f n) fault (subst (λ (x : List ℕ). SourceFails (between middle new) x fault) seen fails);
}

-- an error that is passed on
pub fails_by : (shelf : Over ShelfSeen) (names : List (List ℕ)) (fault : Fault) (read : Result (List (List ℕ)) Fault) → IsErr read → IsErrAnd read (λ e. e ≡ fault) → FailsAt shelf names fault → ReadsSources shelf names read
fails_by shelf names fault (Ok texts) err is fails = absurd is
fails_by shelf names fault (Err e) err is fails = subst (FailsAt shelf names) (sym is) fails
