-- The lines of the records that were given so far.
use Rattle.std.proofs.Common.{◌≡◌, ◌∙◌, sym, ap, refl, subst, ℕ, List, [], ◌∷◌, ◌++◌, take, append-nil, append_assoc, Bool, true, false, if◌then◌else◌, None, Some}
use Rattle.std.proofs.lemmas.List.{map-append}
use Rattle.csv_text.specs.Records.{HasGiven, GivesNext}
use Rattle.csv_text.specs.declared.records.Records.{Records}
use Rattle.csv_text.proofs.Totals.{all_records}
use Rattle.imports.specs.Lines.{is_header, lines_of, AreLeft, HasHeader, HasNoHeader, Begins, IsImport}
use Rattle.imports.specs.Records.{Line, record_or_fault}

-- a line has five fields, so that the first six tell all
pub header_told : (fields : List (List ℕ)) → is_header (take 6 fields) ≡ is_header fields
header_told [] = refl
header_told (a ∷ []) = refl
header_told (a ∷ b ∷ []) = refl
header_told (a ∷ b ∷ c ∷ []) = refl
header_told (a ∷ b ∷ c ∷ d ∷ []) = refl
header_told (a ∷ b ∷ c ∷ d ∷ e ∷ []) = refl
header_told (a ∷ b ∷ c ∷ d ∷ e ∷ f ∷ others) = refl

line_told : (fields : List (List ℕ)) → record_or_fault (take 6 fields) ≡ record_or_fault fields
line_told [] = refl
line_told (a ∷ []) = refl
line_told (a ∷ b ∷ []) = refl
line_told (a ∷ b ∷ c ∷ []) = refl
line_told (a ∷ b ∷ c ∷ d ∷ []) = refl
line_told (a ∷ b ∷ c ∷ d ∷ e ∷ []) = refl
line_told (a ∷ b ∷ c ∷ d ∷ e ∷ f ∷ others) = refl

-- the records that were given after some earlier ones, and their lines
pub record Seen (text : List ℕ) (earlier : List (List (List ℕ))) (reader : Records) (lines : List Line) : Type 0 where
  pub records : List (List (List ℕ))
  pub given : HasGiven text (earlier ++ records) reader
  pub are : lines ≡ lines_of records

pub none_seen : (text : List ℕ) (earlier : List (List (List ℕ))) (reader : Records) → HasGiven text earlier reader → Seen text earlier reader []
none_seen text earlier reader h = record { records = []; given = subst (λ (e : List (List (List ℕ))). HasGiven text e reader) (sym (append-nil earlier)) h; are = refl }

-- one record more
pub one_seen : (text : List ℕ) (earlier : List (List (List ℕ))) (old new : Records) (lines : List Line) (first : List (List ℕ)) (line : Line)
    → (seen : Seen text earlier old lines) → GivesNext 6 text (earlier ++ seen.records) (Some first) new → line ≡ record_or_fault first → Seen text earlier new (lines ++ line ∷ [])
one_seen text earlier old new lines first line seen given is = record {
  records = seen.records ++ given.0 ∷ [];
  given = subst (λ (e : List (List (List ℕ))). HasGiven text e new) (append_assoc earlier seen.records (given.0 ∷ [])) given.1;
  are = rw (seen.are, is ∙ ap record_or_fault given.2 ∙ line_told given.0) (sym (map-append record_or_fault seen.records (given.0 ∷ [])));
}

-- no record more
pub all_seen : (text : List ℕ) (earlier : List (List (List ℕ))) (old new : Records) (lines : List Line) → (seen : Seen text earlier old lines)
    → GivesNext 6 text (earlier ++ seen.records) None new → AreLeft text earlier lines
all_seen text earlier old new lines seen all = record { records = seen.records; are_records = all; are = seen.are }

-- the first record is the header, or it isn't
pub begins : (text : List ℕ) (header : List (List ℕ)) (reader : Records) (b : Bool) → HasGiven text (header ∷ []) reader → b ≡ is_header header → Begins text b reader
begins text header reader true h e = record { header = header; names = sym e; given = h }
begins text header reader false h e =
    let rest = all_records text (header ∷ []) reader h in
    record { records = header ∷ rest.0; are_records = rest.1; none = ap (λ b. if b then Some (lines_of rest.0) else None) (sym e) }

pub under_header : (text : List ℕ) (reader : Records) (lines : List Line) → (h : HasHeader text reader) → AreLeft text (h.header ∷ []) lines → IsImport text (Some lines)
under_header text reader lines h left = record {
  records = h.header ∷ left.records;
  are_records = left.are_records;
  is = rw left.are (sym (ap (λ b. if b then Some (lines_of left.records) else None) h.names));
}

pub without_header : (text : List ℕ) → HasNoHeader text → IsImport text None
without_header text h = record { records = h.records; are_records = h.are_records; is = sym h.none }
