-- What one more record does to the candidates that were read.
use Rattle.std.proofs.Common.{◌≡◌, ◌≢◌, ℕ, ◌+◌, ◌<◌, ◌==◌, true, false, cond, List, [], ◌∷◌, ◌++◌, length, take, get_or, Result, Ok, Err, refl, sym, ap, ◌∙◌, arith}
use Rattle.std.specs.Prelude.{nat_le}
use Rattle.std.specs.Str.{bytes_eq}
use Rattle.desk_time.specs.Digits.{◌>>=◌}
use Rattle.std.proofs.lemmas.Bool.{and_from, eq-eqb, false≢true}
use Rattle.std.proofs.lemmas.List.Elements.{All-nil, All-push}
use Rattle.std.proofs.lemmas.List.Folds.{list_any_at}
use Rattle.std.proofs.lemmas.List.Quantifiers.{all_pairs_push}
use Rattle.std.proofs.lemmas.Slice.Eq.{bytes_eq-Decides}
use Rattle.csv_text.specs.Records.{AreRecordsOf}
use Rattle.csv_text.specs.declared.records.Records.{Records}
use Rattle.ops_tables.specs.Tables.{TableRows}
use Rattle.table_files.specs.Reading.{HasHeader, HasNoHeader, has_header}
use Rattle.plan.specs.declared.flights.Plan.{Plan}
use Rattle.advise.specs.declared.candidates.Candidate.{Candidate}
use Rattle.advise.specs.Candidates.{is_candidate, AreCandidates}
use Rattle.candidate_files.specs.declared.fields.CandidateWhy.{CandidateWhy}
use Rattle.candidate_files.specs.declared.fields.CandidateWhy.TheVariants as why
use Rattle.candidate_files.specs.declared.records.BadCandidate.{BadCandidate}
use Rattle.candidate_files.specs.Candidates.{columns, stated, if_allowed, is_same, IsNew, new_candidate, candidate_after, or_bad, candidates_after, bad_header, candidates_under, AreCandidatesIn, AreLeft}

-- a candidate has four fields, so that the first five tell all
stated_told : (fields : List (List ℕ)) → stated (take 5 fields) ≡ stated fields
stated_told [] = refl
stated_told (a ∷ []) = refl
stated_told (a ∷ b ∷ []) = refl
stated_told (a ∷ b ∷ c ∷ []) = refl
stated_told (a ∷ b ∷ c ∷ d ∷ []) = refl
stated_told (a ∷ b ∷ c ∷ d ∷ e ∷ others) = refl

-- A candidate more

abbrev Differ : Candidate → Candidate → Type 0
Differ one other = one.leg ≡ other.leg → one.alternate.station ≢ other.alternate.station

pub none_are : (tables : TableRows) (plan : Plan) → AreCandidates tables plan []
none_are tables plan = record { allowed = All-nil (λ c. is_candidate tables plan c ≡ true); different = λ i j d less within. absurd (omega (arith, within)) }

pub one_more_is : (tables : TableRows) (plan : Plan) (earlier : List Candidate) (c : Candidate) → AreCandidates tables plan earlier → IsNew tables plan earlier c → AreCandidates tables plan (earlier ++ c ∷ [])
one_more_is tables plan earlier c are is = record {
  allowed = All-push (λ c. is_candidate tables plan c ≡ true) earlier c are.allowed is.allowed;
  different = all_pairs_push Differ earlier c are.different apart;
}
  where
    apart : (k : ℕ) (d : Candidate) → k < length earlier → Differ (get_or earlier k d) c
    apart k d within leg station =
        false≢true (sym is.fresh ∙ list_any_at (is_same c) earlier k d within
        (and_from (c.leg == (get_or earlier k d).leg) (bytes_eq c.alternate.station (get_or earlier k d).alternate.station) (eq-eqb c.leg (get_or earlier k d).leg (sym leg))
        ((bytes_eq-Decides c.alternate.station (get_or earlier k d).alternate.station).1 (sym station))))

-- A record more

module _ (tables : TableRows) (plan : Plan) where
  pub told : (most : List Candidate) (fields first : List (List ℕ)) → first ≡ take 5 fields → candidate_after tables plan most first ≡ candidate_after tables plan most fields
  told most fields first e = ap (λ o. cond (nat_le 100 (length most)) (Err why.OverLimit) (new_candidate most (o >>= if_allowed tables plan))) (ap stated e ∙ stated_told fields)

  pub good : (earlier : List Candidate) (c : Candidate) (fields : List (List ℕ)) (others : List (List (List ℕ))) → candidate_after tables plan earlier fields ≡ Ok c
      → candidates_after tables plan earlier (fields ∷ others) ≡ candidates_after tables plan (earlier ++ c ∷ []) others
  good earlier c fields others e = ap (λ r. or_bad (length earlier + 2) r (λ c. candidates_after tables plan (earlier ++ c ∷ []) others)) e

  pub bad : (earlier : List Candidate) (why : CandidateWhy) (fields : List (List ℕ)) (others : List (List (List ℕ))) → candidate_after tables plan earlier fields ≡ Err why
      → candidates_after tables plan earlier (fields ∷ others) ≡ Err (record { line = length earlier + 2; why = why })
  bad earlier why fields others e = ap (λ r. or_bad (length earlier + 2) r (λ c. candidates_after tables plan (earlier ++ c ∷ []) others)) e

  pub ends : (text : List ℕ) (earlier : List (List (List ℕ))) (read : Result (List Candidate) BadCandidate)
      → (others : List (List (List ℕ))) × AreRecordsOf text (earlier ++ others) × (candidates_after tables plan [] others ≡ read) → AreLeft tables plan text earlier read
  ends text earlier read all = record { records = all.0; are_records = all.1; are = all.2 }

  pub under_header : (text : List ℕ) (reader : Records) (read : Result (List Candidate) BadCandidate) → (h : HasHeader text columns reader) → AreLeft tables plan text (h.header ∷ []) read
      → AreCandidatesIn tables plan text read
  under_header text reader read h left = record {
    records = h.header ∷ left.records;
    are_records = left.are_records;
    are = ap (λ b. cond b (candidates_after tables plan [] left.records) bad_header) h.is_same ∙ left.are;
  }

  pub without_header : (text : List ℕ) → HasNoHeader text columns → AreCandidatesIn tables plan text bad_header
  without_header text h = record { records = h.records; are_records = h.are_records; are = none h.records h.none }
    where
      none : (records : List (List (List ℕ))) → has_header columns records ≡ false → candidates_under tables plan records ≡ bad_header
      none [] e = refl
      none (header ∷ records) e = ap (λ b. cond b (candidates_after tables plan [] records) bad_header) e
