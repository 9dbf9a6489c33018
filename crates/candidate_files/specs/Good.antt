-- Good files of candidates, and the first bad record of a file that isn't good.
use Rattle.std.specs.Prelude.{◌≡◌, ℕ, decimal, ◌+◌, ◌<◌, ◌≤◌, true, List, [], ◌∷◌, ◌++◌, length, Any, Result, Ok, Err}
use Rattle.csv_text.specs.Records.{AreRecordsOf}
use Rattle.desk_io.specs.Station.{is_station}
use Rattle.ops_tables.specs.Tables.{TableRows}
use Rattle.table_files.specs.Good.{UnderHeader}
use Rattle.plan.specs.declared.flights.Plan.{Plan}
use Rattle.advise.specs.declared.candidates.Candidate.{Candidate}
use Rattle.advise.specs.Candidates.{is_candidate, AreCandidates}
use Rattle.candidate_files.specs.declared.fields.CandidateWhy.{CandidateWhy}
use Rattle.candidate_files.specs.declared.fields.CandidateWhy.TheVariants.{OverLimit, BadField, Doubled}
use Rattle.candidate_files.specs.declared.records.BadCandidate.{BadCandidate}
use Rattle.candidate_files.specs.Candidates.{columns}

-- The record has the leg, station, flight minutes and fuel of the candidate, which its leg may list.
pub record States (tables : TableRows) (plan : Plan) (fields : List (List ℕ)) (c : Candidate) : Type 0 where
  pub written : fields ≡ decimal c.leg ∷ c.alternate.station ∷ decimal c.alternate.minutes ∷ decimal c.alternate.fuel ∷ []
  pub station : is_station c.alternate.station ≡ true
  pub allowed : is_candidate tables plan c ≡ true

-- each record states one of the candidates, in order
abbrev pub AreStated : TableRows → Plan → List (List (List ℕ)) → List Candidate → Type 0
AreStated tables plan [] [] = Unit {0}
AreStated tables plan [] (c ∷ candidates) = ⊥
AreStated tables plan (fields ∷ records) [] = ⊥
AreStated tables plan (fields ∷ records) (c ∷ candidates) = States tables plan fields c × AreStated tables plan records candidates

-- Each record states one of the candidates, in order. There are at most 100, and no two have the same leg and station.
pub record AreGood (tables : TableRows) (plan : Plan) (records : List (List (List ℕ))) (candidates : List Candidate) : Type 0 where
  pub stated : AreStated tables plan records candidates
  pub few : length candidates ≤ 100
  pub are_candidates : AreCandidates tables plan candidates

-- the candidates have the same leg and station
abbrev pub IsSame : Candidate → Candidate → Type 0
IsSame c other = (c.leg ≡ other.leg) × (c.alternate.station ≡ other.alternate.station)

-- Why a record after some candidates is bad. In the order of the tests: there are 100 candidates; the record states
-- none; an earlier candidate has its leg and station.
abbrev pub IsBadAfter : TableRows → Plan → List Candidate → List (List ℕ) → CandidateWhy → Type 0
IsBadAfter tables plan earlier fields OverLimit = length earlier ≡ 100
IsBadAfter tables plan earlier fields BadField = (length earlier < 100) × ((c : Candidate) → States tables plan fields c → ⊥)
IsBadAfter tables plan earlier fields Doubled = (c : Candidate) × (length earlier < 100) × States tables plan fields c × Any (IsSame c) earlier

-- The first bad record below the header, which is record 1. The records before it are good.
pub record IsFirstBad (tables : TableRows) (plan : Plan) (records : List (List (List ℕ))) (bad : BadCandidate) : Type 0 where
  pub good : List (List (List ℕ))
  pub fields : List (List ℕ)
  pub others : List (List (List ℕ))
  pub earlier : List Candidate
  pub order : records ≡ good ++ fields ∷ others
  pub are_good : AreGood tables plan good earlier
  pub number : bad.line ≡ length good + 2
  pub fails : IsBadAfter tables plan earlier fields bad.why

-- The first record isn't the header, so record 1 is bad, or a record below the header is bad.
pub data IsBadFile (tables : TableRows) (plan : Plan) (records : List (List (List ℕ))) (bad : BadCandidate) : Type 0 where
  no_header : (UnderHeader columns (λ below. Unit {0}) records → ⊥) → bad ≡ record { line = 1; why = BadField } → IsBadFile tables plan records bad
  under_header : UnderHeader columns (λ below. IsFirstBad tables plan below bad) records → IsBadFile tables plan records bad

-- all records below the header are good, or this is the first bad one
abbrev pub Says : TableRows → Plan → List (List (List ℕ)) → Result (List Candidate) BadCandidate → Type 0
Says tables plan records (Ok candidates) = UnderHeader columns (λ below. AreGood tables plan below candidates) records
Says tables plan records (Err bad) = IsBadFile tables plan records bad

-- what a file says of its candidates
pub record SaysFile (tables : TableRows) (plan : Plan) (text : List ℕ) (read : Result (List Candidate) BadCandidate) : Type 0 where
  pub records : List (List (List ℕ))
  pub are_records : AreRecordsOf text records
  pub says : Says tables plan records read
