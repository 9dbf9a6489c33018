-- The candidates in a file: its records below the header, up to the first bad one.
use Rattle.std.specs.Prelude.{◌≡◌, ℕ, ◌+◌, ◌==◌, nat_le, Bool, true, false, ◌&&◌, if◌then◌else◌, List, [], ◌∷◌, ◌++◌, length, Option, None, Some, Result, Ok, Err, codes}
use Rattle.std.specs.List.{list_any}
use Rattle.std.specs.Str.{bytes_eq}
use Rattle.desk_time.specs.Digits.{◌>>=◌}
use Rattle.desk_time.specs.Numbers.{number_in}
use Rattle.desk_io.specs.Station.{station_of}
use Rattle.csv_text.specs.Records.{AreRecordsOf}
use Rattle.ops_tables.specs.Tables.{TableRows}
use Rattle.table_files.specs.Reading.{are_same}
use Rattle.plan.specs.declared.flights.Plan.{Plan}
use Rattle.advise.specs.declared.candidates.Candidate.{Candidate}
use Rattle.advise.specs.Candidates.{is_candidate}
use Rattle.candidate_files.specs.declared.fields.CandidateWhy.{CandidateWhy}
use Rattle.candidate_files.specs.declared.fields.CandidateWhy.TheVariants.{OverLimit, BadField, Doubled}
use Rattle.candidate_files.specs.declared.records.BadCandidate.{BadCandidate}

abbrev pub columns : List (List ℕ)
columns = codes "leg" ∷ codes "station" ∷ codes "minutes" ∷ codes "fuel" ∷ []

-- a number of 32 bits in decimal
abbrev pub number : List ℕ → Option ℕ
number field = number_in 4_294_967_295 field

-- what the fields of a record state
abbrev pub stated : List (List ℕ) → Option Candidate
stated (leg ∷ station ∷ minutes ∷ fuel ∷ []) = do
  of ← number leg
  at ← station_of station
  far ← number minutes
  pounds ← number fuel
  Some (record { leg = of; alternate = record { station = at; minutes = far; fuel = pounds } })
stated _ = None

abbrev pub if_allowed : TableRows → Plan → Candidate → Option Candidate
if_allowed tables plan c = if is_candidate tables plan c then Some c else None

-- the candidate of a record, if its leg may list it
abbrev pub candidate_of : TableRows → Plan → List (List ℕ) → Option Candidate
candidate_of tables plan fields = stated fields >>= if_allowed tables plan

abbrev pub is_same : Candidate → Candidate → Bool
is_same c other = (c.leg == other.leg) && bytes_eq c.alternate.station other.alternate.station

-- the candidate, if no earlier one has its leg and station
abbrev pub new_candidate : List Candidate → Option Candidate → Result Candidate CandidateWhy
new_candidate earlier None = Err BadField
new_candidate earlier (Some c) = if list_any (is_same c) earlier then Err Doubled else Ok c

-- the candidate of a record that comes after others, or the first test that it fails
abbrev pub candidate_after : TableRows → Plan → List Candidate → List (List ℕ) → Result Candidate CandidateWhy
candidate_after tables plan earlier fields = if nat_le 100 (length earlier) then Err OverLimit else new_candidate earlier (candidate_of tables plan fields)

-- The candidate's leg may list it, and no earlier one has its leg and station.
pub record IsNew (tables : TableRows) (plan : Plan) (earlier : List Candidate) (c : Candidate) : Type 0 where
  pub allowed : is_candidate tables plan c ≡ true
  pub fresh : list_any (is_same c) earlier ≡ false

-- continues with the candidate, or reports the record of this number as bad
abbrev pub or_bad : ℕ → Result Candidate CandidateWhy → (Candidate → Result (List Candidate) BadCandidate) → Result (List Candidate) BadCandidate
or_bad number (Err why) next = Err (record { line = number; why = why })
or_bad number (Ok c) next = next c

-- the earlier candidates and those of these records, or the first bad record; the header is record 1
abbrev pub candidates_after : TableRows → Plan → List Candidate → List (List (List ℕ)) → Result (List Candidate) BadCandidate
candidates_after tables plan earlier [] = Ok earlier
candidates_after tables plan earlier (fields ∷ others) =
    or_bad (length earlier + 2) (candidate_after tables plan earlier fields) (λ c. candidates_after tables plan (earlier ++ c ∷ []) others)

abbrev pub bad_header : Result (List Candidate) BadCandidate
bad_header = Err (record { line = 1; why = BadField })

-- the candidates of the records below the header, or the first bad record
abbrev pub candidates_under : TableRows → Plan → List (List (List ℕ)) → Result (List Candidate) BadCandidate
candidates_under tables plan [] = bad_header
candidates_under tables plan (header ∷ records) = if are_same header columns then candidates_after tables plan [] records else bad_header

-- what a file gives
pub record AreCandidatesIn (tables : TableRows) (plan : Plan) (text : List ℕ) (read : Result (List Candidate) BadCandidate) : Type 0 where
  pub records : List (List (List ℕ))
  pub are_records : AreRecordsOf text records
  pub are : candidates_under tables plan records ≡ read

-- what the records that follow the earlier ones give
pub record AreLeft (tables : TableRows) (plan : Plan) (text : List ℕ) (earlier : List (List (List ℕ))) (read : Result (List Candidate) BadCandidate) : Type 0 where
  pub records : List (List (List ℕ))
  pub are_records : AreRecordsOf text (earlier ++ records)
  pub are : candidates_after tables plan [] records ≡ read
