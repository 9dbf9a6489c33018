-- The inputs of the adviser: a plan and the candidates for its alternates, or the first of them that is bad. The plan of
-- `check`.
use Rattle.std.specs.Prelude.{◌≡◌, ◌≢◌, ◌⊎◌, ℕ, List, None, Some, Ok, Err}
use Rattle.advise.specs.declared.candidates.Candidate.{Candidate}
use Rattle.candidate_files.specs.Candidates.{AreCandidatesIn}
use Rattle.desk_json.specs.Plans.{plan_in}
use Rattle.ops_tables.specs.Tables.{TableRows}
use Rattle.plan.specs.Check.{plan_fault}
use Rattle.plan.specs.declared.flights.Plan.{Plan}
use Rattle.commands.specs.Sources.{first_of, second_of}
use Rattle.commands.specs.declared.fault.BadInput.{BadInput as ABadInput}
use Rattle.commands.specs.declared.fault.InputWhy.{InputWhy}
use Rattle.commands.specs.declared.fault.InputWhy.TheVariants.{NotPlan, BadPlan, Candidate as OfCandidate}

-- the text is the JSON of the plan, which passes the tests of a draft
pub record StatesPlan (tables : TableRows) (text : List ℕ) (plan : Plan) : Type 0 where
  pub read : plan_in text ≡ Some plan
  pub valid : plan_fault tables plan ≡ None

-- the first text is that of the plan, and the second is a file of these candidates for its legs
pub record AreStated (tables : TableRows) (texts : List (List ℕ)) (plan : Plan) (candidates : List Candidate) : Type 0 where
  pub plan_is : StatesPlan tables (first_of texts) plan
  pub candidates_are : AreCandidatesIn tables plan (second_of texts) (Ok candidates)

-- Why the text of a plan is bad: it isn't the JSON of a plan, or the plan fails a test of a draft.
abbrev pub PlanFails : TableRows → List ℕ → InputWhy → Type 0
PlanFails tables text NotPlan = plan_in text ≡ None
PlanFails tables text BadPlan = (plan : Plan) × (plan_in text ≡ Some plan) × (plan_fault tables plan ≢ None)
PlanFails tables text (OfCandidate why) = ⊥

-- Which is the first bad record in a file of candidates for a plan, and why it is bad.
abbrev pub RecordFails : TableRows → Plan → List ℕ → ℕ → InputWhy → Type 0
RecordFails tables plan text line (OfCandidate why) = AreCandidatesIn tables plan text (Err (record { line = line; why = why }))
RecordFails tables plan text line other = ⊥

-- the plan in a file of this name is bad; a plan counts as record 1
pub record IsBadPlan (tables : TableRows) (name text : List ℕ) (bad : ABadInput) : Type 0 where
  pub name_is : bad.name ≡ name
  pub first : bad.line ≡ 1
  pub fails : PlanFails tables text bad.why

-- this is the first bad record in a file of this name, of candidates for the plan
pub record IsBadRecord (tables : TableRows) (plan : Plan) (name text : List ℕ) (bad : ABadInput) : Type 0 where
  pub name_is : bad.name ≡ name
  pub fails : RecordFails tables plan text bad.line bad.why

-- this is the first bad record in the second file, of candidates for the good plan in the first
pub record IsBadCandidate (tables : TableRows) (names texts : List (List ℕ)) (bad : ABadInput) : Type 0 where
  pub plan : Plan
  pub plan_is : StatesPlan tables (first_of texts) plan
  pub record_is : IsBadRecord tables plan (second_of names) (second_of texts) bad

-- this is the first bad record of the two files
abbrev pub IsFirstBad : TableRows → (names texts : List (List ℕ)) → ABadInput → Type 0
IsFirstBad tables names texts bad = IsBadPlan tables (first_of names) (first_of texts) bad ⊎ IsBadCandidate tables names texts bad

-- the file of this name isn't the JSON of a plan, which counts as record 1
pub record IsNoPlan (name text : List ℕ) (bad : ABadInput) : Type 0 where
  pub read : plan_in text ≡ None
  pub is : bad ≡ record { name = name; line = 1; why = NotPlan }
