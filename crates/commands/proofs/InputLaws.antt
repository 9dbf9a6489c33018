-- What is said of a bad input.
use Rattle.std.proofs.Common.{◌≡◌, ◌≢◌, ℕ, List, Option, None, Some, refl, sym, ap, subst, ◌∙◌, inl, inr}
use Rattle.std.specs.Prelude.{IfOk, IfErr, MatchResult, Result, Ok, Err}
use Rattle.advise.specs.declared.candidates.Candidate.{Candidate}
use Rattle.candidate_files.specs.Candidates.{AreCandidatesIn}
use Rattle.candidate_files.specs.declared.fields.CandidateWhy.{CandidateWhy}
use Rattle.desk_json.specs.Plans.{plan_in}
use Rattle.ops_tables.specs.Tables.{TableRows}
use Rattle.plan.specs.Check.{plan_fault}
use Rattle.plan.specs.declared.flights.Plan.{Plan}
use Rattle.words.specs.declared.task.DeskTask.TheVariants.{Advise, Check}
use Rattle.commands.specs.Answers.{IsRefusal}
use Rattle.commands.specs.Faults.{OnInput}
use Rattle.commands.specs.Inputs.{AreStated, IsBadCandidate, IsBadPlan, IsBadRecord, IsFirstBad, IsNoPlan, StatesPlan}
use Rattle.commands.specs.Sources.{first_of, second_of}
use Rattle.commands.specs.declared.fault.BadInput.{BadInput as ABadInput}
use Rattle.commands.specs.declared.fault.InputWhy.{InputWhy}
use Rattle.commands.specs.declared.fault.InputWhy.TheVariants as why
use Rattle.commands.specs.declared.fault.Fault.{Fault}
use Rattle.commands.specs.declared.fault.Fault.TheVariants.{BadInput, OutOfMemory}
use Rattle.commands.specs.declared.works.Advising.{Advising}

pub on_input : (P Q : ABadInput → Type 0) (fault : Fault) → ((bad : ABadInput) → P bad → Q bad) → OnInput P fault → OnInput Q fault
on_input P Q (BadInput bad) more is = more bad is
on_input P Q OutOfMemory more is = tt
on_input P Q other more is = absurd is

abbrev pub at : List ℕ → ℕ → InputWhy → ABadInput
at name line why = record { name = name; line = line; why = why }

-- the plan that was read was tested
pub tested_states : (tables : TableRows) (name text : List ℕ) (plan : Plan) (r : Result Plan Fault) → plan_in text ≡ Some plan → IfOk r (λ p. p ≡ plan) → IfOk r (λ p. plan_fault tables plan ≡ None)
    → IfErr r (λ stop. plan_fault tables plan ≢ None) → IfErr r (OnInput (λ bad. bad ≡ at name 1 why.BadPlan)) → MatchResult r (StatesPlan tables text) (OnInput (IsBadPlan tables name text))
tested_states tables name text plan (Ok p) reads same valid fails bad =
    record { read = reads ∙ ap (λ (x : Plan). Some x) (sym same); valid = subst (λ x. plan_fault tables x ≡ None) (sym same) valid }
tested_states tables name text plan (Err stop) reads same valid fails bad =
    on_input (λ bad. bad ≡ at name 1 why.BadPlan) (IsBadPlan tables name text) stop
    (λ b is. subst (IsBadPlan tables name text) (sym is) (record { name_is = refl; first = refl; fails = (plan, reads, fails) })) bad

-- no plan was read
pub not_plan : (tables : TableRows) (name text : List ℕ) (stop : Fault) → OnInput (IsNoPlan name text) stop → OnInput (IsBadPlan tables name text) stop
not_plan tables name text stop bad =
    on_input (IsNoPlan name text) (IsBadPlan tables name text) stop
    (λ b none. subst (IsBadPlan tables name text) (sym none.is) (record { name_is = refl; first = refl; fails = none.read })) bad

-- a record of candidates is bad
pub bad_record : (tables : TableRows) (plan : Plan) (name text : List ℕ) (line : ℕ) (reason : CandidateWhy) (stop : Fault) → AreCandidatesIn tables plan text (Err (record { line = line; why = reason }))
    → OnInput (λ bad. bad ≡ at name line (why.Candidate reason)) stop → OnInput (IsBadRecord tables plan name text) stop
bad_record tables plan name text line reason stop reads bad =
    on_input (λ bad. bad ≡ at name line (why.Candidate reason)) (IsBadRecord tables plan name text) stop
    (λ b is. subst (IsBadRecord tables plan name text) (sym is) (record { name_is = refl; fails = reads })) bad

-- the plan is good, and a record of the candidates is bad
pub bad_candidate : (tables : TableRows) (plan : Plan) (names texts : List (List ℕ)) (name text : List ℕ) (stop : Fault) → name ≡ second_of names → text ≡ second_of texts → StatesPlan tables (first_of texts) plan
    → OnInput (IsBadRecord tables plan name text) stop → OnInput (IsBadCandidate tables names texts) stop
bad_candidate tables plan names texts name text stop named read states bad =
    on_input (IsBadRecord tables plan name text) (IsBadCandidate tables names texts) stop
    (λ b is. record { plan = plan; plan_is = states; record_is = subst (λ x. IsBadRecord tables plan x (second_of texts) b) named (subst (λ x. IsBadRecord tables plan name x b) read is) }) bad

-- the plan is bad
pub bad_first : (tables : TableRows) (names texts : List (List ℕ)) (name text : List ℕ) (stop : Fault) → name ≡ first_of names → text ≡ first_of texts → OnInput (IsBadPlan tables name text) stop
    → OnInput (IsFirstBad tables names texts) stop
bad_first tables names texts name text stop named read bad =
    on_input (IsBadPlan tables name text) (IsFirstBad tables names texts) stop
    (λ b is. inl (subst (λ x. IsBadPlan tables x (first_of texts) b) named (subst (λ x. IsBadPlan tables name x b) read is))) bad

-- the plan is good
pub bad_second : (tables : TableRows) (names texts : List (List ℕ)) (r : Result Advising Fault) → MatchResult r (λ work. AreStated tables texts work.plan work.candidates) (OnInput (IsBadCandidate tables names texts))
    → MatchResult r (λ work. AreStated tables texts work.plan work.candidates) (OnInput (IsFirstBad tables names texts))
bad_second tables names texts (Ok work) states = states
bad_second tables names texts (Err stop) bad = on_input (IsBadCandidate tables names texts) (IsFirstBad tables names texts) stop (λ b is. inr is) bad

-- no desk is opened
pub is_refusal : (tables : TableRows) (names texts : List (List ℕ)) (stop : Fault) → OnInput (IsFirstBad tables names texts) stop → IsRefusal Advise tables names texts (Err stop)
is_refusal tables names texts (BadInput bad) is = is
is_refusal tables names texts OutOfMemory is = tt
is_refusal tables names texts other is = absurd is

-- ---- a file to check

-- it isn't a plan
pub unread : (name text : List ℕ) (stop : Fault) → plan_in text ≡ None → OnInput (λ bad. bad ≡ at name 1 why.NotPlan) stop → OnInput (IsNoPlan name text) stop
unread name text stop reads bad = on_input (λ bad. bad ≡ at name 1 why.NotPlan) (IsNoPlan name text) stop (λ b is. record { read = reads; is = is }) bad

-- no desk is opened for it
pub unread_refusal : (tables : TableRows) (names texts : List (List ℕ)) (name text : List ℕ) (stop : Fault) → name ≡ first_of names → text ≡ first_of texts → OnInput (IsNoPlan name text) stop
    → IsRefusal Check tables names texts (Err stop)
unread_refusal tables names texts name text (BadInput bad) named read is = subst (λ x. IsNoPlan x (first_of texts) bad) named (subst (λ x. IsNoPlan name x bad) read is)
unread_refusal tables names texts name text OutOfMemory named read is = tt
unread_refusal tables names texts name text other named read is = absurd is
