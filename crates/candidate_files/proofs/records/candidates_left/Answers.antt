use Rattle.std.proofs.Common.{◌≡◌, ◌∙◌, sym, ap, subst, refl, [], ◌∷◌, ◌++◌, length, ◌+◌, List, Result, Ok, Err, Some, arith, length-append}
use Rattle.csv_text.specs.Records.{AreRecordsOf, GivesNext}
use Rattle.table_files.proofs.Steps.{one_more, no_more, one_tells}
use Rattle.advise.specs.declared.candidates.Candidate.{Candidate}
use Rattle.candidate_files.specs.declared.records.BadCandidate.{BadCandidate}
use Rattle.candidate_files.specs.Candidates.{IsNew, candidate_after, candidates_after}
use Rattle.candidate_files.proofs.CandidateLaws.{told, good, bad, ends, one_more_is}
use Rattle.candidate_files.proofs.records.candidates_left.Goals as goal

pub returns-in_default-clause-value : goal.returns-in_default-clause-value
returns-in_default-clause-value c = λ text earlier h.
    let t = c.args.tables.now in
    let p = c.args.plan.now in
    let before = c.loop-candidates.candidates in
    let a = c.loop-candidates.invariant.after text earlier h in
    let all : AreRecordsOf text (earlier ++ a.seen) = rw c.in_default.is at (c.in_ok-fields.ensures.given text (earlier ++ a.seen) a.given) in
    ends t p text earlier (Ok before) (no_more text earlier (candidates_after t p []) (candidates_after t p before) (Ok before) c.loop-candidates.reader a all refl)

pub returns-in-Err-clause-value : goal.returns-in-Err-clause-value
returns-in-Err-clause-value c = λ text earlier h.
    let t = c.args.tables.now in
    let p = c.args.plan.now in
    let before = c.loop-candidates.candidates in
    let a = c.loop-candidates.invariant.after text earlier h in
    let given : GivesNext 5 text (earlier ++ a.seen) (Some c.in-Some.fields) c.next.new.self = rw c.in-Some.is at (c.in_ok-fields.ensures.given text (earlier ++ a.seen) a.given) in
    let fails : candidate_after t p before given.0 ≡ Err c.in-Err.why =
    sym (told t p before given.0 c.in-Some.fields given.2)
    ∙ sym (c.in-Err.ensures.value ∙ ap (λ e. candidate_after t p e c.as_slice.result.now) c.as_slice-earlier.ensures ∙ ap (candidate_after t p before) c.as_slice.ensures) in
    let counted = sym (ap length c.as_slice-earlier.ensures) in
    let says : ◌≡◌ {A = Result (List Candidate) BadCandidate} (Err (record { line = length before + 2; why = c.in-Err.why })) (Err c.bad_after.result) =
    ap (λ n. Err (record { line = n + 2; why = c.in-Err.why })) counted ∙ ap Err (sym c.bad_after.ensures) in
    ends t p text earlier (Err c.bad_after.result)
    (one_tells text earlier (candidates_after t p []) (candidates_after t p before) (Err c.bad_after.result) c.loop-candidates.reader c.next.new.self given.0 a given.1
    (λ others. bad t p before c.in-Err.why given.0 others fails ∙ says))

pub loop-candidates-preserved : goal.loop-candidates-preserved
loop-candidates-preserved c =
    let t = c.args.tables.now in
    let p = c.args.plan.now in
    let before = c.loop-candidates.candidates in
    let candidate = c.in-Ok.candidate in
    let new : IsNew t p before candidate = subst (λ e. IsNew t p e candidate) c.as_slice-earlier.ensures c.in-Ok.ensures.new in
    let room = c.in-Ok.ensures.room in
    let same = ap length c.as_slice-earlier.ensures in
    rw c.in_ok-push-in-Ok.ensures.ok (record {
      after = λ text earlier h.
          let a = c.loop-candidates.invariant.after text earlier h in
          let given : GivesNext 5 text (earlier ++ a.seen) (Some c.in-Some.fields) c.next.new.self = rw c.in-Some.is at (c.in_ok-fields.ensures.given text (earlier ++ a.seen) a.given) in
          let passes : candidate_after t p before given.0 ≡ Ok candidate =
          sym (told t p before given.0 c.in-Some.fields given.2)
          ∙ sym (c.in-Ok.ensures.value ∙ ap (λ e. candidate_after t p e c.as_slice.result.now) c.as_slice-earlier.ensures ∙ ap (candidate_after t p before) c.as_slice.ensures) in
          one_more text earlier (candidates_after t p []) (candidates_after t p before) (candidates_after t p (before ++ candidate ∷ [])) c.loop-candidates.reader c.next.new.self given.0 a given.1
          (λ others. good t p before candidate given.0 others passes);
      within = omega (arith, room, same, length-append before (candidate ∷ []));
      are = one_more_is t p before candidate c.loop-candidates.invariant.are new;
    })
