-- The text of a phase is read as it, and what is read of a phase has its form.
use Rattle.std.proofs.Common.{◌≡◌, ◌↔◌, ℕ, ◌≤◌, Bool, true, false, List, [], ◌∷◌, ◌++◌, length, take, drop, Option, None, Some, IfSome, codes, decimal, refl, ap, sym, subst, ◌∙◌, arith, nat_le, bytes_eq, take-append-drop}
use Rattle.std.proofs.lemmas.Slice.Eq.{bytes_eq-Decides}
use Rattle.desk_time.specs.Digits.{◌>>=◌}
use Rattle.desk_time.specs.Moments.{shown, minute_of}
use Rattle.desk_time.proofs.MomentLaws.{minute_again}
use Rattle.desk_time.proofs.ReadLaws.{minute_is_shown}
use Rattle.plan.specs.Texts.{phase_text, again_text}
use Rattle.desk_time.specs.Limits.{IsMoment}
use Rattle.plan.specs.declared.release.Phase.{Phase}
use Rattle.plan.specs.declared.release.Phase.TheVariants.{Drafted, Ready, Flying, Stopped, Completed, Cancelled}
use Rattle.release_json.specs.Cuts.{leg_of, cut}
use Rattle.release_json.specs.Phases.{ready_of, flying_of, again_of, stopped_since, stopped_before, stopped_with, stopped_of, completed_of, cancelled_of, phase_with, phase_in, phase_of, IsPhase}
use Rattle.desk_time.proofs.Chains.{bind_if, bind_any, under, either, either_known}
use Rattle.desk_time.proofs.NumberLaws.{number_within, number_back}
use Rattle.release_json.proofs.CutLaws.{leg_again, IsCut, cut_at, cut_back}
use Rattle.release_text.proofs.Pieces.{decimal_free}
use Rattle.asks.proofs.MomentRange.{minute_within}

-- a word and what stands after it
named : (word rest text : List ℕ) → text ≡ word ++ 32 ∷ rest → cut 32 (word ++ 32 ∷ rest) ≡ Some (word, rest) → phase_in text (cut 32 text) ≡ phase_with (word, rest)
named word rest text is at = rw is (ap (phase_in (word ++ 32 ∷ rest)) at)

since_again : (next since : ℕ) (again : Bool) → IsMoment since → stopped_before next (shown since ++ (again_text again ++ [])) ≡ Some (Stopped next since again)
since_again next since true is = rw (minute_again since is.0 is.1) refl
since_again next since false is = rw (minute_again since is.0 is.1) refl

stopped_again : (next since : ℕ) (again : Bool) → next ≤ 4_294_967_295 → IsMoment since
    → stopped_of (decimal next ++ 32 ∷ (shown since ++ (again_text again ++ []))) ≡ Some (Stopped next since again)
stopped_again next since again few is =
    ap (λ o. o >>= stopped_with) (cut_at 32 (decimal next) (shown since ++ (again_text again ++ [])) (decimal_free 32 next refl (omega arith)))
    ∙ rw (leg_again next few) (since_again next since again is)

-- the phase whose text it is
pub phase_again : (p : Phase) → IsPhase p → phase_of (phase_text p) ≡ Some p
unfolding phase_of phase_text
phase_again Drafted is = refl
phase_again Ready is = refl
phase_again (Flying leg) is = named (codes "FLYING") (decimal leg) _ refl (cut_at 32 (codes "FLYING") (decimal leg) refl) ∙ rw (leg_again leg is) refl
phase_again (Stopped next since again) is =
    named (codes "STOPPED") (decimal next ++ 32 ∷ (shown since ++ (again_text again ++ []))) _ refl (cut_at 32 (codes "STOPPED") (decimal next ++ 32 ∷ (shown since ++ (again_text again ++ []))) refl)
    ∙ stopped_again next since again is.0 is.1
phase_again (Completed at) is = named (codes "COMPLETED") (shown at) _ refl (cut_at 32 (codes "COMPLETED") (shown at) refl) ∙ rw (minute_again at is.0 is.1) refl
phase_again (Cancelled at) is = named (codes "CANCELLED") (shown at) _ refl (cut_at 32 (codes "CANCELLED") (shown at) refl) ∙ rw (minute_again at is.0 is.1) refl

-- ---- what is read has its form

leg_within : (text : List ℕ) → IfSome (leg_of text) (λ leg. leg ≤ 4_294_967_295)
leg_within text = number_within 4_294_967_295 text

flying_formed : (rest : List ℕ) → IfSome (flying_of rest) IsPhase
flying_formed rest = bind_if (leg_of rest) _ (λ leg. leg ≤ 4_294_967_295) IsPhase (leg_within rest) (λ leg few. few)

again_formed : (next since : ℕ) (rest : List ℕ) → next ≤ 4_294_967_295 → IsMoment since → IfSome (again_of rest >>= λ again. Some (Stopped next since again)) IsPhase
again_formed next since rest few is = bind_any (again_of rest) (λ again. Some (Stopped next since again)) IsPhase (λ again. let parts : IsPhase (Stopped next since again) = (few, is) in parts)

since_formed : (next : ℕ) (moment rest : List ℕ) → next ≤ 4_294_967_295 → IfSome (stopped_since next moment rest) IsPhase
since_formed next moment rest few =
    bind_if (minute_of moment) (λ since. again_of rest >>= λ again. Some (Stopped next since again)) IsMoment IsPhase (minute_within moment) (λ since is. again_formed next since rest few is)

before_formed : (next : ℕ) (rest : List ℕ) → next ≤ 4_294_967_295 → IfSome (stopped_before next rest) IsPhase
before_formed next rest few =
    under (nat_le 17 (length rest)) (stopped_since next (take 17 rest) (drop 17 rest)) IsPhase (λ long. since_formed next (take 17 rest) (drop 17 rest) few)

stopped_formed : (rest : List ℕ) → IfSome (stopped_of rest) IsPhase
stopped_formed rest =
    bind_any (cut 32 rest) _ IsPhase (λ halves. bind_if (leg_of halves.0) _ (λ leg. leg ≤ 4_294_967_295) IsPhase (leg_within halves.0) (λ next few. before_formed next halves.1 few))

completed_formed : (rest : List ℕ) → IfSome (completed_of rest) IsPhase
completed_formed rest = bind_if (minute_of rest) _ IsMoment IsPhase (minute_within rest) (λ at is. is)

cancelled_formed : (rest : List ℕ) → IfSome (cancelled_of rest) IsPhase
cancelled_formed rest = bind_if (minute_of rest) _ IsMoment IsPhase (minute_within rest) (λ at is. is)

ready_formed : (rest : List ℕ) → IfSome (ready_of rest) IsPhase
ready_formed rest = under (bytes_eq rest (codes "1")) (Some Ready) IsPhase (λ is. tt)

with_formed : (halves : List ℕ × List ℕ) → IfSome (phase_with halves) IsPhase
with_formed halves =
    either (bytes_eq halves.0 (codes "READY")) _ _ IsPhase (ready_formed halves.1)
    (either (bytes_eq halves.0 (codes "FLYING")) _ _ IsPhase (flying_formed halves.1)
    (either (bytes_eq halves.0 (codes "STOPPED")) _ _ IsPhase (stopped_formed halves.1)
    (either (bytes_eq halves.0 (codes "COMPLETED")) _ _ IsPhase (completed_formed halves.1)
    (under (bytes_eq halves.0 (codes "CANCELLED")) (cancelled_of halves.1) IsPhase (λ is. cancelled_formed halves.1)))))

in_formed : (text : List ℕ) (o : Option (List ℕ × List ℕ)) → IfSome (phase_in text o) IsPhase
in_formed text None = under (bytes_eq text (codes "DRAFTED")) (Some Drafted) IsPhase (λ is. tt)
in_formed text (Some halves) = with_formed halves

pub phase_formed : (text : List ℕ) → IfSome (phase_of text) IsPhase
unfolding phase_of
phase_formed text = in_formed text (cut 32 text)

-- ---- only the text of a phase is read

abbrev Writes : List ℕ → Phase → Type 0
Writes text p = phase_text p ≡ text

read_back : (text : List ℕ) (o : Option ℕ) → minute_of text ≡ o → IfSome o (λ at. shown at ≡ text)
read_back text None is = tt
read_back text (Some at) is = sym (minute_is_shown text at is)

minute_back : (text : List ℕ) → IfSome (minute_of text) (λ at. shown at ≡ text)
minute_back text = read_back text (minute_of text) refl

ready_back : (rest : List ℕ) → IfSome (ready_of rest) (Writes (codes "READY " ++ rest))
unfolding phase_text
ready_back rest = under (bytes_eq rest (codes "1")) (Some Ready) (Writes (codes "READY " ++ rest)) (λ is. ap (λ (l : List ℕ). codes "READY " ++ l) (sym ((bytes_eq-Decides rest (codes "1")).0 is)))

flying_back : (rest : List ℕ) → IfSome (flying_of rest) (Writes (codes "FLYING " ++ rest))
unfolding phase_text
flying_back rest =
    bind_if (leg_of rest) (λ leg. Some (Flying leg)) (λ leg. decimal leg ≡ rest) (Writes (codes "FLYING " ++ rest)) (number_back 4_294_967_295 rest (omega arith)) (λ leg same. ap (λ (l : List ℕ). codes "FLYING " ++ l) same)

completed_back : (rest : List ℕ) → IfSome (completed_of rest) (Writes (codes "COMPLETED " ++ rest))
unfolding phase_text
completed_back rest =
    bind_if (minute_of rest) (λ at. Some (Completed at)) (λ at. shown at ≡ rest) (Writes (codes "COMPLETED " ++ rest)) (minute_back rest) (λ at same. ap (λ (l : List ℕ). codes "COMPLETED " ++ l) same)

cancelled_back : (rest : List ℕ) → IfSome (cancelled_of rest) (Writes (codes "CANCELLED " ++ rest))
unfolding phase_text
cancelled_back rest =
    bind_if (minute_of rest) (λ at. Some (Cancelled at)) (λ at. shown at ≡ rest) (Writes (codes "CANCELLED " ++ rest)) (minute_back rest) (λ at same. ap (λ (l : List ℕ). codes "CANCELLED " ++ l) same)

again_back : (rest : List ℕ) → IfSome (again_of rest) (λ again. again_text again ++ [] ≡ rest)
again_back rest =
    either_known (bytes_eq rest []) (Some false) _ (λ again. again_text again ++ [] ≡ rest) (λ is. sym ((bytes_eq-Decides rest []).0 is))
    (under (bytes_eq rest (codes " AGAIN")) (Some true) (λ again. again_text again ++ [] ≡ rest) (λ is. sym ((bytes_eq-Decides rest (codes " AGAIN")).0 is)))

stopped_is : (next since : ℕ) (again : Bool) (number moment rest : List ℕ) → decimal next ≡ number → shown since ≡ moment → again_text again ++ [] ≡ rest
    → Writes (codes "STOPPED " ++ (number ++ 32 ∷ (moment ++ rest))) (Stopped next since again)
unfolding phase_text
stopped_is next since again number moment rest one two three =
    ap (λ (l : List ℕ). codes "STOPPED " ++ (l ++ 32 ∷ (shown since ++ (again_text again ++ [])))) one
    ∙ ap (λ (l : List ℕ). codes "STOPPED " ++ (number ++ 32 ∷ (l ++ (again_text again ++ [])))) two
    ∙ ap (λ (l : List ℕ). codes "STOPPED " ++ (number ++ 32 ∷ (moment ++ l))) three

since_back : (next : ℕ) (number moment rest : List ℕ) → decimal next ≡ number → IfSome (stopped_since next moment rest) (Writes (codes "STOPPED " ++ (number ++ 32 ∷ (moment ++ rest))))
since_back next number moment rest one =
    let Q = Writes (codes "STOPPED " ++ (number ++ 32 ∷ (moment ++ rest))) in
    bind_if (minute_of moment) (λ since. again_of rest >>= λ again. Some (Stopped next since again)) (λ since. shown since ≡ moment) Q (minute_back moment) (λ since two.
    bind_if (again_of rest) (λ again. Some (Stopped next since again)) (λ again. again_text again ++ [] ≡ rest) Q (again_back rest) (λ again three. stopped_is next since again number moment rest one two three))

before_back : (next : ℕ) (number rest : List ℕ) → decimal next ≡ number → IfSome (stopped_before next rest) (Writes (codes "STOPPED " ++ (number ++ 32 ∷ rest)))
before_back next number rest one =
    under (nat_le 17 (length rest)) (stopped_since next (take 17 rest) (drop 17 rest)) (Writes (codes "STOPPED " ++ (number ++ 32 ∷ rest))) (λ long.
    subst (λ (l : List ℕ). IfSome (stopped_since next (take 17 rest) (drop 17 rest)) (Writes (codes "STOPPED " ++ (number ++ 32 ∷ l)))) (take-append-drop 17 rest) (since_back next number (take 17 rest) (drop 17 rest) one))

parts_back : (halves : List ℕ × List ℕ) → IfSome (stopped_with halves) (Writes (codes "STOPPED " ++ (halves.0 ++ 32 ∷ halves.1)))
parts_back halves =
    bind_if (leg_of halves.0) (λ next. stopped_before next halves.1) (λ next. decimal next ≡ halves.0) (Writes (codes "STOPPED " ++ (halves.0 ++ 32 ∷ halves.1))) (number_back 4_294_967_295 halves.0 (omega arith)) (λ next one.
    before_back next halves.0 halves.1 one)

stopped_back : (rest : List ℕ) → IfSome (stopped_of rest) (Writes (codes "STOPPED " ++ rest))
stopped_back rest =
    bind_if (cut 32 rest) stopped_with (IsCut 32 rest) (Writes (codes "STOPPED " ++ rest)) (cut_back 32 rest) (λ halves is.
    subst (λ (l : List ℕ). IfSome (stopped_with halves) (Writes (codes "STOPPED " ++ l))) (sym is) (parts_back halves))

-- a word that is the first half
under_word : (word : List ℕ) (halves : List ℕ × List ℕ) (o : Option Phase) → bytes_eq halves.0 word ≡ true → IfSome o (Writes (word ++ 32 ∷ halves.1)) → IfSome o (Writes (halves.0 ++ 32 ∷ halves.1))
under_word word halves o is held = subst (λ (l : List ℕ). IfSome o (Writes (l ++ 32 ∷ halves.1))) (sym ((bytes_eq-Decides halves.0 word).0 is)) held

with_back : (halves : List ℕ × List ℕ) → IfSome (phase_with halves) (Writes (halves.0 ++ 32 ∷ halves.1))
with_back halves =
    let Q = Writes (halves.0 ++ 32 ∷ halves.1) in
    either_known (bytes_eq halves.0 (codes "READY")) (ready_of halves.1) _ Q (λ is. under_word (codes "READY") halves (ready_of halves.1) is (ready_back halves.1))
    (either_known (bytes_eq halves.0 (codes "FLYING")) (flying_of halves.1) _ Q (λ is. under_word (codes "FLYING") halves (flying_of halves.1) is (flying_back halves.1))
    (either_known (bytes_eq halves.0 (codes "STOPPED")) (stopped_of halves.1) _ Q (λ is. under_word (codes "STOPPED") halves (stopped_of halves.1) is (stopped_back halves.1))
    (either_known (bytes_eq halves.0 (codes "COMPLETED")) (completed_of halves.1) _ Q (λ is. under_word (codes "COMPLETED") halves (completed_of halves.1) is (completed_back halves.1))
    (under (bytes_eq halves.0 (codes "CANCELLED")) (cancelled_of halves.1) Q (λ is. under_word (codes "CANCELLED") halves (cancelled_of halves.1) is (cancelled_back halves.1))))))

in_back : (text : List ℕ) (o : Option (List ℕ × List ℕ)) → IfSome o (IsCut 32 text) → IfSome (phase_in text o) (Writes text)
unfolding phase_text
in_back text None is = under (bytes_eq text (codes "DRAFTED")) (Some Drafted) (Writes text) (λ same. sym ((bytes_eq-Decides text (codes "DRAFTED")).0 same))
in_back text (Some halves) is = subst (λ (l : List ℕ). IfSome (phase_with halves) (Writes l)) (sym is) (with_back halves)

-- what is read of a text is the phase whose text it is
pub phase_back : (text : List ℕ) → IfSome (phase_of text) (λ p. phase_text p ≡ text)
unfolding phase_of
phase_back text = in_back text (cut 32 text) (cut_back 32 text)

of_some : (text : List ℕ) (o : Option Phase) (p : Phase) → o ≡ Some p → IfSome o IsPhase → IfSome o (λ q. phase_text q ≡ text) → IsPhase p × (text ≡ phase_text p)
of_some text None p is formed same = absurd (cc is)
of_some text (Some q) p is formed same = let e : q ≡ p = cc is in rw (← e) (formed, sym same)

-- a text is read as a phase exactly where it is its text
pub phase_exact : (text : List ℕ) (read : Option Phase) → read ≡ phase_of text → (p : Phase) → (read ≡ Some p) ↔ (IsPhase p × (text ≡ phase_text p))
phase_exact text read is p = (
  λ found. of_some text (phase_of text) p (sym is ∙ found) (phase_formed text) (phase_back text),
  λ all. is ∙ ap phase_of all.1 ∙ phase_again p all.0,
)
