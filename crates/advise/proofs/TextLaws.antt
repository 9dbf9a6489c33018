-- One more line of advice, and how many steps are counted up to it.
use Rattle.std.proofs.Common.{◌≡◌, ℕ, ◌+◌, ◌≤◌, ◌==◌, Bool, true, false, cond, List, [], ◌∷◌, ◌++◌, length, map, filter, Option, refl, sym, ap, subst, ◌∙◌, append-nil, append_assoc, length-append, lit≤, arith}
use Rattle.std.specs.Prelude.{nat_le}
use Rattle.std.proofs.lemmas.Bool.{eqb-true, leb-true, leb-false}
use Rattle.plan.specs.declared.flights.Plan.{Plan}
use Rattle.plan.specs.declared.release.Phase.TheVariants.{Ready}
use Rattle.rules.specs.Grounds.{Grounds}
use Rattle.advise.specs.declared.advice.Advice.{Advice}
use Rattle.advise.specs.declared.candidates.Candidate.{Candidate}
use Rattle.advise.specs.Advice.{Advises}
use Rattle.advise.specs.Candidates.{choices_for}
use Rattle.advise.specs.Legal.{question}
use Rattle.advise.specs.Text.{advice_line, advice_lines, AreAdvised, IsAdviceText}

-- three pieces that are added one after another
pub pieces : (before head middle last one two three : List ℕ) → one ≡ before ++ head → two ≡ one ++ middle → three ≡ two ++ last → three ≡ before ++ ((head ++ middle) ++ last)
pieces before head middle last one two three a b c =
    c ∙ ap (λ x. x ++ last) (b ∙ ap (λ x. x ++ middle) a ∙ append_assoc before head middle) ∙ append_assoc before (head ++ middle) last

lines_push : (n : ℕ) (advices : List (Option Advice)) (advice : Option Advice) → advice_lines n (advices ++ advice ∷ []) ≡ advice_lines n advices ++ advice_line (n + length advices) advice
lines_push n [] advice = append-nil (advice_line n advice) ∙ ap (λ m. advice_line m advice) (omega arith)
lines_push n (first ∷ rest) advice =
    ap (λ more. advice_line n first ++ more) (lines_push (n + 1) rest advice)
    ∙ sym (append_assoc (advice_line n first) (advice_lines (n + 1) rest) (advice_line (n + 1 + length rest) advice))
    ∙ ap (λ m. (advice_line n first ++ advice_lines (n + 1) rest) ++ advice_line m advice) (omega arith)

module _ (plan : Plan) (candidates : List Candidate) (g : Grounds) where
  advised_push : (n : ℕ) (advices : List (Option Advice)) (advice : Option Advice) → AreAdvised plan candidates g n advices → Advises (question plan Ready (n + length advices) candidates g) advice
      → AreAdvised plan candidates g n (advices ++ advice ∷ [])
  advised_push n [] advice are is = (subst (λ m. Advises (question plan Ready m candidates g) advice) (omega arith) is, tt)
  advised_push n (first ∷ rest) advice are is =
      (are.0, advised_push (n + 1) rest advice are.1 (subst (λ m. Advises (question plan Ready m candidates g) advice) (omega arith) is))

  -- the lines of the first legs
  pub record AreLines (count : ℕ) (text : List ℕ) : Type 0 where
    pub advices : List (Option Advice)
    pub counted : length advices ≡ count
    pub are : AreAdvised plan candidates g 1 advices
    pub is : text ≡ advice_lines 1 advices

  pub no_lines : AreLines 0 []
  no_lines = record { advices = []; counted = refl; are = tt; is = refl }

  pub one_line : (count : ℕ) (text more : List ℕ) (advice : Option Advice) → AreLines count text → Advises (question plan Ready (count + 1) candidates g) advice
      → more ≡ text ++ advice_line (count + 1) advice → AreLines (count + 1) more
  one_line count text more advice lines is grows =
      let counted = lines.counted in
      let number : count + 1 ≡ 1 + length lines.advices = omega (arith, counted) in
      record {
        advices = lines.advices ++ advice ∷ [];
        counted = omega (arith, counted, length-append lines.advices (advice ∷ []));
        are = advised_push 1 lines.advices advice lines.are (subst (λ m. Advises (question plan Ready m candidates g) advice) number is);
        is = grows ∙ ap (λ before. before ++ advice_line (count + 1) advice) lines.is ∙ ap (λ m. advice_lines 1 lines.advices ++ advice_line m advice) number ∙ sym (lines_push 1 lines.advices advice);
      }

  pub all_lines : (text : List ℕ) → AreLines (length plan.legs) text → IsAdviceText plan candidates g text
  all_lines text lines = record { advices = lines.advices; count = lines.counted; are = lines.are; is = lines.is }

-- how many candidates there are for the first n legs
abbrev pub count_up_to : ℕ → List Candidate → ℕ
count_up_to n [] = 0
count_up_to n (c ∷ candidates) = cond (nat_le c.leg n) (1 + count_up_to n candidates) (count_up_to n candidates)

pub counts_few : (n : ℕ) (candidates : List Candidate) → count_up_to n candidates ≤ length candidates
counts_few n [] = lit≤ tt
counts_few n (c ∷ candidates) = by (nat_le c.leg n) (counts_few n candidates)
  where
    by : (b : Bool) → count_up_to n candidates ≤ length candidates → cond b (1 + count_up_to n candidates) (count_up_to n candidates) ≤ length (c ∷ candidates)
    by true few = omega (arith, few)
    by false few = omega (arith, few)

-- the candidates for one more leg
pub counts_more : (n : ℕ) (candidates : List Candidate) → length (choices_for (n + 1) candidates) + count_up_to n candidates ≤ count_up_to (n + 1) candidates
counts_more n [] = lit≤ tt
counts_more n (c ∷ candidates) = by (c.leg == n + 1) (nat_le c.leg n) (nat_le c.leg (n + 1)) refl refl refl (counts_more n candidates)
  where
    by : (here before by_then : Bool) → (c.leg == n + 1) ≡ here → nat_le c.leg n ≡ before → nat_le c.leg (n + 1) ≡ by_then
        → length (choices_for (n + 1) candidates) + count_up_to n candidates ≤ count_up_to (n + 1) candidates
        → length (map (λ it. it.alternate) (cond here (c ∷ filter (λ it. it.leg == n + 1) candidates) (filter (λ it. it.leg == n + 1) candidates)))
        + cond before (1 + count_up_to n candidates) (count_up_to n candidates) ≤ cond by_then (1 + count_up_to (n + 1) candidates) (count_up_to (n + 1) candidates)
    by true true d h b t more = let same = eqb-true c.leg (n + 1) h in let low = leb-true c.leg n b in absurd (omega (arith, same, low))
    by true false true h b t more = omega (arith, more)
    by true false false h b t more = let same = eqb-true c.leg (n + 1) h in let high = leb-false c.leg (n + 1) t in absurd (omega (arith, same, high))
    by false true true h b t more = omega (arith, more)
    by false true false h b t more = let low = leb-true c.leg n b in let high = leb-false c.leg (n + 1) t in absurd (omega (arith, low, high))
    by false false true h b t more = omega (arith, more)
    by false false false h b t more = more
