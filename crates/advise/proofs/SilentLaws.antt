-- No finding is against the alternates of a leg exactly if they are enough and usable.
use Rattle.std.proofs.Common.{◌≡◌, ℕ, ◌==◌, Bool, true, false, not, List, Contains, refl, subst}
use Rattle.std.specs.Prelude.{nat_le}
use Rattle.std.specs.List.{list_any}
use Rattle.std.proofs.lemmas.Bool.{and_parts, and_from, eqb-true, eq-eqb, leb-true, le-leb, not-true, not_from_false, false_from_ne_true, both_ways}
use Rattle.std.proofs.lemmas.List.Folds.{Any-from_list_any, list_any-from_Any}
use Rattle.plan.specs.declared.findings.Finding.{Finding}
use Rattle.plan.specs.declared.findings.Rule.{Rule}
use Rattle.plan.specs.declared.findings.Rule.TheVariants.{No7, No8, No9, No10, No13}
use Rattle.rules.specs.Judgement.{finding}
use Rattle.advise.specs.Legal.{IsSilentOnAlternates}
use Rattle.advise.specs.Search.{is_legal}
use Rattle.advise.specs.Verdicts.{asks_for_more, is_against, is_on, verdict_by}

module _ (fs : List Finding) (leg : ℕ) where
  -- a finding on the leg is met by a test that its rule and place meet
  met : (test : Rule → ℕ → Bool) (rule : Rule) (place : ℕ) → test rule place ≡ true → Contains fs (finding rule leg place) → list_any (is_on leg test) fs ≡ true
  met test rule place e there =
      list_any-from_Any (is_on leg test) fs (there.0, finding rule leg place, there.1, there.2, and_from (leg == leg) (test rule place) (eq-eqb leg leg refl) e)

  -- and what meets it is such a finding
  found : (test : Rule → ℕ → Bool) → ((rule : Rule) (place : ℕ) → test rule place ≡ true → Contains fs (finding rule leg place) → ⊥) → list_any (is_on leg test) fs ≡ false
  found test never = false_from_ne_true (list_any (is_on leg test) fs) (λ e.
      let any = Any-from_list_any (is_on leg test) fs e in
      let both = and_parts (any.1.leg == leg) (test any.1.rule any.1.place) any.4 in
      let there : Contains fs any.1 = (any.0, any.2, any.3) in
      never any.1.rule any.1.place both.1 (subst (λ n. Contains fs (finding any.1.rule n any.1.place)) (eqb-true any.1.leg leg both.0) there))

  none_asks : IsSilentOnAlternates fs leg → (rule : Rule) (place : ℕ) → asks_for_more rule ≡ true → Contains fs (finding rule leg place) → ⊥
  none_asks is No7 place e there = is.domestic_alternate place there
  none_asks is No8 place e there = is.second_alternate place there
  none_asks is No9 place e there = is.flag_alternate place there
  none_asks is _ place e there = absurd (cc)

  none_against : IsSilentOnAlternates fs leg → (rule : Rule) (place : ℕ) → is_against rule place ≡ true → Contains fs (finding rule leg place) → ⊥
  none_against is No10 place e there = is.weather place there
  none_against is No13 place e there = let within = and_parts (nat_le 1 place) (nat_le place 3) e in is.airports place (leb-true 1 place within.0) (leb-true place 3 within.1) there
  none_against is _ place e there = absurd (cc)

  pub legal_if_silent : (required : ℕ) → IsSilentOnAlternates fs leg → is_legal (verdict_by fs leg required) ≡ true
  legal_if_silent required is =
      and_from (not (list_any (is_on leg (λ rule place. asks_for_more rule)) fs)) (not (list_any (is_on leg is_against) fs))
      (not_from_false (list_any (is_on leg (λ rule place. asks_for_more rule)) fs) (found (λ rule place. asks_for_more rule) (none_asks is)))
      (not_from_false (list_any (is_on leg is_against) fs) (found is_against (none_against is)))

  pub silent_if_legal : (required : ℕ) → is_legal (verdict_by fs leg required) ≡ true → IsSilentOnAlternates fs leg
  silent_if_legal required e =
      let both = and_parts (not (list_any (is_on leg (λ rule place. asks_for_more rule)) fs)) (not (list_any (is_on leg is_against) fs)) e in
      let asks = not-true (list_any (is_on leg (λ rule place. asks_for_more rule)) fs) both.0 in
      let against = not-true (list_any (is_on leg is_against) fs) both.1 in
      record {
        domestic_alternate = λ place there. both_ways (list_any (is_on leg (λ rule place. asks_for_more rule)) fs) asks (met (λ rule place. asks_for_more rule) No7 place refl there);
        second_alternate = λ place there. both_ways (list_any (is_on leg (λ rule place. asks_for_more rule)) fs) asks (met (λ rule place. asks_for_more rule) No8 place refl there);
        flag_alternate = λ place there. both_ways (list_any (is_on leg (λ rule place. asks_for_more rule)) fs) asks (met (λ rule place. asks_for_more rule) No9 place refl there);
        weather = λ place there. both_ways (list_any (is_on leg is_against) fs) against (met is_against No10 place refl there);
        airports = λ place low high there. both_ways (list_any (is_on leg is_against) fs) against
            (met is_against No13 place (and_from (nat_le 1 place) (nat_le place 3) (le-leb 1 place low) (le-leb place 3 high)) there);
      }
