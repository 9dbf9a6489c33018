-- Lists of findings of unlike lengths aren't the same, and the same ones are equal.
use Rattle.std.proofs.Common.{◌≡◌, ◌<◌, true, false, List, [], ◌∷◌, length, refl, ap, ◌∙◌, arith}
use Rattle.plan.specs.declared.findings.Finding.{Finding}
use Rattle.plan.specs.Findings.{is_same}
use Rattle.plan.proofs.Rows.{same_finding}
use Rattle.alerts.specs.Alerts.{are_same}
use Rattle.std.proofs.lemmas.Bool.{and_parts}

pub too_short : (fs gs : List Finding) → 0 < length fs → length gs < 1 → are_same fs gs ≡ false
too_short [] gs some none = absurd (omega arith)
too_short (f ∷ fs) [] some none = refl
too_short (f ∷ fs) (g ∷ gs) some none = absurd (omega arith)

pub same_is : (fs gs : List Finding) → are_same fs gs ≡ true → fs ≡ gs
same_is [] [] e = refl
same_is [] (g ∷ gs) e = absurd (cc)
same_is (f ∷ fs) [] e = absurd (cc)
same_is (f ∷ fs) (g ∷ gs) e =
    let both = and_parts (is_same f g) (are_same fs gs) e in
    ap (λ h. h ∷ fs) (same_finding f g both.0) ∙ ap (λ rest. g ∷ rest) (same_is fs gs both.1)
