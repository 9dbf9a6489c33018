-- A stretch is read exactly where each of its groups has its shape.
use Rattle.std.proofs.Common.{◌≡◌, ℕ, ◌+◌, List, [], ◌∷◌, Option, None, Some, All, refl}
use Rattle.std.proofs.lemmas.List.Elements.{All-nil, All-cons}
use Rattle.codes.specs.Cond.{first_fault, fault_or, shape_fault}
use Rattle.codes.specs.declared.fault.Why.{Why}
use Rattle.codes.specs.declared.fault.BadReport.{BadReport}
use Rattle.codes.specs.declared.fault.Form.{Form}

pub no_fault_or : (why : Option Why) (n : ℕ) (later : Option BadReport) → fault_or why n later ≡ None → (why ≡ None) × (later ≡ None)
no_fault_or None n later e = (refl, e)
no_fault_or (Some why) n later e = absurd cc

pub each_is_shaped : (form : Form) (n : ℕ) (groups : List (List ℕ)) → first_fault form n groups ≡ None → All (λ g. shape_fault form g ≡ None) groups
each_is_shaped form n [] e = All-nil (λ g. shape_fault form g ≡ None)
each_is_shaped form n (g ∷ gs) e =
    let each = no_fault_or (shape_fault form g) n (first_fault form (n + 1) gs) e in
    All-cons (λ h. shape_fault form h ≡ None) g gs each.0 (each_is_shaped form (n + 1) gs each.1)
