-- The texts of findings and phases.
use Rattle.std.specs.Prelude.{ℕ, Bool, true, false, List, [], ◌∷◌, ◌++◌, codes, decimal}
use Rattle.std.specs.List.{concat}
use Rattle.desk_time.specs.Limits.{IsMoment}
use Rattle.desk_time.specs.Moments.{shown}
use Rattle.plan.specs.Findings.{code_of}
use Rattle.plan.specs.declared.findings.Finding.{Finding}
use Rattle.plan.specs.declared.release.Phase.{Phase}
use Rattle.plan.specs.declared.release.Phase.TheVariants.{Drafted, Ready, Flying, Stopped, Completed, Cancelled}

-- the rule's code, the leg and the place
unfoldable pub finding_text : Finding → List ℕ
finding_text f = concat (code_of f.rule ∷ codes "/" ∷ decimal f.leg ∷ codes "/" ∷ decimal f.place ∷ [])

abbrev pub again_text : Bool → List ℕ
again_text true = codes " AGAIN"
again_text false = []

unfoldable pub phase_text : Phase → List ℕ
phase_text Drafted = codes "DRAFTED"
phase_text Ready = codes "READY 1"
phase_text (Flying leg) = codes "FLYING " ++ decimal leg
phase_text (Stopped next since again) = concat (codes "STOPPED " ∷ decimal next ∷ codes " " ∷ shown since ∷ again_text again ∷ [])
phase_text (Completed at) = codes "COMPLETED " ++ shown at
phase_text (Cancelled at) = codes "CANCELLED " ++ shown at

abbrev pub HasMoment : Phase → Type 0
HasMoment Drafted = Unit {0}
HasMoment Ready = Unit {0}
HasMoment (Flying leg) = Unit {0}
HasMoment (Stopped next since again) = IsMoment since
HasMoment (Completed at) = IsMoment at
HasMoment (Cancelled at) = IsMoment at
