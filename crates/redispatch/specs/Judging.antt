-- The findings on the active plan of a release and on its final plan.
use Rattle.std.specs.Prelude.{◌≡◌, List, Option, IfSome}
use Rattle.plan.specs.declared.findings.Finding.{Finding}
use Rattle.plan.specs.declared.release.Phase.TheVariants.{Flying}
use Rattle.plan.specs.declared.release.Release.{Release}
use Rattle.rules.specs.Grounds.{Grounds}
use Rattle.rules.specs.Judgement.{findings_of}
use Rattle.redispatch.specs.declared.planned.Filed.{Filed}

-- the findings are those of the active plan in the phase of its release
abbrev pub AreInitial : Release → Grounds → List Finding → Type 0
AreInitial r g findings = IfSome r.active (λ v. findings ≡ findings_of v.plan r.phase g)

-- the findings are those of the final plan while its leg is in flight
abbrev pub AreLast : Option Filed → Grounds → List Finding → Type 0
AreLast filed g findings = IfSome filed (λ f. findings ≡ findings_of f.plan (Flying f.leg) g)
