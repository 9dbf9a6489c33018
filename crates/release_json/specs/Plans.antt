-- Releases whose plans are in bounds, so that the text of each revision can be computed.
use Rattle.std.specs.Prelude.{Option, IfSome}
use Rattle.plan.specs.Check.{IsPlan}
use Rattle.plan.specs.declared.release.Release.{Release}
use Rattle.plan.specs.declared.release.Revision.{Revision}

abbrev pub MayHavePlan : Option Revision → Type 0
MayHavePlan revision = IfSome revision (λ v. IsPlan v.plan)

pub record HasPlans (r : Release) : Type 0 where
  pub pending : MayHavePlan r.pending
  pub active : MayHavePlan r.active
