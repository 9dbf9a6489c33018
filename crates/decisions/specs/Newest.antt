-- The bounds of the newest revision of a stored release.
use Rattle.std.specs.Prelude.{◌≤◌, IfSome}
use Rattle.plan.specs.Check.{IsPlan}
use Rattle.plan.specs.Phases.{PhaseFits}
use Rattle.plan.specs.declared.release.Phase.{Phase}
use Rattle.plan.specs.declared.release.Release.{Release}
use Rattle.plan.specs.declared.release.Revision.{Revision}
use Rattle.desk_state.specs.Texts.{newest}

-- its plan is in bounds, its legs include the one that the phase names, and its number can be incremented
pub record IsNewest (phase : Phase) (v : Revision) : Type 0 where
  pub is_plan : IsPlan v.plan
  pub fits : PhaseFits phase v.plan.legs
  pub small : v.number ≤ 999_999_999_999_999

abbrev pub HasNewest : Release → Type 0
HasNewest r = IfSome (newest r.pending r.active) (IsNewest r.phase)
