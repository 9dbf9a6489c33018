-- The bounds within which releases are stored: moments from 2000 to 2099, and at most 1,000 legs.
use Rattle.std.specs.Prelude.{IfSome}
use Rattle.desk_time.specs.Limits.{IsMoment}
use Rattle.plan.specs.Check.{IsPlan}
use Rattle.plan.specs.Texts.{HasMoment}
use Rattle.plan.specs.declared.release.Release.{Release}
use Rattle.plan.specs.declared.release.Revision.{Revision}

-- a revision with a plan in bounds, whose signatures have moments from 2000 to 2099
pub record RevisionInBounds (v : Revision) : Type 0 where
  pub is_plan : IsPlan v.plan
  pub dispatcher : IfSome v.dispatcher (λ signature. IsMoment signature.at)
  pub captain : IfSome v.captain (λ signature. IsMoment signature.at)

-- a release whose phase has a moment from 2000 to 2099, if any, and whose revisions are in bounds
pub record ReleaseInBounds (r : Release) : Type 0 where
  pub moment : HasMoment r.phase
  pub pending : IfSome r.pending RevisionInBounds
  pub active : IfSome r.active RevisionInBounds
