use Rattle.std.proofs.Common.{sym, subst, Option, IfSome}
use Rattle.std.proofs.lemmas.Result.{IfOk-weaker}
use Rattle.serde_json.specs.View.{view}
use Rattle.plan.specs.declared.release.Release.{Release}
use Rattle.release_json.specs.Plans.{HasPlans}
use Rattle.release_json.proofs.ReleaseForms.{release_plans}
use Rattle.release_json.proofs.releases.release_found.Goals as goal

pub returns-clause-plans : goal.returns-clause-plans
returns-clause-plans c =
    IfOk-weaker c.release_in.result _ _ (λ r is. subst (λ (o : Option Release). IfSome o HasPlans) (sym is) (release_plans c.args.version c.args.id (view c.args.value.now))) c.release_in.ensures
