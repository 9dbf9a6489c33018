use Rattle.std.proofs.Common.{◌≡◌, ℕ, ap, ◌∙◌}
use Rattle.std.proofs.lemmas.Result.{IfOk-weaker}
use Rattle.rules.specs.Grounds.{grounds_held}
use Rattle.rules.specs.Required.{required_of}
use Rattle.rules.proofs.RequiredLaws.{any_moment, compared}
use Rattle.rules.proofs.required.required_of.Goals as goal

pub returns-clause-value : goal.returns-clause-value
returns-clause-value c =
    IfOk-weaker c.required_now.result _ _ (λ n is moment. is ∙ ap (λ g. required_of c.args.plan.now c.args.phase c.args.leg g) c.held.ensures.grounds
    ∙ any_moment c.args.tables.now c.args.facts.now.reports c.args.deferrals.now.list c.args.plan.now 0 moment c.args.phase c.args.leg) c.required_now.ensures

pub returns-clause-compared : goal.returns-clause-compared
returns-clause-compared c =
    IfOk-weaker c.required_now.result _ _ (λ n is moment. compared c.args.plan.now c.args.phase c.args.leg (grounds_held c.args.tables.now c.args.facts.now.reports c.args.deferrals.now.list moment) n
    (is ∙ ap (λ g. required_of c.args.plan.now c.args.phase c.args.leg g) c.held.ensures.grounds
    ∙ any_moment c.args.tables.now c.args.facts.now.reports c.args.deferrals.now.list c.args.plan.now 0 moment c.args.phase c.args.leg)) c.required_now.ensures
