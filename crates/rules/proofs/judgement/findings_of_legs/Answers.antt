use Rattle.std.proofs.Common.{ap, ◌∙◌}
use Rattle.std.specs.Option.{option_copied, option_map}
use Rattle.std.proofs.lemmas.Result.{IfOk-weaker}
use Rattle.plan.specs.Findings.{rules_of_legs}
use Rattle.rules.specs.Sights.{case_by, sights_from, findings_in_all}
use Rattle.rules.proofs.judgement.findings_of_legs.Goals as goal

pub returns : goal.returns
returns c =
    IfOk-weaker c.findings_in.result _ _
    (λ f is.
    is
    ∙ ap (λ rules. findings_in_all rules c.deref.result.now) c.rules_of_legs.ensures
    ∙ ap (λ seen. findings_in_all rules_of_legs seen)
    (c.deref.ensures.value ∙ c.in_ok-sights.ensures.value ∙ ap (λ legs. sights_from c.args.times.now (option_map case_by (option_copied c.args.circumstances)) 1 legs) c.as_slice.ensures))
    c.findings_in.ensures
