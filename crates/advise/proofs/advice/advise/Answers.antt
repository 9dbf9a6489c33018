use Rattle.std.proofs.Common.{sym, ap, subst, ◌∙◌}
use Rattle.std.proofs.lemmas.Result.{IfOk-weaker}
use Rattle.rules.specs.Grounds.{Grounds, grounds_held}
use Rattle.advise.specs.Advice.{Advises}
use Rattle.advise.specs.Legal.{question}
use Rattle.advise.specs.Search.{advice_by}
use Rattle.advise.specs.Verdicts.{verdict_of}
use Rattle.advise.proofs.AdviceLaws.{advises}
use Rattle.advise.proofs.advice.advise.Goals as goal

pub returns-clause-advice : goal.returns-clause-advice
returns-clause-advice g c =
    let held : Grounds = grounds_held c.args.tables.now c.args.facts.now.reports c.args.deferrals.now.list c.args.moment in
    IfOk-weaker c.advice_among.result _ _ (λ advice is.
    subst (Advises (question c.args.plan.now c.args.phase c.args.leg c.args.candidates.now held))
    (sym (is ∙ ap (advice_by (verdict_of c.args.plan.now c.args.phase c.args.leg held)) (c.deref.ensures.value ∙ c.in_ok-choices.ensures)))
    (advises c.args.plan.now c.args.phase c.args.leg c.args.candidates.now held c.requires.valid c.requires.leg.0 c.requires.leg.1 c.requires.not_flown c.requires.candidates))
    c.advice_among.ensures.value
