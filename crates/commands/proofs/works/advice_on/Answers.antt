use Rattle.std.proofs.Common.{subst, sym, ◌≡◌, None}
use Rattle.std.proofs.lemmas.Result.{IfOk-weaker}
use Rattle.plan.specs.Check.{plan_fault}
use Rattle.advise.specs.Candidates.{AreCandidates}
use Rattle.advise.specs.Text.{IsAdviceText}
use Rattle.scripts.specs.Below.{grounds_held}
use Rattle.commands.proofs.works.advice_on.Goals as goal

pub advice_text-requires-clause-valid : goal.advice_text-requires-clause-valid
advice_text-requires-clause-valid g c = subst (λ t. plan_fault t c.args.plan.now ≡ None) (sym c.tables.ensures) c.requires.valid

pub advice_text-requires-clause-candidates : goal.advice_text-requires-clause-candidates
advice_text-requires-clause-candidates g c = subst (λ t. AreCandidates t c.args.plan.now c.args.candidates.now) (sym c.tables.ensures) c.requires.candidates

pub returns : goal.returns
returns g c =
    let s = c.args.board.now.state in
    IfOk-weaker c.advice_text.result _ _
    (λ text is.
    subst (λ t. IsAdviceText c.args.plan.now c.args.candidates.now (grounds_held t s.reports s.deferrals s.moment) text) c.tables.ensures
    (subst (λ r. IsAdviceText c.args.plan.now c.args.candidates.now (grounds_held c.tables.result.now r s.deferrals s.moment) text) c.reports.ensures
    (subst (λ d. IsAdviceText c.args.plan.now c.args.candidates.now (grounds_held c.tables.result.now c.reports.result.now.reports d s.moment) text) c.deferrals.ensures
    (subst (λ m. IsAdviceText c.args.plan.now c.args.candidates.now (grounds_held c.tables.result.now c.reports.result.now.reports c.deferrals.result.now.list m) text) c.now.ensures.moment is))))
    c.advice_text.ensures.text
