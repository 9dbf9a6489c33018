use Rattle.std.proofs.Common.{◌∙◌, ap}
use Rattle.release_text.specs.Weather.{newer_than}
use Rattle.release_text.proofs.AttachedLaws.{none_newer}
use Rattle.release_text.proofs.unattached.newer.Goals as goal

pub returns-clause-none : goal.returns-clause-none
returns-clause-none c =
    none_newer c.args.reports.now.reports c.args.plan.now c.args.phase c.args.attached.now c.newer_than.result
    (c.newer_than.ensures ∙ ap (λ a. newer_than c.args.reports.now.reports c.args.plan.now c.args.phase a) c.as_slice.ensures)
