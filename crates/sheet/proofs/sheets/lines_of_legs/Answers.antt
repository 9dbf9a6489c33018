use Rattle.std.proofs.Common.{ap, ◌∙◌}
use Rattle.std.specs.Option.{option_copied, option_map}
use Rattle.std.proofs.lemmas.Result.{IfOk-weaker}
use Rattle.plan.specs.Findings.{rules_of_legs}
use Rattle.sheet.specs.Circumstances.{case_by}
use Rattle.sheet.specs.Sheet.{lines_with, lines_by}
use Rattle.sheet.proofs.sheets.lines_of_legs.Goals as goal

pub returns : goal.returns
returns c =
    IfOk-weaker c.lines_in.result _ _
    (λ s is.
    is
    ∙ ap (λ rules. lines_by (lines_with c.args.times.now (option_map case_by (option_copied c.args.circumstances))) rules c.as_slice.result.now) c.rules_of_legs.ensures
    ∙ ap (λ legs. lines_by (lines_with c.args.times.now (option_map case_by (option_copied c.args.circumstances))) rules_of_legs legs) c.as_slice.ensures)
    c.lines_in.ensures
