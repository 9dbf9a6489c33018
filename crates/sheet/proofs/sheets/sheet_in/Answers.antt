use Rattle.std.proofs.Common.{◌∷◌, ◌++◌, [], ap, ◌∙◌}
use Rattle.std.proofs.lemmas.Result.{IfOk-weaker}
use Rattle.plan.specs.Findings.{rules_of_legs}
use Rattle.plan.specs.declared.flights.Plan.{Plan}
use Rattle.rules.specs.Grounds.{Grounds}
use Rattle.rules.specs.Judgement.{case_for}
use Rattle.sheet.specs.Circumstances.{grounds_of}
use Rattle.sheet.specs.Sheet.{lines_with, lines_by, line_of_tables, sheet_of}
use Rattle.sheet.proofs.sheets.sheet_in.Goals as goal

pub returns : goal.returns
unfolding sheet_of
returns c =
    let plan : Plan = c.args.plan.now in
    let g : Grounds = grounds_of c.args.world in
    IfOk-weaker c.sheet_seen.result _ _
    (λ s is. is ∙ ap (λ times. lines_by (lines_with times (case_for plan g)) rules_of_legs plan.legs ++ line_of_tables plan g ∷ []) c.times_of-times.ensures)
    c.sheet_seen.ensures
