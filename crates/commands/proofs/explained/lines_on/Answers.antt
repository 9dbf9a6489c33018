use Rattle.std.proofs.Common.{◌≡◌, subst}
use Rattle.std.proofs.lemmas.Result.{IfOk-weaker}
use Rattle.scripts.specs.Below.{grounds_held}
use Rattle.sheet.specs.Sheet.{sheet_of}
use Rattle.commands.proofs.explained.lines_on.Goals as goal

pub returns : goal.returns
returns c =
    let s = c.args.board.now.state in
    let plan = c.args.plan.now in
    let phase = c.args.phase in
    IfOk-weaker c.sheet_of.result _ _
    (λ lines is.
    subst (λ t. lines ≡ sheet_of plan phase (grounds_held t s.reports s.deferrals s.moment)) c.tables.ensures
    (subst (λ r. lines ≡ sheet_of plan phase (grounds_held c.tables.result.now r s.deferrals s.moment)) c.reports.ensures
    (subst (λ d. lines ≡ sheet_of plan phase (grounds_held c.tables.result.now c.reports.result.now.reports d s.moment)) c.deferrals.ensures
    (subst (λ m. lines ≡ sheet_of plan phase (grounds_held c.tables.result.now c.reports.result.now.reports c.deferrals.result.now.list m)) c.now.ensures.moment is))))
    c.sheet_of.ensures.value
