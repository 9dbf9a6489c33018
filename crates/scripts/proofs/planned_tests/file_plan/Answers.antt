use Rattle.scripts.proofs.PlannedHeld.{filed_as, never_as, refused_plan}
use Rattle.scripts.proofs.planned_tests.file_plan.Goals as goal

pub unreachable-requires : goal.unreachable-requires
unreachable-requires c =
    never_as c.file.result c.in-Err-NotActive.field-0 _ _ c.args.release.now c.args.leg c.args.last c.requires.active c.tables.ensures c.in-Err-NotActive.is c.in-Err-NotActive.field-0-is
    c.file.ensures.refusal

pub returns-in-Ok-clause-said : goal.returns-in-Ok-clause-said
returns-in-Ok-clause-said c =
    filed_as c.file.result c.in-Ok.field-0 _ _ c.args.release.now c.args.leg c.args.last c.replies.result _ c.requires.active c.tables.ensures c.in-Ok.is c.file.ensures.refusal c.replies.ensures

pub returns-in-Err-Bad-clause-said : goal.returns-in-Err-Bad-clause-said
returns-in-Err-Bad-clause-said c =
    refused_plan c.file.result c.in-Err-Bad.field-0 c.in-Err-Bad.bad _ _ c.args.release.now c.args.leg c.args.last c.bad_plan.result _ c.requires.active c.tables.ensures c.in-Err-Bad.is
    c.in-Err-Bad.field-0-is c.file.ensures.refusal c.bad_plan.ensures
