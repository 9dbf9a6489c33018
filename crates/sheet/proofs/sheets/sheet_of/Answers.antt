use Rattle.std.proofs.Common.{sym, subst, ap, ◌∙◌}
use Rattle.std.specs.Prelude.{map}
use Rattle.std.specs.List.{AllByRecursion}
use Rattle.std.proofs.lemmas.Result.{IfOk-weaker}
use Rattle.plan.specs.Findings.{AreInOrder}
use Rattle.rules.specs.Grounds.{Grounds, grounds_held}
use Rattle.rules.specs.Regulation.{FollowRegulation}
use Rattle.rules.proofs.RegulationLaws.{findings_follow_regulation}
use Rattle.sheet.specs.Applies.{IsWhole}
use Rattle.sheet.specs.Lines.{failing, key}
use Rattle.sheet.specs.World.{IsOfWorld}
use Rattle.sheet.proofs.AppliesLaws.{sheet_is_whole}
use Rattle.sheet.proofs.HoldLaws.{hold_by_regulation}
use Rattle.sheet.proofs.KeyLaws.{sheet_in_order}
use Rattle.sheet.proofs.SheetLaws.{sheet_fails}
use Rattle.sheet.proofs.WorldLaws.{sheet_of_world}
use Rattle.sheet.proofs.sheets.sheet_of.Goals as goal

pub returns-clause-findings : goal.returns-clause-findings
returns-clause-findings c =
    let g : Grounds = grounds_held c.args.tables.now c.args.facts.now.reports c.args.deferrals.now.list c.args.moment in
    IfOk-weaker c.sheet_in.result _ _ (λ s is. ap failing is ∙ sheet_fails c.args.plan.now c.args.phase g c.requires.moments) c.sheet_in.ensures

pub returns-clause-world : goal.returns-clause-world
returns-clause-world c =
    let g : Grounds = grounds_held c.args.tables.now c.args.facts.now.reports c.args.deferrals.now.list c.args.moment in
    IfOk-weaker c.sheet_in.result _ _ (λ s is. subst (AllByRecursion (IsOfWorld c.args.plan.now c.args.phase g)) (sym is) (sheet_of_world c.args.plan.now c.args.phase g)) c.sheet_in.ensures

pub returns-clause-whole : goal.returns-clause-whole
returns-clause-whole c =
    let g : Grounds = grounds_held c.args.tables.now c.args.facts.now.reports c.args.deferrals.now.list c.args.moment in
    IfOk-weaker c.sheet_in.result _ _ (λ s is. subst (IsWhole c.args.plan.now c.args.phase g) (sym is) (sheet_is_whole c.args.plan.now c.args.phase g)) c.sheet_in.ensures

pub returns-clause-sorted : goal.returns-clause-sorted
returns-clause-sorted c =
    let g : Grounds = grounds_held c.args.tables.now c.args.facts.now.reports c.args.deferrals.now.list c.args.moment in
    IfOk-weaker c.sheet_in.result _ _
    (λ s is. subst (λ lines. AreInOrder (map key lines)) (sym is) (sheet_in_order c.args.plan.now c.args.phase g c.as_slice.ensures.rising)) c.sheet_in.ensures

pub returns-clause-regulation : goal.returns-clause-regulation
returns-clause-regulation c =
    let g : Grounds = grounds_held c.args.tables.now c.args.facts.now.reports c.args.deferrals.now.list c.args.moment in
    IfOk-weaker c.sheet_in.result _ _
    (λ s is. hold_by_regulation c.args.plan.now c.args.phase g s
    (subst (FollowRegulation c.args.plan.now c.args.phase g) (sym (ap failing is ∙ sheet_fails c.args.plan.now c.args.phase g c.requires.moments)) (findings_follow_regulation c.args.plan.now c.args.phase g)))
    c.sheet_in.ensures
