use Rattle.desk_json.proofs.PlannedLaws.{planned_forms}
use Rattle.desk_json.proofs.planned.planned_in_text.Goals as goal

pub returns-in-Some-clause-forms : goal.returns-in-Some-clause-forms
returns-in-Some-clause-forms c = planned_forms c.root.result.bytes.now c.planned_in.result c.planned_in.ensures
