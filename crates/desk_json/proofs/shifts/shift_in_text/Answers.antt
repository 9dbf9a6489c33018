use Rattle.desk_json.proofs.ShiftLaws.{shift_forms}
use Rattle.desk_json.proofs.shifts.shift_in_text.Goals as goal

pub returns-in-Some-clause-forms : goal.returns-in-Some-clause-forms
returns-in-Some-clause-forms c = shift_forms c.root.result.bytes.now c.shift_in.result c.shift_in.ensures
