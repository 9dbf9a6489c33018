use Rattle.desk_json.proofs.Formed.{call_forms}
use Rattle.desk_json.proofs.lines.call_in_text.Goals as goal

pub returns-in-Some-clause-forms : goal.returns-in-Some-clause-forms
returns-in-Some-clause-forms c = call_forms c.root.result.bytes.now c.call_in.result c.call_in.ensures
