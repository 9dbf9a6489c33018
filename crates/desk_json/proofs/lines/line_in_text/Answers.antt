use Rattle.desk_json.proofs.Formed.{line_forms}
use Rattle.desk_json.proofs.lines.line_in_text.Goals as goal

pub returns-in-Some-clause-forms : goal.returns-in-Some-clause-forms
returns-in-Some-clause-forms c = line_forms c.root.result.bytes.now c.line_in.result c.line_in.ensures
