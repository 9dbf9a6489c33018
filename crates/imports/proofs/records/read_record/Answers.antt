use Rattle.imports.proofs.RecordLaws.{exact}
use Rattle.imports.proofs.records.read_record.Goals as goal

pub returns-clause-exact : goal.returns-clause-exact
returns-clause-exact c = exact c.args.fields.now c.record_or_fault.result c.record_or_fault.ensures.value c.record_or_fault.ensures.forms
