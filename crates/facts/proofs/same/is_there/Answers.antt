use Rattle.std.proofs.Common.{◌∙◌}
use Rattle.desk_io.proofs.ByIdLaws.{any_given}
use Rattle.facts.specs.Index.{has_number}
use Rattle.facts.proofs.same.is_there.Goals as goal

pub returns : goal.returns
returns c pairs = c.is_some.ensures ∙ any_given (has_number c.args.id) c.args.reports.now c.report_of.result (c.report_of.ensures pairs)
