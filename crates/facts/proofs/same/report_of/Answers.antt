use Rattle.std.proofs.Common.{◌∙◌}
use Rattle.facts.proofs.same.report_of.Goals as goal

pub returns : goal.returns
returns c pairs = c.at_place.ensures ∙ c.place_of_id.ensures pairs
