use Rattle.std.proofs.Common.{◌∙◌}
use Rattle.facts.proofs.ReindexLaws.{kept_is}
use Rattle.decisions.proofs.sweeps.is_found.Goals as goal

pub returns : goal.returns
returns c = c.is_ok.ensures.value ∙ kept_is c.args.ids.now c.args.id c.binary_search.result c.binary_search.ensures.position c.requires
