use Rattle.std.proofs.Common.{◌∙◌}
use Rattle.std.specs.Map.{keys_of}
use Rattle.facts.proofs.SameLaws.{first_is}
use Rattle.facts.proofs.same.same_in.Goals as goal

pub returns : goal.returns
returns c =
    c.first_same.ensures
    ∙ first_is c.args.text.now c.args.minute c.fingerprint-mark.result c.args.reports.now c.args.keys.now.keys (keys_of c.from-run.result.now) c.fingerprint-mark.ensures
    c.requires.rising c.requires.keys c.from-run.ensures.value c.from-run.ensures.sorted
