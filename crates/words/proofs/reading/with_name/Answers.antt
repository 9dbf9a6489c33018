use Rattle.std.proofs.Common.{ap, ◌∙◌}
use Rattle.std.proofs.lemmas.Result.{IfOk-weaker}
use Rattle.clap.specs.Simple.{App, app_of, with_subcommand}
use Rattle.words.proofs.reading.with_name.Goals as goal

pub returns : goal.returns
returns c =
    let sub = c.in_ok-leaf.ensures in
    let desk : App = app_of c.args.desk in
    IfOk-weaker c.subcommand.result _ _ (λ r h. h.shape sub.local ∙ ap (λ (a : App). with_subcommand desk a.top) sub.app) c.subcommand.ensures
