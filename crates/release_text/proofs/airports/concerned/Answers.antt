use Rattle.std.proofs.lemmas.Result.{IfOk-weaker}
use Rattle.release_text.proofs.StationLaws.{concerned_once}
use Rattle.release_text.proofs.airports.concerned.Goals as goal

pub returns-clause-once : goal.returns-clause-once
returns-clause-once c =
    IfOk-weaker c.concerned_in_turn.result _ _ (λ stations is. concerned_once c.args.plan.now c.args.phase stations.items is) c.concerned_in_turn.ensures
