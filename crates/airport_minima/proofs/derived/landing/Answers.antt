use Rattle.std.proofs.lemmas.Result.{IfOk-weaker}
use Rattle.airport_minima.proofs.FlownLaws.{are_landing}
use Rattle.airport_minima.proofs.derived.landing.Goals as goal

-- the minima are those of the approaches that the type can fly
pub returns-clause-minima : goal.returns-clause-minima
returns-clause-minima c =
    IfOk-weaker c.landing_of_usable.result _ _
    (λ pairs is. are_landing c.args.tables.now c.args.kind.now c.args.station c.args.lost.now pairs is)
    c.landing_of_usable.ensures.value
