use Rattle.std.proofs.lemmas.Result.{IfOk-weaker}
use Rattle.airport_minima.proofs.AlternateLaws.{alternate_minima}
use Rattle.airport_minima.proofs.FlownLaws.{are_flown}
use Rattle.airport_minima.proofs.derived.alternate_pairs.Goals as goal

-- the minima are the airport's own, or those that its approaches give
pub returns-clause-minima : goal.returns-clause-minima
returns-clause-minima c =
    IfOk-weaker c.own_or_derived.result _ _
    (λ pairs is. alternate_minima c.args.tables.now c.args.kind.now c.args.station c.args.lost.now pairs is)
    c.own_or_derived.ensures.value

pub returns-clause-flown : goal.returns-clause-flown
returns-clause-flown c = are_flown c.args.tables.now c.args.kind.now c.args.station c.args.lost.now
