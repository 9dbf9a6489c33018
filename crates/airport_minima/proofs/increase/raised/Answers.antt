use Rattle.std.proofs.lemmas.Result.{IfOk-weaker}
use Rattle.airport_minima.proofs.RaisedLaws.{are_raised}
use Rattle.airport_minima.proofs.increase.raised.Goals as goal

-- the minima are those that the landing minima give
pub returns-clause-minima : goal.returns-clause-minima
returns-clause-minima c = IfOk-weaker c.raised_pairs.result _ _ (λ pairs is. are_raised c.args.landing.now c.args.alternate.now pairs is) c.raised_pairs.ensures
