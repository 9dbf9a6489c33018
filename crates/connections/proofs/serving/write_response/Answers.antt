use Rattle.std.proofs.Common.{Err, ap}
use Rattle.connections.proofs.Crossing.{fails_cut}
use Rattle.connections.proofs.Steps.{fails_front}
use Rattle.connections.proofs.serving.write_response.Goals as goal

pub returns-in-Err-Failed-clause-wrote : goal.returns-in-Err-Failed-clause-wrote
returns-in-Err-Failed-clause-wrote g c =
    let is = c.in-Err-Failed.ensures in
    let fails = ap Err c.in-Err-Failed.field-0-is in fails_front _ _ _ _ _ _ c.in-Err-Failed.field-0-is is.told (is.cause fails)

pub returns-in-Err-Failed-clause-crossed : goal.returns-in-Err-Failed-clause-crossed
returns-in-Err-Failed-clause-crossed g c =
    let is = c.in-Err-Failed.ensures in
    let fails = ap Err c.in-Err-Failed.field-0-is in fails_cut _ _ _ _ _ c.in-Err-Failed.field-0-is is.crossed (is.cause fails)
