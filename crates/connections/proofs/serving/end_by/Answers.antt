use Rattle.std.proofs.Common.{Err, ap}
use Rattle.connections.proofs.Crossing.{ends_cut, ends_taken}
use Rattle.connections.proofs.Steps.{ends_front, ends_whole}
use Rattle.connections.proofs.serving.end_by.Goals as goal

pub returns-in-Ok-clause-wrote : goal.returns-in-Ok-clause-wrote
returns-in-Ok-clause-wrote g c = ends_whole _ _ _ _ _ _ c.in-Ok.ensures.told

pub returns-in-Ok-clause-crossed : goal.returns-in-Ok-clause-crossed
returns-in-Ok-clause-crossed g c = ends_taken _ _ _ _ _ c.in-Ok.ensures.crossed

pub returns-in-Err-Failed-clause-wrote : goal.returns-in-Err-Failed-clause-wrote
returns-in-Err-Failed-clause-wrote g c =
    let is = c.in-Err-Failed.ensures in
    let fails = ap Err c.in-Err-Failed.field-0-is in ends_front _ _ _ _ _ _ _ c.in-Err-Failed.field-0-is is.told (is.cause fails)

pub returns-in-Err-Failed-clause-crossed : goal.returns-in-Err-Failed-clause-crossed
returns-in-Err-Failed-clause-crossed g c =
    let is = c.in-Err-Failed.ensures in
    let fails = ap Err c.in-Err-Failed.field-0-is in ends_cut _ _ _ _ _ _ c.in-Err-Failed.field-0-is is.crossed (is.cause fails)
