use Rattle.airport_minima.proofs.FloorLaws.{flag_floor_is}
use Rattle.airport_minima.proofs.FlownLaws.{are_flown}
use Rattle.airport_minima.proofs.floors.flag_floor.Goals as goal

-- the lowest values are those of approaches that the type can fly
pub returns-clause-lowest : goal.returns-clause-lowest
returns-clause-lowest c = flag_floor_is c.args.tables.now c.args.kind.now c.args.station c.args.lost.now c.floor_over.result c.floor_over.ensures

pub returns-clause-flown : goal.returns-clause-flown
returns-clause-flown c = are_flown c.args.tables.now c.args.kind.now c.args.station c.args.lost.now
