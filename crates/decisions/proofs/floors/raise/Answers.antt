use Rattle.decisions.proofs.FloorLaws.{raised_found}
use Rattle.decisions.proofs.floors.raise.Goals as goal

pub returns-then-found : goal.returns-then-found
returns-then-found c =
    raised_found c.args.floors.now.items c.deref.result.now c.bytes.result.now c.args.actor.now c.place_of-place.result.0 c.args.number c.max-floor.result c.place_of-place.result.1
    c.index_mut-floor.result.now c.deref.ensures.value c.bytes.ensures c.if-found.true c.place_of-place.ensures.within c.place_of-place.ensures.place c.index_mut-floor.ensures.value c.max-floor.ensures
