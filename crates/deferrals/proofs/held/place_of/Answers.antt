use Rattle.deferrals.proofs.Without.{place_answer, place_none, place_found}
use Rattle.deferrals.proofs.held.place_of.Goals as goal

pub returns-clause-answer : goal.returns-clause-answer
returns-clause-answer c = place_answer c.args.id c.args.held.now c.position_of.result c.position_of.ensures

pub returns-clause-none : goal.returns-clause-none
returns-clause-none c = place_none c.args.id c.args.held.now c.position_of.result c.position_of.ensures

pub returns-clause-found : goal.returns-clause-found
returns-clause-found c = place_found c.args.id c.args.held.now c.position_of.result c.requires c.position_of.ensures
