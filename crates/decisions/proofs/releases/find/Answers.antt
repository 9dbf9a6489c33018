use Rattle.decisions.proofs.Held.{found_fits, found_newest}
use Rattle.decisions.proofs.releases.find.Goals as goal

pub returns-clause-fits : goal.returns-clause-fits
returns-clause-fits c = found_fits c.args.content.now.state c.args.id _ c.release.ensures c.holds.ensures

pub returns-clause-newest : goal.returns-clause-newest
returns-clause-newest c =
    found_newest c.args.content.now.state _ c.holds.ensures.bounds (found_fits c.args.content.now.state c.args.id _ c.release.ensures c.holds.ensures)
