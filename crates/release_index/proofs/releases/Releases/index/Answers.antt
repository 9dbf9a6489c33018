use Rattle.release_index.proofs.FoundLaws.{finds}
use Rattle.release_index.proofs.releases.Releases.index.Goals as goal

pub returns-clause-found : goal.returns-clause-found
returns-clause-found c = finds c.args.by c.args.self.now.settings c.keys.result.now.keys c.args.self.now.list c.keys.ensures
