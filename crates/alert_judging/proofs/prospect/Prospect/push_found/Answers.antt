use Rattle.alert_judging.proofs.Then.{release_bounded}
use Rattle.alert_judging.proofs.prospect.Prospect.push_found.Goals as goal

pub push_changes-requires-clause-release : goal.push_changes-requires-clause-release
push_changes-requires-clause-release g c = release_bounded c.args.self.now c.args.id c.in-Some.release.now c.in-Some.ensures c.requires c.holds.ensures
