use Rattle.std.proofs.Common.{◌≡◌, ◌++◌, drop}
use Rattle.decisions.specs.Attached.{all_ids}
use Rattle.decisions.proofs.sweeps.collected_ids.Given as goal

abbrev pub invariant-loop-release : goal.invariant-loop-release
invariant-loop-release l = l.ids.items ++ all_ids (drop l.release-index l.releases) ≡ all_ids l.releases
