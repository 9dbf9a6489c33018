use Rattle.std.proofs.Common.{◌≡◌, ◌++◌, map, drop}
use Rattle.alert_judging.proofs.touching.push_all.Given as goal

abbrev pub invariant-loop-release : goal.invariant-loop-release
invariant-loop-release l = l.ids.items ++ map (λ r. r.id) (drop l.release-index l.releases) ≡ l.fn.ids.items ++ map (λ r. r.id) l.releases
