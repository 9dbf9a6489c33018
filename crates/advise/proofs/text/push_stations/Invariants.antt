use Rattle.std.proofs.Common.{◌≡◌, ◌++◌, drop}
use Rattle.advise.specs.Text.{stations_text}
use Rattle.advise.proofs.text.push_stations.Given as goal

abbrev pub invariant-loop-it : goal.invariant-loop-it
invariant-loop-it l = l.out.items ++ stations_text (drop l.it-index l.alternates) ≡ l.initial.out.items ++ stations_text l.alternates
