use Rattle.std.proofs.Common.{◌≡◌, ◌≤◌, ◌++◌, length}
use Rattle.desk_io.specs.Runs.{runs_between}
use Rattle.desk_io.proofs.runs.runs_between.Given as goal

abbrev pub invariant-loop-rest : goal.invariant-loop-rest
invariant-loop-rest g l = record {
  runs : l.runs.items ++ runs_between g.S.Separators.separators l.rest ≡ runs_between g.S.Separators.separators l.text;
  within : length l.rest ≤ length l.text;
}

abbrev pub decreases-loop-rest : goal.decreases-loop-rest
decreases-loop-rest g l = length l.rest
