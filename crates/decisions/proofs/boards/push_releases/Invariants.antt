use Rattle.std.proofs.Common.{◌≡◌, ◌++◌, drop}
use Rattle.std.specs.List.{AllByRecursion}
use Rattle.desk_state.specs.Texts.{release_lines}
use Rattle.desk_state.specs.Sound.{ReleaseInBounds}
use Rattle.decisions.proofs.boards.push_releases.Given as goal

abbrev pub invariant-loop-release : goal.invariant-loop-release
invariant-loop-release l = record {
  lines : l.out.items ++ release_lines l.content.state.alerts (drop l.release-index l.content.state.releases)
      ≡ l.fn.out.items ++ release_lines l.content.state.alerts l.content.state.releases;
  rest : AllByRecursion ReleaseInBounds (drop l.release-index l.content.state.releases);
}
