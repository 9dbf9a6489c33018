use Rattle.std.proofs.Common.{◌≡◌, ◌++◌, map, drop}
use Rattle.std.specs.List.{AllByRecursion}
use Rattle.desk_state.specs.Sound.{ReleaseInBounds}
use Rattle.serde_json.specs.View.{view}
use Rattle.views.specs.Objects.{release_data}
use Rattle.views.specs.Shown.{releases_shown}
use Rattle.views.proofs.boards.release_values.Given as goal

abbrev pub invariant-loop-release : goal.invariant-loop-release
invariant-loop-release l = record {
  values : map view l.values.items ++ map release_data (releases_shown l.content.state.alerts (drop l.release-index l.content.state.releases))
      ≡ map release_data (releases_shown l.content.state.alerts l.content.state.releases);
  rest : AllByRecursion ReleaseInBounds (drop l.release-index l.content.state.releases);
}
