use Rattle.std.proofs.Common.{◌≡◌, [], drop}
use Rattle.std.specs.List.{AllByRecursion}
use Rattle.release_index.specs.Bounds.{ReleaseInBounds}
use Rattle.release_index.specs.Index.{all_onto, onto_by}
use Rattle.release_index.proofs.moves.all_keys.Given as goal

abbrev pub invariant-loop-release : goal.invariant-loop-release
invariant-loop-release l = record {
  made : all_onto (onto_by l.by l.settings) l.keys.items (drop l.release-index l.list) ≡ all_onto (onto_by l.by l.settings) [] l.list;
  rest : AllByRecursion ReleaseInBounds (drop l.release-index l.list);
}
