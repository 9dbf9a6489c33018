use Rattle.std.proofs.Common.{◌≡◌, ◌≤◌, map, string_bytes, take}
use Rattle.commands.specs.Sources.{AreHanded, AreWhole}
use Rattle.desk_io.specs.Health.{IsSound}
use Rattle.commands.proofs.sources.read_sources.Given as goal

abbrev pub invariant-loop-name : goal.invariant-loop-name
invariant-loop-name g l = let seen = g.S.Shelf.seen in record {
  handed : AreHanded (seen l.fn.shelf).reads (seen l.shelf).reads (map string_bytes (take l.name-index l.names)) l.texts;
  read : AreWhole (seen l.fn.shelf).sources (map string_bytes (take l.name-index l.names)) l.texts;
  sources : (seen l.shelf).sources ≡ (seen l.fn.shelf).sources;
  later : (seen l.fn.shelf).health.faults ≤ (seen l.shelf).health.faults;
  sound : IsSound (seen l.fn.shelf).health → IsSound (seen l.shelf).health;
}
