use Rattle.std.proofs.Common.{◌≡◌, ◌++◌, map, drop}
use Rattle.std.specs.Prelude.{All}
use Rattle.serde_json.specs.View.{view}
use Rattle.views.specs.Objects.{part_data}
use Rattle.weather_reports.specs.Parts.{HasMoments}
use Rattle.views.proofs.observations.part_values.Given as goal

abbrev pub invariant-loop-part : goal.invariant-loop-part
invariant-loop-part l = record {
  values : map view l.values.items ++ map part_data (drop l.part-index l.parts) ≡ map part_data l.parts;
  rest : All HasMoments (drop l.part-index l.parts);
}
