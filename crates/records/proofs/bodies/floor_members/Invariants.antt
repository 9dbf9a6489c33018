use Rattle.std.proofs.Common.{◌≡◌, drop}
use Rattle.serde_json.specs.Data.{no_members}
use Rattle.serde_json.specs.View.{members_view}
use Rattle.records.specs.Bodies.{with_floors}
use Rattle.records.proofs.bodies.floor_members.Given as goal

abbrev pub invariant-loop-floor : goal.invariant-loop-floor
invariant-loop-floor l = with_floors (members_view l.members.entries) (drop l.floor-index l.floors) ≡ with_floors no_members l.floors
