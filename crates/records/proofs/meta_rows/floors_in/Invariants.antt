use Rattle.std.proofs.Common.{◌≡◌}
use Rattle.serde_json.specs.View.{members_view}
use Rattle.asks.proofs.Lists.{onto}
use Rattle.records.specs.Reading.{floors_in}
use Rattle.records.proofs.meta_rows.floors_in.Given as goal

abbrev pub invariant-loop-key : goal.invariant-loop-key
invariant-loop-key l = onto l.floors (floors_in (members_view l.key-iterator)) ≡ floors_in (members_view l.members.entries)
