-- The model of `MemoryKeeper` in contracts.
use Rattle.std.specs.Prelude.{Some}
use Rattle.desk_io.specs.Planned.{planned_health}
use Rattle.desk_io.specs.Rows.{rows_of}
use Rattle.keeper.specs.Seen.{KeeperSeen}
use Rattle.keeper.specs.declared.memory.MemoryKeeper.{MemoryKeeper}

abbrev pub keeper_seen : MemoryKeeper → KeeperSeen
keeper_seen k = record { rows = Some (rows_of k.rows.items); commits = k.calls; account = k.account.list; health = planned_health k.fail.items k.faults }
