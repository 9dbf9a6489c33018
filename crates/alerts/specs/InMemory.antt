-- The model of the bell in memory, any call of which may fail for lack of memory.
use Rattle.std.specs.Prelude.{Some}
use Rattle.alerts.specs.Seen.{BellSeen}
use Rattle.alerts.specs.declared.memory_bell.MemoryBell.{MemoryBell}
use Rattle.desk_io.specs.Health.{unsound}

abbrev pub bell_seen : MemoryBell → BellSeen
bell_seen b = record { desk = b.desk; heard = Some b.heard; health = unsound b.faults }
