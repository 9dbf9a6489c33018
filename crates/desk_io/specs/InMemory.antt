-- The models of `MemoryShelf` and `MemorySink` in contracts.
use Rattle.std.specs.Prelude.{Some}
use Rattle.desk_io.specs.Planned.{planned_health}
use Rattle.desk_io.specs.Seen.{ShelfSeen, SinkSeen}
use Rattle.desk_io.specs.Told.{source_named}
use Rattle.desk_io.specs.declared.memory.MemoryShelf.{MemoryShelf}
use Rattle.desk_io.specs.declared.memory.MemorySink.{MemorySink}

abbrev pub shelf_seen : MemoryShelf → ShelfSeen
shelf_seen s = record { sources = Some (source_named s.sources.items); reads = s.reads.list; health = planned_health s.fail.items s.faults }

abbrev pub sink_seen : MemorySink → SinkSeen
sink_seen s = record { content = Some s.written.items; health = planned_health s.fail.items s.faults }
