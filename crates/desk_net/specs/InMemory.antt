-- The models of `MemoryClock`, `MemoryLink` and `MemoryDoor` in contracts.
use Rattle.std.specs.Prelude.{Some}
use Rattle.desk_io.specs.Health.{Health}
use Rattle.desk_io.specs.Planned.{planned_health}
use Rattle.desk_net.specs.Clocks.{dial}
use Rattle.desk_net.specs.Doors.{links, passed}
use Rattle.desk_net.specs.Seen.{ClockSeen, LinkSeen, DoorSeen}
use Rattle.desk_net.specs.Streams.{stream}
use Rattle.desk_net.specs.declared.memory_clock.MemoryClock.{MemoryClock}
use Rattle.desk_net.specs.declared.memory_door.MemoryDoor.{MemoryDoor}
use Rattle.desk_net.specs.declared.memory_link.MemoryLink.{MemoryLink}
use Rattle.desk_net.specs.declared.planned.Calls.{Calls}

abbrev pub health_of : Calls → Health
health_of calls = planned_health calls.fail.items calls.faults

abbrev pub clock_seen : MemoryClock → ClockSeen
clock_seen c = record { dial = Some (dial c.moments.items c.place); answers = c.answers.list; health = health_of c.calls }

abbrev pub link_seen : MemoryLink → LinkSeen
link_seen l = record { stream = Some (stream l.input.items l.taken l.written.items); crossed = l.crossed.list; health = health_of l.calls }

abbrev pub door_seen : MemoryDoor → DoorSeen MemoryLink
door_seen d = record { links = Some (links d.coming.items d.ended.items); passed = passed d.came.list d.ended.items; opened_at = d.port; health = health_of d.calls }
