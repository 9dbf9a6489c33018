-- All connections that workers served, until the door failed.
use Rattle.std.specs.Prelude.{◌≡◌, ◌⊎◌, ℕ, ◌+◌, ◌≤◌, Bool, true, false, List, [], ◌∷◌, ◌++◌, length, Option, Some, if◌then◌else◌}
use Rattle.connections.specs.Doors.{Visit}
use Rattle.connections.specs.declared.doors.ServeEnd.{ServeEnd}
use Rattle.connections.specs.declared.doors.ServeEnd.TheVariants as ends
use Rattle.connections.specs.declared.serving.Served.{Served}
use Rattle.desk_io.specs.Health.{IsSound, RoseOrFull}
use Rattle.desk_io.specs.Over.{Over}
use Rattle.desk_net.specs.Doors.{HasNext, passed}
use Rattle.desk_net.specs.Seen.{DoorSeen}
use Rattle.turn_lock.specs.Elements.{HasNoneAbove, elements_of}
use Rattle.workers.specs.Doorways.{AreMoved}
use Rattle.workers.specs.Passages.{came_in, ran_out, went_in, worker_of}
use Rattle.workers.specs.Work.{AreWorkers, IsBeside}
use Rattle.workers.specs.declared.passages.Passage.{Passage}

-- if anything happened at the door, it was last opened at this port
abbrev pub IsAtPort : {D L : Type 0} → Option ℕ → ℕ → List (Passage D L) → Type 0
IsAtPort opened_at port [] = Unit {0}
IsAtPort opened_at port (p ∷ ps) = opened_at ≡ Some port

-- Out of memory takes precedence over a fault of the door.
abbrev pub end_of : Bool → ServeEnd
end_of memory = if memory then ends.OutOfMemory else ends.DoorFault

-- How workers end: the door failed, and memory ran out for a connection or for none. If memory ran out before, nothing
-- happened at the door.
abbrev pub EndsStaying : {D L : Type 0} → Type 0 → List (Passage D L) → ServeEnd → Type 0
EndsStaying door ps ends.DoorFault = door × (ran_out ps ≡ false)
EndsStaying door ps ends.OutOfMemory = (door × (ran_out ps ≡ true)) ⊎ (ps ≡ [])
EndsStaying door ps ends.Done = ⊥
EndsStaying door ps ends.ClockFault = ⊥

-- the lanes of these workers and of the work beside them; none if nobody worked
abbrev pub lanes_of : {L : Type 0} → List (List (Visit L)) → ℕ
lanes_of [] = 0
lanes_of (vs ∷ ws) = length (vs ∷ ws) + 1

-- the work beside these workers, in the lane after theirs
abbrev pub WorksBeside : {L E : Type 0} → (E → ℕ) → (ℕ → List E → List E → Type 0) → List (List (Visit L)) → List E → Type 0
WorksBeside bears does [] list = Unit {0}
WorksBeside bears does (vs ∷ ws) list = IsBeside bears does (1 + length (vs ∷ ws)) list

-- At most `most` workers served the connections of a door at a port, each in the lane of its number, from 1. Other
-- work ran beside them in the next lane. The list has elements of these lanes only. The passages are all that happened
-- at the door, each at one of these workers. A sound door fails only if no link is left.
pub record HasStayed (D : Type 0) {L E : Type 0} (bears : E → ℕ) (says : ℕ → List E → List E → L → L → Served → Type 0) (does : ℕ → List E → List E → Type 0) (door : Over (DoorSeen L)) (list : List E) (port most : ℕ) (end : ServeEnd) : Type 0 where
  pub workers : List (List (Visit L))
  pub passages : List (Passage D L)
  pub are : AreWorkers bears says 1 list passages workers
  pub few : length workers ≤ most
  pub nothing : elements_of bears 0 list ≡ []
  pub beside : WorksBeside bears does workers list
  pub above : HasNoneAbove bears (lanes_of workers) list
  pub no_other : elements_of worker_of 0 passages ≡ []
  pub none_above : HasNoneAbove worker_of (length workers) passages
  pub links : AreMoved door.before.links door.after.links passages
  pub passed : door.after.passed ≡ passed (door.before.passed.came ++ came_in passages) (door.before.passed.went ++ went_in passages)
  pub came_at : IsAtPort door.after.opened_at port passages
  pub steady : end ≡ ends.DoorFault → IsSound door.before.health → HasNext door.after.links → ⊥
  pub ends : EndsStaying (RoseOrFull door.before.health.faults door.after.health.faults) passages end
