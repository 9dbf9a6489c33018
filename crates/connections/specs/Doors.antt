-- Connections of a door: what became of their links, how each ended, and how the serving ended.
use Rattle.std.specs.Prelude.{◌≡◌, ◌≢◌, ◌⊎◌, ◌<◌, ◌≤◌, ℕ, Bool, true, false, List, [], ◌∷◌, ◌++◌, length, map, filter, Option, None, Some, if◌then◌else◌}
use Rattle.std.specs.List.{AllByRecursion, list_any}
use Rattle.connections.specs.declared.doors.Met.{Met}
use Rattle.connections.specs.declared.doors.ServeEnd.{ServeEnd}
use Rattle.connections.specs.declared.doors.ServeEnd.TheVariants as ends
use Rattle.connections.specs.declared.serving.Served.{Served}
use Rattle.connections.specs.declared.serving.Served.TheVariants as served
use Rattle.desk_net.specs.Doors.{Links, Passed, passed}

-- a link as it came and as its connection left it, how the connection ended, and whether the link was given back
pub record Visit (L : Type 0) : Type 0 where
  pub came : L
  pub went : L
  pub served : Served
  pub back : Bool

abbrev pub came_of : {L : Type 0} → List (Visit L) → List L
came_of vs = map (λ v. v.came) vs

abbrev pub back_of : {L : Type 0} → List (Visit L) → List L
back_of vs = map (λ v. v.went) (filter (λ v. v.back) vs)

-- The links of these connections were the first to come. Those given back are the last of the ended ones, in order.
pub record TakesLinks {L : Type 0} (old new : Links L) (vs : List (Visit L)) : Type 0 where
  pub coming : old.coming ≡ came_of vs ++ new.coming
  pub ended : new.ended ≡ old.ended ++ back_of vs

abbrev pub AreTaken : {L : Type 0} → Option (Links L) → Option (Links L) → List (Visit L) → Type 0
AreTaken None None vs = Unit {0}
AreTaken (Some old) (Some new) vs = TakesLinks old new vs
AreTaken _ _ vs = ⊥

-- By its record the door let in the links of these connections, and let out those that were given back, in order.
abbrev pub ArePassed : {L : Type 0} → Passed L → Passed L → List (Visit L) → Type 0
ArePassed old new vs = new ≡ passed (old.came ++ came_of vs) (old.went ++ back_of vs)

-- at least `n` links are to come, if the door's links are known
abbrev pub HasLinks : {L : Type 0} → Option (Links L) → ℕ → Type 0
HasLinks None n = Unit {0}
HasLinks (Some told) n = n ≤ length told.coming

-- memory didn't run out for the connection or for its link
abbrev pub HadMemory : {L : Type 0} → Visit L → Type 0
HadMemory v = (v.back ≡ true) × (v.served ≢ served.OutOfMemory)

-- neither memory nor the clock failed
abbrev pub IsWell : {L : Type 0} → Visit L → Type 0
IsWell v = HadMemory v × (v.served ≢ served.ClockFault)

abbrev pub is_clock_fault : Served → Bool
is_clock_fault served.ClockFault = true
is_clock_fault other = false

-- the connection ended by a fault of the clock
abbrev pub ended_by_clock : {L : Type 0} → Visit L → Bool
ended_by_clock v = is_clock_fault v.served

-- there are fewer connections than `most`, or none
abbrev pub AreFewer : {L : Type 0} → ℕ → List (Visit L) → Type 0
AreFewer most [] = Unit {0}
AreFewer most (v ∷ vs) = length (v ∷ vs) < most

-- How serving `most` connections ends. Only a fault of the door ends the serving early, or out of memory before the
-- first connection. `door` states that the door failed.
abbrev pub EndsServing : {L : Type 0} → Type 0 → ℕ → List (Visit L) → ServeEnd → Type 0
EndsServing door most vs ends.Done = (length vs ≡ most) × AllByRecursion IsWell vs
EndsServing door most vs ends.DoorFault = door × AreFewer most vs × AllByRecursion HadMemory vs
EndsServing door most vs ends.ClockFault = (length vs ≡ most) × AllByRecursion HadMemory vs × (list_any ended_by_clock vs ≡ true)
EndsServing door most vs ends.OutOfMemory = (length vs ≡ most) ⊎ ((door × AreFewer most vs) ⊎ (vs ≡ []))

-- If a link came, the door was last opened at this port.
abbrev pub AreAtPort : {L : Type 0} → Option ℕ → ℕ → List (Visit L) → Type 0
AreAtPort opened_at port [] = Unit {0}
AreAtPort opened_at port (v ∷ vs) = opened_at ≡ Some port

-- ---- whether memory or the clock failed so far

-- a link that can't be given back counts as out of memory
abbrev pub counts_as : {L : Type 0} → Visit L → Served
counts_as v = if v.back then v.served else served.OutOfMemory

abbrev pub met_after : Met → Served → Met
met_after m served.OutOfMemory = record m { memory = true }
met_after m served.ClockFault = record m { clock = true }
met_after m other = m

abbrev pub end_of : Met → ServeEnd
end_of m = if m.memory then ends.OutOfMemory else (if m.clock then ends.ClockFault else ends.Done)

abbrev pub end_at_door : Met → ServeEnd
end_at_door m = if m.memory then ends.OutOfMemory else ends.DoorFault
