-- A door that workers share, and how it goes on with what happens at it.
use Rattle.std.specs.Prelude.{◌≡◌, ◌≤◌, ℕ, Bool, true, List, [], ◌∷◌, ◌++◌, Option, None, Some}
use Rattle.connections.specs.declared.rounds.Visited.{Visited}
use Rattle.desk_io.specs.Health.{IsSound, RoseOrFull}
use Rattle.desk_io.specs.Over.{Over}
use Rattle.desk_net.specs.Doors.{HasNext, Links, passed}
use Rattle.desk_net.specs.Seen.{DoorSeen}
use Rattle.workers.specs.Passages.{came_in, has_failed, lacks_memory, ran_out, went_in}
use Rattle.workers.specs.declared.passages.Passage.{Passage}
use Rattle.workers.specs.declared.passages.Passage.TheVariants.{Began, Came, Failed, Went}

pub record AtDoor (D L : Type 0) : Type 0 where
  pub door : D
  -- memory ran out for a connection
  pub memory : Bool
  -- the door has failed, and accepts no further link
  pub failed : Bool
  pub passages : List (Passage D L)

abbrev pub at_door : {D L : Type 0} → D → Bool → Bool → List (Passage D L) → AtDoor D L
at_door door memory failed passages = record { door = door; memory = memory; failed = failed; passages = passages }

-- The links that came were the first ones to come, and those given back are the last of the ended ones, if the door's
-- links are known.
abbrev pub AreMoved : {D L : Type 0} → Option (Links L) → Option (Links L) → List (Passage D L) → Type 0
AreMoved None None ps = Unit {0}
AreMoved (Some old) (Some new) ps = (old.coming ≡ came_in ps ++ new.coming) × (new.ended ≡ old.ended ++ went_in ps)
AreMoved _ _ ps = ⊥

-- The door after passages. Every link that it let in and out is among them. If it failed, it counted the fault, and a
-- sound door fails only if no link is left.
pub record GoesOnBy {D L : Type 0} (old new : DoorSeen L) (ps : List (Passage D L)) : Type 0 where
  pub links : AreMoved old.links new.links ps
  pub passed : new.passed ≡ passed (old.passed.came ++ came_in ps) (old.passed.went ++ went_in ps)
  pub port : new.opened_at ≡ old.opened_at
  pub later : old.health.faults ≤ new.health.faults
  pub sound : IsSound old.health → IsSound new.health
  pub rose : has_failed ps ≡ true → RoseOrFull old.health.faults new.health.faults
  pub none : has_failed ps ≡ true → IsSound old.health → HasNext new.links → ⊥

-- The list begins with the door as it was, and the door went on from there.
pub record IsDoorway {D L : Type 0} (seen : D → DoorSeen L) (s : AtDoor D L) : Type 0 where
  pub first : D
  pub rest : List (Passage D L)
  pub begins : s.passages ≡ Began first ∷ rest
  pub goes_on : GoesOnBy (seen first) (seen s.door) rest
  pub memory : s.memory ≡ ran_out rest
  pub failed : s.failed ≡ has_failed rest

-- the next link was accepted, or the door failed, and that was recorded
abbrev pub IsAccepted : {D L : Type 0} → ℕ → Over (DoorSeen L) → List (Passage D L) → List (Passage D L) → Option L → Type 0
IsAccepted {D} worker door from to (Some link) = GoesOnBy {D = D} door.before door.after (Came worker link ∷ []) × (to ≡ from ++ Came worker link ∷ [])
IsAccepted {D} worker door from to None = GoesOnBy {D = D} door.before door.after (Failed worker ∷ []) × (to ≡ from ++ Failed worker ∷ [])

-- a link was given back or dropped, and that was recorded
abbrev pub IsGivenBack : {D L : Type 0} → ℕ → Visited L → Over (DoorSeen L) → List (Passage D L) → List (Passage D L) → Bool → Type 0
IsGivenBack {D} worker visited door from to lacks =
    (back : Bool) × GoesOnBy {D = D} door.before door.after (Went worker visited back ∷ []) × (to ≡ from ++ Went worker visited back ∷ []) × (lacks ≡ lacks_memory visited.served back)
