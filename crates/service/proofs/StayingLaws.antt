-- What the type of the shared desk keeps, of all that workers did.
use Rattle.std.proofs.Common.{◌≡◌, ℕ, ◌+◌, ◌≤◌, true, length, List, Option, None, Some, sym, subst, arith}
use Rattle.connections.specs.Doors.{HasLinks}
use Rattle.connections.specs.declared.doors.ServeEnd.{ServeEnd}
use Rattle.connections.specs.declared.doors.ServeEnd.TheVariants as ends
use Rattle.desk.specs.Seen.{DeskAt, DeskSeen}
use Rattle.desk_io.specs.Health.{IsSound, RoseOrFull}
use Rattle.desk_io.specs.Over.{Over}
use Rattle.desk_net.specs.Doors.{HasNext, Links}
use Rattle.desk_net.specs.Seen.{ClockSeen, DoorSeen, LinkSeen}
use Rattle.desk_state.specs.State.{State}
use Rattle.service.specs.Minutes.{HasTicked}
use Rattle.service.specs.Staying.{IsStaying}
use Rattle.service.proofs.ServingLaws.{list_from, list_opened}
use Rattle.service.specs.Doors.{IsServedInTurns}
use Rattle.service.specs.Events.{lane_of}
use Rattle.service.specs.Shared.{IsSharedSince, SharedSeen, at_present, counted_from}
use Rattle.workers.specs.Doorways.{AreMoved}
use Rattle.workers.specs.Staying.{EndsStaying, HasStayed}
use Rattle.workers.specs.declared.passages.Passage.{Passage}

staying_is : {L : Type 0} (D : Type 0) (link : L → LinkSeen) (door : Over (DoorSeen L)) (desk : DeskSeen) (clock : ClockSeen) (s : SharedSeen) (port most : ℕ) (end : ServeEnd) → desk.state ≡ desk.opening → IsSharedSince desk clock s
    → HasStayed D lane_of (IsServedInTurns true link desk.opening clock) (HasTicked desk.opening clock.dial) door s.events port most end
    → IsStaying D link door (record { before = clock; after = s.clock }) (record { before = at_present desk; after = at_present s.desk }) port most end
staying_is D link door desk clock s port most end opened since stayed = record {
  list = s.events;
  stayed = subst (λ (o : State). HasStayed D lane_of (IsServedInTurns true link o clock) (HasTicked o clock.dial) door s.events port most end) (sym opened) stayed;
  is = list_opened desk clock s opened since;
}

pub staying_so : {L : Type 0} (D : Type 0) (link : L → LinkSeen) (door : Over (DoorSeen L)) (desk d : DeskSeen) (clock k : ClockSeen) (s : SharedSeen) (port most : ℕ) (end : ServeEnd) → d ≡ desk → k ≡ clock → d.state ≡ d.opening
    → IsSharedSince desk clock s → HasStayed D lane_of (IsServedInTurns true link desk.opening clock) (HasTicked desk.opening clock.dial) door s.events port most end
    → IsStaying D link door (record { before = k; after = s.clock }) (record { before = at_present d; after = at_present s.desk }) port most end
staying_so D link door desk d clock k s port most end one two opened since stayed =
    let opens : desk.state ≡ desk.opening = subst (λ (x : DeskSeen). x.state ≡ x.opening) one opened in
    subst (λ (x : DeskSeen). IsStaying D link door (record { before = k; after = s.clock }) (record { before = at_present x; after = at_present s.desk }) port most end) (sym one)
    (subst (λ (x : ClockSeen). IsStaying D link door (record { before = x; after = s.clock }) (record { before = at_present desk; after = at_present s.desk }) port most end) (sym two)
    (staying_is D link door desk clock s port most end opens since stayed))

-- the keeper's faults may be counted from an earlier count
pub staying_from : {L : Type 0} (D : Type 0) (link : L → LinkSeen) (door : Over (DoorSeen L)) (clock : Over ClockSeen) (desk : Over DeskAt) (port most : ℕ) (end : ServeEnd) (less : ℕ) → less ≤ desk.before.kept.faults
    → IsStaying D link door clock desk port most end → IsStaying D link door clock (record { before = counted_from less desk.before; after = desk.after }) port most end
staying_from D link door clock desk port most end less under is = record { list = is.list; stayed = is.stayed; is = list_from clock desk is.list less under is.is }

-- ---- why it ended

not_done : {D L : Type 0} (door : Type 0) (ps : List (Passage D L)) (end : ServeEnd) → EndsStaying door ps end → end ≡ ends.Done → ⊥
not_done {D} {L} door ps end how is = subst (EndsStaying {D = D} {L = L} door ps) is how

not_clock : {D L : Type 0} (door : Type 0) (ps : List (Passage D L)) (end : ServeEnd) → EndsStaying door ps end → end ≡ ends.ClockFault → ⊥
not_clock {D} {L} door ps end how is = subst (EndsStaying {D = D} {L = L} door ps) is how

by_door : {D L : Type 0} (door : Type 0) (ps : List (Passage D L)) (end : ServeEnd) → EndsStaying door ps end → end ≡ ends.DoorFault → door
by_door {D} {L} door ps end how is = (subst (EndsStaying {D = D} {L = L} door ps) is how).0

-- a link is always to come if there are links for any number of connections
next_ever : {D L : Type 0} (old new : Option (Links L)) (ps : List (Passage D L)) → AreMoved old new ps → ((n : ℕ) → HasLinks old n) → HasNext new
next_ever None None ps moved ever = tt
next_ever (Some old) (Some new) ps moved ever = let more = ever (1 + length old.coming) in absurd (omega (arith, more))
next_ever None (Some new) ps moved ever = absurd moved
next_ever (Some old) None ps moved ever = absurd moved

module _ {L : Type 0} (D : Type 0) (link : L → LinkSeen) (door : Over (DoorSeen L)) (clock : Over ClockSeen) (desk : Over DeskAt) (port most : ℕ) (end : ServeEnd) (is : IsStaying D link door clock desk port most end) where
  pub never_done : end ≡ ends.Done → ⊥
  never_done = not_done (RoseOrFull door.before.health.faults door.after.health.faults) is.stayed.passages end is.stayed.ends

  pub never_by_clock : end ≡ ends.ClockFault → ⊥
  never_by_clock = not_clock (RoseOrFull door.before.health.faults door.after.health.faults) is.stayed.passages end is.stayed.ends

  pub door_rose : end ≡ ends.DoorFault → RoseOrFull door.before.health.faults door.after.health.faults
  door_rose = by_door (RoseOrFull door.before.health.faults door.after.health.faults) is.stayed.passages end is.stayed.ends

  pub never_lacking : end ≡ ends.DoorFault → IsSound door.before.health → ((n : ℕ) → HasLinks door.before.links n) → ⊥
  never_lacking fault sound ever = is.stayed.steady fault sound (next_ever door.before.links door.after.links is.stayed.passages is.stayed.links ever)
