-- Connections of a door that are served at once, each in turns of its own lane.
use Rattle.std.specs.Prelude.{◌≡◌, ℕ, ◌+◌, ◌*◌, ◌<◌, ◌≤◌, Bool, true, false, List, [], ◌∷◌, ◌++◌, length, Option, None, Some, if◌then◌else◌}
use mathlib.Core.List.{IsPrefix}
use Rattle.std.specs.List.{AllByRecursion, list_any}
use Rattle.connections.specs.Doors.{AreAtPort, ArePassed, AreTaken, EndsServing, HadMemory, HasLinks, IsWell, Visit, came_of, counts_as, ended_by_clock, met_after}
use Rattle.connections.specs.declared.doors.Met.{Met}
use Rattle.connections.specs.declared.doors.ServeEnd.{ServeEnd}
use Rattle.connections.specs.declared.rounds.Visited.{Visited}
use Rattle.connections.specs.declared.serving.Served.{Served}
use Rattle.connections.specs.declared.serving.Served.TheVariants as served
use Rattle.desk_io.specs.Health.{IsSound, RoseOrFull}
use Rattle.desk_io.specs.Over.{Over}
use Rattle.desk_net.specs.Doors.{Links, PutsLast, passed}
use Rattle.desk_net.specs.Seen.{DoorSeen}
use Rattle.atomic_table.specs.Seated.{TableId}
use Rattle.turn_lock.specs.Passes.{lock_id, pass_lock, pass_number, pass_numbers, pass_seen}
use Rattle.turn_lock.specs.declared.listed.Listed.{Ghosts}
use Rattle.turn_lock.specs.declared.lock.TurnLock.{TurnLock}
use Rattle.turn_lock.specs.declared.pass.Pass.{Pass}
use Rattle.turn_lock.specs.Elements.{AddsNoneOf, HasNoneAbove, IsAmong, elements_of}

-- How contracts see a lock and its passes. A pass has its lock, its number, the numbers that it has taken in, and the
-- list that it has seen.
pub record Sight (K P E : Type 0) : Type 0 where
  pub id : K → TableId
  pub lock : P → TableId
  pub number : P → ℕ
  pub numbers : P → List ℕ
  pub seen : P → List E

-- the view of a `TurnLock` and its passes
abbrev pub of_turns : {T E : Type 0} {g : Ghosts T E} → Sight (TurnLock T E) (Pass T E g) E
of_turns = record { id = λ l. lock_id l; lock = λ p. pass_lock p; number = λ p. pass_number p; numbers = λ p. pass_numbers p; seen = λ p. pass_seen p }

-- ---- the list that a pass has seen before its connection, or at the end

abbrev pub AnyList : {E : Type 0} → ℕ → List E → Type 0
AnyList lane list = Unit {0}

abbrev pub BeginsWith : {E : Type 0} → List E → ℕ → List E → Type 0
BeginsWith list lane before = IsPrefix list before

-- A connection after the first n rounds of sixteen begins with everything that these rounds have seen.
abbrev pub ComesAfter : {E : Type 0} → (ℕ → List E) → ℕ → List E → Type 0
ComesAfter looks lane before = (n : ℕ) → 16 * n < lane → IsPrefix (looks n) before

-- A connection within the first n rounds of sixteen has seen only a prefix of what these rounds have seen.
abbrev pub GoesBefore : {E : Type 0} → (ℕ → List E) → ℕ → List E → Type 0
GoesBefore looks lane seen = (n : ℕ) → lane ≤ 16 * n → IsPrefix seen (looks n)

-- ---- connections in turns

-- A connection was served in turns of its lane within the list. The list begins with what its pass saw, and no
-- element of the lane follows. Before the connection the lane had no element. `from` holds of what the pass had seen
-- before, and `to` of what it saw at the end.
pub record IsInTurns {L E : Type 0} (bears : E → ℕ) (says : ℕ → List E → List E → L → L → Served → Type 0) (from to : ℕ → List E → Type 0) (lane : ℕ) (list : List E) (v : Visit L) : Type 0 where
  pub before : List E
  pub seen : List E
  pub begins : from lane before
  pub shows : to lane seen
  pub goes_on : IsPrefix before seen
  pub in_turns : says lane before seen v.came v.went v.served
  pub fresh : elements_of bears lane before ≡ []
  pub within : IsPrefix seen list
  pub own : elements_of bears lane list ≡ elements_of bears lane seen

-- connections, each in the lane of its number
abbrev pub AreInTurns : {L E : Type 0} → (E → ℕ) → (ℕ → List E → List E → L → L → Served → Type 0) → (from to : ℕ → List E → Type 0) → ℕ → List E → List (Visit L) → Type 0
AreInTurns bears says from to lane list [] = Unit {0}
AreInTurns bears says from to lane list (v ∷ vs) = IsInTurns bears says from to lane list v × AreInTurns bears says from to (lane + 1) list vs

-- the links of these connections were the first to come, if the door's links are known
abbrev pub AreAccepted : {L : Type 0} → Option (Links L) → Option (Links L) → List (Visit L) → Type 0
AreAccepted None None vs = Unit {0}
AreAccepted (Some old) (Some new) vs = (old.coming ≡ came_of vs ++ new.coming) × (new.ended ≡ old.ended)
AreAccepted _ _ vs = ⊥

-- connections as they are returned, in reverse order of arrival
abbrev pub left_by : {L : Type 0} → List (Visit L) → List (Visited L)
left_by [] = []
left_by (v ∷ vs) = left_by vs ++ record { link = v.went; served = v.served } ∷ []

-- the numbers contain the `n` lanes from `lane` on
abbrev pub HasLanes : List ℕ → ℕ → ℕ → Type 0
HasLanes numbers lane n = (k : ℕ) → lane ≤ k → k < lane + n → IsAmong k numbers

-- every number of the first list is in the second
abbrev pub HasAllOf : List ℕ → List ℕ → Type 0
HasAllOf old new = (k : ℕ) → IsAmong k old → IsAmong k new

-- no element carries the number of this lane or of a later one
unfoldable pub HasNoneFrom : {E : Type 0} → (E → ℕ) → ℕ → List E → Type 0
HasNoneFrom bears lane list = (n : ℕ) → lane ≤ n → elements_of bears n list ≡ []

-- how accepting ended: as many links came as were asked for, or the door failed
abbrev pub EndsAccepting : {L : Type 0} → Type 0 → ℕ → List (Visit L) → Bool → Type 0
EndsAccepting door most vs false = length vs ≡ most
EndsAccepting door most vs true = door × (length vs < most)

-- At most `most` connections were served at once, in lanes from `lane` on. Each took its turns within the list that
-- the passes have seen, and had seen the list `first` before.
pub record IsRound {L E : Type 0} (bears : E → ℕ) (says : ℕ → List E → List E → L → L → Served → Type 0) (lane most : ℕ) (door : Over (DoorSeen L)) (first list : List E) (numbers : List ℕ) (splits : ℕ) (done : List (Visited L)) (failed : Bool) : Type 0 where
  pub visits : List (Visit L)
  pub are : AreInTurns bears says (BeginsWith first) AnyList lane list visits
  pub accepted : AreAccepted door.before.links door.after.links visits
  pub let_in : door.after.passed ≡ passed (door.before.passed.came ++ came_of visits) door.before.passed.went
  pub left : done ≡ left_by visits
  pub lanes : HasLanes numbers lane (length visits)
  pub given : splits + 1 ≡ lane + length visits
  pub ends : EndsAccepting (RoseOrFull door.before.health.faults door.after.health.faults) most visits failed
  pub later : door.before.health.faults ≤ door.after.health.faults
  pub port : door.after.opened_at ≡ door.before.opened_at
  -- a sound door with enough links doesn't fail
  pub steady : IsSound door.before.health → IsSound door.after.health × (HasLinks door.before.links most → failed ≡ false)

-- ---- links that are given back

-- the link is the last of those given back, or it couldn't be given back and was dropped
abbrev pub IsBack : {L : Type 0} → Bool → Option (Links L) → Option (Links L) → L → Type 0
IsBack back None None went = Unit {0}
IsBack true (Some old) (Some new) went = PutsLast old new went
IsBack false (Some old) (Some new) went = new ≡ old
IsBack back _ _ went = ⊥

-- the link, if it was given back
abbrev pub back_one : {L : Type 0} → Bool → L → List L
back_one true went = went ∷ []
back_one false went = []

-- The same by the door's record, too.
pub record IsLetOut {L : Type 0} (back : Bool) (old new : DoorSeen L) (went : L) : Type 0 where
  pub links : IsBack back old.links new.links went
  pub let_out : new.passed ≡ passed old.passed.came (old.passed.went ++ back_one back went)

-- A link was given back or dropped, and its connection's end was counted accordingly.
abbrev pub IsGivenBack : {L : Type 0} → DoorSeen L → DoorSeen L → Met → Visited L → Met → Type 0
IsGivenBack old new met one next = (back : Bool) × IsLetOut back old new one.link × (next ≡ met_after met (if back then one.served else served.OutOfMemory))

-- The links were given back in order of arrival, and each connection's end was counted accordingly.
abbrev pub AreGivenBack : {L : Type 0} → DoorSeen L → DoorSeen L → Met → List (Visit L) → Met → Type 0
AreGivenBack old new met [] next = (new ≡ old) × (next ≡ met)
AreGivenBack {L} old new met (v ∷ vs) next =
    (back : Bool) × (mid : DoorSeen L) × IsLetOut back old mid v.went × AreGivenBack mid new (met_after met (counts_as (record v { back = back }))) vs next

-- ---- rounds, one after another

-- `met` matches how these connections ended
pub record HasMet {L : Type 0} (met : Met) (vs : List (Visit L)) : Type 0 where
  pub had : met.memory ≡ false → AllByRecursion HadMemory vs
  pub well : met.memory ≡ false → met.clock ≡ false → AllByRecursion IsWell vs
  pub fault : met.clock ≡ true → list_any ended_by_clock vs ≡ true

-- The connections served so far, as many as the first pass was split. Each took its turns within the list, and began
-- with everything that earlier rounds have seen. Their links were given back, and `met` is how they ended.
pub record AreServed {L E : Type 0} (bears : E → ℕ) (says : ℕ → List E → List E → L → L → Served → Type 0) (port : ℕ) (began now : DoorSeen L) (list : List E) (numbers : List ℕ) (splits : ℕ) (met : Met) : Type 0 where
  pub visits : List (Visit L)
  pub looks : ℕ → List E
  pub are : AreInTurns bears says (ComesAfter looks) (GoesBefore looks) 1 list visits
  pub looked : (n : ℕ) → IsPrefix (looks n) list
  pub many : length visits ≡ splits
  pub lanes : HasLanes numbers 1 splits
  pub first : IsAmong 0 numbers
  pub nothing : elements_of bears 0 list ≡ []
  pub taken : AreTaken began.links now.links visits
  pub let_by : ArePassed began.passed now.passed visits
  pub met_is : HasMet met visits
  pub opened : now.opened_at ≡ Some port
  pub later : began.health.faults ≤ now.health.faults
  pub sound : IsSound began.health → IsSound now.health

-- how a round ended: as many connections had come as were asked for, or the door failed before
abbrev pub EndsRound : Type 0 → ℕ → ℕ → Bool → Type 0
EndsRound door most came false = came ≡ most
EndsRound door most came true = door × (came < most)

-- ---- all connections that were served

-- At most `most` connections at a port were served, each in turns of the lane of its number, from 1. For each number
-- of rounds, `looks` gives everything that these rounds have seen. Later connections begin with that list. The whole
-- list has elements of these lanes only.
pub record HasServed {L E : Type 0} (bears : E → ℕ) (says : ℕ → List E → List E → L → L → Served → Type 0) (door : Over (DoorSeen L)) (list : List E) (port most : ℕ) (end : ServeEnd) : Type 0 where
  pub visits : List (Visit L)
  pub looks : ℕ → List E
  pub are : AreInTurns bears says (ComesAfter looks) (GoesBefore looks) 1 list visits
  pub nothing : elements_of bears 0 list ≡ []
  pub above : HasNoneAbove bears (length visits) list
  pub taken : AreTaken door.before.links door.after.links visits
  pub let_by : ArePassed door.before.passed door.after.passed visits
  pub came_at : AreAtPort door.after.opened_at port visits
  pub ends : EndsServing (RoseOrFull door.before.health.faults door.after.health.faults) most visits end

-- The list at the end. It continues the list that the first pass has seen, with no element of that pass's numbers. It
-- has no element of a number that the pass didn't give out.
pub record IsLast {E : Type 0} (bears : E → ℕ) (seen : List E) (numbers : List ℕ) (splits : ℕ) (list : List E) : Type 0 where
  pub begins : IsPrefix seen list
  pub adds : AddsNoneOf bears numbers seen list
  pub above : HasNoneAbove bears splits list
