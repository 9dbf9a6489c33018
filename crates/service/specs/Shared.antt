-- The model of a shared desk in contracts, and what holds of it at every turn.
use Rattle.std.specs.Prelude.{◌≡◌, ℕ, List, [], ◌∷◌, ◌++◌, Option, None, Some}
use Rattle.std.specs.List.{AllByRecursion}
use Rattle.alerts.specs.Seen.{BellSeen}
use Rattle.desk.specs.Keeping.{Rise, kept_at}
use Rattle.desk.specs.Seen.{DeskAt, DeskGoesOn, DeskSeen, desk_seen}
use Rattle.desk.specs.declared.settling.Desk.{Desk}
use Rattle.desk_io.specs.Over.{Over}
use Rattle.desk_net.specs.Clocks.{Dial, StandsAt, dial}
use Rattle.desk_net.specs.Seen.{ClockGoesOn, ClockSeen}
use Rattle.desk_state.specs.Legal.{Legal}
use Rattle.desk_state.specs.declared.entry.Entry.{Entry}
use Rattle.desk_state.specs.declared.entry.What.{What}
use Rattle.desk_state.specs.declared.entry.What.TheVariants as what
use Rattle.keeper.specs.Seen.{KeeperSeen}
use Rattle.service.specs.Events.{FollowAnswers, HasStored, answers_in, entries_in, faults_in, last_or}
use Rattle.service.specs.declared.events.Event.{Event}
use Rattle.service.specs.declared.events.Event.TheVariants.{Told, Entered, Missed}
use Rattle.service.specs.declared.misses.MissOf.TheVariants as of

-- a shared desk: the desk, its clock and the events so far
pub record SharedDesk (K B C : Type 0) : Type 0 where
  pub desk : Desk K B
  pub clock : C
  pub events : List Event

pub record SharedSeen : Type 0 where
  pub desk : DeskSeen
  pub clock : ClockSeen
  pub events : List Event

abbrev pub seen_by : {K B C : Type 0} → (K → KeeperSeen) → (B → BellSeen) → (C → ClockSeen) → SharedDesk K B C → SharedSeen
seen_by keeper bell clock s = record { desk = desk_seen keeper bell s.desk; clock = clock s.clock; events = s.events }

-- the same from its parts
abbrev pub parts_seen : {K B C : Type 0} → (K → KeeperSeen) → (B → BellSeen) → (C → ClockSeen) → Desk K B → C → List Event → SharedSeen
parts_seen keeper bell clock desk c events = record { desk = desk_seen keeper bell desk; clock = clock c; events = events }

-- the desk at its opening, and now
abbrev pub at_opening : DeskSeen → DeskAt
at_opening d = record { state = d.opening; kept = kept_at d.keeper }

abbrev pub at_present : DeskSeen → DeskAt
at_present d = record { state = d.state; kept = kept_at d.keeper }

-- the same desk, with the keeper's faults counted from another count
abbrev pub counted_from : ℕ → DeskAt → DeskAt
counted_from less d = record { state = d.state; kept = record { faults = less; stored = d.kept.stored } }

-- one of the clock's moments, if they are known
abbrev pub IsTold : Option Dial → ℕ → Type 0
IsTold None at = Unit {0}
IsTold (Some d) at = (place : ℕ) × StandsAt (Some (dial d.moments place)) at

-- a tick is to one of the clock's moments
abbrev pub IsTickTimed : Option Dial → What → Type 0
IsTickTimed clock (what.Tick to) = IsTold clock to
IsTickTimed clock (what.Asked call reply) = Unit {0}

-- the clock's answer, or the tick, is to one of the clock's moments
abbrev pub IsTimed : Option Dial → Event → Type 0
IsTimed clock (Told lane at) = IsTold clock at
IsTimed clock (Entered e) = IsTickTimed clock e.what
IsTimed clock (Missed m) = Unit {0}

-- One list contains all that happened at a desk and its clock. Its entries are the history, which leads from the first
-- state to the last. The counts at the misses of each object rise, from its count before to its count after. The
-- clock's count is that of its last miss. Every answer and every tick is to one of the clock's moments.
pub record IsOneList (clock : Over ClockSeen) (desk : Over DeskAt) (list : List Event) : Type 0 where
  pub entries : entries_in list ≡ desk.after.state.entries
  pub legal : Legal desk.before.state desk.after.state.entries desk.after.state
  pub kept : Rise desk.before.kept.faults (faults_in of.Keeper list) desk.after.kept.faults
  pub timely : Rise clock.before.health.faults (faults_in of.Clock list) clock.after.health.faults
  pub counted : clock.after.health.faults ≡ last_or clock.before.health.faults (faults_in of.Clock list)
  pub timed : AllByRecursion (IsTimed clock.before.dial) list
  -- by the record of the clock: the list contains each of its answers, in the order in which they came
  pub clocked : clock.after.answers ≡ clock.before.answers ++ answers_in list
  -- each answer was used for the call for which the clock was asked
  pub follow : FollowAnswers None list
  -- each entry and each miss of the keeper is that of one commit, in order
  pub stored : HasStored desk.before.kept.stored desk.after.kept.stored list

abbrev pub tick_in : What → List ℕ
tick_in (what.Tick to) = to ∷ []
tick_in (what.Asked call reply) = []

-- the moments of the ticks, in order
abbrev pub ticks_in : List Entry → List ℕ
ticks_in [] = []
ticks_in (e ∷ es) = tick_in e.what ++ ticks_in es

-- The moments are some of the answers, in the same order. No answer is taken twice.
abbrev pub AreTakenFrom : List (Option ℕ) → List ℕ → Type 0
AreTakenFrom answers [] = Unit {0}
AreTakenFrom answers (at ∷ moments) =
    (front : List (Option ℕ)) × (rest : List (Option ℕ)) × (answers ≡ front ++ Some at ∷ rest) × AreTakenFrom rest moments

-- the shared desk goes on from its opening
pub record IsSharedSince (desk : DeskSeen) (clock : ClockSeen) (s : SharedSeen) : Type 0 where
  pub desk_on : DeskGoesOn desk s.desk
  pub clock_on : ClockGoesOn clock s.clock
  pub list : IsOneList (record { before = clock; after = s.clock }) (record { before = at_opening desk; after = at_present s.desk }) s.events

-- the list is that of such a shared desk
pub record IsSharedList (desk : DeskSeen) (clock : ClockSeen) (list : List Event) : Type 0 where
  pub shared : SharedSeen
  pub since : IsSharedSince desk clock shared
  pub is : list ≡ shared.events
