-- The events at a shared desk as one list: the clock's answers, the entries of the history, and the misses.
use Rattle.std.specs.Prelude.{◌≡◌, ℕ, Bool, true, false, List, [], ◌∷◌, ◌++◌, filter, map, take, Option, None, Some}
use Rattle.std.specs.List.{filter_map}
use Rattle.desk_state.specs.Legal.{next}
use Rattle.desk_state.specs.State.{State}
use Rattle.desk_state.specs.declared.entry.Entry.{Entry}
use Rattle.desk_state.specs.declared.entry.What.{What}
use Rattle.desk_state.specs.declared.entry.What.TheVariants as what
use Rattle.service.specs.declared.events.Event.{Event}
use Rattle.service.specs.declared.events.Event.TheVariants.{Told, Entered, Missed}
use Rattle.service.specs.declared.misses.Miss.{Miss}
use Rattle.service.specs.declared.misses.MissOf.{MissOf}
use Rattle.service.specs.declared.misses.MissOf.TheVariants as of

abbrev pub miss : ℕ → MissOf → ℕ → Miss
miss lane source faults = record { lane = lane; source = source; faults = faults }

-- the lane of an event
abbrev pub lane_of : Event → ℕ
lane_of (Told lane at) = lane
lane_of (Entered e) = e.lane
lane_of (Missed m) = m.lane

abbrev pub entered : List Entry → List Event
entered es = map (λ e. Entered e) es

abbrev pub missed : List Miss → List Event
missed ms = map (λ m. Missed m) ms

-- ---- the entries and the states in a list of events

abbrev pub entry_in : Event → Option Entry
entry_in (Told lane at) = None
entry_in (Entered e) = Some e
entry_in (Missed m) = None

-- the entries among events
abbrev pub entries_in : List Event → List Entry
entries_in events = filter_map entry_in events

-- the state after entries
abbrev pub after_entries : State → List Entry → State
after_entries s [] = s
after_entries s (e ∷ es) = after_entries (next s e.lane e.what) es

-- the state at a place of a list, after the entries before that place
abbrev pub state_at : State → List Event → ℕ → State
state_at opening events place = after_entries opening (entries_in (take place events))

-- ---- the misses and the counts of faults at them

abbrev pub miss_in : Event → Option Miss
miss_in (Told lane at) = None
miss_in (Entered e) = None
miss_in (Missed m) = Some m

-- the misses among events
abbrev pub misses_in : List Event → List Miss
misses_in events = filter_map miss_in events

abbrev pub is_of : MissOf → MissOf → Bool
is_of of.Keeper of.Keeper = true
is_of of.Clock of.Clock = true
is_of _ _ = false

-- the counts at the misses of one object, in order
abbrev pub faults_of : MissOf → List Miss → List ℕ
faults_of source ms = map (λ m. m.faults) (filter (λ m. is_of source m.source) ms)

abbrev pub faults_in : MissOf → List Event → List ℕ
faults_in source events = faults_of source (misses_in events)

-- the last of the numbers, or `n` if there are none
abbrev pub last_or : ℕ → List ℕ → ℕ
last_or n [] = n
last_or n (m ∷ ms) = last_or m ms

-- ---- whether rows can be kept

abbrev pub keeps_after : Bool → MissOf → Bool
keeps_after kept of.Keeper = false
keeps_after kept of.Clock = kept

abbrev pub keeps_with : Bool → Event → Bool
keeps_with kept (Told lane at) = kept
keeps_with kept (Entered e) = true
keeps_with kept (Missed m) = keeps_after kept m.source

abbrev pub keeps_from : Bool → List Event → Bool
keeps_from kept [] = kept
keeps_from kept (e ∷ es) = keeps_from (keeps_with kept e) es

-- Rows could be kept when they were to change last: no miss of the keeper comes after the last entry.
abbrev pub keeps : List Event → Bool
keeps events = keeps_from true events

-- ---- the clock's answers

abbrev answer_at_miss : MissOf → List (Option ℕ)
answer_at_miss of.Keeper = []
answer_at_miss of.Clock = None ∷ []

abbrev pub answer_in : Event → List (Option ℕ)
answer_in (Told lane at) = Some at ∷ []
answer_in (Entered e) = []
answer_in (Missed m) = answer_at_miss m.source

-- the clock's answers among events, in order: a moment, or None for a failure
abbrev pub answers_in : List Event → List (Option ℕ)
answers_in [] = []
answers_in (e ∷ es) = answer_in e ++ answers_in es

-- The last answer of the clock: its moment, the lane of the call for which it was asked, and what was entered since.
pub record LastAnswer : Type 0 where
  pub lane : ℕ
  pub at : ℕ
  pub ticked : Bool
  pub called : Bool

abbrev pub fresh_answer : ℕ → ℕ → LastAnswer
fresh_answer lane at = record { lane = lane; at = at; ticked = false; called = false }

-- the tick to the answer's moment comes once, and before the call
abbrev pub MayFollow : LastAnswer → What → Type 0
MayFollow a (what.Tick to) = (to ≡ a.at) × (a.ticked ≡ false)
MayFollow a (what.Asked call reply) = a.called ≡ false

abbrev pub with_entry : LastAnswer → What → LastAnswer
with_entry a (what.Tick to) = record a { ticked = true }
with_entry a (what.Asked call reply) = record a { ticked = true; called = true }

-- an entry belongs to the call for which the clock was asked last
abbrev pub MayEnter : Option LastAnswer → Entry → Type 0
MayEnter None e = ⊥
MayEnter (Some a) e = (e.lane ≡ a.lane) × MayFollow a e.what

abbrev pub after_entry : Option LastAnswer → What → Option LastAnswer
after_entry None w = None
after_entry (Some a) w = Some (with_entry a w)

-- a miss of the keeper belongs to that call, too; a failure of the clock belongs to a call of its own
abbrev pub MayMiss : Option LastAnswer → MissOf → ℕ → Type 0
MayMiss last of.Clock lane = Unit {0}
MayMiss None of.Keeper lane = ⊥
MayMiss (Some a) of.Keeper lane = lane ≡ a.lane

-- Each entry and each miss of the keeper comes after the clock's answer for its own call, and before the next answer.
-- `last` is the answer before the first event.
abbrev pub FollowAnswers : Option LastAnswer → List Event → Type 0
FollowAnswers last [] = Unit {0}
FollowAnswers last (Told lane at ∷ events) = FollowAnswers (Some (fresh_answer lane at)) events
FollowAnswers last (Entered e ∷ events) = MayEnter last e × FollowAnswers (after_entry last e.what) events
FollowAnswers last (Missed m ∷ events) = MayMiss last m.source m.lane × FollowAnswers None events

-- ---- the keeper's commits

-- The commits of a keeper, in order, each with whether it was stored, by the events for which it was asked. One was stored
-- for each entry, and one failed for each miss of the keeper. Others that failed may come between: those of a call that got
-- no reply, since memory ran out.
pub data AreStored : List Event → List Bool → Type 0 where
  ended : AreStored [] []
  at_answer : {lane at : ℕ} {events : List Event} {commits : List Bool} → AreStored events commits → AreStored (Told lane at ∷ events) commits
  at_entry : {e : Entry} {events : List Event} {commits : List Bool} → AreStored events commits → AreStored (Entered e ∷ events) (true ∷ commits)
  at_miss : {m : Miss} {events : List Event} {commits : List Bool} → m.source ≡ of.Keeper → AreStored events commits → AreStored (Missed m ∷ events) (false ∷ commits)
  without_clock : {m : Miss} {events : List Event} {commits : List Bool} → m.source ≡ of.Clock → AreStored events commits → AreStored (Missed m ∷ events) commits
  without_reply : {events : List Event} {commits : List Bool} → AreStored events commits → AreStored events (false ∷ commits)

-- a keeper's commits gained those of the events
pub record HasStored (before after : List Bool) (events : List Event) : Type 0 where
  pub commits : List Bool
  pub gained : after ≡ before ++ commits
  pub are : AreStored events commits
