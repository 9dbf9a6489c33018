-- The outcomes of a lane's items over a keeper that may fail to store their changes.
use Rattle.std.specs.Prelude.{◌≡◌, ℕ, ◌<◌, ◌≤◌, nat_lt, Bool, true, false, List, [], ◌∷◌, ◌++◌, length, map, option_to_list, Option, None, Some}
use Rattle.std.specs.List.{AllByRecursion, concat}
use Rattle.alerts.specs.declared.notices.Notice.{Notice}
use Rattle.asks.specs.declared.call.Call.{Call}
use Rattle.asks.specs.declared.reply.Refusal.TheVariants.{Unkept}
use Rattle.asks.specs.declared.reply.Reply.{Reply}
use Rattle.asks.specs.declared.reply.Reply.TheVariants.{Refused}
use Rattle.desk_io.specs.Planned.{after}
use Rattle.desk_io.specs.Rows.{Rows}
use Rattle.desk_io.specs.declared.rows.Change.{Change}
use Rattle.keeper.specs.Kept.{Leads}
use Rattle.keeper.specs.Seen.{KeeperSeen}
use Rattle.board.specs.Below.{AreKept}
use Rattle.desk_state.specs.Lanes.{outcomes, after_items, said_of}
use Rattle.desk_state.specs.State.{State}
use Rattle.desk_state.specs.Step.{Stepped, stay, answer_call, tick_to}
use Rattle.desk_state.specs.declared.lanes.Item.{Item}
use Rattle.desk_state.specs.declared.lanes.Item.TheVariants as item
use Rattle.desk_state.specs.declared.lanes.Outcome.{Outcome}
use Rattle.desk_state.specs.declared.lanes.Said.TheVariants as said
use Rattle.asks.specs.declared.bad_call.BadCall.{BadCall}
use Rattle.desk.specs.Saved.{stored_in}

-- ---- a step that the keeper may fail to store

-- At which steps of an item the keeper fails, each with its count of faults then. None if it stores the step. A step
-- that changes nothing needs no choice.
pub record Choice : Type 0 where
  pub tick : Option ℕ
  pub call : Option ℕ

-- the keeper stores every step
abbrev pub no_choice : Choice
no_choice = record { tick = None; call = None }

-- a refusal because the keeper failed to store the step; nothing changes
abbrev pub unkept : ℕ → State → Stepped
unkept faults s = stay s (Refused (Unkept faults))

-- whether the step adds an entry to the history; exactly such a step changes something
abbrev pub adds : State → Stepped → Bool
adds s t = nat_lt (length s.entries) (length t.state.entries)

abbrev pub unkept_if : Bool → ℕ → State → Stepped → Stepped
unkept_if true faults s t = unkept faults s
unkept_if false faults s t = t

-- A step that can't be stored is refused. A step that changes nothing is answered all the same.
abbrev pub kept_or : Option ℕ → State → Stepped → Stepped
kept_or None s t = t
kept_or (Some faults) s t = unkept_if (adds s t) faults s t

-- ---- the items of a lane

-- the answer to an item: its outcome, the state after it, and the notices of its tick and of its call
pub record Given : Type 0 where
  pub outcome : Outcome
  pub state : State
  pub ticked : List Notice
  pub called : List Notice

abbrev pub given : List Notice → State → Stepped → Given
given ticked s t = record { outcome = record { position = length s.entries; said = said_of t.reply }; state = t.state; ticked = ticked; called = t.notices }

abbrev pub made_with : Option ℕ → ℕ → State → Call → Stepped
made_with fault lane s call = kept_or fault s (answer_call s lane call)

abbrev pub ticked_with : Option ℕ → ℕ → State → ℕ → Stepped
ticked_with fault lane s at = kept_or fault s (tick_to s lane at)

-- A call is made after its tick. If the tick is refused, the call gets that refusal.
abbrev pub once_ticked : Option ℕ → ℕ → Option Reply → State → Call → Stepped
once_ticked fault lane (Some reply) s call = stay s reply
once_ticked fault lane None s call = made_with fault lane s call

abbrev pub made_after : Option ℕ → ℕ → Stepped → Call → Given
made_after fault lane t call = given t.notices t.state (once_ticked fault lane t.reply t.state call)

abbrev pub made_by : Bool → Choice → ℕ → State → ℕ → Call → Given
made_by true c lane s at call = made_after c.call lane (ticked_with c.tick lane s at) call
made_by false c lane s at call = given [] s (made_with c.call lane s call)

-- a call of a lane at a moment; if the moment is later than the desk's, the desk ticks to it first
unfoldable pub answer_with : Choice → ℕ → State → ℕ → Call → Given
answer_with c lane s at call = made_by (nat_lt s.moment at) c lane s at call

-- the answer to a malformed line is its fault, and nothing changes
abbrev pub bad_given : State → BadCall → Given
bad_given s fault = record { outcome = record { position = length s.entries; said = said.Bad fault }; state = s; ticked = []; called = [] }

-- the answer to an item under a choice
abbrev pub item_with : Choice → ℕ → State → Item → Given
item_with c lane s (item.Bad fault) = bad_given s fault
item_with c lane s (item.Call at call) = answer_with c lane s at call

-- The outcomes of items, each under its choice. The keeper stores every step of the items beyond the last choice.
abbrev pub outcomes_with : ℕ → State → List Item → List Choice → List Outcome
outcomes_with lane s [] choices = []
outcomes_with lane s (i ∷ rest) [] = outcomes lane s (i ∷ rest)
outcomes_with lane s (i ∷ rest) (c ∷ cs) = (item_with c lane s i).outcome ∷ outcomes_with lane (item_with c lane s i).state rest cs

-- the state after the items
abbrev pub after_with : ℕ → State → List Item → List Choice → State
after_with lane s [] choices = s
after_with lane s (i ∷ rest) [] = after_items lane s (i ∷ rest)
after_with lane s (i ∷ rest) (c ∷ cs) = after_with lane (item_with c lane s i).state rest cs

-- ---- the keeper's count of faults

-- the numbers rise strictly, from above the first number to at most the last
abbrev pub Rise : ℕ → List ℕ → ℕ → Type 0
Rise low [] high = low ≤ high
Rise low (n ∷ ns) high = (low < n) × Rise n ns high

abbrev pub numbers_of : Choice → List ℕ
numbers_of c = option_to_list c.tick ++ option_to_list c.call

-- The counts at which a keeper fails rise strictly, from above its first count to at most its last.
abbrev pub Counted : ℕ → List Choice → ℕ → Type 0
Counted before choices after = Rise before (concat (map numbers_of choices)) after

-- If the keeper fails at a step, its count rises, and the step carries the new count.
abbrev pub CountedOnce : ℕ → Option ℕ → ℕ → Type 0
CountedOnce before None after = before ≤ after
CountedOnce before (Some n) after = (before < n) × (n ≡ after)

-- Each count at which the keeper failed is its count now, right after the call.
abbrev pub AreNow : ℕ → Choice → Type 0
AreNow now c = AllByRecursion (λ n. n ≡ now) (numbers_of c)

-- ---- the commits that are requested

-- the keeper stores a step that it doesn't fail at
abbrev pub is_stored : Option ℕ → Bool
is_stored None = true
is_stored (Some faults) = false

-- The commits of a step, each with whether it is stored: one if the step adds an entry, otherwise none.
abbrev pub asked_if : Bool → Option ℕ → List Bool
asked_if true fault = is_stored fault ∷ []
asked_if false fault = []

-- A call requests a commit if it adds an entry. If its tick was refused, it requests none.
abbrev pub asked_once : Option Reply → Option ℕ → ℕ → State → Call → List Bool
asked_once (Some reply) fault lane s call = []
asked_once None fault lane s call = asked_if (adds s (answer_call s lane call)) fault

-- the commit of a tick, then the one of its call
abbrev pub asked_late : Choice → ℕ → State → ℕ → Call → List Bool
asked_late c lane s at call =
    asked_if (adds s (tick_to s lane at)) c.tick ++ asked_once (ticked_with c.tick lane s at).reply c.call lane (ticked_with c.tick lane s at).state call

abbrev pub asked_by : Bool → Choice → ℕ → State → ℕ → Call → List Bool
asked_by true c lane s at call = asked_late c lane s at call
asked_by false c lane s at call = asked_once None c.call lane s call

-- The commits of a call at a moment. The tick and the call each request one if they add an entry.
unfoldable pub asked_with : Choice → ℕ → State → ℕ → Call → List Bool
asked_with c lane s at call = asked_by (nat_lt s.moment at) c lane s at call

-- the same for an item
abbrev pub asked_item : Choice → ℕ → State → Item → List Bool
asked_item c lane s (item.Bad fault) = []
asked_item c lane s (item.Call at call) = asked_with c lane s at call

-- The commits of items, each under its choice. The keeper stores every step of the items beyond the last choice.
abbrev pub asked_all : ℕ → State → List Item → List Choice → List Bool
asked_all lane s [] choices = []
asked_all lane s (i ∷ rest) [] = asked_item no_choice lane s i ++ asked_all lane (item_with no_choice lane s i).state rest []
asked_all lane s (i ∷ rest) (c ∷ cs) = asked_item c lane s i ++ asked_all lane (item_with c lane s i).state rest cs

-- a count of commits after these
abbrev pub commits_after : List Bool → ℕ → ℕ
commits_after [] n = n
commits_after (stored ∷ rest) n = commits_after rest (after n)

-- The keeper was asked for exactly these commits: its count tells how many, and its account which of them were stored.
pub record Asks (old new : KeeperSeen) (asked : List Bool) : Type 0 where
  pub commits : new.commits ≡ commits_after asked old.commits
  pub stored : stored_in new.account ≡ stored_in old.account ++ asked

-- ---- what a keeper has come to

-- its count of faults, and of each commit so far, in order, whether it was stored
pub record KeptAt : Type 0 where
  pub faults : ℕ
  pub stored : List Bool

abbrev pub kept_at : KeeperSeen → KeptAt
kept_at keeper = record { faults = keeper.health.faults; stored = stored_in keeper.account }

-- a keeper with this count of faults, of which no commit is known
abbrev pub from_count : ℕ → KeptAt
from_count faults = record { faults = faults; stored = [] }

-- more commits may have come, and more faults
pub record KeptLater (before after : KeptAt) : Type 0 where
  pub asked : List Bool
  pub stored : after.stored ≡ before.stored ++ asked
  pub faults : before.faults ≤ after.faults

-- ---- the rows

-- the rows, if they are known, are those of the state
abbrev pub KeepsState : Option Rows → State → Type 0
KeepsState None s = Unit {0}
KeepsState (Some rows) s = AreKept rows s

-- all changes were made if there was no fault, otherwise none
abbrev pub KeptUnless : Option ℕ → Option Rows → List Change → Option Rows → Type 0
KeptUnless None before changes after = Leads before changes after
KeptUnless (Some faults) before changes after = after ≡ before

-- the outcome, the state after it and the notices are those of an answer
pub record IsGiven (given : Given) (state : State) (outcome : Outcome) (ticked called : List Notice) : Type 0 where
  pub its_outcome : outcome ≡ given.outcome
  pub its_state : state ≡ given.state
  pub its_tick : ticked ≡ given.ticked
  pub its_call : called ≡ given.called

-- An answer under some choice that the keeper's counts allow. A refusal carries the new count. Exactly the commits of
-- `asked` were requested, and those were stored at which the choice has no failure.
pub record GivenBetween (before after : KeeperSeen) (asked : Choice → List Bool) (given : Choice → Given) (state : State) (outcome : Outcome) (ticked called : List Notice) : Type 0 where
  pub choice : Choice
  pub counted : Counted before.health.faults (choice ∷ []) after.health.faults
  pub exact : AreNow after.health.faults choice
  pub asks : Asks before after (asked choice)
  pub is : IsGiven (given choice) state outcome ticked called

-- The outcomes of items and the state after them, under some choices that the keeper's counts allow. Its commits are
-- those of the items, in order, and each failed exactly where a choice says so.
pub record AreGiven (lane : ℕ) (before after : KeptAt) (s : State) (items : List Item) (t : State) (made : List Outcome) : Type 0 where
  pub choices : List Choice
  pub counted : Counted before.faults choices after.faults
  pub stored : after.stored ≡ before.stored ++ asked_all lane s items choices
  pub outcomes : made ≡ outcomes_with lane s items choices
  pub state : t ≡ after_with lane s items choices

-- The same for a prefix of items. Whatever items and choices follow, the outcomes so far and the later ones are those
-- of the whole list.
pub record AreGivenSoFar (lane : ℕ) (before after : KeptAt) (s : State) (items : List Item) (t : State) (left : List Item) (made : List Outcome) : Type 0 where
  pub front : List Item
  pub choices : List Choice
  pub whole : items ≡ front ++ left
  pub counted : Counted before.faults choices after.faults
  pub stored : (next : List Item) (later : List Choice) → after.stored ++ asked_all lane t next later ≡ before.stored ++ asked_all lane s (front ++ next) (choices ++ later)
  pub outcomes : (next : List Item) (later : List Choice) → made ++ outcomes_with lane t next later ≡ outcomes_with lane s (front ++ next) (choices ++ later)
  pub state : (next : List Item) (later : List Choice) → after_with lane t next later ≡ after_with lane s (front ++ next) (choices ++ later)
