-- How each outcome of merged lanes follows from its position in the one history.
use Rattle.std.specs.Prelude.{◌≡◌, ◌⊎◌, ℕ, ◌+◌, ◌-◌, ◌<◌, ◌≤◌, true, nat_le, MatchBool, List, [], ◌∷◌, ◌++◌, length, take, slice_get, Option, None, Some}
use Rattle.asks.specs.declared.call.Call.{Call}
use Rattle.asks.specs.declared.reply.Reply.{Reply}
use Rattle.asks.specs.declared.reply.Reply.TheVariants.{Refused}
use Rattle.asks.specs.declared.reply.Refusal.TheVariants.{Unkept}
use Rattle.desk_state.specs.Lanes.{said_of}
use Rattle.desk_state.specs.Legal.{Legal, next}
use Rattle.desk_state.specs.State.{State}
use Rattle.desk_state.specs.Step.{answer_call, entry, tick_to, without_key}
use Rattle.desk_state.specs.declared.entry.Entry.{Entry}
use Rattle.desk_state.specs.declared.entry.What.TheVariants as what
use Rattle.desk_state.specs.declared.lanes.Item.{Item}
use Rattle.desk_state.specs.declared.lanes.Item.TheVariants as item
use Rattle.desk_state.specs.declared.lanes.Outcome.{Outcome}
use Rattle.desk_state.specs.declared.lanes.Said.{Said}
use Rattle.desk_state.specs.declared.lanes.Said.TheVariants as said
use Rattle.desk.specs.Keeping.{adds}
use Rattle.desk.specs.Run.{LaneShown}

-- ---- the entries before a position

abbrev pub after_entries : State → List Entry → State
after_entries s [] = s
after_entries s (e ∷ es) = after_entries (next s e.lane e.what) es

-- the state after the first `position` entries of the history, in which `entries` follow the state `s`
abbrev pub prefix : State → List Entry → ℕ → State
prefix s entries position = after_entries s (take (position - length s.entries) entries)

-- ---- the answer to a call in a state

-- the refusal `Unkept` with this count of the keeper's faults
abbrev pub IsUnkept : ℕ → Said → Type 0
IsUnkept faults says = says ≡ said.Reply (Refused (Unkept faults))

-- the refusal `Unkept` with a count above the first number and at most the second
abbrev pub IsUnkeptWithin : ℕ → ℕ → Said → Type 0
IsUnkeptWithin low high says = (faults : ℕ) × IsUnkept faults says × (low < faults) × (faults ≤ high)

-- a call whose moment has come gets its answer, or `Unkept` if that answer adds an entry
abbrev pub IsAnswered : ℕ → ℕ → ℕ → State → Call → Said → Type 0
IsAnswered low high lane u call says =
    (says ≡ said_of (answer_call u lane call).reply) ⊎ ((adds u (answer_call u lane call) ≡ true) × IsUnkeptWithin low high says)

-- A call with a later moment, whose tick wasn't made, gets the tick's refusal, or `Unkept` if the tick couldn't be
-- stored.
abbrev pub IsRefusedBy : ℕ → ℕ → Option Reply → Said → Type 0
IsRefusedBy low high (Some reply) says = says ≡ said.Reply reply
IsRefusedBy low high None says = IsUnkeptWithin low high says

-- the answer to an item of a lane in a state; counts in refusals `Unkept` are above `low` and at most `high`
abbrev pub IsSaidIn : ℕ → ℕ → ℕ → State → Item → Said → Type 0
IsSaidIn low high lane u (item.Bad fault) says = says ≡ said.Bad fault
IsSaidIn low high lane u (item.Call at call) says =
    MatchBool (nat_le at u.moment) (IsAnswered low high lane u call says) (IsRefusedBy low high (tick_to u lane at).reply says)

-- The item is an accepted call: its moment has come, its answer adds an entry, and this is its reply.
abbrev pub Accepts : ℕ → State → Item → Said → Type 0
Accepts lane u (item.Bad fault) says = ⊥
Accepts lane u (item.Call at call) says = (at ≤ u.moment) × (adds u (answer_call u lane call) ≡ true) × (says ≡ said_of (answer_call u lane call).reply)

-- the entry of a lane's call and its reply; the call is recorded without its key
abbrev pub IsEntryOf : Entry → ℕ → Item → Said → Type 0
IsEntryOf e lane (item.Bad fault) says = ⊥
IsEntryOf e lane (item.Call at call) says = (reply : Reply) × (says ≡ said.Reply reply) × (e ≡ entry lane (what.Asked (without_key call) reply))

-- a call at this moment
abbrev pub ComesAt : ℕ → Item → Type 0
ComesAt moment (item.Bad fault) = ⊥
ComesAt moment (item.Call at call) = at ≡ moment

-- ---- the lines of lanes

-- the item and the outcome at a place, from 0, of the lane with a number, from 1
pub record IsLine (lanes : List LaneShown) (number place : ℕ) (i : Item) (o : Outcome) : Type 0 where
  pub lane : LaneShown
  pub numbered : 1 ≤ number
  pub found : slice_get lanes (number - 1) ≡ Some lane
  pub item_is : slice_get lane.items place ≡ Some i
  pub outcome_is : slice_get lane.outcomes place ≡ Some o

-- the entry at the outcome's position is that of the item; `entries` follow the state `s`
abbrev pub Owns : State → List Entry → ℕ → Item → Outcome → Type 0
Owns s entries lane i o = (e : Entry) × (slice_get entries (o.position - length s.entries) ≡ Some e) × IsEntryOf e lane i o.said

-- Lanes are merged into a history. The entries follow the state `s`. The keeper's count of faults is `low` before
-- them and `high` after them.
pub record AreInHistory (low high : ℕ) (s : State) (lanes : List LaneShown) (entries : List Entry) : Type 0 where
  -- each lane has an outcome for each item
  pub whole : (n : ℕ) (lane : LaneShown) → slice_get lanes n ≡ Some lane → length lane.outcomes ≡ length lane.items
  -- each position is that of an entry, or right after the last
  pub within : (k n : ℕ) (i : Item) (o : Outcome) → IsLine lanes k n i o → (length s.entries ≤ o.position) × (o.position ≤ length s.entries + length entries)
  -- along a lane the positions never fall
  pub ordered : (k n m : ℕ) (i j : Item) (o p : Outcome) → IsLine lanes k n i o → IsLine lanes k m j p → n < m → o.position ≤ p.position
  -- after an accepted call, the lane's next positions are greater
  pub after_own : (k n m : ℕ) (i j : Item) (o p : Outcome) → IsLine lanes k n i o → IsLine lanes k m j p → n < m → Accepts k (prefix s entries o.position) i o.said → o.position < p.position
  -- each outcome is the answer to its item in the state at its position
  pub answered : (k n : ℕ) (i : Item) (o : Outcome) → IsLine lanes k n i o → IsSaidIn low high k (prefix s entries o.position) i o.said
  -- an accepted call has its own entry, at its position
  pub own : (k n : ℕ) (i : Item) (o : Outcome) → IsLine lanes k n i o → Accepts k (prefix s entries o.position) i o.said → Owns s entries k i o
  -- each entry of a call belongs to an accepted call
  pub owned : (q k : ℕ) (call : Call) (reply : Reply) → slice_get entries q ≡ Some (entry k (what.Asked call reply))
      → (n : ℕ) × (i : Item) × (o : Outcome) × IsLine lanes k n i o × Accepts k (prefix s entries o.position) i o.said × (o.position ≡ length s.entries + q)
      × IsEntryOf (entry k (what.Asked call reply)) k i o.said
  -- no entry belongs to two accepted calls
  pub alone : (k m n p : ℕ) (i j : Item) (o r : Outcome) → IsLine lanes k n i o → IsLine lanes m p j r → Accepts k (prefix s entries o.position) i o.said
      → Accepts m (prefix s entries r.position) j r.said → o.position ≡ r.position → (k ≡ m) × (n ≡ p)
  -- a lane's tick is made for an item of the lane with its moment, which is answered right after the tick
  pub ticks : (q k to : ℕ) → slice_get entries q ≡ Some (entry k (what.Tick to))
      → (n : ℕ) × (i : Item) × (o : Outcome) × IsLine lanes k n i o × ComesAt to i × (o.position ≡ length s.entries + (q + 1))
      × ((m : ℕ) (j : Item) (p : Outcome) → IsLine lanes k m j p → m < n → p.position ≤ length s.entries + q)
  -- along a lane the counts in refusals `Unkept` rise
  pub counts_rise : (k n m : ℕ) (i j : Item) (o p : Outcome) (a b : ℕ) → IsLine lanes k n i o → IsLine lanes k m j p → n < m → IsUnkept a o.said → IsUnkept b p.said → a < b
  -- no two refusals `Unkept` have the same count
  pub counts_differ : (k m n p a : ℕ) (i j : Item) (o r : Outcome) → IsLine lanes k n i o → IsLine lanes m p j r → IsUnkept a o.said → IsUnkept a r.said → (k ≡ m) × (n ≡ p)

-- One history leads from one state to another, and each outcome of the lanes follows from its position in that
-- history.
pub record AreOneHistory (low high : ℕ) (s : State) (lanes : List LaneShown) (t : State) : Type 0 where
  pub entries : List Entry
  pub grown : t.entries ≡ s.entries ++ entries
  pub legal : Legal s entries t
  pub merged : AreInHistory low high s lanes entries
