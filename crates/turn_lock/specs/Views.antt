-- What the seat of a pass knows, and how steps change that.
use Rattle.std.specs.Prelude.{◌≡◌, ℕ, ◌+◌, List, [], ◌∷◌, ◌++◌, Option, Some, None}
use mathlib.Core.List.{IsPrefix}
use Rattle.atomic_table.specs.Table.{Me}
use Rattle.turn_lock.specs.Elements.{AddsNoneOf, longer_of}
use Rattle.turn_lock.specs.declared.view.Joint.{Joint}
use Rattle.turn_lock.specs.declared.view.View.{View}
use Rattle.turn_lock.specs.declared.view.Stage.{Stage}
use Rattle.turn_lock.specs.declared.view.Stage.TheVariants.{Idle, Waiting, Entered, Holding, Spent}

-- 1 for a pass, and 0 once another pass has taken it in
abbrev pub passes_in : Stage → ℕ
passes_in Idle = 1
passes_in (Waiting t) = 1
passes_in (Entered t) = 1
passes_in (Holding t) = 1
passes_in Spent = 0

-- 1 if the pass has a ticket, otherwise 0
abbrev pub tickets_in : Stage → ℕ
tickets_in Idle = 0
tickets_in (Waiting t) = 1
tickets_in (Entered t) = 1
tickets_in (Holding t) = 1
tickets_in Spent = 0

-- 1 if the pass has a turn, otherwise 0
abbrev pub turns_in : Stage → ℕ
turns_in Idle = 0
turns_in (Waiting t) = 0
turns_in (Entered t) = 1
turns_in (Holding t) = 1
turns_in Spent = 0

-- the pass's ticket, or 0 if it has none
abbrev pub ticket_of : Stage → ℕ
ticket_of Idle = 0
ticket_of (Waiting t) = t
ticket_of (Entered t) = t
ticket_of (Holding t) = t
ticket_of Spent = 0

module _ {E : Type 0} where
  -- the pass's own number, and those of the passes that it has taken in
  abbrev pub numbers_of : View E → List ℕ
  numbers_of v = v.number ∷ v.others

  -- a pass that has taken in no other and was never split
  abbrev pub beginner : ℕ → List E → Stage → View E
  beginner n seen stage = record { number = n; others = []; splits = 0; seen = seen; joint = None; stage = stage }

  -- the first pass when the lock is made: it has a turn, and the slot in its place is empty
  abbrev pub opening_view : View E
  opening_view = beginner 0 [] (Entered 0)

  abbrev pub at_stage : View E → Stage → View E
  at_stage v stage = record v { stage = stage }

  -- the pass waits with that ticket
  abbrev pub waiting : View E → ℕ → View E
  waiting v t = record v { joint = None; stage = Waiting t }

  -- the pass has seen that list
  abbrev pub up_to : View E → List E → View E
  up_to v xs = record v { seen = xs; joint = None }

  -- the pass that was split, after the split
  abbrev pub parting : View E → View E
  parting v = record v { splits = v.splits + 1 }

  -- the new pass of a split, which has the next number and has seen the same list
  abbrev pub parted : View E → View E
  parted v = beginner (v.splits + 1) v.seen Idle

  -- what two passes had seen, and their numbers, before a join
  abbrev pub joint_of : View E → View E → Joint E
  joint_of v w = record { seen = v.seen; numbers = numbers_of v; other_seen = w.seen; other_numbers = numbers_of w }

  -- the pass after a join: it has the numbers of both, and the longer list
  abbrev pub joined : View E → View E → View E
  joined v w = record v { others = v.others ++ numbers_of w; seen = longer_of v.seen w.seen; joint = Some (joint_of v w) }

  -- the other seat of a join, which is no longer a pass
  abbrev pub spent : View E
  spent = beginner 0 [] Spent

-- The result of a join: both lists are prefixes of `seen`, which adds no elements of a pass's own numbers to its
-- list.
pub record IsJoin {E : Type 0} (bears : E → ℕ) (seen : List E) (j : Joint E) : Type 0 where
  pub this : IsPrefix j.seen seen
  pub that : IsPrefix j.other_seen seen
  pub own_this : AddsNoneOf bears j.numbers j.seen seen
  pub own_that : AddsNoneOf bears j.other_numbers j.other_seen seen

-- the view of a seat, and the slots that it holds
abbrev pub At : Type 0 → Type 0 → Type 0
At T E = Me (Option T) (View E)

module _ {T E : Type 0} where
  -- the seat of an idle pass that was split that many times
  abbrev pub IsIdle : At T E → ℕ → Type 0
  IsIdle me splits = (me.1 ≡ []) × (me.0.stage ≡ Idle) × (splits ≡ me.0.splits)

  -- the seat of a pass with a turn, which holds the empty slot
  abbrev pub HasSlot : At T E → ℕ → Type 0
  HasSlot me splits = (me.1 ≡ (0, None) ∷ []) × (me.0.stage ≡ Holding (ticket_of me.0.stage)) × (splits ≡ me.0.splits)
