-- What a pass learns from each kind of step.
use Rattle.std.specs.Prelude.{◌≡◌, ◌≢◌, ℕ, ◌%◌, ◌^◌, List, [], ◌∷◌, Option, IfSome, Some, None}
use mathlib.Core.List.{IsPrefix}
use Rattle.atomic_table.specs.Table.{Step}
use Rattle.turn_lock.specs.Elements.{AddsNoneOf, HasNoneAbove}
use Rattle.turn_lock.specs.Views.{At, at_stage, waiting, up_to, ticket_of, numbers_of, IsJoin}
use Rattle.turn_lock.specs.declared.view.Stage.TheVariants.{Idle, Entered, Holding}

-- A step reads a number, and leads from the seat's old state to its new one.
module _ {T E : Type 0} where
  -- the number is the pass's ticket, modulo 2^64
  abbrev pub Draws : Step (Option T) → At T E → ℕ → At T E → Type 0
  Draws step me found new = (t : ℕ) × (new.0 ≡ waiting me.0 t) × (new.1 ≡ me.1) × (found ≡ t % 2 ^ 64)

  -- The pass takes out the slot with a value. The value's list continues what the pass had seen, with no elements of
  -- the pass's numbers. Pass 0 also learns that no element carries a number that it hasn't given out.
  abbrev pub TakesOut : (T → List E) → (E → ℕ) → At T E → At T E → Type 0
  TakesOut list_of bears me new =
      (x : T) × (new.0 ≡ at_stage (up_to me.0 (list_of x)) (Holding (ticket_of me.0.stage))) × (new.1 ≡ (0, Some x) ∷ me.1)
      × IsPrefix me.0.seen (list_of x) × AddsNoneOf bears (numbers_of me.0) me.0.seen (list_of x)
      × (me.0.number ≡ 0 → HasNoneAbove bears me.0.splits (list_of x))

  -- if the number is the pass's ticket, the pass takes out the slot; otherwise nothing changes
  abbrev pub Looks : (T → List E) → (E → ℕ) → Step (Option T) → At T E → ℕ → At T E → Type 0
  Looks list_of bears step me found new =
      (found ≡ ticket_of me.0.stage % 2 ^ 64 → TakesOut list_of bears me new) × (found ≢ ticket_of me.0.stage % 2 ^ 64 → new ≡ me)

  -- the pass has seen the list of the value in its slot
  abbrev pub Counts : (T → List E) → Step (Option T) → At T E → ℕ → At T E → Type 0
  Counts list_of step me found new = (x : T) → me.1 ≡ (0, Some x) ∷ [] → (new.0 ≡ up_to me.0 (list_of x)) × (new.1 ≡ me.1)

  -- the pass is idle, and holds no slot
  abbrev pub Serves : Step (Option T) → At T E → ℕ → At T E → Type 0
  Serves step me found new = (new.0 ≡ at_stage me.0 Idle) × (new.1 ≡ [])

  -- the pass learns what its last join left
  abbrev pub Compares : (E → ℕ) → Step (Option T) → At T E → ℕ → At T E → Type 0
  Compares bears step me found new = (new ≡ me) × IfSome me.0.joint (IsJoin bears me.0.seen)

  -- the pass has a turn, and no longer holds the slot
  abbrev pub Lowers : Step (Option T) → At T E → ℕ → At T E → Type 0
  Lowers step me found new = (new.0 ≡ at_stage me.0 (Entered (ticket_of me.0.stage))) × (new.1 ≡ [])

  -- the pass has a turn, and holds the empty slot
  abbrev pub Lifts : Step (Option T) → At T E → ℕ → At T E → Type 0
  Lifts step me found new = (new.0 ≡ at_stage me.0 (Holding (ticket_of me.0.stage))) × (new.1 ≡ (0, None) ∷ me.1)
