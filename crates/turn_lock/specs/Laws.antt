-- What holds in every state of a table that meets the lock's rule.
use Rattle.std.specs.Prelude.{◌≡◌, ℕ, ◌+◌, ◌%◌, ◌^◌, ◌≤◌, List, length, slice_index, sum_by, Option, IfSome, Some}
use mathlib.Core.Option.{some}
use mathlib.Core.List.{IsPrefix}
use lib.ListN.{get_elem?}
use Rattle.atomic_table.specs.Table.{State}
use Rattle.turn_lock.specs.Elements.{IsAmong, AddsNoneOf, HasNoneAbove}
use Rattle.turn_lock.specs.Rule.{NoTurnIsOut}
use Rattle.turn_lock.specs.Views.{passes_in, tickets_in, turns_in, numbers_of, IsJoin}
use Rattle.turn_lock.specs.declared.view.View.{View}

module _ {T E : Type 0} where
  -- at most one pass has a turn
  abbrev pub AtMostOneIsOut : State (Option T) (View E) → Type 0
  AtMostOneIsOut s = (i j : ℕ) (v w : View E) → get_elem? s.views i ≡ some v → get_elem? s.views j ≡ some w → turns_in v.stage ≡ 1 → turns_in w.stage ≡ 1 → i ≡ j

  -- the tickets drawn, less those served, are as many as the passes that wait or have a turn, modulo 2^64
  abbrev pub CountsTickets : State (Option T) (View E) → Type 0
  CountsTickets s = (slice_index s.words 2 + sum_by (λ v. tickets_in v.stage) s.views) % 2 ^ 64 ≡ slice_index s.words 1

  -- the seat is that of a pass
  abbrev pub IsPassAt : State (Option T) (View E) → ℕ → View E → Type 0
  IsPassAt s j v = (get_elem? s.views j ≡ some v) × (passes_in v.stage ≡ 1)

  -- no two passes share a number
  abbrev pub AreDistinct : State (Option T) (View E) → Type 0
  AreDistinct s = (i j n : ℕ) (v w : View E) → IsPassAt s i v → IsPassAt s j w → IsAmong n (numbers_of v) → IsAmong n (numbers_of w) → i ≡ j

-- What a pass has seen of the list: a prefix of it, with all elements of the pass's numbers. These numbers were given
-- out.
pub record HasSeen {E : Type 0} (bears : E → ℕ) (list : List E) (given : ℕ) (v : View E) : Type 0 where
  pub begins : IsPrefix v.seen list
  pub whole : AddsNoneOf bears (numbers_of v) v.seen list
  pub numbers : (n : ℕ) → IsAmong n (numbers_of v) → n ≤ given
  pub joint : IfSome v.joint (IsJoin bears v.seen)

-- There is one list. Word 0 is its length, and it is the value's list while no pass has a turn. Each pass has seen a
-- prefix of it. No element carries a number that wasn't given out.
pub record HasOneList {T E : Type 0} (list_of : T → List E) (bears : E → ℕ) (s : State (Option T) (View E)) : Type 0 where
  pub list : List E
  pub given : ℕ
  pub counted : slice_index s.words 0 ≡ length list
  pub seen : (j : ℕ) (v : View E) → IsPassAt s j v → HasSeen bears list given v
  pub fresh : HasNoneAbove bears given list
  pub held : NoTurnIsOut s.views → (x : T) × (get_elem? s.homes 0 ≡ some (some (Some x))) × (list_of x ≡ list)
