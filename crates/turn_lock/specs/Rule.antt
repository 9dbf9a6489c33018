-- The rule of the lock's table of words and slots: turns are taken in the order of tickets.
use Rattle.std.specs.Prelude.{◌≡◌, ◌≢◌, ℕ, ◌+◌, ◌%◌, ◌^◌, ◌<◌, ◌≤◌, List, length, slice_index, sum_by, Option, IfSome, Some, None}
use mathlib.Core.Option as maybe
use mathlib.Core.Option.{some}
use mathlib.Core.List.{IsPrefix}
use lib.ListN.{get_elem?}
use Rattle.atomic_table.specs.Table.{State}
use Rattle.turn_lock.specs.Elements.{IsAmong, AddsNoneOf, HasNoneAbove}
use Rattle.turn_lock.specs.Views.{passes_in, tickets_in, turns_in, ticket_of, numbers_of, IsJoin}
use Rattle.turn_lock.specs.declared.view.View.{View}
use Rattle.turn_lock.specs.declared.view.Stage.{Stage}
use Rattle.turn_lock.specs.declared.view.Stage.TheVariants.{Idle, Waiting, Entered, Holding, Spent}

-- What a pass knows of the list, if `given` is the highest number given to a pass.
pub record Knows {E : Type 0} (bears : E → ℕ) (list : List E) (given : ℕ) (v : View E) : Type 0 where
  pub begins : IsPrefix v.seen list
  -- the pass has seen all elements of its numbers
  pub whole : AddsNoneOf bears (numbers_of v) v.seen list
  pub numbers : (n : ℕ) → IsAmong n (numbers_of v) → n ≤ given
  -- only pass 0 gives out numbers
  pub splits : v.number ≡ 0 → v.splits ≡ given
  pub joint : IfSome v.joint (IsJoin bears v.seen)

module _ {T E : Type 0} (served drawn : ℕ) (list : List E) (homes : List (maybe.Option (Option T))) (seen : List E) where
  -- A waiting pass has a ticket that was drawn and isn't before the one being served. A pass with a turn has the
  -- ticket being served, and has seen the whole list.
  abbrev pub StandsAt : Stage → Type 0
  StandsAt Idle = Unit {0}
  StandsAt (Waiting t) = (served ≤ t) × (t < drawn)
  StandsAt (Entered t) = (t ≡ served) × (t < drawn) × (seen ≡ list) × (get_elem? homes 0 ≡ some (some None))
  StandsAt (Holding t) = (t ≡ served) × (t < drawn) × (seen ≡ list)
  StandsAt Spent = Unit {0}

module _ {E : Type 0} where
  -- two passes share no number and no ticket
  abbrev pub AreApart : View E → View E → Type 0
  AreApart v w =
      (passes_in v.stage ≡ 1 → passes_in w.stage ≡ 1 → (n : ℕ) → IsAmong n (numbers_of v) → IsAmong n (numbers_of w) → ⊥)
      × (tickets_in v.stage ≡ 1 → tickets_in w.stage ≡ 1 → ticket_of v.stage ≢ ticket_of w.stage)

  -- no pass has a turn
  abbrev pub NoTurnIsOut : List (View E) → Type 0
  NoTurnIsOut views = (j : ℕ) (v : View E) → get_elem? views j ≡ some v → turns_in v.stage ≡ 0

-- The rule. Word 0 is the length of the list, word 1 how many tickets were drawn, and word 2 how many were served.
-- The only slot holds the value while no pass has a turn.
pub record IsOrderly {T E : Type 0} (list_of : T → List E) (bears : E → ℕ) (s : State (Option T) (View E)) : Type 0 where
  pub list : List E
  pub drawn : ℕ
  pub served : ℕ
  pub given : ℕ
  pub wide : length s.words ≡ 3
  pub long : length s.homes ≡ 1
  pub counts : slice_index s.words 0 ≡ length list
  -- the counts of tickets start again at 0 when their words are full
  pub draws : slice_index s.words 1 ≡ drawn % 2 ^ 64
  pub serves : slice_index s.words 2 ≡ served % 2 ^ 64
  pub tally : drawn ≡ served + sum_by (λ v. tickets_in v.stage) s.views
  -- there are no more passes than numbers were given out, so that no two of their tickets are equal modulo 2^64
  pub few : sum_by (λ v. passes_in v.stage) s.views ≤ given + 1
  pub small : given < 2 ^ 64
  pub knows : (j : ℕ) (v : View E) → get_elem? s.views j ≡ some v → passes_in v.stage ≡ 1 → Knows bears list given v
  pub stands : (j : ℕ) (v : View E) → get_elem? s.views j ≡ some v → StandsAt served drawn list s.homes v.seen v.stage
  pub apart : (i j : ℕ) (v w : View E) → get_elem? s.views i ≡ some v → get_elem? s.views j ≡ some w → i ≢ j → AreApart v w
  pub fresh : HasNoneAbove bears given list
  pub home : NoTurnIsOut s.views → (x : T) × (get_elem? s.homes 0 ≡ some (some (Some x))) × (list_of x ≡ list)
