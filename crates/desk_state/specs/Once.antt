-- Each person's accepted calls appear once in the history.
use Rattle.std.specs.Prelude.{◌≡◌, ◌≢◌, ◌⊎◌, ℕ, ◌≤◌, true, List, Option, None, Some, IfSome}
use Rattle.std.specs.List.{AllByRecursion, AllPairs, list_any}
use Rattle.asks.specs.declared.call.Call.{Call}
use Rattle.asks.specs.declared.kept.KeptReply.{KeptReply}
use Rattle.asks.specs.declared.reply.Reply.{Reply}
use Rattle.asks.specs.declared.reply.Reply.TheVariants.{Done}
use Rattle.desk_state.specs.declared.entry.What.{What}
use Rattle.desk_state.specs.declared.entry.What.TheVariants as what
use Rattle.desk_state.specs.Allowed.{IsUnused}
use Rattle.desk_state.specs.Repeats.{IsKeptFor}
use Rattle.desk_state.specs.Requests.{is_request, kept_at, floor_at}
use Rattle.desk_state.specs.State.{State}

-- a number is at or below a person's floor, if he has one
abbrev pub IsCovered : Option ℕ → ℕ → Type 0
IsCovered None number = ⊥
IsCovered (Some floor) number = number ≤ floor

-- The number of a call is used: its reply is kept, or the person's floor covers the number.
abbrev pub IsUsed : State → Call → Reply → Type 0
IsUsed s call reply = ((k : KeptReply) × IsKeptFor s call k × (reply ≡ Done k.done)) ⊎ IsCovered (floor_at call.actor s.floors) call.number

-- a property of the call and the reply that an entry records; a tick has neither
abbrev pub IfAsked : What → (Call → Reply → Type 0) → Type 0
IfAsked (what.Tick to) P = Unit {0}
IfAsked (what.Asked call reply) P = P call reply

-- two calls of one person have different numbers
abbrev pub AreDistinct : What → What → Type 0
AreDistinct earlier later = IfAsked earlier (λ a first. IfAsked later (λ b second. a.actor ≡ b.actor → a.number ≢ b.number))

-- No two calls in the history have the same person and number. Each call's number is used now, and wasn't when the
-- desk opened. A number that is unused now was unused then.
pub record AreOnce (opening s : State) : Type 0 where
  pub distinct : AllPairs (λ earlier later. AreDistinct earlier.what later.what) s.entries
  pub used : AllByRecursion (λ e. IfAsked e.what (IsUsed s)) s.entries
  pub fresh : AllByRecursion (λ e. IfAsked e.what (λ call reply. IsUnused opening call)) s.entries
  pub since : (call : Call) → IsUnused s call → IsUnused opening call

-- a reply to a person's number was kept before a step, and isn't after it
abbrev pub IsSwept : State → State → List ℕ → ℕ → Type 0
IsSwept s t actor number = (list_any (is_request actor number) s.kept ≡ true) × (kept_at actor number t.kept ≡ None)

-- What a step does to used numbers. Each kept reply stays, or its person's floor covers its number. No floor falls. A
-- floor rises only to the number of a removed reply of its person, so a person who loses no reply keeps his floor.
pub record KeepsUsed (s t : State) : Type 0 where
  pub kept : (actor : List ℕ) (number : ℕ)
      → IfSome (kept_at actor number s.kept) (λ k. (kept_at actor number t.kept ≡ Some k) ⊎ IsCovered (floor_at actor t.floors) number)
  pub covered : (actor : List ℕ) (number : ℕ) → IsCovered (floor_at actor s.floors) number → IsCovered (floor_at actor t.floors) number
  pub raised : (actor : List ℕ) → IfSome (floor_at actor t.floors) (λ floor. (floor_at actor s.floors ≡ Some floor) ⊎ IsSwept s t actor floor)
