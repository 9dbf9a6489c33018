-- The state of the generator, and the calls that are left.
use Rattle.std.specs.Prelude.{◌≡◌, ℕ, ◌+◌, ◌-◌, ◌*◌, ◌==◌, if◌then◌else◌, List, [], ◌∷◌, ◌++◌, drop, Option, None, Some}
use Rattle.asks.specs.declared.call.Call.{Call}
use Rattle.asks.specs.declared.reply.Done.{Done}
use Rattle.made_items.specs.Calls.{Came, head_of, release_of, digest_of, no_digest, first, second, third, draft, prepare, sign, concur, cancel, from_sign, from_prepare, flight, flights}
use Rattle.made_items.specs.Numbers.{next_number, minimum_of}
use Rattle.made_items.specs.declared.maker.Turn.{Turn}
use Rattle.made_items.specs.declared.maker.Turn.TheVariants as turn

-- the next call, the number of flights before the current one, and the number of flights after it
pub record Making : Type 0 where
  pub turn : Turn
  pub earlier : ℕ
  pub left : ℕ
  -- the random number of the current flight, or the one before that of the next flight
  pub x : ℕ
  -- the release of the current flight, and the digest of its text
  pub release : ℕ
  pub digest : List ℕ

-- the state before the first call
abbrev pub begun : ℕ → ℕ → Making
begun number count = record { turn = turn.First; earlier = 0; left = count; x = number; release = 0; digest = no_digest }

-- ---- the next call

abbrev pub call_at : Turn → Making → Option Call
call_at turn.First m = Some first
call_at turn.Second m = Some second
call_at turn.Third m = Some third
call_at turn.Draft m = Some (draft m.earlier (minimum_of (next_number m.x)))
call_at turn.Prepare m = Some (prepare m.earlier m.release)
call_at turn.Sign m = Some (sign m.earlier m.release m.digest)
call_at turn.Concur m = Some (concur m.earlier m.release m.digest)
call_at turn.Cancel m = Some (cancel m.earlier m.release)
call_at turn.End m = None

-- the next call, if one is left
unfoldable pub next_call : Making → Option Call
next_call m = call_at m.turn m

-- ---- after its result

abbrev pub ended : Making → Making
ended m = record m { turn = turn.End }

-- moves to the first flight, if there is one
abbrev pub to_first : Making → Making
to_first m = if m.left == 0 then ended m else (record m { turn = turn.Draft; left = m.left - 1 })

-- moves to the next flight, if one is left
abbrev pub to_next : Making → Making
to_next m = if m.left == 0 then ended m else (record m { turn = turn.Draft; left = m.left - 1; earlier = m.earlier + 1 })

abbrev pub noted_at : Turn → Making → Option Done → Making
noted_at turn.First m came = record m { turn = turn.Second }
noted_at turn.Second m came = record m { turn = turn.Third }
noted_at turn.Third m came = to_first m
noted_at turn.Draft m came = record m { turn = turn.Prepare; x = next_number m.x; release = release_of came }
noted_at turn.Prepare m came = record m { turn = turn.Sign; digest = digest_of came }
noted_at turn.Sign m came = record m { turn = turn.Concur }
noted_at turn.Concur m came = record m { turn = turn.Cancel }
noted_at turn.Cancel m came = to_next m
noted_at turn.End m came = m

-- the state after the result of the next call
unfoldable pub noted : Making → Option Done → Making
noted m what = noted_at m.turn m what

-- ---- the calls that are left

-- the calls of the flights after the current one
abbrev pub later_flights : Making → Came → List Call
later_flights m came = flights m.left m.x (m.earlier + 1) came

abbrev pub left_at : Turn → Making → Came → List Call
left_at turn.First m came = first ∷ second ∷ third ∷ flights m.left m.x m.earlier (drop 3 came)
left_at turn.Second m came = second ∷ third ∷ flights m.left m.x m.earlier (drop 2 came)
left_at turn.Third m came = third ∷ flights m.left m.x m.earlier (drop 1 came)
left_at turn.Draft m came =
    flight (next_number m.x) m.earlier (head_of came) (head_of (drop 1 came)) ++ flights m.left (next_number m.x) (m.earlier + 1) (drop 5 came)
left_at turn.Prepare m came = from_prepare m.earlier m.release (head_of came) ++ later_flights m (drop 4 came)
left_at turn.Sign m came = from_sign m.earlier m.release m.digest ++ later_flights m (drop 3 came)
left_at turn.Concur m came = concur m.earlier m.release m.digest ∷ cancel m.earlier m.release ∷ later_flights m (drop 2 came)
left_at turn.Cancel m came = cancel m.earlier m.release ∷ later_flights m (drop 1 came)
left_at turn.End m came = []

-- the calls that are left, given the results of each
unfoldable pub calls_left : Making → Came → List Call
calls_left m came = left_at m.turn m came

-- the number of calls that are left
abbrev pub many_at : Turn → ℕ → ℕ
many_at turn.First left = 3 + 5 * left
many_at turn.Second left = 2 + 5 * left
many_at turn.Third left = 1 + 5 * left
many_at turn.Draft left = 5 + 5 * left
many_at turn.Prepare left = 4 + 5 * left
many_at turn.Sign left = 3 + 5 * left
many_at turn.Concur left = 2 + 5 * left
many_at turn.Cancel left = 1 + 5 * left
many_at turn.End left = 0

unfoldable pub how_many : Making → ℕ
how_many m = many_at m.turn m.left

-- The result of the next call leaves the calls after it. It was the first of those left, and one fewer is left.
pub record GoesOn (old : Making) (what : Option Done) (new : Making) : Type 0 where
  pub calls : (call : Call) → next_call old ≡ Some call → (came : Came) → calls_left old (what ∷ came) ≡ call ∷ calls_left new came
  pub fewer : (call : Call) → next_call old ≡ Some call → how_many old ≡ how_many new + 1
