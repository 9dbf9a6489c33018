-- Commands that come again under the same number.
use Rattle.std.specs.Prelude.{◌≡◌, ◌≢◌, ℕ, ◌≤◌, false, List, ◌∷◌, ◌++◌, None, Some}
use Rattle.std.specs.List.{AllByRecursion}
use Rattle.ops_tables.specs.Tables.{actor_of}
use Rattle.asks.specs.declared.call.Call.{Call}
use Rattle.asks.specs.declared.kept.KeptReply.{KeptReply}
use Rattle.asks.specs.declared.reply.Reply.TheVariants.{Done}
use Rattle.asks.specs.Canonical.{ask_digest}
use Rattle.asks.specs.Forms.{CallHasForms}
use Rattle.desk_state.specs.declared.lanes.Item.{Item}
use Rattle.desk_state.specs.declared.lanes.Item.TheVariants as item
use Rattle.desk_state.specs.declared.lanes.Said.TheVariants as said
use Rattle.desk_state.specs.Decide.{is_view}
use Rattle.desk_state.specs.Lanes.{outcomes, after_items, said_at}
use Rattle.desk_state.specs.People.{mistaken, not_his_role}
use Rattle.desk_state.specs.Requests.{kept_at}
use Rattle.desk_state.specs.State.{State, is_sweep}

-- a command whose person exists and has the key, and whose role permits the ask
pub record MayAsk (s : State) (call : Call) : Type 0 where
  pub known : mistaken (actor_of s.tables call.actor) call.key ≡ None
  pub role : not_his_role (actor_of s.tables call.actor) call.ask ≡ None
  pub command : is_view call.ask ≡ false

-- the reply to the same ask of the same person under the same number is kept
pub record IsKeptFor (s : State) (call : Call) (k : KeptReply) : Type 0 where
  pub held : kept_at call.actor call.number s.kept ≡ Some k
  pub same : k.digest ≡ ask_digest call.ask

-- any item but a sweep
abbrev pub SweepsNothing : Item → Type 0
SweepsNothing (item.Bad fault) = Unit {0}
SweepsNothing (item.Call at call) = is_sweep call.ask ≡ false

-- an item in bounds: its moment is at most 2099-12-31T23:59Z, and its call has its forms
abbrev pub IsAskable : Item → Type 0
IsAskable (item.Bad fault) = Unit {0}
IsAskable (item.Call at call) = (at ≤ 68_374_079) × CallHasForms call

-- A repeated command among other items, at a moment that the desk has reached, changes nothing. Its reply is the kept
-- one. The last state and all other outcomes are the same without it.
pub record MayBeLeftOut (lane : ℕ) (s : State) (before after : List Item) (at : ℕ) (call : Call) (k : KeptReply) : Type 0 where
  pub outcomes_with : outcomes lane s (before ++ item.Call at call ∷ after)
      ≡ outcomes lane s before ++ (said_at (after_items lane s before) (said.Reply (Done k.done)) (after_items lane s before)).outcome ∷ outcomes lane (after_items lane s before) after
  pub outcomes_without : outcomes lane s (before ++ after) ≡ outcomes lane s before ++ outcomes lane (after_items lane s before) after
  pub states : after_items lane s (before ++ item.Call at call ∷ after) ≡ after_items lane s (before ++ after)

-- A call whose reply is kept may come again: it changes nothing at any moment that the desk has reached. The items
-- before it must be in bounds, and none of them may sweep.
abbrev pub MayComeAgain : State → Call → KeptReply → Type 0
MayComeAgain s call k = (lane : ℕ) (before after : List Item) (at : ℕ) → AllByRecursion IsAskable before → AllByRecursion SweepsNothing before
    → at ≤ (after_items lane s before).moment → MayBeLeftOut lane s before after at call k

-- If a call changed the state, its reply is kept, and the call may come again.
pub record AcceptedOnce (s t : State) (call : Call) : Type 0 where
  pub again : t ≢ s → (k : KeptReply) × IsKeptFor t call k × MayComeAgain t call k
