-- A run of calls made from a seed, each of which may depend on the outcomes before it.
use Rattle.std.specs.Prelude.{◌≡◌, ℕ, Bool, true, false, List, [], ◌∷◌, ◌++◌, length, map, filter, codes, decimal, Option, None, Some}
use Rattle.std.specs.List.{concat}
use Rattle.asks.specs.declared.call.Call.{Call}
use Rattle.asks.specs.declared.reply.Done.{Done as DoneType}
use Rattle.asks.specs.declared.reply.Reply.TheVariants.{Done, Seen, Refused}
use Rattle.desk_state.specs.State.{State}
use Rattle.desk_state.specs.declared.lanes.Item.{Item}
use Rattle.desk_state.specs.declared.lanes.Item.TheVariants as item
use Rattle.desk_state.specs.declared.lanes.Outcome.{Outcome}
use Rattle.desk_state.specs.declared.lanes.Said.{Said}
use Rattle.desk_state.specs.declared.lanes.Said.TheVariants as said
use Rattle.made_items.specs.Calls.{Came, calls, made_at}
use Rattle.desk.specs.InPart.{AreGivenInPart}
use Rattle.desk.specs.Keeping.{AreGiven, Choice, Counted, KeptAt, asked_item, item_with, outcomes_with}

-- ---- the outcomes of calls

-- what a command did; none for a view, a refusal or a malformed line
abbrev pub done_of : Said → Option DoneType
done_of (said.Reply (Done what)) = Some what
done_of (said.Reply (Seen text)) = None
done_of (said.Reply (Refused why)) = None
done_of (said.Bad fault) = None

abbrev pub came_of : List Outcome → Came
came_of outcomes = map (λ o. done_of o.said) outcomes

-- ---- the items

abbrev pub made_item : Call → Item
made_item call = item.Call made_at call

-- the items that a seed makes for `count` flights, if the calls had these results
abbrev pub made_items : ℕ → ℕ → Came → List Item
made_items number count came = map made_item (calls number count came)

-- ---- the text

abbrev pub is_done : Said → Bool
is_done (said.Reply (Done what)) = true
is_done (said.Reply (Seen text)) = false
is_done (said.Reply (Refused why)) = false
is_done (said.Bad fault) = false

abbrev pub is_refused : Said → Bool
is_refused (said.Reply (Done what)) = false
is_refused (said.Reply (Seen text)) = false
is_refused (said.Reply (Refused why)) = true
is_refused (said.Bad fault) = false

-- how many calls were done, and how many were refused
abbrev pub done_in : List Outcome → ℕ
done_in outcomes = length (filter (λ o. is_done o.said) outcomes)

abbrev pub refused_in : List Outcome → ℕ
refused_in outcomes = length (filter (λ o. is_refused o.said) outcomes)

abbrev pub first_line : ℕ → ℕ → List ℕ
first_line number count = concat (codes "MAKE " ∷ decimal number ∷ codes " " ∷ decimal count ∷ codes "\n" ∷ [])

-- three words, each followed by its count
abbrev pub three_counts : List ℕ → ℕ → List ℕ → ℕ → List ℕ → ℕ → List ℕ
three_counts one a two b three c = concat (one ∷ decimal a ∷ two ∷ decimal b ∷ []) ++ concat (three ∷ decimal c ∷ codes "\n" ∷ [])

abbrev pub second_line : List Outcome → List ℕ
second_line outcomes = three_counts (codes "ITEMS ") (length outcomes) (codes " DONE ") (done_in outcomes) (codes " REFUSED ") (refused_in outcomes)

abbrev pub third_line : State → List ℕ
third_line t = three_counts (codes "HISTORY ") (length t.entries) (codes " RELEASES ") (length t.releases) (codes " REPORTS ") (length t.reports)

-- three lines: what was made, how many items were done and refused, and what the board holds at the end
abbrev pub made_text : ℕ → ℕ → List Outcome → State → List ℕ
made_text number count outcomes t = first_line number count ++ (second_line outcomes ++ third_line t)

-- ---- the run

-- The outcome of a made call, under some choice that the keeper's counts allow, with its commits.
pub record IsMadeOf (before after : KeptAt) (s : State) (call : Call) (t : State) (o : Outcome) : Type 0 where
  pub choice : Choice
  pub counted : Counted before.faults (choice ∷ []) after.faults
  pub stored : after.stored ≡ before.stored ++ asked_item choice 1 s (made_item call)
  pub outcome : o ≡ (item_with choice 1 s (made_item call)).outcome
  pub state : t ≡ (item_with choice 1 s (made_item call)).state

-- The items of a seed were answered in lane 1, under some choices that the keeper's counts allow. The seed makes
-- exactly these items from their outcomes, and the text counts them.
pub record IsMade (before after : KeptAt) (s : State) (number count : ℕ) (t : State) (text : List ℕ) : Type 0 where
  pub outcomes : List Outcome
  pub given : AreGiven 1 before after s (made_items number count (came_of outcomes)) t outcomes
  pub says : text ≡ made_text number count outcomes t

-- The same until memory ran out: a prefix of the items was answered. The seed makes these items from their outcomes.
pub record IsMadeInPart (before after : KeptAt) (s : State) (number count : ℕ) (t : State) : Type 0 where
  pub came : Came
  pub given : AreGivenInPart 1 before after s (made_items number count came) t
  pub begins : (later : Came) × (came ≡ came_of (outcomes_with 1 s given.front given.choices) ++ later)
