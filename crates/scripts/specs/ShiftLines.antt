-- What answering a line of a shift script does to the desk and to the bells.
use Rattle.std.specs.Prelude.{◌≡◌, ℕ, List, [], ◌∷◌, ◌++◌}
use Rattle.std.specs.List.{AllByRecursion}
use Rattle.alerts.specs.Ringing.{Hung}
use Rattle.desk.specs.Keeping.{AreGiven, Asks, Choice, Counted, KeptAt, asked_item, item_with}
use Rattle.desk.specs.Run.{said_text}
use Rattle.desk.specs.Seen.{DeskSeen}
use Rattle.desk_state.specs.Repeats.{IsAskable}
use Rattle.desk_state.specs.State.{State}
use Rattle.desk_state.specs.declared.lanes.Item.{Item}
use Rattle.desk_state.specs.declared.lanes.Outcome.{Outcome}
use Rattle.relief.specs.Seated.{HaveHeard, Told}
use Rattle.relief.specs.declared.lines.RosterLine.{RosterLine}
use Rattle.scripts.specs.Routes.{Taken, items_in, placed_in}
use Rattle.scripts.specs.ShiftRuns.{last_roster, shift_text, shifts_of, told_of, told_with, woven}
use Rattle.scripts.specs.declared.routes.Routed.{Routed}
use Rattle.scripts.specs.declared.routes.Routed.TheVariants.{ToBoard, Replied}

-- The bells have received the notices of some moments, each under the roster of its moment. Those that stay are in their
-- order, and each that was dropped has failed.
abbrev pub HaveHeardSome : List Hung → List Hung → Type 0
HaveHeardSome bells now = (told : List Told) × HaveHeard told bells now

-- whatever the bells had received, they have received that and maybe more
abbrev pub HearOn : List Hung → List Hung → Type 0
HearOn old new = (bells : List Hung) → HaveHeardSome bells old → HaveHeardSome bells new

-- An item was answered in lane 1, under some choice that the keeper's counts allow, with the item's commits. The bells
-- of those who sit at the desks have received its notices.
pub record IsAnsweredUnder (roster : List RosterLine) (i : Item) (old new : DeskSeen) (before after : List Hung) (reply : List ℕ) : Type 0 where
  pub choice : Choice
  pub counted : Counted old.keeper.health.faults (choice ∷ []) new.keeper.health.faults
  pub asks : Asks old.keeper new.keeper (asked_item choice 1 old.state i)
  pub state : new.state ≡ (item_with choice 1 old.state i).state
  pub says : reply ≡ said_text (item_with choice 1 old.state i).outcome.said
  pub heard : (told : List Told) (bells : List Hung) → HaveHeard told bells before → HaveHeard (told ++ told_of roster (item_with choice 1 old.state i)) bells after
  pub askable : IsAskable i

-- a line got this reply at once, and nothing changed
pub record IsRepliedAtOnce (text : List ℕ) (old new : DeskSeen) (before after : List Hung) (reply : List ℕ) : Type 0 where
  pub desk : new ≡ old
  pub bells : after ≡ before
  pub says : reply ≡ text

-- a line was answered as what it comes to
abbrev pub IsAnsweredAs : Routed → List RosterLine → DeskSeen → DeskSeen → List Hung → List Hung → List ℕ → Type 0
IsAnsweredAs (ToBoard i) roster old new before after reply = IsAnsweredUnder roster i old new before after reply
IsAnsweredAs (Replied text) roster old new before after reply = IsRepliedAtOnce text old new before after reply

-- Lines were answered from one state to another, between two moments of the keeper. The text has their replies.
pub record AreReplied (before after : KeptAt) (s : State) (lines : List Taken) (t : State) (old new : List Hung) (text : List ℕ) : Type 0 where
  pub made : List Outcome
  pub given : AreGiven 1 before after s (items_in lines) t made
  pub says : text ≡ woven lines made
  pub heard : HaveHeard (told_with s (placed_in lines) given.choices) old new
  pub askable : AllByRecursion IsAskable (items_in lines)

-- The lines of a script were answered, and the text has their replies, the closing text and the roster. The bells have
-- received the notices.
pub record IsShifts (before after : KeptAt) (s : State) (script : List ℕ) (t : State) (text : List ℕ) (old new : List Hung) : Type 0 where
  pub made : List Outcome
  pub given : AreGiven 1 before after s (items_in (shifts_of s script)) t made
  pub askable : AllByRecursion IsAskable (items_in (shifts_of s script))
  pub says : text ≡ shift_text (shifts_of s script) made t (last_roster s script)
  pub heard : HaveHeard (told_with s (placed_in (shifts_of s script)) given.choices) old new
