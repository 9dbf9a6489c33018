-- What a run has done when memory runs out.
use Rattle.std.specs.Prelude.{◌≡◌, ℕ, List, [], ◌∷◌, ◌++◌}
use Rattle.desk_state.specs.State.{State}
use Rattle.desk_state.specs.declared.lanes.Item.{Item}
use Rattle.desk_state.specs.declared.lanes.Item.TheVariants as item
use Rattle.desk.specs.Keeping.{Choice, Counted, KeptAt, KeptLater, after_with, asked_all}
use Rattle.desk.specs.Run.{items_of, lines_of}
use Rattle.desk.specs.Settled.{MayHaveTicked}

-- memory ran out at an item: the state is as before, or as after the tick that precedes its call
abbrev pub MayHaveBegun : ℕ → Item → State → State → Type 0
MayHaveBegun lane (item.Bad fault) s t = t ≡ s
MayHaveBegun lane (item.Call at call) s t = MayHaveTicked lane at s t

-- the same for the first of the remaining items, if there is one
abbrev pub MayHaveBegunNext : ℕ → List Item → State → State → Type 0
MayHaveBegunNext lane [] s t = t ≡ s
MayHaveBegunNext lane (i ∷ rest) s t = MayHaveBegun lane i s t

-- Memory ran out among items. A prefix of them was answered, for some choices that the keeper's counts allow. Of the
-- next item at most the tick was made.
pub record AreGivenInPart (lane : ℕ) (before after : KeptAt) (s : State) (items : List Item) (t : State) : Type 0 where
  pub front : List Item
  pub left : List Item
  pub choices : List Choice
  pub whole : items ≡ front ++ left
  -- what the keeper had come to after the prefix
  pub kept : KeptAt
  pub counted : Counted before.faults choices kept.faults
  pub stored : kept.stored ≡ before.stored ++ asked_all lane s front choices
  pub later : KeptLater kept after
  pub state : MayHaveBegunNext lane left (after_with lane s front choices) t

-- memory ran out in the run of a script from one state to another
abbrev pub IsRunInPart : KeptAt → KeptAt → State → List ℕ → State → Type 0
IsRunInPart before after s script t = AreGivenInPart 1 before after s (items_of (lines_of script)) t
