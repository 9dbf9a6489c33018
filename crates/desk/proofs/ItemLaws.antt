-- The text of a run of items.
use Rattle.std.proofs.Common.{◌≡◌, ◌∙◌, ap, subst, ℕ, List, ◌++◌, map}
use Rattle.std.specs.List.{concat}
use Rattle.desk_state.specs.Lanes.{outcomes, after_items}
use Rattle.desk_state.specs.State.{State}
use Rattle.desk_state.specs.Texts.{closing}
use Rattle.desk_state.specs.declared.lanes.Item.{Item}
use Rattle.desk_state.specs.declared.lanes.Outcome.{Outcome}
use Rattle.desk.specs.Keeping.{Choice, Counted, KeptAt, numbers_of, outcomes_with, after_with, AreGiven}
use Rattle.desk.specs.Run.{texts_of, IsRunOf}
use Rattle.desk.proofs.Choices.{rise_none, quiet_outcomes, quiet_after}

steady_text : (before after : ℕ) (s : State) (items : List Item) (t : State) (choices : List Choice) → Counted before choices after → t ≡ after_with 1 s items choices → after ≡ before
    → texts_of (outcomes_with 1 s items choices) ++ closing t ≡ texts_of (outcomes 1 s items) ++ closing (after_items 1 s items)
steady_text before after s items t choices counted state same =
    let quiet = rise_none before (concat (map numbers_of choices)) (subst (λ (n : ℕ). Counted before choices n) same counted) in
    ap (λ os. texts_of os ++ closing t) (quiet_outcomes 1 s items choices quiet)
    ∙ ap (λ (u : State). texts_of (outcomes 1 s items) ++ closing u) (state ∙ quiet_after 1 s items choices quiet)

pub is_run_of_items : (before after : KeptAt) (s : State) (items : List Item) (t : State) (made : List Outcome) (text : List ℕ) → AreGiven 1 before after s items t made
    → text ≡ texts_of made ++ closing t → IsRunOf before after s items t text
is_run_of_items before after s items t made text all is =
    let says = is ∙ ap (λ os. texts_of os ++ closing t) all.outcomes in
    record {
      choices = all.choices;
      counted = all.counted;
      stored = all.stored;
      says = says;
      state = all.state;
      steady = λ same. says ∙ steady_text before.faults after.faults s items t all.choices all.counted all.state same;
    }
