-- Where memory runs out among items.
use Rattle.std.proofs.Common.{◌≡◌, ℕ, List, [], ◌∷◌, ◌++◌, append-nil, refl, ap, sym, ◌∙◌, subst, arith, inl}
use Rattle.std.specs.Prelude.{Result, Ok, Err, OnErr}
use Rattle.desk_state.specs.State.{State}
use Rattle.desk_state.specs.declared.lanes.Item.{Item}
use Rattle.desk_state.specs.declared.lanes.Item.TheVariants as item
use Rattle.desk_state.specs.declared.lanes.Outcome.{Outcome}
use Rattle.desk.specs.Keeping.{AreGiven, AreGivenSoFar, Choice, KeptAt, KeptLater, after_with, asked_all, asked_item, item_with, outcomes_with}
use Rattle.desk.specs.InPart.{AreGivenInPart, MayHaveBegun, MayHaveBegunNext}
use Rattle.desk.proofs.AskedLaws.{later_refl}
use Rattle.desk.proofs.Choices.{KeptBy, given_next}

-- what holds, whatever was answered
pub on_err : {A E P : Type 0} (r : Result A E) → P → OnErr r P
on_err (Ok a) holds = tt
on_err (Err e) holds = holds

-- nothing was done of what is left
pub none_begun : (lane : ℕ) (left : List Item) (s t : State) → t ≡ s → MayHaveBegunNext lane left s t
none_begun lane [] s t is = is
none_begun lane (item.Bad fault ∷ rest) s t is = is
none_begun lane (item.Call at call ∷ rest) s t is = inl is

pub front_ends : (lane : ℕ) (before after : KeptAt) (s : State) (items : List Item) (t : State) (left : List Item) (made : List Outcome) → (so_far : AreGivenSoFar lane before after s items t left made)
    → t ≡ after_with lane s so_far.front so_far.choices
front_ends lane before after s items t left made so_far =
    so_far.state [] []
    ∙ ap (λ is. after_with lane s is (so_far.choices ++ [])) (append-nil so_far.front)
    ∙ ap (λ cs. after_with lane s so_far.front cs) (append-nil so_far.choices)

pub front_asks : (lane : ℕ) (before after : KeptAt) (s : State) (items : List Item) (t : State) (left : List Item) (made : List Outcome) → (so_far : AreGivenSoFar lane before after s items t left made)
    → after.stored ≡ before.stored ++ asked_all lane s so_far.front so_far.choices
front_asks lane before after s items t left made so_far =
    sym (append-nil after.stored)
    ∙ so_far.stored [] []
    ∙ ap (λ is. before.stored ++ asked_all lane s is (so_far.choices ++ [])) (append-nil so_far.front)
    ∙ ap (λ cs. before.stored ++ asked_all lane s so_far.front cs) (append-nil so_far.choices)

-- what the items of the prefix came to
pub front_outcomes : (lane : ℕ) (before after : KeptAt) (s : State) (items : List Item) (t : State) (left : List Item) (made : List Outcome) → (so_far : AreGivenSoFar lane before after s items t left made)
    → made ≡ outcomes_with lane s so_far.front so_far.choices
front_outcomes lane before after s items t left made so_far =
    sym (append-nil made)
    ∙ so_far.outcomes [] []
    ∙ ap (λ is. outcomes_with lane s is (so_far.choices ++ [])) (append-nil so_far.front)
    ∙ ap (λ cs. outcomes_with lane s so_far.front cs) (append-nil so_far.choices)

ends_in_part : (lane : ℕ) (before middle after : KeptAt) (s : State) (items : List Item) (t u : State) (left : List Item) (made : List Outcome) → AreGivenSoFar lane before middle s items t left made
    → KeptLater middle after → MayHaveBegunNext lane left t u → AreGivenInPart lane before after s items u
ends_in_part lane before middle after s items t u left made so_far over begun = record {
  front = so_far.front;
  left = left;
  choices = so_far.choices;
  whole = so_far.whole;
  kept = middle;
  counted = so_far.counted;
  stored = front_asks lane before middle s items t left made so_far;
  later = over;
  state = subst (λ (v : State). MayHaveBegunNext lane left v u) (front_ends lane before middle s items t left made so_far) begun;
}

-- memory ran out at the next item
pub at_next : (lane : ℕ) (before middle after : KeptAt) (s : State) (items : List Item) (t u : State) (left rest : List Item) (i : Item) (made : List Outcome) → left ≡ i ∷ rest
    → AreGivenSoFar lane before middle s items t left made → KeptLater middle after → MayHaveBegun lane i t u → AreGivenInPart lane before after s items u
at_next lane before middle after s items t u left rest i made is so_far over begun =
    ends_in_part lane before middle after s items t u (i ∷ rest) made (subst (λ is. AreGivenSoFar lane before middle s items t is made) is so_far) over begun

-- the next item was answered, and there was no memory to keep its outcome
pub after_next : (lane : ℕ) (before middle after : KeptAt) (s : State) (items : List Item) (t u : State) (left rest : List Item) (i : Item) (made : List Outcome) (c : Choice) → left ≡ i ∷ rest
    → AreGivenSoFar lane before middle s items t left made → KeptBy middle after c (asked_item c lane t i) → u ≡ (item_with c lane t i).state → AreGivenInPart lane before after s items u
after_next lane before middle after s items t u left rest i made c is so_far kept state =
    let o : Outcome = (item_with c lane t i).outcome in
    ends_in_part lane before after after s items u u rest (made ++ o ∷ [])
    (given_next lane before middle after s items t u left rest i made (made ++ o ∷ []) c o is so_far kept refl state refl) (later_refl after) (none_begun lane rest u u refl)

-- memory ran out between two items
pub stopped : (lane : ℕ) (before after : KeptAt) (s : State) (items : List Item) (t : State) (left : List Item) (made : List Outcome) → AreGivenSoFar lane before after s items t left made → AreGivenInPart lane before after s items t
stopped lane before after s items t left made so_far = ends_in_part lane before after after s items t t left made so_far (later_refl after) (none_begun lane left t t refl)

-- before the first item
pub none_so_far : (lane : ℕ) (before : KeptAt) (s : State) (items : List Item) {made : List Outcome} → made ≡ [] → AreGivenSoFar lane before before s items s items made
none_so_far lane before s items none = record {
  front = [];
  choices = [];
  whole = refl;
  counted = omega arith;
  stored = λ next later. refl;
  outcomes = λ next later. ap (λ os. os ++ outcomes_with lane s next later) none;
  state = λ next later. refl;
}

-- memory ran out before the first item
pub none_given : (lane : ℕ) (before : KeptAt) (s : State) (items : List Item) → AreGivenInPart lane before before s items s
none_given lane before s items = record {
  front = [];
  left = items;
  choices = [];
  whole = refl;
  kept = before;
  counted = omega arith;
  stored = sym (append-nil before.stored);
  later = later_refl before;
  state = none_begun lane items s s refl;
}

-- after all items
pub given_whole : (lane : ℕ) (before after : KeptAt) (s : State) (items all : List Item) (t : State) (made : List Outcome) → items ≡ all → AreGiven lane before after s items t made
    → AreGivenInPart lane before after s all t
given_whole lane before after s items all t made same given = record {
  front = items;
  left = [];
  choices = given.choices;
  whole = sym same ∙ sym (append-nil items);
  kept = after;
  counted = given.counted;
  stored = given.stored;
  later = later_refl after;
  state = given.state;
}
