-- The items of one lane are merged into the board's one history.
use Rattle.std.proofs.Common.{◌≡◌, ℕ, zero, suc, ◌+◌, ◌==◌, true, List, [], ◌∷◌, ◌++◌, length, map, take, Some, refl, ap, sym, ◌∙◌, subst, arith}
use Rattle.std.specs.List.{AllByRecursion, concat, list_all}
use Rattle.std.specs.Prelude.{slice_get}
use Rattle.std.proofs.lemmas.Bool.Decides.{nat_tests}
use Rattle.desk.proofs.Choices.{quiet_after, quiet_outcomes, rise_within}
use Rattle.desk.proofs.Positions.{one_history}
use Rattle.desk.specs.Keeping.{AreGiven, Choice, Counted, KeptAt, Rise, after_with, asked_all, asked_item, item_with, no_choice, numbers_of, outcomes_with}
use Rattle.desk.specs.Merge.{AreMerged, Event, IsAmong, LaneHas, Turn, after_turns, asked_in, choices_of, event_of, events_of, is_done, of_lane}
use Rattle.desk.specs.Positions.{AreOneHistory}
use Rattle.desk.specs.Run.{LaneShown, lane_with}
use Rattle.desk_state.specs.Lanes.{after_items, answer_item, outcomes}
use Rattle.desk_state.specs.Repeats.{IsAskable}
use Rattle.desk_state.specs.Sound.{IsBoard}
use Rattle.desk_state.specs.State.{State}
use Rattle.desk_state.specs.declared.lanes.Item.{Item}
use Rattle.desk_state.specs.declared.lanes.Outcome.{Outcome}

abbrev turn : Item → Choice → Turn
turn i c = record { lane = 1; item = i; choice = c }

-- the turns of items in lane 1, each with its choice; beyond the last choice nothing fails
turns_of : List Item → List Choice → List Turn
turns_of [] choices = []
turns_of (i ∷ items) [] = turn i no_choice ∷ turns_of items []
turns_of (i ∷ items) (c ∷ cs) = turn i c ∷ turns_of items cs

-- ---- the counts

rise_rest : (low : ℕ) (ns ms ks : List ℕ) (high : ℕ) → ((low : ℕ) → Rise low ms high → Rise low ks high) → Rise low (ns ++ ms) high → Rise low (ns ++ ks) high
rise_rest low [] ms ks high more rise = more low rise
rise_rest low (n ∷ ns) ms ks high more rise = (rise.0, rise_rest n ns ms ks high more rise.1)

counted_turns : (items : List Item) (choices : List Choice) (low high : ℕ) → Counted low choices high → Counted low (choices_of (turns_of items choices)) high
unfolding turns_of
counted_turns [] choices low high counted = rise_within low (concat (map numbers_of choices)) high counted
counted_turns (i ∷ items) [] low high counted = counted_turns items [] low high counted
counted_turns (i ∷ items) (c ∷ cs) low high counted =
    rise_rest low (numbers_of c) (concat (map numbers_of cs)) (concat (map numbers_of (choices_of (turns_of items cs)))) high
    (λ less rise. counted_turns items cs less high rise) counted

-- ---- the states and the outcomes

pub quiet_state : (s : State) (i : Item) → (item_with no_choice 1 s i).state ≡ (answer_item 1 s i).state
quiet_state s i = quiet_after 1 s (i ∷ []) (no_choice ∷ []) refl

first_of_one : (o p : Outcome) → o ∷ [] ≡ p ∷ [] → o ≡ p
first_of_one o p is = cc

quiet_outcome : (s : State) (i : Item) → (item_with no_choice 1 s i).outcome ≡ (answer_item 1 s i).outcome
quiet_outcome s i = first_of_one _ _ (quiet_outcomes 1 s (i ∷ []) (no_choice ∷ []) refl)

pub none_after : (s : State) (items : List Item) → after_items 1 s items ≡ after_with 1 s items []
none_after s [] = refl
none_after s (i ∷ items) = refl

none_outcomes : (s : State) (items : List Item) → outcomes 1 s items ≡ outcomes_with 1 s items []
none_outcomes s [] = refl
none_outcomes s (i ∷ items) = refl

after_turns_of : (s : State) (items : List Item) (choices : List Choice) → after_turns s (turns_of items choices) ≡ after_with 1 s items choices
unfolding turns_of
after_turns_of s [] choices = refl
after_turns_of s (i ∷ items) [] =
    after_turns_of (item_with no_choice 1 s i).state items []
    ∙ sym (none_after (item_with no_choice 1 s i).state items)
    ∙ ap (λ (u : State). after_items 1 u items) (quiet_state s i)
after_turns_of s (i ∷ items) (c ∷ cs) = after_turns_of (item_with c 1 s i).state items cs

asked_of_turns : (s : State) (items : List Item) (choices : List Choice) → asked_in s (turns_of items choices) ≡ asked_all 1 s items choices
unfolding turns_of
asked_of_turns s [] choices = refl
asked_of_turns s (i ∷ items) [] = ap (λ bs. asked_item no_choice 1 s i ++ bs) (asked_of_turns (item_with no_choice 1 s i).state items [])
asked_of_turns s (i ∷ items) (c ∷ cs) = ap (λ bs. asked_item c 1 s i ++ bs) (asked_of_turns (item_with c 1 s i).state items cs)

outcomes_of_turns : (s : State) (items : List Item) (choices : List Choice) → map (λ e. e.outcome) (events_of s (turns_of items choices)) ≡ outcomes_with 1 s items choices
unfolding turns_of
outcomes_of_turns s [] choices = refl
outcomes_of_turns s (i ∷ items) [] =
    ap (λ os. (item_with no_choice 1 s i).outcome ∷ os) (outcomes_of_turns (item_with no_choice 1 s i).state items [])
    ∙ ap (λ os. (item_with no_choice 1 s i).outcome ∷ os) (sym (none_outcomes (item_with no_choice 1 s i).state items))
    ∙ ap (λ (u : State). (item_with no_choice 1 s i).outcome ∷ outcomes 1 u items) (quiet_state s i)
    ∙ ap (λ (o : Outcome). o ∷ outcomes 1 (answer_item 1 s i).state items) (quiet_outcome s i)
outcomes_of_turns s (i ∷ items) (c ∷ cs) = ap (λ os. (item_with c 1 s i).outcome ∷ os) (outcomes_of_turns (item_with c 1 s i).state items cs)

items_of_turns : (s : State) (items : List Item) (choices : List Choice) → map (λ e. e.item) (events_of s (turns_of items choices)) ≡ items
unfolding turns_of
items_of_turns s [] choices = refl
items_of_turns s (i ∷ items) [] = ap (λ is. i ∷ is) (items_of_turns (item_with no_choice 1 s i).state items [])
items_of_turns s (i ∷ items) (c ∷ cs) = ap (λ is. i ∷ is) (items_of_turns (item_with c 1 s i).state items cs)

-- all of them are of lane 1
own_events : (s : State) (items : List Item) (choices : List Choice) → of_lane 1 (events_of s (turns_of items choices)) ≡ events_of s (turns_of items choices)
unfolding turns_of
own_events s [] choices = refl
own_events s (i ∷ items) [] = ap (λ es. event_of s (turn i no_choice) ∷ es) (own_events (item_with no_choice 1 s i).state items [])
own_events s (i ∷ items) (c ∷ cs) = ap (λ es. event_of s (turn i c) ∷ es) (own_events (item_with c 1 s i).state items cs)

count_same : {X Y Z : Type 0} (f : X → Y) (g : X → Z) (xs : List X) → length (map f xs) ≡ length (map g xs)
count_same f g [] = refl
count_same f g (x ∷ xs) = ap (λ n. suc n) (count_same f g xs)

take_whole : {X : Type 0} (xs : List X) → take (length xs) xs ≡ xs
take_whole [] = refl
take_whole (x ∷ xs) = ap (λ more. x ∷ more) (take_whole xs)

-- as many outcomes as items
count_outcomes : (s : State) (items : List Item) (choices : List Choice) → length (outcomes_with 1 s items choices) ≡ length items
count_outcomes s items choices =
    ap length (sym (outcomes_of_turns s items choices))
    ∙ count_same (λ (e : Event). e.outcome) (λ (e : Event). e.item) (events_of s (turns_of items choices))
    ∙ ap length (items_of_turns s items choices)

-- ---- the lane

among_one : (items : List Item) (choices : List Choice) → AllByRecursion (IsAmong 1) (turns_of items choices)
unfolding turns_of
among_one [] choices = tt
among_one (i ∷ items) [] = ((omega arith, omega arith), among_one items [])
among_one (i ∷ items) (c ∷ cs) = ((omega arith, omega arith), among_one items cs)

all_askable : (items : List Item) (choices : List Choice) → AllByRecursion IsAskable items → AllByRecursion (λ t. IsAskable t.item) (turns_of items choices)
unfolding turns_of
all_askable [] choices each = tt
all_askable (i ∷ items) [] each = (each.0, all_askable items [] each.1)
all_askable (i ∷ items) (c ∷ cs) each = (each.0, all_askable items cs each.1)

lane_has : (s : State) (items : List Item) (choices : List Choice) → LaneHas (events_of s (turns_of items choices)) 1 (lane_with items (outcomes_with 1 s items choices))
lane_has s items choices = record {
  outcomes = ap (map (λ e. e.outcome)) (own_events s items choices) ∙ outcomes_of_turns s items choices;
  items =
      ap (map (λ e. e.item)) (own_events s items choices)
      ∙ items_of_turns s items choices
      ∙ sym (ap (λ n. take n items) (count_outcomes s items choices) ∙ take_whole items);
}

each_has : (s : State) (items : List Item) (choices : List Choice) (n : ℕ) (lane : LaneShown) → slice_get (lane_with items (outcomes_with 1 s items choices) ∷ []) n ≡ Some lane
    → LaneHas (events_of s (turns_of items choices)) (n + 1) lane
each_has s items choices zero lane at =
    let same : lane_with items (outcomes_with 1 s items choices) ≡ lane = cc in
    subst (λ (l : LaneShown). LaneHas (events_of s (turns_of items choices)) 1 l) same (lane_has s items choices)
each_has s items choices (suc n) lane at = absurd (cc)

one_lane : (before after : KeptAt) (s : State) (items : List Item) (choices : List Choice) (t : State) → Counted before.faults choices after.faults → after.stored ≡ before.stored ++ asked_all 1 s items choices
    → t ≡ after_with 1 s items choices → AllByRecursion IsAskable items → AreMerged before after s (lane_with items (outcomes_with 1 s items choices) ∷ []) t
one_lane before after s items choices t counted stored state askable = record {
  turns = turns_of items choices;
  counted = counted_turns items choices before.faults after.faults counted;
  stored = stored ∙ ap (λ bs. before.stored ++ bs) (sym (asked_of_turns s items choices));
  state = state ∙ sym (after_turns_of s items choices);
  among = among_one items choices;
  askable = all_askable items choices askable;
  each = each_has s items choices;
}

done_by : (made items : ℕ) → made ≡ items → (made == items) ≡ true
done_by made items same = grind (arith, nat_tests, same)

lane_done : (s : State) (items : List Item) (choices : List Choice) → list_all is_done (lane_with items (outcomes_with 1 s items choices) ∷ []) ≡ true
lane_done s items choices = rw (done_by (length (outcomes_with 1 s items choices)) (length items) (count_outcomes s items choices)) refl

-- the outcomes of items that are given in lane 1 are in the board's one history
pub one_lane_history : (before after : KeptAt) (opening s : State) (items : List Item) (t : State) (made : List Outcome) → IsBoard opening s → AllByRecursion IsAskable items → AreGiven 1 before after s items t made
    → AreOneHistory before.faults after.faults s (lane_with items made ∷ []) t
one_lane_history before after opening s items t made board askable given =
    subst (λ os. AreOneHistory before.faults after.faults s (lane_with items os ∷ []) t) (sym given.outcomes)
    (one_history before after opening s t (lane_with items (outcomes_with 1 s items given.choices) ∷ [])
    (one_lane before after s items given.choices t given.counted given.stored given.state askable) board (lane_done s items given.choices))
