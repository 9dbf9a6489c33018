-- The items that are made of a number, one after another.
use Rattle.std.proofs.Common.{◌≡◌, ◌∙◌, ap, arith, sym, subst, refl, ℕ, zero, suc, ◌+◌, ◌*◌, List, [], ◌∷◌, ◌++◌, append-nil, append_assoc, drop, length, map, Option, None, Some}
use Rattle.std.proofs.lemmas.List.{length-map, map-append}
use Rattle.asks.specs.declared.call.Call.{Call}
use Rattle.asks.specs.declared.reply.Done.{Done as DoneType}
use Rattle.desk_state.specs.State.{State}
use Rattle.desk_state.specs.declared.lanes.Item.{Item}
use Rattle.desk_state.specs.declared.lanes.Outcome.{Outcome}
use Rattle.made_items.specs.Calls.{Came, calls, flights}
use Rattle.made_items.specs.Makers.{Making, GoesOn, calls_left, next_call, noted}
use Rattle.made_items.proofs.MakerLaws.{goes_on}
use Rattle.made_items.specs.Numbers.{next_number}
use Rattle.desk.specs.InPart.{AreGivenInPart, MayHaveBegun, MayHaveBegunNext}
use Rattle.desk.specs.Keeping.{AreGiven, AreGivenSoFar, Choice, KeptAt, KeptLater, asked_item, item_with, outcomes_with}
use Rattle.desk.specs.Made.{done_of, came_of, made_item, made_items, made_text, IsMade, IsMadeInPart}
use Rattle.desk.proofs.Choices.{KeptBy, all_given, given_next}
use Rattle.desk.proofs.AskedLaws.{later_refl}
use Rattle.desk.proofs.InPart.{front_asks, front_ends, front_outcomes, none_begun, none_so_far}

-- ---- how many they are

five_each : (left x earlier : ℕ) (came : Came) → length (flights left x earlier came) ≡ 5 * left
five_each zero x earlier came = refl
five_each (suc left) x earlier came = let later = five_each left (next_number x) (earlier + 1) (drop 5 came) in omega (arith, later)

pub many_made : (count number : ℕ) (came : Came) → length (made_items number count came) ≡ 3 + 5 * count
unfolding calls
many_made count number came =
    let later = five_each count number 0 (drop 3 came) in
    let all : length (calls number count came) ≡ 3 + 5 * count = omega (arith, later) in
    length-map (calls number count came) made_item ∙ all

-- the items that were answered so far, and those that are left
pub record MadeSoFar (before after : KeptAt) (s : State) (number count : ℕ) (t : State) (left : Making) (made : List Outcome) : Type 0 where
  pub items : List Item
  pub given : AreGivenSoFar 1 before after s items t [] made
  pub whole : (came : Came) → made_items number count (came_of made ++ came) ≡ items ++ map made_item (calls_left left came)

-- more items to come
widen : (lane : ℕ) (before after : KeptAt) (s : State) (items : List Item) (t : State) (made : List Outcome) (left : List Item) → AreGivenSoFar lane before after s items t [] made
    → AreGivenSoFar lane before after s (items ++ left) t left made
widen lane before after s items t made left so_far = record {
  front = so_far.front;
  choices = so_far.choices;
  whole = ap (λ is. is ++ left) (so_far.whole ∙ append-nil so_far.front);
  counted = so_far.counted;
  stored = so_far.stored;
  outcomes = so_far.outcomes;
  state = so_far.state;
}

pub none_made : (before : KeptAt) (s : State) (number count : ℕ) (left : Making) (made : List Outcome) → made ≡ [] → ((came : Came) → calls_left left came ≡ calls number count came)
    → MadeSoFar before before s number count s left made
none_made before s number count left made none begun = record {
  items = [];
  given = none_so_far 1 before s [] none;
  whole = λ came. ap (λ os. made_items number count (came_of os ++ came)) none ∙ ap (λ cs. map made_item cs) (sym (begun came));
}

whole_next : (number count : ℕ) (items : List Item) (left next : Making) (made : List Outcome) (o : Outcome) (call : Call) → ((came : Came) → made_items number count (came_of made ++ came) ≡ items ++ map made_item (calls_left left came))
    → GoesOn left (done_of o.said) next → next_call left ≡ Some call → (came : Came)
    → made_items number count (came_of (made ++ o ∷ []) ++ came) ≡ (items ++ made_item call ∷ []) ++ map made_item (calls_left next came)
whole_next number count items left next made o call whole on is came =
    let what = done_of o.said in
    ap (λ cs. made_items number count (cs ++ came)) (map-append (λ (p : Outcome). done_of p.said) made (o ∷ []))
    ∙ ap (λ cs. made_items number count cs) (append_assoc (came_of made) (what ∷ []) came)
    ∙ whole (what ∷ came)
    ∙ ap (λ cs. items ++ map made_item cs) (on.calls call is came)
    ∙ sym (append_assoc items (made_item call ∷ []) (map made_item (calls_left next came)))

-- one item more
pub made_next : (before middle after : KeptAt) (s : State) (number count : ℕ) (t u : State) (left next : Making) (made more : List Outcome) (call : Call) (c : Choice) (o : Outcome) (what : Option DoneType)
    → MadeSoFar before middle s number count t left made → next_call left ≡ Some call → what ≡ done_of o.said → GoesOn left what next → KeptBy middle after c (asked_item c 1 t (made_item call))
    → o ≡ (item_with c 1 t (made_item call)).outcome → u ≡ (item_with c 1 t (made_item call)).state → more ≡ made ++ o ∷ [] → MadeSoFar before after s number count u next more
made_next before middle after s number count t u left next made more call c o what so_far is came on kept outcome state pushed =
    let i = made_item call in
    let goes = subst (λ (w : Option DoneType). GoesOn left w next) came on in
    record {
      items = so_far.items ++ i ∷ [];
      given = given_next 1 before middle after s (so_far.items ++ i ∷ []) t u (i ∷ []) [] i made more c o refl (widen 1 before middle s so_far.items t made (i ∷ []) so_far.given) kept outcome state pushed;
      whole = λ later. ap (λ os. made_items number count (came_of os ++ later)) pushed ∙ whole_next number count so_far.items left next made o call so_far.whole goes is later;
    }

-- after the last item
pub all_made : (before after : KeptAt) (s : State) (number count : ℕ) (t : State) (left : Making) (made : List Outcome) → MadeSoFar before after s number count t left made → ((came : Came) → calls_left left came ≡ [])
    → AreGiven 1 before after s (made_items number count (came_of made)) t made
all_made before after s number count t left made so_far none =
    let same : made_items number count (came_of made) ≡ so_far.items = ap (λ cs. made_items number count cs) (sym (append-nil (came_of made))) ∙ so_far.whole [] ∙ ap (λ cs. so_far.items ++ map made_item cs) (none []) ∙ append-nil so_far.items in
    subst (λ is. AreGiven 1 before after s is t made) (sym same) (all_given 1 before after s so_far.items t [] made refl so_far.given)

-- ---- where memory runs out

-- the items that are left begin with the next one, whatever that comes to
next_left : (number count : ℕ) (items : List Item) (left : Making) (made : List Outcome) (call : Call) (what : Option DoneType)
    → ((came : Came) → made_items number count (came_of made ++ came) ≡ items ++ map made_item (calls_left left came)) → next_call left ≡ Some call
    → made_items number count (came_of made ++ what ∷ []) ≡ items ++ made_item call ∷ map made_item (calls_left (noted left what) [])
next_left number count items left made call what whole is =
    whole (what ∷ []) ∙ ap (λ cs. items ++ map made_item cs) ((goes_on left (noted left what) what refl).calls call is [])

-- the items so far came to the first of these results
made_in_part : (before middle after : KeptAt) (s : State) (number count : ℕ) (t u : State) (items left : List Item) (made : List Outcome) (came later : Came) → AreGivenSoFar 1 before middle s items t left made
    → KeptLater middle after → MayHaveBegunNext 1 left t u → made_items number count came ≡ items → came ≡ came_of made ++ later → IsMadeInPart before after s number count u
made_in_part before middle after s number count t u items left made came later so_far over begun same is = record {
  came = came;
  given = record {
    front = so_far.front;
    left = left;
    choices = so_far.choices;
    whole = same ∙ so_far.whole;
    kept = middle;
    counted = so_far.counted;
    stored = front_asks 1 before middle s items t left made so_far;
    later = over;
    state = subst (λ (v : State). MayHaveBegunNext 1 left v u) (front_ends 1 before middle s items t left made so_far) begun;
  };
  begins = (later, is ∙ ap (λ os. came_of os ++ later) (front_outcomes 1 before middle s items t left made so_far));
}

-- before the next item, or after the tick that comes first
pub made_at : (before middle after : KeptAt) (s : State) (number count : ℕ) (t u : State) (left : Making) (made : List Outcome) (call : Call) → MadeSoFar before middle s number count t left made
    → next_call left ≡ Some call → KeptLater middle after → MayHaveBegun 1 (made_item call) t u → IsMadeInPart before after s number count u
made_at before middle after s number count t u left made call so_far is over begun =
    let i = made_item call in
    let rest = map made_item (calls_left (noted left None) []) in
    made_in_part before middle after s number count t u (so_far.items ++ i ∷ rest) (i ∷ rest) made (came_of made ++ None ∷ []) (None ∷ [])
    (widen 1 before middle s so_far.items t made (i ∷ rest) so_far.given) over begun (next_left number count so_far.items left made call None so_far.whole is) refl

-- the next item was answered, and there was no memory to keep its outcome
pub made_after : (before middle after : KeptAt) (s : State) (number count : ℕ) (t u : State) (left : Making) (made : List Outcome) (call : Call) (c : Choice) → MadeSoFar before middle s number count t left made
    → next_call left ≡ Some call → KeptBy middle after c (asked_item c 1 t (made_item call)) → u ≡ (item_with c 1 t (made_item call)).state → IsMadeInPart before after s number count u
made_after before middle after s number count t u left made call c so_far is kept state =
    let i = made_item call in
    let o : Outcome = (item_with c 1 t i).outcome in
    let what = done_of o.said in
    let rest = map made_item (calls_left (noted left what) []) in
    let next = given_next 1 before middle after s (so_far.items ++ i ∷ rest) t u (i ∷ rest) rest i made (made ++ o ∷ []) c o refl (widen 1 before middle s so_far.items t made (i ∷ rest) so_far.given) kept refl state refl in
    made_in_part before after after s number count u u (so_far.items ++ i ∷ rest) rest (made ++ o ∷ []) (came_of made ++ what ∷ []) [] next (later_refl after) (none_begun 1 rest u u refl)
    (next_left number count so_far.items left made call what so_far.whole is) (sym (append-nil (came_of (made ++ o ∷ [])) ∙ map-append (λ (p : Outcome). done_of p.said) made (o ∷ [])))

-- nothing more was done
pub made_so_far : (before after : KeptAt) (s : State) (number count : ℕ) (t : State) (left : Making) (made : List Outcome) → MadeSoFar before after s number count t left made → IsMadeInPart before after s number count t
made_so_far before after s number count t left made so_far =
    let later = map made_item (calls_left left []) in
    made_in_part before after after s number count t t (so_far.items ++ later) later made (came_of made ++ []) [] (widen 1 before after s so_far.items t made later so_far.given) (later_refl after)
    (none_begun 1 later t t refl) (so_far.whole []) refl

-- all were answered
pub made_whole : (before after : KeptAt) (s : State) (number count : ℕ) (t : State) (made : List Outcome) → AreGiven 1 before after s (made_items number count (came_of made)) t made → IsMadeInPart before after s number count t
made_whole before after s number count t made given = record {
  came = came_of made;
  given = record {
    front = made_items number count (came_of made);
    left = [];
    choices = given.choices;
    whole = sym (append-nil (made_items number count (came_of made)));
    kept = after;
    counted = given.counted;
    stored = given.stored;
    later = later_refl after;
    state = given.state;
  };
  begins = ([], ap (λ os. came_of os) given.outcomes ∙ sym (append-nil (came_of (outcomes_with 1 s (made_items number count (came_of made)) given.choices))));
}

pub is_made : (before after : KeptAt) (s : State) (number count : ℕ) (t : State) (made : List Outcome) (text : List ℕ) → AreGiven 1 before after s (made_items number count (came_of made)) t made → text ≡ made_text number count made t
    → IsMade before after s number count t text
is_made before after s number count t made text given says = record { outcomes = made; given = given; says = says }
