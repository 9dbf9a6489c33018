-- One more turn of a lane is merged into what has come before it.
use Rattle.std.proofs.Common.{◌≡◌, ℕ, zero, suc, ◌<◌, ◌≤◌, ◌+◌, ◌==◌, Bool, true, false, List, [], ◌∷◌, ◌++◌, length, map, take, get_or, set, length-append, append-nil, append_assoc, Option, None, Some, refl, ap, sym, ◌∙◌, subst, arith, if◌then◌else◌, inl, inr}
use Rattle.std.specs.Bool.{OnTrue}
use Rattle.std.specs.List.{AllByRecursion, concat}
use Rattle.std.specs.Prelude.{slice_get, MatchBool}
use Rattle.std.proofs.lemmas.Bool.Decides.{nat_tests}
use Rattle.std.proofs.lemmas.List.{map-append, take_more, set-get_or}
use Rattle.std.proofs.lemmas.List.Elements.{filter-append}
use Rattle.std.proofs.lemmas.Option.{slice_get_within, slice_get_read, get_or_from_slice_get}
use Rattle.desk_state.specs.Repeats.{IsAskable}
use Rattle.desk_state.specs.State.{State}
use Rattle.desk_state.specs.declared.lanes.Item.{Item}
use Rattle.desk_state.specs.declared.lanes.Outcome.{Outcome}
use Rattle.desk.proofs.AskedLaws.{keeper_later, later_refl}
use Rattle.desk.proofs.Choices.{counted_on, rise_lower}
use Rattle.desk.proofs.SeenLaws.{desk_on, desk_stays}
use Rattle.desk.specs.Keeping.{Counted, KeptAt, KeptLater, asked_item, kept_at, numbers_of}
use Rattle.desk.specs.Merge.{Turn, Event, turn_given, event_of, after_turns, asked_in, events_of, choices_of, of_lane, LaneHas, IsAmong, AreMerged, AreMergedInPart, TakesTurn, HasBegun, IsFresh}
use Rattle.desk.specs.Race.{lanes_of, IsRaceInPart}
use Rattle.desk.specs.Round.{Began, IsRound, AreTaken, items_in}
use Rattle.desk.specs.Run.{LaneShown, lane_with}
use Rattle.desk.specs.Seen.{DeskSeen, DeskGoesOn, desk_seen}
use Rattle.desk.specs.declared.settling.Desk.{Desk}
use Rattle.alerts.specs.Seen.{BellSeen}
use Rattle.keeper.specs.Seen.{KeeperSeen}

-- ---- one more turn

after_more : (s : State) (turns : List Turn) (turn : Turn) → after_turns s (turns ++ turn ∷ []) ≡ (turn_given (after_turns s turns) turn).state
after_more s [] turn = refl
after_more s (t ∷ turns) turn = after_more (turn_given s t).state turns turn

asked_more : (s : State) (turns : List Turn) (turn : Turn) → asked_in s (turns ++ turn ∷ []) ≡ asked_in s turns ++ asked_item turn.choice turn.lane (after_turns s turns) turn.item
asked_more s [] turn = append-nil (asked_item turn.choice turn.lane s turn.item)
asked_more s (t ∷ turns) turn =
    let own = asked_item t.choice t.lane s t.item in
    let mid : State = (turn_given s t).state in
    ap (λ bs. own ++ bs) (asked_more mid turns turn) ∙ sym (append_assoc own (asked_in mid turns) (asked_item turn.choice turn.lane (after_turns mid turns) turn.item))

events_more : (s : State) (turns : List Turn) (turn : Turn) → events_of s (turns ++ turn ∷ []) ≡ events_of s turns ++ event_of (after_turns s turns) turn ∷ []
events_more s [] turn = refl
events_more s (t ∷ turns) turn = ap (λ es. event_of s t ∷ es) (events_more (turn_given s t).state turns turn)

among_more : (count : ℕ) (turns : List Turn) (turn : Turn) → AllByRecursion (IsAmong count) turns → IsAmong count turn → AllByRecursion (IsAmong count) (turns ++ turn ∷ [])
among_more count [] turn all is = (is, tt)
among_more count (t ∷ turns) turn all is = (all.0, among_more count turns turn all.1 is)

askable_more : (turns : List Turn) (turn : Turn) → AllByRecursion (λ (t : Turn). IsAskable t.item) turns → IsAskable turn.item → AllByRecursion (λ (t : Turn). IsAskable t.item) (turns ++ turn ∷ [])
askable_more [] turn all is = (is, tt)
askable_more (t ∷ turns) turn all is = (all.0, askable_more turns turn all.1 is)

lane_more : (number : ℕ) (events : List Event) (e : Event) (b : Bool) → (e.lane == number) ≡ b → of_lane number (events ++ e ∷ []) ≡ of_lane number events ++ (if b then e ∷ [] else [])
lane_more number events e b is = filter-append (λ (x : Event). x.lane == number) events (e ∷ []) ∙ rw is refl

items_more : (items : List Item) (outcomes : List Outcome) (o : Outcome) (i : Item) → slice_get items (length outcomes) ≡ Some i → take (length outcomes) items ++ i ∷ [] ≡ take (length (outcomes ++ o ∷ [])) items
items_more items outcomes o i next =
    let within = slice_get_within items (length outcomes) i next in
    let n : length (outcomes ++ o ∷ []) ≡ length outcomes + 1 = omega (arith, length-append outcomes (o ∷ [])) in
    sym (ap (λ k. take k items) n ∙ (take_more items (length outcomes) i within ∙ ap (λ (x : Item). take (length outcomes) items ++ x ∷ []) (get_or_from_slice_get items (length outcomes) i i next)))

-- the lane whose turn it was
own_more : (events : List Event) (number : ℕ) (lane : LaneShown) (i : Item) (o : Outcome) → LaneHas events number lane → slice_get lane.items (length lane.outcomes) ≡ Some i
    → LaneHas (events ++ record { lane = number; item = i; outcome = o } ∷ []) number (lane_with lane.items (lane.outcomes ++ o ∷ []))
own_more events number lane i o has next =
    let e : Event = record { lane = number; item = i; outcome = o } in
    let self : (number == number) ≡ true = grind (arith, nat_tests) in
    let all : of_lane number (events ++ e ∷ []) ≡ of_lane number events ++ e ∷ [] = lane_more number events e true self in
    record {
      outcomes = ap (map (λ (x : Event). x.outcome)) all ∙ (map-append (λ (x : Event). x.outcome) (of_lane number events) (e ∷ []) ∙ ap (λ os. os ++ o ∷ []) has.outcomes);
      items = ap (map (λ (x : Event). x.item)) all ∙ (map-append (λ (x : Event). x.item) (of_lane number events) (e ∷ []) ∙ (ap (λ is. is ++ i ∷ []) has.items ∙ items_more lane.items lane.outcomes o i next));
    }

-- another lane
other_more : (events : List Event) (number : ℕ) (lane : LaneShown) (e : Event) → (e.lane == number) ≡ false → LaneHas events number lane → LaneHas (events ++ e ∷ []) number lane
other_more events number lane e other has =
    let same : of_lane number (events ++ e ∷ []) ≡ of_lane number events = lane_more number events e false other ∙ append-nil (of_lane number events) in
    record {
      outcomes = ap (map (λ (x : Event). x.outcome)) same ∙ has.outcomes;
      items = ap (map (λ (x : Event). x.item)) same ∙ has.items;
    }

-- what stands at a place of a list that is changed at one
set_here : {X : Type 0} (xs : List X) (n : ℕ) (x y : X) → slice_get xs n ≡ Some x → slice_get (set xs n y) n ≡ Some y
set_here [] n x y is = absurd (cc)
set_here (z ∷ xs) zero x y is = refl
set_here (z ∷ xs) (suc n) x y is = set_here xs n x y is

set_there : {X : Type 0} (xs : List X) (n m : ℕ) (y : X) → (n == m) ≡ false → slice_get (set xs n y) m ≡ slice_get xs m
set_there [] n m y other = refl
set_there (z ∷ xs) zero zero y other = absurd (cc)
set_there (z ∷ xs) zero (suc m) y other = refl
set_there (z ∷ xs) (suc n) zero y other = refl
set_there (z ∷ xs) (suc n) (suc m) y other = set_there xs n m y (grind (arith, nat_tests, other))

set_long : {X : Type 0} (xs : List X) (n : ℕ) (y : X) → length (set xs n y) ≡ length xs
set_long [] n y = refl
set_long (z ∷ xs) zero y = refl
set_long (z ∷ xs) (suc n) y = ap suc (set_long xs n y)

same_some : {X : Type 0} (o : Option X) (x y : X) → o ≡ Some x → o ≡ Some y → x ≡ y
same_some None x y one two = absurd (cc)
same_some (Some z) x y one two = cc

module _ (events : List Event) (lanes : List LaneShown) (place : ℕ) (lane : LaneShown) (i : Item) (o : Outcome) (found : slice_get lanes place ≡ Some lane)
    (next : slice_get lane.items (length lane.outcomes) ≡ Some i) (each : (n : ℕ) (l : LaneShown) → slice_get lanes n ≡ Some l → LaneHas events (n + 1) l) where
  abbrev grown_lane : LaneShown
  grown_lane = lane_with lane.items (lane.outcomes ++ o ∷ [])

  abbrev more_events : List Event
  more_events = events ++ record { lane = place + 1; item = i; outcome = o } ∷ []

  each_by : (n : ℕ) (l : LaneShown) (b : Bool) → (place == n) ≡ b → slice_get (set lanes place grown_lane) n ≡ Some l → LaneHas more_events (n + 1) l
  each_by n l true same at =
      let is : place ≡ n = grind (arith, nat_tests, same) in
      let here : slice_get (set lanes place grown_lane) n ≡ Some grown_lane = subst (λ (m : ℕ). slice_get (set lanes place grown_lane) m ≡ Some grown_lane) is (set_here lanes place lane grown_lane found) in
      let own : LaneHas more_events (place + 1) grown_lane = own_more events (place + 1) lane i o (each place lane found) next in
      subst (λ (x : LaneShown). LaneHas more_events (n + 1) x) (same_some (slice_get (set lanes place grown_lane) n) grown_lane l here at) (subst (λ (m : ℕ). LaneHas more_events (m + 1) grown_lane) is own)
  each_by n l false other at =
      other_more events (n + 1) l (record { lane = place + 1; item = i; outcome = o }) (grind (arith, nat_tests, other))
      (each n l (sym (set_there lanes place n grown_lane other) ∙ at))

  pub each_more : (n : ℕ) (l : LaneShown) → slice_get (set lanes place grown_lane) n ≡ Some l → LaneHas more_events (n + 1) l
  each_more n l at = each_by n l (place == n) refl at

choices_more : (turns : List Turn) (turn : Turn) → choices_of (turns ++ turn ∷ []) ≡ choices_of turns ++ turn.choice ∷ []
choices_more turns turn = map-append (λ (t : Turn). t.choice) turns (turn ∷ [])

pub merged_more : (before : KeptAt) (s : State) (lanes : List LaneShown) (old new : DeskSeen) (place : ℕ) (lane grown : LaneShown) → AreMerged before (kept_at old.keeper) s lanes old.state
    → slice_get lanes place ≡ Some lane → TakesTurn (place + 1) lane grown old new → AreMerged before (kept_at new.keeper) s (set lanes place grown) new.state
merged_more before s lanes old new place lane grown merged found takes =
    let t = takes.turn in
    let turn : Turn = record { lane = place + 1; item = takes.item; choice = t.choice } in
    let middle = old.keeper.health.faults in
    let after = new.keeper.health.faults in
    let outcome_is : (turn_given (after_turns s merged.turns) turn).outcome ≡ takes.outcome = ap (λ (u : State). (turn_given u turn).outcome) (sym merged.state) ∙ sym t.outcome_is in
    let event_is : event_of (after_turns s merged.turns) turn ≡ record { lane = place + 1; item = takes.item; outcome = takes.outcome } = ap (λ (o : Outcome). record { lane = place + 1; item = takes.item; outcome = o }) outcome_is in
    let events_are : events_of s (merged.turns ++ turn ∷ []) ≡ events_of s merged.turns ++ record { lane = place + 1; item = takes.item; outcome = takes.outcome } ∷ [] =
    events_more s merged.turns turn ∙ ap (λ (e : Event). events_of s merged.turns ++ e ∷ []) event_is in
    let within = slice_get_within lanes place lane found in
    let grows : set lanes place grown ≡ set lanes place (lane_with lane.items (lane.outcomes ++ takes.outcome ∷ [])) = ap (λ (l : LaneShown). set lanes place l) takes.grows in
    let long : length lanes ≡ length (set lanes place grown) = sym (set_long lanes place grown) in
    record {
      turns = merged.turns ++ turn ∷ [];
      counted = subst (λ cs. Counted before.faults cs after) (sym (choices_more merged.turns turn)) (counted_on before.faults (choices_of merged.turns) (t.choice ∷ []) middle after merged.counted t.counted);
      stored =
          t.asks.stored
          ∙ ap (λ bs. bs ++ asked_item t.choice (place + 1) old.state takes.item) merged.stored
          ∙ append_assoc before.stored (asked_in s merged.turns) (asked_item t.choice (place + 1) old.state takes.item)
          ∙ ap (λ (u : State). before.stored ++ (asked_in s merged.turns ++ asked_item t.choice (place + 1) u takes.item)) merged.state
          ∙ ap (λ bs. before.stored ++ bs) (sym (asked_more s merged.turns turn));
      state = t.state_is ∙ (ap (λ (u : State). (turn_given u turn).state) merged.state ∙ sym (after_more s merged.turns turn));
      among = subst (λ (n : ℕ). AllByRecursion (IsAmong n) (merged.turns ++ turn ∷ [])) long (among_more (length lanes) merged.turns turn merged.among (omega arith, omega (arith, within)));
      askable = askable_more merged.turns turn merged.askable takes.askable;
      each = λ n l at. subst (λ es. LaneHas es (n + 1) l) (sym events_are)
          (each_more (events_of s merged.turns) lanes place lane takes.item takes.outcome found takes.next merged.each n l (subst (λ ls. slice_get ls n ≡ Some l) grows at));
    }

-- ---- the first turn, and no further

none_has : (number : ℕ) (lane : LaneShown) → IsFresh lane → LaneHas [] number lane
none_has number lane fresh = record { outcomes = sym fresh; items = sym (ap (λ (os : List Outcome). take (length os) lane.items) fresh) }

fresh_at : (lanes : List LaneShown) (n : ℕ) (lane : LaneShown) → AllByRecursion IsFresh lanes → slice_get lanes n ≡ Some lane → IsFresh lane
fresh_at [] n lane all at = absurd (cc)
fresh_at (l ∷ lanes) zero lane all at = subst IsFresh (same_some (Some l) l lane refl at) all.0
fresh_at (l ∷ lanes) (suc n) lane all at = fresh_at lanes n lane all.1 at

pub merged_none : (before : KeptAt) (s : State) (lanes : List LaneShown) → AllByRecursion IsFresh lanes → AreMerged before before s lanes s
merged_none before s lanes fresh = record {
  turns = [];
  counted = omega arith;
  stored = sym (append-nil before.stored);
  state = refl;
  among = tt;
  askable = tt;
  each = λ n lane at. none_has (n + 1) lane (fresh_at lanes n lane fresh at);
}

pub merged_ends : (before middle after : KeptAt) (s : State) (lanes : List LaneShown) (t u : State) (place : ℕ) (lane : LaneShown) → AreMerged before middle s lanes t → KeptLater middle after → slice_get lanes place ≡ Some lane
    → HasBegun (place + 1) lane t u → AreMergedInPart before after s lanes u
merged_ends before middle after s lanes t u place lane merged over found begun = record {
  mid = t;
  kept = middle;
  merged = merged;
  later = over;
  left = inr (record { place = place; lane = lane; found = found; begun = begun });
}

pub merged_whole : (before after : KeptAt) (s : State) (lanes : List LaneShown) (t : State) → AreMerged before after s lanes t → AreMergedInPart before after s lanes t
merged_whole before after s lanes t merged = record { mid = t; kept = after; merged = merged; later = later_refl after; left = inl refl }

-- ---- the lock

pub round_begins : (began : Began) (desk : DeskSeen) (lanes : List LaneShown) → began.desk ≡ desk → began.items ≡ map items_in lanes → AllByRecursion IsFresh lanes → IsRound began desk lanes false
round_begins began desk lanes same items fresh = record {
  on = subst (λ (d : DeskSeen). DeskGoesOn d desk) (sym same) (desk_stays desk);
  items = sym items;
  taken = subst (λ (d : DeskSeen). AreMerged (kept_at d.keeper) (kept_at desk.keeper) d.state lanes desk.state) (sym same) (merged_none (kept_at desk.keeper) desk.state lanes fresh);
}

items_stay : (lanes : List LaneShown) (place : ℕ) (lane grown : LaneShown) → slice_get lanes place ≡ Some lane → grown.items ≡ lane.items → map items_in (set lanes place grown) ≡ map items_in lanes
items_stay [] place lane grown found same = refl
items_stay (l ∷ lanes) zero lane grown found same = ap (λ is. is ∷ map items_in lanes) (same ∙ ap items_in (sym (same_some (Some l) l lane refl found)))
items_stay (l ∷ lanes) (suc n) lane grown found same = ap (λ is. l.items ∷ is) (items_stay lanes n lane grown found same)

-- after a turn
pub round_turns : (began : Began) (old new : DeskSeen) (lanes : List LaneShown) (place : ℕ) (lane grown : LaneShown) → IsRound began old lanes false → slice_get lanes place ≡ Some lane
    → TakesTurn (place + 1) lane grown old new → DeskGoesOn old new → IsRound began new (set lanes place grown) false
round_turns began old new lanes place lane grown round found takes goes = record {
  on = desk_on began.desk old new round.on goes;
  items = items_stay lanes place lane grown found (ap (λ (l : LaneShown). l.items) takes.grows) ∙ round.items;
  taken = merged_more (kept_at began.desk.keeper) began.desk.state lanes old new place lane grown round.taken found takes;
}

-- where memory ran out at one
pub round_ends : (began : Began) (old new : DeskSeen) (lanes : List LaneShown) (place : ℕ) (lane : LaneShown) → IsRound began old lanes false → slice_get lanes place ≡ Some lane
    → HasBegun (place + 1) lane old.state new.state → DeskGoesOn old new → IsRound began new lanes true
round_ends began old new lanes place lane round found begun goes = record {
  on = desk_on began.desk old new round.on goes;
  items = round.items;
  taken = merged_ends (kept_at began.desk.keeper) (kept_at old.keeper) (kept_at new.keeper) began.desk.state lanes old.state new.state place lane round.taken (keeper_later old.keeper new.keeper goes.keeper) found begun;
}

module _ {K B : Type 0} (seen : K → KeeperSeen) (heard : B → BellSeen) (began : Began) (d d' : Desk K B) (lanes : List LaneShown) (place : ℕ) (lane grown : LaneShown) (ended : Bool) (open_yet : ended ≡ false) (round : IsRound began (desk_seen seen heard d) lanes ended)
    (within : place < length lanes) (at : lane ≡ get_or lanes place lane) (goes : DeskGoesOn (desk_seen seen heard d) (desk_seen seen heard d')) where
  still_open : IsRound began (desk_seen seen heard d) lanes false
  still_open = subst (λ (b : Bool). IsRound began (desk_seen seen heard d) lanes b) open_yet round

  found_at : slice_get lanes place ≡ Some lane
  found_at = slice_get_read lanes (length lanes) place lane refl within at

  same_lanes : grown ≡ lane → set lanes place grown ≡ lanes
  same_lanes same = ap (λ (l : LaneShown). set lanes place l) (same ∙ at) ∙ set-get_or lanes place lane

  -- where a lane's next item was answered, or it had none
  pub round_went : (went : Bool) → MatchBool went (TakesTurn (place + 1) lane grown (desk_seen seen heard d) (desk_seen seen heard d')) ((grown ≡ lane) × (d' ≡ d)) → IsRound began (desk_seen seen heard d') (set lanes place grown) ended
  round_went true takes =
      subst (λ (b : Bool). IsRound began (desk_seen seen heard d') (set lanes place grown) b) (sym open_yet)
      (round_turns began (desk_seen seen heard d) (desk_seen seen heard d') lanes place lane grown still_open found_at takes goes)
  round_went false still =
      subst (λ (ls : List LaneShown). IsRound began (desk_seen seen heard d') ls ended) (sym (same_lanes still.0))
      (subst (λ (x : Desk K B). IsRound began (desk_seen seen heard x) lanes ended) (sym still.1) round)

  -- where memory ran out
  pub round_stops : grown ≡ lane → HasBegun (place + 1) lane d.board.state d'.board.state → IsRound began (desk_seen seen heard d') (set lanes place grown) true
  round_stops same begun =
      subst (λ (ls : List LaneShown). IsRound began (desk_seen seen heard d') ls true) (sym (same_lanes same))
      (round_ends began (desk_seen seen heard d) (desk_seen seen heard d') lanes place lane still_open found_at begun goes)

-- what was taken is merged, whether memory ran out or not
pub taken_part : (began : Began) (desk : DeskSeen) (lanes : List LaneShown) (ended : Bool) → AreTaken began desk lanes ended
    → AreMergedInPart (kept_at began.desk.keeper) (kept_at desk.keeper) began.desk.state lanes desk.state
taken_part began desk lanes true taken = taken
taken_part began desk lanes false taken = merged_whole (kept_at began.desk.keeper) (kept_at desk.keeper) began.desk.state lanes desk.state taken

-- where memory never ran out it is merged whole
pub taken_whole : (began : Began) (desk : DeskSeen) (lanes : List LaneShown) (ended whole : Bool) → OnTrue whole (ended ≡ false) → AreTaken began desk lanes ended
    → OnTrue whole (AreMerged (kept_at began.desk.keeper) (kept_at desk.keeper) began.desk.state lanes desk.state)
taken_whole began desk lanes ended false never taken = never
taken_whole began desk lanes ended true never taken = subst (λ (b : Bool). AreTaken began desk lanes b) never taken

-- what is merged, where the keeper's faults are counted from before
pub merged_lower : (less : ℕ) (low high : KeptAt) (s t : State) (lanes : List LaneShown) → less ≤ low.faults → AreMerged low high s lanes t → AreMerged (record low { faults = less }) high s lanes t
merged_lower less low high s t lanes under merged = record {
  turns = merged.turns;
  counted = rise_lower less low.faults (concat (map numbers_of (choices_of merged.turns))) high.faults under merged.counted;
  stored = merged.stored;
  state = merged.state;
  among = merged.among;
  askable = merged.askable;
  each = merged.each;
}

pub part_lower : (less : ℕ) (low high : KeptAt) (s t : State) (lanes : List LaneShown) → less ≤ low.faults → AreMergedInPart low high s lanes t → AreMergedInPart (record low { faults = less }) high s lanes t
part_lower less low high s t lanes under part = record {
  mid = part.mid;
  kept = part.kept;
  merged = merged_lower less low part.kept s part.mid lanes under part.merged;
  later = part.later;
  left = part.left;
}

-- the lanes of scripts, of which nothing has come yet
pub lanes_fresh : (scripts : List (List ℕ)) → AllByRecursion IsFresh (lanes_of scripts)
lanes_fresh [] = tt
lanes_fresh (script ∷ rest) = (refl, lanes_fresh rest)

pub made_fresh : (lanes : List LaneShown) (scripts : List (List ℕ)) → lanes ≡ lanes_of scripts → AllByRecursion IsFresh lanes
made_fresh lanes scripts is = subst (AllByRecursion IsFresh) (sym is) (lanes_fresh scripts)

-- nothing was done of a race
pub race_none : (before : KeptAt) (s : State) (scripts : List (List ℕ)) → IsRaceInPart before before s scripts s
race_none before s scripts = record { lanes = lanes_of scripts; items = refl; part = merged_whole before before s (lanes_of scripts) s (merged_none before s (lanes_of scripts) (lanes_fresh scripts)) }
