-- Lanes that are merged into one history: what is said of each of their items follows from where it stands there.
use Rattle.std.proofs.Common.{◌≡◌, ℕ, zero, suc, ◌+◌, ◌-◌, ◌<◌, ◌≤◌, ◌⊎◌, inl, inr, Bool, true, false, MatchBool, List, [], ◌∷◌, ◌++◌, length, map, get_or, Option, None, Some, refl, ap, sym, ◌∙◌, subst, arith}
use Rattle.std.specs.Prelude.{nat_le, nat_lt, slice_get}
use Rattle.std.specs.Bool.{OnTrue}
use Rattle.std.specs.List.{AllByRecursion, concat, list_all}
use Rattle.std.proofs.lemmas.Bool.Decides.{nat_tests}
use Rattle.std.proofs.lemmas.Bool.{and_parts}
use Rattle.std.proofs.lemmas.List.{length-append}
use Rattle.std.proofs.lemmas.Option.{slice_get_cases}
use Rattle.asks.specs.declared.call.Call.{Call}
use Rattle.asks.specs.declared.reply.Reply.{Reply}
use Rattle.desk_state.specs.Legal.{Legal}
use Rattle.desk_state.specs.Repeats.{IsAskable}
use Rattle.desk_state.specs.Sound.{IsBoard}
use Rattle.desk_state.specs.State.{State}
use Rattle.desk_state.specs.Step.{entry, tick_to, without_key}
use Rattle.desk_state.specs.declared.entry.Entry.{Entry}
use Rattle.desk_state.specs.declared.entry.What.{What}
use Rattle.desk_state.specs.declared.entry.What.TheVariants as what
use Rattle.desk_state.specs.declared.lanes.Item.{Item}
use Rattle.desk_state.specs.declared.lanes.Item.TheVariants as item
use Rattle.desk_state.specs.declared.lanes.Outcome.{Outcome}
use Rattle.desk_state.specs.declared.lanes.Said.{Said}
use Rattle.desk.proofs.Growing.{Grows, Did, IsMade, IsWithin, did, grows_on, grows_long, grows_mid, grows_made, prefix_is, entry_stands}
use Rattle.desk.proofs.Lines.{line_at, at_line, before_in, before_rises, get_map, map_get, take_get, some_is}
use Rattle.desk.proofs.Staged.{Stage, stage, turns_grow, Origin, OfTick, OfCall, origin}
use Rattle.desk.proofs.Choices.{rise_within}
use Rattle.desk.specs.Keeping.{Given, KeptAt, numbers_of}
use Rattle.desk.specs.Merge.{Turn, Event, turn_given, event_of, after_turns, events_of, choices_of, of_lane, LaneHas, AreMerged, is_done}
use Rattle.desk.specs.Positions.{prefix, IsUnkept, IsUnkeptWithin, IsAnswered, IsRefusedBy, IsSaidIn, Accepts, IsEntryOf, ComesAt, IsLine, Owns, AreInHistory, AreOneHistory}
use Rattle.desk.specs.Run.{LaneShown}

wider : (low high less more : ℕ) (says : Said) → less ≤ low → high ≤ more → IsUnkeptWithin low high says → IsUnkeptWithin less more says
wider low high less more says under over unkept = let above = unkept.2 in let within = unkept.3 in (unkept.0, unkept.1, omega (arith, under, above), omega (arith, over, within))

pub wider_answer : (low high less more lane : ℕ) (u : State) (call : Call) (says : Said) → less ≤ low → high ≤ more → IsAnswered low high lane u call says → IsAnswered less more lane u call says
wider_answer low high less more lane u call says under over (inl is) = inl is
wider_answer low high less more lane u call says under over (inr is) = inr (is.0, wider low high less more says under over is.1)

pub wider_refusal : (low high less more : ℕ) (reply : Option Reply) (says : Said) → less ≤ low → high ≤ more → IsRefusedBy low high reply says → IsRefusedBy less more reply says
wider_refusal low high less more None says under over is = wider low high less more says under over is
wider_refusal low high less more (Some reply) says under over is = is

wider_by : (b : Bool) (low high less more lane : ℕ) (u : State) (at : ℕ) (call : Call) (says : Said) → less ≤ low → high ≤ more
    → MatchBool b (IsAnswered low high lane u call says) (IsRefusedBy low high (tick_to u lane at).reply says) → MatchBool b (IsAnswered less more lane u call says) (IsRefusedBy less more (tick_to u lane at).reply says)
wider_by true low high less more lane u at call says under over is = wider_answer low high less more lane u call says under over is
wider_by false low high less more lane u at call says under over is = wider_refusal low high less more (tick_to u lane at).reply says under over is

wider_said : (low high less more lane : ℕ) (u : State) (i : Item) (says : Said) → less ≤ low → high ≤ more → IsSaidIn low high lane u i says → IsSaidIn less more lane u i says
wider_said low high less more lane u (item.Bad fault) says under over is = is
wider_said low high less more lane u (item.Call at call) says under over is = wider_by (nat_le at u.moment) low high less more lane u at call says under over is

done_at : (lanes : List LaneShown) (n : ℕ) (lane : LaneShown) → list_all is_done lanes ≡ true → slice_get lanes n ≡ Some lane → length lane.outcomes ≡ length lane.items
done_at [] n lane all at = absurd (cc)
done_at (l ∷ lanes) zero lane all at =
    let own : is_done l ≡ true = (and_parts (is_done l) (list_all is_done lanes) all).0 in
    let same : length l.outcomes ≡ length l.items = grind (arith, nat_tests, own) in
    subst (λ (x : LaneShown). length x.outcomes ≡ length x.items) (some_is l lane at) same
done_at (l ∷ lanes) (suc n) lane all at = done_at lanes n lane (and_parts (is_done l) (list_all is_done lanes) all).1 at

-- an entry of a call isn't that of a tick
pub tick_call : (k m to : ℕ) (call : Call) (reply : Reply) → entry k (what.Asked call reply) ≡ entry m (what.Tick to) → ⊥
tick_call k m to call reply is = let same = ap (λ (e : Entry). e.what) is in absurd (cc)

same_lane : (k m : ℕ) (v w : What) → entry k v ≡ entry m w → k ≡ m
same_lane k m v w is = ap (λ (e : Entry). e.lane) is

pub same_tick : (k m a b : ℕ) → entry k (what.Tick a) ≡ entry m (what.Tick b) → a ≡ b
same_tick k m a b is = let same = ap (λ (e : Entry). e.what) is in cc

lane_of_entry : (x : Entry) (lane : ℕ) (i : Item) (says : Said) → IsEntryOf x lane i says → x.lane ≡ lane
lane_of_entry x lane (item.Bad fault) says is = absurd is
lane_of_entry x lane (item.Call at call) says is = ap (λ (e : Entry). e.lane) is.2

tick_entry : (m to : ℕ) (lane : ℕ) (i : Item) (says : Said) → IsEntryOf (entry m (what.Tick to)) lane i says → ⊥
tick_entry m to lane (item.Bad fault) says is = absurd is
tick_entry m to lane (item.Call at call) says is = absurd (let same : entry m (what.Tick to) ≡ entry lane (what.Asked (without_key call) is.0) = is.2 in tick_call lane m to (without_key call) is.0 (sym same))

module _ (first last : KeptAt) (opening s t : State) (lanes : List LaneShown) (merged : AreMerged first last s lanes t) (board : IsBoard opening s) (askable : AllByRecursion (λ (turn : Turn). IsAskable turn.item) merged.turns)
    (entries : List Entry) (grown : t.entries ≡ s.entries ++ entries) where
  abbrev low : ℕ
  low = first.faults

  abbrev high : ℕ
  high = last.faults

  abbrev turns : List Turn
  turns = merged.turns

  abbrev events : List Event
  events = events_of s turns

  ends_grown : (after_turns s turns).entries ≡ s.entries ++ entries
  ends_grown = ap (λ (u : State). u.entries) (sym merged.state) ∙ grown

  abbrev At : ℕ → Event → Type 0
  At j e = slice_get events j ≡ Some e

  the_stage : (j : ℕ) (e : Event) → At j e → Stage low s turns high j e
  the_stage j e at = stage low s turns high j e merged.counted at

  -- ---- an event at its place

  record Place (e : Event) : Type 0 where
    low_end : length s.entries ≤ e.outcome.position
    high_end : e.outcome.position ≤ length s.entries + length entries
    says : IsSaidIn low high e.lane (prefix s entries e.outcome.position) e.item e.outcome.said
    owns : Accepts e.lane (prefix s entries e.outcome.position) e.item e.outcome.said → Owns s entries e.lane e.item e.outcome
    carries : (n : ℕ) → IsUnkept n e.outcome.said → IsWithin low high n
    among : (1 ≤ e.lane) × (e.lane ≤ length lanes)

  module _ (j : ℕ) (e : Event) (g : Stage low s turns high j e) where
    abbrev gave : Given
    gave = turn_given g.here g.turn

    abbrev done : Did g.first g.last g.turn.lane g.here g.turn.item (turn_given g.here g.turn)
    done = did g.first g.last g.turn.lane g.here g.turn.item g.turn.choice g.counted

    to_mid : Grows s done.mid
    to_mid = grows_on s g.here done.mid g.before (grows_mid g.first g.last g.turn.lane g.here g.turn.item gave done)

    goes : Grows done.mid gave.state
    goes = grows_made g.turn.lane g.turn.item gave.outcome.said done.mid gave.state done.made

    to_end : Grows gave.state (after_turns s turns)
    to_end = subst (λ (u : State). Grows gave.state u) (sym g.ends) (turns_grow g.last gave.state g.rest high g.later)

    prefix_at : prefix s entries gave.outcome.position ≡ done.mid
    prefix_at = prefix_is s done.mid (after_turns s turns) entries gave.outcome.position to_mid (grows_on done.mid gave.state (after_turns s turns) goes to_end) ends_grown done.position

    accepts_mid : Accepts g.turn.lane (prefix s entries gave.outcome.position) g.turn.item gave.outcome.said → Accepts g.turn.lane done.mid g.turn.item gave.outcome.said
    accepts_mid accepts = subst (λ (u : State). Accepts g.turn.lane u g.turn.item gave.outcome.said) prefix_at accepts

    owns_by : IsMade g.turn.lane g.turn.item gave.outcome.said done.mid gave.state → Accepts g.turn.lane done.mid g.turn.item gave.outcome.said → Owns s entries g.turn.lane g.turn.item gave.outcome
    owns_by (inl still) accepts = absurd (still.1 accepts)
    owns_by (inr own) accepts =
        (own.1.e, entry_stands s done.mid gave.state (after_turns s turns) entries own.1.e gave.outcome.position to_mid own.1.grown to_end ends_grown done.position, own.1.its)

    longer_by : IsMade g.turn.lane g.turn.item gave.outcome.said done.mid gave.state → Accepts g.turn.lane done.mid g.turn.item gave.outcome.said → length done.mid.entries < length gave.state.entries
    longer_by (inl still) accepts = absurd (still.1 accepts)
    longer_by (inr own) accepts = let long = ap length own.1.grown ∙ length-append done.mid.entries (own.1.e ∷ []) in omega (arith, long)

    carried : (n : ℕ) → IsUnkept n gave.outcome.said → IsWithin g.first g.last n
    carried n is = done.carries opening (g.board opening board askable) (g.askable askable).0 n is

    over : g.last ≤ high
    over = rise_within g.last (concat (map numbers_of (choices_of g.rest))) high g.later

    place_here : Place (event_of g.here g.turn)
    place_here =
        let one = grows_long s done.mid to_mid in
        let two = grows_long done.mid gave.state goes in
        let three = grows_long gave.state (after_turns s turns) to_end in
        let all = ap length ends_grown ∙ length-append s.entries entries in
        let position = done.position in
        let under = g.under in
        record {
          low_end = omega (arith, one, position);
          high_end = omega (arith, two, three, all, position);
          says = wider_said g.first g.last low high g.turn.lane (prefix s entries gave.outcome.position) g.turn.item gave.outcome.said under over
              (subst (λ (u : State). IsSaidIn g.first g.last g.turn.lane u g.turn.item gave.outcome.said) (sym prefix_at) done.says);
          owns = λ accepts. owns_by done.made (accepts_mid accepts);
          carries = λ n is. let within = carried n is in let a = within.0 in let b = within.1 in (omega (arith, under, a), omega (arith, over, b));
          among = g.among (length lanes) merged.among;
        }

    place_of : Place e
    place_of = subst Place (sym g.is) place_here

  place : (j : ℕ) (e : Event) → At j e → Place e
  place j e at = place_of j e (the_stage j e at)

  -- ---- one event before another

  record Pair (e f : Event) : Type 0 where
    ordered : e.outcome.position ≤ f.outcome.position
    own : Accepts e.lane (prefix s entries e.outcome.position) e.item e.outcome.said → e.outcome.position < f.outcome.position
    counts : (a b : ℕ) → IsUnkept a e.outcome.said → IsUnkept b f.outcome.said → a < b

  pair_here : (j i : ℕ) (e f : Event) → (g : Stage low s turns high j e) → (h : Stage g.last (turn_given g.here g.turn).state g.rest high i f) → Pair (event_of g.here g.turn) (event_of h.here h.turn)
  pair_here j i e f g h =
      let d : Did g.first g.last g.turn.lane g.here g.turn.item (turn_given g.here g.turn) = did g.first g.last g.turn.lane g.here g.turn.item g.turn.choice g.counted in
      let d' : Did h.first h.last h.turn.lane h.here h.turn.item (turn_given h.here h.turn) = did h.first h.last h.turn.lane h.here h.turn.item h.turn.choice h.counted in
      let one = grows_long d.mid (turn_given g.here g.turn).state (goes j e g) in
      let two = grows_long (turn_given g.here g.turn).state h.here h.before in
      let three = grows_long h.here d'.mid (grows_mid h.first h.last h.turn.lane h.here h.turn.item (turn_given h.here h.turn) d') in
      let p = d.position in
      let q = d'.position in
      let all = g.askable askable in
      let later_board : IsBoard opening h.here = h.board opening (d.keeps opening (g.board opening board askable) all.0) all.1 in
      record {
        ordered = omega (arith, one, two, three, p, q);
        own = λ accepts. let longer = longer_by j e g d.made (accepts_mid j e g accepts) in omega (arith, longer, two, three, p, q);
        counts = λ a b is_a is_b.
            let within = carried j e g a is_a in
            let within' = d'.carries opening later_board (h.askable all.1).0 b is_b in
            let under = h.under in
            let high_a = within.1 in
            let low_b = within'.0 in
            omega (arith, under, high_a, low_b);
      }

  pair : (j k : ℕ) (e f : Event) → At j e → At k f → j < k → Pair e f
  pair j k e f one two less =
      let g : Stage low s turns high j e = the_stage j e one in
      let i : ℕ = k - suc j in
      let is : k ≡ suc (j + i) = omega (arith, less) in
      let h : Stage g.last (turn_given g.here g.turn).state g.rest high i f = stage g.last (turn_given g.here g.turn).state g.rest high i f g.later (sym (g.left i k is) ∙ two) in
      subst (λ (x : Event). Pair e x) (sym h.is) (subst (λ (x : Event). Pair x (event_of h.here h.turn)) (sym g.is) (pair_here j i e f g h))

  -- ---- the lines of the lanes

  record Line (k n : ℕ) (i : Item) (o : Outcome) : Type 0 where
    j : ℕ
    e : Event
    at : At j e
    lane : e.lane ≡ k
    item_is : e.item ≡ i
    outcome_is : e.outcome ≡ o
    place_is : n ≡ before_in k j events

  lane_has : (k : ℕ) (lane : LaneShown) → 1 ≤ k → slice_get lanes (k - 1) ≡ Some lane → LaneHas events k lane
  lane_has k lane numbered found =
      let same : (k - 1) + 1 ≡ k = omega (arith, numbered) in
      subst (λ (m : ℕ). LaneHas events m lane) same (merged.each (k - 1) lane found)

  line_of : (k n : ℕ) (i : Item) (o : Outcome) → IsLine lanes k n i o → Line k n i o
  line_of k n i o line =
      let has : LaneHas events k line.lane = lane_has k line.lane line.numbered line.found in
      let found = map_get (λ (x : Event). x.outcome) (of_lane k events) n o (ap (λ os. slice_get os n) has.outcomes ∙ line.outcome_is) in
      let e : Event = found.x in
      let its : slice_get (map (λ (x : Event). x.item) (of_lane k events)) n ≡ Some e.item = get_map (λ (x : Event). x.item) (of_lane k events) n e found.at in
      let its' : slice_get line.lane.items n ≡ Some e.item = take_get (length line.lane.outcomes) line.lane.items n e.item (sym (ap (λ is. slice_get is n) has.items) ∙ its) in
      let l = line_at k events n e found.at in
      record { j = l.j; e = e; at = l.at; lane = l.lane; item_is = some_is e.item i (sym its' ∙ line.item_is); outcome_is = found.is; place_is = l.place }

  lane_found : (k : ℕ) → 1 ≤ k → k ≤ length lanes → (lane : LaneShown) × (slice_get lanes (k - 1) ≡ Some lane)
  lane_found k numbered within = by (slice_get_cases lanes (k - 1)).1
    where
      by : ((x : LaneShown) × (k - 1 < length lanes) × (slice_get lanes (k - 1) ≡ Some x) × (get_or lanes (k - 1) x ≡ x)) ⊎ ((length lanes ≤ k - 1) × (slice_get lanes (k - 1) ≡ None))
          → (lane : LaneShown) × (slice_get lanes (k - 1) ≡ Some lane)
      by (inl found) = (found.0, found.2)
      by (inr past) = absurd (let over = past.0 in omega (arith, over, numbered, within))

  line_back : (j : ℕ) (e : Event) → At j e → IsLine lanes e.lane (before_in e.lane j events) e.item e.outcome
  line_back j e at =
      let among = (place j e at).among in
      let found = lane_found e.lane among.0 among.1 in
      let has : LaneHas events e.lane found.0 = lane_has e.lane found.0 among.0 found.1 in
      let n : ℕ = before_in e.lane j events in
      let stands : slice_get (of_lane e.lane events) n ≡ Some e = at_line e.lane events j e refl at in
      record {
        lane = found.0;
        numbered = among.0;
        found = found.1;
        item_is = take_get (length found.0.outcomes) found.0.items n e.item (sym (ap (λ is. slice_get is n) has.items) ∙ get_map (λ (x : Event). x.item) (of_lane e.lane events) n e stands);
        outcome_is = sym (ap (λ os. slice_get os n) has.outcomes) ∙ get_map (λ (x : Event). x.outcome) (of_lane e.lane events) n e stands;
      }

  -- what holds of an event holds of its line
  of_line : (k n : ℕ) (i : Item) (o : Outcome) (P : ℕ → Item → Outcome → Type 0) → (l : Line k n i o) → P l.e.lane l.e.item l.e.outcome → P k i o
  of_line k n i o P l holds = subst (λ (m : ℕ). P m i o) l.lane (subst (λ (x : Item). P l.e.lane x o) l.item_is (subst (λ (x : Outcome). P l.e.lane l.e.item x) l.outcome_is holds))

  to_line : (k n : ℕ) (i : Item) (o : Outcome) (P : ℕ → Item → Outcome → Type 0) → (l : Line k n i o) → P k i o → P l.e.lane l.e.item l.e.outcome
  to_line k n i o P l holds =
      subst (λ (m : ℕ). P m l.e.item l.e.outcome) (sym l.lane) (subst (λ (x : Item). P k x l.e.outcome) (sym l.item_is) (subst (λ (x : Outcome). P k i x) (sym l.outcome_is) holds))

  abbrev AcceptsAt : ℕ → Item → Outcome → Type 0
  AcceptsAt k i o = Accepts k (prefix s entries o.position) i o.said

  line_before : (k n m : ℕ) (i x : Item) (o p : Outcome) → (a : Line k n i o) → (b : Line k m x p) → n < m → a.j < b.j
  line_before k n m i x o p a b less = by (nat_lt a.j b.j) refl
    where
      by : (c : Bool) → nat_lt a.j b.j ≡ c → a.j < b.j
      by true is = grind (arith, nat_tests, is)
      by false is =
          let le : b.j ≤ a.j = grind (arith, nat_tests, is) in
          let rises = before_rises k events b.j a.j le in
          let one = a.place_is in
          let two = b.place_is in
          absurd (omega (arith, rises, one, two, less))

  pair_lines : (k n m : ℕ) (i x : Item) (o p : Outcome) → (a : Line k n i o) → (b : Line k m x p) → n < m → Pair a.e b.e
  pair_lines k n m i x o p a b less = pair a.j b.j a.e b.e a.at b.at (line_before k n m i x o p a b less)

  same_line : (k m n p : ℕ) (i x : Item) (o r : Outcome) → (a : Line k n i o) → (b : Line m p x r) → a.j ≡ b.j → (k ≡ m) × (n ≡ p)
  same_line k m n p i x o r a b same =
      let is : a.e ≡ b.e = some_is a.e b.e (sym a.at ∙ (ap (slice_get events) same ∙ b.at)) in
      let lane : k ≡ m = sym a.lane ∙ (ap (λ (e : Event). e.lane) is ∙ b.lane) in
      (lane, a.place_is ∙ (ap (λ (q : ℕ). before_in q a.j events) lane ∙ (ap (λ (q : ℕ). before_in m q events) same ∙ sym b.place_is)))

  only_line : (k m n p : ℕ) (i x : Item) (o r : Outcome) → (a : Line k n i o) → (b : Line m p x r) → (a.j < b.j → ⊥) → (b.j < a.j → ⊥) → (k ≡ m) × (n ≡ p)
  only_line k m n p i x o r a b not_before not_after = same_line k m n p i x o r a b (by (nat_lt a.j b.j) (nat_lt b.j a.j) refl refl)
    where
      by : (c d : Bool) → nat_lt a.j b.j ≡ c → nat_lt b.j a.j ≡ d → a.j ≡ b.j
      by true d one two = absurd (not_before (grind (arith, nat_tests, one)))
      by false true one two = absurd (not_after (grind (arith, nat_tests, two)))
      by false false one two = grind (arith, nat_tests, one, two)

  the_alone : (k m n p : ℕ) (i x : Item) (o r : Outcome) → (a : Line k n i o) → (b : Line m p x r) → AcceptsAt k i o → AcceptsAt m x r → o.position ≡ r.position → (k ≡ m) × (n ≡ p)
  the_alone k m n p i x o r a b one two same =
      let stands : a.e.outcome.position ≡ b.e.outcome.position = ap (λ (y : Outcome). y.position) a.outcome_is ∙ (same ∙ ap (λ (y : Outcome). y.position) (sym b.outcome_is)) in
      only_line k m n p i x o r a b
      (λ less. let more = (pair a.j b.j a.e b.e a.at b.at less).own (to_line k n i o AcceptsAt a one) in omega (arith, more, stands))
      (λ less. let more = (pair b.j a.j b.e a.e b.at a.at less).own (to_line m p x r AcceptsAt b two) in omega (arith, more, stands))

  abbrev Carries : ℕ → ℕ → Item → Outcome → Type 0
  Carries n k i o = IsUnkept n o.said

  the_counts : (k m n p c : ℕ) (i x : Item) (o r : Outcome) → (a : Line k n i o) → (b : Line m p x r) → IsUnkept c o.said → IsUnkept c r.said → (k ≡ m) × (n ≡ p)
  the_counts k m n p c i x o r a b one two =
      let one' : IsUnkept c a.e.outcome.said = to_line k n i o (Carries c) a one in
      let two' : IsUnkept c b.e.outcome.said = to_line m p x r (Carries c) b two in
      only_line k m n p i x o r a b
      (λ less. let more = (pair a.j b.j a.e b.e a.at b.at less).counts c c one' two' in omega (arith, more))
      (λ less. let more = (pair b.j a.j b.e a.e b.at a.at less).counts c c two' one' in omega (arith, more))

  -- ---- the entries

  abbrev Stands : ℕ → ℕ → Type 0
  Stands q position = position ≡ length s.entries + q

  owned_by : (q k : ℕ) (call : Call) (reply : Reply) → (origin : Origin s turns (length s.entries + q) (entry k (what.Asked call reply)))
      → OfTick s turns (length s.entries + q) (entry k (what.Asked call reply)) origin.j origin.e ⊎ OfCall s turns (length s.entries + q) (entry k (what.Asked call reply)) origin.e
      → (n : ℕ) × (i : Item) × (o : Outcome) × IsLine lanes k n i o × Accepts k (prefix s entries o.position) i o.said × (o.position ≡ length s.entries + q) × IsEntryOf (entry k (what.Asked call reply)) k i o.said
  owned_by q k call reply found (inl tick) = absurd (tick_call k found.e.lane tick.to call reply tick.is)
  owned_by q k call reply found (inr own) =
      let e : Event = found.e in
      let lane : e.lane ≡ k = sym (lane_of_entry (entry k (what.Asked call reply)) e.lane e.item e.outcome.said own.is) in
      let at_mid : prefix s entries e.outcome.position ≡ own.here = prefix_is s own.here (after_turns s turns) entries e.outcome.position own.before own.after ends_grown (own.stands ∙ own.long) in
      let accepts : Accepts e.lane (prefix s entries e.outcome.position) e.item e.outcome.said = subst (λ (u : State). Accepts e.lane u e.item e.outcome.said) (sym at_mid) own.accepts in (
        before_in e.lane found.j events,
        e.item,
        e.outcome,
        subst (λ (m : ℕ). IsLine lanes m (before_in e.lane found.j events) e.item e.outcome) lane (line_back found.j e found.at),
        subst (λ (m : ℕ). Accepts m (prefix s entries e.outcome.position) e.item e.outcome.said) lane accepts,
        own.stands,
        subst (λ (m : ℕ). IsEntryOf (entry k (what.Asked call reply)) m e.item e.outcome.said) lane own.is,
      )

  firsts_of : (position j : ℕ) (e : Event) (k : ℕ) → At j e → e.lane ≡ k → ((i : ℕ) (p : Event) → slice_get events i ≡ Some p → i < j → p.outcome.position ≤ position)
      → (m : ℕ) (x : Item) (p : Outcome) → IsLine lanes k m x p → m < before_in e.lane j events → p.position ≤ position
  firsts_of position j e k at lane firsts m x p line less =
      let b : Line k m x p = line_of k m x p line in
      let own : Line k (before_in e.lane j events) e.item e.outcome = record { j = j; e = e; at = at; lane = lane; item_is = refl; outcome_is = refl; place_is = ap (λ (q : ℕ). before_in q j events) lane } in
      of_line k m x p (λ k i o. o.position ≤ position) b (firsts b.j b.e b.at (line_before k m (before_in e.lane j events) x e.item p e.outcome b own less))

  ticks_by : (q k to : ℕ) → (origin : Origin s turns (length s.entries + q) (entry k (what.Tick to)))
      → OfTick s turns (length s.entries + q) (entry k (what.Tick to)) origin.j origin.e ⊎ OfCall s turns (length s.entries + q) (entry k (what.Tick to)) origin.e
      → (n : ℕ) × (i : Item) × (o : Outcome) × IsLine lanes k n i o × ComesAt to i × (o.position ≡ length s.entries + (q + 1))
      × ((m : ℕ) (j : Item) (p : Outcome) → IsLine lanes k m j p → m < n → p.position ≤ length s.entries + q)
  ticks_by q k to found (inl tick) =
      let e : Event = found.e in
      let lane : e.lane ≡ k = sym (same_lane k e.lane (what.Tick to) (what.Tick tick.to) tick.is) in
      let same : tick.to ≡ to = sym (same_tick k e.lane to tick.to tick.is) in
      let stands = tick.stands in (
        before_in e.lane found.j events,
        e.item,
        e.outcome,
        subst (λ (m : ℕ). IsLine lanes m (before_in e.lane found.j events) e.item e.outcome) lane (line_back found.j e found.at),
        subst (λ (n : ℕ). ComesAt n e.item) same tick.comes,
        omega (arith, stands),
        firsts_of (length s.entries + q) found.j e k found.at lane tick.firsts,
      )
  ticks_by q k to found (inr own) = absurd (tick_entry k to found.e.lane found.e.item found.e.outcome.said own.is)

  -- ---- all of it

  pub in_history : list_all is_done lanes ≡ true → AreInHistory low high s lanes entries
  in_history all = record {
    whole = λ n lane found. done_at lanes n lane all found;
    within = λ k n i o line. let l = line_of k n i o line in
        of_line k n i o (λ k i o. (length s.entries ≤ o.position) × (o.position ≤ length s.entries + length entries)) l ((place l.j l.e l.at).low_end, (place l.j l.e l.at).high_end);
    ordered = λ k n m i x o p one two less.
        let a = line_of k n i o one in
        let b = line_of k m x p two in
        of_line k n i o (λ k i y. y.position ≤ p.position) a (of_line k m x p (λ k i y. a.e.outcome.position ≤ y.position) b (pair_lines k n m i x o p a b less).ordered);
    after_own = λ k n m i x o p one two less accepts.
        let a = line_of k n i o one in
        let b = line_of k m x p two in
        of_line k n i o (λ k i y. y.position < p.position) a (of_line k m x p (λ k i y. a.e.outcome.position < y.position) b ((pair_lines k n m i x o p a b less).own (to_line k n i o AcceptsAt a accepts)));
    answered = λ k n i o line. let l = line_of k n i o line in
        of_line k n i o (λ k i o. IsSaidIn low high k (prefix s entries o.position) i o.said) l (place l.j l.e l.at).says;
    own = λ k n i o line accepts. let l = line_of k n i o line in
        of_line k n i o (λ k i o. Owns s entries k i o) l ((place l.j l.e l.at).owns (to_line k n i o AcceptsAt l accepts));
    owned = λ q k call reply at. let found = origin low s turns high entries q (entry k (what.Asked call reply)) merged.counted ends_grown at in owned_by q k call reply found found.comes;
    alone = λ k m n p i x o r one two accepts accepts' same. the_alone k m n p i x o r (line_of k n i o one) (line_of m p x r two) accepts accepts' same;
    ticks = λ q k to at. let found = origin low s turns high entries q (entry k (what.Tick to)) merged.counted ends_grown at in ticks_by q k to found found.comes;
    counts_rise = λ k n m i x o p a b one two less is is'.
        let l = line_of k n i o one in
        let l' = line_of k m x p two in
        (pair_lines k n m i x o p l l' less).counts a b (to_line k n i o (Carries a) l is) (to_line k m x p (Carries b) l' is');
    counts_differ = λ k m n p c i x o r one two is is'. the_counts k m n p c i x o r (line_of k n i o one) (line_of m p x r two) is is';
  }

-- Lanes that are merged, all of whose items have their outcomes, are in one history by their positions
pub one_history : (first last : KeptAt) (opening s t : State) (lanes : List LaneShown) → (merged : AreMerged first last s lanes t) → IsBoard opening s → list_all is_done lanes ≡ true
    → AreOneHistory first.faults last.faults s lanes t
one_history first last opening s t lanes merged board all =
    let g : Grows s (after_turns s merged.turns) = turns_grow first.faults s merged.turns last.faults merged.counted in
    let grown : t.entries ≡ s.entries ++ g.entries = ap (λ (u : State). u.entries) merged.state ∙ g.grown in
    record {
      entries = g.entries;
      grown = grown;
      legal = subst (λ (u : State). Legal s g.entries u) (sym merged.state) g.legal;
      merged = in_history first last opening s t lanes merged board merged.askable g.entries grown all;
    }

pub whole_history : (whole : Bool) (first last : KeptAt) (opening s t : State) (lanes : List LaneShown) → IsBoard opening s → OnTrue whole (AreMerged first last s lanes t) → OnTrue whole (list_all is_done lanes ≡ true)
    → OnTrue whole (AreOneHistory first.faults last.faults s lanes t)
whole_history true first last opening s t lanes board merged all = one_history first last opening s t lanes merged board all
whole_history false first last opening s t lanes board merged all = tt

-- the same where the keeper's faults are counted from before
pub history_lower : (less low high : ℕ) (s t : State) (lanes : List LaneShown) → less ≤ low → AreOneHistory low high s lanes t → AreOneHistory less high s lanes t
history_lower less low high s t lanes under h = record {
  entries = h.entries;
  grown = h.grown;
  legal = h.legal;
  merged = record {
    whole = h.merged.whole;
    within = h.merged.within;
    ordered = h.merged.ordered;
    after_own = h.merged.after_own;
    answered = λ k n i o line. wider_said low high less high k (prefix s h.entries o.position) i o.said under (omega arith) (h.merged.answered k n i o line);
    own = h.merged.own;
    owned = h.merged.owned;
    alone = h.merged.alone;
    ticks = h.merged.ticks;
    counts_rise = h.merged.counts_rise;
    counts_differ = h.merged.counts_differ;
  };
}
