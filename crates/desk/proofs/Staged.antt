-- Each turn of lanes in the state that the turns before it left, and the entries that it adds.
use Rattle.std.proofs.Common.{◌≡◌, ℕ, zero, suc, ◌+◌, ◌-◌, ◌<◌, ◌≤◌, ◌⊎◌, inl, inr, Bool, true, false, List, [], ◌∷◌, ◌++◌, length, map, append-nil, length-append, Some, refl, ap, sym, ◌∙◌, subst, arith}
use Rattle.std.specs.Prelude.{nat_lt, slice_get}
use Rattle.std.specs.List.{AllByRecursion, concat}
use Rattle.std.proofs.lemmas.Bool.Decides.{nat_tests}
use Rattle.std.proofs.lemmas.List.{append_cancel_left}
use Rattle.desk_state.specs.Repeats.{IsAskable}
use Rattle.desk_state.specs.Sound.{IsBoard}
use Rattle.desk_state.specs.State.{State}
use Rattle.desk_state.specs.Step.{entry}
use Rattle.desk_state.specs.declared.entry.Entry.{Entry}
use Rattle.desk_state.specs.declared.entry.What.TheVariants as what
use Rattle.desk.proofs.Choices.{rise_within}
use Rattle.desk.proofs.Growing.{Grows, Did, IsMade, TickedTo, did, grows_none, grows_on, grows_long, grows_mid, grows_made, grows_item, grown_on, entries_are, get_past, get_front}
use Rattle.desk.proofs.Lines.{some_is}
use Rattle.desk.specs.Keeping.{Choice, Counted, Rise, Given, numbers_of}
use Rattle.desk.specs.Merge.{Turn, Event, turn_given, event_of, after_turns, events_of, choices_of, IsAmong}
use Rattle.desk.specs.Positions.{Accepts, IsEntryOf, ComesAt}

-- ---- the counts of each turn

rise_split : (low : ℕ) (xs ys : List ℕ) (high : ℕ) → Rise low (xs ++ ys) high → (m : ℕ) × Rise low xs m × Rise m ys high
rise_split low [] ys high rise = (low, omega arith, rise)
rise_split low (x ∷ xs) ys high rise = let rest = rise_split x xs ys high rise.1 in (rest.0, (rise.0, rest.1), rest.2)

counts_split : (low : ℕ) (c : Choice) (cs : List Choice) (high : ℕ) → Counted low (c ∷ cs) high → (m : ℕ) × Counted low (c ∷ []) m × Counted m cs high
counts_split low c cs high counted =
    let parts = rise_split low (numbers_of c) (concat (map numbers_of cs)) high counted in
    (parts.0, subst (λ (ns : List ℕ). Rise low ns parts.0) (sym (append-nil (numbers_of c))) parts.1, parts.2)

-- ---- all turns

pub turns_grow : (low : ℕ) (s : State) (turns : List Turn) (high : ℕ) → Counted low (choices_of turns) high → Grows s (after_turns s turns)
turns_grow low s [] high counted = grows_none s s refl
turns_grow low s (t ∷ turns) high counted =
    let parts = counts_split low t.choice (choices_of turns) high counted in
    grows_on s (turn_given s t).state (after_turns (turn_given s t).state turns)
    (grows_item low parts.0 t.lane s t.item (turn_given s t) (did low parts.0 t.lane s t.item t.choice parts.1))
    (turns_grow parts.0 (turn_given s t).state turns high parts.2)

-- a turn whose item may be asked
abbrev pub CanBeTaken : Turn → Type 0
CanBeTaken turn = IsAskable turn.item

-- a turn at its place
pub record Stage (low : ℕ) (s : State) (turns : List Turn) (high : ℕ) (j : ℕ) (e : Event) : Type 0 where
  pub here : State
  pub turn : Turn
  pub rest : List Turn
  pub first : ℕ
  pub last : ℕ
  pub is : e ≡ event_of here turn
  pub before : Grows s here
  pub under : low ≤ first
  pub counted : Counted first (turn.choice ∷ []) last
  pub later : Counted last (choices_of rest) high
  pub ends : after_turns s turns ≡ after_turns (turn_given here turn).state rest
  pub left : (i k : ℕ) → k ≡ suc (j + i) → slice_get (events_of s turns) k ≡ slice_get (events_of (turn_given here turn).state rest) i
  pub among : (count : ℕ) → AllByRecursion (IsAmong count) turns → IsAmong count turn
  pub askable : AllByRecursion CanBeTaken turns → CanBeTaken turn × AllByRecursion CanBeTaken rest
  pub board : (opening : State) → IsBoard opening s → AllByRecursion CanBeTaken turns → IsBoard opening here

stage_first : (low : ℕ) (s : State) (t : Turn) (turns : List Turn) (high : ℕ) (e : Event) → Counted low (choices_of (t ∷ turns)) high → Some (event_of s t) ≡ Some e → Stage low s (t ∷ turns) high 0 e
stage_first low s t turns high e counted same =
    let parts = counts_split low t.choice (choices_of turns) high counted in
    record {
      here = s;
      turn = t;
      rest = turns;
      first = low;
      last = parts.0;
      is = sym (some_is (event_of s t) e same);
      before = grows_none s s refl;
      under = omega arith;
      counted = parts.1;
      later = parts.2;
      ends = refl;
      left = λ i k is. ap (slice_get (events_of s (t ∷ turns))) (first_left i k is);
      among = λ count all. all.0;
      askable = λ all. (all.0, all.1);
      board = λ opening board askable. board;
    }
  where
    first_left : (i k : ℕ) → k ≡ suc (0 + i) → k ≡ suc i
    first_left i k is = omega (arith, is)

stage_later : (low m : ℕ) (s : State) (t : Turn) (turns : List Turn) (high j : ℕ) (e : Event) → Counted low (t.choice ∷ []) m → Stage m (turn_given s t).state turns high j e
    → Stage low s (t ∷ turns) high (suc j) e
stage_later low m s t turns high j e counted stage =
    let d : Did low m t.lane s t.item (turn_given s t) = did low m t.lane s t.item t.choice counted in
    let over = rise_within low (concat (map numbers_of (t.choice ∷ []))) m counted in
    let under = stage.under in
    record {
      here = stage.here;
      turn = stage.turn;
      rest = stage.rest;
      first = stage.first;
      last = stage.last;
      is = stage.is;
      before = grows_on s (turn_given s t).state stage.here (grows_item low m t.lane s t.item (turn_given s t) d) stage.before;
      under = omega (arith, over, under);
      counted = stage.counted;
      later = stage.later;
      ends = stage.ends;
      left = λ i k is. later_left i k is;
      among = λ count all. stage.among count all.1;
      askable = λ all. stage.askable all.1;
      board = λ opening board askable. stage.board opening (d.keeps opening board askable.0) askable.1;
    }
  where
    later_left : (i k : ℕ) → k ≡ suc (suc j + i) → slice_get (events_of s (t ∷ turns)) k ≡ slice_get (events_of (turn_given stage.here stage.turn).state stage.rest) i
    later_left i zero is = absurd (omega (arith, is))
    later_left i (suc k) is = stage.left i k (omega (arith, is))

pub stage : (low : ℕ) (s : State) (turns : List Turn) (high j : ℕ) (e : Event) → Counted low (choices_of turns) high → slice_get (events_of s turns) j ≡ Some e → Stage low s turns high j e
stage low s [] high j e counted at = absurd (cc)
stage low s (t ∷ turns) high zero e counted at = stage_first low s t turns high e counted at
stage low s (t ∷ turns) high (suc j) e counted at =
    let parts = counts_split low t.choice (choices_of turns) high counted in
    stage_later low parts.0 s t turns high j e parts.1 (stage parts.0 (turn_given s t).state turns high j e parts.2 at)

-- what the turn at a place does
pub staged : (low : ℕ) (s : State) (turns : List Turn) (high j : ℕ) (e : Event) → (g : Stage low s turns high j e) → Did g.first g.last g.turn.lane g.here g.turn.item (turn_given g.here g.turn)
staged low s turns high j e g = did g.first g.last g.turn.lane g.here g.turn.item g.turn.choice g.counted

-- ---- where an entry comes from

-- the entry of a tick, which stands at a position: the item that comes after it, before which no outcome stands later
pub record OfTick (s : State) (turns : List Turn) (position : ℕ) (x : Entry) (j : ℕ) (e : Event) : Type 0 where
  pub to : ℕ
  pub is : x ≡ entry e.lane (what.Tick to)
  pub comes : ComesAt to e.item
  pub stands : e.outcome.position ≡ position + 1
  pub firsts : (i : ℕ) (p : Event) → slice_get (events_of s turns) i ≡ Some p → i < j → p.outcome.position ≤ position

-- the entry of an accepted call
pub record OfCall (s : State) (turns : List Turn) (position : ℕ) (x : Entry) (e : Event) : Type 0 where
  pub here : State
  pub before : Grows s here
  pub after : Grows here (after_turns s turns)
  pub long : position ≡ length here.entries
  pub stands : e.outcome.position ≡ position
  pub accepts : Accepts e.lane here e.item e.outcome.said
  pub is : IsEntryOf x e.lane e.item e.outcome.said

pub record Origin (s : State) (turns : List Turn) (position : ℕ) (x : Entry) : Type 0 where
  pub j : ℕ
  pub e : Event
  pub at : slice_get (events_of s turns) j ≡ Some e
  pub comes : OfTick s turns position x j e ⊎ OfCall s turns position x e

one_entry : (xs : List Entry) (y : Entry) (q : ℕ) (x : Entry) → xs ≡ y ∷ [] → slice_get xs q ≡ Some x → (q ≡ 0) × (x ≡ y)
one_entry xs y q x is at = by q (sym (ap (λ es. slice_get es q) is) ∙ at)
  where
    by : (q : ℕ) → slice_get (y ∷ []) q ≡ Some x → (q ≡ 0) × (x ≡ y)
    by zero at = (refl, sym (some_is y x at))
    by (suc q) at = absurd (cc)

none_entry : (xs : List Entry) (q : ℕ) (x : Entry) → xs ≡ [] → slice_get xs q ≡ Some x → ⊥
none_entry xs q x is at = absurd (by (sym (ap (λ es. slice_get es q) is) ∙ at))
  where
    by : slice_get [] q ≡ Some x → ⊥
    by at = absurd (cc)

adds_none : (s t : State) (es : List Entry) → t ≡ s → t.entries ≡ s.entries ++ es → es ≡ []
adds_none s t es is grown = append_cancel_left s.entries es [] (sym grown ∙ (ap (λ (u : State). u.entries) is ∙ sym (append-nil s.entries)))

adds_this : (s t : State) (es : List Entry) (e : Entry) → t.entries ≡ s.entries ++ e ∷ [] → t.entries ≡ s.entries ++ es → es ≡ e ∷ []
adds_this s t es e one grown = append_cancel_left s.entries es (e ∷ []) (sym grown ∙ one)

module _ (low m : ℕ) (s : State) (t : Turn) (turns : List Turn) (high : ℕ) (counted : Counted low (t.choice ∷ []) m) (later : Counted m (choices_of turns) high) where
  abbrev gave : Given
  gave = turn_given s t

  does : Did low m t.lane s t.item gave
  does = did low m t.lane s t.item t.choice counted

  rest_grows : Grows gave.state (after_turns gave.state turns)
  rest_grows = turns_grow m gave.state turns high later

  tick_origin : (mid : State) (es : List Entry) (q : ℕ) (x : Entry) → gave.outcome.position ≡ length mid.entries → (mid ≡ s) ⊎ TickedTo t.lane t.item s mid → mid.entries ≡ s.entries ++ es → slice_get es q ≡ Some x
      → Origin s (t ∷ turns) (length s.entries + q) x
  tick_origin mid es q x position (inl is) grown at = absurd (none_entry es q x (adds_none s mid es is grown) at)
  tick_origin mid es q x position (inr ticked) grown at =
      let one = one_entry es (entry t.lane (what.Tick ticked.to)) q x (adds_this s mid es (entry t.lane (what.Tick ticked.to)) ticked.grown grown) at in
      let long = ap length ticked.grown ∙ length-append s.entries (entry t.lane (what.Tick ticked.to) ∷ []) in
      let zero_is = one.0 in
      record {
        j = 0;
        e = event_of s t;
        at = refl;
        comes = inl (record { to = ticked.to; is = one.1; comes = ticked.comes; stands = omega (arith, position, long, zero_is); firsts = λ i p at less. absurd (omega (arith, less)) });
      }

  call_origin : (mid : State) (es : List Entry) (q : ℕ) (x : Entry) → Grows s mid → gave.outcome.position ≡ length mid.entries → IsMade t.lane t.item gave.outcome.said mid gave.state → gave.state.entries ≡ mid.entries ++ es
      → slice_get es q ≡ Some x → Origin s (t ∷ turns) (length mid.entries + q) x
  call_origin mid es q x before position (inl still) grown at = absurd (none_entry es q x (adds_none mid gave.state es still.0 grown) at)
  call_origin mid es q x before position (inr own) grown at =
      let one = one_entry es own.1.e q x (adds_this mid gave.state es own.1.e own.1.grown grown) at in
      let zero_is = one.0 in
      record {
        j = 0;
        e = event_of s t;
        at = refl;
        comes = inr (record {
          here = mid;
          before = before;
          after = grows_on mid gave.state (after_turns gave.state turns) (grows_made t.lane t.item gave.outcome.said mid gave.state (inr own)) rest_grows;
          long = omega (arith, zero_is);
          stands = omega (arith, position, zero_is);
          accepts = own.0;
          is = subst (λ (y : Entry). IsEntryOf y t.lane t.item gave.outcome.said) (sym one.1) own.1.its;
        });
      }

  -- an entry that this turn adds
  own_origin : (q : ℕ) (x : Entry) (es fs : List Entry) → does.mid.entries ≡ s.entries ++ es → gave.state.entries ≡ does.mid.entries ++ fs → slice_get (es ++ fs) q ≡ Some x
      → Origin s (t ∷ turns) (length s.entries + q) x
  own_origin q x es fs one two at = by (nat_lt q (length es)) refl
    where
      by : (b : Bool) → nat_lt q (length es) ≡ b → Origin s (t ∷ turns) (length s.entries + q) x
      by true less =
          let under : q < length es = grind (arith, nat_tests, less) in
          tick_origin does.mid es q x does.position does.ticked one (sym (get_front es fs q under) ∙ at)
      by false past =
          let over : length es ≤ q = grind (arith, nat_tests, past) in
          let k : ℕ = q - length es in
          let is : q ≡ length es + k = omega (arith, over) in
          let long = ap length one ∙ length-append s.entries es in
          let same : length does.mid.entries + k ≡ length s.entries + q = omega (arith, long, is) in
          subst (λ (n : ℕ). Origin s (t ∷ turns) n x) same
          (call_origin does.mid fs k x (grows_mid low m t.lane s t.item gave does) does.position does.made two (sym (get_past es fs k q is) ∙ at))

  -- an entry that a later one adds
  later_origin : (position : ℕ) (x : Entry) → length gave.state.entries ≤ position → Origin gave.state turns position x → Origin s (t ∷ turns) position x
  later_origin position x over origin = record { j = suc origin.j; e = origin.e; at = origin.at; comes = by origin.comes }
    where
      firsts : OfTick gave.state turns position x origin.j origin.e → (i : ℕ) (p : Event) → slice_get (events_of s (t ∷ turns)) i ≡ Some p → i < suc origin.j → p.outcome.position ≤ position
      firsts tick zero p at less =
          let is : event_of s t ≡ p = some_is (event_of s t) p at in
          let long = grows_long does.mid gave.state (grows_made t.lane t.item gave.outcome.said does.mid gave.state does.made) in
          let stands : p.outcome.position ≡ length does.mid.entries = sym (ap (λ (y : Event). y.outcome.position) is) ∙ does.position in
          omega (arith, long, stands, over)
      firsts tick (suc i) p at less = tick.firsts i p at (omega (arith, less))

      by : OfTick gave.state turns position x origin.j origin.e ⊎ OfCall gave.state turns position x origin.e → OfTick s (t ∷ turns) position x (suc origin.j) origin.e ⊎ OfCall s (t ∷ turns) position x origin.e
      by (inl tick) = inl (record { to = tick.to; is = tick.is; comes = tick.comes; stands = tick.stands; firsts = firsts tick })
      by (inr own) = inr (record {
        here = own.here;
        before = grows_on s gave.state own.here (grows_item low m t.lane s t.item gave does) own.before;
        after = own.after;
        long = own.long;
        stands = own.stands;
        accepts = own.accepts;
        is = own.is;
      })

  origin_by : (b : Bool) (es fs : List Entry) (q : ℕ) (x : Entry) → does.mid.entries ≡ s.entries ++ es → gave.state.entries ≡ does.mid.entries ++ fs → nat_lt q (length (es ++ fs)) ≡ b
      → slice_get ((es ++ fs) ++ rest_grows.entries) q ≡ Some x
      → ((more : List Entry) (k : ℕ) → (after_turns gave.state turns).entries ≡ gave.state.entries ++ more → slice_get more k ≡ Some x → Origin gave.state turns (length gave.state.entries + k) x)
      → Origin s (t ∷ turns) (length s.entries + q) x
  origin_by true es fs q x one two less at rest =
      let under : q < length (es ++ fs) = grind (arith, nat_tests, less) in
      own_origin q x es fs one two (sym (get_front (es ++ fs) rest_grows.entries q under) ∙ at)
  origin_by false es fs q x one two past at rest =
      let over : length (es ++ fs) ≤ q = grind (arith, nat_tests, past) in
      let k : ℕ = q - length (es ++ fs) in
      let is : q ≡ length (es ++ fs) + k = omega (arith, over) in
      let grown : gave.state.entries ≡ s.entries ++ (es ++ fs) = grown_on s does.mid gave.state es fs one two in
      let long = ap length grown ∙ length-append s.entries (es ++ fs) in
      let same : length gave.state.entries + k ≡ length s.entries + q = omega (arith, long, is) in
      let found : Origin gave.state turns (length gave.state.entries + k) x = rest rest_grows.entries k rest_grows.grown (sym (get_past (es ++ fs) rest_grows.entries k q is) ∙ at) in
      later_origin (length s.entries + q) x (omega (arith, long, over)) (subst (λ (n : ℕ). Origin gave.state turns n x) same found)

  origin_step : (entries : List Entry) (q : ℕ) (x : Entry) → (after_turns gave.state turns).entries ≡ s.entries ++ entries → slice_get entries q ≡ Some x
      → ((more : List Entry) (k : ℕ) → (after_turns gave.state turns).entries ≡ gave.state.entries ++ more → slice_get more k ≡ Some x → Origin gave.state turns (length gave.state.entries + k) x)
      → Origin s (t ∷ turns) (length s.entries + q) x
  origin_step entries q x all at rest =
      let one : Grows s does.mid = grows_mid low m t.lane s t.item gave does in
      let two : Grows does.mid gave.state = grows_made t.lane t.item gave.outcome.said does.mid gave.state does.made in
      let own : gave.state.entries ≡ s.entries ++ (one.entries ++ two.entries) = grown_on s does.mid gave.state one.entries two.entries one.grown two.grown in
      let same : entries ≡ (one.entries ++ two.entries) ++ rest_grows.entries =
      entries_are s gave.state (after_turns gave.state turns) entries (one.entries ++ two.entries) rest_grows.entries own rest_grows.grown all in
      origin_by (nat_lt q (length (one.entries ++ two.entries))) one.entries two.entries q x one.grown two.grown refl (sym (ap (λ (xs : List Entry). slice_get xs q) same) ∙ at) rest

-- each entry that turns add comes from one of them
pub origin : (low : ℕ) (s : State) (turns : List Turn) (high : ℕ) (entries : List Entry) (q : ℕ) (x : Entry) → Counted low (choices_of turns) high → (after_turns s turns).entries ≡ s.entries ++ entries
    → slice_get entries q ≡ Some x → Origin s turns (length s.entries + q) x
origin low s [] high entries q x counted all at = absurd (none_entry entries q x (adds_none s s entries refl all) at)
origin low s (t ∷ turns) high entries q x counted all at =
    let parts = counts_split low t.choice (choices_of turns) high counted in
    origin_step low parts.0 s t turns high parts.1 parts.2 entries q x all at (λ more k grown found. origin parts.0 (turn_given s t).state turns high more k x parts.2 grown found)
