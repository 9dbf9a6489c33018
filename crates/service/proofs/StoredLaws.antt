-- The events of a call are those of its commits.
use Rattle.std.proofs.Common.{◌≡◌, ℕ, ◌≤◌, nat_lt, Bool, true, false, List, [], ◌∷◌, ◌++◌, length, length-append, Option, None, Some, refl, sym, ap, ◌∙◌, subst, arith, append_assoc, append-nil, ltb-true}
use Rattle.std.proofs.lemmas.Bool.{le-ltb, lt-ltb}
use Rattle.std.proofs.lemmas.List.{map-append}
use Rattle.asks.specs.declared.call.Call.{Call}
use Rattle.asks.specs.declared.reply.Reply.{Reply}
use Rattle.desk.specs.Keeping.{Choice, adds, answer_with, asked_by, asked_if, asked_once, asked_with, kept_or, made_by, made_with, once_ticked, ticked_with, unkept_if}
use Rattle.desk.specs.Saved.{Saves, stored_in}
use Rattle.desk_state.proofs.Boards.{tick_board}
use Rattle.desk_state.specs.Sound.{IsBoard}
use Rattle.desk_state.specs.State.{State}
use Rattle.desk_state.specs.Step.{Stepped, answer_call, tick_to}
use Rattle.desk_state.specs.declared.entry.Entry.{Entry}
use Rattle.desk_time.specs.Limits.{IsMoment}
use Rattle.keeper.specs.declared.account.AccountEntry.{AccountEntry}
use Rattle.keeper.specs.declared.account.AccountEntry.TheVariants.{Load, Commit}
use Rattle.keeper.specs.declared.account.Outcome.TheVariants.{Done, Refused, Unknown}
use Rattle.service.proofs.DeskLaws.{answered_calls, call_tells_none, kept_has, number_in, once_calls, said_tells, tick_tells_none, tick_ticks}
use Rattle.service.specs.Events.{AreStored, at_answer, at_entry, at_miss, ended, entered, missed, without_clock, without_reply}
use Rattle.service.specs.Turns.{missed_with, unkept_in}
use Rattle.service.specs.declared.events.Event.{Event}

-- ---- events one after another

pub stored_both : {xs ys : List Event} {f g : List Bool} → AreStored xs f → AreStored ys g → AreStored (xs ++ ys) (f ++ g)
stored_both ended more = more
stored_both (at_answer one) more = at_answer (stored_both one more)
stored_both (at_entry one) more = at_entry (stored_both one more)
stored_both (at_miss is one) more = at_miss is (stored_both one more)
stored_both (without_clock is one) more = without_clock is (stored_both one more)
stored_both (without_reply one) more = without_reply (stored_both one more)

pub stored_as : (xs ys : List Event) (f g : List Bool) → xs ≡ ys → f ≡ g → AreStored xs f → AreStored ys g
stored_as xs ys f g one two are = subst (λ (l : List Event). AreStored l g) one (subst (AreStored xs) two are)

-- ---- entries by an account

none_more : (xs more : List Entry) → length (xs ++ more) ≤ length xs → more ≡ []
none_more xs [] few = refl
none_more xs (e ∷ more) few = absurd (let long = length-append xs (e ∷ more) in omega (arith, long, few))

cancel : (xs one two : List Entry) → xs ++ one ≡ xs ++ two → one ≡ two
cancel [] one two same = same
cancel (x ∷ xs) one two same = cancel xs one two (cc)

-- the history only grows
saves_grow : (s : State) (asked : List AccountEntry) (t : State) → Saves s asked t → (more : List Entry) × (t.entries ≡ s.entries ++ more)
saves_grow s [] t saves = ([], ap (λ (u : State). u.entries) saves ∙ sym (append-nil s.entries))
saves_grow s (Load rows ∷ asked) t saves = absurd saves
saves_grow s (Commit changes Done ∷ asked) t saves =
    let later = saves_grow saves.0 asked t saves.2 in
    (saves.1.entry ∷ later.0, later.1 ∙ ap (λ es. es ++ later.0) saves.1.entered ∙ append_assoc s.entries (saves.1.entry ∷ []) later.0)
saves_grow s (Commit changes Refused ∷ asked) t saves = saves_grow s asked t saves.1
saves_grow s (Commit changes Unknown ∷ asked) t saves = saves_grow s asked t saves.1

-- where no reply tells of a commit that failed
pub saves_stored : (s : State) (asked : List AccountEntry) (t : State) (more : List Entry) → Saves s asked t → t.entries ≡ s.entries ++ more → AreStored (entered more) (stored_in asked)
saves_stored s [] t more saves grown =
    let none : more ≡ [] = cancel s.entries more [] (sym grown ∙ ap (λ (u : State). u.entries) saves ∙ sym (append-nil s.entries)) in
    stored_as (entered []) (entered more) [] [] (ap entered (sym none)) refl ended
saves_stored s (Load rows ∷ asked) t more saves grown = absurd saves
saves_stored s (Commit changes Done ∷ asked) t more saves grown =
    let later = saves_grow saves.0 asked t saves.2 in
    let all : t.entries ≡ s.entries ++ (saves.1.entry ∷ later.0) = later.1 ∙ ap (λ es. es ++ later.0) saves.1.entered ∙ append_assoc s.entries (saves.1.entry ∷ []) later.0 in
    let same : saves.1.entry ∷ later.0 ≡ more = cancel s.entries (saves.1.entry ∷ later.0) more (sym all ∙ grown) in
    stored_as (entered (saves.1.entry ∷ later.0)) (entered more) (true ∷ stored_in asked) (true ∷ stored_in asked) (ap entered same) refl
    (at_entry (saves_stored saves.0 asked t later.0 saves.2 later.1))
saves_stored s (Commit changes Refused ∷ asked) t more saves grown = without_reply (saves_stored s asked t more saves.1 grown)
saves_stored s (Commit changes Unknown ∷ asked) t more saves grown = without_reply (saves_stored s asked t more saves.1 grown)

-- ---- one step

-- at most one entry comes of a step
pub record AddsFew (s : State) (t : Stepped) : Type 0 where
  pub more : List Entry
  pub grown : t.state.entries ≡ s.entries ++ more
  pub few : length more ≤ 1

adds_none : (s : State) (t : Stepped) → t.state.entries ≡ s.entries ++ [] → adds s t ≡ false
adds_none s t grown =
    let same : length t.state.entries ≡ length s.entries = ap length grown ∙ ap length (append-nil s.entries) in
    le-ltb (length s.entries) (length t.state.entries) (omega (arith, same))

adds_some : (s : State) (t : Stepped) (e : Entry) → t.state.entries ≡ s.entries ++ e ∷ [] → adds s t ≡ true
adds_some s t e grown =
    let long = length-append s.entries (e ∷ []) in
    let same : length t.state.entries ≡ length (s.entries ++ e ∷ []) = ap length grown in
    lt-ltb (length s.entries) (length t.state.entries) (omega (arith, same, long))

step_made : (lane : ℕ) (s : State) (t : Stepped) (more : List Entry) → t.state.entries ≡ s.entries ++ more → length more ≤ 1 → number_in t.reply ≡ None
    → AreStored (entered more ++ missed (missed_with lane (number_in t.reply))) (asked_if (adds s t) None)
step_made lane s t [] grown few none =
    stored_as [] (missed (missed_with lane (number_in t.reply))) [] (asked_if (adds s t) None)
    (ap (λ (o : Option ℕ). missed (missed_with lane o)) (sym none)) (ap (λ (b : Bool). asked_if b None) (sym (adds_none s t grown))) ended
step_made lane s t (e ∷ []) grown few none =
    stored_as (entered (e ∷ [])) (entered (e ∷ []) ++ missed (missed_with lane (number_in t.reply))) (true ∷ []) (asked_if (adds s t) None)
    (ap (λ (o : Option ℕ). entered (e ∷ []) ++ missed (missed_with lane o)) (sym none)) (ap (λ (b : Bool). asked_if b None) (sym (adds_some s t e grown))) (at_entry ended)
step_made lane s t (e ∷ f ∷ more) grown few none = absurd (omega (arith, few))

step_by : (b : Bool) (n lane : ℕ) (s : State) (t : Stepped) (more : List Entry) → adds s t ≡ b → (unkept_if b n s t).state.entries ≡ s.entries ++ more → AddsFew s t → number_in t.reply ≡ None
    → AreStored (entered more ++ missed (missed_with lane (number_in (unkept_if b n s t).reply))) (asked_if b (Some n))
step_by true n lane s t more is grown adds_few none =
    let nothing : more ≡ [] = cancel s.entries more [] (sym grown ∙ sym (append-nil s.entries)) in
    stored_as (missed (missed_with lane (Some n))) (entered more ++ missed (missed_with lane (Some n))) (false ∷ []) (false ∷ [])
    (ap (λ es. entered es ++ missed (missed_with lane (Some n))) (sym nothing)) refl (at_miss refl ended)
step_by false n lane s t more is grown adds_few none = by adds_few.more adds_few.grown adds_few.few
  where
    by : (other : List Entry) → t.state.entries ≡ s.entries ++ other → length other ≤ 1 → AreStored (entered more ++ missed (missed_with lane (number_in t.reply))) []
    by [] same few =
        let nothing : more ≡ [] = cancel s.entries more [] (sym grown ∙ same) in
        stored_as [] (entered more ++ missed (missed_with lane (number_in t.reply))) [] []
        (ap (λ (o : Option ℕ). missed (missed_with lane o)) (sym none) ∙ ap (λ es. entered es ++ missed (missed_with lane (number_in t.reply))) (sym nothing)) refl ended
    by (e ∷ []) same few = absurd (let some = adds_some s t e same in cc)
    by (e ∷ f ∷ other) same few = absurd (omega (arith, few))

-- a step that is kept, or isn't
step_stored : (fault : Option ℕ) (lane : ℕ) (s : State) (t : Stepped) (more : List Entry) → (kept_or fault s t).state.entries ≡ s.entries ++ more → length more ≤ 1 → AddsFew s t → number_in t.reply ≡ None
    → AreStored (entered more ++ missed (missed_with lane (number_in (kept_or fault s t).reply))) (asked_if (adds s t) fault)
step_stored None lane s t more grown few adds_few none = step_made lane s t more grown few none
step_stored (Some n) lane s t more grown few adds_few none = step_by (adds s t) n lane s t more refl grown adds_few none

call_few : (lane : ℕ) (s : State) (call : Call) → AddsFew s (answer_call s lane call)
call_few lane s call = let calls = answered_calls lane s call in record { more = calls.more; grown = calls.grown; few = calls.few }

tick_few : (lane at : ℕ) (s : State) → AddsFew s (tick_to s lane at)
tick_few lane at s = let ticks = tick_ticks lane at s in record { more = ticks.more; grown = ticks.grown; few = ticks.few }

-- ---- a call after its tick

once_stored : (reply : Option Reply) (fault : Option ℕ) (lane : ℕ) (mid : State) (call : Call) (first second : List Entry) (commits : List Bool)
    → AreStored (entered first ++ missed (missed_with lane (number_in reply))) commits → number_in (answer_call mid lane call).reply ≡ None → length second ≤ 1
    → (once_ticked fault lane reply mid call).state.entries ≡ mid.entries ++ second
    → AreStored (entered (first ++ second) ++ missed (missed_with lane (number_in (once_ticked fault lane reply mid call).reply))) (commits ++ asked_once reply fault lane mid call)
once_stored None fault lane mid call first second commits ticked none few grown =
    let tail : List Event = missed (missed_with lane (number_in (made_with fault lane mid call).reply)) in
    let made = step_stored fault lane mid (answer_call mid lane call) second grown few (call_few lane mid call) none in
    let flags : List Bool = asked_if (adds mid (answer_call mid lane call)) fault in
    stored_as ((entered first ++ []) ++ (entered second ++ tail)) (entered (first ++ second) ++ tail) (commits ++ flags) (commits ++ flags)
    (ap (λ l. l ++ (entered second ++ tail)) (append-nil (entered first))
    ∙ sym (append_assoc (entered first) (entered second) tail)
    ∙ ap (λ l. l ++ tail) (sym (map-append _ first second)))
    refl (stored_both ticked made)
once_stored (Some reply) fault lane mid call first second commits ticked none few grown =
    let nothing : second ≡ [] = cancel mid.entries second [] (sym grown ∙ sym (append-nil mid.entries)) in
    let tail : List Event = missed (missed_with lane (number_in (Some reply))) in
    stored_as (entered first ++ tail) (entered (first ++ second) ++ tail) commits (commits ++ [])
    (ap (λ es. entered es ++ tail) (sym (append-nil first)) ∙ ap (λ es. entered (first ++ es) ++ tail) (sym nothing))
    (sym (append-nil commits)) ticked

module _ (opening s : State) (c : Choice) (lane at : ℕ) (call : Call) (board : IsBoard opening s) (moment : IsMoment at) where
  by_tick : (later : Bool) → nat_lt s.moment at ≡ later → (es : List Entry) → (made_by later c lane s at call).state.entries ≡ s.entries ++ es
      → AreStored (entered es ++ missed (missed_with lane (unkept_in (made_by later c lane s at call).outcome.said))) (asked_by later c lane s at call)
  by_tick true is es grown =
      let t = ticked_with c.tick lane s at in
      let r = once_ticked c.call lane t.reply t.state call in
      let ticked_board = kept_has (IsBoard opening) c.tick s (tick_to s lane at) board (tick_board opening s lane at board (ltb-true s.moment at is) moment.1) in
      let few_ticks = tick_few lane at s in
      let first = ticks_in c.tick (tick_to s lane at) few_ticks in
      let second = once_calls c.call lane t.reply t.state call in
      let one = step_stored c.tick lane s (tick_to s lane at) first.more first.grown first.few few_ticks (tick_tells_none s lane at) in
      let two = once_stored t.reply c.call lane t.state call first.more second.more (asked_if (adds s (tick_to s lane at)) c.tick) one (call_tells_none opening t.state lane call ticked_board) second.few second.grown in
      let same : first.more ++ second.more ≡ es =
      cancel s.entries (first.more ++ second.more) es
      (sym (second.grown ∙ ap (λ l. l ++ second.more) first.grown ∙ append_assoc s.entries first.more second.more) ∙ grown) in
      let flags : List Bool = asked_by true c lane s at call in
      stored_as (entered (first.more ++ second.more) ++ missed (missed_with lane (number_in r.reply))) (entered es ++ missed (missed_with lane (unkept_in (made_by true c lane s at call).outcome.said))) flags flags
      (ap (λ l. entered l ++ missed (missed_with lane (number_in r.reply))) same ∙ ap (λ (o : Option ℕ). entered es ++ missed (missed_with lane o)) (sym (said_tells r.reply)))
      refl two
    where
      ticks_in : (fault : Option ℕ) (t : Stepped) → AddsFew s t → AddsFew s (kept_or fault s t)
      ticks_in None t few = few
      ticks_in (Some n) t few = by (adds s t)
        where
          by : (b : Bool) → AddsFew s (unkept_if b n s t)
          by true = record { more = []; grown = sym (append-nil s.entries); few = omega arith }
          by false = few
  by_tick false is es grown =
      let r = made_with c.call lane s call in
      let calls = once_calls c.call lane None s call in
      let same : calls.more ≡ es = cancel s.entries calls.more es (sym calls.grown ∙ grown) in
      let one = step_stored c.call lane s (answer_call s lane call) calls.more calls.grown calls.few (call_few lane s call) (call_tells_none opening s lane call board) in
      let flags : List Bool = asked_by false c lane s at call in
      stored_as (entered calls.more ++ missed (missed_with lane (number_in r.reply))) (entered es ++ missed (missed_with lane (unkept_in (made_by false c lane s at call).outcome.said))) flags flags
      (ap (λ l. entered l ++ missed (missed_with lane (number_in r.reply))) same ∙ ap (λ (o : Option ℕ). entered es ++ missed (missed_with lane o)) (sym (said_tells r.reply)))
      refl one

  -- the entries and the miss of a call are those of its commits
  pub answer_stored : (es : List Entry) → (answer_with c lane s at call).state.entries ≡ s.entries ++ es
      → AreStored (entered es ++ missed (missed_with lane (unkept_in (answer_with c lane s at call).outcome.said))) (asked_with c lane s at call)
  unfolding answer_with asked_with
  answer_stored es grown = by_tick (nat_lt s.moment at) refl es grown
