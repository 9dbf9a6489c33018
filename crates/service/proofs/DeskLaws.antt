-- What an answer adds to the history of a desk, and which counts it tells.
use Rattle.std.proofs.Common.{◌≡◌, ◌⊎◌, ⊎_elim, inl, inr, ℕ, ◌≤◌, nat_lt, Bool, true, false, List, [], ◌∷◌, ◌++◌, length, Option, None, Some, refl, sym, ap, ◌∙◌, subst, arith, append_assoc, append-nil, ltb-true}
use Rattle.std.specs.Prelude.{option_to_list, Result, Ok, Err}
use Rattle.std.specs.List.{AllByRecursion}
use Rattle.asks.specs.declared.call.Call.{Call}
use Rattle.asks.specs.declared.reply.Done.{Done as DoneType}
use Rattle.asks.specs.declared.reply.Refusal.{Refusal}
use Rattle.asks.specs.declared.reply.Refusal.TheVariants as refusal
use Rattle.asks.specs.declared.reply.Reply.{Reply}
use Rattle.asks.specs.declared.reply.Reply.TheVariants.{Done, Seen, Refused}
use Rattle.desk.specs.Keeping.{Choice, Counted, Rise, adds, answer_with, kept_or, made_by, made_with, once_ticked, ticked_with, unkept_if}
use Rattle.desk.specs.Settled.{MayHaveTicked}
use Rattle.desk_state.proofs.Boards.{tick_board}
use Rattle.desk_state.proofs.CauseLaws.{refused_for}
use Rattle.desk_state.specs.Causes.{RefusesFor}
use Rattle.desk_state.specs.Decide.{decide}
use Rattle.desk_state.specs.Lanes.{said_of}
use Rattle.desk_state.specs.People.{mistaken}
use Rattle.desk_state.specs.Sound.{IsBoard}
use Rattle.desk_state.specs.State.{State, is_full, is_full_for}
use Rattle.desk_state.specs.Step.{Stepped, answer_call, do_call, do_unless, enter, finish, tick_to, tick_unless}
use Rattle.desk_state.specs.declared.effect.Decision.{Decision}
use Rattle.desk_state.specs.declared.effect.Decision.TheVariants.{Do, Show}
use Rattle.desk_state.specs.declared.effect.Effect.{Effect}
use Rattle.desk_state.specs.declared.entry.Entry.{Entry}
use Rattle.desk_state.specs.declared.entry.What.{What}
use Rattle.desk_state.specs.declared.entry.What.TheVariants as what
use Rattle.desk_time.specs.Limits.{IsMoment}
use Rattle.ops_tables.specs.Tables.{actor_of}
use Rattle.service.specs.Turns.{number_in_refusal, number_in_reply, unkept_in}

-- ---- what is added

-- a tick is to that moment
abbrev pub IsTickTo : ℕ → What → Type 0
IsTickTo at (what.Tick to) = to ≡ at
IsTickTo at (what.Asked call reply) = Unit {0}

abbrev pub IsCall : What → Type 0
IsCall (what.Tick to) = ⊥
IsCall (what.Asked call reply) = Unit {0}

-- at most the tick to that moment, in the lane
pub record Ticks (lane at : ℕ) (s t : State) : Type 0 where
  pub more : List Entry
  pub grown : t.entries ≡ s.entries ++ more
  pub lanes : AllByRecursion (λ e. e.lane ≡ lane) more
  pub few : length more ≤ 1
  pub only : AllByRecursion (λ e. e.what ≡ what.Tick at) more

-- at most an accepted call, in the lane
pub record Calls (lane : ℕ) (s t : State) : Type 0 where
  pub more : List Entry
  pub grown : t.entries ≡ s.entries ++ more
  pub lanes : AllByRecursion (λ e. e.lane ≡ lane) more
  pub few : length more ≤ 1
  pub only : AllByRecursion (λ e. IsCall e.what) more

-- the one after the other
pub record Grows (lane at : ℕ) (s t : State) : Type 0 where
  pub middle : State
  pub ticked : Ticks lane at s middle
  pub called : Calls lane middle t

pub all_both : (P : Entry → Type 0) (xs ys : List Entry) → AllByRecursion P xs → AllByRecursion P ys → AllByRecursion P (xs ++ ys)
all_both P [] ys one two = two
all_both P (x ∷ xs) ys one two = (one.0, all_both P xs ys one.1 two)

pub ticks_to : (at : ℕ) (es : List Entry) → AllByRecursion (λ e. e.what ≡ what.Tick at) es → AllByRecursion (λ e. IsTickTo at e.what) es
ticks_to at [] all = tt
ticks_to at (e ∷ es) all = (subst (IsTickTo at) (sym all.0) refl, ticks_to at es all.1)

call_to : (at : ℕ) (w : What) → IsCall w → IsTickTo at w
call_to at (what.Tick to) is = absurd is
call_to at (what.Asked call reply) is = tt

calls_to : (at : ℕ) (es : List Entry) → AllByRecursion (λ e. IsCall e.what) es → AllByRecursion (λ e. IsTickTo at e.what) es
calls_to at [] all = tt
calls_to at (e ∷ es) all = (call_to at e.what all.0, calls_to at es all.1)

module _ {lane at : ℕ} {s t : State} (g : Grows lane at s t) where
  -- the entries of both
  abbrev pub both_of : List Entry
  both_of = g.ticked.more ++ g.called.more

  pub both_grown : t.entries ≡ s.entries ++ both_of
  both_grown = g.called.grown ∙ (ap (λ es. es ++ g.called.more) g.ticked.grown ∙ append_assoc s.entries g.ticked.more g.called.more)

  pub both_lanes : AllByRecursion (λ e. e.lane ≡ lane) both_of
  both_lanes = all_both (λ e. e.lane ≡ lane) g.ticked.more g.called.more g.ticked.lanes g.called.lanes

  pub both_timed : AllByRecursion (λ e. IsTickTo at e.what) both_of
  both_timed = all_both (λ e. IsTickTo at e.what) g.ticked.more g.called.more (ticks_to at g.ticked.more g.ticked.only) (calls_to at g.called.more g.called.only)

-- ---- the tick

pub no_tick : (lane at : ℕ) (s : State) → Ticks lane at s s
no_tick lane at s = record { more = []; grown = sym (append-nil s.entries); lanes = tt; few = omega arith; only = tt }

ticks_by : (full : Bool) (lane at : ℕ) (s : State) → Ticks lane at s (tick_unless full s lane at).state
ticks_by true lane at s = no_tick lane at s
ticks_by false lane at s = record { more = record { lane = lane; what = what.Tick at } ∷ []; grown = refl; lanes = (refl, tt); few = omega arith; only = (refl, tt) }

pub tick_ticks : (lane at : ℕ) (s : State) → Ticks lane at s (tick_to s lane at).state
unfolding tick_to
tick_ticks lane at s = ticks_by (is_full s) lane at s

pub tick_grows : (lane at : ℕ) (s t : State) → MayHaveTicked lane at s t → Ticks lane at s t
tick_grows lane at s t ticked = ⊎_elim
    (λ same. subst (Ticks lane at s) (sym same) (no_tick lane at s))
    (λ is. subst (Ticks lane at s) (sym is.1) (tick_ticks lane at s))
    ticked

-- ---- the call

no_call : (lane : ℕ) (s : State) → Calls lane s s
no_call lane s = record { more = []; grown = sym (append-nil s.entries); lanes = tt; few = omega arith; only = tt }

entered_calls : (full : Bool) (lane : ℕ) (s : State) (call : Call) (made : DoneType) (effect : Effect) → Calls lane s (enter full s lane call made effect).state
entered_calls true lane s call made effect = no_call lane s
entered_calls false lane s call made effect = record { more = _ ∷ []; grown = refl; lanes = (refl, tt); few = omega arith; only = (tt, tt) }

finished_calls : (decision : Result Decision Refusal) (lane : ℕ) (s : State) (call : Call) → Calls lane s (finish s lane call decision).state
finished_calls (Err why) lane s call = no_call lane s
finished_calls (Ok (Show reply)) lane s call = no_call lane s
finished_calls (Ok (Do made effect)) lane s call = entered_calls (is_full_for s call.ask) lane s call made effect

done_calls : (lane : ℕ) (s : State) (call : Call) → Calls lane s (do_call s lane call).state
unfolding do_call
done_calls lane s call = finished_calls (decide s call) lane s call

unless_calls : (why : Option Refusal) (lane : ℕ) (s : State) (call : Call) → Calls lane s (do_unless why s lane call).state
unless_calls None lane s call = done_calls lane s call
unless_calls (Some why) lane s call = no_call lane s

pub answered_calls : (lane : ℕ) (s : State) (call : Call) → Calls lane s (answer_call s lane call).state
unfolding answer_call
answered_calls lane s call = unless_calls (mistaken (actor_of s.tables call.actor) call.key) lane s call

-- what holds of a state, and of the one that a step leads to, holds of the one after it, kept or not
kept_if : (P : State → Type 0) (b : Bool) (n : ℕ) (s : State) (t : Stepped) → P s → P t.state → P (unkept_if b n s t).state
kept_if P true n s t before after = before
kept_if P false n s t before after = after

pub kept_has : (P : State → Type 0) (fault : Option ℕ) (s : State) (t : Stepped) → P s → P t.state → P (kept_or fault s t).state
kept_has P None s t before after = after
kept_has P (Some n) s t before after = kept_if P (adds s t) n s t before after

made_calls : (fault : Option ℕ) (lane : ℕ) (s : State) (call : Call) → Calls lane s (made_with fault lane s call).state
made_calls fault lane s call = kept_has (Calls lane s) fault s (answer_call s lane call) (no_call lane s) (answered_calls lane s call)

pub once_calls : (fault : Option ℕ) (lane : ℕ) (reply : Option Reply) (s : State) (call : Call) → Calls lane s (once_ticked fault lane reply s call).state
once_calls fault lane (Some reply) s call = no_call lane s
once_calls fault lane None s call = made_calls fault lane s call

answer_by : (later : Bool) (c : Choice) (lane : ℕ) (s : State) (at : ℕ) (call : Call) → Grows lane at s (made_by later c lane s at call).state
answer_by true c lane s at call =
    let t = ticked_with c.tick lane s at in record {
      middle = t.state;
      ticked = kept_has (Ticks lane at s) c.tick s (tick_to s lane at) (no_tick lane at s) (tick_ticks lane at s);
      called = once_calls c.call lane t.reply t.state call;
    }
answer_by false c lane s at call = record { middle = s; ticked = no_tick lane at s; called = made_calls c.call lane s call }

pub answer_grows : (c : Choice) (lane : ℕ) (s : State) (at : ℕ) (call : Call) → Grows lane at s (answer_with c lane s at call).state
unfolding answer_with
answer_grows c lane s at call = answer_by (nat_lt s.moment at) c lane s at call

-- ---- which counts are told

abbrev pub number_in : Option Reply → Option ℕ
number_in None = None
number_in (Some reply) = number_in_reply reply

-- a refusal that is none for want of keeping tells no count
not_unkept : (why : Refusal) → ((n : ℕ) → why ≡ refusal.Unkept n → ⊥) → number_in_refusal why ≡ None
not_unkept refusal.UnknownActor never = refl
not_unkept refusal.WrongKey never = refl
not_unkept refusal.NotYourRole never = refl
not_unkept (refusal.NumberReused a) never = refl
not_unkept (refusal.BadReport a b) never = refl
not_unkept (refusal.DayOutOfReach a) never = refl
not_unkept (refusal.ReportsFull a) never = refl
not_unkept refusal.UnknownTail never = refl
not_unkept refusal.NoSuchDeferral never = refl
not_unkept refusal.NoSuchRelease never = refl
not_unkept (refusal.NotYours a) never = refl
not_unkept (refusal.BadPlan a b) never = refl
not_unkept (refusal.NotPending a) never = refl
not_unkept (refusal.WrongRevision a) never = refl
not_unkept (refusal.WrongText a) never = refl
not_unkept (refusal.WeatherNewer a) never = refl
not_unkept (refusal.RuleFails a) never = refl
not_unkept (refusal.WrongPhase a) never = refl
not_unkept refusal.AlreadySigned never = refl
not_unkept refusal.NoSuchAlert never = refl
not_unkept (refusal.AlertMoved a) never = refl
not_unkept (refusal.TooYoung a) never = refl
not_unkept (refusal.ReleasesFull a) never = refl
not_unkept (refusal.HistoryFull a b c) never = refl
not_unkept refusal.NoSuchStation never = refl
not_unkept (refusal.Unkept a) never = absurd (never a refl)
not_unkept (refusal.NumberSwept a) never = refl
not_unkept refusal.UnknownItem never = refl
not_unkept (refusal.BadFound a) never = refl
not_unkept (refusal.DeferralsFull a) never = refl

never_told : (s : State) (call : Call) (reply : Option Reply) → RefusesFor s call reply → number_in reply ≡ None
unfolding RefusesFor
never_told s call None refuses = refl
never_told s call (Some (Done made)) refuses = refl
never_told s call (Some (Seen text)) refuses = refl
never_told s call (Some (Refused why)) refuses =
    not_unkept why (λ n is. (refuses (refusal.Unkept n) (ap (λ (w : Refusal). Some (Refused w)) is)).0)

pub call_tells_none : (opening s : State) (lane : ℕ) (call : Call) → IsBoard opening s → number_in (answer_call s lane call).reply ≡ None
call_tells_none opening s lane call board = never_told s call (answer_call s lane call).reply (refused_for s lane call (answer_call s lane call).reply board.sound board.kept refl)

tick_tells_by : (full : Bool) (s : State) (lane at : ℕ) → number_in (tick_unless full s lane at).reply ≡ None
tick_tells_by true s lane at = refl
tick_tells_by false s lane at = refl

pub tick_tells_none : (s : State) (lane at : ℕ) → number_in (tick_to s lane at).reply ≡ None
unfolding tick_to
tick_tells_none s lane at = tick_tells_by (is_full s) s lane at

-- a reply tells no count, or that one
abbrev Tells : Option ℕ → Option Reply → Type 0
Tells fault reply = (number_in reply ≡ None) ⊎ (number_in reply ≡ fault)

tells_if : (b : Bool) (n : ℕ) (s : State) (t : Stepped) → number_in t.reply ≡ None → Tells (Some n) (unkept_if b n s t).reply
tells_if true n s t none = inr refl
tells_if false n s t none = inl none

kept_tells : (fault : Option ℕ) (s : State) (t : Stepped) → number_in t.reply ≡ None → Tells fault (kept_or fault s t).reply
kept_tells None s t none = inl none
kept_tells (Some n) s t none = tells_if (adds s t) n s t none

once_tells : (tick fault : Option ℕ) (lane : ℕ) (reply : Option Reply) (s : State) (call : Call) → Tells tick reply → number_in (answer_call s lane call).reply ≡ None
    → Tells tick (once_ticked fault lane reply s call).reply ⊎ Tells fault (once_ticked fault lane reply s call).reply
once_tells tick fault lane (Some reply) s call told none = inl told
once_tells tick fault lane None s call told none = inr (kept_tells fault s (answer_call s lane call) none)

pub said_tells : (reply : Option Reply) → unkept_in (said_of reply) ≡ number_in reply
said_tells None = refl
said_tells (Some reply) = refl

-- the counts of a choice, each by itself
record Rises (before : ℕ) (tick call : Option ℕ) (after : ℕ) : Type 0 where
  pub its_tick : Rise before (option_to_list tick) after
  pub its_call : Rise before (option_to_list call) after
  pub later : before ≤ after

each_rises : (before after : ℕ) (tick call : Option ℕ) → Rise before ((option_to_list tick ++ option_to_list call) ++ []) after → Rises before tick call after
each_rises before after None None r = record { its_tick = r; its_call = r; later = r }
each_rises before after None (Some n) r =
    let a = r.0 in let b = r.1 in record { its_tick = omega (arith, a, b); its_call = r; later = omega (arith, a, b) }
each_rises before after (Some m) None r =
    let a = r.0 in let b = r.1 in record { its_tick = r; its_call = omega (arith, a, b); later = omega (arith, a, b) }
each_rises before after (Some m) (Some n) r =
    let a = r.0 in let b = r.1.0 in let d = r.1.1 in
    record { its_tick = (a, omega (arith, b, d)); its_call = (omega (arith, a, b), d); later = omega (arith, a, b, d) }

number_rises : (before after : ℕ) (number fault : Option ℕ) → before ≤ after → Rise before (option_to_list fault) after → (number ≡ None) ⊎ (number ≡ fault) → Rise before (option_to_list number) after
number_rises before after number fault later rises told = ⊎_elim
    (λ none. subst (λ (o : Option ℕ). Rise before (option_to_list o) after) (sym none) later)
    (λ is. subst (λ (o : Option ℕ). Rise before (option_to_list o) after) (sym is) rises)
    told

answered_by : (later : Bool) → (opening s : State) (c : Choice) (lane at : ℕ) (call : Call) (before after : ℕ) → nat_lt s.moment at ≡ later → IsBoard opening s → IsMoment at
    → Rises before c.tick c.call after → Rise before (option_to_list (unkept_in (made_by later c lane s at call).outcome.said)) after
answered_by true opening s c lane at call before after is board moment rises =
    let t = ticked_with c.tick lane s at in
    let r = once_ticked c.call lane t.reply t.state call in
    let ticked = kept_has (IsBoard opening) c.tick s (tick_to s lane at) board (tick_board opening s lane at board (ltb-true s.moment at is) moment.1) in
    let told = once_tells c.tick c.call lane t.reply t.state call (kept_tells c.tick s (tick_to s lane at) (tick_tells_none s lane at)) (call_tells_none opening t.state lane call ticked) in
    subst (λ (o : Option ℕ). Rise before (option_to_list o) after) (sym (said_tells r.reply))
    (⊎_elim (number_rises before after (number_in r.reply) c.tick rises.later rises.its_tick) (number_rises before after (number_in r.reply) c.call rises.later rises.its_call) told)
answered_by false opening s c lane at call before after is board moment rises =
    let r = made_with c.call lane s call in
    subst (λ (o : Option ℕ). Rise before (option_to_list o) after) (sym (said_tells r.reply))
    (number_rises before after (number_in r.reply) c.call rises.later rises.its_call (kept_tells c.call s (answer_call s lane call) (call_tells_none opening s lane call board)))

-- a refusal for want of keeping tells one of the counts at which the keeper failed
pub told_rises : (opening s : State) (c : Choice) (lane at : ℕ) (call : Call) (before after : ℕ) → IsBoard opening s → IsMoment at → Counted before (c ∷ []) after
    → Rise before (option_to_list (unkept_in (answer_with c lane s at call).outcome.said)) after
unfolding answer_with
told_rises opening s c lane at call before after board moment counted =
    answered_by (nat_lt s.moment at) opening s c lane at call before after refl board moment (each_rises before after c.tick c.call counted)
