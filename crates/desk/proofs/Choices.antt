-- The counts at which a keeper fails, and what comes of items under them.
use Rattle.std.proofs.Common.{◌≡◌, ℕ, ◌<◌, ◌≤◌, List, [], ◌∷◌, ◌++◌, length, map, append-nil, append_assoc, Option, None, Some, IfSome, refl, ap, sym, ◌∙◌, subst, arith}
use Rattle.std.specs.Prelude.{option_to_list, nat_lt, Bool, true, false, Result, Ok, Err, IfOk}
use Rattle.std.specs.List.{concat}
use Rattle.asks.specs.declared.call.Call.{Call}
use Rattle.asks.specs.declared.kept.KeptReply.{KeptReply}
use Rattle.asks.specs.declared.reply.Reply.{Reply}
use Rattle.asks.specs.declared.reply.Refusal.TheVariants.{Unkept}
use Rattle.asks.specs.declared.reply.Reply.TheVariants.{Done, Refused}
use Rattle.alerts.specs.declared.notices.Notice.{Notice}
use Rattle.desk_state.specs.Repeats.{MayAsk, IsKeptFor}
use Rattle.desk_state.proofs.RepeatLaws.{may_ask_as, repeat_stays}
use Rattle.std.proofs.lemmas.Bool.{le-ltb, lt-ltb}
use Rattle.desk_state.specs.Lanes as lanes
use Rattle.desk_state.specs.Lanes.{outcomes, after_items}
use Rattle.desk_state.specs.State.{State, is_full}
use Rattle.desk_state.specs.Step.{Stepped, stay, answer_call, tick_to, tick_unless, ticked, full_reply}
use Rattle.desk_state.specs.Requests.{kept_at as reply_kept_at}
use Rattle.desk_state.specs.declared.lanes.Item.{Item}
use Rattle.desk_state.specs.declared.lanes.Item.TheVariants as item
use Rattle.desk_state.specs.declared.lanes.Outcome.{Outcome}
use Rattle.desk_state.specs.declared.lanes.Said.TheVariants as said
use Rattle.asks.specs.declared.bad_call.BadCall.{BadCall}
use Rattle.desk.specs.Keeping.{Asks, Choice, Given, GivenBetween, KeptAt, given, no_choice, adds, kept_at, kept_or, unkept_if, once_ticked, made_after, made_by, answer_with, item_with, bad_given, asked_all, asked_item, outcomes_with, after_with, Rise, numbers_of, AreNow, Counted, CountedOnce, IsGiven, AreGiven, AreGivenSoFar}
use Rattle.desk.specs.Saved.{stored_in}
use Rattle.keeper.specs.Seen.{KeeperSeen}
use Rattle.desk.specs.declared.answering.Answered.{Answered}

-- ---- the counts

pub rise_within : (low : ℕ) (ns : List ℕ) (high : ℕ) → Rise low ns high → low ≤ high
rise_within low [] high rise = rise
rise_within low (n ∷ ns) high rise = let more = rise_within n ns high rise.1 in let less = rise.0 in omega (arith, more, less)

pub rise_lower : (less low : ℕ) (ns : List ℕ) (high : ℕ) → less ≤ low → Rise low ns high → Rise less ns high
rise_lower less low [] high under rise = omega (arith, under, rise)
rise_lower less low (n ∷ ns) high under rise = (let first = rise.0 in omega (arith, under, first), rise.1)

rise_on : (low : ℕ) (ns ms : List ℕ) (middle high : ℕ) → Rise low ns middle → Rise middle ms high → Rise low (ns ++ ms) high
rise_on low [] ms middle high one two = rise_lower low middle ms high one two
rise_on low (n ∷ ns) ms middle high one two = (one.0, rise_on n ns ms middle high one.1 two)

-- numbers that rise from a number to the same number are none
pub rise_none : (n : ℕ) (ns : List ℕ) → Rise n ns n → ns ≡ []
rise_none n [] rise = refl
rise_none n (m ∷ ms) rise = absurd (let more = rise_within m ms n rise.1 in let less = rise.0 in omega (arith, more, less))

all_numbers : (cs ds : List Choice) → concat (map numbers_of (cs ++ ds)) ≡ concat (map numbers_of cs) ++ concat (map numbers_of ds)
all_numbers [] ds = refl
all_numbers (c ∷ cs) ds = ap (λ ns. numbers_of c ++ ns) (all_numbers cs ds) ∙ sym (append_assoc (numbers_of c) (concat (map numbers_of cs)) (concat (map numbers_of ds)))

pub counted_on : (before : ℕ) (cs ds : List Choice) (middle after : ℕ) → Counted before cs middle → Counted middle ds after → Counted before (cs ++ ds) after
counted_on before cs ds middle after one two =
    subst (λ ns. Rise before ns after) (sym (all_numbers cs ds)) (rise_on before (concat (map numbers_of cs)) (concat (map numbers_of ds)) middle after one two)

-- ---- the counts of one call

pub choice_as : (c : Choice) (tick call : Option ℕ) → c.tick ≡ tick → c.call ≡ call → c ≡ record { tick = tick; call = call }
choice_as c tick call one two = ap (λ (o : Option ℕ). record { tick = o; call = c.call }) one ∙ ap (λ (o : Option ℕ). record { tick = tick; call = o }) two

counted_two : (before middle after : ℕ) (tick call : Option ℕ) → CountedOnce before tick middle → CountedOnce middle call after → Counted before (record { tick = tick; call = call } ∷ []) after
counted_two before middle after None None one two = omega (arith, one, two)
counted_two before middle after None (Some n) one two = let less = two.0 in let is = two.1 in (omega (arith, one, less), omega (arith, is))
counted_two before middle after (Some m) None one two = let less = one.0 in let is = one.1 in (less, omega (arith, is, two))
counted_two before middle after (Some m) (Some n) one two =
    let less = one.0 in let is = one.1 in let more = two.0 in let last = two.1 in (less, (omega (arith, is, more), omega (arith, last)))

-- of a call whose tick and which itself were kept or not
pub counted_as : (before middle after : ℕ) (tick call : Option ℕ) (c : Choice) → c.tick ≡ tick → c.call ≡ call → CountedOnce before tick middle → CountedOnce middle call after
    → Counted before (c ∷ []) after
counted_as before middle after tick call c first second one two =
    subst (λ (x : Choice). Counted before (x ∷ []) after) (sym (choice_as c tick call first second)) (counted_two before middle after tick call one two)

now_of : (before after : ℕ) (call : Option ℕ) → CountedOnce before call after → AreNow after (record { tick = None; call = call })
now_of before after None counted = tt
now_of before after (Some n) counted = (counted.1, tt)

now_ticked : (n middle after : ℕ) (call : Option ℕ) → n ≡ middle → call ≡ None → after ≡ middle → AreNow after (record { tick = Some n; call = call })
now_ticked n middle after None is none same = (is ∙ sym same, tt)
now_ticked n middle after (Some m) is none same = absurd (cc)

-- after a tick that isn't kept, nothing more is asked of the keeper
now_late : (before middle after : ℕ) (tick call : Option ℕ) (reply : Option Reply) → CountedOnce before tick middle → CountedOnce middle call after
    → IfSome tick (λ n. reply ≡ Some (Refused (Unkept n))) → IfSome reply (λ r. (call ≡ None) × (after ≡ middle)) → AreNow after (record { tick = tick; call = call })
now_late before middle after None call reply one two told stays = now_of middle after call two
now_late before middle after (Some n) call None one two told stays = absurd (cc)
now_late before middle after (Some n) call (Some r) one two told stays = now_ticked n middle after call one.1 stays.0 stays.1

pub exact_call : (before after : ℕ) (call : Option ℕ) (c : Choice) → c.tick ≡ None → c.call ≡ call → CountedOnce before call after → AreNow after c
exact_call before after call c first second counted = subst (AreNow after) (sym (choice_as c None call first second)) (now_of before after call counted)

pub exact_late : (before middle after : ℕ) (tick call : Option ℕ) (reply : Option Reply) (c : Choice) → c.tick ≡ tick → c.call ≡ call → CountedOnce before tick middle → CountedOnce middle call after
    → IfSome tick (λ n. reply ≡ Some (Refused (Unkept n))) → IfSome reply (λ r. (call ≡ None) × (after ≡ middle)) → AreNow after c
exact_late before middle after tick call reply c first second one two told stays =
    subst (AreNow after) (sym (choice_as c tick call first second)) (now_late before middle after tick call reply one two told stays)

-- ---- the items

-- what a keeper has come to by one item, under a choice, with the commits of that item
pub record KeptBy (before after : KeptAt) (c : Choice) (asked : List Bool) : Type 0 where
  pub counted : Counted before.faults (c ∷ []) after.faults
  pub stored : after.stored ≡ before.stored ++ asked

pub kept_by : (old new : KeeperSeen) (c : Choice) (asked : List Bool) → Counted old.health.faults (c ∷ []) new.health.faults → Asks old new asked → KeptBy (kept_at old) (kept_at new) c asked
kept_by old new c asked counted asks = record { counted = counted; stored = asks.stored }

given_on : (lane : ℕ) (before middle after : KeptAt) (s : State) (items : List Item) (t u : State) (i : Item) (left : List Item) (made more : List Outcome) (c : Choice) (o : Outcome)
    → AreGivenSoFar lane before middle s items t (i ∷ left) made → KeptBy middle after c (asked_item c lane t i) → o ≡ (item_with c lane t i).outcome → u ≡ (item_with c lane t i).state
    → more ≡ made ++ o ∷ [] → AreGivenSoFar lane before after s items u left more
given_on lane before middle after s items t u i left made more c o so_far kept outcome state pushed = record {
  front = so_far.front ++ i ∷ [];
  choices = so_far.choices ++ c ∷ [];
  whole = so_far.whole ∙ sym (append_assoc so_far.front (i ∷ []) left);
  counted = counted_on before.faults so_far.choices (c ∷ []) middle.faults after.faults so_far.counted kept.counted;
  stored = λ next later.
      ap (λ bs. bs ++ asked_all lane u next later) kept.stored
      ∙ append_assoc middle.stored (asked_item c lane t i) (asked_all lane u next later)
      ∙ ap (λ (v : State). middle.stored ++ (asked_item c lane t i ++ asked_all lane v next later)) state
      ∙ so_far.stored (i ∷ next) (c ∷ later)
      ∙ ap (λ is. before.stored ++ asked_all lane s is (so_far.choices ++ c ∷ later)) (sym (append_assoc so_far.front (i ∷ []) next))
      ∙ ap (λ cs. before.stored ++ asked_all lane s ((so_far.front ++ i ∷ []) ++ next) cs) (sym (append_assoc so_far.choices (c ∷ []) later));
  outcomes = λ next later.
      ap (λ os. os ++ outcomes_with lane u next later) pushed
      ∙ append_assoc made (o ∷ []) (outcomes_with lane u next later)
      ∙ ap (λ (x : Outcome). made ++ x ∷ outcomes_with lane u next later) outcome
      ∙ ap (λ (v : State). made ++ (item_with c lane t i).outcome ∷ outcomes_with lane v next later) state
      ∙ so_far.outcomes (i ∷ next) (c ∷ later)
      ∙ ap (λ is. outcomes_with lane s is (so_far.choices ++ c ∷ later)) (sym (append_assoc so_far.front (i ∷ []) next))
      ∙ ap (λ cs. outcomes_with lane s ((so_far.front ++ i ∷ []) ++ next) cs) (sym (append_assoc so_far.choices (c ∷ []) later));
  state = λ next later.
      ap (λ (v : State). after_with lane v next later) state
      ∙ so_far.state (i ∷ next) (c ∷ later)
      ∙ ap (λ is. after_with lane s is (so_far.choices ++ c ∷ later)) (sym (append_assoc so_far.front (i ∷ []) next))
      ∙ ap (λ cs. after_with lane s ((so_far.front ++ i ∷ []) ++ next) cs) (sym (append_assoc so_far.choices (c ∷ []) later));
}

pub given_next : (lane : ℕ) (before middle after : KeptAt) (s : State) (items : List Item) (t u : State) (left rest : List Item) (i : Item) (made more : List Outcome) (c : Choice) (o : Outcome)
    → left ≡ i ∷ rest → AreGivenSoFar lane before middle s items t left made → KeptBy middle after c (asked_item c lane t i) → o ≡ (item_with c lane t i).outcome → u ≡ (item_with c lane t i).state
    → more ≡ made ++ o ∷ [] → AreGivenSoFar lane before after s items u rest more
given_next lane before middle after s items t u left rest i made more c o is so_far kept outcome state pushed =
    given_on lane before middle after s items t u i rest made more c o (subst (λ is. AreGivenSoFar lane before middle s items t is made) is so_far) kept outcome state pushed

-- after the last item
pub all_given : (lane : ℕ) (before after : KeptAt) (s : State) (items : List Item) (t : State) (left : List Item) (made : List Outcome) → left ≡ [] → AreGivenSoFar lane before after s items t left made
    → AreGiven lane before after s items t made
all_given lane before after s items t left made none so_far =
    let last : AreGivenSoFar lane before after s items t [] made = subst (λ is. AreGivenSoFar lane before after s items t is made) none so_far in
    record {
      choices = last.choices;
      counted = last.counted;
      stored =
          sym (append-nil after.stored)
          ∙ last.stored [] []
          ∙ ap (λ is. before.stored ++ asked_all lane s is (last.choices ++ [])) (sym last.whole)
          ∙ ap (λ cs. before.stored ++ asked_all lane s items cs) (append-nil last.choices);
      outcomes =
          sym (append-nil made)
          ∙ last.outcomes [] []
          ∙ ap (λ is. outcomes_with lane s is (last.choices ++ [])) (sym last.whole)
          ∙ ap (λ cs. outcomes_with lane s items cs) (append-nil last.choices);
      state = last.state [] [] ∙ ap (λ is. after_with lane s is (last.choices ++ [])) (sym last.whole) ∙ ap (λ cs. after_with lane s items cs) (append-nil last.choices);
    }

-- ---- where nothing fails

choice_is : (c : Choice) → c.tick ≡ None → c.call ≡ None → c ≡ no_choice
choice_is c tick call = ap (λ (o : Option ℕ). record { tick = o; call = c.call }) tick ∙ ap (λ (o : Option ℕ). record { tick = None; call = o }) call

both_empty : (xs ys : List ℕ) → xs ++ ys ≡ [] → (xs ≡ []) × (ys ≡ [])
both_empty [] ys e = (refl, e)
both_empty (x ∷ xs) ys e = absurd (cc)

no_number : (o : Option ℕ) → option_to_list o ≡ [] → o ≡ None
no_number None e = refl
no_number (Some n) e = absurd (cc)

pub quiet_first : (c : Choice) (cs : List Choice) → concat (map numbers_of (c ∷ cs)) ≡ [] → (c ≡ no_choice) × (concat (map numbers_of cs) ≡ [])
quiet_first c cs quiet =
    let parts = both_empty (numbers_of c) (concat (map numbers_of cs)) quiet in
    let own = both_empty (option_to_list c.tick) (option_to_list c.call) parts.0 in
    (choice_is c (no_number c.tick own.0) (no_number c.call own.1), parts.1)

-- an item that is given what it is where nothing fails
pub record IsAnswered (lane : ℕ) (s : State) (i : Item) (g : Given) : Type 0 where
  pub outcome : g.outcome ≡ (lanes.answer_item lane s i).outcome
  pub state : g.state ≡ (lanes.answer_item lane s i).state

once_outcome : (lane : ℕ) (o : Option Reply) (t : Stepped) (call : Call) → (given t.notices t.state (once_ticked None lane o t.state call)).outcome ≡ (lanes.once_ticked lane o t.state call).outcome
once_outcome lane None t call = refl
once_outcome lane (Some reply) t call = refl

once_state : (lane : ℕ) (o : Option Reply) (t : Stepped) (call : Call) → (given t.notices t.state (once_ticked None lane o t.state call)).state ≡ (lanes.once_ticked lane o t.state call).state
once_state lane None t call = refl
once_state lane (Some reply) t call = refl

made_outcome : (later : Bool) (lane : ℕ) (s : State) (at : ℕ) (call : Call) → (made_by later no_choice lane s at call).outcome ≡ (lanes.made_by later lane s at call).outcome
made_outcome false lane s at call = refl
made_outcome true lane s at call = once_outcome lane (tick_to s lane at).reply (tick_to s lane at) call

made_state : (later : Bool) (lane : ℕ) (s : State) (at : ℕ) (call : Call) → (made_by later no_choice lane s at call).state ≡ (lanes.made_by later lane s at call).state
made_state false lane s at call = refl
made_state true lane s at call = once_state lane (tick_to s lane at).reply (tick_to s lane at) call

-- where nothing fails, a call is answered as a lane answers it
pub quiet_call : (lane : ℕ) (s : State) (at : ℕ) (call : Call) → IsAnswered lane s (item.Call at call) (answer_with no_choice lane s at call)
unfolding answer_with lanes.answer
quiet_call lane s at call = record { outcome = made_outcome (nat_lt s.moment at) lane s at call; state = made_state (nat_lt s.moment at) lane s at call }

quiet_item : (lane : ℕ) (s : State) (i : Item) → IsAnswered lane s i (item_with no_choice lane s i)
quiet_item lane s (item.Bad fault) = record { outcome = refl; state = refl }
quiet_item lane s (item.Call at call) = quiet_call lane s at call

quiet_one : (lane : ℕ) (s : State) (i : Item) (c : Choice) → c ≡ no_choice → IsAnswered lane s i (item_with c lane s i)
quiet_one lane s i c is = subst (λ (d : Choice). IsAnswered lane s i (item_with d lane s i)) (sym is) (quiet_item lane s i)

pub quiet_outcomes : (lane : ℕ) (s : State) (items : List Item) (cs : List Choice) → concat (map numbers_of cs) ≡ [] → outcomes_with lane s items cs ≡ outcomes lane s items
quiet_outcomes lane s [] cs quiet = refl
quiet_outcomes lane s (i ∷ rest) [] quiet = refl
quiet_outcomes lane s (i ∷ rest) (c ∷ cs) quiet =
    let first = quiet_first c cs quiet in
    let one = quiet_one lane s i c first.0 in
    ap (λ (o : Outcome). o ∷ outcomes_with lane (item_with c lane s i).state rest cs) one.outcome
    ∙ ap (λ (u : State). (lanes.answer_item lane s i).outcome ∷ outcomes_with lane u rest cs) one.state
    ∙ ap (λ os. (lanes.answer_item lane s i).outcome ∷ os) (quiet_outcomes lane (lanes.answer_item lane s i).state rest cs first.1)

pub quiet_after : (lane : ℕ) (s : State) (items : List Item) (cs : List Choice) → concat (map numbers_of cs) ≡ [] → after_with lane s items cs ≡ after_items lane s items
quiet_after lane s [] cs quiet = refl
quiet_after lane s (i ∷ rest) [] quiet = refl
quiet_after lane s (i ∷ rest) (c ∷ cs) quiet =
    let first = quiet_first c cs quiet in
    ap (λ (u : State). after_with lane u rest cs) (quiet_one lane s i c first.0).state ∙ quiet_after lane (lanes.answer_item lane s i).state rest cs first.1

-- the same of a call under some choice, where the count stands still
pub quiet_answer : (before after lane : ℕ) (s : State) (at : ℕ) (call : Call) (c : Choice) (t : State) (o : Outcome) (ticked called : List Notice) → after ≡ before → Counted before (c ∷ []) after
    → IsGiven (answer_with c lane s at call) t o ticked called → (o ≡ (lanes.answer lane s at call).outcome) × (t ≡ (lanes.answer lane s at call).state)
quiet_answer before after lane s at call c t o ticked called same counted given =
    let none = quiet_first c [] (rise_none before (concat (map numbers_of (c ∷ []))) (subst (λ (n : ℕ). Counted before (c ∷ []) n) same counted)) in
    let one = quiet_one lane s (item.Call at call) c none.0 in
    (given.its_outcome ∙ one.outcome, given.its_state ∙ one.state)

-- ---- a command that comes again

-- a step that adds nothing is answered all the same
stays_answered : (o : Option ℕ) (s : State) (reply : Reply) → kept_or o s (stay s reply) ≡ stay s reply
stays_answered None s reply = refl
stays_answered (Some faults) s reply = ap (λ (b : Bool). unkept_if b faults s (stay s reply)) (le-ltb (length s.entries) (length s.entries) (omega arith))

again_is : (lane : ℕ) (s : State) (at : ℕ) (call : Call) (k : KeptReply) (c : Choice) → at ≤ s.moment → MayAsk s call → IsKeptFor s call k → answer_with c lane s at call ≡ given [] s (stay s (Done k.done))
unfolding answer_with
again_is lane s at call k c within may is =
    ap (λ (later : Bool). made_by later c lane s at call) (le-ltb s.moment at within)
    ∙ ap (λ (t : Stepped). given [] s (kept_or c.call s t)) (repeat_stays s lane call k may is)
    ∙ ap (given [] s) (stays_answered c.call s (Done k.done))

pub again_answered : (lane : ℕ) (s : State) (at : ℕ) (call : Call) (k : KeptReply) (c : Choice) (t : State) (o : Outcome) (ticked called : List Notice) → at ≤ s.moment → MayAsk s call
    → IsKeptFor s call k → IsGiven (answer_with c lane s at call) t o ticked called → (o ≡ (lanes.said_at s (said.Reply (Done k.done)) s).outcome) × (t ≡ s)
again_answered lane s at call k c t o ticked called within may is given =
    let same = again_is lane s at call k c within may is in
    (given.its_outcome ∙ ap (λ (g : Given). g.outcome) same, given.its_state ∙ ap (λ (g : Given). g.state) same)

-- a tick leaves the tables and what is kept
tick_leaves : (full : Bool) (s : State) (lane to : ℕ) → ((tick_unless full s lane to).state.tables ≡ s.tables) × ((tick_unless full s lane to).state.kept ≡ s.kept)
tick_leaves true s lane to = (refl, refl)
tick_leaves false s lane to = (refl, append-nil s.kept)

kept_for_as : (s t : State) (call : Call) (k : KeptReply) → t.kept ≡ s.kept → IsKeptFor s call k → IsKeptFor t call k
kept_for_as s t call k same is = record { held = ap (reply_kept_at call.actor call.number) same ∙ is.held; same = is.same }

-- what a command that comes again is given once its tick is put in place
record IsAgain (t : State) (k : KeptReply) (g : Given) : Type 0 where
  pub outcome : g.outcome ≡ (lanes.said_at t (said.Reply (Done k.done)) t).outcome
  pub state : g.state ≡ t

again_ticked : (lane : ℕ) (notices : List Notice) (t : State) (call : Call) (k : KeptReply) (o : Option ℕ) → MayAsk t call → IsKeptFor t call k
    → IsAgain t k (given notices t (kept_or o t (answer_call t lane call)))
again_ticked lane notices t call k o may is =
    let same = ap (λ (u : Stepped). given notices t (kept_or o t u)) (repeat_stays t lane call k may is) ∙ ap (given notices t) (stays_answered o t (Done k.done)) in
    record { outcome = ap (λ (g : Given). g.outcome) same; state = ap (λ (g : Given). g.state) same }

again_late : (full : Bool) (tick : Option ℕ) (lane : ℕ) (s : State) (at : ℕ) (call : Call) (k : KeptReply) (o : Option ℕ) → s.moment < at → MayAsk s call → IsKeptFor s call k
    → (made_after o lane (kept_or tick s (tick_unless full s lane at)) call).state.moment ≡ at
    → IsAgain (tick_unless full s lane at).state k (made_after o lane (kept_or tick s (tick_unless full s lane at)) call)
again_late true None lane s at call k o later may is reached = absurd (omega (arith, later, reached))
again_late true (Some n) lane s at call k o later may is reached = by (adds s (stay s (full_reply s))) refl reached
  where
    by : (b : Bool) → adds s (stay s (full_reply s)) ≡ b → (made_after o lane (unkept_if b n s (stay s (full_reply s))) call).state.moment ≡ at
        → IsAgain s k (made_after o lane (unkept_if (adds s (stay s (full_reply s))) n s (stay s (full_reply s))) call)
    by true e reached = absurd (omega (arith, later, reached))
    by false e reached = absurd (omega (arith, later, reached))
again_late false None lane s at call k o later may is reached =
    let t : State = (ticked s lane at).state in
    let leaves = tick_leaves false s lane at in
    again_ticked lane (ticked s lane at).notices t call k o (may_ask_as s t call leaves.0 may) (kept_for_as s t call k leaves.1 is)
again_late false (Some n) lane s at call k o later may is reached = by (adds s (ticked s lane at)) reached
  where
    by : (b : Bool) → (made_after o lane (unkept_if b n s (ticked s lane at)) call).state.moment ≡ at → IsAgain (ticked s lane at).state k (made_after o lane (unkept_if b n s (ticked s lane at)) call)
    by true reached = absurd (omega (arith, later, reached))
    by false reached =
        let t : State = (ticked s lane at).state in
        let leaves = tick_leaves false s lane at in
        again_ticked lane (ticked s lane at).notices t call k o (may_ask_as s t call leaves.0 may) (kept_for_as s t call k leaves.1 is)

late_is : (lane : ℕ) (s : State) (at : ℕ) (call : Call) (k : KeptReply) (c : Choice) → s.moment < at → MayAsk s call → IsKeptFor s call k → (answer_with c lane s at call).state.moment ≡ at
    → IsAgain (tick_to s lane at).state k (answer_with c lane s at call)
unfolding answer_with tick_to
late_is lane s at call k c later may is reached =
    let late = lt-ltb s.moment at later in
    subst (λ (b : Bool). IsAgain (tick_unless (is_full s) s lane at).state k (made_by b c lane s at call)) (sym late)
    (again_late (is_full s) c.tick lane s at call k c.call later may is (ap (λ (b : Bool). (made_by b c lane s at call).state.moment) (sym late) ∙ reached))

-- the same, once the tick that comes first is put in place
pub again_after_tick : (lane : ℕ) (s : State) (at : ℕ) (call : Call) (k : KeptReply) (c : Choice) (t : State) (o : Outcome) (told called : List Notice) → s.moment < at → t.moment ≡ at → MayAsk s call
    → IsKeptFor s call k → IsGiven (answer_with c lane s at call) t o told called
    → (o ≡ (lanes.said_at (tick_to s lane at).state (said.Reply (Done k.done)) (tick_to s lane at).state).outcome) × (t ≡ (tick_to s lane at).state)
again_after_tick lane s at call k c t o told called later reached may is given =
    let again = late_is lane s at call k c later may is (ap (λ (u : State). u.moment) (sym given.its_state) ∙ reached) in
    (given.its_outcome ∙ again.outcome, given.its_state ∙ again.state)

-- ---- a line that is no call

no_call : (keeper : KeeperSeen) (lane : ℕ) (s : State) (fault : BadCall) (o : Outcome) (ticked called : List Notice) → o ≡ (bad_given s fault).outcome → ticked ≡ [] → called ≡ []
    → GivenBetween keeper keeper (λ c. asked_item c lane s (item.Bad fault)) (λ c. item_with c lane s (item.Bad fault)) s o ticked called
no_call keeper lane s fault o ticked called outcome none nothing = record {
  choice = no_choice;
  counted = omega arith;
  exact = tt;
  asks = record { commits = refl; stored = sym (append-nil (stored_in keeper.account)) };
  is = record { its_outcome = outcome; its_state = refl; its_tick = none; its_call = nothing };
}

bad_between : (keeper : KeeperSeen) (lane : ℕ) (s : State) (i : Item) (fault : BadCall) (o : Outcome) (ticked called : List Notice) → i ≡ item.Bad fault → o ≡ (bad_given s fault).outcome → ticked ≡ [] → called ≡ []
    → GivenBetween keeper keeper (λ c. asked_item c lane s i) (λ c. item_with c lane s i) s o ticked called
bad_between keeper lane s i fault o ticked called bad outcome none nothing =
    subst (λ (x : Item). GivenBetween keeper keeper (λ c. asked_item c lane s x) (λ c. item_with c lane s x) s o ticked called) (sym bad) (no_call keeper lane s fault o ticked called outcome none nothing)

pub bad_answered : {E : Type 0} (r : Result Answered E) (keeper : KeeperSeen) (lane : ℕ) (s : State) (i : Item) (fault : BadCall) → i ≡ item.Bad fault → IfOk r (λ a. a.outcome ≡ (bad_given s fault).outcome)
    → IfOk r (λ a. a.ticked ≡ []) → IfOk r (λ a. a.called ≡ [])
    → IfOk r (λ a. GivenBetween keeper keeper (λ c. asked_item c lane s i) (λ c. item_with c lane s i) s a.outcome a.ticked a.called)
bad_answered (Ok a) keeper lane s i fault bad outcome none nothing = bad_between keeper lane s i fault a.outcome a.ticked a.called bad outcome none nothing
bad_answered (Err e) keeper lane s i fault bad outcome none nothing = tt
