-- A turn leaves a shared desk one that goes on from how it was opened.
use Rattle.std.proofs.Common.{◌≡◌, ◌≢◌, ⊎_elim, inl, inr, ℕ, ◌+◌, ◌≤◌, false, List, [], ◌∷◌, ◌++◌, take, drop, length, Option, None, Some, Result, Ok, Err, refl, sym, ap, ◌∙◌, subst, arith, append_assoc, append-nil, length-append}
use Rattle.std.proofs.Math.Seq.{take-length}
use Rattle.std.proofs.lemmas.List.{map-append}
use Rattle.std.specs.Prelude.{option_to_list}
use Rattle.std.specs.List.{AllByRecursion}
use mathlib.Core.List.{IsPrefix}
use Rattle.asks.specs.declared.call.Call.{Call}
use Rattle.desk.proofs.Choices.{rise_lower}
use Rattle.desk.proofs.SeenLaws.{desk_on, desk_stays}
use Rattle.desk.proofs.AskedLaws.{stored_on}
use Rattle.desk.specs.Keeping.{Choice, Rise, answer_with, asked_with}
use Rattle.desk.specs.Saved.{SavesBetween, stored_in}
use Rattle.keeper.specs.declared.account.AccountEntry.{AccountEntry}
use Rattle.service.proofs.StoredLaws.{answer_stored, saves_stored, stored_both}
use Rattle.desk.specs.Seen.{DeskGoesOn, DeskSeen}
use Rattle.desk.specs.declared.answering.Answered.{Answered}
use Rattle.desk_io.specs.Health.{IsSound, IsStill}
use Rattle.desk_net.proofs.SeenLaws.{clock_on, clock_stays}
use Rattle.desk_net.specs.Clocks.{Dial, DialGoesOn, StandsAt, dial}
use Rattle.desk_net.specs.Seen.{ClockGoesOn, ClockSeen}
use Rattle.desk_state.specs.Legal.{Legal}
use Rattle.desk_state.specs.Sound.{IsBoard}
use Rattle.desk_state.specs.State.{State}
use Rattle.desk_state.specs.declared.entry.Entry.{Entry}
use Rattle.desk_state.specs.declared.entry.What.{What}
use Rattle.desk_state.specs.declared.lanes.Said.{Said}
use Rattle.desk_state.specs.declared.entry.What.TheVariants as what
use Rattle.turn_lock.specs.Elements.{Continues, EachBears, elements_of}
use Rattle.turn_lock.proofs.ElementLaws.{elements_of-append, prefix_trans}
use Rattle.service.specs.Events.{AreStored, FollowAnswers, HasStored, LastAnswer, MayFollow, MayMiss, after_entries, answers_in, at_answer, ended, entered, entries_in, faults_in, faults_of, fresh_answer, lane_of, last_or, miss, missed, state_at, with_entry, without_clock}
use Rattle.service.specs.Shared.{IsSharedSince, IsTickTimed, IsTimed, IsTold, SharedSeen}
use Rattle.service.specs.Looks.{LooksOnce}
use Rattle.service.specs.Pages.{nobodys_call}
use Rattle.service.specs.declared.gauges.Gauges.{Gauges}
use Rattle.service.specs.Turns.{AnsweredOnce, AnswersInTurn, AsksNothing, ComesOnce, GoesInTurn, GoesWithout, HasNoMoment, MissedOnce, MissesClock, TicksAtMost, ToldAtMost, UnansweredOnce, added_at, added_by, entries_since, missed_with, said_in, unkept_in}
use Rattle.connections.specs.declared.answers.Unanswered.{Unanswered}
use Rattle.connections.specs.declared.answers.Unanswered.TheVariants.{ClockFault, OutOfMemory}
use Rattle.service.specs.declared.events.Event.{Event}
use Rattle.service.specs.declared.events.Event.TheVariants.{Told, Missed}
use Rattle.service.specs.declared.misses.MissOf.{MissOf}
use Rattle.service.specs.declared.misses.MissOf.TheVariants as of
use Rattle.service.proofs.DeskLaws.{Calls, IsCall, IsTickTo, Ticks, answer_grows, both_grown, both_lanes, both_of, both_timed, tick_grows, ticks_to, told_rises}
use Rattle.service.proofs.EventLaws.{after_entries-legal, all_on, answers_in-append, answers_in-entered, bear_both, drop-seam, elements_of-each, entered_bear, entries_in-append, entries_in-entered, entries_in-missed, faults_in-append, follow_on, misses_in-append, misses_in-entered, misses_in-missed, take-seam}

-- ---- numbers that rise

rise_on : (low : ℕ) (ns ms : List ℕ) (middle high : ℕ) → Rise low ns middle → Rise middle ms high → Rise low (ns ++ ms) high
rise_on low [] ms middle high one two = rise_lower low middle ms high one two
rise_on low (n ∷ ns) ms middle high one two = (one.0, rise_on n ns ms middle high one.1 two)

-- the last of numbers that go on with others
last_on : (n : ℕ) (ns ms : List ℕ) → last_or n (ns ++ ms) ≡ last_or (last_or n ns) ms
last_on n [] ms = refl
last_on n (m ∷ ns) ms = last_on m ns ms

-- ---- the moments of the clock

told_by : (first now : Option Dial) (at : ℕ) → DialGoesOn first now → StandsAt now at → IsTold first at
told_by None now at on stood = tt
told_by (Some f) None at on stood = absurd on
told_by (Some f) (Some d) at on stood = (d.place, subst (λ (moments : List ℕ). StandsAt (Some (dial moments d.place)) at) on.0 stood)

timed_one : (clock : Option Dial) (at : ℕ) (w : What) → IsTold clock at → IsTickTo at w → IsTickTimed clock w
timed_one clock at (what.Tick to) told is = subst (IsTold clock) (sym is) told
timed_one clock at (what.Asked call reply) told is = tt

entries_timed : (clock : Option Dial) (at : ℕ) (es : List Entry) → IsTold clock at → AllByRecursion (λ e. IsTickTo at e.what) es → AllByRecursion (IsTimed clock) (entered es)
entries_timed clock at [] told all = tt
entries_timed clock at (e ∷ es) told all = (timed_one clock at e.what told all.0, entries_timed clock at es told all.1)

-- ---- what follows an answer of the clock

may_miss : (a : LastAnswer) (source : MissOf) (lane : ℕ) → lane ≡ a.lane → MayMiss (Some a) source lane
may_miss a of.Keeper lane same = same
may_miss a of.Clock lane same = tt

miss_follows : (a : LastAnswer) (lane : ℕ) (number : Option ℕ) → lane ≡ a.lane → FollowAnswers (Some a) (missed (missed_with lane number))
miss_follows a lane None same = tt
miss_follows a lane (Some faults) same = (same, tt)

same_lane : (a : LastAnswer) (w : What) → (with_entry a w).lane ≡ a.lane
same_lane a (what.Tick to) = refl
same_lane a (what.Asked call reply) = refl

call_may : (a : LastAnswer) (w : What) → IsCall w → a.called ≡ false → MayFollow a w
call_may a (what.Tick to) is free = absurd is
call_may a (what.Asked call reply) is free = free

call_follows : (a : LastAnswer) (es : List Entry) (rest : List Event) → length es ≤ 1 → AllByRecursion (λ e. e.lane ≡ a.lane) es → AllByRecursion (λ e. IsCall e.what) es → a.called ≡ false
    → ((b : LastAnswer) → b.lane ≡ a.lane → FollowAnswers (Some b) rest) → FollowAnswers (Some a) (entered es ++ rest)
call_follows a [] rest few lanes only free goes = goes a refl
call_follows a (e ∷ []) rest few lanes only free goes = ((lanes.0, call_may a e.what only.0 free), goes (with_entry a e.what) (same_lane a e.what))
call_follows a (e ∷ f ∷ es) rest few lanes only free goes = absurd (omega (arith, few))

tick_may : (a : LastAnswer) (w : What) → w ≡ what.Tick a.at → a.ticked ≡ false → MayFollow a w
tick_may a w is free = subst (MayFollow a) (sym is) (refl, free)

uncalled : (a : LastAnswer) (w : What) → w ≡ what.Tick a.at → (with_entry a w).called ≡ a.called
uncalled a w is = ap (λ (v : What). (with_entry a v).called) is

tick_follows : (a : LastAnswer) (es : List Entry) (rest : List Event) → length es ≤ 1 → AllByRecursion (λ e. e.lane ≡ a.lane) es → AllByRecursion (λ e. e.what ≡ what.Tick a.at) es → a.ticked ≡ false → a.called ≡ false
    → ((b : LastAnswer) → b.lane ≡ a.lane → b.called ≡ false → FollowAnswers (Some b) rest) → FollowAnswers (Some a) (entered es ++ rest)
tick_follows a [] rest few lanes only free idle goes = goes a refl idle
tick_follows a (e ∷ []) rest few lanes only free idle goes =
    ((lanes.0, tick_may a e.what only.0 free), goes (with_entry a e.what) (same_lane a e.what) (uncalled a e.what only.0 ∙ idle))
tick_follows a (e ∷ f ∷ es) rest few lanes only free idle goes = absurd (omega (arith, few))

-- ---- what a call adds

-- the clock's answer, entries, and a miss of the keeper if there is a number
abbrev block : ℕ → ℕ → List Entry → Option ℕ → List Event
block lane at es number = Told lane at ∷ (entered es ++ missed (missed_with lane number))

block_entries : (lane at : ℕ) (es : List Entry) (number : Option ℕ) → entries_in (block lane at es number) ≡ es
block_entries lane at es number =
    entries_in-append (entered es) (missed (missed_with lane number)) ∙ ((λ k. entries_in-entered es k ++ entries_in-missed (missed_with lane number) k) ∙ append-nil es)

block_faults : (source : MissOf) (lane at : ℕ) (es : List Entry) (number : Option ℕ) → faults_in source (block lane at es number) ≡ faults_of source (missed_with lane number)
block_faults source lane at es number =
    ap (faults_of source) (misses_in-append (entered es) (missed (missed_with lane number)) ∙ (λ k. misses_in-entered es k ++ misses_in-missed (missed_with lane number) k))

keeper_only : (lane : ℕ) (number : Option ℕ)
    → (faults_of of.Keeper (missed_with lane number) ≡ option_to_list number) × (faults_of of.Clock (missed_with lane number) ≡ []) × (answers_in (missed (missed_with lane number)) ≡ [])
keeper_only lane None = (refl, refl, refl)
keeper_only lane (Some faults) = (refl, refl, refl)

block_answers : (lane at : ℕ) (es : List Entry) (number : Option ℕ) → answers_in (block lane at es number) ≡ Some at ∷ []
block_answers lane at es number =
    ap (λ l. Some at ∷ l) (answers_in-append (entered es) (missed (missed_with lane number)) ∙ (λ k. answers_in-entered es k ++ (keeper_only lane number).2 k))

missed_bear : (lane : ℕ) (number : Option ℕ) → EachBears lane_of lane (missed (missed_with lane number))
missed_bear lane None = tt
missed_bear lane (Some faults) = (refl, tt)

block_bears : (lane at : ℕ) (es : List Entry) (number : Option ℕ) → AllByRecursion (λ e. e.lane ≡ lane) es → EachBears lane_of lane (block lane at es number)
block_bears lane at es number lanes = (refl, bear_both lane (entered es) (missed (missed_with lane number)) (entered_bear lane es lanes) (missed_bear lane number))

missed_timed : (clock : Option Dial) (lane : ℕ) (number : Option ℕ) → AllByRecursion (IsTimed clock) (missed (missed_with lane number))
missed_timed clock lane None = tt
missed_timed clock lane (Some faults) = (tt, tt)

block_timed : (clock : Option Dial) (lane at : ℕ) (es : List Entry) (number : Option ℕ) → IsTold clock at → AllByRecursion (λ e. IsTickTo at e.what) es → AllByRecursion (IsTimed clock) (block lane at es number)
block_timed clock lane at es number told all =
    (told, all_on (IsTimed clock) (entered es) (missed (missed_with lane number)) (entries_timed clock at es told all) (missed_timed clock lane number))

block_follows : (lane at : ℕ) (s m t : State) (ticks : Ticks lane at s m) (calls : Calls lane m t) (number : Option ℕ) (last : Option LastAnswer)
    → FollowAnswers last (block lane at (ticks.more ++ calls.more) number)
block_follows lane at s m t ticks calls number last =
    let tail : List Event = missed (missed_with lane number) in
    let same : entered ticks.more ++ (entered calls.more ++ tail) ≡ entered (ticks.more ++ calls.more) ++ tail =
    sym (ap (λ l. l ++ tail) (map-append _ ticks.more calls.more) ∙ append_assoc (entered ticks.more) (entered calls.more) tail) in
    subst (FollowAnswers (Some (fresh_answer lane at))) same
    (tick_follows (fresh_answer lane at) ticks.more (entered calls.more ++ tail) ticks.few ticks.lanes ticks.only refl refl
    (λ a one free. call_follows a calls.more tail calls.few
    (subst (λ (n : ℕ). AllByRecursion (λ e. e.lane ≡ n) calls.more) (sym one) calls.lanes) calls.only free
    (λ b two. miss_follows b lane number (sym (two ∙ one)))))

-- the list went on with these, all of the lane
pub record IsAdded (lane : ℕ) (old new : SharedSeen) (more : List Event) : Type 0 where
  pub events : new.events ≡ old.events ++ more
  pub entries : new.desk.state.entries ≡ old.desk.state.entries ++ entries_in more
  pub lanes : EachBears lane_of lane more
  pub follow : (last : Option LastAnswer) → FollowAnswers last more

three_parts : (old : List Event) (x : Event) (es ms : List Event) → ((old ++ x ∷ []) ++ es) ++ ms ≡ old ++ (x ∷ (es ++ ms))
three_parts old x es ms = append_assoc (old ++ x ∷ []) es ms ∙ append_assoc old (x ∷ []) (es ++ ms)

-- the entries that are new are those that were added
since_is : (s t : State) (more : List Entry) → t.entries ≡ s.entries ++ more → entries_since s t ≡ more
since_is s t more grown = ap (drop (length s.entries)) grown ∙ drop-seam s.entries more

-- an answer
abbrev more_of : (lane : ℕ) (call : Call) (old new : SharedSeen) (says : Said) → AnswersInTurn lane call old new says → List Event
more_of lane call old new says a = block lane a.at (both_of (answer_grows a.choice lane old.desk.state a.at call)) (unkept_in says)

answer_added : (lane : ℕ) (call : Call) (old new : SharedSeen) (says : Said) (a : AnswersInTurn lane call old new says) → IsAdded lane old new (more_of lane call old new says a)
answer_added lane call old new says a =
    let grows = answer_grows a.choice lane old.desk.state a.at call in
    let grown : new.desk.state.entries ≡ old.desk.state.entries ++ both_of grows = ap (λ (s : State). s.entries) a.its_state ∙ both_grown grows in
    record {
      events = a.its_events
          ∙ (three_parts old.events (Told lane a.at) (entered (entries_since old.desk.state new.desk.state)) (missed (missed_with lane (unkept_in says)))
          ∙ ap (λ es. old.events ++ block lane a.at es (unkept_in says)) (since_is old.desk.state new.desk.state (both_of grows) grown));
      entries = grown ∙ ap (λ es. old.desk.state.entries ++ es) (sym (block_entries lane a.at (both_of grows) (unkept_in says)));
      lanes = block_bears lane a.at (both_of grows) (unkept_in says) (both_lanes grows);
      follow = block_follows lane a.at old.desk.state grows.middle (answer_with a.choice lane old.desk.state a.at call).state grows.ticked grows.called (unkept_in says);
    }

-- a fault of the clock
abbrev clock_miss : ℕ → SharedSeen → Event
clock_miss lane new = Missed (miss lane of.Clock new.clock.health.faults)

miss_added : (lane : ℕ) (old new : SharedSeen) → new.desk ≡ old.desk → MissesClock lane old.clock new.clock old.events new.events → IsAdded lane old new (clock_miss lane new ∷ [])
miss_added lane old new same m = record {
  events = m.its_events;
  entries = ap (λ (d : DeskSeen). d.state.entries) same ∙ sym (append-nil old.desk.state.entries);
  lanes = (refl, tt);
  follow = λ last. (tt, tt);
}

-- want of memory
nothing_added : (lane : ℕ) (old new : SharedSeen) → new.desk.state ≡ old.desk.state → new.events ≡ old.events → IsAdded lane old new []
nothing_added lane old new state same = record {
  events = same ∙ sym (append-nil old.events);
  entries = ap (λ (s : State). s.entries) state ∙ sym (append-nil old.desk.state.entries);
  lanes = tt;
  follow = λ last. tt;
}

abbrev ticks_of : (lane : ℕ) (old new : SharedSeen) (t : TicksAtMost lane old new) → Ticks lane t.at old.desk.state new.desk.state
ticks_of lane old new t = tick_grows lane t.at old.desk.state new.desk.state t.ticked

no_more : (lane at : ℕ) (es : List Entry) → block lane at (es ++ []) None ≡ Told lane at ∷ entered es
no_more lane at es = ap (λ l. Told lane at ∷ l) (append-nil (entered (es ++ [])) ∙ ap entered (append-nil es))

ticks_added : (lane : ℕ) (old new : SharedSeen) (t : TicksAtMost lane old new) → IsAdded lane old new (Told lane t.at ∷ entered (ticks_of lane old new t).more)
ticks_added lane old new t =
    let ticks = ticks_of lane old new t in
    let none : Calls lane new.desk.state new.desk.state = record { more = []; grown = sym (append-nil new.desk.state.entries); lanes = tt; few = omega arith; only = tt } in record {
      events = t.its_events
          ∙ (append_assoc old.events (Told lane t.at ∷ []) (entered (entries_since old.desk.state new.desk.state))
          ∙ ap (λ es. old.events ++ Told lane t.at ∷ entered es) (since_is old.desk.state new.desk.state ticks.more ticks.grown));
      entries = ticks.grown ∙ ap (λ es. old.desk.state.entries ++ es) (sym (entries_in-entered ticks.more));
      lanes = (refl, entered_bear lane ticks.more ticks.lanes);
      follow = λ last. subst (FollowAnswers last) (no_more lane t.at ticks.more) (block_follows lane t.at old.desk.state new.desk.state new.desk.state ticks none None last);
    }

-- ---- a shared desk begins

just_opened : (desk : DeskSeen) (clock : ClockSeen) → desk.state ≡ desk.opening → desk.state.entries ≡ [] → IsSharedSince desk clock (record { desk = desk; clock = clock; events = [] })
just_opened desk clock opened none = record {
  desk_on = desk_stays desk;
  clock_on = clock_stays clock;
  list = record {
    entries = sym none;
    legal = subst (λ (es : List Entry). Legal desk.opening es desk.state) (sym none) (sym opened);
    kept = omega arith;
    timely = omega arith;
    counted = refl;
    timed = tt;
    clocked = sym (append-nil clock.answers);
    follow = tt;
    stored = record { commits = []; gained = sym (append-nil (stored_in desk.keeper.account)); are = ended };
  };
}

-- a desk that was just opened, with its clock, and no events
pub opened_since : (desk d : DeskSeen) (clock k : ClockSeen) (events : List Event) → d ≡ desk → k ≡ clock → events ≡ [] → d.state ≡ d.opening → d.state.entries ≡ []
    → IsSharedSince desk clock (record { desk = d; clock = k; events = events })
opened_since desk d clock k events one two three opened none =
    subst (λ (x : DeskSeen). IsSharedSince x clock (record { desk = d; clock = k; events = events })) one
    (subst (λ (x : ClockSeen). IsSharedSince d x (record { desk = d; clock = k; events = events })) two
    (subst (λ (l : List Event). IsSharedSince d k (record { desk = d; clock = k; events = l })) (sym three) (just_opened d k opened none)))

-- ---- a shared desk goes on

-- what holds of the desk before and after a call
pub record HasBoards (old new : SharedSeen) : Type 0 where
  pub before : IsBoard old.desk.opening old.desk.state
  pub after : IsBoard new.desk.opening new.desk.state
  pub desk : DeskGoesOn old.desk new.desk
  pub clock : ClockGoesOn old.clock new.clock

shared_on : (desk : DeskSeen) (clock : ClockSeen) (lane : ℕ) (old new : SharedSeen) (more : List Event) → IsSharedSince desk clock old → HasBoards old new
    → IsAdded lane old new more → Rise old.desk.keeper.health.faults (faults_in of.Keeper more) new.desk.keeper.health.faults
    → Rise old.clock.health.faults (faults_in of.Clock more) new.clock.health.faults → new.clock.health.faults ≡ last_or old.clock.health.faults (faults_in of.Clock more)
    → AllByRecursion (IsTimed clock.dial) more → new.clock.answers ≡ old.clock.answers ++ answers_in more
    → HasStored (stored_in old.desk.keeper.account) (stored_in new.desk.keeper.account) more → IsSharedSince desk clock new
shared_on desk clock lane old new more since boards added kept timely counted timed answered stored =
    let desk_goes = desk_on desk old.desk new.desk since.desk_on boards.desk in
    let was = since.list in
    let faults : (source : MissOf) → faults_in source new.events ≡ faults_in source old.events ++ faults_in source more =
    (λ source. ap (faults_in source) added.events ∙ faults_in-append source old.events more) in
    record {
      desk_on = desk_goes;
      clock_on = clock_on clock old.clock new.clock since.clock_on boards.clock;
      list = record {
        entries = ap entries_in added.events ∙ (entries_in-append old.events more ∙ (ap (λ l. l ++ entries_in more) was.entries ∙ sym added.entries));
        legal = subst (λ (o : State). Legal o new.desk.state.entries new.desk.state) desk_goes.opening boards.after.history.legal;
        kept = subst (λ (l : List ℕ). Rise desk.keeper.health.faults l new.desk.keeper.health.faults) (sym (faults of.Keeper))
            (rise_on desk.keeper.health.faults (faults_in of.Keeper old.events) (faults_in of.Keeper more) old.desk.keeper.health.faults new.desk.keeper.health.faults was.kept kept);
        timely = subst (λ (l : List ℕ). Rise clock.health.faults l new.clock.health.faults) (sym (faults of.Clock))
            (rise_on clock.health.faults (faults_in of.Clock old.events) (faults_in of.Clock more) old.clock.health.faults new.clock.health.faults was.timely timely);
        counted = counted ∙ ap (λ (n : ℕ). last_or n (faults_in of.Clock more)) was.counted
            ∙ (sym (last_on clock.health.faults (faults_in of.Clock old.events) (faults_in of.Clock more)) ∙ ap (last_or clock.health.faults) (sym (faults of.Clock)));
        timed = subst (AllByRecursion (IsTimed clock.dial)) (sym added.events) (all_on (IsTimed clock.dial) old.events more was.timed timed);
        clocked = answered
            ∙ (ap (λ l. l ++ answers_in more) was.clocked
            ∙ (append_assoc clock.answers (answers_in old.events) (answers_in more)
            ∙ ap (λ l. clock.answers ++ l) (sym (ap answers_in added.events ∙ answers_in-append old.events more))));
        follow = subst (FollowAnswers None) (sym added.events) (follow_on None old.events more was.follow added.follow);
        stored = record {
          commits = was.stored.commits ++ stored.commits;
          gained = stored.gained
              ∙ (ap (λ l. l ++ stored.commits) was.stored.gained
              ∙ append_assoc (stored_in desk.keeper.account) was.stored.commits stored.commits);
          are = subst (λ (l : List Event). AreStored l (was.stored.commits ++ stored.commits)) (sym added.events) (stored_both was.stored.are stored.are);
        };
      };
    }

-- the commits of an account that grew
account_gained : {old new : List AccountEntry} {s t : State} (saves : SavesBetween old new s t) → stored_in new ≡ stored_in old ++ stored_in saves.asked
account_gained {old} saves = ap stored_in saves.account ∙ stored_on old saves.asked

answered_on : (desk : DeskSeen) (clock : ClockSeen) (lane : ℕ) (call : Call) (old new : SharedSeen) (says : Said) → IsSharedSince desk clock old → HasBoards old new → IsStill old.clock.health new.clock.health
    → AnswersInTurn lane call old new says → IsSharedSince desk clock new
answered_on desk clock lane call old new says since boards still a =
    let grows = answer_grows a.choice lane old.desk.state a.at call in
    let es : List Entry = both_of grows in
    let number : Option ℕ = unkept_in says in
    let own = keeper_only lane number in
    let later = boards.clock.health.later in
    let rises = told_rises old.desk.opening old.desk.state a.choice lane a.at call old.desk.keeper.health.faults new.desk.keeper.health.faults boards.before a.moment a.counted in
    let kept : option_to_list (unkept_in (answer_with a.choice lane old.desk.state a.at call).outcome.said) ≡ faults_in of.Keeper (block lane a.at es number) =
    ap (λ o. option_to_list (unkept_in o)) (sym a.its_outcome) ∙ (sym own.0 ∙ sym (block_faults of.Keeper lane a.at es number)) in
    let none : [] ≡ faults_in of.Clock (block lane a.at es number) = sym (block_faults of.Clock lane a.at es number ∙ own.1) in
    shared_on desk clock lane old new (block lane a.at es number) since boards (answer_added lane call old new says a)
    (subst (λ (l : List ℕ). Rise old.desk.keeper.health.faults l new.desk.keeper.health.faults) kept rises)
    (subst (λ (l : List ℕ). Rise old.clock.health.faults l new.clock.health.faults) none later) (still ∙ ap (last_or old.clock.health.faults) none)
    (block_timed clock.dial lane a.at es number (told_by clock.dial old.clock.dial a.at since.clock_on.dial a.stood) (both_timed grows))
    (a.asked ∙ ap (λ l. old.clock.answers ++ l) (sym (block_answers lane a.at es number)))
    (record {
      commits = asked_with a.choice lane old.desk.state a.at call;
      gained = a.asks.stored;
      are = at_answer (subst (λ (o : Option ℕ). AreStored (entered es ++ missed (missed_with lane o)) (asked_with a.choice lane old.desk.state a.at call)) (ap unkept_in (sym a.its_outcome))
          (answer_stored old.desk.opening old.desk.state a.choice lane a.at call boards.before a.moment es (both_grown grows)));
    })

missed_on : (desk : DeskSeen) (clock : ClockSeen) (lane : ℕ) (old new : SharedSeen) → IsSharedSince desk clock old → HasBoards old new → new.desk ≡ old.desk
    → MissesClock lane old.clock new.clock old.events new.events → IsSharedSince desk clock new
missed_on desk clock lane old new since boards same m =
    let later = boards.desk.keeper.health.later in
    let rose = m.rose in
    shared_on desk clock lane old new (clock_miss lane new ∷ []) since boards (miss_added lane old new same m) later (rose, omega arith) refl (tt, tt) m.asked
    (record {
      commits = [];
      gained = ap (λ (d : DeskSeen). stored_in d.keeper.account) same ∙ sym (append-nil (stored_in old.desk.keeper.account));
      are = without_clock refl ended;
    })

nothing_on : (desk : DeskSeen) (clock : ClockSeen) (lane : ℕ) (old new : SharedSeen) → IsSharedSince desk clock old → HasBoards old new → IsStill old.clock.health new.clock.health → new.desk.state ≡ old.desk.state
    → AsksNothing old.clock new.clock old.events new.events → IsSharedSince desk clock new
nothing_on desk clock lane old new since boards still state none =
    shared_on desk clock lane old new [] since boards (nothing_added lane old new state none.its_events) boards.desk.keeper.health.later boards.clock.health.later still tt
    (none.asked ∙ sym (append-nil old.clock.answers))
    (record {
      commits = stored_in boards.desk.saves.asked;
      gained = account_gained boards.desk.saves;
      are = saves_stored old.desk.state boards.desk.saves.asked new.desk.state [] boards.desk.saves.saves (ap (λ (s : State). s.entries) state ∙ sym (append-nil old.desk.state.entries));
    })

ticked_on : (desk : DeskSeen) (clock : ClockSeen) (lane : ℕ) (old new : SharedSeen) → IsSharedSince desk clock old → HasBoards old new → IsStill old.clock.health new.clock.health → TicksAtMost lane old new
    → IsSharedSince desk clock new
ticked_on desk clock lane old new since boards still t =
    let ticks = ticks_of lane old new t in
    let told = told_by clock.dial old.clock.dial t.at since.clock_on.dial t.stood in
    let none : (source : MissOf) → [] ≡ faults_in source (Told lane t.at ∷ entered ticks.more) = (λ source. sym (ap (faults_of source) (misses_in-entered ticks.more))) in
    shared_on desk clock lane old new (Told lane t.at ∷ entered ticks.more) since boards (ticks_added lane old new t)
    (subst (λ (l : List ℕ). Rise old.desk.keeper.health.faults l new.desk.keeper.health.faults) (none of.Keeper) boards.desk.keeper.health.later)
    (subst (λ (l : List ℕ). Rise old.clock.health.faults l new.clock.health.faults) (none of.Clock) boards.clock.health.later)
    (still ∙ ap (last_or old.clock.health.faults) (none of.Clock))
    (told, entries_timed clock.dial t.at ticks.more told (ticks_to t.at ticks.more ticks.only))
    (t.asked ∙ ap (λ l. old.clock.answers ++ Some t.at ∷ l) (sym (answers_in-entered ticks.more)))
    (record {
      commits = stored_in boards.desk.saves.asked;
      gained = account_gained boards.desk.saves;
      are = at_answer (saves_stored old.desk.state boards.desk.saves.asked new.desk.state ticks.more boards.desk.saves.saves ticks.grown);
    })

-- whatever a call comes to
pub turn_keeps : (desk : DeskSeen) (clock : ClockSeen) (lane : ℕ) (call : Call) (old new : SharedSeen) (r : Result Answered Unanswered) → IsSharedSince desk clock old → HasBoards old new
    → (r ≢ Err ClockFault → IsStill old.clock.health new.clock.health) → GoesInTurn lane call old new r → IsSharedSince desk clock new
turn_keeps desk clock lane call old new (Ok a) since boards still goes = answered_on desk clock lane call old new (said_in a) since boards (still (λ is. absurd (cc))) goes
turn_keeps desk clock lane call old new (Err ClockFault) since boards still goes = missed_on desk clock lane old new since boards goes.0 goes.1
turn_keeps desk clock lane call old new (Err OutOfMemory) since boards still goes =
    let same = still (λ is. absurd (cc)) in
    ⊎_elim (λ none. nothing_on desk clock lane old new since boards same none.0 none.1) (λ t. ticked_on desk clock lane old new since boards same t) goes

-- a sound clock never fails
pub steady_clock : (desk : DeskSeen) (clock : ClockSeen) (lane : ℕ) (call : Call) (old new : SharedSeen) (r : Result Answered Unanswered) → IsSharedSince desk clock old
    → GoesInTurn lane call old new r → IsSound clock.health → r ≢ Err ClockFault
steady_clock desk clock lane call old new (Ok a) since goes sound = λ is. absurd (cc)
steady_clock desk clock lane call old new (Err ClockFault) since goes sound = absurd (goes.1.failed.1 (since.clock_on.health.sound sound).0)
steady_clock desk clock lane call old new (Err OutOfMemory) since goes sound = λ is. absurd (cc)

continues : (lane : ℕ) (old new : SharedSeen) (more : List Event) → IsAdded lane old new more → Continues lane_of lane old.events new.events
continues lane old new more added = (more, added.events, added.lanes)

-- the one list goes on with what bears the lane
pub turn_continues : (lane : ℕ) (call : Call) (old new : SharedSeen) (r : Result Answered Unanswered) → GoesInTurn lane call old new r → Continues lane_of lane old.events new.events
turn_continues lane call old new (Ok a) goes = continues lane old new (more_of lane call old new (said_in a) goes) (answer_added lane call old new (said_in a) goes)
turn_continues lane call old new (Err ClockFault) goes = continues lane old new (clock_miss lane new ∷ []) (miss_added lane old new goes.0 goes.1)
turn_continues lane call old new (Err OutOfMemory) goes = ⊎_elim
    (λ none. continues lane old new [] (nothing_added lane old new none.0 none.1.its_events))
    (λ t. continues lane old new (Told lane t.at ∷ entered (ticks_of lane old new t).more) (ticks_added lane old new t))
    goes

-- a call that got no moment
pub goes_without : (lane : ℕ) (old new : SharedSeen) (why : Unanswered) → new.desk ≡ old.desk → HasNoMoment lane old.clock new.clock old.events new.events why → GoesWithout lane old new why
goes_without lane old new ClockFault same is = (same, is)
goes_without lane old new OutOfMemory same is = inl (ap (λ (d : DeskSeen). d.state) same, is)

-- ---- what a turn comes to in the one list

-- the state at the end of a shared desk's list
state_is : (desk : DeskSeen) (clock : ClockSeen) (old : SharedSeen) (more : List Event) → IsSharedSince desk clock old
    → state_at desk.opening (old.events ++ more) (length old.events) ≡ old.desk.state
state_is desk clock old more since =
    ap (λ l. after_entries desk.opening (entries_in l)) (take-seam old.events more)
    ∙ (ap (after_entries desk.opening) since.list.entries ∙ after_entries-legal desk.opening old.desk.state.entries old.desk.state since.list.legal)

-- of an answer from a state, all that the list says of it
abbrev IsFrom : ℕ → List Event → List Event → ℕ → Call → Said → ℕ → Choice → State → Type 0
IsFrom lane before list place call says at choice s =
    (says ≡ (answer_with choice lane s at call).outcome.said)
    × (take (length (added_by lane at s (answer_with choice lane s at call))) (drop place list) ≡ added_by lane at s (answer_with choice lane s at call))
    × (place + length (added_by lane at s (answer_with choice lane s at call)) ≡ length list)
    × (elements_of lane_of lane list ≡ elements_of lane_of lane before ++ added_by lane at s (answer_with choice lane s at call))

seam_from : (lane : ℕ) (before list added : List Event) → list ≡ before ++ added → EachBears lane_of lane added
    → (take (length added) (drop (length before) list) ≡ added) × (length before + length added ≡ length list)
    × (elements_of lane_of lane list ≡ elements_of lane_of lane before ++ added)
seam_from lane before list added is each = (
  ap (λ l. take (length added) (drop (length before) l)) is
      ∙ (ap (take (length added)) (drop-seam before added) ∙ (ap (take (length added)) (sym (append-nil added)) ∙ take-seam added [])),
  omega (arith, ap length is, length-append before added),
  ap (elements_of lane_of lane) is
      ∙ (elements_of-append lane_of lane before added ∙ ap (λ l. elements_of lane_of lane before ++ l) (elements_of-each lane added each)),
)

answered_once : (desk : DeskSeen) (clock : ClockSeen) (lane : ℕ) (call : Call) (old new : SharedSeen) (says : Said) → IsSharedSince desk clock old → AnswersInTurn lane call old new says
    → AnsweredOnce desk.opening clock.dial lane old.events new.events call says
answered_once desk clock lane call old new says since a =
    let grows = answer_grows a.choice lane old.desk.state a.at call in
    let added = answer_added lane call old new says a in
    let more : List Event = more_of lane call old new says a in
    let same : both_of grows ≡ entries_since old.desk.state (answer_with a.choice lane old.desk.state a.at call).state =
    sym (since_is old.desk.state (answer_with a.choice lane old.desk.state a.at call).state (both_of grows) (both_grown grows)) in
    let is : more ≡ added_by lane a.at old.desk.state (answer_with a.choice lane old.desk.state a.at call) =
    (λ k. block lane a.at (same k) (unkept_in (a.its_outcome k))) in
    let seam = seam_from lane old.events new.events more added.events added.lanes in
    let from : IsFrom lane old.events new.events (length old.events) call says a.at a.choice old.desk.state =
    let rest = subst (λ l. (take (length l) (drop (length old.events) new.events) ≡ l) × (length old.events + length l ≡ length new.events)
    × (elements_of lane_of lane new.events ≡ elements_of lane_of lane old.events ++ l)) is seam in (a.its_outcome, rest.0, rest.1, rest.2) in
    let here : state_at desk.opening new.events (length old.events) ≡ old.desk.state =
    ap (λ l. state_at desk.opening l (length old.events)) added.events ∙ state_is desk clock old more since in
    let there = subst (IsFrom lane old.events new.events (length old.events) call says a.at a.choice) (sym here) from in (
      record { place = length old.events; at = a.at; choice = a.choice },
      record {
        from = omega arith;
        moment = a.moment;
        told = told_by clock.dial old.clock.dial a.at since.clock_on.dial a.stood;
        reply = there.0;
        stands = there.1;
        ends = (let whole = there.2 in omega (arith, whole));
      },
      there.3,
      there.2,
    )

missed_once : (lane : ℕ) (old new : SharedSeen) → new.desk ≡ old.desk → MissesClock lane old.clock new.clock old.events new.events → MissedOnce lane old.events new.events
missed_once lane old new same m =
    let seam = seam_from lane old.events new.events (clock_miss lane new ∷ []) m.its_events (refl, tt) in
    (old.events, new.clock.health.faults, ([], append-nil old.events), m.its_events, seam.2)

pub told_nothing : (dial : Option Dial) (lane : ℕ) (before list : List Event) → list ≡ before → ToldAtMost dial lane before list
told_nothing dial lane before list same =
    (before, [], inl refl, ([], append-nil before), same ∙ sym (append-nil before), ap (elements_of lane_of lane) same ∙ sym (append-nil (elements_of lane_of lane before)))

told_once : (desk : DeskSeen) (clock : ClockSeen) (lane : ℕ) (old new : SharedSeen) → IsSharedSince desk clock old → TicksAtMost lane old new → ToldAtMost clock.dial lane old.events new.events
told_once desk clock lane old new since t =
    let ticks = ticks_of lane old new t in
    let added = ticks_added lane old new t in
    let left : List Event = Told lane t.at ∷ entered ticks.more in
    let seam = seam_from lane old.events new.events left added.events added.lanes in (
      old.events,
      left,
      inr (t.at, told_by clock.dial old.clock.dial t.at since.clock_on.dial t.stood, ticks.more, ticks.few, ticks.only, refl),
      ([], append-nil old.events),
      added.events,
      seam.2,
    )

pub turn_comes : (desk : DeskSeen) (clock : ClockSeen) (lane : ℕ) (call : Call) (old new : SharedSeen) (r : Result Answered Unanswered) → IsSharedSince desk clock old
    → GoesInTurn lane call old new r → ComesOnce desk.opening clock.dial lane old.events new.events call r
turn_comes desk clock lane call old new (Ok a) since goes = answered_once desk clock lane call old new (said_in a) since goes
turn_comes desk clock lane call old new (Err ClockFault) since goes = missed_once lane old new goes.0 goes.1
turn_comes desk clock lane call old new (Err OutOfMemory) since goes =
    ⊎_elim (λ none. told_nothing clock.dial lane old.events new.events none.1.its_events) (λ t. told_once desk clock lane old new since t) goes

-- ---- for who took the turn

prefix_length : {A : Type 0} (xs ys : List A) → IsPrefix xs ys → length xs ≤ length ys
prefix_length xs ys p = omega (arith, ap length (sym p.1), length-append xs p.0)

-- what a pass had seen before lies before what its turn took, with all that its lane had added
answered_for_pass : (opening : State) (clock : Option Dial) (lane : ℕ) (before taken list : List Event) (call : Call) (says : Said) → IsPrefix before taken
    → elements_of lane_of lane taken ≡ elements_of lane_of lane before → AnsweredOnce opening clock lane taken list call says → AnsweredOnce opening clock lane before list call says
answered_for_pass opening clock lane before taken list call says front own comes =
    let t = comes.1 in
    let less = prefix_length before taken front in
    let from = t.from in (
      comes.0,
      record { from = omega (arith, less, from); moment = t.moment; told = t.told; reply = t.reply; stands = t.stands; ends = t.ends },
      comes.2 ∙ ap (λ l. l ++ added_at opening lane list call comes.0) own,
      comes.3,
    )

unanswered_for_pass : (clock : Option Dial) (lane : ℕ) (before taken list : List Event) (why : Unanswered) → IsPrefix before taken → elements_of lane_of lane taken ≡ elements_of lane_of lane before
    → UnansweredOnce clock lane taken list why → UnansweredOnce clock lane before list why
unanswered_for_pass clock lane before taken list ClockFault front own comes =
    (comes.0, comes.1, prefix_trans before taken comes.0 front comes.2, comes.3, comes.4 ∙ ap (λ l. l ++ missed (miss lane of.Clock comes.1 ∷ [])) own)
unanswered_for_pass clock lane before taken list OutOfMemory front own comes =
    (comes.0, comes.1, comes.2, prefix_trans before taken comes.0 front comes.3, comes.4, comes.5 ∙ ap (λ l. l ++ comes.1) own)

pub comes_for_pass : (opening : State) (clock : Option Dial) (lane : ℕ) (before taken list : List Event) (call : Call) (r : Result Answered Unanswered) → IsPrefix before taken
    → elements_of lane_of lane taken ≡ elements_of lane_of lane before → ComesOnce opening clock lane taken list call r → ComesOnce opening clock lane before list call r
comes_for_pass opening clock lane before taken list call (Ok a) front own comes = answered_for_pass opening clock lane before taken list call (said_in a) front own comes
comes_for_pass opening clock lane before taken list call (Err why) front own comes = unanswered_for_pass clock lane before taken list why front own comes

-- the same of a look
pub looks_for_pass : (opening : State) (clock : Option Dial) (lane : ℕ) (before taken list : List Event) (r : Result Gauges Unanswered) → IsPrefix before taken
    → elements_of lane_of lane taken ≡ elements_of lane_of lane before → LooksOnce opening clock lane taken list r → LooksOnce opening clock lane before list r
looks_for_pass opening clock lane before taken list (Ok g) front own looks = (
  looks.0,
  answered_for_pass opening clock lane before taken list nobodys_call looks.0 front own looks.1,
  looks.2,
)
looks_for_pass opening clock lane before taken list (Err why) front own looks = unanswered_for_pass clock lane before taken list why front own looks

-- ---- what the desk holds at the end of the list

pub state_there : (desk : DeskSeen) (clock : ClockSeen) (s : SharedSeen) → IsSharedSince desk clock s → state_at desk.opening s.events (length s.events) ≡ s.desk.state
state_there desk clock s since =
    ap (λ l. after_entries desk.opening (entries_in l)) (take-length s.events)
    ∙ (ap (after_entries desk.opening) since.list.entries ∙ after_entries-legal desk.opening s.desk.state.entries s.desk.state since.list.legal)
