-- Connections that were served at once over one desk: what the one list says of the clock.
use Rattle.std.proofs.Common.{◌≡◌, ◌≢◌, ◌⊎◌, inl, inr, ⊎_elim, ℕ, ◌+◌, ◌<◌, ◌≤◌, ◌==◌, nat_lt, Bool, true, false, cond, List, [], ◌∷◌, ◌++◌, length, filter, Option, None, Some, refl, sym, ap, ◌∙◌, subst, arith, ◌||◌, eq-eqb, ltb-true, ltb-false}
use Rattle.std.specs.List.{AllByRecursion, list_any}
use Rattle.std.proofs.lemmas.Bool.{or_parts, or_right}
use Rattle.std.proofs.lemmas.List.Folds.{list_any-append}
use Rattle.connections.specs.Crossed.{Crosses, IsConnectionBy}
use Rattle.connections.specs.Connections.{Answered, ClockFailed, EndsConnection, IsConnection, Kind, Last}
use Rattle.connections.specs.Doors.{EndsServing, IsWell, Visit, ended_by_clock, is_clock_fault}
use Rattle.connections.specs.Rounds.{AreInTurns, ComesAfter, GoesBefore, HasServed, IsInTurns}
use Rattle.connections.specs.Writing.{Wrote}
use Rattle.connections.specs.declared.doors.ServeEnd.{ServeEnd}
use Rattle.connections.specs.declared.doors.ServeEnd.TheVariants as ends
use Rattle.connections.specs.declared.serving.Served.{Served}
use Rattle.connections.specs.declared.serving.Served.TheVariants as served
use Rattle.desk.proofs.Choices.{rise_lower, rise_within}
use Rattle.desk.specs.Keeping.{Given, Rise, kept_at}
use Rattle.desk.specs.Seen.{DeskAt, DeskSeen}
use Rattle.desk_io.specs.Health.{HasFailed, IsSound, RoseOrFull}
use Rattle.desk_io.specs.Over.{Over}
use Rattle.desk_net.specs.Clocks.{Dial}
use Rattle.desk_net.specs.Seen.{ClockSeen, DoorSeen, LinkGoesOn, LinkSeen}
use Rattle.desk_net.specs.Streams.{unread}
use Rattle.desk_state.specs.State.{State}
use Rattle.desk_state.specs.declared.entry.Entry.{Entry}
use Rattle.service.specs.Connections.{in_lane}
use Rattle.service.specs.Doors.{IsServedInTurns, IsServing}
use Rattle.service.specs.Turning.{GoesInTurns}
use Rattle.service.specs.Events.{entered, faults_in, faults_of, is_of, lane_of, missed, misses_in, state_at}
use Rattle.service.specs.Runs.{IsLeft, IsRun, Reply, added_for, all_added}
use Rattle.service.specs.Shared.{IsOneList, IsSharedSince, SharedSeen, at_present, counted_from}
use Rattle.service.specs.Turns.{added_by, entries_since, given_at, missed_by, missed_with, unkept_in}
use Rattle.service.specs.declared.events.Event.{Event}
use Rattle.service.specs.declared.events.Event.TheVariants.{Told, Entered, Missed}
use Rattle.service.specs.declared.misses.Miss.{Miss}
use Rattle.service.specs.declared.misses.MissOf.TheVariants as of
use Rattle.turn_lock.specs.Elements.{elements_of}

-- a link that was ended tells what it told before
pub served_ended : (pages : Bool) {L : Type 0} (link : L → LinkSeen) (opening : State) (clock : ClockSeen) (lane : ℕ) (before seen : List Event) (came mid went : L) (how : Served) → link went ≡ link mid
    → IsServedInTurns pages link opening clock lane before seen came mid how → IsServedInTurns pages link opening clock lane before seen came went how
served_ended pages link opening clock lane before seen came mid went how same is = record {
  answered = subst (λ (l : LinkSeen). Wrote (link came).stream l.stream (IsConnection (in_lane pages lane) (GoesInTurns pages opening clock.dial lane before seen) (HasFailed (link came).health l.health) (unread (link came).stream) (unread l.stream) how)) (sym same) is.answered;
  crossed =
      subst (λ (l : LinkSeen). Crosses (link came).crossed l.crossed (IsConnectionBy (in_lane pages lane) (GoesInTurns pages opening clock.dial lane before seen) (HasFailed (link came).health l.health) how))
      (sym same) is.crossed;
  goes_on = subst (λ (l : LinkSeen). LinkGoesOn (link came) l) (sym same) is.goes_on;
  steady = is.steady;
}

-- ---- numbers that rise

rise_some : (low : ℕ) (ns : List ℕ) (high : ℕ) → Rise low ns high → ns ≢ [] → low < high
rise_some low [] high rise some = absurd (some refl)
rise_some low (n ∷ ns) high rise some = let first = rise.0 in let rest = rise_within n ns high rise.1 in omega (arith, first, rest)

-- ---- misses of the clock

abbrev missed_clock : Miss → Bool
missed_clock m = is_of of.Clock m.source

abbrev is_clock_miss : Event → Bool
is_clock_miss (Told lane at) = false
is_clock_miss (Entered e) = false
is_clock_miss (Missed m) = missed_clock m

any_entered : (es : List Entry) → list_any is_clock_miss (entered es) ≡ false
any_entered [] = refl
any_entered (e ∷ es) = any_entered es

-- the misses have those that the one list has
any_misses : (list : List Event) → list_any is_clock_miss list ≡ list_any missed_clock (misses_in list)
any_misses [] = refl
any_misses (Told lane at ∷ list) = any_misses list
any_misses (Entered e ∷ list) = any_misses list
any_misses (Missed m ∷ list) = ap (λ b. missed_clock m || b) (any_misses list)

fault_step : (m : Miss) (ms : List Miss) (b : Bool) → missed_clock m ≡ b → faults_of of.Clock (m ∷ ms) ≡ cond b (m.faults ∷ faults_of of.Clock ms) (faults_of of.Clock ms)
fault_step m ms true is = rw is refl
fault_step m ms false is = rw is refl

no_faults : (ms : List Miss) → list_any missed_clock ms ≡ false → faults_of of.Clock ms ≡ []
no_faults [] none = refl
no_faults (m ∷ ms) none =
    let parts = or_parts (missed_clock m) (list_any missed_clock ms) none in fault_step m ms false parts.0 ∙ no_faults ms parts.1

some_step : (m : Miss) (ms : List Miss) (b : Bool) → missed_clock m ≡ b → (list_any missed_clock ms ≡ true → faults_of of.Clock ms ≢ []) → (b || list_any missed_clock ms) ≡ true → faults_of of.Clock (m ∷ ms) ≢ []
some_step m ms true is rest some = λ none. absurd (cc (fault_step m ms true is, none))
some_step m ms false is rest some = λ none. rest some (sym (fault_step m ms false is) ∙ none)

some_faults : (ms : List Miss) → list_any missed_clock ms ≡ true → faults_of of.Clock ms ≢ []
some_faults [] some = absurd (cc some)
some_faults (m ∷ ms) some = some_step m ms (missed_clock m) refl (some_faults ms) some

-- ---- what a filter leaves

-- what is found in a part is found in the whole
among_step : (p q : Event → Bool) (e : Event) (es : List Event) (b : Bool) → q e ≡ b → (list_any p (filter q es) ≡ true → list_any p es ≡ true) → list_any p (filter q (e ∷ es)) ≡ true → list_any p (e ∷ es) ≡ true
among_step p q e es true is rest some =
    let here : (p e || list_any p (filter q es)) ≡ true = sym (ap (list_any p) (ap (λ b. cond b (e ∷ filter q es) (filter q es)) is)) ∙ some in either_step (p e) (list_any p (filter q es)) (list_any p es) rest here
  where
    either_step : (a b c : Bool) → (b ≡ true → c ≡ true) → (a || b) ≡ true → (a || c) ≡ true
    either_step true b c more some = refl
    either_step false b c more some = more some
among_step p q e es false is rest some =
    or_right (p e) (list_any p es) (rest (sym (ap (list_any p) (ap (λ b. cond b (e ∷ filter q es) (filter q es)) is)) ∙ some))

any_among : (p q : Event → Bool) (es : List Event) → list_any p (filter q es) ≡ true → list_any p es ≡ true
any_among p q [] some = some
any_among p q (e ∷ es) some = among_step p q e es (q e) refl (any_among p q es) some

-- what isn't found in the whole isn't found in what follows its first
none_step : (p q : Event → Bool) (e : Event) (es : List Event) (b : Bool) → q e ≡ b → list_any p (filter q (e ∷ es)) ≡ false → list_any p (filter q es) ≡ false
none_step p q e es true is none = (or_parts (p e) (list_any p (filter q es)) (sym (ap (list_any p) (ap (λ b. cond b (e ∷ filter q es) (filter q es)) is)) ∙ none)).1
none_step p q e es false is none = sym (ap (list_any p) (ap (λ b. cond b (e ∷ filter q es) (filter q es)) is)) ∙ none

-- what is found under no lane isn't found
none_of_any : (list : List Event) → ((n : ℕ) → list_any is_clock_miss (elements_of lane_of n list) ≡ false) → list_any is_clock_miss list ≡ false
none_of_any [] none = refl
none_of_any (e ∷ es) none =
    let own : elements_of lane_of (lane_of e) (e ∷ es) ≡ e ∷ elements_of lane_of (lane_of e) es = ap (λ b. cond b (e ∷ elements_of lane_of (lane_of e) es) (elements_of lane_of (lane_of e) es)) (eq-eqb (lane_of e) (lane_of e) refl) in
    let first = or_parts (is_clock_miss e) (list_any is_clock_miss (elements_of lane_of (lane_of e) es)) (sym (ap (list_any is_clock_miss) own) ∙ none (lane_of e)) in
    ap (λ b. b || list_any is_clock_miss es) first.0
    ∙ none_of_any es (λ n. none_step is_clock_miss (λ x. lane_of x == n) e es (lane_of e == n) refl (none n))

-- ---- what one connection adds

kept_only : (lane : ℕ) (number : Option ℕ) → list_any is_clock_miss (missed (missed_with lane number)) ≡ false
kept_only lane None = refl
kept_only lane (Some faults) = refl

-- a reply never adds a miss of the clock
none_added : (lane at : ℕ) (s : State) (g : Given) → list_any is_clock_miss (added_by lane at s g) ≡ false
none_added lane at s g =
    list_any-append is_clock_miss (entered (entries_since s g.state)) (missed (missed_by lane g.outcome.said))
    ∙ (ap (λ b. b || list_any is_clock_miss (missed (missed_by lane g.outcome.said))) (any_entered (entries_since s g.state)) ∙ kept_only lane (unkept_in g.outcome.said))

replies_add_none : (opening : State) (lane : ℕ) (list : List Event) (rs : List Reply) → list_any is_clock_miss (all_added opening lane list rs) ≡ false
replies_add_none opening lane list [] = refl
replies_add_none opening lane list (r ∷ rs) =
    list_any-append is_clock_miss (added_for opening lane list r) (all_added opening lane list rs)
    ∙ (ap (λ b. b || list_any is_clock_miss (all_added opening lane list rs)) (none_added lane r.turn.at (state_at opening list r.turn.place) (given_at opening lane list r.call r.turn)) ∙ replies_add_none opening lane list rs)

-- the lane's misses of the clock are what the end of its turns left
run_adds : (opening : State) (dial : Option Dial) (lane : ℕ) (before list : List Event) (rs : List Reply) (last : Last) → elements_of lane_of lane before ≡ [] → (run : IsRun opening dial lane before list rs last)
    → list_any is_clock_miss (elements_of lane_of lane list) ≡ list_any is_clock_miss run.left
run_adds opening dial lane before list rs last fresh run =
    ap (list_any is_clock_miss) (run.own ∙ ap (λ (l : List Event). l ++ (all_added opening lane list rs ++ run.left)) fresh)
    ∙ (list_any-append is_clock_miss (all_added opening lane list rs) run.left ∙ ap (λ b. b || list_any is_clock_miss run.left) (replies_add_none opening lane list rs))

failed_adds : (dial : Option Dial) (lane : ℕ) (left : List Event) → IsLeft dial lane ClockFailed left → list_any is_clock_miss left ≡ true
failed_adds dial lane left is = ap (list_any is_clock_miss) is.1

answered_adds : (dial : Option Dial) (lane : ℕ) (left : List Event) → IsLeft dial lane Answered left → list_any is_clock_miss left ≡ false
answered_adds dial lane left is = ap (list_any is_clock_miss) is

-- however a connection ends but by a fault of the clock or want of memory, all its requests were answered
last_is : {X : Type 0} (k : Kind X) (link : Type 0) (more : List X) (last : Last) (left rest : Option (List ℕ)) (how : Served) (piece : List ℕ) → how ≢ served.ClockFault → how ≢ served.OutOfMemory
    → EndsConnection k link more last left rest how piece → last ≡ Answered
last_is k link more last left rest served.Ended piece clock memory ends = ⊎_elim (λ a. a.0.1) (λ b. b.1.1) ends
last_is k link more last left rest served.Cut piece clock memory ends = ends.0.1
last_is k link more last left rest served.BadHead piece clock memory ends = ends.0.1
last_is k link more last left rest served.TooLarge piece clock memory ends = ends.0.1
last_is k link more last left rest served.NoLength piece clock memory ends = ends.0.1
last_is k link more last left rest served.WrongMethod piece clock memory ends = ends.0.1
last_is k link more last left rest served.ReadFault piece clock memory ends = ends.0.1
last_is k link more last left rest served.WriteFault piece clock memory ends = ends.1.1.1
last_is k link more last left rest served.ClockFault piece clock memory ends = absurd (clock refl)
last_is k link more last left rest served.OutOfMemory piece clock memory ends = absurd (memory refl)

abbrev IsIn : {L : Type 0} → (ℕ → List Event) → (L → LinkSeen) → State → ClockSeen → ℕ → List Event → Visit L → Type 0
IsIn looks link opening clock lane list v = IsInTurns lane_of (IsServedInTurns false link opening clock) (ComesAfter looks) (GoesBefore looks) lane list v

abbrev AreIn : {L : Type 0} → (ℕ → List Event) → (L → LinkSeen) → State → ClockSeen → ℕ → List Event → List (Visit L) → Type 0
AreIn looks link opening clock lane list vs = AreInTurns lane_of (IsServedInTurns false link opening clock) (ComesAfter looks) (GoesBefore looks) lane list vs

-- one that ended by a fault of the clock left its miss in the one list
visit_missed : {L : Type 0} (looks : ℕ → List Event) (link : L → LinkSeen) (opening : State) (clock : ClockSeen) (lane : ℕ) (list : List Event) (v : Visit L) → IsIn looks link opening clock lane list v → v.served ≡ served.ClockFault
    → list_any is_clock_miss list ≡ true
visit_missed looks link opening clock lane list v is how =
    let one = is.in_turns.answered in
    let by : IsConnection (in_lane false lane) (GoesInTurns false opening clock.dial lane is.before is.seen) (HasFailed (link v.came).health (link v.went).health) (unread (link v.came).stream) (unread (link v.went).stream) served.ClockFault one.0 =
    subst (λ (h : Served). IsConnection (in_lane false lane) (GoesInTurns false opening clock.dial lane is.before is.seen) (HasFailed (link v.came).health (link v.went).health) (unread (link v.came).stream) (unread (link v.went).stream) h one.0) how one.2 in
    let goes : GoesInTurns false opening clock.dial lane is.before is.seen (by.xs ++ by.more) ClockFailed = subst (λ (last : Last). GoesInTurns false opening clock.dial lane is.before is.seen (by.xs ++ by.more) last) by.ends.1 by.goes_on in
    any_among is_clock_miss (λ e. lane_of e == lane) list
    (ap (list_any is_clock_miss) is.own
    ∙ (run_adds opening clock.dial lane is.before is.seen _ ClockFailed is.fresh goes.turns ∙ failed_adds clock.dial lane goes.turns.left goes.turns.is_left))

-- one that ended well left none
visit_well : {L : Type 0} (looks : ℕ → List Event) (link : L → LinkSeen) (opening : State) (clock : ClockSeen) (lane : ℕ) (list : List Event) (v : Visit L) → IsIn looks link opening clock lane list v → IsWell v
    → list_any is_clock_miss (elements_of lane_of lane list) ≡ false
visit_well looks link opening clock lane list v is well =
    let one = is.in_turns.answered.2 in
    let goes : GoesInTurns false opening clock.dial lane is.before is.seen (one.xs ++ one.more) Answered =
    subst (λ (last : Last). GoesInTurns false opening clock.dial lane is.before is.seen (one.xs ++ one.more) last) (last_is (in_lane false lane) _ one.more one.last one.left _ v.served one.piece well.1 well.0.1 one.ends) one.goes_on in
    ap (list_any is_clock_miss) is.own
    ∙ (run_adds opening clock.dial lane is.before is.seen _ Answered is.fresh goes.turns ∙ answered_adds clock.dial lane goes.turns.left goes.turns.is_left)

-- ---- all connections

clock_is : (how : Served) → is_clock_fault how ≡ true → how ≡ served.ClockFault
clock_is served.ClockFault is = refl
clock_is served.Ended is = absurd (cc is)
clock_is served.Cut is = absurd (cc is)
clock_is served.BadHead is = absurd (cc is)
clock_is served.TooLarge is = absurd (cc is)
clock_is served.NoLength is = absurd (cc is)
clock_is served.WrongMethod is = absurd (cc is)
clock_is served.ReadFault is = absurd (cc is)
clock_is served.WriteFault is = absurd (cc is)
clock_is served.OutOfMemory is = absurd (cc is)

-- some connection ended by a fault of the clock: the clock missed something, and wasn't sound
abbrev ClockMissed : ClockSeen → List Event → Type 0
ClockMissed clock list = (list_any is_clock_miss list ≡ true) × (IsSound clock.health → ⊥)

missed_step : {L : Type 0} (looks : ℕ → List Event) (link : L → LinkSeen) (opening : State) (clock : ClockSeen) (lane : ℕ) (list : List Event) (v : Visit L) (vs : List (Visit L)) (b : Bool) → ended_by_clock v ≡ b
    → IsIn looks link opening clock lane list v → (list_any ended_by_clock vs ≡ true → ClockMissed clock list) → (b || list_any ended_by_clock vs) ≡ true → ClockMissed clock list
missed_step looks link opening clock lane list v vs true is one rest some =
    let how = clock_is v.served is in (visit_missed looks link opening clock lane list v one how, λ sound. one.in_turns.steady sound how)
missed_step looks link opening clock lane list v vs false is one rest some = rest some

visits_missed : {L : Type 0} (looks : ℕ → List Event) (link : L → LinkSeen) (opening : State) (clock : ClockSeen) (lane : ℕ) (list : List Event) (vs : List (Visit L)) → AreIn looks link opening clock lane list vs
    → list_any ended_by_clock vs ≡ true → ClockMissed clock list
visits_missed looks link opening clock lane list [] are some = absurd (cc some)
visits_missed looks link opening clock lane list (v ∷ vs) are some =
    missed_step looks link opening clock lane list v vs (ended_by_clock v) refl are.0 (visits_missed looks link opening clock (lane + 1) list vs are.1) some

split_le : (lane k : ℕ) → lane ≤ k → (k ≡ lane) ⊎ (lane + 1 ≤ k)
split_le lane k low = by (nat_lt lane k) refl
  where
    by : (b : Bool) → nat_lt lane k ≡ b → (k ≡ lane) ⊎ (lane + 1 ≤ k)
    by true e = inr (let less = ltb-true lane k e in omega (arith, less))
    by false e = inl (let more = ltb-false lane k e in omega (arith, low, more))

visits_well : {L : Type 0} (looks : ℕ → List Event) (link : L → LinkSeen) (opening : State) (clock : ClockSeen) (lane : ℕ) (list : List Event) (vs : List (Visit L)) → AreIn looks link opening clock lane list vs → AllByRecursion IsWell vs
    → (k : ℕ) → lane ≤ k → k < lane + length vs → list_any is_clock_miss (elements_of lane_of k list) ≡ false
visits_well looks link opening clock lane list [] are well k low high = absurd (omega (arith, low, high))
visits_well looks link opening clock lane list (v ∷ vs) are well k low high =
    ⊎_elim (λ same. ap (λ (n : ℕ). list_any is_clock_miss (elements_of lane_of n list)) same ∙ visit_well looks link opening clock lane list v are.0 well.0)
    (λ above. visits_well looks link opening clock (lane + 1) list vs are.1 well.1 k above (omega (arith, high))) (split_le lane k low)

-- where all were served well there is no miss of the clock
served_well : {L : Type 0} (link : L → LinkSeen) (opening : State) (clock : ClockSeen) (door : Over (DoorSeen L)) (list : List Event) (port most : ℕ) (end : ServeEnd)
    → (is : HasServed lane_of (IsServedInTurns false link opening clock) door list port most end) → AllByRecursion IsWell is.visits → list_any is_clock_miss list ≡ false
served_well link opening clock door list port most end is well = none_of_any list (λ n. by n (nat_lt n 1) refl (nat_lt (length is.visits) n) refl)
  where
    by : (n : ℕ) (a : Bool) → nat_lt n 1 ≡ a → (b : Bool) → nat_lt (length is.visits) n ≡ b → list_any is_clock_miss (elements_of lane_of n list) ≡ false
    by n true low b high = let zero : n ≡ 0 = (let less = ltb-true n 1 low in omega (arith, less)) in ap (λ (k : ℕ). list_any is_clock_miss (elements_of lane_of k list)) zero ∙ ap (list_any is_clock_miss) is.nothing
    by n false low true high = ap (list_any is_clock_miss) (is.above n (ltb-true (length is.visits) n high))
    by n false low false high =
        let one = ltb-false n 1 low in
        let last = ltb-false (length is.visits) n high in
        visits_well is.looks link opening clock 1 list is.visits is.are well n (omega (arith, one)) (omega (arith, last))

-- ---- the whole

-- of a desk that was just opened
pub list_opened : (desk : DeskSeen) (clock : ClockSeen) (s : SharedSeen) → desk.state ≡ desk.opening → IsSharedSince desk clock s
    → IsOneList (record { before = clock; after = s.clock }) (record { before = at_present desk; after = at_present s.desk }) s.events
list_opened desk clock s opened since =
    subst (λ (o : State). IsOneList (record { before = clock; after = s.clock }) (record { before = record { state = o; kept = kept_at desk.keeper }; after = at_present s.desk }) s.events) (sym opened) since.list

-- the keeper's faults may be counted from an earlier count
pub list_from : (clock : Over ClockSeen) (desk : Over DeskAt) (list : List Event) (less : ℕ) → less ≤ desk.before.kept.faults → IsOneList clock desk list
    → IsOneList clock (record { before = counted_from less desk.before; after = desk.after }) list
list_from clock desk list less under is = record {
  entries = is.entries;
  legal = is.legal;
  kept = rise_lower less desk.before.kept.faults (faults_in of.Keeper list) desk.after.kept.faults under is.kept;
  timely = is.timely;
  counted = is.counted;
  timed = is.timed;
  clocked = is.clocked;
  follow = is.follow;
  stored = is.stored;
}

serving_is : {L : Type 0} (link : L → LinkSeen) (door : Over (DoorSeen L)) (desk : DeskSeen) (clock : ClockSeen) (s : SharedSeen) (port most : ℕ) (end : ServeEnd) → desk.state ≡ desk.opening
    → IsSharedSince desk clock s → HasServed lane_of (IsServedInTurns false link desk.opening clock) door s.events port most end
    → IsServing link door (record { before = clock; after = s.clock }) (record { before = at_present desk; after = at_present s.desk }) port most end
serving_is {L} link door desk clock s port most end opened since served =
    let rose = RoseOrFull door.before.health.faults door.after.health.faults in
    let vs = served.visits in
    let same = any_misses s.events in
    record {
      list = s.events;
      served = subst (λ (o : State). HasServed lane_of (IsServedInTurns false link o clock) door s.events port most end) (sym opened) served;
      is = list_opened desk clock s opened since;
      well = λ is.
          let well : (length vs ≡ most) × AllByRecursion IsWell vs = subst (λ (e : ServeEnd). EndsServing rose most vs e) is served.ends in
          no_faults (misses_in s.events) (sym same ∙ served_well link desk.opening clock door s.events port most end served well.1);
      by_clock = λ is.
          let some : EndsServing rose most vs ends.ClockFault = subst (λ (e : ServeEnd). EndsServing rose most vs e) is served.ends in
          let by = visits_missed served.looks link desk.opening clock 1 s.events vs served.are some.2 in
          let misses = some_faults (misses_in s.events) (sym same ∙ by.0) in
          let more = rise_some clock.health.faults (faults_in of.Clock s.events) s.clock.health.faults since.list.timely misses in
          ((omega (arith, more), by.1), misses);
    }

-- of a desk and a clock as they were handed in, by the names that all turns have for them
pub serving_so : {L : Type 0} (link : L → LinkSeen) (door : Over (DoorSeen L)) (desk d : DeskSeen) (clock k : ClockSeen) (s : SharedSeen) (port most : ℕ) (end : ServeEnd) → d ≡ desk → k ≡ clock
    → d.state ≡ d.opening → IsSharedSince desk clock s → HasServed lane_of (IsServedInTurns false link desk.opening clock) door s.events port most end
    → IsServing link door (record { before = k; after = s.clock }) (record { before = at_present d; after = at_present s.desk }) port most end
serving_so {L} link door desk d clock k s port most end one two opened since served =
    let opens : desk.state ≡ desk.opening = subst (λ (x : DeskSeen). x.state ≡ x.opening) one opened in
    subst (λ (x : DeskSeen). IsServing link door (record { before = k; after = s.clock }) (record { before = at_present x; after = at_present s.desk }) port most end) (sym one)
    (subst (λ (x : ClockSeen). IsServing link door (record { before = x; after = s.clock }) (record { before = at_present desk; after = at_present s.desk }) port most end) (sym two)
    (serving_is link door desk clock s port most end opens since served))

-- ---- the same, counted from before

pub serving_from : {L : Type 0} (link : L → LinkSeen) (door : Over (DoorSeen L)) (clock : Over ClockSeen) (desk : Over DeskAt) (port most : ℕ) (end : ServeEnd) (less : ℕ) → less ≤ desk.before.kept.faults
    → IsServing link door clock desk port most end
    → IsServing link door clock (record { before = counted_from less desk.before; after = desk.after }) port most end
serving_from link door clock desk port most end less under is =
    record { list = is.list; served = is.served; is = list_from clock desk is.list less under is.is; well = is.well; by_clock = is.by_clock }
