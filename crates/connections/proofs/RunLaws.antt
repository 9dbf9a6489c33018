-- Rounds, one after another: what their connections met, whose links were given back, and how serving ended.
use Rattle.std.proofs.Common.{◌≡◌, ◌≢◌, ◌⊎◌, inl, inr, ⊎_elim, ℕ, suc, ◌+◌, ◌*◌, nat_le, leb-true, leb-false, ◌<◌, ◌≤◌, Bool, true, false, List, [], ◌∷◌, ◌++◌, length, map, filter, Option, Some, None, refl, ap, sym, subst, ◌∙◌, arith, append_assoc, append-nil, length-append, ltb-true, ltb-false, nat_lt, ◌||◌}
use Rattle.std.specs.Prelude.{if◌then◌else◌}
use Rattle.std.specs.List.{AllByRecursion, list_any}
use Rattle.std.proofs.lemmas.Bool.{or_right}
use Rattle.std.proofs.lemmas.List.{map-append}
use Rattle.std.proofs.lemmas.List.Elements.{filter-append}
use mathlib.Core.List.{IsPrefix}
use Rattle.connections.proofs.RoundLaws.{Follows, are_later, are_other}
use Rattle.connections.specs.Doors.{AreAtPort, AreFewer, ArePassed, AreTaken, EndsServing, HadMemory, HasLinks, IsWell, Visit, back_of, came_of, counts_as, end_at_door, end_of, ended_by_clock, is_clock_fault, met_after}
use Rattle.connections.specs.Rounds.{AnyList, AreAccepted, AreGivenBack, AreInTurns, AreServed, BeginsWith, ComesAfter, EndsAccepting, EndsRound, GoesBefore, HasAllOf, HasLanes, HasMet, HasServed, IsBack, back_one, IsInTurns, IsLast, IsRound, left_by}
use Rattle.connections.specs.declared.doors.Met.{Met}
use Rattle.connections.specs.declared.doors.ServeEnd.{ServeEnd}
use Rattle.connections.specs.declared.doors.ServeEnd.TheVariants as ends
use Rattle.connections.specs.declared.rounds.Visited.{Visited}
use Rattle.connections.specs.declared.serving.Served.{Served}
use Rattle.connections.specs.declared.serving.Served.TheVariants as served
use Rattle.desk_io.proofs.HealthLaws.{rose_before}
use Rattle.desk_io.specs.Health.{GoesOn, Health, IsSound, RoseOrFull}
use Rattle.desk_net.specs.Doors.{Links, Passed, passed}
use Rattle.desk_net.specs.Seen.{DoorSeen}
use Rattle.turn_lock.proofs.ElementLaws.{prefix_self, prefix_trans}
use Rattle.turn_lock.specs.Elements.{AddsNoneOf, IsAmong, elements_of}

-- ---- one list of connections after another

came_on : {L : Type 0} (vs ws : List (Visit L)) → came_of (vs ++ ws) ≡ came_of vs ++ came_of ws
came_on vs ws = map-append (λ v. v.came) vs ws

back_on : {L : Type 0} (vs ws : List (Visit L)) → back_of (vs ++ ws) ≡ back_of vs ++ back_of ws
back_on {L} vs ws = ap (map (λ (v : Visit L). v.went)) (filter-append (λ (v : Visit L). v.back) vs ws) ∙ map-append (λ (v : Visit L). v.went) (filter (λ (v : Visit L). v.back) vs) (filter (λ (v : Visit L). v.back) ws)

taken_on : {L : Type 0} (old mid new : Option (Links L)) (vs ws : List (Visit L)) → AreTaken old mid vs → AreTaken mid new ws → AreTaken old new (vs ++ ws)
taken_on None None None vs ws one two = tt
taken_on {L} (Some old) (Some mid) (Some new) vs ws one two = record {
  coming = one.coming ∙ ap (λ ls. came_of vs ++ ls) two.coming ∙ sym (append_assoc (came_of vs) (came_of ws) new.coming) ∙ ap (λ (ls : List L). ls ++ new.coming) (sym (came_on vs ws));
  ended = two.ended ∙ ap (λ (ls : List L). ls ++ back_of ws) one.ended ∙ append_assoc old.ended (back_of vs) (back_of ws) ∙ ap (λ ls. old.ended ++ ls) (sym (back_on vs ws));
}
taken_on None None (Some new) vs ws one two = absurd two
taken_on None (Some mid) new vs ws one two = absurd one
taken_on (Some old) None new vs ws one two = absurd one
taken_on (Some old) (Some mid) None vs ws one two = absurd two

taken_none : {L : Type 0} (old new : Option (Links L)) → new ≡ old → AreTaken old new []
taken_none {L} old new same = subst (λ (d : Option (Links L)). AreTaken old d []) (sym same) (still old)
  where
    still : (d : Option (Links L)) → AreTaken d d []
    still None = tt
    still (Some d) = record { coming = refl; ended = sym (append-nil d.ended) }

length_came : {L : Type 0} (vs : List (Visit L)) (ls : List L) → length (came_of vs ++ ls) ≡ length vs + length ls
length_came [] ls = omega arith
length_came (v ∷ vs) ls = let more = length_came vs ls in omega (arith, more)

-- as many links are to come as were not taken
links_after : {L : Type 0} (old new : Option (Links L)) (vs : List (Visit L)) (n most : ℕ) → AreTaken old new vs → length vs + n ≤ most → HasLinks old most → HasLinks new n
links_after None None vs n most taken few links = tt
links_after {L} (Some old) (Some new) vs n most taken few links =
    let lengths : length old.coming ≡ length vs + length new.coming = ap (λ (ls : List L). length ls) taken.coming ∙ length_came vs new.coming in
    omega (arith, lengths, few, links)
links_after None (Some new) vs n most taken few links = absurd taken
links_after (Some old) None vs n most taken few links = absurd taken

same_lane : (lane : ℕ) → lane + 0 ≡ lane
same_lane lane = omega arith

next_lane : (lane n : ℕ) → lane + suc n ≡ (lane + 1) + n
next_lane lane n = omega arith

in_turns_on : {L E : Type 0} (bears : E → ℕ) (says : ℕ → List E → List E → L → L → Served → Type 0) (from to : ℕ → List E → Type 0) (lane : ℕ) (list : List E) (vs ws : List (Visit L))
    → AreInTurns bears says from to lane list vs → AreInTurns bears says from to (lane + length vs) list ws → AreInTurns bears says from to lane list (vs ++ ws)
in_turns_on bears says from to lane list [] ws one two = subst (λ l. AreInTurns bears says from to l list ws) (same_lane lane) two
in_turns_on bears says from to lane list (v ∷ vs) ws one two = (
  one.0,
  in_turns_on bears says from to (lane + 1) list vs ws one.1 (subst (λ l. AreInTurns bears says from to l list ws) (next_lane lane (length vs)) two),
)

all_on : {L : Type 0} (P : Visit L → Type 0) (vs : List (Visit L)) (v : Visit L) → AllByRecursion P vs → P v → AllByRecursion P (vs ++ v ∷ [])
all_on P [] v all one = (one, tt)
all_on P (w ∷ ws) v all one = (all.0, all_on P ws v all.1 one)

-- ---- what connections met

or_more : (a b c : Bool) → (b ≡ true → c ≡ true) → (a || b) ≡ true → (a || c) ≡ true
or_more true b c more is = refl
or_more false b c more is = more is

some_first : {L : Type 0} (vs : List (Visit L)) (v : Visit L) → list_any ended_by_clock vs ≡ true → list_any ended_by_clock (vs ++ v ∷ []) ≡ true
some_first [] v is = absurd (cc is)
some_first (w ∷ ws) v is = or_more (ended_by_clock w) (list_any ended_by_clock ws) (list_any ended_by_clock (ws ++ v ∷ [])) (some_first ws v) is

some_last : {L : Type 0} (vs : List (Visit L)) (v : Visit L) → v.served ≡ served.ClockFault → list_any ended_by_clock (vs ++ v ∷ []) ≡ true
some_last [] v how = ap (λ (h : Served). is_clock_fault h || false) how
some_last (w ∷ ws) v how = or_right (ended_by_clock w) (list_any ended_by_clock (ws ++ v ∷ [])) (some_last ws v how)

abbrev is_memory : Served → Bool
is_memory served.OutOfMemory = true
is_memory other = false

not_memory : (how : Served) → is_memory how ≡ false → how ≢ served.OutOfMemory
not_memory how other = λ e. let both : true ≡ false = sym (ap is_memory e) ∙ other in absurd (cc)

not_clock : (how : Served) → is_clock_fault how ≡ false → how ≢ served.ClockFault
not_clock how other = λ e. let both : true ≡ false = sym (ap is_clock_fault e) ∙ other in absurd (cc)

-- what one connection more adds to what was met
record Adds {L : Type 0} (met : Met) (v : Visit L) (next : Met) : Type 0 where
  had : next.memory ≡ false → (met.memory ≡ false) × HadMemory v
  well : next.memory ≡ false → next.clock ≡ false → (met.memory ≡ false) × (met.clock ≡ false) × IsWell v
  fault : next.clock ≡ true → (met.clock ≡ true) ⊎ (v.served ≡ served.ClockFault)

adds_memory : {L : Type 0} (met : Met) (v : Visit L) → Adds met v (record met { memory = true })
adds_memory met v = record { had = λ none. absurd (cc); well = λ none fine. absurd (cc); fault = λ late. inl late }

adds_clock : {L : Type 0} (met : Met) (v : Visit L) → v.back ≡ true → v.served ≡ served.ClockFault → Adds met v (record met { clock = true })
adds_clock met v back how = record {
  had = λ none. (none, (back, subst (λ (h : Served). h ≢ served.OutOfMemory) (sym how) (not_memory served.ClockFault refl)));
  well = λ none fine. absurd (cc);
  fault = λ late. inr how;
}

adds_nothing : {L : Type 0} (met : Met) (v : Visit L) (how : Served) → v.back ≡ true → v.served ≡ how → is_memory how ≡ false → is_clock_fault how ≡ false → Adds met v met
adds_nothing met v how back is memory clock =
    let had : HadMemory v = (back, subst (λ (h : Served). h ≢ served.OutOfMemory) (sym is) (not_memory how memory)) in
    record {
      had = λ none. (none, had);
      well = λ none fine. (none, fine, (had, subst (λ (h : Served). h ≢ served.ClockFault) (sym is) (not_clock how clock)));
      fault = λ late. inl late;
    }

adds_by : {L : Type 0} (met : Met) (v : Visit L) (back : Bool) (how : Served) → v.back ≡ back → v.served ≡ how → Adds met v (met_after met (if back then how else served.OutOfMemory))
adds_by met v false how back is = adds_memory met v
adds_by met v true served.OutOfMemory back is = adds_memory met v
adds_by met v true served.ClockFault back is = adds_clock met v back is
adds_by met v true served.Ended back is = adds_nothing met v served.Ended back is refl refl
adds_by met v true served.Cut back is = adds_nothing met v served.Cut back is refl refl
adds_by met v true served.BadHead back is = adds_nothing met v served.BadHead back is refl refl
adds_by met v true served.TooLarge back is = adds_nothing met v served.TooLarge back is refl refl
adds_by met v true served.NoLength back is = adds_nothing met v served.NoLength back is refl refl
adds_by met v true served.WrongMethod back is = adds_nothing met v served.WrongMethod back is refl refl
adds_by met v true served.ReadFault back is = adds_nothing met v served.ReadFault back is refl refl
adds_by met v true served.WriteFault back is = adds_nothing met v served.WriteFault back is refl refl

met_none : {L : Type 0} (met : Met) → met.clock ≡ false → HasMet {L = L} met []
met_none met fine = record { had = λ none. tt; well = λ none well. tt; fault = λ faulty. let both : true ≡ false = sym faulty ∙ fine in absurd (cc) }

met_more : {L : Type 0} (met : Met) (vs : List (Visit L)) (v : Visit L) → HasMet met vs → HasMet (met_after met (counts_as v)) (vs ++ v ∷ [])
met_more met vs v has = record {
  had = λ none. let more = one.had none in all_on HadMemory vs v (has.had more.0) more.1;
  well = λ none fine. let more = one.well none fine in all_on IsWell vs v (has.well more.0 more.1) more.2;
  fault = λ faulty. ⊎_elim (λ before. some_first vs v (has.fault before)) (λ now. some_last vs v now) (one.fault faulty);
}
  where
    one : Adds met v (met_after met (counts_as v))
    one = adds_by met v v.back v.served refl refl

-- ---- links that were given back

abbrev AreEnded : {L : Type 0} → Option (Links L) → Option (Links L) → List (Visit L) → Type 0
AreEnded None None ws = Unit {0}
AreEnded (Some old) (Some new) ws = (new.coming ≡ old.coming) × (new.ended ≡ old.ended ++ back_of ws)
AreEnded _ _ ws = ⊥

ended_same : {L : Type 0} (links : Option (Links L)) → AreEnded links links []
ended_same None = tt
ended_same (Some links) = (refl, sym (append-nil links.ended))

ended_none : {L : Type 0} (old new : Option (Links L)) → new ≡ old → AreEnded old new []
ended_none {L} old new same = subst (λ (d : Option (Links L)). AreEnded old d []) (sym same) (ended_same old)

ended_more : {L : Type 0} (back : Bool) (old mid new : Option (Links L)) (v : Visit L) (ws : List (Visit L)) → IsBack back old mid v.went → AreEnded mid new ws
    → AreEnded old new (record v { back = back } ∷ ws)
ended_more true None None None v ws one rest = tt
ended_more false None None None v ws one rest = tt
ended_more true (Some old) (Some mid) (Some new) v ws one rest = (rest.0 ∙ one.coming, rest.1 ∙ (ap (λ ls. ls ++ back_of ws) one.last ∙ append_assoc old.ended (v.went ∷ []) (back_of ws)))
ended_more {L} false (Some old) (Some mid) (Some new) v ws one rest =
    (rest.0 ∙ ap (λ (d : Links L). d.coming) one, rest.1 ∙ ap (λ (d : Links L). d.ended ++ back_of ws) one)
ended_more true None None (Some new) v ws one rest = absurd rest
ended_more false None None (Some new) v ws one rest = absurd rest
ended_more true None (Some mid) new v ws one rest = absurd one
ended_more false None (Some mid) new v ws one rest = absurd one
ended_more true (Some old) None new v ws one rest = absurd one
ended_more false (Some old) None new v ws one rest = absurd one
ended_more true (Some old) (Some mid) None v ws one rest = absurd rest
ended_more false (Some old) (Some mid) None v ws one rest = absurd rest

back_more : {L : Type 0} (back : Bool) (v : Visit L) (vs : List (Visit L)) → back_one back v.went ++ back_of vs ≡ back_of (record v { back = back } ∷ vs)
back_more true v vs = refl
back_more false v vs = refl

-- the same connections, of which it is said whether the link was given back
record AreReturned {L E : Type 0} (bears : E → ℕ) (says : ℕ → List E → List E → L → L → Served → Type 0) (from to : ℕ → List E → Type 0) (lane : ℕ) (list : List E) (ds : List (Visit L)) (old new : DoorSeen L) (next : Met) (vs : List (Visit L)) : Type 0 where
  ws : List (Visit L)
  many : length ws ≡ length vs
  came : came_of ws ≡ came_of vs
  are : AreInTurns bears says from to lane list ws
  ended : AreEnded old.links new.links ws
  let_out : new.passed ≡ passed old.passed.came (old.passed.went ++ back_of ws)
  met_is : HasMet next (ds ++ ws)

in_turns_back : {L E : Type 0} (bears : E → ℕ) (says : ℕ → List E → List E → L → L → Served → Type 0) (from to : ℕ → List E → Type 0) (lane : ℕ) (list : List E) (v : Visit L) (back : Bool) → IsInTurns bears says from to lane list v
    → IsInTurns bears says from to lane list (record v { back = back })
in_turns_back bears says from to lane list v back is = record {
  before = is.before;
  seen = is.seen;
  begins = is.begins;
  shows = is.shows;
  goes_on = is.goes_on;
  in_turns = is.in_turns;
  fresh = is.fresh;
  within = is.within;
  own = is.own;
}

returned : {L E : Type 0} (bears : E → ℕ) (says : ℕ → List E → List E → L → L → Served → Type 0) (from to : ℕ → List E → Type 0) (lane : ℕ) (list : List E) (ds : List (Visit L)) (old new : DoorSeen L) (met next : Met) (vs : List (Visit L))
    → HasMet met ds → AreInTurns bears says from to lane list vs → AreGivenBack old new met vs next → AreReturned bears says from to lane list ds old new next vs
returned {L} bears says from to lane list ds old new met next [] has are given = record {
  ws = [];
  many = refl;
  came = refl;
  are = tt;
  ended = ended_none old.links new.links (ap (λ (d : DoorSeen L). d.links) given.0);
  let_out = ap (λ (d : DoorSeen L). d.passed) given.0 ∙ ap (λ ls. passed old.passed.came ls) (sym (append-nil old.passed.went));
  met_is = subst (λ (m : Met). HasMet m (ds ++ [])) (sym given.1) (subst (λ (l : List (Visit L)). HasMet met l) (sym (append-nil ds)) has);
}
returned {L} bears says from to lane list ds old new met next (v ∷ vs) has are (back, mid, one, others) =
    let w : Visit L = record v { back = back } in
    let rest = returned bears says from to (lane + 1) list (ds ++ w ∷ []) mid new (met_after met (counts_as w)) next vs (met_more met ds w has) are.1 others in
    record {
      ws = w ∷ rest.ws;
      many = ap suc rest.many;
      came = ap (λ ls. v.came ∷ ls) rest.came;
      are = (in_turns_back bears says from to lane list v back are.0, rest.are);
      ended = ended_more back old.links mid.links new.links v rest.ws one.links rest.ended;
      let_out =
          rest.let_out
          ∙ ap (λ (p : Passed L). passed p.came (p.went ++ back_of rest.ws)) one.let_out
          ∙ ap (λ ls. passed old.passed.came ls) (append_assoc old.passed.went (back_one back v.went) (back_of rest.ws) ∙ ap (λ ls. old.passed.went ++ ls) (back_more back v rest.ws));
      met_is = subst (λ (l : List (Visit L)). HasMet next l) (append_assoc ds (w ∷ []) rest.ws) rest.met_is;
    }

accepted_ended : {L : Type 0} (old mid new : Option (Links L)) (vs ws : List (Visit L)) → AreAccepted old mid vs → came_of ws ≡ came_of vs → AreEnded mid new ws → AreTaken old new ws
accepted_ended None None None vs ws one came two = tt
accepted_ended {L} (Some old) (Some mid) (Some new) vs ws one came two = record {
  coming = one.0 ∙ (ap (λ (ls : List L). ls ++ mid.coming) (sym came) ∙ ap (λ ls. came_of ws ++ ls) (sym two.0));
  ended = two.1 ∙ ap (λ ls. ls ++ back_of ws) one.1;
}
accepted_ended None None (Some new) vs ws one came two = absurd two
accepted_ended None (Some mid) new vs ws one came two = absurd one
accepted_ended (Some old) None new vs ws one came two = absurd one
accepted_ended (Some old) (Some mid) None vs ws one came two = absurd two

-- by the door's record
passed_by : {L : Type 0} (old mid new : Passed L) (vs ws : List (Visit L)) → mid ≡ passed (old.came ++ came_of vs) old.went → came_of ws ≡ came_of vs → new ≡ passed mid.came (mid.went ++ back_of ws) → ArePassed old new ws
passed_by {L} old mid new vs ws one came two =
    two ∙ ap (λ (p : Passed L). passed p.came (p.went ++ back_of ws)) one ∙ ap (λ ls. passed (old.came ++ ls) (old.went ++ back_of ws)) (sym came)

passed_none : {L : Type 0} (old new : Passed L) → new ≡ old → ArePassed old new []
passed_none old new same = same ∙ ap (λ ls. passed ls old.went) (sym (append-nil old.came)) ∙ ap (λ ls. passed (old.came ++ []) ls) (sym (append-nil old.went))

passed_on : {L : Type 0} (old mid new : Passed L) (vs ws : List (Visit L)) → ArePassed old mid vs → ArePassed mid new ws → ArePassed old new (vs ++ ws)
passed_on {L} old mid new vs ws one two =
    two
    ∙ ap (λ (p : Passed L). passed (p.came ++ came_of ws) (p.went ++ back_of ws)) one
    ∙ ap (λ ls. passed ls ((old.went ++ back_of vs) ++ back_of ws)) (append_assoc old.came (came_of vs) (came_of ws) ∙ ap (λ ls. old.came ++ ls) (sym (came_on vs ws)))
    ∙ ap (λ ls. passed (old.came ++ came_of (vs ++ ws)) ls) (append_assoc old.went (back_of vs) (back_of ws) ∙ ap (λ ls. old.went ++ ls) (sym (back_on vs ws)))

-- ---- rounds

-- none was served yet
pub served_none : {L E : Type 0} (bears : E → ℕ) (says : ℕ → List E → List E → L → L → Served → Type 0) (port : ℕ) (began now : DoorSeen L) (list : List E) (numbers : List ℕ) (splits : ℕ) (met : Met)
    → splits ≡ 0 → IsAmong 0 numbers → list ≡ [] → now.links ≡ began.links → now.passed ≡ began.passed → now.opened_at ≡ Some port → GoesOn began.health now.health → met.clock ≡ false
    → AreServed bears says port began now list numbers splits met
served_none bears says port began now list numbers splits met none first empty same same_passed opened goes fine = record {
  visits = [];
  looks = λ n. list;
  are = tt;
  looked = λ n. prefix_self list;
  many = sym none;
  lanes = λ k low high. absurd (omega (arith, low, high, none));
  first = first;
  nothing = ap (elements_of bears 0) empty;
  taken = taken_none began.links now.links same;
  let_by = passed_none began.passed now.passed same_passed;
  met_is = met_none met fine;
  opened = opened;
  later = goes.later;
  sound = λ sound. (goes.sound sound).0;
}

-- what a round leaves of the list and of the numbers
pub record GoesOver {E : Type 0} (bears : E → ℕ) (old new : List E) (numbers next : List ℕ) : Type 0 where
  pub begins : IsPrefix old new
  pub adds : AddsNoneOf bears numbers old new
  pub among : HasAllOf numbers next

-- a look first, and then the round
pub goes_over : {E : Type 0} (bears : E → ℕ) (old mid new : List E) (numbers same next : List ℕ) → same ≡ numbers → IsPrefix old mid → AddsNoneOf bears numbers old mid → IsPrefix mid new → AddsNoneOf bears same mid new
    → HasAllOf same next → GoesOver bears old new numbers next
goes_over bears old mid new numbers same next is begins adds then_begins then_adds all = record {
  begins = prefix_trans old mid new begins then_begins;
  adds = λ k among. then_adds k (subst (IsAmong k) (sym is) among) ∙ adds k among;
  among = λ k among. all k (subst (IsAmong k) (sym is) among);
}

lanes_on : (numbers next : List ℕ) (n m : ℕ) → HasAllOf numbers next → HasLanes numbers 1 n → HasLanes next (n + 1) m → HasLanes next 1 (n + m)
lanes_on numbers next n m all one two = λ k low high. by k low high (nat_lt k (n + 1)) refl
  where
    by : (k : ℕ) → 1 ≤ k → k < 1 + (n + m) → (b : Bool) → nat_lt k (n + 1) ≡ b → IsAmong k next
    by k low high true e = let few = ltb-true k (n + 1) e in all k (one k low (omega (arith, few)))
    by k low high false e = let more = ltb-false k (n + 1) e in two k (omega (arith, more)) (omega (arith, high))

-- ---- what rounds have seen

-- what the first n rounds have seen, where that round is the last of those that are told of
abbrev look_at : {E : Type 0} → ℕ → (ℕ → List E) → List E → Bool → ℕ → List E
look_at round looks list true n = looks n
look_at round looks list false n = list

abbrev looks_on : {E : Type 0} → ℕ → (ℕ → List E) → List E → ℕ → List E
looks_on round looks list n = look_at round looks list (nat_le n round) n

-- a round that was served before is after the same
follows_on : {E : Type 0} (round n : ℕ) (looks : ℕ → List E) (list : List E) → n ≤ 16 * round → Follows 1 n (ComesAfter looks) (ComesAfter (looks_on round looks list)) (λ before. Unit {0})
follows_on {E} round n looks list few = λ k low high before so comes m less. by k high before comes m less (nat_le m round) refl
  where
    by : (k : ℕ) → k < 1 + n → (before : List E) → ComesAfter looks k before → (m : ℕ) → 16 * m < k → (b : Bool) → nat_le m round ≡ b → IsPrefix (looks_on round looks list m) before
    by k high before comes m less true e = subst (λ (b : Bool). IsPrefix (look_at round looks list b m) before) (sym e) (comes m less)
    by k high before comes m less false e = let more = leb-false m round e in absurd (omega (arith, less, high, few, more))

shows_on : {E : Type 0} (round n : ℕ) (looks : ℕ → List E) (list : List E) → Follows 1 n (GoesBefore looks) (GoesBefore (looks_on round looks list)) (λ seen. IsPrefix seen list)
shows_on {E} round n looks list = λ k low high seen within goes m after. by k seen within goes m after (nat_le m round) refl
  where
    by : (k : ℕ) (seen : List E) → IsPrefix seen list → GoesBefore looks k seen → (m : ℕ) → k ≤ 16 * m → (b : Bool) → nat_le m round ≡ b → IsPrefix seen (looks_on round looks list m)
    by k seen within goes m after true e = subst (λ (b : Bool). IsPrefix seen (look_at round looks list b m)) (sym e) (goes m after)
    by k seen within goes m after false e = subst (λ (b : Bool). IsPrefix seen (look_at round looks list b m)) (sym e) within

-- the round itself comes after all that were before
follows_now : {E : Type 0} (round splits n : ℕ) (looks : ℕ → List E) (old first list : List E) → splits ≡ 16 * round → n ≤ 16 → ((m : ℕ) → IsPrefix (looks m) old) → IsPrefix old first
    → Follows (splits + 1) n (BeginsWith first) (ComesAfter (looks_on round looks list)) (λ before. Unit {0})
follows_now {E} round splits n looks old first list is few looked begins = λ k low high before so from m less. by k high before from m less (nat_le m round) refl
  where
    by : (k : ℕ) → k < splits + 1 + n → (before : List E) → IsPrefix first before → (m : ℕ) → 16 * m < k → (b : Bool) → nat_le m round ≡ b → IsPrefix (looks_on round looks list m) before
    by k high before from m less true e =
        subst (λ (b : Bool). IsPrefix (look_at round looks list b m) before) (sym e) (prefix_trans (looks m) first before (prefix_trans (looks m) old first (looked m) begins) from)
    by k high before from m less false e = let more = leb-false m round e in absurd (omega (arith, less, high, is, few, more))

shows_now : {E : Type 0} (round splits n : ℕ) (looks : ℕ → List E) (list : List E) → splits ≡ 16 * round → Follows (splits + 1) n AnyList (GoesBefore (looks_on round looks list)) (λ seen. IsPrefix seen list)
shows_now {E} round splits n looks list is = λ k low high seen within any m after. by k low seen within m after (nat_le m round) refl
  where
    by : (k : ℕ) → splits + 1 ≤ k → (seen : List E) → IsPrefix seen list → (m : ℕ) → k ≤ 16 * m → (b : Bool) → nat_le m round ≡ b → IsPrefix seen (looks_on round looks list m)
    by k low seen within m after true e = let less = leb-true m round e in absurd (omega (arith, low, after, is, less))
    by k low seen within m after false e = subst (λ (b : Bool). IsPrefix seen (look_at round looks list b m)) (sym e) within

looked_on : {E : Type 0} (round : ℕ) (looks : ℕ → List E) (old list : List E) → ((m : ℕ) → IsPrefix (looks m) old) → IsPrefix old list → (n : ℕ) → IsPrefix (looks_on round looks list n) list
looked_on {E} round looks old list looked begins n = by (nat_le n round)
  where
    by : (b : Bool) → IsPrefix (look_at round looks list b n) list
    by true = prefix_trans (looks n) old list (looked n) begins
    by false = prefix_self list

no_more : {L : Type 0} (door : Type 0) (most : ℕ) (vs : List (Visit L)) (failed : Bool) → EndsAccepting door most vs failed → length vs ≤ most
no_more door most vs false all = omega (arith, all)
no_more door most vs true (rose, few) = omega (arith, few)

-- one round more
pub round_on : {L E : Type 0} (bears : E → ℕ) (says : ℕ → List E → List E → L → L → Served → Type 0) (port : ℕ) (began old mid new : DoorSeen L) (list first next : List E) (numbers more : List ℕ) (splits last most round : ℕ) (met after : Met)
    (done : List (Visited L)) (failed : Bool) → splits ≡ 16 * round → most ≤ 16 → AreServed bears says port began old list numbers splits met → IsPrefix list first → GoesOver bears list next numbers more
    → IsRound bears says (splits + 1) most (record { before = old; after = mid }) first next more last done failed
    → ((vs : List (Visit L)) → done ≡ left_by vs → AreGivenBack mid new met vs after) → new.health ≡ mid.health → new.opened_at ≡ mid.opened_at
    → AreServed bears says port began new next more last after
round_on {L} {E} bears says port began old mid new list first next numbers more splits last most number met after done failed full few has begins goes round back health opened =
    let looks = looks_on number has.looks next in
    let again = returned bears says (BeginsWith first) AnyList (splits + 1) next has.visits mid new met after round.visits has.met_is round.are (back round.visits round.left) in
    let many = has.many in
    let given = round.given in
    let count = again.many in
    let both = length-append has.visits again.ws in
    let sum : splits + length round.visits ≡ last = omega (arith, given) in
    let later = has.later in
    let rises = round.later in
    let least = no_more (RoseOrFull old.health.faults mid.health.faults) most round.visits failed round.ends in
    let earlier = are_later bears says (ComesAfter has.looks) (GoesBefore has.looks) 1 list next has.visits goes.begins (λ k low high. goes.adds k (has.lanes k low (omega (arith, high, many)))) has.are in
    record {
      visits = has.visits ++ again.ws;
      looks = looks;
      are = in_turns_on bears says (ComesAfter looks) (GoesBefore looks) 1 next has.visits again.ws
          (are_other bears says (ComesAfter has.looks) (GoesBefore has.looks) (ComesAfter looks) (GoesBefore looks) 1 next has.visits (follows_on number (length has.visits) has.looks next (omega (arith, many, full)))
          (shows_on number (length has.visits) has.looks next) earlier)
          (subst (λ l. AreInTurns bears says (ComesAfter looks) (GoesBefore looks) l next again.ws) (omega (arith, many))
          (are_other bears says (BeginsWith first) AnyList (ComesAfter looks) (GoesBefore looks) (splits + 1) next again.ws
          (follows_now number splits (length again.ws) has.looks list first next full (omega (arith, least, few, count)) has.looked begins) (shows_now number splits (length again.ws) has.looks next full) again.are));
      looked = looked_on number has.looks list next has.looked goes.begins;
      many = omega (arith, both, many, count, given);
      lanes = subst (λ n. HasLanes more 1 n) sum (lanes_on numbers more splits (length round.visits) goes.among has.lanes round.lanes);
      first = goes.among 0 has.first;
      nothing = goes.adds 0 has.first ∙ has.nothing;
      taken = taken_on began.links old.links new.links has.visits again.ws has.taken (accepted_ended old.links mid.links new.links round.visits again.ws round.accepted again.came again.ended);
      let_by = passed_on began.passed old.passed new.passed has.visits again.ws has.let_by (passed_by old.passed mid.passed new.passed round.visits again.ws round.let_in again.came again.let_out);
      met_is = again.met_is;
      opened = opened ∙ (round.port ∙ has.opened);
      later = subst (λ (h : Health). began.health.faults ≤ h.faults) (sym health) (omega (arith, later, rises));
      sound = λ sound. subst (λ (h : Health). IsSound h) (sym health) (round.steady (has.sound sound)).0;
    }

ends_by : {L : Type 0} (old mid new : Health) (splits last most : ℕ) (vs : List (Visit L)) (failed : Bool) → last + 1 ≡ splits + 1 + length vs → new ≡ mid → EndsAccepting (RoseOrFull old.faults mid.faults) most vs failed
    → EndsRound (RoseOrFull old.faults new.faults) (splits + most) last failed
ends_by old mid new splits last most vs false given same all = omega (arith, given, all)
ends_by old mid new splits last most vs true given same (rose, few) = (subst (λ (h : Health). RoseOrFull old.faults h.faults) (sym same) rose, omega (arith, given, few))

pub round_ends : {L E : Type 0} (bears : E → ℕ) (says : ℕ → List E → List E → L → L → Served → Type 0) (old mid new : DoorSeen L) (first list : List E) (numbers : List ℕ) (splits last most : ℕ) (done : List (Visited L)) (failed : Bool)
    → IsRound bears says (splits + 1) most (record { before = old; after = mid }) first list numbers last done failed → new.health ≡ mid.health
    → EndsRound (RoseOrFull old.health.faults new.health.faults) (splits + most) last failed
round_ends bears says old mid new first list numbers splits last most done failed round same = ends_by old.health mid.health new.health splits last most round.visits failed round.given same round.ends

-- ---- how serving ends

fewer : {L : Type 0} (vs : List (Visit L)) (most : ℕ) → length vs < most → AreFewer most vs
fewer [] most few = tt
fewer (v ∷ vs) most few = few

door_ends : {L : Type 0} (door : Type 0) (most : ℕ) (vs : List (Visit L)) (memory : Bool) → door → (memory ≡ false → AllByRecursion HadMemory vs) → AreFewer most vs
    → EndsServing door most vs (if memory then ends.OutOfMemory else ends.DoorFault)
door_ends door most vs true rose had few = inr (inl (rose, few))
door_ends door most vs false rose had few = (rose, few, had refl)

all_end : {L : Type 0} (door : Type 0) (most : ℕ) (vs : List (Visit L)) (memory late : Bool) → (memory ≡ false → AllByRecursion HadMemory vs) → (memory ≡ false → late ≡ false → AllByRecursion IsWell vs)
    → (late ≡ true → list_any ended_by_clock vs ≡ true) → length vs ≡ most → EndsServing door most vs (if memory then ends.OutOfMemory else (if late then ends.ClockFault else ends.Done))
all_end door most vs true late had well some many = inl many
all_end door most vs false true had well some many = (many, had refl, some refl)
all_end door most vs false false had well some many = (many, well refl refl)

at_port : {L : Type 0} (opened_at : Option ℕ) (port : ℕ) (vs : List (Visit L)) → opened_at ≡ Some port → AreAtPort opened_at port vs
at_port opened_at port [] is = tt
at_port opened_at port (v ∷ vs) is = is

-- the door wasn't opened
pub run_unopened : {L E : Type 0} (bears : E → ℕ) (says : ℕ → List E → List E → L → L → Served → Type 0) (began now : DoorSeen L) (seen list : List E) (numbers : List ℕ) (splits port most : ℕ) → splits ≡ 0 → IsAmong 0 numbers → seen ≡ []
    → now.links ≡ began.links → now.passed ≡ began.passed → RoseOrFull began.health.faults now.health.faults → IsLast bears seen numbers splits list → HasServed bears says (record { before = began; after = now }) list port most ends.DoorFault
run_unopened bears says began now seen list numbers splits port most none first empty same same_passed rose last = record {
  visits = [];
  looks = λ n. list;
  are = tt;
  nothing = last.adds 0 first ∙ ap (elements_of bears 0) empty;
  above = λ n more. last.above n (omega (arith, more, none));
  taken = taken_none began.links now.links same;
  let_by = passed_none began.passed now.passed same_passed;
  came_at = tt;
  ends = (rose, tt, tt);
}

-- there was no memory to begin with
pub run_none : {L E : Type 0} (bears : E → ℕ) (says : ℕ → List E → List E → L → L → Served → Type 0) (door : DoorSeen L) (list : List E) (port most : ℕ) → list ≡ []
    → HasServed bears says (record { before = door; after = door }) list port most ends.OutOfMemory
run_none bears says door list port most empty = record {
  visits = [];
  looks = λ n. list;
  are = tt;
  nothing = ap (elements_of bears 0) empty;
  above = λ n more. ap (elements_of bears n) empty;
  taken = taken_none door.links door.links refl;
  let_by = passed_none door.passed door.passed refl;
  came_at = tt;
  ends = inr (inr refl);
}

-- all that were served, by what is said of how that ended
served_by : {L E : Type 0} (bears : E → ℕ) (says : ℕ → List E → List E → L → L → Served → Type 0) (port : ℕ) (began now : DoorSeen L) (seen list : List E) (numbers : List ℕ) (splits most : ℕ) (met : Met) (end : ServeEnd)
    → (has : AreServed bears says port began now seen numbers splits met) → IsLast bears seen numbers splits list → EndsServing (RoseOrFull began.health.faults now.health.faults) most has.visits end
    → HasServed bears says (record { before = began; after = now }) list port most end
served_by bears says port began now seen list numbers splits most met end has last ended =
    let many = has.many in
    record {
      visits = has.visits;
      looks = has.looks;
      are = are_later bears says (ComesAfter has.looks) (GoesBefore has.looks) 1 seen list has.visits last.begins (λ k low high. last.adds k (has.lanes k low (omega (arith, high, many)))) has.are;
      nothing = last.adds 0 has.first ∙ has.nothing;
      above = λ n more. last.above n (omega (arith, more, many));
      taken = has.taken;
      let_by = has.let_by;
      came_at = at_port now.opened_at port has.visits has.opened;
      ends = ended;
    }

-- the next link didn't come
pub run_to_fault : {L E : Type 0} (bears : E → ℕ) (says : ℕ → List E → List E → L → L → Served → Type 0) (began old now : DoorSeen L) (seen list : List E) (numbers : List ℕ) (splits port most : ℕ) (met : Met) (end : ServeEnd)
    → end ≡ end_at_door met → splits < most → began.health.faults ≤ old.health.faults → RoseOrFull old.health.faults now.health.faults → AreServed bears says port began now seen numbers splits met
    → IsLast bears seen numbers splits list → HasServed bears says (record { before = began; after = now }) list port most end
run_to_fault bears says began old now seen list numbers splits port most met end how few later failed has last =
    let many = has.many in
    let rose = RoseOrFull began.health.faults now.health.faults in
    served_by bears says port began now seen list numbers splits most met end has last
    (subst (EndsServing rose most has.visits) (sym how)
    (door_ends rose most has.visits met.memory (rose_before began.health.faults old.health.faults now.health.faults later failed) has.met_is.had (fewer has.visits most (omega (arith, many, few)))))

-- as many connections were served as stated
pub run_to_end : {L E : Type 0} (bears : E → ℕ) (says : ℕ → List E → List E → L → L → Served → Type 0) (began now : DoorSeen L) (seen list : List E) (numbers : List ℕ) (splits port most : ℕ) (met : Met) (end : ServeEnd)
    → end ≡ end_of met → splits ≡ most → AreServed bears says port began now seen numbers splits met → IsLast bears seen numbers splits list
    → HasServed bears says (record { before = began; after = now }) list port most end
run_to_end bears says began now seen list numbers splits port most met end how all has last =
    let rose = RoseOrFull began.health.faults now.health.faults in
    served_by bears says port began now seen list numbers splits most met end has last
    (subst (EndsServing rose most has.visits) (sym how) (all_end rose most has.visits met.memory met.clock has.met_is.had has.met_is.well has.met_is.fault (has.many ∙ all)))

-- ---- what never ends serving

not_door : (memory late : Bool) → (if memory then ends.OutOfMemory else (if late then ends.ClockFault else ends.Done)) ≢ ends.DoorFault
not_door true late = λ is. absurd (cc)
not_door false true = λ is. absurd (cc)
not_door false false = λ is. absurd (cc)

pub end_not_door : (met : Met) (end : ServeEnd) → end ≡ end_of met → end ≢ ends.DoorFault
end_not_door met end how = λ is. not_door met.memory met.clock (sym how ∙ is)

-- a round has links to come for all that it asks for
pub round_links : {L E : Type 0} (bears : E → ℕ) (says : ℕ → List E → List E → L → L → Served → Type 0) (port : ℕ) (began now : DoorSeen L) (list : List E) (numbers : List ℕ) (splits asked most : ℕ) (met : Met)
    → AreServed bears says port began now list numbers splits met → splits + asked ≤ most → HasLinks began.links most → HasLinks now.links asked
round_links bears says port began now list numbers splits asked most met has few links = let many = has.many in links_after began.links now.links has.visits asked most has.taken (omega (arith, many, few)) links

-- ---- what is said of each connection

-- a connection that ended by the clock was served in turns, as is said
pub record SomeByClock {L E : Type 0} (says : ℕ → List E → List E → L → L → Served → Type 0) : Type 0 where
  pub lane : ℕ
  pub before : List E
  pub seen : List E
  pub came : L
  pub went : L
  pub is : says lane before seen came went served.ClockFault

by_clock : (how : Served) → is_clock_fault how ≡ true → how ≡ served.ClockFault
by_clock served.ClockFault is = refl
by_clock served.Ended is = absurd (cc is)
by_clock served.Cut is = absurd (cc is)
by_clock served.BadHead is = absurd (cc is)
by_clock served.TooLarge is = absurd (cc is)
by_clock served.NoLength is = absurd (cc is)
by_clock served.WrongMethod is = absurd (cc is)
by_clock served.ReadFault is = absurd (cc is)
by_clock served.WriteFault is = absurd (cc is)
by_clock served.OutOfMemory is = absurd (cc is)

some_or : {L E : Type 0} (bears : E → ℕ) (says : ℕ → List E → List E → L → L → Served → Type 0) (from to : ℕ → List E → Type 0) (lane : ℕ) (list : List E) (v : Visit L) (rest late : Bool) → ended_by_clock v ≡ late → IsInTurns bears says from to lane list v
    → (rest ≡ true → SomeByClock says) → (late || rest) ≡ true → SomeByClock says
some_or bears says from to lane list v rest true how is later some = record {
  lane = lane;
  before = is.before;
  seen = is.seen;
  came = v.came;
  went = v.went;
  is = subst (λ (h : Served). says lane is.before is.seen v.came v.went h) (by_clock v.served how) is.in_turns;
}
some_or bears says from to lane list v rest false how is later some = later some

pub some_said : {L E : Type 0} (bears : E → ℕ) (says : ℕ → List E → List E → L → L → Served → Type 0) (from to : ℕ → List E → Type 0) (lane : ℕ) (list : List E) (vs : List (Visit L)) → AreInTurns bears says from to lane list vs → list_any ended_by_clock vs ≡ true
    → SomeByClock says
some_said bears says from to lane list [] are some = absurd (cc some)
some_said bears says from to lane list (v ∷ vs) are some =
    some_or bears says from to lane list v (list_any ended_by_clock vs) (ended_by_clock v) refl are.0 (λ rest. some_said bears says from to (lane + 1) list vs are.1 rest) some
