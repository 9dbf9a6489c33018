-- Connections that were served at once, and then one more.
use Rattle.std.proofs.Common.{◌≡◌, ◌⊎◌, inl, inr, ⊎_elim, ℕ, suc, ◌+◌, ◌-◌, ◌<◌, ◌≤◌, nat_lt, Bool, true, false, List, [], ◌∷◌, ◌++◌, length, Option, Some, None, Ok, Err, append-nil, append_assoc, refl, ap, sym, subst, ◌∙◌, arith, ltb-true, ltb-false}
use Rattle.std.specs.Prelude.{if◌then◌else◌}
use mathlib.Core.List.{IsPrefix}
use Rattle.connections.specs.Doors.{HasLinks, Visit, came_of, met_after}
use Rattle.connections.specs.Rounds.{AnyList, AreAccepted, AreGivenBack, AreInTurns, BeginsWith, EndsAccepting, HasAllOf, HasLanes, HasNoneFrom, IsBack, IsGivenBack, IsLetOut, IsInTurns, IsRound, left_by}
use Rattle.connections.specs.declared.doors.Met.{Met}
use Rattle.connections.specs.declared.rounds.Visited.{Visited}
use Rattle.connections.specs.declared.serving.Served.{Served}
use Rattle.connections.specs.declared.serving.Served.TheVariants as served
use Rattle.desk_io.proofs.HealthLaws.{rose_before}
use Rattle.desk_io.specs.Health.{GoesOnWhere, HasFailedWhere, RoseOrFull}
use Rattle.desk_io.specs.Over.{Over}
use Rattle.desk_net.specs.Doors.{Accepts, HasNext, LetsOut, Links, Passed, TakesBack, passed}
use Rattle.desk_net.specs.Seen.{DoorSeen}
use Rattle.turn_lock.proofs.ElementLaws.{prefix_self, prefix_trans}
use Rattle.turn_lock.specs.Elements.{AddsNoneOf, HasNoneAbove, IsAmong, elements_of}

-- ---- numbers

among_left : (n : ℕ) (xs ys : List ℕ) → IsAmong n xs → IsAmong n (xs ++ ys)
among_left n [] ys is = absurd is
among_left n (x ∷ xs) ys is = ⊎_elim inl (λ rest. inr (among_left n xs ys rest)) is

among_right : (n : ℕ) (xs ys : List ℕ) → IsAmong n ys → IsAmong n (xs ++ ys)
among_right n [] ys is = is
among_right n (x ∷ xs) ys is = inr (among_right n xs ys is)

-- what has all numbers of the part that went on has all of the pass that was split
pub all_more : (first split deep own all : List ℕ) → split ≡ first → all ≡ deep ++ own → HasAllOf split deep → HasAllOf first all
all_more first split deep own all same is has = λ k among. subst (IsAmong k) (sym is) (among_left k deep own (has k (subst (IsAmong k) (sym same) among)))

pub own_more : {E : Type 0} (bears : E → ℕ) (first split deep : List ℕ) (before old mid new : List E) → split ≡ first → old ≡ before → HasAllOf split deep → AddsNoneOf bears split old mid → AddsNoneOf bears deep mid new
    → AddsNoneOf bears first before new
own_more bears first split deep before old mid new same seen has one two = λ k among.
    let is = subst (IsAmong k) (sym same) among in two k (has k is) ∙ (one k is ∙ ap (elements_of bears k) seen)

split_le : (lane k : ℕ) → lane ≤ k → (k ≡ lane) ⊎ (lane + 1 ≤ k)
split_le lane k low = by (nat_lt lane k) refl
  where
    by : (b : Bool) → nat_lt lane k ≡ b → (k ≡ lane) ⊎ (lane + 1 ≤ k)
    by true e = inr (let less = ltb-true lane k e in omega (arith, less))
    by false e = inl (let more = ltb-false lane k e in omega (arith, low, more))

-- ---- lanes of which there is nothing yet

pub none_at : {E : Type 0} (bears : E → ℕ) (lane : ℕ) (list : List E) → HasNoneFrom bears lane list → elements_of bears lane list ≡ []
unfolding HasNoneFrom
none_at bears lane list none = none lane (omega arith)

pub none_next : {E : Type 0} (bears : E → ℕ) (lane : ℕ) (old new : List E) → new ≡ old → HasNoneFrom bears lane old → HasNoneFrom bears (lane + 1) new
unfolding HasNoneFrom
none_next bears lane old new same none = λ n low. ap (elements_of bears n) same ∙ none n (omega (arith, low))

-- after a turn of the first pass
pub none_from : {E : Type 0} (bears : E → ℕ) (splits : ℕ) (old new : List E) → new ≡ old → HasNoneAbove bears splits old → HasNoneFrom bears (splits + 1) new
unfolding HasNoneFrom
none_from bears splits old new same none = λ n low. ap (elements_of bears n) same ∙ none n (omega (arith, low))

-- ---- in a list that goes on

in_turns_later : {L E : Type 0} (bears : E → ℕ) (says : ℕ → List E → List E → L → L → Served → Type 0) (from to : ℕ → List E → Type 0) (lane : ℕ) (list more : List E) (v : Visit L) → IsPrefix list more
    → elements_of bears lane more ≡ elements_of bears lane list → IsInTurns bears says from to lane list v → IsInTurns bears says from to lane more v
in_turns_later bears says from to lane list more v goes same is = record {
  before = is.before;
  seen = is.seen;
  begins = is.begins;
  shows = is.shows;
  goes_on = is.goes_on;
  in_turns = is.in_turns;
  fresh = is.fresh;
  within = prefix_trans is.seen list more is.within goes;
  own = same ∙ is.own;
}

pub are_later : {L E : Type 0} (bears : E → ℕ) (says : ℕ → List E → List E → L → L → Served → Type 0) (from to : ℕ → List E → Type 0) (lane : ℕ) (list more : List E) (vs : List (Visit L)) → IsPrefix list more
    → ((k : ℕ) → lane ≤ k → k < lane + length vs → elements_of bears k more ≡ elements_of bears k list) → AreInTurns bears says from to lane list vs → AreInTurns bears says from to lane more vs
are_later bears says from to lane list more [] goes same are = tt
are_later bears says from to lane list more (v ∷ vs) goes same are = (
  in_turns_later bears says from to lane list more v goes (same lane (omega arith) (omega arith)) are.0,
  are_later bears says from to (lane + 1) list more vs goes (λ k low high. same k (omega (arith, low)) (omega (arith, high))) are.1,
)

-- ---- as other predicates say

-- of each lane of so many, one predicate follows from the other
abbrev pub Follows : {E : Type 0} → (lane n : ℕ) → (old new : ℕ → List E → Type 0) → (List E → Type 0) → Type 0
Follows {E} lane n old new where_so = (k : ℕ) → lane ≤ k → k < lane + n → (list : List E) → where_so list → old k list → new k list

pub are_other : {L E : Type 0} (bears : E → ℕ) (says : ℕ → List E → List E → L → L → Served → Type 0) (from to from_too to_too : ℕ → List E → Type 0) (lane : ℕ) (list : List E) (vs : List (Visit L))
    → Follows lane (length vs) from from_too (λ before. Unit {0}) → Follows lane (length vs) to to_too (λ seen. IsPrefix seen list)
    → AreInTurns bears says from to lane list vs → AreInTurns bears says from_too to_too lane list vs
are_other bears says from to from_too to_too lane list [] begins shows are = tt
are_other bears says from to from_too to_too lane list (v ∷ vs) begins shows are = (
  record {
    before = are.0.before;
    seen = are.0.seen;
    begins = begins lane (omega arith) (omega arith) are.0.before tt are.0.begins;
    shows = shows lane (omega arith) (omega arith) are.0.seen are.0.within are.0.shows;
    goes_on = are.0.goes_on;
    in_turns = are.0.in_turns;
    fresh = are.0.fresh;
    within = are.0.within;
    own = are.0.own;
  },
  are_other bears says from to from_too to_too (lane + 1) list vs (λ k low high. begins k (omega (arith, low)) (omega (arith, high))) (λ k low high. shows k (omega (arith, low)) (omega (arith, high))) are.1,
)

-- ---- no link

accepted_none : {L : Type 0} (links : Option (Links L)) → AreAccepted links links []
accepted_none None = tt
accepted_none (Some links) = (refl, refl)

accepted_same : {L : Type 0} (old new : Option (Links L)) → new ≡ old → AreAccepted old new []
accepted_same {L} old new same = subst (λ (links : Option (Links L)). AreAccepted old links []) (sym same) (accepted_none old)

-- none was asked for
pub round_none : {L E : Type 0} (bears : E → ℕ) (says : ℕ → List E → List E → L → L → Served → Type 0) (lane most : ℕ) (door : DoorSeen L) (first list : List E) (numbers : List ℕ) (splits : ℕ) (done : List (Visited L))
    → most ≡ 0 → splits + 1 ≡ lane → done ≡ [] → IsRound bears says lane most (record { before = door; after = door }) first list numbers splits done false
round_none bears says lane most door first list numbers splits done none given empty = record {
  visits = [];
  are = tt;
  accepted = accepted_none door.links;
  let_in = ap (λ ls. passed ls door.passed.went) (sym (append-nil door.passed.came));
  left = empty;
  lanes = λ k low high. absurd (omega (arith, low, high));
  given = omega (arith, given);
  ends = sym none;
  later = omega arith;
  port = refl;
  steady = λ sound. (sound, λ links. refl);
}

has_next : {L : Type 0} (links : Option (Links L)) (most : ℕ) → 0 < most → HasLinks links most → HasNext links
has_next None most some has = tt
has_next (Some links) most some has = omega (arith, some, has)

-- the door failed
pub round_failed : {L E F : Type 0} (bears : E → ℕ) (says : ℕ → List E → List E → L → L → Served → Type 0) (lane most : ℕ) (door : Over (DoorSeen L)) (first list : List E) (numbers : List ℕ) (splits : ℕ) (done : List (Visited L))
    (e : F) → 0 < most → splits + 1 ≡ lane → done ≡ [] → Accepts door.before.links door.after.links (Err e) → door.after.opened_at ≡ door.before.opened_at
    → door.after.passed ≡ door.before.passed → GoesOnWhere (HasNext door.before.links) door.before.health door.after.health → HasFailedWhere (HasNext door.before.links) door.before.health door.after.health
    → IsRound bears says lane most door first list numbers splits done true
round_failed {L = L} bears says lane most door first list numbers splits done e some given empty told port same_passed goes failed = record {
  visits = [];
  are = tt;
  accepted = accepts_none door.before.links door.after.links told;
  let_in = same_passed ∙ ap (λ ls. passed ls door.before.passed.went) (sym (append-nil door.before.passed.came));
  left = empty;
  lanes = λ k low high. absurd (omega (arith, low, high));
  given = omega (arith, given);
  ends = (failed.0, some);
  later = goes.later;
  port = port;
  steady = λ sound. ((goes.sound sound).0, λ links. absurd (failed.1 sound (has_next door.before.links most some links)));
}
  where
    accepts_none : (old new : Option (Links L)) → Accepts old new (Err e) → AreAccepted old new []
    accepts_none None None is = tt
    accepts_none (Some old) (Some new) is = accepted_same (Some old) (Some new) (ap Some is)
    accepts_none None (Some new) is = absurd is
    accepts_none (Some old) None is = absurd is

-- ---- one link more

accepted_more : {L : Type 0} (E : Type 0) (old mid new : Option (Links L)) (v : Visit L) (vs : List (Visit L)) → Accepts {E = E} old mid (Ok v.came) → AreAccepted mid new vs → AreAccepted old new (v ∷ vs)
accepted_more E None None None v vs one rest = tt
accepted_more E (Some old) (Some mid) (Some new) v vs one rest = (one.first ∙ ap (λ ls. v.came ∷ ls) rest.0, rest.1 ∙ one.ended)
accepted_more E None None (Some new) v vs one rest = absurd rest
accepted_more E None (Some mid) new v vs one rest = absurd one
accepted_more E (Some old) None new v vs one rest = absurd one
accepted_more E (Some old) (Some mid) None v vs one rest = absurd rest

links_left : {L : Type 0} (E : Type 0) (old mid : Option (Links L)) (came : L) (most : ℕ) → Accepts {E = E} old mid (Ok came) → HasLinks old most → HasLinks mid (most - 1)
links_left E None None came most one has = tt
links_left {L} E (Some old) (Some mid) came most one has = let lengths = ap (λ (ls : List L). length ls) one.first in omega (arith, lengths, has)
links_left E None (Some mid) came most one has = absurd one
links_left E (Some old) None came most one has = absurd one

-- what is known of the two that were served at once, and of the list that their passes have seen together
pub record IsJoined {E : Type 0} (bears : E → ℕ) (lane : ℕ) (own deep list : List E) (own_numbers deep_numbers numbers : List ℕ) : Type 0 where
  pub own_is : own_numbers ≡ lane ∷ []
  pub all_are : numbers ≡ deep_numbers ++ own_numbers
  pub deep_within : IsPrefix deep list
  pub own_within : IsPrefix own list
  pub deep_adds : AddsNoneOf bears deep_numbers deep list
  pub own_adds : AddsNoneOf bears own_numbers own list

lanes_more : (lane n : ℕ) (deep own numbers : List ℕ) → own ≡ lane ∷ [] → numbers ≡ deep ++ own → HasLanes deep (lane + 1) n → HasLanes numbers lane (suc n)
lanes_more lane n deep own numbers number is lanes = λ k low high.
    subst (IsAmong k) (sym is)
    (⊎_elim (λ same. among_right k deep own (subst (IsAmong k) (sym number) (inl same))) (λ above. among_left k deep own (lanes k above (omega (arith, high)))) (split_le lane k low))

pub round_more : {L E : Type 0} (F : Type 0) (bears : E → ℕ) (says : ℕ → List E → List E → L → L → Served → Type 0) (lane most : ℕ) (old mid new : DoorSeen L) (first split own deep list before : List E) (own_numbers deep_numbers numbers : List ℕ)
    (splits deep_splits : ℕ) (came : L) (one : Visited L) (done all : List (Visited L)) (failed : Bool) → 0 < most → splits ≡ deep_splits → Accepts {E = F} old.links mid.links (Ok came)
    → mid.passed ≡ passed (old.passed.came ++ came ∷ []) old.passed.went → mid.opened_at ≡ old.opened_at → GoesOnWhere (HasNext old.links) old.health mid.health → says lane before own came one.link one.served → before ≡ first → split ≡ first → IsPrefix before own → elements_of bears lane before ≡ []
    → IsRound bears says (lane + 1) (most - 1) (record { before = mid; after = new }) split deep deep_numbers deep_splits done failed → IsJoined bears lane own deep list own_numbers deep_numbers numbers
    → all ≡ done ++ one ∷ [] → IsRound bears says lane most (record { before = old; after = new }) first list numbers splits all failed
round_more {L} {E} F bears says lane most old mid new first split own deep list before own_numbers deep_numbers numbers splits deep_splits came one done all failed some same accepts lets port goes served begins begun since fresh rest joined items =
    let v : Visit L = record { came = came; went = one.link; served = one.served; back = false } in
    let later = rest.later in
    let less = goes.later in
    let given = rest.given in
    record {
      visits = v ∷ rest.visits;
      are = (
        record {
          before = before;
          seen = own;
          begins = subst (λ (x : List E). IsPrefix first x) (sym begins) (prefix_self first);
          shows = tt;
          goes_on = since;
          in_turns = served;
          fresh = fresh;
          within = joined.own_within;
          own = joined.own_adds lane (subst (IsAmong lane) (sym joined.own_is) (inl refl));
        },
        are_later bears says (BeginsWith first) AnyList (lane + 1) deep list rest.visits joined.deep_within (λ k low high. joined.deep_adds k (rest.lanes k low high))
            (subst (λ (x : List E). AreInTurns bears says (BeginsWith x) AnyList (lane + 1) deep rest.visits) begun rest.are),
      );
      accepted = accepted_more F old.links mid.links new.links v rest.visits accepts rest.accepted;
      let_in =
          rest.let_in
          ∙ ap (λ (p : Passed L). passed (p.came ++ came_of rest.visits) p.went) lets
          ∙ ap (λ ls. passed ls old.passed.went) (append_assoc old.passed.came (came ∷ []) (came_of rest.visits));
      left = items ∙ ap (λ ls. ls ++ one ∷ []) rest.left;
      lanes = lanes_more lane (length rest.visits) deep_numbers own_numbers numbers joined.own_is joined.all_are rest.lanes;
      given = omega (arith, given, same);
      ends = ends_more failed rest.ends;
      later = omega (arith, later, less);
      port = rest.port ∙ port;
      steady = λ sound.
          let middle = (goes.sound sound).0 in
          let after = rest.steady middle in
          (after.0, λ links. after.1 (links_left F old.links mid.links came most accepts links));
    }
  where
    ends_more : (b : Bool) → EndsAccepting (RoseOrFull mid.health.faults new.health.faults) (most - 1) rest.visits b
        → EndsAccepting (RoseOrFull old.health.faults new.health.faults) most (record { came = came; went = one.link; served = one.served; back = false } ∷ rest.visits) b
    ends_more false many = omega (arith, some, many)
    ends_more true (rose, few) = (rose_before old.health.faults mid.health.faults new.health.faults goes.later rose, omega (arith, some, few))

-- ---- links that are given back

snoc_same : {A : Type 0} (xs ys : List A) (a b : A) → xs ++ a ∷ [] ≡ ys ++ b ∷ [] → (xs ≡ ys) × (a ≡ b)
snoc_same [] [] a b same = (refl, cc same)
snoc_same [] (y ∷ []) a b same = absurd (cc same)
snoc_same [] (y ∷ z ∷ ys) a b same = absurd (cc same)
snoc_same (x ∷ []) [] a b same = absurd (cc same)
snoc_same (x ∷ z ∷ xs) [] a b same = absurd (cc same)
snoc_same (x ∷ xs) (y ∷ ys) a b same =
    let heads : x ≡ y = cc same in
    let rest = snoc_same xs ys a b (cc same) in
    (cc (heads, rest.0), rest.1)

never_nil : {A : Type 0} (a : A) (xs : List A) → [] ≡ xs ++ a ∷ [] → ⊥
never_nil a [] e = absurd (cc e)
never_nil a (x ∷ xs) e = absurd (cc e)

back_ok : {L T : Type 0} (F : Type 0) (old new : Option (Links L)) (went : L) (x : T) → TakesBack {E = F} old new went (Ok x) → IsBack true old new went
back_ok F None None went x is = tt
back_ok F (Some old) (Some new) went x is = is
back_ok F None (Some new) went x is = absurd is
back_ok F (Some old) None went x is = absurd is

back_err : {L F : Type 0} (T : Type 0) (old new : Option (Links L)) (went : L) (e : F) → TakesBack {T = T} old new went (Err e) → IsBack false old new went
back_err T None None went e is = tt
back_err T (Some old) (Some new) went e is = is
back_err T None (Some new) went e is = absurd is
back_err T (Some old) None went e is = absurd is

pub one_given : {L T : Type 0} (F : Type 0) (old new : DoorSeen L) (met next : Met) (one : Visited L) (x : T) → TakesBack {E = F} old.links new.links one.link (Ok x)
    → LetsOut {E = F} old.passed new.passed one.link (Ok x) → next ≡ met_after met one.served → IsGivenBack old new met one next
one_given F old new met next one x took lets counts = (true, record { links = back_ok F old.links new.links one.link x took; let_out = lets }, counts)

pub one_lost : {L F : Type 0} (T : Type 0) (old new : DoorSeen L) (met next : Met) (one : Visited L) (e : F) → TakesBack {T = T} old.links new.links one.link (Err e)
    → LetsOut {T = T} old.passed new.passed one.link (Err e) → next ≡ met_after met served.OutOfMemory → IsGivenBack old new met one next
one_lost T old new met next one e took lets counts = (
  false,
  record {
    links = back_err T old.links new.links one.link e took;
    let_out = lets ∙ ap (λ ls. passed old.passed.came ls) (sym (append-nil old.passed.went));
  },
  counts,
)

-- nothing was left to give back
pub given_none : {L : Type 0} (door : DoorSeen L) (met : Met) (done : List (Visited L)) (vs : List (Visit L)) → done ≡ [] → done ≡ left_by vs → AreGivenBack door door met vs met
given_none door met done [] none is = (refl, refl)
given_none door met done (v ∷ vs) none is = absurd (never_nil (record { link = v.went; served = v.served }) (left_by vs) (sym none ∙ is))

-- one more was given back
pub given_more : {L : Type 0} (old mid new : DoorSeen L) (met next last : Met) (done rest : List (Visited L)) (one : Visited L) (vs : List (Visit L)) → done ≡ rest ++ one ∷ []
    → done ≡ left_by vs → IsGivenBack old mid met one next
    → ((ws : List (Visit L)) → rest ≡ left_by ws → AreGivenBack mid new next ws last) → AreGivenBack old new met vs last
given_more old mid new met next last done rest one [] items is (back, gave, counts) others = absurd (never_nil one rest (sym is ∙ items))
given_more {L} old mid new met next last done rest one (v ∷ vs) items is (back, gave, counts) others =
    let parts = snoc_same rest (left_by vs) one (record { link = v.went; served = v.served }) (sym items ∙ is) in (
      back,
      mid,
      subst (λ (w : Visited L). IsLetOut back old mid w.link) parts.1 gave,
      subst (λ (m : Met). AreGivenBack mid new m vs last) (counts ∙ ap (λ (w : Visited L). met_after met (if back then w.served else served.OutOfMemory)) parts.1) (others vs parts.0),
    )
