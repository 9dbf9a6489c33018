-- Every step keeps that each person's accepted calls stand once.
use Rattle.std.proofs.Common.{◌≡◌, ℕ, ◌<◌, ◌||◌, ◌⊎◌, arith, cond, not, Bool, true, false, List, [], ◌∷◌, ◌++◌, option_to_list, append-nil, Option, None, Some, IfSome, inl, inr, refl, ap, sym, ◌∙◌, subst}
use Rattle.std.specs.Prelude.{filter, find}
use Rattle.std.specs.Option.{option_or}
use Rattle.std.specs.List.{AllByRecursion, AllPairs, list_any}
use Rattle.std.proofs.lemmas.List.Elements.{All-from_recursion}
use Rattle.std.proofs.lemmas.List.Folds.{find-append}
use Rattle.std.proofs.lemmas.List.Quantifiers.{all_pairs_push}
use Rattle.asks.specs.declared.call.Ask.{Ask}
use Rattle.asks.specs.declared.call.Call.{Call}
use Rattle.asks.specs.declared.kept.Floor.{Floor}
use Rattle.asks.specs.declared.kept.KeptReply.{KeptReply}
use Rattle.asks.specs.declared.reply.Done.{Done as DoneType}
use Rattle.asks.specs.declared.reply.Reply.{Reply}
use Rattle.asks.specs.declared.reply.Reply.TheVariants.{Done}
use Rattle.asks.specs.Forms.{FloorsRise}
use Rattle.desk_state.specs.declared.entry.Entry.{Entry}
use Rattle.desk_state.specs.declared.entry.What.{What}
use Rattle.desk_state.specs.declared.entry.What.TheVariants as what
use Rattle.desk_state.specs.declared.effect.Effect.{Effect}
use Rattle.desk_state.specs.declared.effect.Sweep.{Sweep}
use Rattle.desk_state.specs.Allowed.{IsEffectOf, IsSweeping, IsUnused, MayLeadTo, MayTickTo}
use Rattle.desk_state.specs.Events.{effected, is_since, kept_after, floors_after}
use Rattle.desk_state.specs.Once.{IsCovered, IsUsed, IfAsked, AreDistinct, AreOnce, IsSwept, KeepsUsed}
use Rattle.desk_state.specs.Requests.{is_request, kept_at, floor_at, raised_by, kept_before}
use Rattle.desk_state.specs.Sound.{AreSingle}
use Rattle.desk_state.specs.State.{State}
use Rattle.desk_state.specs.Step.{entry, kept_reply, accepted, ticked, without_key}
use Rattle.desk_state.proofs.AllowedLaws.{sweep_of}
use Rattle.desk_io.proofs.Each.{each_push, each_weaker}
use Rattle.desk_state.proofs.Each.{found_each}
use Rattle.desk_state.proofs.FloorLaws.{all_covered, still_covered, whence}
use Rattle.desk_state.proofs.Found.{if_found, clash, found_passes, found_filter, none_all, all_none, any_filter, pairs_later, pairs_first, asked_by, other_unlike, first_unlike, new_found, still_found}
use Rattle.desk_state.proofs.Parts.{filter_each, none_found, still_unused}

-- ---- what a sweep takes away

swept_by : (before : ℕ) (actor : List ℕ) (number : ℕ) (x : KeptReply) (ks : List KeptReply) (b c : Bool) → is_since before x ≡ b → is_request actor number x ≡ c
    → AllByRecursion (λ k. is_request k.actor k.number x ≡ false) ks
    → (list_any (is_request actor number) (kept_before before ks) ≡ true → kept_at actor number (filter (is_since before) ks) ≡ None)
    → list_any (is_request actor number) (cond (not b) (x ∷ kept_before before ks) (kept_before before ks)) ≡ true
    → kept_at actor number (cond b (x ∷ filter (is_since before) ks) (filter (is_since before) ks)) ≡ None
swept_by before actor number x ks true c since is unlike later some =
    let none : is_request actor number x ≡ false =
    is ∙ first_unlike actor number x ks c is (any_filter (is_request actor number) (λ k. not (is_since before k)) ks some) unlike in
    rw none (later some)
swept_by before actor number x ks false true since is unlike later some =
    none_all (is_request actor number) (filter (is_since before) ks) (filter_each (λ k. is_request actor number k ≡ false) (is_since before) ks
    (each_weaker (λ k. is_request k.actor k.number x ≡ false) (λ k. is_request actor number k ≡ false) (λ k here. other_unlike actor number k x here is) ks unlike))
swept_by before actor number x ks false false since is unlike later some = later (rest (is_request actor number x) is some)
  where
    rest : (a : Bool) → a ≡ false → (a || list_any (is_request actor number) (kept_before before ks)) ≡ true → list_any (is_request actor number) (kept_before before ks) ≡ true
    rest true e any = absurd (cc)
    rest false e any = any

-- of a request whose reply goes nothing stays
swept_none : (before : ℕ) (actor : List ℕ) (number : ℕ) (ks : List KeptReply) → AreSingle ks → list_any (is_request actor number) (kept_before before ks) ≡ true
    → kept_at actor number (filter (is_since before) ks) ≡ None
swept_none before actor number [] single some = refl
swept_none before actor number (x ∷ ks) single some =
    swept_by before actor number x ks (is_since before x) (is_request actor number x) refl refl
    (pairs_first (λ a b. is_request b.actor b.number a ≡ false) x ks single)
    (λ later. swept_none before actor number ks (pairs_later (λ a b. is_request b.actor b.number a ≡ false) x ks single) later) some

-- how far a sweep raises floors
abbrev SweepRaises : List KeptReply → List Floor → Option Sweep → Type 0
SweepRaises ks fs o = IfSome o (λ w. w.floors ≡ raised_by (kept_before w.before ks) fs)

raises_by : (s : State) (o : Option Sweep) → IfSome o (λ w. IsSweeping s w.before w.attached w.floors) → SweepRaises s.kept s.floors o
raises_by s None is = tt
raises_by s (Some w) is = is.floors

sweep_raises : (s : State) (actor : List ℕ) {a : Ask} {does : Effect} {made : DoneType} → IsEffectOf s actor a does made → SweepRaises s.kept s.floors does.sweep
sweep_raises s actor {does = does} is = raises_by s does.sweep (sweep_of s actor is)

goes_covered : (w : Sweep) (ks : List KeptReply) (fs : List Floor) (actor : List ℕ) (number : ℕ) (k : KeptReply) → FloorsRise fs → w.floors ≡ raised_by (kept_before w.before ks) fs
    → is_since w.before k ≡ false → kept_at actor number ks ≡ Some k → IsCovered (floor_at actor w.floors) number
goes_covered w ks fs actor number k rising raises goes has =
    let gone : List KeptReply = kept_before w.before ks in
    let among : find (is_request actor number) gone ≡ Some k = found_filter (is_request actor number) (λ x. not (is_since w.before x)) ks k has (ap not goes) in
    let own = asked_by actor number k (found_passes (is_request actor number) ks k has) in
    let covered : IsCovered (floor_at k.actor (raised_by gone fs)) k.number =
    subst (λ (o : Option KeptReply). IfSome o (λ x. IsCovered (floor_at x.actor (raised_by gone fs)) x.number)) among
    (found_each (λ x. IsCovered (floor_at x.actor (raised_by gone fs)) x.number) (is_request actor number) gone (all_covered gone fs rising)) in
    subst (λ (list : List Floor). IsCovered (floor_at actor list) number) (sym raises)
    (subst (λ (name : List ℕ). IsCovered (floor_at name (raised_by gone fs)) number) own.0
    (subst (λ (n : ℕ). IsCovered (floor_at k.actor (raised_by gone fs)) n) own.1 covered))

stays_by : (w : Sweep) (ks more : List KeptReply) (fs : List Floor) (actor : List ℕ) (number : ℕ) (k : KeptReply) (b : Bool) → is_since w.before k ≡ b → FloorsRise fs
    → w.floors ≡ raised_by (kept_before w.before ks) fs → kept_at actor number ks ≡ Some k
    → (kept_at actor number (filter (is_since w.before) ks ++ more) ≡ Some k) ⊎ IsCovered (floor_at actor w.floors) number
stays_by w ks more fs actor number k true since rising raises has =
    inl (still_found actor number (filter (is_since w.before) ks) more k (found_filter (is_request actor number) (is_since w.before) ks k has since))
stays_by w ks more fs actor number k false since rising raises has = inr (goes_covered w ks fs actor number k rising raises since has)

stays : (o : Option Sweep) (ks more : List KeptReply) (fs : List Floor) (actor : List ℕ) (number : ℕ) (k : KeptReply) → FloorsRise fs → SweepRaises ks fs o → kept_at actor number ks ≡ Some k
    → (kept_at actor number (kept_after o ks ++ more) ≡ Some k) ⊎ IsCovered (floor_at actor (floors_after o fs)) number
stays None ks more fs actor number k rising raises has = inl (still_found actor number ks more k has)
stays (Some w) ks more fs actor number k rising raises has = stays_by w ks more fs actor number k (is_since w.before k) refl rising raises has

covered_after : (o : Option Sweep) (ks : List KeptReply) (fs : List Floor) (actor : List ℕ) (number : ℕ) → FloorsRise fs → SweepRaises ks fs o → IsCovered (floor_at actor fs) number
    → IsCovered (floor_at actor (floors_after o fs)) number
covered_after None ks fs actor number rising raises is = is
covered_after (Some w) ks fs actor number rising raises is =
    subst (λ (list : List Floor). IsCovered (floor_at actor list) number) (sym raises) (still_covered (kept_before w.before ks) fs actor number rising is)

more_none : (more : Option KeptReply) (ks : List KeptReply) (actor : List ℕ) (number : ℕ) → IfSome more (λ k. kept_at k.actor k.number ks ≡ None)
    → list_any (is_request actor number) ks ≡ true → kept_at actor number (option_to_list more) ≡ None
more_none None ks actor number unkept some = refl
more_none (Some k) ks actor number unkept some = none_all (is_request actor number) (k ∷ []) (unlike (is_request actor number k) refl, tt)
  where
    unlike : (b : Bool) → is_request actor number k ≡ b → is_request actor number k ≡ false
    unlike false e = e
    unlike true e =
        let own = asked_by actor number k e in
        let unkept : kept_at actor number ks ≡ None = ap (λ (name : List ℕ). kept_at name number ks) (sym own.0) ∙ ap (λ (n : ℕ). kept_at k.actor n ks) (sym own.1) ∙ unkept in
        let none = all_none (is_request actor number) ks (none_found (is_request actor number) ks unkept) in absurd (cc)

raised_after : (o : Option Sweep) (ks : List KeptReply) (more : Option KeptReply) (fs : List Floor) (actor : List ℕ) (number : ℕ) → FloorsRise fs → AreSingle ks
    → IfSome more (λ k. kept_at k.actor k.number ks ≡ None) → SweepRaises ks fs o → floor_at actor (floors_after o fs) ≡ Some number
    → (floor_at actor fs ≡ Some number) ⊎ ((list_any (is_request actor number) ks ≡ true) × (kept_at actor number (kept_after o ks ++ option_to_list more) ≡ None))
raised_after None ks more fs actor number rising single unkept raises is = inl is
raised_after (Some w) ks more fs actor number rising single unkept raises is =
    by (whence (kept_before w.before ks) fs actor number rising (ap (λ (list : List Floor). floor_at actor list) (sym raises) ∙ is))
  where
    by : (floor_at actor fs ≡ Some number) ⊎ (list_any (is_request actor number) (kept_before w.before ks) ≡ true)
        → (floor_at actor fs ≡ Some number) ⊎ ((list_any (is_request actor number) ks ≡ true) × (kept_at actor number (filter (is_since w.before) ks ++ option_to_list more) ≡ None))
    by (inl e) = inl e
    by (inr some) =
        let before : list_any (is_request actor number) ks ≡ true = any_filter (is_request actor number) (λ k. not (is_since w.before k)) ks some in
        inr (
          before,
          find-append (is_request actor number) (filter (is_since w.before) ks) (option_to_list more)
              ∙ ap (λ (o : Option KeptReply). option_or o (kept_at actor number (option_to_list more))) (swept_none w.before actor number ks single some)
              ∙ more_none more ks actor number unkept before,
        )

-- ---- what a step leaves

-- what an event leaves of the kept replies and of the floors
keeps_by : (s t : State) (o : Option Sweep) (more : Option KeptReply) → FloorsRise s.floors → AreSingle s.kept → SweepRaises s.kept s.floors o
    → IfSome more (λ k. kept_at k.actor k.number s.kept ≡ None) → t.kept ≡ kept_after o s.kept ++ option_to_list more → t.floors ≡ floors_after o s.floors → KeepsUsed s t
keeps_by s t o more rising single raises unkept one two = record {
  kept = λ actor number. if_found (λ k. (kept_at actor number t.kept ≡ Some k) ⊎ IsCovered (floor_at actor t.floors) number) (kept_at actor number s.kept) (λ k has.
      subst (λ (ks : List KeptReply). (kept_at actor number ks ≡ Some k) ⊎ IsCovered (floor_at actor t.floors) number) (sym one)
      (subst (λ (fs : List Floor). (kept_at actor number (kept_after o s.kept ++ option_to_list more) ≡ Some k) ⊎ IsCovered (floor_at actor fs) number) (sym two)
      (stays o s.kept (option_to_list more) s.floors actor number k rising raises has)));
  covered = λ actor number is. subst (λ (fs : List Floor). IsCovered (floor_at actor fs) number) (sym two) (covered_after o s.kept s.floors actor number rising raises is);
  raised = λ actor. if_found (λ floor. (floor_at actor s.floors ≡ Some floor) ⊎ IsSwept s t actor floor) (floor_at actor t.floors) (λ floor has.
      subst (λ (ks : List KeptReply). (floor_at actor s.floors ≡ Some floor) ⊎ ((list_any (is_request actor floor) s.kept ≡ true) × (kept_at actor floor ks ≡ None))) (sym one)
      (raised_after o s.kept more s.floors actor floor rising single unkept raises (ap (λ (fs : List Floor). floor_at actor fs) (sym two) ∙ has)));
}

-- where a state stays as it is, all stays used
stays_used : (s : State) → KeepsUsed s s
stays_used s = record {
  kept = λ actor number. if_found (λ k. (kept_at actor number s.kept ≡ Some k) ⊎ IsCovered (floor_at actor s.floors) number) (kept_at actor number s.kept) (λ k has. inl has);
  covered = λ actor number is. is;
  raised = λ actor. if_found (λ floor. (floor_at actor s.floors ≡ Some floor) ⊎ IsSwept s s actor floor) (floor_at actor s.floors) (λ floor has. inl has);
}

-- what a call leads to keeps what is used
pub call_uses : (s t : State) (lane : ℕ) (call : Call) (reply : Option Reply) → FloorsRise s.floors → AreSingle s.kept → MayLeadTo lane call s t reply → KeepsUsed s t
call_uses s t lane call reply rising single (inl same) = subst (KeepsUsed s) (sym same.0) (stays_used s)
call_uses s t lane call reply rising single (inr leads) =
    keeps_by s t leads.1.sweep (Some (kept_reply (effected leads.1 s) call leads.2)) rising single (sweep_raises s call.actor leads.3) leads.7.unused.none leads.7.kept leads.8.floors

pub tick_uses : (s t : State) (lane to : ℕ) (reply : Option Reply) → FloorsRise s.floors → AreSingle s.kept → MayTickTo lane to s t reply → KeepsUsed s t
tick_uses s t lane to reply rising single (inl same) = subst (KeepsUsed s) (sym same.0) (stays_used s)
tick_uses s t lane to reply rising single (inr leads) = keeps_by s t None None rising single tt tt (leads.4 ∙ sym (append-nil s.kept)) leads.5.floors

-- ---- what holds of every board

-- a number isn't both at most a floor and above it
not_covered : (floor : Option ℕ) (number : ℕ) → IsCovered floor number → IfSome floor (λ f. f < number) → ⊥
not_covered None number covered above = covered
not_covered (Some f) number covered above = absurd (omega (arith, covered, above))

-- what is used isn't unused
used_apart : (s : State) (a b : Call) (reply : Reply) → IsUsed s a reply → IsUnused s b → a.actor ≡ b.actor → a.number ≡ b.number → ⊥
used_apart s a b reply (inl used) unused one two =
    clash (kept_at b.actor b.number s.kept) used.0 unused.none
    (ap (λ (name : List ℕ). kept_at name b.number s.kept) (sym one) ∙ ap (λ (n : ℕ). kept_at a.actor n s.kept) (sym two) ∙ used.1.held)
used_apart s a b reply (inr covered) unused one two =
    not_covered (floor_at b.actor s.floors) b.number
    (subst (λ (name : List ℕ). IsCovered (floor_at name s.floors) b.number) one (subst (λ (n : ℕ). IsCovered (floor_at a.actor s.floors) n) two covered)) unused.above

distinct_by : (s : State) (earlier later : What) → IfAsked earlier (IsUsed s) → IfAsked later (λ call reply. IsUnused s call) → AreDistinct earlier later
distinct_by s (what.Tick to) later used unused = tt
distinct_by s (what.Asked a reply) (what.Tick to) used unused = tt
distinct_by s (what.Asked a reply) (what.Asked b told) used unused = used_apart s a b reply used unused

still_used : (s t : State) → KeepsUsed s t → (w : What) → IfAsked w (IsUsed s) → IfAsked w (IsUsed t)
still_used s t keeps (what.Tick to) used = tt
still_used s t keeps (what.Asked call reply) (inr covered) = inr (keeps.covered call.actor call.number covered)
still_used s t keeps (what.Asked call reply) (inl used) =
    by (subst (λ (o : Option KeptReply). IfSome o (λ k. (kept_at call.actor call.number t.kept ≡ Some k) ⊎ IsCovered (floor_at call.actor t.floors) call.number)) used.1.held
    (keeps.kept call.actor call.number))
  where
    by : (kept_at call.actor call.number t.kept ≡ Some used.0) ⊎ IsCovered (floor_at call.actor t.floors) call.number → IsUsed t call reply
    by (inl held) = inl (used.0, record { held = held; same = used.1.same }, used.2)
    by (inr covered) = inr covered

none_before : (o p : Option KeptReply) (floor : Option ℕ) (number : ℕ) → IfSome o (λ k. (p ≡ Some k) ⊎ IsCovered floor number) → p ≡ None → IfSome floor (λ f. f < number) → o ≡ None
none_before None p floor number keeps none above = refl
none_before (Some k) p floor number (inl held) none above = absurd (clash p k none held)
none_before (Some k) p floor number (inr covered) none above = absurd (not_covered floor number covered above)

above_by : (floor : Option ℕ) (number low : ℕ) → IsCovered floor low → IfSome floor (λ f. f < number) → low < number
above_by None number low covered above = absurd covered
above_by (Some f) number low covered above = omega (arith, covered, above)

above_before : (o floor : Option ℕ) (number : ℕ) → ((n : ℕ) → IsCovered o n → IsCovered floor n) → IfSome floor (λ f. f < number) → IfSome o (λ f. f < number)
above_before None floor number covered above = tt
above_before (Some low) floor number covered above = above_by floor number low (covered low (omega arith)) above

unused_before : (s t : State) → KeepsUsed s t → (call : Call) → IsUnused t call → IsUnused s call
unused_before s t keeps call unused = record {
  none = none_before (kept_at call.actor call.number s.kept) (kept_at call.actor call.number t.kept) (floor_at call.actor t.floors) call.number (keeps.kept call.actor call.number)
      unused.none unused.above;
  above = above_before (floor_at call.actor s.floors) (floor_at call.actor t.floors) call.number (keeps.covered call.actor) unused.above;
}

-- a call that is entered had an unused number, which is used then
pub record IsFresh (s t : State) (call : Call) (reply : Reply) : Type 0 where
  pub before : IsUnused s call
  pub after : IsUsed t call reply

unused_of : (s t : State) (w : What) → IfAsked w (IsFresh s t) → IfAsked w (λ call reply. IsUnused s call)
unused_of s t (what.Tick to) is = tt
unused_of s t (what.Asked call reply) is = is.before

used_of : (s t : State) (w : What) → IfAsked w (IsFresh s t) → IfAsked w (IsUsed t)
used_of s t (what.Tick to) is = tt
used_of s t (what.Asked call reply) is = is.after

fresh_of : (opening s : State) → ((call : Call) → IsUnused s call → IsUnused opening call) → (w : What) → IfAsked w (λ call reply. IsUnused s call)
    → IfAsked w (λ call reply. IsUnused opening call)
fresh_of opening s since (what.Tick to) is = tt
fresh_of opening s since (what.Asked call reply) is = since call is

once_more : (opening s t : State) (e : Entry) → AreOnce opening s → KeepsUsed s t → IfAsked e.what (IsFresh s t) → t.entries ≡ s.entries ++ e ∷ [] → AreOnce opening t
once_more opening s t e once keeps asked entries =
    let unused = unused_of s t e.what asked in
    record {
      distinct = subst (AllPairs (λ a b. AreDistinct a.what b.what)) (sym entries)
          (all_pairs_push (λ a b. AreDistinct a.what b.what) s.entries e once.distinct (All-from_recursion (λ x. AreDistinct x.what e.what) s.entries
          (each_weaker (λ x. IfAsked x.what (IsUsed s)) (λ x. AreDistinct x.what e.what) (λ x used. distinct_by s x.what e.what used unused) s.entries once.used)));
      used = subst (AllByRecursion (λ x. IfAsked x.what (IsUsed t))) (sym entries)
          (each_push (λ x. IfAsked x.what (IsUsed t)) s.entries e
          (each_weaker (λ x. IfAsked x.what (IsUsed s)) (λ x. IfAsked x.what (IsUsed t)) (λ x used. still_used s t keeps x.what used) s.entries once.used) (used_of s t e.what asked));
      fresh = subst (AllByRecursion (λ x. IfAsked x.what (λ call reply. IsUnused opening call))) (sym entries)
          (each_push (λ x. IfAsked x.what (λ call reply. IsUnused opening call)) s.entries e once.fresh (fresh_of opening s once.since e.what unused));
      since = λ call is. once.since call (unused_before s t keeps call is);
    }

-- an accepted call keeps that each stands once
pub accepted_once : (opening s : State) (lane : ℕ) (call : Call) (made : DoneType) (does : Effect) → FloorsRise s.floors → AreSingle s.kept → IsUnused s call
    → IsEffectOf s call.actor call.ask does made → AreOnce opening s → AreOnce opening (accepted s lane call made does).state
accepted_once opening s lane call made does rising single unused is once =
    let t : State = (accepted s lane call made does).state in
    let k : KeptReply = kept_reply (effected does s) call made in
    let held : kept_at call.actor call.number t.kept ≡ Some k =
    new_found call.actor call.number (kept_after does.sweep s.kept) k (still_unused call.actor call.number does.sweep s.kept unused.none) refl refl in
    once_more opening s t (entry lane (what.Asked (without_key call) (Done made))) once
    (keeps_by s t does.sweep (Some k) rising single (sweep_raises s call.actor is) unused.none refl refl)
    (record { before = record { none = unused.none; above = unused.above }; after = inl (k, record { held = held; same = refl }, refl) }) refl

pub ticked_once : (opening s : State) (lane to : ℕ) → FloorsRise s.floors → AreSingle s.kept → AreOnce opening s → AreOnce opening (ticked s lane to).state
ticked_once opening s lane to rising single once =
    once_more opening s (ticked s lane to).state (entry lane (what.Tick to)) once (keeps_by s (ticked s lane to).state None None rising single tt tt refl refl) tt refl

-- with an empty history nothing stands twice
pub none_once : (s : State) → s.entries ≡ [] → AreOnce s s
none_once s empty = record {
  distinct = subst (AllPairs (λ a b. AreDistinct a.what b.what)) (sym empty) (λ i j d before within. absurd (omega (arith, before, within)));
  used = subst (AllByRecursion (λ x. IfAsked x.what (IsUsed s))) (sym empty) tt;
  fresh = subst (AllByRecursion (λ x. IfAsked x.what (λ call reply. IsUnused s call))) (sym empty) tt;
  since = λ call is. is;
}
