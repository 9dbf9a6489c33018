-- Each step of a pass keeps the rule.
use Rattle.std.proofs.Common.{◌≡◌, ℕ, ◌+◌, ◌%◌, ◌^◌, List, [], ◌∷◌, ◌++◌, Option, Some, None, length, get_or, set, refl, sym, ap, ◌∙◌, subst, inl, arith, length-set, get_or-set_other, get_or-set_same}
use mathlib.Core.Logic.{dite}
use mathlib.Core.List.{IsPrefix}
use mathlib.Core.Option as maybe
use mathlib.Core.Option.{none, some}
use native.Mathlib.Decide.{ℕ_discrete}
use Rattle.atomic_table.specs.Table.{State, step, keeps, takes, gives, rest, stepped, Allows}
use Rattle.atomic_table.proofs.Lists.{set_here, one_turn}
use Rattle.turn_lock.specs.Elements.{IsAmong, Continues, EachBears, elements_of}
use Rattle.turn_lock.specs.Plays.{Compares, Counts, Draws, Lifts, Looks, Lowers, Serves}
use Rattle.turn_lock.specs.Rule.{IsOrderly, Knows, StandsAt}
use Rattle.turn_lock.specs.Views.{At, at_stage, numbers_of, passes_in, ticket_of, tickets_in, turns_in, up_to, waiting}
use Rattle.turn_lock.specs.declared.view.Stage.{Stage}
use Rattle.turn_lock.specs.declared.view.Stage.TheVariants.{Idle, Waiting, Entered, Holding}
use Rattle.turn_lock.specs.declared.view.View.{View}
use Rattle.turn_lock.proofs.ElementLaws.{adds_none, prefix_more, prefix_self}
use Rattle.turn_lock.proofs.ViewLaws.{all_set, apart_set, none_out_before, sum_by-set}
use Rattle.turn_lock.proofs.TurnLaws.{few_tickets, front, nobody_else, same_state, stands_drawn, ticket_in_range}

-- ---- what a pass knows after a step

module _ {E : Type 0} (bears : E → ℕ) where
  -- at another stage
  knows_there : (list : List E) (given : ℕ) (v : View E) (stage : Stage) → Knows bears list given v → Knows bears list given (at_stage v stage)
  knows_there list given v stage k = record { begins = k.begins; whole = k.whole; numbers = k.numbers; splits = k.splits; joint = k.joint }

  -- once it waits, and what its join left is forgotten
  knows_waiting : (list : List E) (given t : ℕ) (v : View E) → Knows bears list given v → Knows bears list given (waiting v t)
  knows_waiting list given t v k = record { begins = k.begins; whole = k.whole; numbers = k.numbers; splits = k.splits; joint = tt }

  -- once it has seen the whole list
  knows_all : (list new : List E) (given : ℕ) (v : View E) → Knows bears list given v → Knows bears new given (up_to v new)
  knows_all list new given v k = record { begins = prefix_self new; whole = λ _ _. refl; numbers = k.numbers; splits = k.splits; joint = tt }

  -- another pass, where the list goes on with elements of a number that isn't its own
  knows_still : (m : ℕ) (list new more : List E) (given : ℕ) (x : View E) → new ≡ list ++ more → EachBears bears m more → (IsAmong m (numbers_of x) → ⊥) → Knows bears list given x → Knows bears new given x
  knows_still m list new more given x grown each other k = record {
    begins = subst (IsPrefix x.seen) (sym grown) (prefix_more x.seen list more k.begins);
    whole = λ n is. adds_none bears n m list new more grown each (λ e. other (subst (λ i. IsAmong i (numbers_of x)) e is)) ∙ k.whole n is;
    numbers = k.numbers;
    splits = k.splits;
    joint = k.joint;
  }

module _ {T : Type 0} where
  -- what lies in the only slot
  abbrev value_or : T → Option T → T
  value_or d None = d
  value_or d (Some x) = x

  abbrev first_or : T → List (ℕ × Option T) → T
  first_or d [] = d
  first_or d (c ∷ cs) = value_or d c.1

  slot_value : (x y : T) → ◌≡◌ {A = List (ℕ × Option T)} ((0, Some x) ∷ []) ((0, Some y) ∷ []) → x ≡ y
  slot_value x y e = ap (first_or x) e

module _ {T E : Type 0} (list_of : T → List E) (bears : E → ℕ) where
  abbrev Rule : State (Option T) (View E) → Type 0
  Rule = IsOrderly list_of bears

  pub draws : (slots id : ℕ) (m : At T E) → m.0.stage ≡ Idle → Allows Rule slots id m 1 (λ n. (n + 1) % 2 ^ 64) (Draws (step slots 1 1 0 none) m)
  draws slots id m idle s r _ at small =
      let v : View E = m.0 in
      let t : ℕ = r.drawn in
      let w : View E = waiting v t in
      let ticketless : tickets_in v.stage ≡ 0 = ap tickets_in idle in
      let is_pass : passes_in v.stage ≡ 1 = ap passes_in idle in
      let tickets = sum_by-set (λ (x : View E). tickets_in x.stage) s.views id v w at in
      let passes = sum_by-set (λ (x : View E). passes_in x.stage) s.views id v w at in
      let found : ℕ = get_or s.words 1 0 in
      let wide = r.wide in
      let tally = r.tally in
      let few = r.few in
      let draws = r.draws in (
        w,
        keeps,
        tt,
        record {
          list = r.list;
          drawn = t + 1;
          served = r.served;
          given = r.given;
          wide = length-set s.words 1 ((found + 1) % 2 ^ 64) ∙ wide;
          long = r.long;
          counts = get_or-set_other s.words 1 0 ((found + 1) % 2 ^ 64) 0 (λ e. omega arith) ∙ r.counts;
          draws = get_or-set_same s.words 1 ((found + 1) % 2 ^ 64) 0 (omega arith) ∙ omega arith;
          serves = get_or-set_other s.words 1 2 ((found + 1) % 2 ^ 64) 0 (λ e. omega arith) ∙ r.serves;
          tally = omega arith;
          few = omega arith;
          small = r.small;
          knows = all_set (λ _ x. passes_in x.stage ≡ 1 → Knows bears r.list r.given x) s.views id w (λ _. knows_waiting bears r.list r.given t v (r.knows id v at is_pass))
              (λ j x _ there. r.knows j x there);
          stands = all_set (λ _ x. StandsAt r.served (t + 1) r.list s.homes x.seen x.stage) s.views id w (omega arith, omega arith)
              (λ j x _ there. stands_drawn r.served t r.list s.homes x.seen x.stage (r.stands j x there));
          apart = apart_set s.views id w r.apart (λ j x ne there. (
            (λ _ one. (r.apart id j v x at there (λ q. ne (sym q))).0 is_pass one),
            (λ _ waits same. let l = (ticket_in_range r.served t r.list s.homes x.seen x.stage waits (r.stands j x there)).1 in omega arith),
          ));
          fresh = r.fresh;
          home = λ nobody. r.home (none_out_before s.views id v w at (ap turns_in idle) nobody);
        },
        (t, refl, refl, r.draws),
      )

  pub looks : (slots id t : ℕ) (m : At T E) → m.0.stage ≡ Waiting t → Allows Rule slots id m 2 (λ n. n) (Looks list_of bears (step slots 2 0 0 none) m)
  looks slots id t m waits s r _ at small =
      let v : View E = m.0 in
      let has : tickets_in v.stage ≡ 1 = ap tickets_in waits in
      let is_pass : passes_in v.stage ≡ 1 = ap passes_in waits in
      let found : ℕ = get_or s.words 2 0 in
      dite (ℕ_discrete found (ticket_of v.stage % 2 ^ 64))
      (λ hit.
      let range = ticket_in_range r.served r.drawn r.list s.homes v.seen v.stage has (r.stands id v at) in
      let few = few_tickets list_of bears s r in
      let turn : ticket_of v.stage ≡ r.served = sym (one_turn r.served (ticket_of v.stage) (2 ^ 64) range.0 (let l = range.1 in omega arith) (sym r.serves ∙ hit)) in
      let home = r.home (nobody_else list_of bears s r id v at has turn (ap turns_in waits)) in
      let x : T = home.0 in
      let is : list_of x ≡ r.list = home.2 in
      let knows = r.knows id v at is_pass in
      let w : View E = at_stage (up_to v (list_of x)) (Holding (ticket_of v.stage)) in
      let long = r.long in
      let wide = r.wide in (
        w,
        takes 0 (Some x),
        home.1,
        front list_of bears s r id v w (set s.words 2 found) (set s.homes 0 none) r.list r.served at has is_pass turn refl refl refl (λ _. turn)
            (length-set s.words 2 found ∙ wide) (length-set s.homes 0 none ∙ long)
            (get_or-set_other s.words 2 0 found 0 (λ e. omega arith) ∙ r.counts) (get_or-set_other s.words 2 1 found 0 (λ e. omega arith)) (get_or-set_same s.words 2 found 0 (omega arith) ∙ r.serves)
            (subst (λ (l : List E). Knows bears l r.given w) is (knows_there bears (list_of x) r.given (up_to v (list_of x)) (Holding (ticket_of v.stage)) (knows_all bears r.list (list_of x) r.given v knows)))
            (λ _ _ h. h) (turn, range.1, is) r.fresh (λ o. absurd (omega arith)),
        (
          (λ _. (
            x,
            refl,
            refl,
            subst (IsPrefix v.seen) (sym is) knows.begins,
            (λ n i. ap (elements_of bears n) is ∙ knows.whole n i),
            (λ z n l. let given = knows.splits z in ap (elements_of bears n) is ∙ r.fresh n (omega arith)),
          )),
          λ miss. absurd (miss hit),
        ),
      ))
      (λ miss. (v, keeps, tt, same_state list_of bears s r 2 id m.1 v at, ((λ hit. absurd (miss hit)), λ _. refl)))

  pub counts : (slots id t n : ℕ) (m : At T E) (x : T) → m.0.stage ≡ Holding t → m.1 ≡ (0, Some x) ∷ [] → Continues bears m.0.number m.0.seen (list_of x) → n ≡ length (list_of x)
      → Allows Rule slots id m 0 (λ _. n) (λ _. Counts list_of (step slots 0 n 0 none) m n)
  counts slots id t n m x holds has_value goes is s r _ at small =
      let v : View E = m.0 in
      let has : tickets_in v.stage ≡ 1 = ap tickets_in holds in
      let is_pass : passes_in v.stage ≡ 1 = ap passes_in holds in
      let is_out : turns_in v.stage ≡ 1 = ap turns_in holds in
      let stood : StandsAt r.served r.drawn r.list s.homes v.seen (Holding t) = subst (StandsAt r.served r.drawn r.list s.homes v.seen) holds (r.stands id v at) in
      let turn : ticket_of v.stage ≡ r.served = ap ticket_of holds ∙ stood.0 in
      let knows = r.knows id v at is_pass in
      let new : List E = list_of x in
      let w : View E = up_to v new in
      let wide = r.wide in
      let more : List E = goes.0 in
      let grown : new ≡ r.list ++ more = goes.1 ∙ ap (λ (l : List E). l ++ more) stood.2 in (
        w,
        keeps,
        tt,
        front list_of bears s r id v w (set s.words 0 n) s.homes new r.served at has is_pass turn refl is_pass (ap (λ (k : ℕ). r.served + k) has) (λ _. turn)
            (length-set s.words 0 n ∙ wide) r.long
            (get_or-set_same s.words 0 n 0 (omega arith) ∙ is) (get_or-set_other s.words 0 1 n 0 (λ e. omega arith)) (get_or-set_other s.words 0 2 n 0 (λ e. omega arith) ∙ r.serves)
            (knows_all bears r.list new r.given v knows)
            (λ y other k. knows_still bears v.number r.list new more r.given y grown goes.2 (λ i. other v.number (inl refl) i) k)
            (subst (StandsAt r.served r.drawn new s.homes new) (sym holds) (stood.0, stood.1, refl))
            (λ k l. let given = knows.numbers v.number (inl refl) in adds_none bears k v.number r.list new more grown goes.2 (λ e. omega arith) ∙ r.fresh k l)
            (λ o. absurd (omega arith)),
        (λ y e. (ap (λ z. up_to v (list_of z)) (slot_value x y (sym has_value ∙ e)), refl)),
      )

  pub serves : (slots id t : ℕ) (m : At T E) (x : T) → m.0.stage ≡ Holding t → m.1 ≡ (0, Some x) ∷ [] → m.0.seen ≡ list_of x
      → Allows Rule slots id m 2 (λ n. (n + 1) % 2 ^ 64) (Serves (step slots 2 1 0 none) m)
  serves slots id t m x holds has_value seen s r _ at small =
      let v : View E = m.0 in
      let has : tickets_in v.stage ≡ 1 = ap tickets_in holds in
      let is_pass : passes_in v.stage ≡ 1 = ap passes_in holds in
      let stood : StandsAt r.served r.drawn r.list s.homes v.seen (Holding t) = subst (StandsAt r.served r.drawn r.list s.homes v.seen) holds (r.stands id v at) in
      let w : View E = at_stage v Idle in
      let long = r.long in
      let wide = r.wide in
      let n : ℕ = (get_or s.words 2 0 + 1) % 2 ^ 64 in
      let back : List (maybe.Option (Option T)) = set s.homes 0 (some (Some x)) in
      let is = r.serves in (
        w,
        gives,
        tt,
        subst (λ (c : List (ℕ × Option T)). Rule (stepped s 2 n id c w gives)) (sym has_value)
            (front list_of bears s r id v w (set s.words 2 n) back r.list (r.served + 1) at has is_pass (ap ticket_of holds ∙ stood.0) refl refl (omega arith) (λ b. absurd (omega arith))
            (length-set s.words 2 n ∙ wide) (length-set s.homes 0 (some (Some x)) ∙ long)
            (get_or-set_other s.words 2 0 n 0 (λ e. omega arith) ∙ r.counts) (get_or-set_other s.words 2 1 n 0 (λ e. omega arith)) (get_or-set_same s.words 2 n 0 (omega arith) ∙ omega arith)
            (knows_there bears r.list r.given v Idle (r.knows id v at is_pass))
            (λ _ _ h. h) tt r.fresh (λ _. (x, set_here s.homes 0 (some (Some x)) (omega arith), sym seen ∙ stood.2))),
        (refl, ap rest has_value),
      )

  pub compares : (slots id : ℕ) (m : At T E) → m.0.stage ≡ Idle → Allows Rule slots id m 2 (λ n. n) (Compares bears (step slots 2 0 0 none) m)
  compares slots id m idle s r _ at small = (m.0, keeps, tt, same_state list_of bears s r 2 id m.1 m.0 at, (refl, (r.knows id m.0 at (ap passes_in idle)).joint))

  pub lowers : (slots id t : ℕ) (m : At T E) → m.0.stage ≡ Holding t → m.1 ≡ (0, None) ∷ [] → Allows Rule slots id m 2 (λ n. n) (Lowers (step slots 2 0 0 none) m)
  lowers slots id t m holds has_slot s r _ at small =
      let v : View E = m.0 in
      let has : tickets_in v.stage ≡ 1 = ap tickets_in holds in
      let is_pass : passes_in v.stage ≡ 1 = ap passes_in holds in
      let stood : StandsAt r.served r.drawn r.list s.homes v.seen (Holding t) = subst (StandsAt r.served r.drawn r.list s.homes v.seen) holds (r.stands id v at) in
      let turn : ticket_of v.stage ≡ r.served = ap ticket_of holds ∙ stood.0 in
      let w : View E = at_stage v (Entered (ticket_of v.stage)) in
      let long = r.long in
      let wide = r.wide in
      let n : ℕ = get_or s.words 2 0 in
      let back : List (maybe.Option (Option T)) = set s.homes 0 (some None) in (
        w,
        gives,
        tt,
        subst (λ (c : List (ℕ × Option T)). Rule (stepped s 2 n id c w gives)) (sym has_slot)
            (front list_of bears s r id v w (set s.words 2 n) back r.list r.served at has is_pass turn refl refl refl (λ _. turn)
            (length-set s.words 2 n ∙ wide) (length-set s.homes 0 (some None) ∙ long)
            (get_or-set_other s.words 2 0 n 0 (λ e. omega arith) ∙ r.counts) (get_or-set_other s.words 2 1 n 0 (λ e. omega arith)) (get_or-set_same s.words 2 n 0 (omega arith) ∙ r.serves)
            (knows_there bears r.list r.given v (Entered (ticket_of v.stage)) (r.knows id v at is_pass))
            (λ _ _ h. h) (turn, (let l = stood.1 in omega arith), stood.2, set_here s.homes 0 (some None) (omega arith)) r.fresh (λ o. absurd (omega arith))),
        (refl, ap rest has_slot),
      )

  pub lifts : (slots id t : ℕ) (m : At T E) → m.0.stage ≡ Entered t → Allows Rule slots id m 2 (λ n. n) (Lifts (step slots 2 0 0 none) m)
  lifts slots id t m entered s r _ at small =
      let v : View E = m.0 in
      let has : tickets_in v.stage ≡ 1 = ap tickets_in entered in
      let is_pass : passes_in v.stage ≡ 1 = ap passes_in entered in
      let stood : StandsAt r.served r.drawn r.list s.homes v.seen (Entered t) = subst (StandsAt r.served r.drawn r.list s.homes v.seen) entered (r.stands id v at) in
      let turn : ticket_of v.stage ≡ r.served = ap ticket_of entered ∙ stood.0 in
      let w : View E = at_stage v (Holding (ticket_of v.stage)) in
      let long = r.long in
      let wide = r.wide in
      let n : ℕ = get_or s.words 2 0 in (
        w,
        takes 0 None,
        stood.3,
        front list_of bears s r id v w (set s.words 2 n) (set s.homes 0 none) r.list r.served at has is_pass turn refl refl refl (λ _. turn)
            (length-set s.words 2 n ∙ wide) (length-set s.homes 0 none ∙ long)
            (get_or-set_other s.words 2 0 n 0 (λ e. omega arith) ∙ r.counts) (get_or-set_other s.words 2 1 n 0 (λ e. omega arith)) (get_or-set_same s.words 2 n 0 (omega arith) ∙ r.serves)
            (knows_there bears r.list r.given v (Holding (ticket_of v.stage)) (r.knows id v at is_pass))
            (λ _ _ h. h) (turn, (let l = stood.1 in omega arith), stood.2) r.fresh (λ o. absurd (omega arith)),
        (refl, refl),
      )
