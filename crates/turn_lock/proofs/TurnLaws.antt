-- The pass whose ticket is served has every other pass behind it.
use Rattle.std.proofs.Common.{◌≡◌, ◌≢◌, ℕ, ◌+◌, ◌%◌, ◌^◌, ◌≤◌, ◌<◌, List, Option, Some, length, get_or, set, refl, sym, ap, ◌∙◌, subst, arith, le_refl}
use mathlib.Core.Logic.{dite}
use mathlib.Core.Option as maybe
use mathlib.Core.Option.{some, some-injective}
use native.Mathlib.Decide.{ℕ_discrete}
use lib.ListN.{get_elem?}
use lib.Seq.{set-get_or}
use Rattle.atomic_table.specs.Table.{State, keeps, stepped}
use Rattle.atomic_table.proofs.Lists.{set_again}
use Rattle.turn_lock.specs.Elements.{IsAmong, HasNoneAbove}
use Rattle.turn_lock.specs.Rule.{IsOrderly, Knows, NoTurnIsOut, StandsAt}
use Rattle.turn_lock.specs.Views.{numbers_of, passes_in, ticket_of, tickets_in, turns_in}
use Rattle.turn_lock.specs.declared.view.Stage.{Stage}
use Rattle.turn_lock.specs.declared.view.Stage.TheVariants.{Idle, Waiting, Entered, Holding, Spent}
use Rattle.turn_lock.specs.declared.view.View.{View}
use Rattle.turn_lock.proofs.ViewLaws.{all_set, apart_set, sum_by-set, tickets_within, view_is}

-- ---- where one pass stands

abbrev pub Homes : Type 0 → Type 0
Homes T = List (maybe.Option (Option T))

module _ {T E : Type 0} where
  -- a ticket was drawn, and isn't past
  pub ticket_in_range : (served drawn : ℕ) (list : List E) (homes : Homes T) (seen : List E) (g : Stage) → tickets_in g ≡ 1 → StandsAt served drawn list homes seen g
      → (served ≤ ticket_of g) × (ticket_of g < drawn)
  ticket_in_range served drawn list homes seen Idle b h = absurd (omega arith)
  ticket_in_range served drawn list homes seen (Waiting t) b h = (h.0, h.1)
  ticket_in_range served drawn list homes seen (Entered t) b h = let e = h.0 in (omega arith, h.1)
  ticket_in_range served drawn list homes seen (Holding t) b h = let e = h.0 in (omega arith, h.1)
  ticket_in_range served drawn list homes seen Spent b h = absurd (omega arith)

  -- a pass whose ticket isn't served has no turn out
  pub not_out : (served drawn : ℕ) (list : List E) (homes : Homes T) (seen : List E) (g : Stage) → (tickets_in g ≡ 1 → ticket_of g ≢ served) → StandsAt served drawn list homes seen g
      → turns_in g ≡ 0
  not_out served drawn list homes seen Idle other h = refl
  not_out served drawn list homes seen (Waiting t) other h = refl
  not_out served drawn list homes seen (Entered t) other h = absurd (other refl h.0)
  not_out served drawn list homes seen (Holding t) other h = absurd (other refl h.0)
  not_out served drawn list homes seen Spent other h = refl

  -- a pass with no turn out stands where it stood, whatever becomes of the list and the slot
  pub stands_still : (served drawn served' drawn' : ℕ) (list list' : List E) (homes homes' : Homes T) (seen : List E) (g : Stage) → turns_in g ≡ 0 → drawn ≤ drawn'
      → (tickets_in g ≡ 1 → served' ≤ ticket_of g) → StandsAt served drawn list homes seen g → StandsAt served' drawn' list' homes' seen g
  stands_still served drawn served' drawn' list list' homes homes' seen Idle o d b h = tt
  stands_still served drawn served' drawn' list list' homes homes' seen (Waiting t) o d b h = let l = h.1 in (b refl, omega arith)
  stands_still served drawn served' drawn' list list' homes homes' seen (Entered t) o d b h = absurd (omega arith)
  stands_still served drawn served' drawn' list list' homes homes' seen (Holding t) o d b h = absurd (omega arith)
  stands_still served drawn served' drawn' list list' homes homes' seen Spent o d b h = tt

  -- one more ticket is drawn
  pub stands_drawn : (served drawn : ℕ) (list : List E) (homes : Homes T) (seen : List E) (g : Stage) → StandsAt served drawn list homes seen g → StandsAt served (drawn + 1) list homes seen g
  stands_drawn served drawn list homes seen Idle h = tt
  stands_drawn served drawn list homes seen (Waiting t) h = let l = h.1 in (h.0, omega arith)
  stands_drawn served drawn list homes seen (Entered t) h = let l = h.1 in (h.0, omega arith, h.2, h.3)
  stands_drawn served drawn list homes seen (Holding t) h = let l = h.1 in (h.0, omega arith, h.2)
  stands_drawn served drawn list homes seen Spent h = tt

-- ---- a pass among all

module _ {T E : Type 0} (list_of : T → List E) (bears : E → ℕ) where
  abbrev Rule : State (Option T) (View E) → Type 0
  Rule = IsOrderly list_of bears

  -- a step that changes no word, no slot and no view
  pub same_state : (s : State (Option T) (View E)) (r : Rule s) (i id : ℕ) (cs : List (ℕ × Option T)) (v : View E) → get_elem? s.views id ≡ some v → Rule (stepped s i (get_or s.words i 0) id cs v keeps)
  same_state s r i id cs v at =
      subst (λ (z : List ℕ × List (View E)). Rule record { words = z.0; homes = s.homes; views = z.1 }) (λ k. (sym (set-get_or s.words i 0) k, sym (set_again s.views id v at) k)) r

  -- a word has room for the tickets that are drawn and not served
  pub few_tickets : (s : State (Option T) (View E)) (r : Rule s) → r.drawn ≤ r.served + 2 ^ 64
  few_tickets s r = let within = tickets_within s.views in let tally = r.tally in let few = r.few in let small = r.small in omega arith

  -- beside the pass whose ticket is served, another has no turn out, and its ticket comes later
  pub behind : (s : State (Option T) (View E)) (r : Rule s) (id j : ℕ) (v x : View E) → get_elem? s.views id ≡ some v → tickets_in v.stage ≡ 1 → ticket_of v.stage ≡ r.served → j ≢ id → get_elem? s.views j ≡ some x
      → (turns_in x.stage ≡ 0) × (tickets_in x.stage ≡ 1 → r.served + 1 ≤ ticket_of x.stage)
  behind s r id j v x at has mine ne there =
      let stands = r.stands j x there in
      let other : tickets_in x.stage ≡ 1 → ticket_of x.stage ≢ r.served = λ waits e. (r.apart j id x v there at ne).1 waits has (e ∙ sym mine) in (
        not_out r.served r.drawn r.list s.homes x.seen x.stage other stands,
        λ waits. let n = other waits in let l = (ticket_in_range r.served r.drawn r.list s.homes x.seen x.stage waits stands).0 in omega arith,
      )

  -- while it has no turn out, nobody has
  pub nobody_else : (s : State (Option T) (View E)) (r : Rule s) (id : ℕ) (v : View E) → get_elem? s.views id ≡ some v → tickets_in v.stage ≡ 1 → ticket_of v.stage ≡ r.served → turns_in v.stage ≡ 0 → NoTurnIsOut s.views
  nobody_else s r id v at has mine none j x there = dite (ℕ_discrete j id)
      (λ same. ap (λ (y : View E). turns_in y.stage) (sym (some-injective v x (sym at ∙ (ap (get_elem? s.views) (sym same) ∙ there)))) ∙ none)
      (λ other. (behind s r id j v x at has mine other there).0)

  -- A step of the pass whose ticket is served: the list, the words of the length and of the tickets served, the slot and its own view may change.
  pub front : (s : State (Option T) (View E)) (r : Rule s) (id : ℕ) (v w : View E) (words : List ℕ) (homes : Homes T) (list : List E) (served : ℕ)
      → get_elem? s.views id ≡ some v → tickets_in v.stage ≡ 1 → passes_in v.stage ≡ 1 → ticket_of v.stage ≡ r.served
      → numbers_of w ≡ numbers_of v → passes_in w.stage ≡ 1 → served + tickets_in w.stage ≡ r.served + 1 → (tickets_in w.stage ≡ 1 → ticket_of w.stage ≡ r.served)
      → length words ≡ 3 → length homes ≡ 1 → get_or words 0 0 ≡ length list → get_or words 1 0 ≡ get_or s.words 1 0 → get_or words 2 0 ≡ served % 2 ^ 64
      → Knows bears list r.given w → ((x : View E) → ((n : ℕ) → IsAmong n (numbers_of v) → IsAmong n (numbers_of x) → ⊥) → Knows bears r.list r.given x → Knows bears list r.given x)
      → StandsAt served r.drawn list homes w.seen w.stage → HasNoneAbove bears r.given list
      → (turns_in w.stage ≡ 0 → (x : T) × (get_elem? homes 0 ≡ some (some (Some x))) × (list_of x ≡ list))
      → Rule record { words = words; homes = homes; views = set s.views id w }
  front s r id v w words homes list served at has is_pass mine same stays sum turn wide long counts draws serves knows others stands fresh home =
      let tickets = sum_by-set (λ (x : View E). tickets_in x.stage) s.views id v w at in
      let passes = sum_by-set (λ (x : View E). passes_in x.stage) s.views id v w at in
      let tally = r.tally in
      let few = r.few in
      record {
        list = list;
        drawn = r.drawn;
        served = served;
        given = r.given;
        wide = wide;
        long = long;
        counts = counts;
        draws = draws ∙ r.draws;
        serves = serves;
        tally = omega arith;
        few = omega arith;
        small = r.small;
        knows = all_set (λ _ x. passes_in x.stage ≡ 1 → Knows bears list r.given x) s.views id w (λ _. knows)
            (λ j x ne there one. others x ((r.apart id j v x at there (λ k. ne (sym k))).0 is_pass one) (r.knows j x there one));
        stands = all_set (λ _ x. StandsAt served r.drawn list homes x.seen x.stage) s.views id w stands
            (λ j x ne there. let h = behind s r id j v x at has mine ne there in
            stands_still r.served r.drawn served r.drawn r.list list s.homes homes x.seen x.stage h.0 (le_refl r.drawn) (λ waits. let l = h.1 waits in omega arith) (r.stands j x there));
        apart = apart_set s.views id w r.apart (λ j x ne there. (
          (λ _ one n a b. (r.apart id j v x at there (λ k. ne (sym k))).0 is_pass one n (subst (IsAmong n) same a) b),
          (λ had waits e. let l = (behind s r id j v x at has mine ne there).1 waits in let t = turn had in omega arith),
        ));
        fresh = fresh;
        home = λ nobody. home (nobody id w (view_is s.views id v w at));
      }
