-- The table of a new lock and of one that ends, and what holds in every state between.
use Rattle.std.proofs.Common.{◌≡◌, ℕ, List, [], ◌∷◌, Option, Some, None, IsSome, rules, refl, sym, ap, ◌∙◌, subst, arith}
use mathlib.Core.Logic.{dite}
use mathlib.Core.Option as maybe
use mathlib.Core.Option.{some, some-injective}
use native.Mathlib.Decide.{ℕ_discrete}
use lib.ListN.{get_elem?}
use Rattle.atomic_table.specs.Table.{State, opening, Final, Seen}
use Rattle.turn_lock.specs.Laws.{AreDistinct, AtMostOneIsOut, CountsTickets, HasOneList}
use Rattle.turn_lock.specs.Rule.{IsOrderly, Knows, StandsAt}
use Rattle.turn_lock.specs.Views.{opening_view, tickets_in, ticket_of, turns_in}
use Rattle.turn_lock.specs.declared.view.Stage.{Stage}
use Rattle.turn_lock.specs.declared.view.Stage.TheVariants.{Idle, Waiting, Entered, Holding, Spent}
use Rattle.turn_lock.specs.declared.view.View.{View}
use Rattle.turn_lock.proofs.ElementLaws.{only_among}
use Rattle.turn_lock.proofs.ViewLaws.{only_view}
use Rattle.turn_lock.proofs.TurnLaws.{Homes}

-- ---- slots

-- what two slots that are one hold
pub slot_same : {X : Type 0} (x y : X) (xs ys : List (ℕ × X)) → ◌≡◌ {A = List (ℕ × X)} ((0, x) ∷ xs) ((0, y) ∷ ys) → x ≡ y
slot_same {X} x y xs ys e = let f : List (ℕ × X) → X = λ l. elim l as (λ _. X) [ [] ↦ x | c ∷ cs ↦ c.1 ] in ap f e

pub some_is : {X : Type 0} (o : Option X) (x : X) → o ≡ Some x → IsSome o
some_is None x e = absurd cc
some_is (Some y) x e = search rules

pub not_some : {T : Type 0} (o : Option T) (x : T) → ◌≡◌ {A = maybe.Option (Option T)} (some o) (some None) → o ≡ Some x → ⊥
not_some o x e f = cc (some-injective o None e)

module _ {T E : Type 0} (list_of : T → List E) (bears : E → ℕ) where
  abbrev Rule : State (Option T) (View E) → Type 0
  Rule = IsOrderly list_of bears

  -- the table of a new lock, whose first turn is out
  pub begins : Rule (opening (0 ∷ 1 ∷ 0 ∷ []) (None ∷ []) opening_view)
  begins = record {
    list = [];
    drawn = 1;
    served = 0;
    given = 0;
    wide = refl;
    long = refl;
    counts = refl;
    draws = refl;
    serves = refl;
    tally = refl;
    few = omega arith;
    small = omega arith;
    knows = λ j x at _. subst (Knows bears [] 0) (only_view opening_view j x at).1 record {
      begins = ([], refl);
      whole = λ _ _. refl;
      numbers = λ n i. let is : n ≡ 0 = only_among n 0 i in omega arith;
      splits = λ _. refl;
      joint = tt;
    };
    stands = λ j x at. subst (λ (y : View E). StandsAt {T = T} 0 1 [] (some None ∷ []) y.seen y.stage) (only_view opening_view j x at).1 (refl, omega arith, refl, refl);
    apart = λ i j x y at there ne. absurd (ne ((only_view opening_view i x at).0 ∙ sym (only_view opening_view j y there).0));
    fresh = λ n l. refl;
    home = λ nobody. absurd (let one = nobody 0 opening_view refl in omega arith);
  }

  -- at the end of a lock the slot is empty
  pub empty_at_end : (id t : ℕ) (v : View E) (words : List ℕ) (xs : List (Option T)) → v.stage ≡ Entered t → Final (Seen Rule id v) words xs → get_elem? xs 0 ≡ some None
  empty_at_end id t v words xs entered end =
      let s : State (Option T) (View E) = end.0 in
      let r : Rule s = end.1.0 in
      let stood : StandsAt r.served r.drawn r.list s.homes v.seen (Entered t) = subst (StandsAt r.served r.drawn r.list s.homes v.seen) entered (r.stands id v end.1.1) in
      end.4 0 None stood.3

  -- ---- what holds in every state

  out_has_ticket : (g : Stage) → turns_in g ≡ 1 → tickets_in g ≡ 1
  out_has_ticket Idle is = absurd (omega arith)
  out_has_ticket (Waiting t) is = refl
  out_has_ticket (Entered t) is = refl
  out_has_ticket (Holding t) is = refl
  out_has_ticket Spent is = absurd (omega arith)

  out_is_served : (served drawn : ℕ) (list : List E) (homes : Homes T) (seen : List E) (g : Stage) → turns_in g ≡ 1 → StandsAt {T = T} served drawn list homes seen g → ticket_of g ≡ served
  out_is_served served drawn list homes seen Idle is h = absurd (omega arith)
  out_is_served served drawn list homes seen (Waiting t) is h = absurd (omega arith)
  out_is_served served drawn list homes seen (Entered t) is h = h.0
  out_is_served served drawn list homes seen (Holding t) is h = h.0
  out_is_served served drawn list homes seen Spent is h = absurd (omega arith)

  pub one_is_out : (s : State (Option T) (View E)) → Rule s → AtMostOneIsOut s
  one_is_out s r i j v w at there one other = dite (ℕ_discrete i j) (λ e. e) (λ ne.
      let a = out_is_served r.served r.drawn r.list s.homes v.seen v.stage one (r.stands i v at) in
      let b = out_is_served r.served r.drawn r.list s.homes w.seen w.stage other (r.stands j w there) in
      absurd ((r.apart i j v w at there ne).1 (out_has_ticket v.stage one) (out_has_ticket w.stage other) (a ∙ sym b)))

  pub tickets_counted : (s : State (Option T) (View E)) → Rule s → CountsTickets s
  tickets_counted s r = let a = r.draws in let b = r.serves in let c = r.tally in omega arith

  pub one_list : (s : State (Option T) (View E)) → Rule s → HasOneList list_of bears s
  one_list s r = record {
    list = r.list;
    given = r.given;
    counted = r.counts;
    seen = λ j v at. let k = r.knows j v at.0 at.1 in record { begins = k.begins; whole = k.whole; numbers = k.numbers; joint = k.joint };
    fresh = r.fresh;
    held = r.home;
  }

  pub all_distinct : (s : State (Option T) (View E)) → Rule s → AreDistinct s
  all_distinct s r i j n v w one other a b = dite (ℕ_discrete i j) (λ e. e) (λ ne. absurd ((r.apart i j v w one.0 other.0 ne).0 one.1 other.1 n a b))
