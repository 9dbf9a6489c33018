-- A split and a join of passes keep the rule.
use Rattle.std.proofs.Common.{◌≡◌, ⊎_elim, inl, ℕ, ◌+◌, ◌^◌, ◌<◌, List, [], ◌∷◌, Option, set, sym, ap, ◌∙◌, subst, arith}
use mathlib.Core.Option.{some}
use lib.ListN.{get_elem?}
use Rattle.atomic_table.specs.Table.{State, Splits, Joins}
use Rattle.atomic_table.proofs.Lists.{set_else, at_longer}
use Rattle.turn_lock.specs.Elements.{longer_of}
use Rattle.turn_lock.specs.Rule.{AreApart, IsOrderly, Knows, StandsAt}
use Rattle.turn_lock.specs.Views.{joined, numbers_of, parted, parting, passes_in, spent, tickets_in, turns_in}
use Rattle.turn_lock.specs.declared.view.Stage.TheVariants.{Idle}
use Rattle.turn_lock.specs.declared.view.View.{View}
use Rattle.turn_lock.proofs.ElementLaws.{among_either, longer_begins, none_between, none_in_front, only_among, same_between}
use Rattle.turn_lock.proofs.ViewLaws.{all_set, all_snoc, apart_join, apart_set, apart_snoc, none_out_before, sum_by-set, sum_by-snoc}

module _ {E : Type 0} (bears : E → ℕ) where
  -- the pass that gives a number, where it is the first
  knows_parting : (list : List E) (given : ℕ) (v : View E) → v.splits ≡ given → Knows bears list given v → Knows bears list (given + 1) (parting v)
  knows_parting list given v first k = record {
    begins = k.begins;
    whole = k.whole;
    numbers = λ n is. let l = k.numbers n is in omega arith;
    splits = λ _. ap (λ (n : ℕ). n + 1) first;
    joint = k.joint;
  }

  -- any other pass
  knows_later : (list : List E) (given : ℕ) (x : View E) → (x.number ≡ 0 → ⊥) → Knows bears list given x → Knows bears list (given + 1) x
  knows_later list given x other k = record {
    begins = k.begins;
    whole = k.whole;
    numbers = λ n is. let l = k.numbers n is in omega arith;
    splits = λ z. absurd (other z);
    joint = k.joint;
  }

  -- the pass that took another in
  knows_joined : (list : List E) (given : ℕ) (v u : View E) → Knows bears list given v → Knows bears list given u → Knows bears list given (joined v u)
  knows_joined list given v u k l =
      let both = longer_begins v.seen u.seen list k.begins l.begins in
      let seen : List E = longer_of v.seen u.seen in
      record {
        begins = both.2;
        whole = λ n is. ⊎_elim (λ a. same_between bears n v.seen seen list both.0 both.2 (k.whole n a)) (λ c. same_between bears n u.seen seen list both.1 both.2 (l.whole n c))
            (among_either n (numbers_of v) (numbers_of u) is);
        numbers = λ n is. ⊎_elim (λ a. k.numbers n a) (λ c. l.numbers n c) (among_either n (numbers_of v) (numbers_of u) is);
        splits = k.splits;
        joint = record {
          this = both.0;
          that = both.1;
          own_this = λ n a. none_between bears n v.seen seen list both.0 both.2 (k.whole n a);
          own_that = λ n c. none_between bears n u.seen seen list both.1 both.2 (l.whole n c);
        };
      }

module _ {T E : Type 0} (list_of : T → List E) (bears : E → ℕ) where
  abbrev Rule : State (Option T) (View E) → Type 0
  Rule = IsOrderly list_of bears

  -- the first pass gives the next number
  pub splits : (id : ℕ) (v : View E) → v.stage ≡ Idle → v.number ≡ 0 → v.splits + 1 < 2 ^ 64 → Splits Rule id v (parting v) (parted v)
  splits id v idle first room s r at =
      let is_pass : passes_in v.stage ≡ 1 = ap passes_in idle in
      let ticketless : tickets_in v.stage ≡ 0 = ap tickets_in idle in
      let knows = r.knows id v at is_pass in
      let given : v.splits ≡ r.given = knows.splits first in
      let w : View E = parting v in
      let x : View E = parted v in
      let vs : List (View E) = set s.views id w in
      let tickets = sum_by-set (λ (y : View E). tickets_in y.stage) s.views id v w at in
      let passes = sum_by-set (λ (y : View E). passes_in y.stage) s.views id v w at in
      let more_tickets = sum_by-snoc (λ (y : View E). tickets_in y.stage) vs x in
      let more_passes = sum_by-snoc (λ (y : View E). passes_in y.stage) vs x in
      let tally = r.tally in
      let few = r.few in
      record {
        list = r.list;
        drawn = r.drawn;
        served = r.served;
        given = r.given + 1;
        wide = r.wide;
        long = r.long;
        counts = r.counts;
        draws = r.draws;
        serves = r.serves;
        tally = omega arith;
        few = omega arith;
        small = omega arith;
        knows = all_snoc (λ y. passes_in y.stage ≡ 1 → Knows bears r.list (r.given + 1) y) vs x
            (all_set (λ _ y. passes_in y.stage ≡ 1 → Knows bears r.list (r.given + 1) y) s.views id w (λ _. knows_parting bears r.list r.given v given knows)
            (λ j y ne there one. knows_later bears r.list r.given y (λ z. (r.apart id j v y at there (λ q. ne (sym q))).0 is_pass one 0 (inl (sym first)) (inl (sym z))) (r.knows j y there one)))
            (λ _. record {
              begins = knows.begins;
              whole = λ n i. let is : n ≡ v.splits + 1 = only_among n (v.splits + 1) i in
                  let l : r.given < n = omega arith in r.fresh n l ∙ sym (none_in_front bears n v.seen r.list knows.begins (r.fresh n l));
              numbers = λ n i. let is : n ≡ v.splits + 1 = only_among n (v.splits + 1) i in omega arith;
              splits = λ z. absurd (omega arith);
              joint = tt;
            });
        stands = all_snoc (λ y. StandsAt r.served r.drawn r.list s.homes y.seen y.stage) vs x
            (all_set (λ _ y. StandsAt r.served r.drawn r.list s.homes y.seen y.stage) s.views id w (r.stands id v at) (λ j y _ there. r.stands j y there)) tt;
        apart = apart_snoc vs x (apart_set s.views id w r.apart (λ j y ne there. r.apart id j v y at there (λ q. ne (sym q))))
            (all_set (λ _ y. AreApart y x) s.views id w
            ((λ _ _ n i q. let l = knows.numbers n i in let is : n ≡ v.splits + 1 = only_among n (v.splits + 1) q in omega arith), (λ _ c. absurd (omega arith)))
            (λ j y ne there. (
              (λ one _ n i q. let l = (r.knows j y there one).numbers n i in let is : n ≡ v.splits + 1 = only_among n (v.splits + 1) q in omega arith),
              (λ _ c. absurd (omega arith)),
            )));
        fresh = λ n l. r.fresh n (omega arith);
        home = λ nobody. r.home (none_out_before s.views id v w at (ap turns_in idle) (λ j y there. nobody j y (at_longer vs (x ∷ []) j y there)));
      }

  -- a pass takes another in
  pub joins : (id : ℕ) (v : View E) (other : ℕ) (u : View E) → v.stage ≡ Idle → u.stage ≡ Idle → Joins Rule id v other u (joined v u) spent
  joins id v other u idle idle' s r at ne there' =
      let there : get_elem? s.views other ≡ some u = sym (set_else s.views id other (joined v u) ne) ∙ there' in
      let is_pass : passes_in v.stage ≡ 1 = ap passes_in idle in
      let is_pass' : passes_in u.stage ≡ 1 = ap passes_in idle' in
      let ticketless : tickets_in v.stage ≡ 0 = ap tickets_in idle in
      let ticketless' : tickets_in u.stage ≡ 0 = ap tickets_in idle' in
      let w : View E = joined v u in
      let vs : List (View E) = set s.views id w in
      let tickets = sum_by-set (λ (y : View E). tickets_in y.stage) s.views id v w at in
      let passes = sum_by-set (λ (y : View E). passes_in y.stage) s.views id v w at in
      let tickets' = sum_by-set (λ (y : View E). tickets_in y.stage) vs other u spent there' in
      let passes' = sum_by-set (λ (y : View E). passes_in y.stage) vs other u spent there' in
      let tally = r.tally in
      let few = r.few in
      record {
        list = r.list;
        drawn = r.drawn;
        served = r.served;
        given = r.given;
        wide = r.wide;
        long = r.long;
        counts = r.counts;
        draws = r.draws;
        serves = r.serves;
        tally = omega arith;
        few = omega arith;
        small = r.small;
        knows = all_set (λ _ y. passes_in y.stage ≡ 1 → Knows bears r.list r.given y) vs other spent (λ z. absurd (omega arith))
            (λ j y _ e. all_set (λ _ y. passes_in y.stage ≡ 1 → Knows bears r.list r.given y) s.views id w
            (λ _. knows_joined bears r.list r.given v u (r.knows id v at is_pass) (r.knows other u there is_pass')) (λ j y _ e. r.knows j y e) j y e);
        stands = all_set (λ _ y. StandsAt r.served r.drawn r.list s.homes y.seen y.stage) vs other spent tt
            (λ j y _ e. all_set (λ _ y. StandsAt r.served r.drawn r.list s.homes y.seen y.stage) s.views id w
            (subst (StandsAt r.served r.drawn r.list s.homes (longer_of v.seen u.seen)) (sym idle) tt) (λ j y _ e. r.stands j y e) j y e);
        apart = apart_join s.views id other w r.apart (λ j y k l e. (
          (λ _ one n i q. ⊎_elim (λ a. (r.apart id j v y at e (λ z. k (sym z))).0 is_pass one n a q) (λ c. (r.apart other j u y there e (λ z. l (sym z))).0 is_pass' one n c q)
              (among_either n (numbers_of v) (numbers_of u) i)),
          (λ c. absurd (let none : tickets_in w.stage ≡ 0 = ticketless in omega arith)),
        ));
        fresh = r.fresh;
        home = λ nobody. r.home (none_out_before s.views id v w at (ap turns_in idle) (none_out_before vs other u spent there' (ap turns_in idle') nobody));
      }
