-- The views of all seats, of which a step changes one.
use Rattle.std.proofs.Common.{◌≡◌, ◌≢◌, ◌⊎◌, inl, inr, ⊎_elim, ℕ, zero, suc, ◌+◌, ◌≤◌, List, [], ◌∷◌, ◌++◌, length, set, sum_by, refl, sym, ap, ◌∙◌, subst, arith}
use Rattle.std.proofs.lemmas.List.Sums.{sum_by-cons}
use mathlib.Core.Logic.{dite}
use mathlib.Core.Option.{some, some-injective, some-ne-none}
use native.Mathlib.Decide.{ℕ_discrete}
use lib.ListN.{get_elem?}
use Rattle.atomic_table.proofs.Lists.{at_set, set_else, at_snoc}
use Rattle.turn_lock.specs.Rule.{AreApart, NoTurnIsOut}
use Rattle.turn_lock.specs.Views.{passes_in, tickets_in, turns_in, spent}
use Rattle.turn_lock.specs.declared.view.Stage.{Stage}
use Rattle.turn_lock.specs.declared.view.Stage.TheVariants.{Idle, Waiting, Entered, Holding, Spent}
use Rattle.turn_lock.specs.declared.view.View.{View}

-- a ticket is a pass's
tickets_of_passes : (g : Stage) → tickets_in g ≤ passes_in g
tickets_of_passes Idle = omega arith
tickets_of_passes (Waiting t) = omega arith
tickets_of_passes (Entered t) = omega arith
tickets_of_passes (Holding t) = omega arith
tickets_of_passes Spent = omega arith

-- ---- sums over the views

module _ {E : Type 0} (f : View E → ℕ) where
  pub sum_by-set : (vs : List (View E)) (i : ℕ) (v w : View E) → get_elem? vs i ≡ some v → sum_by f (set vs i w) + f v ≡ sum_by f vs + f w
  sum_by-set [] i v w at = absurd (some-ne-none v (sym at))
  sum_by-set (x ∷ xs) zero v w at = let is : f x ≡ f v = ap f (some-injective x v at) in omega (arith, sum_by-cons f x xs, sum_by-cons f w xs)
  sum_by-set (x ∷ xs) (suc i) v w at = omega (arith, sum_by-set xs i v w at, sum_by-cons f x xs, sum_by-cons f x (set xs i w))

  pub sum_by-snoc : (vs : List (View E)) (v : View E) → sum_by f (vs ++ v ∷ []) ≡ sum_by f vs + f v
  sum_by-snoc [] v = omega arith
  sum_by-snoc (x ∷ xs) v = omega (arith, sum_by-snoc xs v, sum_by-cons f x xs, sum_by-cons f x (xs ++ v ∷ []))

pub tickets_within : {E : Type 0} (vs : List (View E)) → sum_by (λ v. tickets_in v.stage) vs ≤ sum_by (λ v. passes_in v.stage) vs
tickets_within [] = omega arith
tickets_within (x ∷ xs) =
    omega (arith, tickets_within xs, tickets_of_passes x.stage, sum_by-cons (λ v. tickets_in v.stage) x xs, sum_by-cons (λ v. passes_in v.stage) x xs)

-- ---- what holds of each view

module _ {E : Type 0} where
  pub view_is : (vs : List (View E)) (i : ℕ) (v w : View E) → get_elem? vs i ≡ some v → get_elem? (set vs i w) i ≡ some w
  view_is [] i v w at = absurd (some-ne-none v (sym at))
  view_is (x ∷ xs) zero v w at = refl
  view_is (x ∷ xs) (suc i) v w at = view_is xs i v w at

  -- it holds of the new view, and of each other
  pub all_set : (P : ℕ → View E → Type 0) (vs : List (View E)) (i : ℕ) (w : View E) → P i w → ((j : ℕ) (v : View E) → j ≢ i → get_elem? vs j ≡ some v → P j v)
      → (j : ℕ) (v : View E) → get_elem? (set vs i w) j ≡ some v → P j v
  all_set P vs i w mine others j v at = ⊎_elim
      (λ (t : (j ≡ i) × (w ≡ v)). subst (λ (x : ℕ × View E). P x.0 x.1) (λ k. (sym t.0 k, t.1 k)) mine)
      (λ (t : (j ≢ i) × (get_elem? vs j ≡ some v)). others j v t.0 t.1)
      (at_set vs i j w v at)

  pub all_snoc : (P : View E → Type 0) (vs : List (View E)) (w : View E) → ((j : ℕ) (v : View E) → get_elem? vs j ≡ some v → P v) → P w
      → (j : ℕ) (v : View E) → get_elem? (vs ++ w ∷ []) j ≡ some v → P v
  all_snoc P vs w old new j v at = ⊎_elim (old j v) (λ (t : w ≡ v). subst P t new) (at_snoc vs w v j at)

  at_end : (vs : List (View E)) (w : View E) (j : ℕ) (v : View E) → get_elem? (vs ++ w ∷ []) j ≡ some v → (get_elem? vs j ≡ some v) ⊎ ((j ≡ length vs) × (w ≡ v))
  at_end [] w zero v at = inr (refl, some-injective w v at)
  at_end [] w (suc j) v at = absurd (some-ne-none v (sym at))
  at_end (x ∷ xs) w zero v at = inl at
  at_end (x ∷ xs) w (suc j) v at = ⊎_elim inl (λ t. inr (ap suc t.0, t.1)) (at_end xs w j v at)

  pub only_view : (v : View E) (j : ℕ) (x : View E) → get_elem? (v ∷ []) j ≡ some x → (j ≡ 0) × (v ≡ x)
  only_view v zero x at = (refl, some-injective v x at)
  only_view v (suc j) x at = absurd (some-ne-none x (sym at))

-- ---- two passes

module _ {E : Type 0} where
  abbrev pub AllApart : List (View E) → Type 0
  AllApart vs = (i j : ℕ) (v w : View E) → get_elem? vs i ≡ some v → get_elem? vs j ≡ some w → i ≢ j → AreApart v w

  pub apart_sym : (v w : View E) → AreApart v w → AreApart w v
  apart_sym v w p = ((λ a b n i q. p.0 b a n q i), λ a b e. p.1 b a (sym e))

  spent_apart : (v : View E) → AreApart spent v
  spent_apart v = ((λ c. absurd (omega arith)), λ c. absurd (omega arith))

  -- the new view is apart from each other
  pub apart_set : (vs : List (View E)) (i : ℕ) (w : View E) → AllApart vs → ((j : ℕ) (x : View E) → j ≢ i → get_elem? vs j ≡ some x → AreApart w x) → AllApart (set vs i w)
  apart_set vs i w old mine j k x y at there ne =
      all_set (λ j x. (k : ℕ) (y : View E) → get_elem? (set vs i w) k ≡ some y → j ≢ k → AreApart x y) vs i w
      (all_set (λ k y. i ≢ k → AreApart w y) vs i w (λ ne. absurd (ne refl)) (λ k y ne at _. mine k y ne at))
      (λ j x ne at. all_set (λ k y. j ≢ k → AreApart x y) vs i w (λ _. apart_sym w x (mine j x ne at)) (λ k y ne' at'. old j k x y at at'))
      j x at k y there ne

  pub apart_snoc : (vs : List (View E)) (w : View E) → AllApart vs → ((j : ℕ) (x : View E) → get_elem? vs j ≡ some x → AreApart x w) → AllApart (vs ++ w ∷ [])
  apart_snoc vs w old mine j k x y at there ne = ⊎_elim
      (λ (p : get_elem? vs j ≡ some x). ⊎_elim
      (λ (q : get_elem? vs k ≡ some y). old j k x y p q ne)
      (λ (q : (k ≡ length vs) × (w ≡ y)). subst (AreApart x) q.1 (mine j x p))
      (at_end vs w k y there))
      (λ (p : (j ≡ length vs) × (w ≡ x)). ⊎_elim
      (λ (q : get_elem? vs k ≡ some y). subst (λ z. AreApart z y) p.1 (apart_sym y w (mine k y q)))
      (λ (q : (k ≡ length vs) × (w ≡ y)). absurd (ne (p.0 ∙ sym q.0)))
      (at_end vs w k y there))
      (at_end vs w j x at)

  -- one pass took in another, which is none any more
  pub apart_join : (vs : List (View E)) (i o : ℕ) (w : View E) → AllApart vs → ((j : ℕ) (x : View E) → j ≢ i → j ≢ o → get_elem? vs j ≡ some x → AreApart w x)
      → AllApart (set (set vs i w) o spent)
  apart_join vs i o w old mine j k x y at there ne =
      all_set (λ j x. (k : ℕ) (y : View E) → get_elem? (set (set vs i w) o spent) k ≡ some y → j ≢ k → AreApart x y) (set vs i w) o spent (λ k y _ _. spent_apart y)
      (λ j x jo at. all_set (λ j x. j ≢ o → (k : ℕ) (y : View E) → get_elem? (set (set vs i w) o spent) k ≡ some y → j ≢ k → AreApart x y) vs i w
      (λ _. all_set (λ k y. i ≢ k → AreApart w y) (set vs i w) o spent (λ _. apart_sym spent w (spent_apart w))
      (λ k y ko b. all_set (λ k y. k ≢ o → i ≢ k → AreApart w y) vs i w (λ _ ne. absurd (ne refl)) (λ k y ki c ko _. mine k y ki ko c) k y b ko))
      (λ j x ji a jo. all_set (λ k y. j ≢ k → AreApart x y) (set vs i w) o spent (λ _. apart_sym spent x (spent_apart x))
      (λ k y ko b. all_set (λ k y. j ≢ k → AreApart x y) vs i w (λ _. apart_sym w x (mine j x ji jo a)) (λ k y ki c ne. old j k x y a c ne) k y b))
      j x at jo)
      j x at k y there ne

  -- where no turn is out, and the view that changed had none out before, none was out before
  pub none_out_before : (vs : List (View E)) (i : ℕ) (v w : View E) → get_elem? vs i ≡ some v → turns_in v.stage ≡ 0 → NoTurnIsOut (set vs i w) → NoTurnIsOut vs
  none_out_before vs i v w at none nobody j x there = dite (ℕ_discrete j i)
      (λ same. ap (λ (y : View E). turns_in y.stage) (sym (some-injective v x (sym at ∙ (ap (get_elem? vs) (sym same) ∙ there)))) ∙ none)
      (λ other. nobody j x (set_else vs i j w other ∙ there))
