-- Whether raised minima are within bounds hangs on four tests of the minima as an alternate.
use Rattle.std.proofs.Common.{◌≡◌, ◌∙◌, ◌+◌, ℕ, min, max, Bool, true, false, ◌&&◌, ◌||◌, List, [], ◌∷◌, map, Option, Some, None, refl, ap, ap₂, sym, arith}
use Rattle.std.specs.List.{list_any}
use Rattle.std.proofs.lemmas.Bool.Decides.{nat_tests}
use Rattle.std.proofs.lemmas.List.Folds.{list_any-append}
use Rattle.desk_io.specs.declared.pair.Pair.{Pair}
use Rattle.desk_io.specs.Pair.{higher}
use Rattle.airport_minima.specs.Raised.{least, raised_to, raised_freely, raised_by, each_raised, raised}
use Rattle.airport_minima.specs.Within.{is_low, is_within, has_within, found_among, found_for, is_raised_within}
use Rattle.airport_minima.specs.declared.within.Bounds.{Bounds}
use Rattle.airport_minima.specs.declared.within.Found.{Found}

-- a minimum that is raised, but not above another one
low_limited : (o : Option ℕ) (floor landing more other : ℕ) → is_low o (max floor (max landing (min (landing + more) other))) ≡ (is_low o (max floor landing) && (is_low o (landing + more) || is_low o other))
low_limited None floor landing more other = refl
low_limited (Some most) floor landing more other = grind (arith, nat_tests)

-- each of two parts, of which some are met anyway
sorted_out : (p q f g x y : Bool) → ((p && (f || x)) && (q && (g || y))) ≡ ((p && q) && ((f || x) && (g || y)))
sorted_out true q f g x y = by q (f || x) (g || y)
  where
    by : (q m n : Bool) → (m && (q && n)) ≡ (q && (m && n))
    by true m n = refl
    by false true n = refl
    by false false n = refl
sorted_out false q f g x y = refl

module _ (bounds : Bounds) where
  -- what minima as an alternate have to be within, where some elements are low enough anyway
  abbrev Freed : Bool → Bool → Pair → Bool
  Freed f g a = (f || is_low bounds.ceiling a.ceiling) && (g || is_low bounds.vis a.vis)

  limited : (l a : Pair) → is_within bounds (raised_to l a) ≡ (is_within bounds (higher least l) && Freed (is_low bounds.ceiling (l.ceiling + 100)) (is_low bounds.vis (l.vis + 804_672)) a)
  limited l a = ap₂ (λ x y. x && y) (low_limited bounds.ceiling 300 l.ceiling 100 a.ceiling) (low_limited bounds.vis 1_609_344 l.vis 804_672 a.vis)
      ∙ sorted_out (is_low bounds.ceiling (max 300 l.ceiling)) (is_low bounds.vis (max 1_609_344 l.vis)) (is_low bounds.ceiling (l.ceiling + 100)) (is_low bounds.vis (l.vis + 804_672)) (is_low bounds.ceiling a.ceiling) (is_low bounds.vis a.vis)

  none_and : (b : Bool) → false ≡ (b && false)
  none_and true = refl
  none_and false = refl

  and_any : (b x y : Bool) → ((b && x) || (b && y)) ≡ (b && (x || y))
  and_any true x y = refl
  and_any false x y = refl

  -- some of these do
  each_limited : (l : Pair) (others : List Pair)
      → has_within bounds (map (λ a. raised_to l a) others) ≡ (is_within bounds (higher least l) && list_any (λ a. Freed (is_low bounds.ceiling (l.ceiling + 100)) (is_low bounds.vis (l.vis + 804_672)) a) others)
  each_limited l [] = none_and (is_within bounds (higher least l))
  each_limited l (a ∷ others) =
      ap₂ (λ x y. x || y) (limited l a) (each_limited l others)
      ∙ and_any (is_within bounds (higher least l)) (Freed (is_low bounds.ceiling (l.ceiling + 100)) (is_low bounds.vis (l.vis + 804_672)) a)
      (list_any (λ a. Freed (is_low bounds.ceiling (l.ceiling + 100)) (is_low bounds.vis (l.vis + 804_672)) a) others)

  -- the tests that were made beforehand
  by_found : (f g : Bool) (a : Pair) (others : List Pair) → list_any (λ a. Freed f g a) (a ∷ others) ≡ found_for (found_among bounds (a ∷ others)) f g
  by_found true true a others = refl
  by_found true false a others = refl
  by_found false true a others = ap₂ (λ x y. x || y) (and_true (is_low bounds.ceiling a.ceiling)) (each_true others)
    where
      and_true : (b : Bool) → (b && true) ≡ (b && true)
      and_true b = refl

      each_true : (others : List Pair) → list_any (λ a. Freed false true a) others ≡ list_any (λ a. is_within (record { ceiling = bounds.ceiling; vis = None }) a) others
      each_true others = refl
  by_found false false a others = refl

  raised_one : (l : Pair) (others : List Pair) → has_within bounds (raised_by others l) ≡ is_raised_within bounds (found_among bounds others) l
  raised_one l [] = or_false (is_within bounds (raised_freely l))
    where
      or_false : (b : Bool) → (b || false) ≡ b
      or_false true = refl
      or_false false = refl
  raised_one l (a ∷ others) = each_limited l (a ∷ others) ∙ ap (λ x. is_within bounds (higher least l) && x) (by_found (is_low bounds.ceiling (l.ceiling + 100)) (is_low bounds.vis (l.vis + 804_672)) a others)

  raised_each : (landing others : List Pair) → list_any (λ l. is_raised_within bounds (found_among bounds others) l) landing ≡ has_within bounds (each_raised landing others)
  raised_each [] others = refl
  raised_each (l ∷ landing) others =
      ap₂ (λ x y. x || y) (sym (raised_one l others)) (raised_each landing others) ∙ sym (list_any-append (λ pair. is_within bounds pair) (raised_by others l) (each_raised landing others))

  pub raised_within : (landing others : List Pair) (found : Found) (result : Bool) → found ≡ found_among bounds others → result ≡ list_any (λ l. is_raised_within bounds found l) landing → result ≡ has_within bounds (raised landing others)
  unfolding raised
  raised_within landing others found result e is = is ∙ ap (λ f. list_any (λ l. is_raised_within bounds f l) landing) e ∙ raised_each landing others
