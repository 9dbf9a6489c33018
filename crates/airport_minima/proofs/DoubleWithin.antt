-- Two approaches give minima within bounds where each of both does, with the addend, so that one of two need be the first that does.
use Rattle.std.proofs.Common.{◌≡◌, ◌∙◌, ◌+◌, ◌*◌, ℕ, max, Bool, true, false, not, ◌&&◌, ◌||◌, List, [], ◌∷◌, filter, Option, Some, None, refl, ap, ap₂, sym, arith}
use Rattle.std.specs.List.{list_any}
use Rattle.std.specs.Str.{bytes_eq}
use Rattle.std.proofs.lemmas.Bool.{not-false}
use Rattle.std.proofs.lemmas.Bool.Decides.{nat_tests}
use Rattle.std.proofs.lemmas.List.Folds.{list_any-append}
use Rattle.desk_io.proofs.Bytes.{same_bytes}
use Rattle.desk_io.specs.declared.pair.Pair.{Pair}
use Rattle.ops_tables.specs.declared.rows.Approach.{Approach}
use Rattle.airport_minima.specs.Minima.{single, double, are_apart, doubles_with, doubles}
use Rattle.airport_minima.specs.Within.{is_low, is_within, has_within}
use Rattle.airport_minima.specs.declared.within.Bounds.{Bounds}

low_max : (o : Option ℕ) (a b d : ℕ) → is_low o (max a b + d) ≡ (is_low o (a + d) && is_low o (b + d))
low_max None a b d = refl
low_max (Some most) a b d = grind (arith, nat_tests)

crossed : (p q r s : Bool) → ((p && q) && (r && s)) ≡ ((p && r) && (q && s))
crossed true true r s = refl
crossed true false true s = refl
crossed true false false s = refl
crossed false q r s = refl

and_any : (g h k : Bool) → ((g && h) || (g && k)) ≡ (g && (h || k))
and_any true h k = refl
and_any false h k = refl

module _ (bounds : Bounds) (addend : Pair) where
  abbrev pub Good : Approach → Bool
  Good a = is_within bounds (single addend a)

  -- some of these is to another runway, and good
  abbrev pub Apart : Approach → List Approach → Bool
  Apart first approaches = list_any (λ second. are_apart first second && Good second) approaches

  both_good : (a b : Approach) → is_within bounds (double addend a b) ≡ (Good a && Good b)
  both_good a b = ap₂ (λ x y. x && y) (low_max bounds.ceiling a.ceiling b.ceiling addend.ceiling) (low_max bounds.vis (a.vis16 * 100_584) (b.vis16 * 100_584) addend.vis)
      ∙ crossed (is_low bounds.ceiling (a.ceiling + addend.ceiling)) (is_low bounds.ceiling (b.ceiling + addend.ceiling)) (is_low bounds.vis (a.vis16 * 100_584 + addend.vis)) (is_low bounds.vis (b.vis16 * 100_584 + addend.vis))

  none_good : (g : Bool) → false ≡ (g && false)
  none_good true = refl
  none_good false = refl

  -- one approach with later ones
  with_one : (a : Approach) (later : List Approach) → has_within bounds (doubles_with addend a later) ≡ (Good a && Apart a later)
  with_one a [] = none_good (Good a)
  with_one a (b ∷ later) = by (are_apart a b) refl (with_one a later)
    where
      by : (t : Bool) → are_apart a b ≡ t → has_within bounds (doubles_with addend a later) ≡ (Good a && Apart a later) → has_within bounds (doubles_with addend a (b ∷ later)) ≡ (Good a && Apart a (b ∷ later))
      by true e rest = rw e (ap₂ (λ x y. x || y) (both_good a b) rest ∙ and_any (Good a) (Good b) (Apart a later))
      by false e rest = rw e rest

  doubles_split : (a : Approach) (later : List Approach) → has_within bounds (doubles addend (a ∷ later)) ≡ ((Good a && Apart a later) || has_within bounds (doubles addend later))
  doubles_split a later = list_any-append (λ pair. is_within bounds pair) (doubles_with addend a later) (doubles addend later) ∙ ap (λ x. x || has_within bounds (doubles addend later)) (with_one a later)

  -- one that isn't good gives nothing
  pub not_good : (a : Approach) (later : List Approach) → Good a ≡ false → has_within bounds (doubles addend (a ∷ later)) ≡ has_within bounds (doubles addend later)
  not_good a later e = doubles_split a later ∙ ap (λ g. (g && Apart a later) || has_within bounds (doubles addend later)) e

  -- where all good ones are to one runway, no two give anything
  same_runway : (a b : Approach) (later : List Approach) → are_apart a b ≡ false → Apart b later ≡ Apart a later
  same_runway a b later e = ap (λ r. list_any (λ second. not (bytes_eq second.runway r) && Good second) later) (same_bytes b.runway a.runway (not-false (bytes_eq b.runway a.runway) e))

  one_runway : (a : Approach) (later : List Approach) → Apart a later ≡ false → has_within bounds (doubles addend later) ≡ false
  one_runway a [] none = refl
  one_runway a (b ∷ later) none = by (are_apart a b) (Good b) refl refl (λ rest. one_runway a later rest)
    where
      by : (t g : Bool) → are_apart a b ≡ t → Good b ≡ g → (Apart a later ≡ false → has_within bounds (doubles addend later) ≡ false) → has_within bounds (doubles addend (b ∷ later)) ≡ false
      by true true e is rest = let all : ((true && true) || Apart a later) ≡ false = ap₂ (λ x y. (x && y) || Apart a later) (sym e) (sym is) ∙ none in absurd (cc)
      by true false e is rest = let left : ((true && false) || Apart a later) ≡ false = ap₂ (λ x y. (x && y) || Apart a later) (sym e) (sym is) ∙ none in not_good b later is ∙ rest left
      by false g e is rest =
          let left : ((false && g) || Apart a later) ≡ false = ap₂ (λ x y. (x && y) || Apart a later) (sym e) (sym is) ∙ none in
          doubles_split b later ∙ ap₂ (λ x y. (Good b && x) || y) (same_runway a b later e ∙ left) (rest left) ∙ ap (λ x. x || false) (sym (none_good (Good b)))

  -- the first good one is one of two, if any two are
  pub first_good : (a : Approach) (later : List Approach) → Good a ≡ true → has_within bounds (doubles addend (a ∷ later)) ≡ Apart a later
  first_good a later e = doubles_split a later ∙ ap (λ g. (g && Apart a later) || has_within bounds (doubles addend later)) e ∙ by (Apart a later) refl
    where
      by : (t : Bool) → Apart a later ≡ t → (Apart a later || has_within bounds (doubles addend later)) ≡ Apart a later
      by true is = rw is refl
      by false is = ap₂ (λ x y. x || y) is (one_runway a later is) ∙ sym is

  -- what is left to be found once the first good one is known
  abbrev pub left_after : Option Approach → List Approach → Bool
  left_after None approaches = has_within bounds (doubles addend approaches)
  left_after (Some first) approaches = Apart first approaches

  -- one that can't be flown, one that isn't good, the first good one, and a good one to the runway of the first
  pub passed : (flown : Approach → Bool) (first : Option Approach) (x : Approach) (rest : List Approach) → flown x ≡ false → left_after first (filter flown (x ∷ rest)) ≡ left_after first (filter flown rest)
  passed flown first x rest e = rw e refl

  pub missed : (flown : Approach → Bool) (first : Option Approach) (x : Approach) (rest : List Approach) → flown x ≡ true → Good x ≡ false → left_after first (filter flown (x ∷ rest)) ≡ left_after first (filter flown rest)
  missed flown None x rest e is = rw e (not_good x (filter flown rest) is)
  missed flown (Some first) x rest e is = rw (e, is) (and_false (are_apart first x) (Apart first (filter flown rest)))
    where
      and_false : (t u : Bool) → ((t && false) || u) ≡ u
      and_false true u = refl
      and_false false u = refl

  pub begun : (flown : Approach → Bool) (x : Approach) (rest : List Approach) → flown x ≡ true → Good x ≡ true → left_after None (filter flown (x ∷ rest)) ≡ left_after (Some x) (filter flown rest)
  begun flown x rest e is = rw e (first_good x (filter flown rest) is)

  pub same : (flown : Approach → Bool) (first x : Approach) (rest : List Approach) → flown x ≡ true → are_apart first x ≡ false → left_after (Some first) (filter flown (x ∷ rest)) ≡ left_after (Some first) (filter flown rest)
  same flown first x rest e is = rw (e, is) refl
