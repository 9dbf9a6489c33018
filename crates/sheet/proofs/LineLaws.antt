-- The findings of the lines that fail.
use Rattle.std.proofs.Common.{◌≡◌, ℕ, ◌+◌, Bool, true, false, not, ◌&&◌, cond, List, [], ◌∷◌, ◌++◌, Option, None, Some, refl, ap, sym, ◌∙◌, arith}
use Rattle.std.specs.Prelude.{nat_le, nat_lt, map, filter, option_to_list}
use Rattle.std.specs.List.{filter_map, cons_option}
use Rattle.std.proofs.lemmas.Bool.{leb-true, le-leb, ltb-true, ltb-false}
use Rattle.std.proofs.lemmas.List.{map-append}
use Rattle.std.proofs.lemmas.List.Elements.{filter-append}
use Rattle.codes.specs.declared.cond.Cond.{Cond}
use Rattle.desk_io.specs.declared.pair.Pair.{Pair}
use Rattle.plan.specs.AlternateNeeds.{meets_raised, is_marginal}
use Rattle.plan.specs.declared.findings.Finding.{Finding}
use Rattle.plan.specs.declared.findings.Rule.{Rule}
use Rattle.rules.specs.DestinationAlternates.{place_if, places_from}
use Rattle.rules.specs.Judgement.{finding}
use Rattle.sheet.specs.declared.lines.Line.{Line}
use Rattle.sheet.specs.Lines.{fails, key, failing, line_if, numbered}

-- not within is beyond
within_by : (b : Bool) (x y : ℕ) → nat_lt y x ≡ b → not (nat_le x y) ≡ b
within_by true x y e =
    elim (nat_le x y) as (λ t. nat_le x y ≡ t → not t ≡ true) [
      | true ↦ λ t. let w = leb-true x y t in let l = ltb-true y x e in absurd (omega (arith, w, l))
      | false ↦ λ t. refl
    ] refl
within_by false x y e = let h = ltb-false y x e in ap not (le-leb x y (omega (arith, h)))

pub not_within : (x y : ℕ) → not (nat_le x y) ≡ nat_lt y x
not_within x y = within_by (nat_lt y x) x y refl

-- not before is at or after
before_by : (b : Bool) (x y : ℕ) → nat_lt x y ≡ b → not b ≡ nat_le y x
before_by true x y e =
    elim (nat_le y x) as (λ t. nat_le y x ≡ t → false ≡ t) [
      | true ↦ λ t. let w = leb-true y x t in let l = ltb-true x y e in absurd (omega (arith, w, l))
      | false ↦ λ t. refl
    ] refl
before_by false x y e = let h = ltb-false x y e in sym (le-leb y x (omega (arith, h)))

pub not_before : (x y : ℕ) → not (nat_lt x y) ≡ nat_le y x
not_before x y = before_by (nat_lt x y) x y refl

pub twice : (b : Bool) → not (not b) ≡ b
twice true = refl
twice false = refl

-- what isn't marginal is beyond the margin
pub beyond_margin : (weather : Cond) (pairs : List Pair) (margin : Pair) → not (is_marginal weather pairs margin) ≡ meets_raised weather pairs margin
unfolding is_marginal
beyond_margin weather pairs margin = twice (meets_raised weather pairs margin)

failing_by : (b : Bool) (l : Line) → map key (cond b (l ∷ []) []) ≡ map (finding l.rule l.leg) (place_if b l.place)
failing_by true l = refl
failing_by false l = refl

-- a line that is always there
pub its_line : (l : Line) (b : Bool) → fails l ≡ b → failing (l ∷ []) ≡ map (finding l.rule l.leg) (place_if b l.place)
its_line l b is = failing_by (fails l) l ∙ ap (λ t. map (finding l.rule l.leg) (place_if t l.place)) is

-- a line that is there if the rule applies
pub one_line : (applies : Bool) (l : Line) (b : Bool) → fails l ≡ b → failing (line_if applies l) ≡ map (finding l.rule l.leg) (place_if (applies && b) l.place)
one_line true l b is = its_line l b is
one_line false l b is = refl

pub failing_append : (xs ys : List Line) → failing (xs ++ ys) ≡ failing xs ++ failing ys
failing_append xs ys = ap (λ ls. map key ls) (filter-append fails xs ys) ∙ map-append key (filter fails xs) (filter fails ys)

-- the lines of one rule on one leg
module _ (rule : Rule) (n : ℕ) where
  -- two parts of the lines
  pub two_parts : (xs ys : List Line) (ps qs : List ℕ) → failing xs ≡ map (finding rule n) ps → failing ys ≡ map (finding rule n) qs → failing (xs ++ ys) ≡ map (finding rule n) (ps ++ qs)
  two_parts xs ys ps qs one other =
      failing_append xs ys
      ∙ ap (λ fs. fs ++ failing ys) one
      ∙ ap (λ fs. map (finding rule n) ps ++ fs) other
      ∙ sym (map-append (finding rule n) ps qs)

  same_first : (f g : Finding) (fs gs : List Finding) → f ≡ g → fs ≡ gs → f ∷ fs ≡ g ∷ gs
  same_first f g fs gs one rest = ap (λ x. x ∷ fs) one ∙ ap (λ xs. g ∷ xs) rest

  module _ {A : Type 0} (place : A → ℕ) where
    of_step : (b : Bool) (l : Line) (a : A) (lines : List Line) (some : List A) → key l ≡ finding rule n (place a) → map key lines ≡ map (finding rule n) (map place some)
        → map key (cond b (l ∷ lines) lines) ≡ map (finding rule n) (map place (cond b (a ∷ some) some))
    of_step true l a lines some is rest = same_first (key l) (finding rule n (place a)) (map key lines) (map (finding rule n) (map place some)) is rest
    of_step false l a lines some is rest = rest

    -- a line for each item
    pub each_line : (at : A → Line) (test : A → Bool) → ((a : A) → key (at a) ≡ finding rule n (place a)) → ((a : A) → fails (at a) ≡ test a)
        → (xs : List A) → failing (map at xs) ≡ map (finding rule n) (map place (filter test xs))
    each_line at test keys tests [] = refl
    each_line at test keys tests (a ∷ xs) =
        of_step (fails (at a)) (at a) a (filter fails (map at xs)) (filter test xs) (keys a) (each_line at test keys tests xs)
        ∙ ap (λ b. map (finding rule n) (map place (cond b (a ∷ filter test xs) (filter test xs)))) (tests a)

    found_step : (o : Option Line) (lines : List Line) → failing (cons_option o lines) ≡ failing (option_to_list o) ++ failing lines
    found_step None lines = refl
    found_step (Some l) lines = failing_append (l ∷ []) lines

    kept_step : (b : Bool) (a : A) (some : List A) → map (finding rule n) (place_if b (place a)) ++ map (finding rule n) (map place some) ≡ map (finding rule n) (map place (cond b (a ∷ some) some))
    kept_step true a some = refl
    kept_step false a some = refl

    -- a line for some of the items
    pub each_found : (at : A → Option Line) (test : A → Bool) → ((a : A) → failing (option_to_list (at a)) ≡ map (finding rule n) (place_if (test a) (place a)))
        → (xs : List A) → failing (filter_map at xs) ≡ map (finding rule n) (map place (filter test xs))
    each_found at test one [] = refl
    each_found at test one (a ∷ xs) =
        found_step (at a) (filter_map at xs)
        ∙ ap (λ fs. fs ++ failing (filter_map at xs)) (one a)
        ∙ ap (λ fs. map (finding rule n) (place_if (test a) (place a)) ++ fs) (each_found at test one xs)
        ∙ kept_step (test a) a (filter test xs)

  place_step : (b : Bool) (l : Line) (place : ℕ) (lines : List Line) (places : List ℕ) → key l ≡ finding rule n place → map key lines ≡ map (finding rule n) places
      → map key (cond b (l ∷ lines) lines) ≡ map (finding rule n) (place_if b place ++ places)
  place_step true l place lines places is rest = same_first (key l) (finding rule n place) (map key lines) (map (finding rule n) places) is rest
  place_step false l place lines places is rest = rest

  -- a line for each item, whose place is its number
  pub each_place : {A : Type 0} (at : ℕ → A → Line) (test : A → Bool) → ((i : ℕ) (a : A) → key (at i a) ≡ finding rule n i) → ((i : ℕ) (a : A) → fails (at i a) ≡ test a)
      → (i : ℕ) (xs : List A) → failing (numbered at i xs) ≡ map (finding rule n) (places_from test i xs)
  each_place at test keys tests i [] = refl
  each_place at test keys tests i (a ∷ xs) =
      place_step (fails (at i a)) (at i a) i (filter fails (numbered at (i + 1) xs)) (places_from test (i + 1) xs) (keys i a) (each_place at test keys tests (i + 1) xs)
      ∙ ap (λ b. map (finding rule n) (place_if b i ++ places_from test (i + 1) xs)) (tests i a)
