-- The nearest minima are missed by the least, and by nothing exactly if the weather meets one of them.
use Rattle.std.proofs.Common.{◌≡◌, ℕ, zero, suc, ◌<◌, ◌≤◌, ◌+◌, ◌-◌, ◌==◌, Bool, true, false, ◌&&◌, ◌||◌, cond, List, [], ◌∷◌, length, Option, None, Some, refl, ap, sym, subst, ◌∙◌, arith}
use Rattle.std.specs.Prelude.{nat_lt}
use Rattle.std.specs.List.{slice_get, list_any}
use Rattle.std.proofs.lemmas.Bool.{ltb-true, ltb-false}
use Rattle.std.proofs.lemmas.Bool.Decides.{nat_tests}
use Rattle.codes.specs.Minima.{reaches, is_met, meets}
use Rattle.codes.specs.declared.cond.Cond.{Cond}
use Rattle.desk_io.specs.declared.pair.Pair.{Pair}
use Rattle.sheet.specs.declared.nearest.Miss.{Miss}
use Rattle.sheet.specs.Nearest.{lacks, miss_of, is_less, lesser_miss, nearest_from, nearest_of, is_nothing, IsLacking, IsMiss, IsNoLess, IsNearest}

-- an element lacks nothing exactly if it reaches its minimum
lacks_nothing : (o : Option ℕ) (least : ℕ) → (lacks o least == 0) ≡ reaches o least
lacks_nothing None least = refl
lacks_nothing (Some known) least = grind (arith, nat_tests)

miss_is_nothing : (weather : Cond) (n : ℕ) (p : Pair) → is_nothing (Some (miss_of weather n p)) ≡ is_met weather p
miss_is_nothing weather n p = ap (λ b. b && (lacks weather.vis p.vis == 0)) (lacks_nothing weather.ceiling p.ceiling) ∙ ap (λ b. reaches weather.ceiling p.ceiling && b) (lacks_nothing weather.vis p.vis)

lesser_by : (less : Bool) (a b : Miss) → is_less b a ≡ less → is_nothing (cond less (Some b) (Some a)) ≡ (is_nothing (Some a) || is_nothing (Some b))
lesser_by true a b e = grind (arith, nat_tests, e)
lesser_by false a b e = grind (arith, nat_tests, e)

lesser_nothing : (found : Option Miss) (b : Miss) → is_nothing (lesser_miss found b) ≡ (is_nothing found || is_nothing (Some b))
lesser_nothing None b = refl
lesser_nothing (Some a) b = lesser_by (is_less b a) a b refl

or_later : (a b c : Bool) → ((a || b) || c) ≡ (a || (b || c))
or_later true b c = refl
or_later false b c = refl

or_none : (b : Bool) → b ≡ (b || false)
or_none true = refl
or_none false = refl

nothing_from : (weather : Cond) (found : Option Miss) (n : ℕ) (pairs : List Pair) → is_nothing (nearest_from weather found n pairs) ≡ (is_nothing found || list_any (λ p. is_met weather p) pairs)
nothing_from weather None n [] = refl
nothing_from weather (Some a) n [] = or_none (is_nothing (Some a))
nothing_from weather found n (p ∷ pairs) =
    nothing_from weather (lesser_miss found (miss_of weather n p)) (n + 1) pairs
    ∙ ap (λ b. b || list_any (λ p. is_met weather p) pairs) (lesser_nothing found (miss_of weather n p) ∙ ap (λ b. is_nothing found || b) (miss_is_nothing weather n p))
    ∙ or_later (is_nothing found) (is_met weather p) (list_any (λ p. is_met weather p) pairs)

-- the nearest minima are missed by nothing exactly if the weather meets some
pub nearest_met : (weather : Cond) (pairs : List Pair) → is_nothing (nearest_of weather pairs) ≡ meets weather pairs
unfolding meets
nearest_met weather pairs = nothing_from weather None 1 pairs

-- an order of misses
less_irreflexive : (a : Miss) → is_less a a ≡ false
less_irreflexive a = grind (arith, nat_tests)

less_through : (a b c : Miss) → is_less a c ≡ false → is_less b c ≡ true → is_less a b ≡ false
less_through a b c one two = grind (arith, nat_tests, one, two)

within : {A : Type 0} (xs : List A) (i : ℕ) (a : A) → slice_get xs i ≡ Some a → i < length xs
within [] i a is = absurd (cc)
within (x ∷ xs) zero a is = omega arith
within (x ∷ xs) (suc i) a is = let rest : i < length xs = within xs i a is in omega (arith, rest)

empty : {A : Type 0} (xs : List A) → length xs ≤ 0 → xs ≡ []
empty [] none = refl
empty (x ∷ xs) none = absurd (omega (arith, none))

abbrev pair_or : Pair → Option Pair → Pair
pair_or other None = other
pair_or other (Some p) = p

-- what is lacking and what is known make the minimum
lacking : (o : Option ℕ) (least : ℕ) → IsLacking o least (lacks o least)
lacking None least = refl
lacking (Some known) least = (λ below. omega (arith, below), λ reached. omega (arith, reached))

lacking_by : (below : Bool) (known least n : ℕ) → nat_lt known least ≡ below → (known ≤ least → known + n ≡ least) → (least ≤ known → n ≡ 0) → n ≡ least - known
lacking_by true known least n e one other = let l = ltb-true known least e in let h = one (omega (arith, l)) in omega (arith, h)
lacking_by false known least n e one other = let l = ltb-false known least e in let h = other (omega (arith, l)) in omega (arith, l, h)

-- and nothing else does
is_lacking : (o : Option ℕ) (least n : ℕ) → IsLacking o least n → n ≡ lacks o least
is_lacking None least n is = is
is_lacking (Some known) least n is = lacking_by (nat_lt known least) known least n refl is.0 is.1

miss_is : (weather : Cond) (n : ℕ) (p : Pair) → IsMiss weather n p (miss_of weather n p)
miss_is weather n p = record { numbered = refl; feet = lacking weather.ceiling p.ceiling; millimetres = lacking weather.vis p.vis }

no_less : (a b : Miss) → is_less b a ≡ false → IsNoLess a b
no_less a b e = record { feet = grind (arith, nat_tests, e); millimetres = λ same. grind (arith, nat_tests, e, same) }

no_less_than : (weather : Cond) (n : ℕ) (p : Pair) (miss m : Miss) → IsMiss weather n p m → IsNoLess miss (miss_of weather n p) → IsNoLess miss m
no_less_than weather n p miss m is less =
    let feet : m.ceiling ≡ lacks weather.ceiling p.ceiling = is_lacking weather.ceiling p.ceiling m.ceiling is.feet in
    let far : m.vis ≡ lacks weather.vis p.vis = is_lacking weather.vis p.vis m.vis is.millimetres in
    record {
      feet = let h = less.feet in omega (arith, feet, h);
      millimetres = λ same. let h = less.millimetres (sym feet ∙ same) in omega (arith, far, h);
    }

-- the least of all minima that are read so far
module _ (weather : Cond) (all : List Pair) where
  record IsLeast (read : ℕ) (miss : Miss) : Type 0 where
    place : ℕ
    pair : Pair
    stands : slice_get all place ≡ Some pair
    is : miss ≡ miss_of weather (1 + place) pair
    none_is_less : (other : ℕ) (p : Pair) → other < read → slice_get all other ≡ Some p → is_less (miss_of weather (1 + other) p) miss ≡ false

  abbrev Least : ℕ → Option Miss → Type 0
  Least read None = read ≡ 0
  Least read (Some miss) = IsLeast read miss

  -- what holds of the minima read before and of those read now holds of all
  one_more : (read : ℕ) (p : Pair) (miss : Miss) → slice_get all read ≡ Some p → is_less (miss_of weather (1 + read) p) miss ≡ false
      → ((other : ℕ) (q : Pair) → other < read → slice_get all other ≡ Some q → is_less (miss_of weather (1 + other) q) miss ≡ false)
      → (other : ℕ) (q : Pair) → other < read + 1 → slice_get all other ≡ Some q → is_less (miss_of weather (1 + other) q) miss ≡ false
  one_more read p miss at now before other q less found =
      elim (nat_lt other read) as (λ b. nat_lt other read ≡ b → is_less (miss_of weather (1 + other) q) miss ≡ false) [
        | true ↦ λ t. before other q (ltb-true other read t) found
        | false ↦ λ t.
            let h = ltb-false other read t in
            let same : read ≡ other = omega (arith, h, less) in
            let there : Some p ≡ Some q = sym at ∙ ap (slice_get all) same ∙ found in
            subst (λ i. is_less (miss_of weather (1 + i) q) miss ≡ false) same (subst (λ x. is_less (miss_of weather (1 + read) x) miss ≡ false) (ap (pair_or p) there) now)
      ] refl

  step_by : (less : Bool) (read : ℕ) (p : Pair) (a : Miss) → slice_get all read ≡ Some p → is_less (miss_of weather (1 + read) p) a ≡ less → IsLeast read a
      → Least (read + 1) (cond less (Some (miss_of weather (1 + read) p)) (Some a))
  step_by true read p a at e old = record {
    place = read;
    pair = p;
    stands = at;
    is = refl;
    none_is_less = one_more read p (miss_of weather (1 + read) p) at (less_irreflexive (miss_of weather (1 + read) p))
        (λ other q before found. less_through (miss_of weather (1 + other) q) (miss_of weather (1 + read) p) a (old.none_is_less other q before found) e);
  }
  step_by false read p a at e old = record {
    place = old.place;
    pair = old.pair;
    stands = old.stands;
    is = old.is;
    none_is_less = one_more read p a at e old.none_is_less;
  }

  step : (read : ℕ) (p : Pair) (found : Option Miss) → slice_get all read ≡ Some p → Least read found → Least (read + 1) (lesser_miss found (miss_of weather (1 + read) p))
  step read p None at old = record {
    place = read;
    pair = p;
    stands = at;
    is = refl;
    none_is_less = one_more read p (miss_of weather (1 + read) p) at (less_irreflexive (miss_of weather (1 + read) p)) (λ other q before found. absurd (omega (arith, before, old)));
  }
  step read p (Some a) at old = step_by (is_less (miss_of weather (1 + read) p) a) read p a at refl old

  -- all minima are read
  done : (read : ℕ) (found : Option Miss) → length all ≤ read → Least read found → IsNearest weather all found
  done read None most least = empty all (omega (arith, most, least))
  done read (Some miss) most least = record {
    place = least.place;
    pair = least.pair;
    stands = least.stands;
    is = subst (IsMiss weather (1 + least.place) least.pair) (sym least.is) (miss_is weather (1 + least.place) least.pair);
    none_is_less = λ other p m found is.
        let inside = within all other p found in
        no_less_than weather (1 + other) p miss m is (no_less miss (miss_of weather (1 + other) p) (least.none_is_less other p (omega (arith, inside, most)) found));
  }

  abbrev From : ℕ → List Pair → Type 0
  From k ps = (i : ℕ) (p : Pair) → slice_get ps i ≡ Some p → slice_get all (k + i) ≡ Some p

  walk : (read n : ℕ) (found : Option Miss) (ps : List Pair) → n ≡ 1 + read → length all ≤ read + length ps → From read ps → Least read found → IsNearest weather all (nearest_from weather found n ps)
  walk read n found [] number most each least = done read found (omega (arith, most)) least
  walk read n found (p ∷ ps) number most each least =
      let here : read + 0 ≡ read = omega arith in
      let at : slice_get all read ≡ Some p = subst (λ i. slice_get all i ≡ Some p) here (each 0 p refl) in
      walk (read + 1) (n + 1) (lesser_miss found (miss_of weather n p)) ps (omega (arith, number)) (omega (arith, most))
      (λ i q is. let later : read + suc i ≡ (read + 1) + i = omega arith in subst (λ j. slice_get all j ≡ Some q) later (each (suc i) q is))
      (subst (λ k. Least (read + 1) (lesser_miss found (miss_of weather k p))) (sym number) (step read p found at least))

-- the nearest minima are missed by the least
pub nearest_is : (weather : Cond) (pairs : List Pair) → IsNearest weather pairs (nearest_of weather pairs)
nearest_is weather pairs =
    walk weather pairs 0 1 None pairs refl (omega arith) (λ i p is. let same : i ≡ 0 + i = omega arith in subst (λ j. slice_get pairs j ≡ Some p) same is) refl
