-- The greatest fuel is that of an alternate, and none has more.
use Rattle.std.proofs.Common.{◌≡◌, ℕ, ◌<◌, ◌≤◌, max, nat_lt, true, false, List, [], ◌∷◌, length, map, All, Contains, refl, arith, ltb-true, ltb-false}
use Rattle.std.proofs.lemmas.List.Elements.{All-nil, All-cons, Contains-append_right}
use Rattle.plan.specs.declared.flights.Alternate.{Alternate}
use Rattle.plan.specs.Fuel.{most_fuel}
use Rattle.plan.specs.Distant.{IsToMostDistant}

most_within : (alternates : List Alternate) (fuel : ℕ) → most_fuel alternates ≤ fuel → All (λ a. a.fuel ≤ fuel) alternates
most_within [] fuel h = All-nil (λ a. a.fuel ≤ fuel)
most_within (a ∷ others) fuel h = All-cons (λ x. x.fuel ≤ fuel) a others (omega arith) (most_within others fuel (omega arith))

greater_is_there : (x m : ℕ) (others : List ℕ) → Contains others m → Contains (x ∷ others) (max x m)
greater_is_there x m others h =
    elim (nat_lt x m) as (λ b. nat_lt x m ≡ b → Contains (x ∷ others) (max x m)) [
      | true ↦ λ t. let greater : max x m ≡ m = let less = ltb-true _ _ t in omega arith in rw greater (Contains-append_right (x ∷ []) others m h)
      | false ↦ λ t. let greater : max x m ≡ x = let less = ltb-false _ _ t in omega arith in rw greater (0, omega arith, refl)
    ] refl

most_is_there : (a : Alternate) (others : List Alternate) → Contains (map (λ x. x.fuel) (a ∷ others)) (most_fuel (a ∷ others))
most_is_there a [] = let only : max a.fuel 0 ≡ a.fuel = omega arith in rw only (0, omega arith, refl)
most_is_there a (b ∷ others) = greater_is_there a.fuel (most_fuel (b ∷ others)) (map (λ x. x.fuel) (b ∷ others)) (most_is_there b others)

there_where_any : (alternates : List Alternate) → 0 < length alternates → Contains (map (λ a. a.fuel) alternates) (most_fuel alternates)
there_where_any [] some = absurd (omega arith)
there_where_any (a ∷ others) some = most_is_there a others

none_where_none : (alternates : List Alternate) → length alternates ≡ 0 → most_fuel alternates ≡ 0
none_where_none [] none = refl
none_where_none (a ∷ others) none = absurd (omega arith)

pub most_is_to_most_distant : (alternates : List Alternate) → IsToMostDistant alternates (most_fuel alternates)
most_is_to_most_distant alternates = record {
  none_has_more = most_within alternates (most_fuel alternates) (omega arith);
  one_has_it = there_where_any alternates;
  without_any = none_where_none alternates;
}
