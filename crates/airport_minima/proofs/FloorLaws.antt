-- The least values of approaches are those of some, and none is lower.
use Rattle.std.proofs.Common.{◌≡◌, ℕ, ◌≤◌, min, nat_lt, true, false, List, [], ◌∷◌, length, map, All, Contains, Option, MatchOption, refl, ap, sym, subst, arith}
use Rattle.std.proofs.lemmas.Bool.{ltb-true, ltb-false, lt-ltb, le-ltb, cond-true, cond-false}
use Rattle.std.proofs.lemmas.List.Elements.{All-nil, All-cons, Contains-append_right}
use Rattle.desk_io.specs.Station.{Station}
use Rattle.desk_io.specs.declared.pair.Pair.{Pair}
use Rattle.ops_tables.specs.declared.rows.Approach.{Approach}
use Rattle.ops_tables.specs.declared.rows.TypeRow.{TypeRow}
use Rattle.ops_tables.specs.Tables.{TableRows}
use Rattle.airport_minima.specs.declared.floors.Lowest.{Lowest}
use Rattle.airport_minima.specs.Minima.{usable}
use Rattle.airport_minima.specs.Floor.{lower, lowest_of, floor_over, circle_of, flag_floor}
use Rattle.airport_minima.specs.Lowest.{IsLeastOf, IsFlagFloor}

least_of_one : (x : ℕ) → IsLeastOf (x ∷ []) x
least_of_one x = record { none_is_lower = All-cons (λ v. x ≤ v) x [] (omega arith) (All-nil (λ v. x ≤ v)); one_has_it = (0, omega arith, refl) }

all_above : (values : List ℕ) (a b : ℕ) → b ≤ a → All (λ v. a ≤ v) values → All (λ v. b ≤ v) values
all_above values a b lower all = λ k d within. let one = all k d within in omega arith

lesser_is_there : (x least : ℕ) (values : List ℕ) → Contains values least → Contains (x ∷ values) (min x least)
lesser_is_there x least values h =
    elim (nat_lt x least) as (λ b. nat_lt x least ≡ b → Contains (x ∷ values) (min x least)) [
      | true ↦ λ t. let lesser : min x least ≡ x = let less = ltb-true _ _ t in omega arith in rw lesser (0, omega arith, refl)
      | false ↦ λ t. let lesser : min x least ≡ least = let less = ltb-false _ _ t in omega arith in rw lesser (Contains-append_right (x ∷ []) values least h)
    ] refl

least_of_more : (x least : ℕ) (values : List ℕ) → IsLeastOf values least → IsLeastOf (x ∷ values) (min x least)
least_of_more x least values is = record {
  none_is_lower = All-cons (λ v. min x least ≤ v) x values (omega arith) (all_above values least (min x least) (omega arith) is.none_is_lower);
  one_has_it = lesser_is_there x least values is.one_has_it;
}

record Least (approaches : List Approach) (lowest : Lowest) : Type 0 where
  heights : IsLeastOf (map (λ a. a.height) approaches) lowest.height
  visibilities : IsLeastOf (map (λ a. a.vis16) approaches) lowest.vis16

least : (a : Approach) (others : List Approach) → Least (a ∷ others) (lower a (lowest_of others))
least a [] = record { heights = least_of_one a.height; visibilities = least_of_one a.vis16 }
least a (b ∷ others) =
    let rest = least b others in
    record {
      heights = least_of_more a.height (lower b (lowest_of others)).height (map (λ x. x.height) (b ∷ others)) rest.heights;
      visibilities = least_of_more a.vis16 (lower b (lowest_of others)).vis16 (map (λ x. x.vis16) (b ∷ others)) rest.visibilities;
    }

module _ (tables : TableRows) (kind : TypeRow) (station : Station) (lost : List (List ℕ)) where
  abbrev Answers : Option Pair → Type 0
  Answers result = MatchOption result (length (usable tables kind station lost) ≡ 0) (λ floor. IsFlagFloor tables kind station lost floor)

  floor_over_some : (approaches : List Approach) → usable tables kind station lost ≡ approaches → Answers (floor_over (circle_of tables station) (lowest_of approaches))
  floor_over_some [] e = ap length e
  floor_over_some (a ∷ others) e =
      let lowest = lower a (lowest_of others) in
      let is = subst (λ all. Least all lowest) (sym e) (least a others) in
      record {
        height = lowest.height;
        lowest_height = is.heights;
        sixteenths = lowest.vis16;
        lowest_visibility = is.visibilities;
        over_circling = λ some. cond-true (nat_lt 0 (circle_of tables station)) _ _ (lt-ltb 0 (circle_of tables station) some);
        over_lowest = λ none. cond-false (nat_lt 0 (circle_of tables station)) _ _ (le-ltb 0 (circle_of tables station) (omega arith));
        visibility = refl;
      }

  pub flag_floor_is : (result : Option Pair) → result ≡ flag_floor tables kind station lost → Answers result
  unfolding flag_floor
  flag_floor_is result e = rw e (floor_over_some (usable tables kind station lost) refl)
