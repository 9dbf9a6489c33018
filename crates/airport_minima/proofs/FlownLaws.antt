-- The approaches that count are those that the type can fly, and they give the minima for landing.
use Rattle.std.proofs.Common.{◌≡◌, ℕ, Bool, true, false, not, List, map, get_or, Contains, refl, sym, subst}
use Rattle.std.specs.Prelude.{Any}
use Rattle.std.specs.Str.{bytes_eq}
use Rattle.std.proofs.lemmas.Bool.{not-true, and_parts, and_from}
use Rattle.std.proofs.lemmas.List.Elements.{All-map, All-filter, filter_passes, All-contains_itself, All-weaker}
use Rattle.std.proofs.lemmas.List.Folds.{Any-from_list_any, list_any-from_Any}
use Rattle.std.proofs.lemmas.Slice.Eq.{bytes_eq-Decides}
use Rattle.desk_io.specs.Station.{Station}
use Rattle.desk_io.specs.declared.pair.Pair.{Pair}
use Rattle.ops_tables.specs.Names.{has_name}
use Rattle.ops_tables.specs.declared.rows.Approach.{Approach}
use Rattle.ops_tables.specs.declared.rows.TypeRow.{TypeRow}
use Rattle.ops_tables.specs.Tables.{TableRows, approaches_of}
use Rattle.airport_minima.specs.Minima.{is_usable, usable, minima_of, landing}
use Rattle.airport_minima.specs.Flown.{CanFly, AreFlown, IsLanding, AreLandingMinima}
use Rattle.airport_minima.proofs.AlternateLaws.{Stays, each_passing, mapped, same_pair}

any_weaker : {A : Type 0} (P Q : A → Type 0) → ((a : A) → P a → Q a) → (xs : List A) → Any P xs → Any Q xs
any_weaker P Q f xs any = (any.0, any.1, any.2, any.3, f any.1 any.4)

-- a name is among some names where the test says so, and only there
among : (names : List (List ℕ)) (name : List ℕ) → has_name names name ≡ true → Any (λ n. n ≡ name) names
among names name e = any_weaker (λ n. bytes_eq n name ≡ true) (λ n. n ≡ name) (λ n is. (bytes_eq-Decides n name).0 is) names (Any-from_list_any (λ n. bytes_eq n name) names e)

found : (names : List (List ℕ)) (name : List ℕ) → Any (λ n. n ≡ name) names → has_name names name ≡ true
found names name any = list_any-from_Any (λ n. bytes_eq n name) names (any_weaker (λ n. n ≡ name) (λ n. bytes_eq n name ≡ true) (λ n is. (bytes_eq-Decides n name).1 is) names any)

not_so : (b : Bool) → (b ≡ true → ⊥) → not b ≡ true
not_so true none = absurd (none refl)
not_so false none = refl

can_fly : (kind : TypeRow) (lost : List (List ℕ)) (a : Approach) → is_usable kind lost a ≡ true → CanFly kind lost a
can_fly kind lost a e =
    let both = and_parts (has_name kind.capabilities a.capability) (not (has_name lost a.capability)) e in
    let unlost = not-true (has_name lost a.capability) both.1 in
    record { has = among kind.capabilities a.capability both.0; keeps = λ any. let is = found lost a.capability any in absurd (cc) }

counts : (kind : TypeRow) (lost : List (List ℕ)) (a : Approach) → CanFly kind lost a → is_usable kind lost a ≡ true
counts kind lost a can =
    and_from (has_name kind.capabilities a.capability) (not (has_name lost a.capability)) (found kind.capabilities a.capability can.has)
    (not_so (has_name lost a.capability) (λ e. can.keeps (among lost a.capability e)))

pub are_flown : (tables : TableRows) (kind : TypeRow) (station : Station) (lost : List (List ℕ)) → AreFlown tables kind station lost
are_flown tables kind station lost =
    let all = approaches_of tables station in
    record {
      only = λ k d within. (
        All-filter (λ a. is_usable kind lost a) (Contains all) all (All-contains_itself all) k d within,
        can_fly kind lost (get_or (usable tables kind station lost) k d) (filter_passes (λ a. is_usable kind lost a) all k d within),
      );
      each = All-weaker (Stays (λ a. is_usable kind lost a) (usable tables kind station lost)) (λ a. CanFly kind lost a → Contains (usable tables kind station lost) a)
          (λ a stays can. stays (counts kind lost a can)) all (each_passing (λ a. is_usable kind lost a) all);
    }

module _ (tables : TableRows) (kind : TypeRow) (station : Station) (lost : List (List ℕ)) where
  abbrev Counted : List Approach
  Counted = usable tables kind station lost

  abbrev IsOne : Pair → Type 0
  IsOne pair = (a : Approach) × Contains (approaches_of tables station) a × CanFly kind lost a × IsLanding a pair

  abbrev Comes : List Pair → Approach → Type 0
  Comes pairs a = CanFly kind lost a → (pair : Pair) → IsLanding a pair → Contains pairs pair

  landing_by : AreFlown tables kind station lost → AreLandingMinima tables kind station lost (map (λ a. minima_of a) Counted)
  landing_by flown = record {
    only = All-map IsOne (λ a. minima_of a) Counted
        (λ k d within. (get_or Counted k d, (flown.only k d within).0, (flown.only k d within).1, record { ceiling = refl; visibility = refl }));
    each = All-weaker (λ a. CanFly kind lost a → Contains Counted a) (Comes (map (λ a. minima_of a) Counted))
        (λ a comes can pair is. subst (Contains (map (λ a. minima_of a) Counted)) (same_pair (minima_of a) pair (sym is.ceiling) (sym is.visibility))
        (mapped (λ a. minima_of a) Counted a (comes can)))
        (approaches_of tables station) flown.each;
  }

  pub are_landing : (pairs : List Pair) → pairs ≡ landing tables kind station lost → AreLandingMinima tables kind station lost pairs
  unfolding landing
  are_landing pairs e = rw e (landing_by (are_flown tables kind station lost))
