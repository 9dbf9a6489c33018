-- The indexes of the reports that stay, and which of them are the latest by their places.
use Rattle.std.proofs.Common.{◌≡◌, refl, sym, ap, ◌∙◌, subst, ℕ, zero, suc, ◌+◌, ◌<◌, ◌≤◌, Bool, true, false, cond, ◌||◌, List, [], ◌∷◌, ◌++◌, length, take, drop, get_or, Option, Some, None, arith, ◌==◌, nat_lt, nat_le, AllPairs, Result, Ok, Err, MatchResult, is_ok, nat_cmp, bytes_eq, option_map, ltb-true, ltb-false, eqb-true, eq-eqb}
use Rattle.std.specs.Cmp.Lexicographic.{slice_cmp}
use Rattle.std.specs.List.{slice_get, list_any}
use Rattle.std.specs.List.Sorted.{IsNonDecreasing, IsBinarySearchResult}
use Rattle.std.specs.Map.{keys_of}
use Rattle.std.specs.BTreeMap.{is_at}
use Rattle.std.proofs.lemmas.List.{take_more, drop_more, length-take-le}
use Rattle.std.proofs.lemmas.List.Filters.{FiltersInPlace}
use Rattle.std.proofs.lemmas.List.Sorted.{searched}
use Rattle.std.proofs.lemmas.Map.Text.{is_eq-slice_cmp}
use Rattle.std.proofs.lemmas.Slice.Eq.{bytes_eq-Decides}
use Rattle.std.specs.Cmp.{both_ways}
use Rattle.desk_io.specs.Station.{Station}
use Rattle.facts.specs.declared.index.Places.{Places}
use Rattle.facts.specs.declared.latest.Kind.{Kind}
use Rattle.facts.specs.declared.latest.Kind.TheVariants as kind
use Rattle.facts.specs.declared.report.Report.{Report}
use Rattle.facts.specs.Same.{minute_of_report, station_of_report}
use Rattle.facts.specs.Latest.{latest}
use Rattle.facts.specs.Lines.{stations_of}
use Rattle.facts.specs.Index.{place_of, place_in, places_or, places_with, no_places, IsAtPlace, of_station, IsLatestIndex}
use Rattle.facts.specs.Swept.{kind_of, has_id, is_latest, is_kept, stays, is_place, stands_latest, stays_at}
use Rattle.facts.proofs.IndexLaws.{place_or, updated}
use Rattle.facts.proofs.StationLaws.{are_stations}

-- the latest by its place

get_at : (rs : List Report) (i : ℕ) (d : Report) → i < length rs → slice_get rs i ≡ Some (get_or rs i d)
get_at [] i d within = absurd (omega arith)
get_at (r ∷ rs) zero d within = refl
get_at (r ∷ rs) (suc i) d within = get_at rs i d (omega arith)

-- numbers that rise tell places apart
same_place : (rs : List Report) (at place : ℕ) (r : Report) → AllPairs (λ a b. a.id < b.id) rs → at < length rs → place < length rs → r ≡ get_or rs place r
    → (at == place) ≡ ((get_or rs at r).id == r.id)
same_place rs at place r rising within there is =
    both_ways (at == place) ((get_or rs at r).id == r.id)
    (λ e. let same = eqb-true at place e in eq-eqb (get_or rs at r).id r.id (ap (λ i. (get_or rs i r).id) same ∙ ap (λ (x : Report). x.id) (sym is)))
    (λ e. let same = eqb-true (get_or rs at r).id r.id e in eq-eqb at place (equal same (nat_lt at place) (nat_lt place at) refl refl))
  where
    equal : (get_or rs at r).id ≡ r.id → (a b : Bool) → nat_lt at place ≡ a → nat_lt place at ≡ b → at ≡ place
    equal same true b e f =
        let low = rising at place r (ltb-true at place e) there in
        let id_is = ap (λ (x : Report). x.id) is in absurd (omega arith)
    equal same false true e f =
        let high = rising place at r (ltb-true place at f) within in
        let id_is = ap (λ (x : Report). x.id) is in absurd (omega arith)
    equal same false false e f = let x = ltb-false at place e in let y = ltb-false place at f in omega arith

by_place : (kind : Kind) (station : Station) (rs : List Report) (r : Report) (place : ℕ) (o : Option ℕ) → AllPairs (λ a b. a.id < b.id) rs → place < length rs → r ≡ get_or rs place r
    → IsAtPlace kind station rs o → is_place o place ≡ has_id r.id (latest kind station rs)
by_place kind station rs r place None rising there is at = ap (has_id r.id) (sym at)
by_place kind station rs r place (Some held) rising there is at =
    same_place rs held place r rising at.0 there is ∙ ap (has_id r.id) (sym (get_at rs held r at.0) ∙ at.1)

latest_by_place : (entries : List (Station × Places)) (rs : List Report) (r : Report) (place : ℕ) → AllPairs (λ a b. a.id < b.id) rs → IsLatestIndex entries rs → place < length rs → r ≡ get_or rs place r
    → stands_latest entries r place ≡ is_latest rs r
latest_by_place entries rs r place rising index there is =
    by_place (kind_of r.read) (station_of_report r) rs r place (place_of (kind_of r.read) (places_or (of_station entries (station_of_report r)))) rising there is
    (subst (IsAtPlace (kind_of r.read) (station_of_report r) rs) (sym (place_or (kind_of r.read) (of_station entries (station_of_report r)))) (index.latest (kind_of r.read) (station_of_report r)))

-- what is tested by places is what stays
pub stays_by_place : (before : ℕ) (keep : List ℕ) (entries : List (Station × Places)) (rs ys : List Report) (to from : ℕ) (r : Report) (b : Bool) → AllPairs (λ a b. a.id < b.id) rs → IsLatestIndex entries rs
    → FiltersInPlace (stays before keep rs) rs ys to from → from < length ys → r ≡ get_or ys from r → b ≡ stays_at before keep entries r from → b ≡ stays before keep rs r
stays_by_place before keep entries rs ys to from r b rising index filters within is tested =
    let long = filters.long in
    let left : drop from ys ≡ drop from rs = filters.rest in
    let here : r ≡ get_or rs from r =
    is ∙ ap (λ xs. get_or xs 0 r) (sym (drop_more ys from r within) ∙ left ∙ drop_more rs from r (omega arith)) in
    tested ∙ ap (λ l. nat_le before (minute_of_report r) || l || is_kept keep r) (latest_by_place entries rs r from rising index (omega arith) here)

-- the same of the list as it stands
pub stays_there : (before : ℕ) (keep : List ℕ) (entries : List (Station × Places)) (rs : List Report) (place : ℕ) (r : Report) (b : Bool) → AllPairs (λ a b. a.id < b.id) rs → IsLatestIndex entries rs
    → place < length rs → r ≡ get_or rs place r → b ≡ stays_at before keep entries r place → b ≡ stays before keep rs r
stays_there before keep entries rs place r b rising index within there tested =
    tested ∙ ap (λ l. nat_le before (minute_of_report r) || l || is_kept keep r) (latest_by_place entries rs r place rising index within there)

-- numbers to keep

any_at : (keep : List ℕ) (id i : ℕ) → i < length keep → get_or keep i 0 ≡ id → list_any (λ k. k == id) keep ≡ true
any_at [] id i within is = absurd (omega arith)
any_at (k ∷ keep) id zero within is = rw (eq-eqb k id is) refl
any_at (k ∷ keep) id (suc i) within is = by (k == id) (any_at keep id i (omega arith) is)
  where
    by : (b : Bool) → list_any (λ k. k == id) keep ≡ true → b || list_any (λ k. k == id) keep ≡ true
    by true rest = refl
    by false rest = rest

any_none : (keep : List ℕ) (id : ℕ) → ((i : ℕ) → i < length keep → get_or keep i 0 ≡ id → ⊥) → list_any (λ k. k == id) keep ≡ false
any_none [] id none = refl
any_none (k ∷ keep) id none = by (k == id) refl (any_none keep id (λ i within. none (suc i) (omega arith)))
  where
    by : (b : Bool) → (k == id) ≡ b → list_any (λ k. k == id) keep ≡ false → b || list_any (λ k. k == id) keep ≡ false
    by true e rest = absurd (none 0 (omega arith) (eqb-true k id e))
    by false e rest = rest

above_or_below : (keep : List ℕ) (id i k : ℕ) → ((k : ℕ) → k < i → get_or keep k 0 < id) → ((k : ℕ) → i ≤ k → k < length keep → id < get_or keep k 0) → k < length keep → get_or keep k 0 ≡ id → ⊥
above_or_below keep id i k low high within is =
    elim (nat_lt k i) as (λ b. nat_lt k i ≡ b → ⊥) [
      | true ↦ λ e. let below = low k (ltb-true k i e) in absurd (omega arith)
      | false ↦ λ e. let above = high k (ltb-false k i e) within in absurd (omega arith)
    ] refl

-- what a search among rising numbers finds
pub kept_is : (keep : List ℕ) (id : ℕ) (r : Result ℕ ℕ) → IsBinarySearchResult (λ y. nat_cmp y id) keep r → IsNonDecreasing keep → is_ok r ≡ list_any (λ k. k == id) keep
kept_is keep id r is rising = by r (searched keep id r is (λ i j le within. rising i j 0 le within))
  where
    by : (r : Result ℕ ℕ)
        → MatchResult r (λ i. (i < length keep) × (get_or keep i 0 ≡ id)) (λ i. (i ≤ length keep) × ((k : ℕ) → k < i → get_or keep k 0 < id) × ((k : ℕ) → i ≤ k → k < length keep → id < get_or keep k 0))
        → is_ok r ≡ list_any (λ k. k == id) keep
    by (Ok i) h = sym (any_at keep id i h.0 h.1)
    by (Err i) h = sym (any_none keep id (λ k within e. above_or_below keep id i k h.1 h.2 within e))

-- the latest of the first reports, so many

-- what holds once so many are in the index
pub record IsIndexed (entries : List (Station × Places)) (rs : List Report) (n : ℕ) : Type 0 where
  pub stations : keys_of entries ≡ stations_of rs
  pub latest : (kind : Kind) (station : List ℕ) → IsAtPlace kind station (take n rs) (place_in kind (of_station entries station))

nowhere : (kind : Kind) (station : List ℕ) (o : Option Places) → IsAtPlace kind station [] (place_in kind (option_map (λ _. no_places) o))
nowhere kind.Observation station None = refl
nowhere kind.Observation station (Some p) = refl
nowhere kind.Forecast station None = refl
nowhere kind.Forecast station (Some p) = refl

pub none_indexed : (before after : List (Station × Places)) (rs : List Report) → keys_of before ≡ stations_of rs → keys_of after ≡ keys_of before
    → ((q : List ℕ) → of_station after q ≡ option_map (λ _. no_places) (of_station before q)) → IsIndexed after rs 0
none_indexed before after rs same keys each = record {
  stations = keys ∙ same;
  latest = λ kind station. subst (λ o. IsAtPlace kind station [] (place_in kind o)) (sym (each station)) (nowhere kind station (of_station before station));
}

-- a station among the keys has places
there : (entries : List (Station × Places)) (s : Station) → list_any (λ t. bytes_eq t s) (keys_of entries) ≡ true → of_station entries s ≡ None → ⊥
there [] s e none = cc
there (f ∷ es) s e none = by (bytes_eq f.0 s) refl e none (there es s)
  where
    by : (b : Bool) → bytes_eq f.0 s ≡ b → b || list_any (λ t. bytes_eq t s) (keys_of es) ≡ true → cond (is_at (slice_cmp nat_cmp s) f.0) (Some f.1) (of_station es s) ≡ None → (list_any (λ t. bytes_eq t s) (keys_of es) ≡ true → of_station es s ≡ None → ⊥) → ⊥
    by true h e none rest =
        let same = (bytes_eq-Decides f.0 s).0 h in
        let tied : is_at (slice_cmp nat_cmp s) f.0 ≡ true = subst (λ x. is_at (slice_cmp nat_cmp s) x ≡ true) (sym same) (is_eq-slice_cmp s s ∙ (bytes_eq-Decides s s).1 refl) in
        let some = sym (ap (λ b. cond b (Some f.1) (of_station es s)) tied) ∙ none in cc
    by false h e none rest = past (is_at (slice_cmp nat_cmp s) f.0) none (rest e)
      where
        past : (b : Bool) → cond b (Some f.1) (of_station es s) ≡ None → (of_station es s ≡ None → ⊥) → ⊥
        past true g rest = cc
        past false g rest = rest g

any_report : (rs : List Report) (i : ℕ) (r : Report) → i < length rs → r ≡ get_or rs i r → list_any (λ q. bytes_eq (station_of_report q) (station_of_report r)) rs ≡ true
any_report [] i r within is = absurd (omega arith)
any_report (q ∷ rs) zero r within is = by (bytes_eq (station_of_report q) (station_of_report r)) (subst (λ x. bytes_eq (station_of_report x) (station_of_report r) ≡ true) is ((bytes_eq-Decides (station_of_report r) (station_of_report r)).1 refl))
  where
    by : (b : Bool) → b ≡ true → b || list_any (λ q. bytes_eq (station_of_report q) (station_of_report r)) rs ≡ true
    by true e = refl
    by false e = absurd cc
any_report (q ∷ rs) (suc i) r within is = by (bytes_eq (station_of_report q) (station_of_report r)) (any_report rs i r (omega arith) is)
  where
    by : (b : Bool) → list_any (λ q. bytes_eq (station_of_report q) (station_of_report r)) rs ≡ true → b || list_any (λ q. bytes_eq (station_of_report q) (station_of_report r)) rs ≡ true
    by true rest = refl
    by false rest = rest

some_places : (c : Bool) (places : Places) (o own : Option Places) → (c ≡ true → o ≡ own) → (own ≡ None → ⊥) → cond c (option_map (λ _. places) o) o ≡ cond c (Some places) o
some_places true places None own same has = absurd (has (sym (same refl)))
some_places true places (Some p) own same has = refl
some_places false places o own same has = refl

-- one more is in the index
pub more_indexed : (before after : List (Station × Places)) (rs seen : List Report) (n : ℕ) (r : Report) (key : List ℕ) (old places : Places) → IsIndexed before rs n → n < length rs → r ≡ get_or rs n r
    → seen ≡ take n rs → key ≡ station_of_report r → old ≡ places_or (of_station before key) → places ≡ places_with seen old r r.read n
    → keys_of after ≡ keys_of before
    → ((q : List ℕ) → of_station after q ≡ cond (is_at (slice_cmp nat_cmp q) key) (option_map (λ _. places) (of_station before q)) (of_station before q))
    → IsIndexed after rs (n + 1)
more_indexed before after rs seen n r key old places is within at front named had new keys each =
    let own = station_of_report r in
    let has : of_station before own ≡ None → ⊥ =
    there before own (ap (list_any (λ t. bytes_eq t own)) is.stations ∙ (are_stations rs).each own ∙ any_report rs n r within at) in
    let long : n ≡ length (take n rs) = sym (length-take-le n rs (omega arith)) in
    let places_is : places ≡ places_with (take n rs) (places_or (of_station before own)) r r.read (length (take n rs)) =
    new ∙ (λ i. places_with (front i) ((had ∙ ap (λ s. places_or (of_station before s)) named) i) r r.read (long i)) in
    let all : take (n + 1) rs ≡ take n rs ++ r ∷ [] = take_more rs n r within ∙ ap (λ x. take n rs ++ x ∷ []) (sym at) in
    let with_it : (q : List ℕ) → of_station after q ≡ cond (bytes_eq q own) (Some (places_with (take n rs) (places_or (of_station before own)) r r.read (length (take n rs)))) (of_station before q) =
    λ q.
    each q ∙ ap (λ s. cond (is_at (slice_cmp nat_cmp q) s) (option_map (λ _. places) (of_station before q)) (of_station before q)) named
    ∙ ap (λ c. cond c (option_map (λ _. places) (of_station before q)) (of_station before q)) (is_eq-slice_cmp q own)
    ∙ some_places (bytes_eq q own) places (of_station before q) (of_station before own) (λ e. ap (of_station before) ((bytes_eq-Decides q own).0 e)) has
    ∙ ap (λ p. cond (bytes_eq q own) (Some p) (of_station before q)) places_is in
    record {
      stations = keys ∙ is.stations;
      latest = λ kind station.
          subst (λ xs. IsAtPlace kind station xs (place_in kind (of_station after station))) (sym all)
          (updated kind station before after (take n rs) r (bytes_eq station own) refl (is.latest kind) (with_it station));
    }

pub all_indexed : (entries : List (Station × Places)) (rs : List Report) (n : ℕ) → IsIndexed entries rs n → take n rs ≡ rs → IsLatestIndex entries rs
all_indexed entries rs n is all = record {
  stations = is.stations;
  latest = λ kind station. subst (λ xs. IsAtPlace kind station xs (place_in kind (of_station entries station))) all (is.latest kind station);
}
