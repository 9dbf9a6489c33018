-- The stations of reports rise and are those that have a report, and the keys of an index are these.
use Rattle.std.proofs.Common.{◌≡◌, refl, sym, ap, ◌∙◌, subst, Bool, true, false, ◌||◌, List, [], ◌∷◌, ◌++◌, Ordering, Less, Equal, Greater, bytes_eq}
use Rattle.std.specs.Ordering.{nat_cmp, match_ordering, is_eq, ordering_reverse}
use Rattle.std.specs.Cmp.Lexicographic.{slice_cmp}
use Rattle.std.specs.List.{AllByRecursion, list_any}
use Rattle.std.specs.List.Sorted.{IsStrictlySortedBy}
use Rattle.std.specs.Map.{keys_of}
use Rattle.std.specs.BTreeMap.{insert_entry}
use Rattle.std.proofs.lemmas.Cmp.{nat_list_cmp_total}
use Rattle.std.proofs.lemmas.Map.Text.{is_eq-slice_cmp}
use Rattle.std.proofs.lemmas.Slice.Eq.{bytes_eq-Decides}
use Rattle.desk_io.specs.Station.{Station}
use Rattle.facts.specs.declared.report.Report.{Report}
use Rattle.facts.specs.Same.{station_of_report}
use Rattle.facts.specs.Lines.{with_station, stations_with, stations_of, AreStations}

-- one more key
pub keys_with : {V : Type 0} (s : Station) (v : V) (es : List (Station × V)) → keys_of (insert_entry (slice_cmp nat_cmp) es s v) ≡ with_station s (keys_of es)
keys_with s v [] = refl
keys_with s v (e ∷ es) = by (slice_cmp nat_cmp s e.0) (keys_with s v es)
  where
    by : (r : Ordering) → keys_of (insert_entry (slice_cmp nat_cmp) es s v) ≡ with_station s (keys_of es)
        → keys_of (match_ordering r ((s, v) ∷ e ∷ es) ((e.0, v) ∷ es) (e ∷ insert_entry (slice_cmp nat_cmp) es s v)) ≡ match_ordering r (s ∷ e.0 ∷ keys_of es) (e.0 ∷ keys_of es) (e.0 ∷ with_station s (keys_of es))
    by Less rest = refl
    by Equal rest = refl
    by Greater rest = ap (λ ks. e.0 ∷ ks) rest

stations_push : (found : List Station) (rs : List Report) (r : Report) → stations_with found (rs ++ r ∷ []) ≡ with_station (station_of_report r) (stations_with found rs)
stations_push found [] r = refl
stations_push found (q ∷ rs) r = stations_push (with_station (station_of_report q) found) rs r

-- one more report
pub stations_of_push : (rs : List Report) (r : Report) → stations_of (rs ++ r ∷ []) ≡ with_station (station_of_report r) (stations_of rs)
unfolding stations_of
stations_of_push rs r = stations_push [] rs r

below_each : (e s : Station) (ks : List Station) → slice_cmp nat_cmp e s ≡ Less → AllByRecursion (λ y. slice_cmp nat_cmp e y ≡ Less) ks → AllByRecursion (λ y. slice_cmp nat_cmp e y ≡ Less) (with_station s ks)
below_each e s [] low all = (low, tt)
below_each e s (t ∷ ks) low all = by (slice_cmp nat_cmp s t) (below_each e s ks low all.1)
  where
    by : (r : Ordering) → AllByRecursion (λ y. slice_cmp nat_cmp e y ≡ Less) (with_station s ks)
        → AllByRecursion (λ y. slice_cmp nat_cmp e y ≡ Less) (match_ordering r (s ∷ t ∷ ks) (t ∷ ks) (t ∷ with_station s ks))
    by Less rest = (low, all)
    by Equal rest = all
    by Greater rest = (all.0, rest)

pub above_each : (s t : Station) (ks : List Station) → slice_cmp nat_cmp s t ≡ Less → AllByRecursion (λ y. slice_cmp nat_cmp t y ≡ Less) ks → AllByRecursion (λ y. slice_cmp nat_cmp s y ≡ Less) ks
above_each s t [] low all = tt
above_each s t (y ∷ ks) low all = (nat_list_cmp_total.trans s t y low all.0, above_each s t ks low all.1)

rising_with : (s : Station) (ks : List Station) → IsStrictlySortedBy (slice_cmp nat_cmp) ks → IsStrictlySortedBy (slice_cmp nat_cmp) (with_station s ks)
unfolding IsStrictlySortedBy
rising_with s [] sorted = (tt, tt)
rising_with s (t ∷ ks) sorted = by (slice_cmp nat_cmp s t) refl (rising_with s ks sorted.1)
  where
    by : (r : Ordering) → slice_cmp nat_cmp s t ≡ r → IsStrictlySortedBy (slice_cmp nat_cmp) (with_station s ks) → IsStrictlySortedBy (slice_cmp nat_cmp) (match_ordering r (s ∷ t ∷ ks) (t ∷ ks) (t ∷ with_station s ks))
    by Less low rest = ((low, above_each s t ks low sorted.0), sorted)
    by Equal same rest = sorted
    by Greater high rest = (below_each t s ks (nat_list_cmp_total.antisymm t s ∙ ap ordering_reverse high) sorted.0, rest)

rising_all : (found : List Station) (rs : List Report) → IsStrictlySortedBy (slice_cmp nat_cmp) found → IsStrictlySortedBy (slice_cmp nat_cmp) (stations_with found rs)
rising_all found [] sorted = sorted
rising_all found (r ∷ rs) sorted = rising_all (with_station (station_of_report r) found) rs (rising_with (station_of_report r) found sorted)

no_stations : IsStrictlySortedBy (slice_cmp nat_cmp) []
unfolding IsStrictlySortedBy
no_stations = tt

-- a station is there if it was, or is the one more

either : (a b c : Bool) → a || (b || c) ≡ b || (a || c)
either true true c = refl
either true false c = refl
either false true c = refl
either false false c = refl

same_once : (a c : Bool) → a || c ≡ a || (a || c)
same_once true c = refl
same_once false c = refl

any_with : (q s : Station) (ks : List Station) → list_any (λ t. bytes_eq t q) (with_station s ks) ≡ bytes_eq s q || list_any (λ t. bytes_eq t q) ks
any_with q s [] = refl
any_with q s (t ∷ ks) = by (slice_cmp nat_cmp s t) refl (any_with q s ks)
  where
    by : (r : Ordering) → slice_cmp nat_cmp s t ≡ r → list_any (λ t. bytes_eq t q) (with_station s ks) ≡ bytes_eq s q || list_any (λ t. bytes_eq t q) ks
        → list_any (λ t. bytes_eq t q) (match_ordering r (s ∷ t ∷ ks) (t ∷ ks) (t ∷ with_station s ks)) ≡ bytes_eq s q || (bytes_eq t q || list_any (λ t. bytes_eq t q) ks)
    by Less low rest = refl
    by Equal e rest =
        let same : s ≡ t = (bytes_eq-Decides s t).0 (sym (is_eq-slice_cmp s t) ∙ ap is_eq e) in
        subst (λ x. bytes_eq t q || list_any (λ t. bytes_eq t q) ks ≡ bytes_eq x q || (bytes_eq t q || list_any (λ t. bytes_eq t q) ks)) (sym same)
        (same_once (bytes_eq t q) (list_any (λ t. bytes_eq t q) ks))
    by Greater high rest = ap (λ b. bytes_eq t q || b) rest ∙ either (bytes_eq t q) (bytes_eq s q) (list_any (λ t. bytes_eq t q) ks)

moved : (a b c : Bool) → (a || b) || c ≡ b || (a || c)
moved true true c = refl
moved true false c = refl
moved false true c = refl
moved false false c = refl

any_all : (q : Station) (found : List Station) (rs : List Report)
    → list_any (λ t. bytes_eq t q) (stations_with found rs) ≡ list_any (λ t. bytes_eq t q) found || list_any (λ r. bytes_eq (station_of_report r) q) rs
any_all q found [] = or_false (list_any (λ t. bytes_eq t q) found)
  where
    or_false : (b : Bool) → b ≡ b || false
    or_false true = refl
    or_false false = refl
any_all q found (r ∷ rs) =
    any_all q (with_station (station_of_report r) found) rs
    ∙ ap (λ b. b || list_any (λ r. bytes_eq (station_of_report r) q) rs) (any_with q (station_of_report r) found)
    ∙ moved (bytes_eq (station_of_report r) q) (list_any (λ t. bytes_eq t q) found) (list_any (λ r. bytes_eq (station_of_report r) q) rs)

-- the stations of reports
pub are_stations : (rs : List Report) → AreStations rs (stations_of rs)
unfolding stations_of
are_stations rs = record { rising = rising_all [] rs no_stations; each = λ q. any_all q [] rs }
