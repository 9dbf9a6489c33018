-- What the index of stations says of the list of reports, and what one more report makes of it.
use Rattle.std.proofs.Common.{◌≡◌, refl, sym, ap, ◌∙◌, subst, ℕ, zero, suc, ◌+◌, ◌<◌, Bool, true, false, ◌&&◌, cond, List, [], ◌∷◌, ◌++◌, length, Option, Some, None, arith, length-append, nat_lt, bytes_eq, slice_get, option_and_then}
use Rattle.std.specs.Ordering.{nat_cmp}
use Rattle.std.specs.Cmp.Lexicographic.{slice_cmp}
use Rattle.std.specs.Map.{keys_of}
use Rattle.std.specs.BTreeMap.{insert_entry, is_at}
use Rattle.std.proofs.lemmas.Bool.{ltb-true, ltb-false}
use Rattle.std.proofs.lemmas.Map.Text.{is_eq-slice_cmp}
use Rattle.std.proofs.lemmas.Slice.Eq.{bytes_eq-Decides}
use Rattle.desk_io.specs.Station.{Station}
use Rattle.facts.specs.declared.index.Places.{Places}
use Rattle.facts.specs.declared.latest.Kind.{Kind}
use Rattle.facts.specs.declared.latest.Kind.TheVariants as kind
use Rattle.facts.specs.declared.report.Read.{Read}
use Rattle.facts.specs.declared.report.Read.TheVariants as read
use Rattle.facts.specs.declared.report.Report.{Report}
use Rattle.facts.specs.Same.{minute_of_report, station_of_report}
use Rattle.facts.specs.Latest.{is_kind, where_of, later, latest}
use Rattle.facts.specs.Lines.{with_station, stations_of}
use Rattle.facts.specs.Index.{place_of, place_in, places_or, later_of, later_place, places_with, IsAtPlace, of_station, IsLatestIndex}
use Rattle.facts.proofs.StationLaws.{keys_with, stations_of_push}

-- the latest of a station

at_place : (kind : Kind) (station : Station) (rs : List Report) (o : Option ℕ) → IsAtPlace kind station rs o → option_and_then (slice_get rs) o ≡ latest kind station rs
at_place kind station rs None is = sym is
at_place kind station rs (Some place) is = is.1

pub place_or : (kind : Kind) (o : Option Places) → place_of kind (places_or o) ≡ place_in kind o
place_or kind.Observation None = refl
place_or kind.Forecast None = refl
place_or kind (Some p) = refl

-- what stands at the place that an index gives
pub stands_latest : (kind : Kind) (station : List ℕ) (entries : List (Station × Places)) (rs : List Report) → IsLatestIndex entries rs
    → option_and_then (slice_get rs) (place_of kind (places_or (of_station entries station))) ≡ latest kind station rs
stands_latest kind station entries rs is =
    ap (option_and_then (slice_get rs)) (place_or kind (of_station entries station)) ∙ at_place kind station rs (place_in kind (of_station entries station)) (is.latest kind station)

pub later_none : (o : Option Report) → later o None ≡ o
later_none None = refl
later_none (Some a) = refl

later_two : (a b c : Report) (x y z : Bool) → nat_lt (minute_of_report b) (minute_of_report a) ≡ x → nat_lt (minute_of_report c) (minute_of_report b) ≡ y → nat_lt (minute_of_report c) (minute_of_report a) ≡ z
    → later (Some a) (cond y (Some b) (Some c)) ≡ later (cond x (Some a) (Some b)) (Some c)
later_two a b c true true true e f g = rw (e, g) refl
later_two a b c true true false e f g = absurd (let x = ltb-true (minute_of_report b) (minute_of_report a) e in let y = ltb-true (minute_of_report c) (minute_of_report b) f in let z = ltb-false (minute_of_report c) (minute_of_report a) g in omega arith)
later_two a b c true false z e f g = refl
later_two a b c false true z e f g = rw (e, f) refl
later_two a b c false false true e f g = absurd (let x = ltb-false (minute_of_report b) (minute_of_report a) e in let y = ltb-false (minute_of_report c) (minute_of_report b) f in let z = ltb-true (minute_of_report c) (minute_of_report a) g in omega arith)
later_two a b c false false false e f g = rw (f, g) refl

later_assoc : (a b c : Option Report) → later a (later b c) ≡ later (later a b) c
later_assoc None b c = refl
later_assoc (Some a) None c = refl
later_assoc (Some a) (Some b) None = sym (later_none (later (Some a) (Some b)))
later_assoc (Some a) (Some b) (Some c) =
    later_two a b c (nat_lt (minute_of_report b) (minute_of_report a)) (nat_lt (minute_of_report c) (minute_of_report b)) (nat_lt (minute_of_report c) (minute_of_report a)) refl refl refl

pub latest_push : (kind : Kind) (station : Station) (rs : List Report) (r : Report) → latest kind station (rs ++ r ∷ []) ≡ later (latest kind station rs) (where_of kind station r)
latest_push kind station [] r = later_none (where_of kind station r)
latest_push kind station (q ∷ rs) r =
    ap (later (where_of kind station q)) (latest_push kind station rs r) ∙ later_assoc (where_of kind station q) (latest kind station rs) (where_of kind station r)

get_front : (rs : List Report) (r : Report) (place : ℕ) → place < length rs → slice_get (rs ++ r ∷ []) place ≡ slice_get rs place
get_front [] r place within = absurd (omega arith)
get_front (q ∷ rs) r zero within = refl
get_front (q ∷ rs) r (suc place) within = get_front rs r place (omega arith)

get_last : (rs : List Report) (r : Report) → slice_get (rs ++ r ∷ []) (length rs) ≡ Some r
get_last [] r = refl
get_last (q ∷ rs) r = get_last rs r

longer : (rs : List Report) (r : Report) → length (rs ++ r ∷ []) ≡ length rs + 1
longer rs r = length-append rs (r ∷ [])

-- a place stays where the latest stays
stays : (kind : Kind) (station : Station) (rs : List Report) (r : Report) (o : Option ℕ) → where_of kind station r ≡ None → IsAtPlace kind station rs o → IsAtPlace kind station (rs ++ r ∷ []) o
stays kind station rs r None other is = latest_push kind station rs r ∙ ap (later (latest kind station rs)) other ∙ later_none (latest kind station rs) ∙ is
stays kind station rs r (Some place) other is = (
  omega (arith, is.0, longer rs r),
  get_front rs r place is.0 ∙ is.1 ∙ sym (latest_push kind station rs r ∙ ap (later (latest kind station rs)) other ∙ later_none (latest kind station rs)),
)

taken : (kind : Kind) (station : Station) (rs : List Report) (r a : Report) (held : ℕ) (b : Bool) → nat_lt (minute_of_report r) (minute_of_report a) ≡ b
    → held < length rs → slice_get rs held ≡ Some a → latest kind station (rs ++ r ∷ []) ≡ cond b (Some a) (Some r) → IsAtPlace kind station (rs ++ r ∷ []) (Some (cond b held (length rs)))
taken kind station rs r a held true e within at is = (omega (arith, within, longer rs r), get_front rs r held within ∙ at ∙ sym is)
taken kind station rs r a held false e within at is = (omega (arith, longer rs r), get_last rs r ∙ sym is)

held_or_last : (kind : Kind) (station : Station) (rs : List Report) (r : Report) (held : ℕ) (g : Option Report) → where_of kind station r ≡ Some r → slice_get rs held ≡ g → held < length rs → g ≡ latest kind station rs
    → IsAtPlace kind station (rs ++ r ∷ []) (Some (later_of g held r (length rs)))
held_or_last kind station rs r held None alike at within is =
    (omega (arith, longer rs r), get_last rs r ∙ sym (latest_push kind station rs r ∙ ap (later (latest kind station rs)) alike ∙ ap (λ o. later o (Some r)) (sym is)))
held_or_last kind station rs r held (Some a) alike at within is =
    taken kind station rs r a held (nat_lt (minute_of_report r) (minute_of_report a)) refl within at
    (latest_push kind station rs r ∙ ap (later (latest kind station rs)) alike ∙ ap (λ o. later o (Some r)) (sym is))

-- one more of that kind and station
takes : (kind : Kind) (station : Station) (rs : List Report) (r : Report) (o : Option ℕ) → where_of kind station r ≡ Some r → IsAtPlace kind station rs o
    → IsAtPlace kind station (rs ++ r ∷ []) (Some (later_place rs o r (length rs)))
takes kind station rs r None alike is =
    (omega (arith, longer rs r), get_last rs r ∙ sym (latest_push kind station rs r ∙ ap (later (latest kind station rs)) alike ∙ ap (λ o. later o (Some r)) is))
takes kind station rs r (Some held) alike is = held_or_last kind station rs r held (slice_get rs held) alike refl is.0 is.1

where_is : (kind : Kind) (station : Station) (r : Report) (k b : Bool) → is_kind kind r.read ≡ k → bytes_eq (station_of_report r) station ≡ b → where_of kind station r ≡ cond (k && b) (Some r) None
where_is kind station r k b e f = rw (e, f) refl

with_report : (kind : Kind) (station : Station) (rs : List Report) (r : Report) (p : Places) (x : Read) → r.read ≡ x → bytes_eq (station_of_report r) station ≡ true
    → IsAtPlace kind station rs (place_of kind p) → IsAtPlace kind station (rs ++ r ∷ []) (place_of kind (places_with rs p r x (length rs)))
with_report kind.Observation station rs r p (read.Metar m) e same is =
    takes kind.Observation station rs r p.observation (where_is kind.Observation station r true true (ap (is_kind kind.Observation) e) same) is
with_report kind.Observation station rs r p (read.Taf t) e same is =
    stays kind.Observation station rs r p.observation (where_is kind.Observation station r false true (ap (is_kind kind.Observation) e) same) is
with_report kind.Forecast station rs r p (read.Metar m) e same is =
    stays kind.Forecast station rs r p.forecast (where_is kind.Forecast station r false true (ap (is_kind kind.Forecast) e) same) is
with_report kind.Forecast station rs r p (read.Taf t) e same is =
    takes kind.Forecast station rs r p.forecast (where_is kind.Forecast station r true true (ap (is_kind kind.Forecast) e) same) is

not_there : (kind : Kind) (station : Station) (r : Report) (k : Bool) → is_kind kind r.read ≡ k → bytes_eq (station_of_report r) station ≡ false → where_of kind station r ≡ None
not_there kind station r true e f = where_is kind station r true false e f
not_there kind station r false e f = where_is kind station r false false e f

same_either_way : (q s : Station) (b : Bool) → bytes_eq q s ≡ b → bytes_eq s q ≡ b
same_either_way q s true e = let same = (bytes_eq-Decides q s).0 e in subst (λ x. bytes_eq s x ≡ true) (sym same) (subst (λ x. bytes_eq x s ≡ true) same e)
same_either_way q s false e = other (bytes_eq s q) refl
  where
    other : (c : Bool) → bytes_eq s q ≡ c → c ≡ false
    other false f = refl
    other true f = let same = (bytes_eq-Decides s q).0 f in absurd (let f' : bytes_eq q s ≡ true = subst (λ x. bytes_eq x s ≡ true) same (subst (λ x. bytes_eq s x ≡ true) (sym same) f) in cc)

pub updated : (kind : Kind) (station : Station) (before after : List (Station × Places)) (rs : List Report) (r : Report) (b : Bool)
    → bytes_eq station (station_of_report r) ≡ b → ((s : List ℕ) → IsAtPlace kind s rs (place_in kind (of_station before s)))
    → of_station after station ≡ cond b (Some (places_with rs (places_or (of_station before (station_of_report r))) r r.read (length rs))) (of_station before station)
    → IsAtPlace kind station (rs ++ r ∷ []) (place_in kind (of_station after station))
updated kind station before after rs r true e is with_it =
    let same = (bytes_eq-Decides station (station_of_report r)).0 e in
    let was : IsAtPlace kind station rs (place_of kind (places_or (of_station before (station_of_report r)))) =
    subst (λ s. IsAtPlace kind station rs (place_of kind (places_or (of_station before s)))) same
    (subst (IsAtPlace kind station rs) (sym (place_or kind (of_station before station))) (is station)) in
    subst (λ o. IsAtPlace kind station (rs ++ r ∷ []) (place_in kind o)) (sym with_it)
    (with_report kind station rs r (places_or (of_station before (station_of_report r))) r.read refl (same_either_way station (station_of_report r) true e) was)
updated kind station before after rs r false e is with_it =
    subst (λ o. IsAtPlace kind station (rs ++ r ∷ []) (place_in kind o)) (sym with_it)
    (stays kind station rs r (place_in kind (of_station before station))
    (not_there kind station r (is_kind kind r.read) refl (same_either_way station (station_of_report r) false e)) (is station))

-- the index with the places of one more report
pub latest_with : (rs : List Report) (r : Report) (before after : List (Station × Places)) (places : Places) → IsLatestIndex before rs
    → places ≡ places_with rs (places_or (of_station before (station_of_report r))) r r.read (length rs)
    → after ≡ insert_entry (slice_cmp nat_cmp) before (station_of_report r) places
    → ((q : List ℕ) → of_station after q ≡ cond (is_at (slice_cmp nat_cmp q) (station_of_report r)) (Some places) (of_station before q))
    → IsLatestIndex after (rs ++ r ∷ [])
latest_with rs r before after places is new put each = record {
  stations = ap keys_of put ∙ keys_with (station_of_report r) places before ∙ ap (with_station (station_of_report r)) is.stations ∙ sym (stations_of_push rs r);
  latest = λ kind station.
      updated kind station before after rs r (bytes_eq station (station_of_report r)) refl (is.latest kind)
      (each station ∙ (λ i. cond (is_eq-slice_cmp station (station_of_report r) i) (Some (new i)) (of_station before station)));
}

-- the index once a report is admitted

pub latest_admitted : (rs seen : List Report) (r : Report) (before after : List (Station × Places)) (old places : Places) (key : List ℕ) (place : ℕ) → IsLatestIndex before rs
    → key ≡ station_of_report r → seen ≡ rs → place ≡ length rs → old ≡ places_or (of_station before key) → places ≡ places_with seen old r r.read place
    → after ≡ insert_entry (slice_cmp nat_cmp) before key places
    → ((q : List ℕ) → of_station after q ≡ cond (is_at (slice_cmp nat_cmp q) key) (Some places) (of_station before q))
    → IsLatestIndex after (rs ++ r ∷ [])
latest_admitted rs seen r before after old places key place is named same last had new put each =
    let had_there = had ∙ ap (λ s. places_or (of_station before s)) named in
    latest_with rs r before after places is
    (new ∙ (λ i. places_with (same i) (had_there i) r r.read (last i)))
    (put ∙ ap (λ s. insert_entry (slice_cmp nat_cmp) before s places) named)
    (λ q. each q ∙ ap (λ s. cond (is_at (slice_cmp nat_cmp q) s) (Some places) (of_station before q)) named)

-- no reports, and no entries

nothing_indexed : IsLatestIndex [] []
unfolding stations_of
nothing_indexed = record { stations = refl; latest = λ kind station. refl }

pub none_latest : (entries : List (Station × Places)) (rs : List Report) → entries ≡ [] → rs ≡ [] → IsLatestIndex entries rs
none_latest entries rs e f = subst (λ xs. IsLatestIndex xs rs) (sym e) (subst (IsLatestIndex []) (sym f) nothing_indexed)
