-- What is left when old reports are swept away: each latest, and so each station.
use Rattle.std.proofs.Common.{◌≡◌, refl, sym, ap, ◌∙◌, subst, ℕ, suc, ◌<◌, ◌≤◌, Bool, true, false, cond, ◌&&◌, ◌||◌, List, [], ◌∷◌, length, filter, Option, Some, None, arith, nat_lt, is_some, Ordering, Less, Equal, Greater, bytes_eq}
use Rattle.std.specs.Ordering.{nat_cmp, is_eq, ordering_reverse}
use Rattle.std.specs.Cmp.Lexicographic.{slice_cmp}
use Rattle.std.specs.List.{AllByRecursion, list_any}
use Rattle.std.specs.List.Sorted.{IsStrictlySortedBy}
use Rattle.std.proofs.lemmas.Bool.{ltb-true, ltb-false, lt-ltb, eq-eqb, and_parts}
use Rattle.std.proofs.lemmas.Cmp.{nat_list_cmp_total, tied_itself}
use Rattle.std.proofs.lemmas.List.Elements.{All-filter}
use Rattle.std.proofs.lemmas.List.Kept.{AllPairs-filter}
use Rattle.std.proofs.lemmas.Map.Text.{is_eq-slice_cmp}
use Rattle.std.proofs.lemmas.Slice.Eq.{bytes_eq-Decides}
use Rattle.desk_io.specs.Station.{Station}
use Rattle.facts.specs.declared.latest.Kind.{Kind}
use Rattle.facts.specs.declared.latest.Kind.TheVariants as kind
use Rattle.facts.specs.declared.report.Read.{Read}
use Rattle.facts.specs.declared.report.Read.TheVariants as read
use Rattle.facts.specs.declared.report.Report.{Report}
use Rattle.facts.specs.Same.{minute_of_report, station_of_report}
use Rattle.facts.specs.Latest.{is_kind, is_of, where_of, later, latest}
use Rattle.facts.specs.Lines.{stations_of}
use Rattle.facts.specs.Reading.{IsRead}
use Rattle.facts.specs.Reports.{AreHeld}
use Rattle.facts.specs.Swept.{kind_of, has_id, is_latest, is_kept, stays, swept}
use Rattle.facts.proofs.LatestLaws.{latest_is}
use Rattle.facts.proofs.StationLaws.{are_stations, above_each}

-- of a part of the list the latest is of no later moment

abbrev IsAtMost : Option Report → Option Report → Type 0
IsAtMost None o = Unit {0}
IsAtMost (Some q) None = ⊥
IsAtMost (Some q) (Some t) = minute_of_report q ≤ minute_of_report t

at_most_first : (r t : Report) (b : Bool) → nat_lt (minute_of_report t) (minute_of_report r) ≡ b → IsAtMost (Some r) (cond b (Some r) (Some t))
at_most_first r t true e = omega arith
at_most_first r t false e = ltb-false (minute_of_report t) (minute_of_report r) e

at_most_both : (r q t : Report) (a b : Bool) → nat_lt (minute_of_report q) (minute_of_report r) ≡ a → nat_lt (minute_of_report t) (minute_of_report r) ≡ b
    → minute_of_report q ≤ minute_of_report t → IsAtMost (cond a (Some r) (Some q)) (cond b (Some r) (Some t))
at_most_both r q t true b e f le = at_most_first r t b f
at_most_both r q t false true e f le = absurd (let x = ltb-false (minute_of_report q) (minute_of_report r) e in let y = ltb-true (minute_of_report t) (minute_of_report r) f in omega arith)
at_most_both r q t false false e f le = le

at_most_second : (q r t : Report) (b : Bool) → nat_lt (minute_of_report t) (minute_of_report r) ≡ b → minute_of_report q ≤ minute_of_report t → IsAtMost (Some q) (cond b (Some r) (Some t))
at_most_second q r t true e le = let x = ltb-true (minute_of_report t) (minute_of_report r) e in omega arith
at_most_second q r t false e le = le

at_most_with : (w s t : Option Report) → IsAtMost s t → IsAtMost (later w s) (later w t)
at_most_with None s t le = le
at_most_with (Some r) None None le = omega arith
at_most_with (Some r) None (Some t) le = at_most_first r t (nat_lt (minute_of_report t) (minute_of_report r)) refl
at_most_with (Some r) (Some q) None le = absurd le
at_most_with (Some r) (Some q) (Some t) le = at_most_both r q t (nat_lt (minute_of_report q) (minute_of_report r)) (nat_lt (minute_of_report t) (minute_of_report r)) refl refl le

at_most_without : (w s t : Option Report) → IsAtMost s t → IsAtMost s (later w t)
at_most_without None s t le = le
at_most_without (Some r) None t le = tt
at_most_without (Some r) (Some q) None le = absurd le
at_most_without (Some r) (Some q) (Some t) le = at_most_second q r t (nat_lt (minute_of_report t) (minute_of_report r)) refl le

at_most_part : (kind : Kind) (station : Station) (p : Report → Bool) (rs : List Report) → IsAtMost (latest kind station (filter p rs)) (latest kind station rs)
at_most_part kind station p [] = tt
at_most_part kind station p (r ∷ rs) = by (p r) (at_most_part kind station p rs)
  where
    by : (b : Bool) → IsAtMost (latest kind station (filter p rs)) (latest kind station rs) → IsAtMost (latest kind station (cond b (r ∷ filter p rs) (filter p rs))) (later (where_of kind station r) (latest kind station rs))
    by true le = at_most_with (where_of kind station r) (latest kind station (filter p rs)) (latest kind station rs) le
    by false le = at_most_without (where_of kind station r) (latest kind station (filter p rs)) (latest kind station rs) le

-- where the latest stays, it is the latest of what stays

later_still : (r u : Report) (s : Option Report) → IsAtMost s (Some u) → nat_lt (minute_of_report u) (minute_of_report r) ≡ true → later (Some r) s ≡ Some r
later_still r u None le e = refl
later_still r u (Some q) le e = let x = ltb-true (minute_of_report u) (minute_of_report r) e in rw (lt-ltb (minute_of_report q) (minute_of_report r) (omega arith)) refl

module _ (p : Report → Bool) (r : Report) where
  step_two : (b d : Bool) (u : Report) (s : Option Report) → p r ≡ b → nat_lt (minute_of_report u) (minute_of_report r) ≡ d → IsAtMost s (Some u)
      → ((q : Report) → cond d (Some r) (Some u) ≡ Some q → p q ≡ true) → (((q : Report) → Some u ≡ Some q → p q ≡ true) → s ≡ Some u)
      → cond b (later (Some r) s) s ≡ cond d (Some r) (Some u)
  step_two true true u s e f le stays rest = later_still r u s le f
  step_two false true u s e f le stays rest = absurd (let h = stays r refl in cc)
  step_two true false u s e f le stays rest = ap (later (Some r)) (rest stays) ∙ rw f refl
  step_two false false u s e f le stays rest = rest stays

  step_one : (b : Bool) (s t : Option Report) → p r ≡ b → IsAtMost s t
      → ((q : Report) → later (Some r) t ≡ Some q → p q ≡ true) → (((q : Report) → t ≡ Some q → p q ≡ true) → s ≡ t)
      → cond b (later (Some r) s) s ≡ later (Some r) t
  step_one true None None e le stays rest = refl
  step_one false None None e le stays rest = absurd (let h = stays r refl in cc)
  step_one b (Some q) None e le stays rest = absurd le
  step_one b s (Some u) e le stays rest = step_two b (nat_lt (minute_of_report u) (minute_of_report r)) u s e refl le stays rest

  step : (b c : Bool) (s t : Option Report) → p r ≡ b → IsAtMost s t
      → ((q : Report) → later (cond c (Some r) None) t ≡ Some q → p q ≡ true) → (((q : Report) → t ≡ Some q → p q ≡ true) → s ≡ t)
      → cond b (later (cond c (Some r) None) s) s ≡ later (cond c (Some r) None) t
  step b true s t e le stays rest = step_one b s t e le stays rest
  step true false s t e le stays rest = rest stays
  step false false s t e le stays rest = rest stays

  chosen : (kind : Kind) (station : Station) (b : Bool) (f : List Report) → latest kind station (cond b (r ∷ f) f) ≡ cond b (later (where_of kind station r) (latest kind station f)) (latest kind station f)
  chosen kind station true f = refl
  chosen kind station false f = refl

latest_part : (kind : Kind) (station : Station) (p : Report → Bool) (rs : List Report) → ((q : Report) → latest kind station rs ≡ Some q → p q ≡ true) → latest kind station (filter p rs) ≡ latest kind station rs
latest_part kind station p [] stays = refl
latest_part kind station p (r ∷ rs) stays =
    chosen p r kind station (p r) (filter p rs)
    ∙ step p r (p r) (is_of kind station r) (latest kind station (filter p rs)) (latest kind station rs) refl (at_most_part kind station p rs) stays (latest_part kind station p rs)

-- a latest report stays

kind_is : (kind : Kind) (x : Read) → is_kind kind x ≡ true → kind_of x ≡ kind
kind_is kind.Observation (read.Metar metar) e = refl
kind_is kind.Observation (read.Taf taf) e = absurd cc
kind_is kind.Forecast (read.Metar metar) e = absurd cc
kind_is kind.Forecast (read.Taf taf) e = refl

second_true : (a b c : Bool) → b ≡ true → a || b || c ≡ true
second_true true b c e = refl
second_true false true c e = refl
second_true false false c e = absurd cc

latest_stays : (before : ℕ) (keep : List ℕ) (kind : Kind) (station : Station) (rs : List Report) (q : Report) → latest kind station rs ≡ Some q → stays before keep rs q ≡ true
latest_stays before keep kind station rs q e =
    let is = latest_is kind station rs (Some q) (sym e) in
    let both = and_parts (is_kind kind q.read) (bytes_eq (station_of_report q) station) is.alike in
    let kind_same = kind_is kind q.read both.0 in
    let station_same = (bytes_eq-Decides (station_of_report q) station).0 both.1 in
    let same : latest (kind_of q.read) (station_of_report q) rs ≡ Some q = (λ i. latest (kind_same i) (station_same i) rs) ∙ e in
    second_true _ (is_latest rs q) (is_kept keep q) (ap (has_id q.id) same ∙ eq-eqb q.id q.id refl)

-- a sweep changes no latest report
pub latest_swept : (before : ℕ) (keep : List ℕ) (rs : List Report) (kind : Kind) (station : Station) → latest kind station (swept before keep rs) ≡ latest kind station rs
unfolding swept
latest_swept before keep rs kind station = latest_part kind station (stays before keep rs) rs (latest_stays before keep kind station rs)

-- and so no station goes

some_later : (a b : Option Report) → is_some (later a b) ≡ is_some a || is_some b
some_later None b = refl
some_later (Some a) None = refl
some_later (Some a) (Some b) = elim (nat_lt (minute_of_report b) (minute_of_report a)) as (λ d. is_some (cond d (Some a) (Some b)) ≡ true) [ true ↦ refl | false ↦ refl ]

some_where : (b : Bool) (r : Report) → is_some (cond b (Some r) None) ≡ b
some_where true r = refl
some_where false r = refl

of_either : (x : Read) (b : Bool) → (is_kind kind.Observation x && b) || (is_kind kind.Forecast x && b) ≡ b
of_either (read.Metar metar) true = refl
of_either (read.Metar metar) false = refl
of_either (read.Taf taf) b = refl

crossed : (m n o f : Bool) → (m || n) || (o || f) ≡ (m || o) || (n || f)
crossed true n true f = refl
crossed true n false f = refl
crossed false true true f = refl
crossed false true false f = refl
crossed false false o f = refl

-- a station has a report where it has a latest of either kind
any_is : (s : Station) (rs : List Report) → list_any (λ r. bytes_eq (station_of_report r) s) rs ≡ is_some (latest kind.Observation s rs) || is_some (latest kind.Forecast s rs)
any_is s [] = refl
any_is s (r ∷ rs) =
    (λ i. sym (of_either r.read (bytes_eq (station_of_report r) s)) i || any_is s rs i)
    ∙ crossed (is_of kind.Observation s r) (is_of kind.Forecast s r) (is_some (latest kind.Observation s rs)) (is_some (latest kind.Forecast s rs))
    ∙ (λ i. (sym (some_where (is_of kind.Observation s r) r) i || is_some (latest kind.Observation s rs)) || (sym (some_where (is_of kind.Forecast s r) r) i || is_some (latest kind.Forecast s rs)))
    ∙ (λ i. sym (some_later (where_of kind.Observation s r) (latest kind.Observation s rs)) i || sym (some_later (where_of kind.Forecast s r) (latest kind.Forecast s rs)) i)

none_below : (s : Station) (ks : List Station) → AllByRecursion (λ y. slice_cmp nat_cmp s y ≡ Less) ks → list_any (λ t. bytes_eq t s) ks ≡ false
none_below s [] all = refl
none_below s (k ∷ ks) all = by (bytes_eq k s) refl (none_below s ks all.1)
  where
    by : (b : Bool) → bytes_eq k s ≡ b → list_any (λ t. bytes_eq t s) ks ≡ false → b || list_any (λ t. bytes_eq t s) ks ≡ false
    by false e rest = rest
    by true e rest =
        let same = (bytes_eq-Decides k s).0 e in
        absurd (let tied : slice_cmp nat_cmp s s ≡ Less = subst (λ x. slice_cmp nat_cmp s x ≡ Less) same all.0 in let equal = tied_itself nat_list_cmp_total s in cc)

other : (x y : Station) (r : Ordering) → slice_cmp nat_cmp x y ≡ r → is_eq r ≡ false → bytes_eq x y ≡ false
other x y r e not = sym (is_eq-slice_cmp x y) ∙ ap is_eq e ∙ not

itself : (x : Station) → bytes_eq x x ≡ true
itself x = (bytes_eq-Decides x x).1 refl

back : (x y : Station) (r : Ordering) → slice_cmp nat_cmp x y ≡ r → slice_cmp nat_cmp y x ≡ ordering_reverse r
back x y r e = nat_list_cmp_total.antisymm y x ∙ ap ordering_reverse e

-- a station below the first isn't there
absent : (x y : Station) (ys : List Station) → slice_cmp nat_cmp x y ≡ Less → AllByRecursion (λ z. slice_cmp nat_cmp y z ≡ Less) ys → list_any (λ t. bytes_eq t x) (y ∷ ys) ≡ false
absent x y ys low all = rw (other y x Greater (back x y Less low) refl) (none_below x ys (above_each x y ys low all))

here : (x : Station) (xs : List Station) → list_any (λ t. bytes_eq t x) (x ∷ xs) ≡ true
here x xs = rw (itself x) refl

-- the rest has the same members, where neither rest has the first
rest_same : (x s : Station) (xs ys : List Station) (b : Bool) → bytes_eq x s ≡ b → AllByRecursion (λ z. slice_cmp nat_cmp x z ≡ Less) xs → AllByRecursion (λ z. slice_cmp nat_cmp x z ≡ Less) ys
    → b || list_any (λ t. bytes_eq t s) xs ≡ b || list_any (λ t. bytes_eq t s) ys → list_any (λ t. bytes_eq t s) xs ≡ list_any (λ t. bytes_eq t s) ys
rest_same x s xs ys false e low high same = same
rest_same x s xs ys true e low high same =
    let is = (bytes_eq-Decides x s).0 e in
    subst (λ z. list_any (λ t. bytes_eq t z) xs ≡ list_any (λ t. bytes_eq t z) ys) is (none_below x xs low ∙ sym (none_below x ys high))

-- lists that rise and have the same members are the same
pub rising_same : (xs ys : List Station) → IsStrictlySortedBy (slice_cmp nat_cmp) xs → IsStrictlySortedBy (slice_cmp nat_cmp) ys
    → ((s : Station) → list_any (λ t. bytes_eq t s) xs ≡ list_any (λ t. bytes_eq t s) ys) → xs ≡ ys
unfolding IsStrictlySortedBy
rising_same [] [] low high same = refl
rising_same [] (y ∷ ys) low high same = absurd (let h = same y ∙ here y ys in cc)
rising_same (x ∷ xs) [] low high same = absurd (let h = sym (same x) ∙ here x xs in cc)
rising_same (x ∷ xs) (y ∷ ys) low high same = by (slice_cmp nat_cmp x y) refl (rising_same xs ys low.1 high.1)
  where
    by : (r : Ordering) → slice_cmp nat_cmp x y ≡ r → (((s : Station) → list_any (λ t. bytes_eq t s) xs ≡ list_any (λ t. bytes_eq t s) ys) → xs ≡ ys) → x ∷ xs ≡ y ∷ ys
    by Less e more = absurd (let h = sym (same x) ∙ here x xs in let g = absent x y ys e high.0 in cc)
    by Greater e more = absurd (let h = same y ∙ here y ys in let g = absent y x xs (back x y Greater e) low.0 in cc)
    by Equal e more =
        let is = (bytes_eq-Decides x y).0 (sym (is_eq-slice_cmp x y) ∙ ap is_eq e) in
        let above = subst (λ z. AllByRecursion (λ t. slice_cmp nat_cmp z t ≡ Less) ys) (sym is) high.0 in
        let rest = more
        (λ s. rest_same x s xs ys (bytes_eq x s) refl low.0 above (same s ∙ ap (λ z. bytes_eq z s || list_any (λ t. bytes_eq t s) ys) (sym is))) in
        λ i. is i ∷ rest i

-- a sweep leaves each station
pub stations_swept : (before : ℕ) (keep : List ℕ) (rs : List Report) → stations_of (swept before keep rs) ≡ stations_of rs
stations_swept before keep rs =
    let new = are_stations (swept before keep rs) in
    let old = are_stations rs in
    rising_same (stations_of (swept before keep rs)) (stations_of rs) new.rising old.rising
    (λ s.
    new.each s ∙ any_is s (swept before keep rs)
    ∙ (λ i. is_some (latest_swept before keep rs kind.Observation s i) || is_some (latest_swept before keep rs kind.Forecast s i))
    ∙ sym (any_is s rs) ∙ sym (old.each s))

-- the reports that stay are held as they were
pub held_swept : (before : ℕ) (keep : List ℕ) (rs : List Report) → AreHeld rs → AreHeld (swept before keep rs)
unfolding swept
held_swept before keep rs held = record {
  rising = AllPairs-filter (λ a b. a.id < b.id) (stays before keep rs) rs held.rising;
  read = All-filter (stays before keep rs) IsRead rs held.read;
}

fewer : (p : Report → Bool) (rs : List Report) → length (filter p rs) ≤ length rs
fewer p [] = omega arith
fewer p (r ∷ rs) = by (p r) (fewer p rs)
  where
    by : (b : Bool) → length (filter p rs) ≤ length rs → length (cond b (r ∷ filter p rs) (filter p rs)) ≤ suc (length rs)
    by true few = omega arith
    by false few = omega arith

pub fewer_swept : (before : ℕ) (keep : List ℕ) (rs : List Report) → length (swept before keep rs) ≤ length rs
unfolding swept
fewer_swept before keep rs = fewer (stays before keep rs) rs
