-- The indexes of a whole list of reports, made of keys that are sorted once.
use Rattle.std.proofs.Common.{◌≡◌, refl, sym, ap, ◌∙◌, Bool, true, false, ◌||◌, List, [], ◌∷◌, map, bytes_eq}
use Rattle.std.specs.Ordering.{nat_cmp}
use Rattle.std.specs.Cmp.Lexicographic.{slice_cmp}
use Rattle.std.specs.List.{list_any}
use Rattle.std.specs.List.Sorted.{IsStrictlySortedBy}
use Rattle.std.specs.Map.{keys_of}
use Rattle.std.specs.BTreeMap.{is_at}
use Rattle.std.proofs.lemmas.Map.Text.{is_eq-slice_cmp}
use Rattle.std.proofs.lemmas.Slice.Eq.{bytes_eq-Decides}
use Rattle.desk_io.specs.Keys.{is_held}
use Rattle.desk_io.specs.Station.{Station}
use Rattle.facts.specs.declared.report.Report.{Report}
use Rattle.facts.specs.Same.{station_of_report}
use Rattle.facts.specs.Lines.{stations_of}
use Rattle.facts.specs.Index.{station_entry}
use Rattle.facts.proofs.StationLaws.{are_stations}
use Rattle.facts.proofs.SweepLaws.{rising_same}

either_way : (q s : Station) (b c : Bool) → bytes_eq q s ≡ b → bytes_eq s q ≡ c → b ≡ c
either_way q s true true e f = refl
either_way q s false false e f = refl
either_way q s true false e f =
    let same = (bytes_eq-Decides q s).0 e in
    absurd (let itself : bytes_eq s q ≡ true = (bytes_eq-Decides s q).1 (sym same) in cc)
either_way q s false true e f =
    let same = (bytes_eq-Decides s q).0 f in
    absurd (let itself : bytes_eq q s ≡ true = (bytes_eq-Decides q s).1 (sym same) in cc)

at_station : (q s : Station) → is_at (slice_cmp nat_cmp q) s ≡ bytes_eq s q
at_station q s = is_eq-slice_cmp q s ∙ either_way q s (bytes_eq q s) (bytes_eq s q) refl refl

held_station : (q : Station) (ks : List Station) → list_any (λ t. bytes_eq t q) ks ≡ is_held (slice_cmp nat_cmp) q ks
held_station q [] = refl
held_station q (k ∷ ks) = λ i. sym (at_station q k) i || held_station q ks i

listed_station : (q : Station) (rs : List Report) → is_held (slice_cmp nat_cmp) q (keys_of (map station_entry rs)) ≡ list_any (λ r. bytes_eq (station_of_report r) q) rs
listed_station q [] = refl
listed_station q (r ∷ rs) = λ i. at_station q (station_of_report r) i || listed_station q rs i

-- sorted keys of all stations are the stations of the reports
pub stations_sorted : (rs : List Report) (listed : List (Station × Unit {0})) (keys sorted made : List Station) → listed ≡ map station_entry rs
    → ((q : Station) → is_held (slice_cmp nat_cmp) q keys ≡ is_held (slice_cmp nat_cmp) q (keys_of listed))
    → sorted ≡ keys → IsStrictlySortedBy (slice_cmp nat_cmp) sorted → made ≡ sorted → made ≡ stations_of rs
stations_sorted rs listed keys sorted made is each same rises there =
    let all = are_stations rs in
    there
    ∙ rising_same sorted (stations_of rs) rises all.rising
    (λ q.
    held_station q sorted
    ∙ ap (is_held (slice_cmp nat_cmp) q) same
    ∙ each q
    ∙ ap (λ es. is_held (slice_cmp nat_cmp) q (keys_of es)) is
    ∙ listed_station q rs
    ∙ sym (all.each q))
