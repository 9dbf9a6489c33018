-- Indexes of reports: the places of each station's latest reports, and keys by moment and text.
use Rattle.std.specs.Prelude.{◌≡◌, ℕ, ◌<◌, ◌+◌, ◌*◌, ◌%◌, ◌^◌, ◌==◌, ◌&&◌, Bool, if◌then◌else◌, List, [], ◌∷◌, Option, None, Some, length}
use Rattle.std.specs.declared.cmp.Ordering.{Ordering}
use Rattle.std.specs.Ordering.{nat_cmp, ordering_then}
use Rattle.std.specs.Cmp.Lexicographic.{slice_cmp}
use Rattle.std.specs.List.{slice_get, find, list_any}
use Rattle.std.specs.Option.{option_or}
use Rattle.std.specs.Map.{lookup, keys_of}
use Rattle.std.specs.BTreeMap.{is_at}
use Rattle.std.specs.Prelude.{nat_lt}
use Rattle.desk_io.specs.Keys.{is_held}
use Rattle.desk_io.specs.Station.{Station}
use Rattle.facts.specs.declared.index.Places.{Places}
use Rattle.facts.specs.declared.latest.Kind.{Kind}
use Rattle.facts.specs.declared.latest.Kind.TheVariants as kind
use Rattle.facts.specs.declared.report.Read.{Read}
use Rattle.facts.specs.declared.report.Read.TheVariants as read
use Rattle.facts.specs.declared.report.Report.{Report}
use Rattle.facts.specs.Same.{minute_of_report, station_of_report, is_same}
use Rattle.facts.specs.Latest.{latest}
use Rattle.facts.specs.Lines.{stations_of}

-- the place of the latest report of that kind
abbrev pub place_of : Kind → Places → Option ℕ
place_of kind.Observation p = p.observation
place_of kind.Forecast p = p.forecast

abbrev pub place_in : Kind → Option Places → Option ℕ
place_in kind None = None
place_in kind (Some p) = place_of kind p

abbrev pub no_places : Places
no_places = record { observation = None; forecast = None }

abbrev pub places_or : Option Places → Places
places_or None = no_places
places_or (Some p) = p

-- the place of the later of two reports; of equal moments, that of the new one
abbrev pub later_of : Option Report → ℕ → Report → ℕ → ℕ
later_of None held r place = place
later_of (Some a) held r place = if nat_lt (minute_of_report r) (minute_of_report a) then held else place

abbrev pub later_place : List Report → Option ℕ → Report → ℕ → ℕ
later_place rs None r place = place
later_place rs (Some held) r place = later_of (slice_get rs held) held r place

-- the places of the latest reports, after one more report at `place`
abbrev pub places_with : List Report → Places → Report → Read → ℕ → Places
places_with rs p r (read.Metar metar) place = record { observation = Some (later_place rs p.observation r place); forecast = p.forecast }
places_with rs p r (read.Taf taf) place = record { observation = p.observation; forecast = Some (later_place rs p.forecast r place) }

-- the report at the place is the latest of that kind and station; without a place there is none
abbrev pub IsAtPlace : Kind → Station → List Report → Option ℕ → Type 0
IsAtPlace kind station rs None = latest kind station rs ≡ None
IsAtPlace kind station rs (Some place) = (place < length rs) × (slice_get rs place ≡ latest kind station rs)

-- the places of a station's latest reports, if it has an entry
abbrev pub of_station : List (Station × Places) → Station → Option Places
of_station entries station = lookup (is_at (slice_cmp nat_cmp station)) entries

-- The entries are exactly the stations that have a report, each with the places of its latest reports.
pub record IsLatestIndex (entries : List (Station × Places)) (rs : List Report) : Type 0 where
  pub stations : keys_of entries ≡ stations_of rs
  pub latest : (kind : Kind) (station : List ℕ) → IsAtPlace kind station rs (place_in kind (of_station entries station))

-- The 64-bit hash of a text, continued from n: a polynomial of its bytes, modulo 2^64.
abbrev pub fingerprint_from : ℕ → List ℕ → ℕ
fingerprint_from n [] = n
fingerprint_from n (b ∷ bs) = fingerprint_from (((n * 1099511628211) % 2 ^ 64 + b) % 2 ^ 64) bs

unfoldable pub fingerprint : List ℕ → ℕ
fingerprint text = fingerprint_from 1 text

-- a report's moment, the fingerprint of its text, and its number
abbrev pub Key : Type 0
Key = ℕ × ℕ × ℕ

abbrev pub key_of : Report → Key
key_of r = (minute_of_report r, fingerprint r.text, r.id)

-- compares two pairs by the first number, then by the second
abbrev pub key_cmp : ℕ × ℕ → ℕ × ℕ → Ordering
key_cmp x y = ordering_then (nat_cmp x.0 y.0) (nat_cmp x.1 y.1)

-- compares two keys by all three numbers, in order
abbrev pub key_order : Key → Key → Ordering
key_order x y = ordering_then (ordering_then (nat_cmp x.0 y.0) (nat_cmp x.1 y.1)) (nat_cmp x.2 y.2)

-- the station of a report, as an entry without a value
abbrev pub station_entry : Report → Station × Unit {0}
station_entry r = (station_of_report r, tt)

-- the key of a report, as an entry without a value
abbrev pub key_entry : Report → Key × Unit {0}
key_entry r = (key_of r, tt)

abbrev pub id_of : Report → ℕ
id_of r = r.id

-- the report has that number
abbrev pub has_number : ℕ → Report → Bool
has_number id r = r.id == id

-- There is a key for each report, and no other key.
pub record AreKeysOf (rs : List Report) (keys : List Key) : Type 0 where
  pub each : (q : Key) → is_held key_order q keys ≡ list_any (λ r. is_at (key_order q) (key_of r)) rs

-- the key has that moment and that fingerprint
abbrev pub is_under : ℕ → ℕ → Key → Bool
is_under minute mark key = (key.0 == minute) && (key.1 == mark)

-- the report's number, if the report has that text and moment
abbrev pub id_if : List ℕ → ℕ → Option Report → Option ℕ
id_if text minute None = None
id_if text minute (Some r) = if is_same text minute r then Some r.id else None

-- The number of the first report with a text and moment, of those that the keys lead to. The search ends at the first
-- key with another moment or fingerprint.
abbrev pub first_same : List ℕ → ℕ → ℕ → List Report → List Key → Option ℕ
first_same text minute mark rs [] = None
first_same text minute mark rs (key ∷ keys) =
    if is_under minute mark key then option_or (id_if text minute (find (has_number key.2) rs)) (first_same text minute mark rs keys) else None

-- the report of the key is in the list
abbrev pub leads_to : List Report → Key → Bool
leads_to rs key = list_any (has_number key.2) rs
