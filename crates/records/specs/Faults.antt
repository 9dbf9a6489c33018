-- Whether rows fit together; a fault names rows by their places, counted from 0.
use Rattle.std.specs.Prelude.{ℕ, ◌+◌, ◌<◌, ◌==◌, nat_le, nat_lt, Bool, false, not, ◌&&◌, ◌||◌, if◌then◌else◌, List, [], ◌∷◌, ◌++◌, length, Option, None, Some, Result, Ok, Err}
use Rattle.std.specs.List.{list_any, count_by, position_from}
use Rattle.std.specs.Str.{bytes_eq}
use Rattle.codes.specs.declared.fault.BadReport.{BadReport}
use Rattle.plan.specs.Phases.{is_active}
use Rattle.plan.specs.declared.release.Release.{Release as ReleaseOf}
use Rattle.plan.specs.declared.release.Revision.{Revision}
use Rattle.asks.specs.declared.kept.KeptReply.{KeptReply}
use Rattle.facts.specs.Same.{minute_of_read}
use Rattle.facts.specs.Reading.{read_of}
use Rattle.facts.specs.declared.report.Read.{Read}
use Rattle.records.specs.Kinds.{kind_of, key_of, is_kind}
use Rattle.records.specs.declared.faults.Fault.{Fault}
use Rattle.records.specs.declared.faults.Fault.TheVariants.{Bad, Pair}
use Rattle.records.specs.declared.faults.RowWhy.{RowWhy}
use Rattle.records.specs.declared.faults.RowWhy.TheVariants.{NoMeta, Orphan, OverLimit}
use Rattle.records.specs.declared.limits.Counts.{Counts}
use Rattle.records.specs.declared.record.KeptAlert.{KeptAlert}
use Rattle.records.specs.declared.record.KeptReport.{KeptReport}
use Rattle.desk_state.specs.declared.counters.Counters.{Counters}
use Rattle.records.specs.declared.record.Meta.{Meta as MetaOf}
use Rattle.records.specs.declared.record.Record.{Record}
use Rattle.records.specs.declared.record.Record.TheVariants.{Meta, Report, Deferral, Release, Kept, Alert}

-- ---- places in a list

-- the place of the first record that meets a test
abbrev pub place_of : (Record → Bool) → List Record → Option ℕ
place_of test rs = position_from test 0 rs

-- the place of the first record that meets a test of the records before it and itself; earlier ones precede the list
abbrev pub first_after : (List Record → Record → Bool) → List Record → List Record → Option ℕ
first_after test earlier [] = None
first_after test earlier (r ∷ rs) = if test earlier r then Some (length earlier) else first_after test (earlier ++ r ∷ []) rs

abbrev pub pair_or : Option ℕ → ℕ → Option (ℕ × ℕ) → Option (ℕ × ℕ)
pair_or None one later = later
pair_or (Some two) one later = Some (one, two)

-- The places of the first record that conflicts with one before it, and of the earliest such one. Earlier ones
-- precede the list.
abbrev pub pair_after : (Record → Record → Bool) → List Record → List Record → Option (ℕ × ℕ)
pair_after at_odds earlier [] = None
pair_after at_odds earlier (r ∷ rs) = pair_or (place_of (at_odds r) earlier) (length earlier) (pair_after at_odds (earlier ++ r ∷ []) rs)

-- ---- the first test: there are no rows, or one of them is the meta row

abbrev pub lacks_meta : List Record → Option ℕ
lacks_meta rs = if (length rs == 0) || list_any (is_kind 0) rs then None else Some 0

-- ---- the second test: no kind has too many rows

-- the number of records of each kind that has a limit
abbrev pub counts_of : List Record → Counts
counts_of rs = record {
  reports = count_by (is_kind 1) rs;
  deferrals = count_by (is_kind 2) rs;
  releases = count_by (is_kind 3) rs;
  kept = count_by (is_kind 4) rs;
}

-- a record after these is one too many of its kind, or counts too many events
abbrev pub is_past : Counts → Record → Bool
is_past before (Meta m) = nat_le 999_999_999_999_999 m.counters.events
is_past before (Report r) = nat_le 200_000 before.reports
is_past before (Deferral d) = nat_le 50_000 before.deferrals
is_past before (Release r) = nat_le 20_000 before.releases
is_past before (Kept k) = nat_le 800_000 before.kept
is_past before (Alert a) = false

abbrev pub is_over : List Record → Record → Bool
is_over earlier r = is_past (counts_of earlier) r

-- ---- the third test: each alert has its release

abbrev pub is_release_of : ℕ → Record → Bool
is_release_of id r = is_kind 3 r && (key_of r == id)

abbrev pub is_orphan : List Record → Record → Bool
is_orphan rs (Meta m) = false
is_orphan rs (Report r) = false
is_orphan rs (Deferral d) = false
is_orphan rs (Release r) = false
is_orphan rs (Kept k) = false
is_orphan rs (Alert a) = not (list_any (is_release_of a.release) rs)

-- ---- the fourth test: no two rows conflict

abbrev pub minute_in : Result Read BadReport → ℕ
minute_in (Ok read) = minute_of_read read
minute_in (Err bad) = 0

-- the minute at which a report was observed or issued, by its text
unfoldable pub minute_of : KeptReport → ℕ
minute_of r = minute_in (read_of r.text r.received)

abbrev pub is_same_row : Record → Record → Bool
is_same_row a b = (kind_of a == kind_of b) && (key_of a == key_of b)

abbrev pub is_same_report : KeptReport → KeptReport → Bool
is_same_report a b = bytes_eq a.text b.text && (minute_of a == minute_of b)

abbrev pub is_same_request : KeptReply → KeptReply → Bool
is_same_request a b = bytes_eq a.actor b.actor && (a.number == b.number)

-- an alert of a release that isn't active
abbrev pub is_idle : ReleaseOf → KeptAlert → Bool
is_idle r a = (r.id == a.release) && not (is_active r.phase)

abbrev pub are_at_odds : Record → Record → Bool
are_at_odds (Report a) (Report b) = is_same_report a b
are_at_odds (Kept a) (Kept b) = is_same_request a b
are_at_odds (Release r) (Alert a) = is_idle r a
are_at_odds (Alert a) (Release r) = is_idle r a
are_at_odds _ _ = false

-- two rows conflict: the same kind and key, the same report or request, or an alert of an inactive release
abbrev pub is_bad_pair : Record → Record → Bool
is_bad_pair a b = is_same_row a b || are_at_odds a b

-- ---- the fifth test: no row is ahead of the counters of the meta row

abbrev pub is_late : ℕ → Option Revision → Bool
is_late events None = false
is_late events (Some v) = nat_lt events v.number

-- some next id is more than one above the number of events
abbrev pub outruns : Counters → Bool
outruns c =
    nat_lt (c.events + 1) c.next_report || nat_lt (c.events + 1) c.next_deferral || nat_lt (c.events + 1) c.next_release
    || nat_lt (c.events + 1) c.next_kept

abbrev pub is_ahead : Counters → Record → Bool
is_ahead c (Meta m) = outruns m.counters
is_ahead c (Report r) = nat_le c.next_report r.id
is_ahead c (Deferral d) = nat_le c.next_deferral d.id
is_ahead c (Release r) = nat_le c.next_release r.id || is_late c.events r.pending || is_late c.events r.active
is_ahead c (Kept k) = nat_le c.next_kept k.id
is_ahead c (Alert a) = nat_lt c.events a.version

-- the first meta row, and its place
abbrev pub meta_from : ℕ → List Record → Option (ℕ × MetaOf)
meta_from place [] = None
meta_from place (Meta m ∷ rs) = Some (place, m)
meta_from place (Report r ∷ rs) = meta_from (place + 1) rs
meta_from place (Deferral d ∷ rs) = meta_from (place + 1) rs
meta_from place (Release r ∷ rs) = meta_from (place + 1) rs
meta_from place (Kept k ∷ rs) = meta_from (place + 1) rs
meta_from place (Alert a ∷ rs) = meta_from (place + 1) rs

abbrev pub beside : Option ℕ → ℕ → Option (ℕ × ℕ)
beside None two = None
beside (Some one) two = Some (one, two)

abbrev pub ahead_of : List Record → Option (ℕ × MetaOf) → Option (ℕ × ℕ)
ahead_of rs None = None
ahead_of rs (Some m) = beside (place_of (is_ahead m.1.counters) rs) m.0

-- ---- all tests, in order

abbrev pub bad : RowWhy → Option ℕ → Result (Unit {0}) Fault
bad why None = Ok tt
bad why (Some place) = Err (Bad place why)

abbrev pub pair : Option (ℕ × ℕ) → Result (Unit {0}) Fault
pair None = Ok tt
pair (Some places) = Err (Pair places.0 places.1)

infixl 10 ◌>>◌
-- runs a second test if the first one passes
abbrev pub ◌>>◌ : Result (Unit {0}) Fault → Result (Unit {0}) Fault → Result (Unit {0}) Fault
(Ok done) >> later = later
(Err fault) >> later = Err fault

abbrev pub has_meta : List Record → Result (Unit {0}) Fault
has_meta rs = bad NoMeta (lacks_meta rs)

abbrev pub within_limits : List Record → Result (Unit {0}) Fault
within_limits rs = bad OverLimit (first_after is_over [] rs)

abbrev pub have_releases : List Record → Result (Unit {0}) Fault
have_releases rs = bad Orphan (place_of (is_orphan rs) rs)

abbrev pub agree : List Record → Result (Unit {0}) Fault
agree rs = pair (pair_after is_bad_pair [] rs)

abbrev pub are_counted : List Record → Result (Unit {0}) Fault
are_counted rs = pair (ahead_of rs (meta_from 0 rs))

-- the first test that fails
unfoldable pub fit : List Record → Result (Unit {0}) Fault
fit rs = has_meta rs >> (within_limits rs >> (have_releases rs >> (agree rs >> are_counted rs)))

-- the places that a fault names are within a list of this length
abbrev pub IsWithin : ℕ → Fault → Type 0
IsWithin count (Bad place why) = place < count
IsWithin count (Pair one two) = (one < count) × (two < count)
