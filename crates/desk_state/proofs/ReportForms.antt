-- Reports that are received have their forms, and so has what is attached of them.
use Rattle.std.proofs.Common.{ℕ, ◌≤◌, Bool, true, false, cond, List, [], ◌∷◌, Option, None, Some, IfSome, IsUtf8, arith}
use Rattle.std.specs.Prelude.{map, nat_lt}
use Rattle.std.specs.List.{AllByRecursion}
use Rattle.desk_io.specs.Station.{Station}
use Rattle.facts.specs.Latest.{is_of, where_of, later, latest, latest_metar, latest_taf}
use Rattle.facts.specs.Same.{minute_of_report}
use Rattle.facts.specs.declared.latest.Kind.{Kind}
use Rattle.facts.specs.declared.latest.Kind.TheVariants as kind
use Rattle.facts.specs.declared.report.Report.{Report}
use Rattle.facts.proofs.Utf8Laws.{received_utf8}
use Rattle.desk_state.specs.Formed.{ReportHasForms}
use Rattle.facts.proofs.ReadLaws.{read_moments, same_canonical, same_reading}
use Rattle.desk_state.specs.Allowed.{IsReceived}
use Rattle.desk_state.specs.Sound.{InBounds, IsNumbered}
use Rattle.desk_state.specs.State.{State}
use Rattle.desk_time.specs.Limits.{IsMoment}
use Rattle.plan.specs.declared.flights.Plan.{Plan}
use Rattle.plan.specs.declared.release.Phase.{Phase}
use Rattle.asks.specs.Forms.{IsId, IsAttached}
use Rattle.release_text.specs.Concerned.{concerned}
use Rattle.release_text.specs.Weather.{where_held, latest_at, latest_of, weather_for, attached_of, attached_to}
use Rattle.desk_io.proofs.Each.{each_append}

-- A report that is received as a text in UTF-8.
pub received_formed : (s : State) (text : List ℕ) (report : Report) → IsMoment s.moment → IsUtf8 text → IsReceived s text report → ReportHasForms report
received_formed s text report shown utf8 is = record {
  read = record {
    canonical = same_canonical text report.text is.canonical;
    reading = same_reading text report.text s.moment report.received report.read is.canonical is.received is.reading;
    moments = record {
      received = let at = is.received in let low = shown.0 in let high = shown.1 in (omega (arith, at, low), omega (arith, at, high));
      read = read_moments text s.moment report.read is.reading;
    };
  };
  text = received_utf8 text report.text is.canonical utf8;
}

-- ---- what is attached

-- a report whose number and text can be attached
abbrev pub MayAttach : Report → Type 0
MayAttach r = IsId r.id × IsUtf8 r.text

reports_attach : (next : ℕ) (rs : List Report) → next ≤ 1_000_000_000_000_000 → AllByRecursion (IsNumbered next) rs → AllByRecursion ReportHasForms rs → AllByRecursion MayAttach rs
reports_attach next [] top low all = tt
reports_attach next (r ∷ rs) top low all = ((let below = low.0 in omega (arith, below, top), all.0.text), reports_attach next rs top low.1 all.1)

pub may_attach : (s : State) → InBounds s → AllByRecursion ReportHasForms s.reports → AllByRecursion MayAttach s.reports
may_attach s bounds all =
    let next = bounds.counters.report in
    let top = bounds.counters.events in
    reports_attach s.counters.next_report s.reports (omega (arith, next, top)) bounds.reports all

later_has : (P : Report → Type 0) (a b : Option Report) → IfSome a P → IfSome b P → IfSome (later a b) P
later_has P None b first second = second
later_has P (Some a) None first second = first
later_has P (Some a) (Some b) first second = by_minute (nat_lt (minute_of_report b) (minute_of_report a))
  where
    by_minute : (before : Bool) → IfSome (cond before (Some a) (Some b)) P
    by_minute true = first
    by_minute false = second

where_has : (P : Report → Type 0) (r : Report) (alike : Bool) → P r → IfSome (cond alike (Some r) None) P
where_has P r true has = has
where_has P r false has = tt

latest_has : (P : Report → Type 0) (kind : Kind) (station : Station) (rs : List Report) → AllByRecursion P rs → IfSome (latest kind station rs) P
latest_has P kind station [] all = tt
latest_has P kind station (r ∷ rs) all =
    later_has P (where_of kind station r) (latest kind station rs) (where_has P r (is_of kind station r) all.0) (latest_has P kind station rs all.1)

held_each : (P : Report → Type 0) (o : Option Report) → IfSome o P → AllByRecursion P (where_held o)
held_each P None has = tt
held_each P (Some r) has = (has, tt)

latest_each : (P : Report → Type 0) (rs : List Report) (stations : List Station) → AllByRecursion P rs → AllByRecursion P (latest_of rs stations)
latest_each P rs [] all = tt
latest_each P rs (station ∷ stations) all =
    each_append P (latest_at rs station) (latest_of rs stations)
    (each_append P (where_held (latest_metar rs station)) (where_held (latest_taf rs station))
    (held_each P (latest_metar rs station) (latest_has P kind.Observation station rs all)) (held_each P (latest_taf rs station) (latest_has P kind.Forecast station rs all)))
    (latest_each P rs stations all)

each_attached : (rs : List Report) → AllByRecursion MayAttach rs → AllByRecursion IsAttached (map attached_of rs)
each_attached [] all = tt
each_attached (r ∷ rs) all = (record { report = all.0.0; text = all.0.1 }, each_attached rs all.1)

-- the latest weather of a plan
pub attached_formed : (rs : List Report) (plan : Plan) (phase : Phase) → AllByRecursion MayAttach rs → AllByRecursion IsAttached (attached_to rs plan phase)
unfolding attached_to weather_for
attached_formed rs plan phase all = each_attached (latest_of rs (concerned plan phase)) (latest_each MayAttach rs (concerned plan phase) all)
