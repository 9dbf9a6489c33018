-- A plan that doesn't name a station fails the same whatever is reported of it, and one of another tail whatever is deferred.
use Rattle.std.proofs.Common.{◌≡◌, ℕ, Bool, true, false, cond, ◌&&◌, List, [], ◌∷◌, ◌++◌, None, Some, refl, sym, ap, ◌∙◌, ◌↔◌}
use Rattle.std.specs.Option.{option_and_then}
use Rattle.std.specs.Str.{bytes_eq}
use Rattle.desk_io.specs.Station.{Station}
use Rattle.plan.specs.declared.flights.Plan.{Plan}
use Rattle.plan.specs.declared.release.Phase.{Phase}
use Rattle.facts.specs.Same.{station_of_report, metar_of_read, taf_of_read}
use Rattle.facts.specs.Latest.{is_kind, later, latest}
use Rattle.facts.specs.declared.latest.Kind.{Kind}
use Rattle.facts.specs.declared.latest.Kind.TheVariants as kind
use Rattle.facts.specs.declared.report.Report.{Report}
use Rattle.facts.proofs.IndexLaws.{latest_push, later_none}
use Rattle.rules.specs.Frame.{SameLatestBut}
use Rattle.rules.specs.Touches.{names_station, IgnoresStation, IgnoresReport, is_of_tail, IgnoresTail, IgnoresDeferral, IgnoresClearing, Names}
use Rattle.rules.proofs.Named.{same_station, station_same, names_there, there_names}
use Rattle.rules.proofs.FrameLaws.{reads_named}
use Rattle.rules.proofs.OpenFrame.{reads_open, open_added, open_cleared}

-- The reports of a station

pub ignores_station : (plan : Plan) (phase : Phase) (station : Station) → names_station plan phase station ≡ false → IgnoresStation plan phase station
ignores_station plan phase station unnamed g others same =
    reads_named plan phase g others
    (λ other named. same other (λ is. absurd (let e : names_station plan phase station ≡ true = sym (ap (names_station plan phase) is) ∙ named in cc)))

not_alike : (kind : Kind) (other : Station) (r : Report) (station : Station) (alike e : Bool) → bytes_eq (station_of_report r) other ≡ e → station_of_report r ≡ station → (other ≡ station → ⊥)
    → cond (alike && e) (Some r) None ≡ None
not_alike kind other r station true true e is apart = absurd (apart (sym (same_station (station_of_report r) other e) ∙ is))
not_alike kind other r station true false e is apart = refl
not_alike kind other r station false b e is apart = refl

latest_added : (kind : Kind) (other : Station) (rs : List Report) (r : Report) (station : Station) → station_of_report r ≡ station → (other ≡ station → ⊥) → latest kind other (rs ++ r ∷ []) ≡ latest kind other rs
latest_added kind other rs r station is apart =
    latest_push kind other rs r
    ∙ ap (later (latest kind other rs)) (not_alike kind other r station (is_kind kind r.read) (bytes_eq (station_of_report r) other) refl is apart)
    ∙ later_none (latest kind other rs)

-- one more report of a station leaves the latest of each other one
report_added : (rs : List Report) (r : Report) (station : Station) → station_of_report r ≡ station → SameLatestBut station rs (rs ++ r ∷ [])
report_added rs r station is other apart = record {
  metar = ap (option_and_then (λ r. metar_of_read r.read)) (latest_added kind.Observation other rs r station is apart);
  taf = ap (option_and_then (λ r. taf_of_read r.read)) (latest_added kind.Forecast other rs r station is apart);
}

pub ignores_report : (plan : Plan) (phase : Phase) (station : Station) → names_station plan phase station ≡ false → IgnoresReport plan phase station
ignores_report plan phase station unnamed g report is = ignores_station plan phase station unnamed g (g.reports ++ report ∷ []) (report_added g.reports report station is)

-- what a plan names
pub named_exactly : (plan : Plan) (phase : Phase) (station : Station) → (names_station plan phase station ≡ true) ↔ Names plan phase station
named_exactly plan phase station = (names_there plan phase station, there_names plan phase station)

-- The deferrals of a tail

other_tail : (plan : Plan) (tail : List ℕ) → is_of_tail plan tail ≡ false → plan.tail ≡ tail → ⊥
other_tail plan tail unlike is = let e = station_same plan.tail tail is in absurd (cc)

pub ignores_tail : (plan : Plan) (tail : List ℕ) → is_of_tail plan tail ≡ false → IgnoresTail plan tail
ignores_tail plan tail unlike phase g others same = reads_open plan phase g others (same plan.tail (other_tail plan tail unlike))

pub ignores_deferral : (plan : Plan) (tail : List ℕ) → is_of_tail plan tail ≡ false → IgnoresDeferral plan tail
ignores_deferral plan tail unlike phase g deferral is =
    ignores_tail plan tail unlike phase g (g.deferrals ++ deferral ∷ []) (open_added tail g.deferrals deferral is)

pub ignores_clearing : (plan : Plan) (tail : List ℕ) → is_of_tail plan tail ≡ false → IgnoresClearing plan tail
ignores_clearing plan tail unlike phase g id all = ignores_tail plan tail unlike phase g _ (open_cleared tail g.deferrals id all)

pub tail_exactly : (plan : Plan) (tail : List ℕ) → (is_of_tail plan tail ≡ true) ↔ (plan.tail ≡ tail)
tail_exactly plan tail = (same_station plan.tail tail, station_same plan.tail tail)
