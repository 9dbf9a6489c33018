-- What the attached reports are.
use Rattle.std.proofs.Common.{◌≡◌, ℕ, Bool, true, false, ◌==◌, ◌||◌, List, [], ◌∷◌, ◌++◌, IsTrue, Option, None, Some, IfSome, refl, ap, subst, sym, ◌∙◌, arith}
use Rattle.std.specs.Prelude.{map, if◌then◌else◌}
use Rattle.std.specs.List.{AllByRecursion, list_any}
use Rattle.std.proofs.lemmas.Bool.Decides.{nat_tests}
use Rattle.codes.specs.Cond.{lesser}
use Rattle.desk_io.specs.Station.{Station}
use Rattle.plan.specs.declared.flights.Plan.{Plan}
use Rattle.plan.specs.declared.release.Phase.{Phase}
use Rattle.facts.specs.declared.latest.Kind.{Kind}
use Rattle.facts.specs.declared.latest.Kind.TheVariants as kind
use Rattle.facts.specs.declared.report.Report.{Report}
use Rattle.facts.specs.Latest.{latest, latest_metar, latest_taf, IsLatest}
use Rattle.facts.proofs.LatestLaws.{latest_is}
use Rattle.plan.specs.declared.release.Attached.{Attached}
use Rattle.release_text.specs.Concerned.{concerned}
use Rattle.release_text.proofs.AirportLaws.{all_concerned, concerned_stands, stands_before, stands_behind, stands_first, stands_mapped}
use Rattle.release_text.specs.Weather.{attached_of, attached_to, is_attached, latest_at, latest_of, least_new, new_id, newer_than, weather_for, where_held}
use Rattle.release_text.specs.Laws.{AreAttached, AreLatest, IsLatestOfOne, IsNoneNewer, AreCovered, IsConcerned, StandsIn}
use Rattle.desk_io.proofs.Each.{each_append}

none_of_two : (a b : Option ℕ) → lesser a b ≡ None → (a ≡ None) × (b ≡ None)
none_of_two None b h = (refl, h)
none_of_two (Some x) None h = absurd cc
none_of_two (Some x) (Some y) h = absurd cc

id_none : (id : ℕ) (attached : Bool) → (if attached then None else Some id) ≡ None → IsTrue attached
id_none id true h = cc
id_none id false h = absurd cc

id_attached : (id : ℕ) (attached : Bool) → IsTrue attached → (if attached then None else Some id) ≡ None
id_attached id true h = refl
id_attached id false h = absurd cc

all_attached : (attached : List Attached) (reports : List Report) → least_new attached reports ≡ None → AreAttached attached reports
all_attached attached [] h = tt
all_attached attached (r ∷ reports) h =
    let both = none_of_two (new_id attached r) (least_new attached reports) h in
    (id_none r.id (is_attached attached r.id) both.0, all_attached attached reports both.1)

none_new : (attached : List Attached) (reports : List Report) → AreAttached attached reports → least_new attached reports ≡ None
none_new attached [] h = refl
none_new attached (r ∷ reports) h =
    ap (λ n. lesser n (least_new attached reports)) (id_attached r.id (is_attached attached r.id) h.0) ∙ none_new attached reports h.1

pub none_newer : (reports : List Report) (plan : Plan) (phase : Phase) (attached : List Attached) (newer : Option ℕ)
    → newer ≡ newer_than reports plan phase attached → IsNoneNewer reports plan phase attached newer
unfolding newer_than
none_newer reports plan phase attached newer is = (
  λ h. all_attached attached (weather_for reports plan phase) (sym is ∙ h),
  λ h. is ∙ none_new attached (weather_for reports plan phase) h,
)

-- each of some reports is attached, where they are attached after others and before others
attached_here : (a : Attached) (others : List Attached) (id : ℕ) → a.report ≡ id → IsTrue (is_attached (a ∷ others) id)
attached_here a others id is = here (a.report == id) (list_any (λ b. b.report == id) others) (same a.report id is)
  where
    same : (m n : ℕ) → m ≡ n → (m == n) ≡ true
    same m n h = grind (arith, nat_tests)

    here : (b c : Bool) → b ≡ true → IsTrue (b || c)
    here true c h = cc
    here false c h = absurd cc

attached_after : (a : Attached) (others : List Attached) (id : ℕ) → IsTrue (is_attached others id) → IsTrue (is_attached (a ∷ others) id)
attached_after a others id h = after (a.report == id) (is_attached others id) h
  where
    after : (b c : Bool) → IsTrue c → IsTrue (b || c)
    after true c h = cc
    after false c h = h

all_after : (a : Attached) (others : List Attached) (reports : List Report) → AreAttached others reports → AreAttached (a ∷ others) reports
all_after a others [] h = tt
all_after a others (r ∷ reports) h = (attached_after a others r.id h.0, all_after a others reports h.1)

each_attached : (reports : List Report) → AreAttached (map attached_of reports) reports
each_attached [] = tt
each_attached (r ∷ reports) =
    (attached_here (attached_of r) (map attached_of reports) r.id refl, all_after (attached_of r) (map attached_of reports) reports (each_attached reports))

pub newest_attached : (reports : List Report) (plan : Plan) (phase : Phase) → newer_than reports plan phase (attached_to reports plan phase) ≡ None
unfolding newer_than attached_to
newest_attached reports plan phase = none_new (map attached_of (weather_for reports plan phase)) (weather_for reports plan phase) (each_attached (weather_for reports plan phase))

mapped : (xs ys : List Report) → map attached_of (xs ++ ys) ≡ map attached_of xs ++ map attached_of ys
mapped [] ys = refl
mapped (x ∷ xs) ys = ap (λ l. attached_of x ∷ l) (mapped xs ys)

module _ (reports : List Report) (plan : Plan) (phase : Phase) where
  -- the latest report of a station, where there is one
  of_kind : (kind : Kind) (station : Station) (o : Option Report)
      → IsConcerned plan phase station → IsLatest kind station reports o → AllByRecursion (IsLatestOfOne reports plan phase) (map attached_of (where_held o))
  of_kind kind station None one is = tt
  of_kind kind station (Some r) one is = (record { station = station; kind = kind; report = r; one = one; latest = is; stands = refl }, tt)

  at_station : (station : Station) → IsConcerned plan phase station → AllByRecursion (IsLatestOfOne reports plan phase) (map attached_of (latest_at reports station))
  at_station station one =
      subst (λ l. AllByRecursion (IsLatestOfOne reports plan phase) l)
      (sym (mapped (where_held (latest_metar reports station)) (where_held (latest_taf reports station))))
      (each_append (IsLatestOfOne reports plan phase) _ _
      (of_kind kind.Observation station (latest_metar reports station) one (latest_is kind.Observation station reports (latest_metar reports station) refl))
      (of_kind kind.Forecast station (latest_taf reports station) one (latest_is kind.Forecast station reports (latest_taf reports station) refl)))

  at_stations : (some : List Station) → AllByRecursion (IsConcerned plan phase) some → AllByRecursion (IsLatestOfOne reports plan phase) (map attached_of (latest_of reports some))
  at_stations [] h = tt
  at_stations (s ∷ some) h =
      subst (λ l. AllByRecursion (IsLatestOfOne reports plan phase) l)
      (sym (mapped (latest_at reports s) (latest_of reports some)))
      (each_append (IsLatestOfOne reports plan phase) _ _ (at_station s h.0) (at_stations some h.1))

  pub are_latest : AreLatest reports plan phase (attached_to reports plan phase)
  unfolding attached_to weather_for
  are_latest = at_stations (concerned plan phase) (all_concerned plan phase)

-- ---- and each of these is attached

held_first : (o : Option Report) (others : List Report) → IfSome o (λ r. StandsIn (where_held o ++ others) r)
held_first None others = tt
held_first (Some r) others = stands_first r others

held_last : (others : List Report) (o : Option Report) → IfSome o (λ r. StandsIn (others ++ where_held o) r)
held_last others None = tt
held_last others (Some r) = stands_behind r others (r ∷ []) (stands_first r [])

held_at : (reports : List Report) (station : Station) (kind : Kind) → IfSome (latest kind station reports) (λ r. StandsIn (latest_at reports station) r)
held_at reports station kind.Observation = held_first (latest_metar reports station) (where_held (latest_taf reports station))
held_at reports station kind.Forecast = held_last (where_held (latest_metar reports station)) (latest_taf reports station)

held_among : (reports : List Report) (before : List Station) (station : Station) (after : List Station) (r : Report)
    → StandsIn (latest_at reports station) r → StandsIn (latest_of reports (before ++ station ∷ after)) r
held_among reports [] station after r h = stands_before r (latest_at reports station) (latest_of reports after) h
held_among reports (b ∷ before) station after r h = stands_behind r (latest_at reports b) _ (held_among reports before station after r h)

attached_among : (reports : List Report) (stations : List Station) (station : Station) (r : Report)
    → StandsIn stations station → StandsIn (latest_at reports station) r → StandsIn (map attached_of (latest_of reports stations)) (attached_of r)
attached_among reports stations station r s h =
    stands_mapped attached_of (latest_of reports stations) r
    (subst (λ l. StandsIn (latest_of reports l) r) (sym s.whole) (held_among reports s.before station s.after r h))

where_some : (o : Option Report) (P Q : Report → Type 0) → IfSome o P → ((r : Report) → P r → Q r) → IfSome o Q
where_some None P Q h f = tt
where_some (Some r) P Q h f = f r h

-- the latest reports of each airport of each leg are attached
pub are_covered : (reports : List Report) (plan : Plan) (phase : Phase) → AreCovered reports plan phase (attached_to reports plan phase)
unfolding AreCovered attached_to weather_for
are_covered reports plan phase station is kind = record {
  report = latest kind station reports;
  latest = latest_is kind station reports (latest kind station reports) refl;
  stands = where_some (latest kind station reports) _ _ (held_at reports station kind)
      (λ r. attached_among reports (concerned plan phase) station r (concerned_stands plan phase station is));
}
