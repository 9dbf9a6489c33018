-- The least number of some reports, part by part.
use Rattle.std.proofs.Common.{◌≡◌, ◌<◌, ◌+◌, length, get_or, drop, ℕ, Bool, true, false, cond, ◌||◌, List, [], ◌∷◌, ◌++◌, Option, None, Some, refl, ap, ◌∙◌, sym, arith}
use Rattle.std.specs.Str.{bytes_eq}
use Rattle.std.proofs.lemmas.List.{drop_more}
use Rattle.std.proofs.lemmas.Slice.Eq.{bytes_eq-Decides}
use Rattle.codes.specs.Cond.{lesser}
use Rattle.desk_io.specs.Station.{Station}
use Rattle.plan.specs.declared.flights.Plan.{Plan}
use Rattle.plan.specs.declared.flights.Leg.{Leg}
use Rattle.plan.specs.Phases.{standing}
use Rattle.plan.specs.declared.release.Phase.{Phase}
use Rattle.facts.specs.declared.report.Report.{Report}
use Rattle.plan.specs.declared.release.Attached.{Attached}
use Rattle.release_text.specs.Concerned.{arrival_stations, departure_stations, leg_stations, is_among, with_station, with_stations, stations_from, concerned}
use Rattle.release_text.specs.Weather.{latest_at, latest_of, new_id, least_new, newer_of, newer_than, weather_for}
use Rattle.codes.proofs.CondLaws.{lesser_comm, lesser_none, lesser_assoc}

pub lesser_in_turn : (a b c : Option ℕ) → lesser (lesser a b) c ≡ lesser a (lesser b c)
lesser_in_turn a b c = sym (lesser_assoc a b c)

lesser_same : (a : Option ℕ) → lesser a a ≡ a
lesser_same None = refl
lesser_same (Some x) = ap (λ n. Some n) (omega arith)

again : (a b : Option ℕ) → lesser (lesser a b) a ≡ lesser a b
again a b = lesser_comm (lesser a b) a ∙ sym (lesser_in_turn a a b) ∙ ap (λ n. lesser n b) (lesser_same a)

among_rest : (same rest : Bool) → same ≡ false → (same || rest) ≡ true → rest ≡ true
among_rest true rest e h = absurd cc
among_rest false rest e h = h

-- of two lists of reports
pub least_of_both : (attached : List Attached) (reports more : List Report)
    → least_new attached (reports ++ more) ≡ lesser (least_new attached reports) (least_new attached more)
least_of_both attached [] more = refl
least_of_both attached (r ∷ reports) more =
    ap (λ n. lesser (new_id attached r) n) (least_of_both attached reports more)
    ∙ sym (lesser_in_turn (new_id attached r) (least_new attached reports) (least_new attached more))

module _ (reports : List Report) (attached : List Attached) where
  -- of two lists of stations
  pub newer_of_both : (stations more : List Station)
      → newer_of reports attached (stations ++ more) ≡ lesser (newer_of reports attached stations) (newer_of reports attached more)
  newer_of_both [] more = refl
  newer_of_both (s ∷ stations) more =
      ap (λ n. lesser (least_new attached (latest_at reports s)) n) (newer_of_both stations more)
      ∙ sym (lesser_in_turn (least_new attached (latest_at reports s)) (newer_of reports attached stations) (newer_of reports attached more))

  -- of the stations of a leg that hasn't departed
  pub newer_of_leg : (leg : Leg)
      → newer_of reports attached (departure_stations leg ++ arrival_stations leg) ≡ lesser (newer_of reports attached (departure_stations leg)) (newer_of reports attached (arrival_stations leg))
  newer_of_leg leg = newer_of_both (departure_stations leg) (arrival_stations leg)

  -- of the stations of a leg, and of the legs after it
  pub next_leg : (phase : Phase) (n : ℕ) (legs : List Leg) (i : ℕ) (leg : Leg) (least next : Option ℕ)
      → i < length legs → leg ≡ get_or legs i leg → next ≡ lesser least (newer_of reports attached (leg_stations (standing phase n) leg))
      → lesser next (newer_of reports attached (stations_from phase (n + 1) (drop (i + 1) legs))) ≡ lesser least (newer_of reports attached (stations_from phase n (drop i legs)))
  next_leg phase n legs i leg least next within is h =
      let now : List Station = leg_stations (standing phase n) leg in
      let later : List Station = stations_from phase (n + 1) (drop (i + 1) legs) in
      ap (λ m. lesser m (newer_of reports attached later)) h
      ∙ lesser_in_turn least (newer_of reports attached now) (newer_of reports attached later)
      ∙ ap (λ m. lesser least m) (sym (newer_of_both now later))
      ∙ ap (λ ls. lesser least (newer_of reports attached (stations_from phase n ls))) (sym (drop_more legs i leg within ∙ ap (λ l. l ∷ drop (i + 1) legs) (sym is)))

  -- a station that is the first of some, or among the others, adds nothing
  absorbed_by : (s station : Station) (n : Option ℕ) (same : Bool) → (same ≡ true → s ≡ station)
      → (same ≡ false → lesser n (least_new attached (latest_at reports station)) ≡ n)
      → lesser (lesser (least_new attached (latest_at reports s)) n) (least_new attached (latest_at reports station)) ≡ lesser (least_new attached (latest_at reports s)) n
  absorbed_by s station n true is later =
      ap (λ t. lesser (lesser (least_new attached (latest_at reports s)) n) (least_new attached (latest_at reports t))) (sym (is refl))
      ∙ again (least_new attached (latest_at reports s)) n
  absorbed_by s station n false is later =
      lesser_in_turn (least_new attached (latest_at reports s)) n (least_new attached (latest_at reports station))
      ∙ ap (λ m. lesser (least_new attached (latest_at reports s)) m) (later refl)

  -- a station that is among some adds nothing
  absorbed : (stations : List Station) (station : Station) → is_among stations station ≡ true
      → lesser (newer_of reports attached stations) (least_new attached (latest_at reports station)) ≡ newer_of reports attached stations
  absorbed [] station h = absurd cc
  absorbed (s ∷ stations) station h =
      absorbed_by s station (newer_of reports attached stations) (bytes_eq s station) (bytes_eq-Decides s station).0
      (λ e. absorbed stations station (among_rest (bytes_eq s station) (is_among stations station) e h))

  with_one : (found : List Station) (station : Station) (among : Bool) → is_among found station ≡ among
      → newer_of reports attached (cond among found (found ++ station ∷ [])) ≡ lesser (newer_of reports attached found) (least_new attached (latest_at reports station))
  with_one found station true e = sym (absorbed found station e)
  with_one found station false e =
      newer_of_both found (station ∷ []) ∙ ap (λ n. lesser (newer_of reports attached found) n) (lesser_none _)

  -- each station once is as good as all of them
  each_once : (found stations : List Station)
      → newer_of reports attached (with_stations found stations) ≡ lesser (newer_of reports attached found) (newer_of reports attached stations)
  each_once found [] = sym (lesser_none (newer_of reports attached found))
  each_once found (s ∷ stations) =
      each_once (with_station found s) stations
      ∙ ap (λ n. lesser n (newer_of reports attached stations)) (with_one found s (is_among found s) refl)
      ∙ lesser_in_turn (newer_of reports attached found) (least_new attached (latest_at reports s)) (newer_of reports attached stations)

  by_stations : (stations : List Station) → newer_of reports attached stations ≡ least_new attached (latest_of reports stations)
  by_stations [] = refl
  by_stations (s ∷ stations) =
      ap (λ n. lesser (least_new attached (latest_at reports s)) n) (by_stations stations)
      ∙ sym (least_of_both attached (latest_at reports s) (latest_of reports stations))

  -- the least number over all stations of the legs is that over the stations that the release concerns
  pub newer_of_concerned : (plan : Plan) (phase : Phase) → newer_of reports attached (stations_from phase 1 plan.legs) ≡ newer_than reports plan phase attached
  unfolding concerned newer_than weather_for
  newer_of_concerned plan phase = sym (each_once [] (stations_from phase 1 plan.legs)) ∙ by_stations (concerned plan phase)
