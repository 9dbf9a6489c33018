-- Stations that are added in turn.
use Rattle.std.proofs.Common.{◌≡◌, ◌<◌, ◌+◌, ℕ, List, [], ◌∷◌, ◌++◌, length, get_or, drop, Bool, true, false, cond, ◌||◌, IsTrue, refl, ap, subst, sym, ◌∙◌}
use Rattle.std.specs.Str.{bytes_eq}
use Rattle.std.proofs.lemmas.Slice.Eq.{bytes_eq-Decides}
use Rattle.std.proofs.lemmas.List.{drop_more}
use Rattle.desk_io.specs.Station.{Station}
use Rattle.plan.specs.declared.flights.Leg.{Leg}
use Rattle.plan.specs.declared.flights.Plan.{Plan}
use Rattle.plan.specs.declared.release.Phase.{Phase}
use Rattle.plan.specs.Phases.{standing}
use Rattle.release_text.specs.Concerned.{AreAmong, AreDistinct, AreOnceEach, concerned, is_among, leg_stations, stations_from, with_station, with_stations}
use Rattle.std.proofs.lemmas.Bool.{or_parts}
use Rattle.desk_io.proofs.Each.{each_append}

-- of two lists first all of the one, and then all of the other
pub with_more : (found more last : List Station) → with_stations found (more ++ last) ≡ with_stations (with_stations found more) last
with_more found [] last = refl
with_more found (station ∷ more) last = with_more (with_station found station) more last

-- the stations of a leg, and of the legs after it
pub next_leg : (phase : Phase) (n : ℕ) (legs : List Leg) (i : ℕ) (leg : Leg) (found next : List Station)
    → i < length legs → leg ≡ get_or legs i leg → next ≡ with_stations found (leg_stations (standing phase n) leg)
    → with_stations next (stations_from phase (n + 1) (drop (i + 1) legs)) ≡ with_stations found (stations_from phase n (drop i legs))
next_leg phase n legs i leg found next within is h =
    ap (λ f. with_stations f (stations_from phase (n + 1) (drop (i + 1) legs))) h
    ∙ sym (with_more found (leg_stations (standing phase n) leg) (stations_from phase (n + 1) (drop (i + 1) legs)))
    ∙ ap (λ ls. with_stations found (stations_from phase n ls)) (sym (drop_more legs i leg within ∙ ap (λ l. l ∷ drop (i + 1) legs) (sym is)))

among_here : (s : Station) (stations : List Station) → IsTrue (is_among (s ∷ stations) s)
among_here s stations = here (bytes_eq s s) (is_among stations s) ((bytes_eq-Decides s s).1 refl)
  where
    here : (b c : Bool) → b ≡ true → IsTrue (b || c)
    here true c h = cc
    here false c h = absurd cc

among_after : (s t : Station) (stations : List Station) → IsTrue (is_among stations t) → IsTrue (is_among (s ∷ stations) t)
among_after s t stations h = after (bytes_eq s t) (is_among stations t) h
  where
    after : (b c : Bool) → IsTrue c → IsTrue (b || c)
    after true c h = cc
    after false c h = h

more_among : (s : Station) (stations some : List Station) → AreAmong stations some → AreAmong (s ∷ stations) some
more_among s stations [] h = tt
more_among s stations (t ∷ some) h = (among_after s t stations h.0, more_among s stations some h.1)

pub all_among : (stations : List Station) → AreAmong stations stations
all_among [] = tt
all_among (s ∷ stations) = (among_here s stations, more_among s stations stations (all_among stations))

-- one more at the end, that isn't among them
last_once : (found : List Station) (s : Station) → is_among found s ≡ false → AreDistinct found → AreDistinct (found ++ s ∷ [])
last_once [] s new h = (tt, tt)
last_once (f ∷ found) s new h =
    let apart = or_parts (bytes_eq f s) (is_among found s) new in
    (each_append (λ t. bytes_eq f t ≡ false) found (s ∷ []) h.0 (apart.0, tt), last_once found s apart.1 h.1)

one_once : (found : List Station) (s : Station) (among : Bool) → is_among found s ≡ among → AreDistinct found → AreDistinct (cond among found (found ++ s ∷ []))
one_once found s true is h = h
one_once found s false is h = last_once found s is h

each_once : (found more : List Station) → AreDistinct found → AreDistinct (with_stations found more)
each_once found [] h = h
each_once found (s ∷ more) h = each_once (with_station found s) more (one_once found s (is_among found s) refl h)

-- a station at the end, and one that stood before it
among_last : (found : List Station) (s : Station) → IsTrue (is_among (found ++ s ∷ []) s)
among_last [] s = among_here s []
among_last (f ∷ found) s = among_after f s (found ++ s ∷ []) (among_last found s)

among_before : (found : List Station) (t s : Station) → IsTrue (is_among found s) → IsTrue (is_among (found ++ t ∷ []) s)
among_before [] t s h = absurd cc
among_before (f ∷ found) t s h = before (bytes_eq f s) (is_among found s) (is_among (found ++ t ∷ []) s) (among_before found t s) h
  where
    before : (a b c : Bool) → (IsTrue b → IsTrue c) → IsTrue (a || b) → IsTrue (a || c)
    before true b c f h = cc
    before false b c f h = f h

kept_one : (found : List Station) (t s : Station) (among : Bool) → IsTrue (is_among found s) → IsTrue (is_among (cond among found (found ++ t ∷ [])) s)
kept_one found t s true h = h
kept_one found t s false h = among_before found t s h

kept : (found more : List Station) (s : Station) → IsTrue (is_among found s) → IsTrue (is_among (with_stations found more) s)
kept found [] s h = h
kept found (t ∷ more) s h = kept (with_station found t) more s (kept_one found t s (is_among found t) h)

added : (found : List Station) (s : Station) (among : Bool) → is_among found s ≡ among → IsTrue (is_among (cond among found (found ++ s ∷ [])) s)
added found s true is = cc
added found s false is = among_last found s

all_added : (found more : List Station) → AreAmong (with_stations found more) more
all_added found [] = tt
all_added found (s ∷ more) = (kept (with_station found s) more s (added found s (is_among found s) refl), all_added (with_station found s) more)

only_one : (every found : List Station) (s : Station) (among : Bool) → AreAmong every found → IsTrue (is_among every s) → AreAmong every (cond among found (found ++ s ∷ []))
only_one every found s true h one = h
only_one every found s false h one = each_append (λ t. IsTrue (is_among every t)) found (s ∷ []) h (one, tt)

only_added : (every found more : List Station) → AreAmong every found → AreAmong every more → AreAmong every (with_stations found more)
only_added every found [] h k = h
only_added every found (s ∷ more) h k = only_added every (with_station found s) more (only_one every found s (is_among found s) h k.0) k.1

-- stations that are added in turn are exactly these, each once
pub once_each : (every stations : List Station) → stations ≡ with_stations [] every → AreOnceEach every stations
once_each every stations is = record {
  distinct = subst AreDistinct (sym is) (each_once [] every tt);
  all = subst (λ ss. AreAmong ss every) (sym is) (all_added [] every);
  only = subst (λ ss. AreAmong every ss) (sym is) (only_added every [] every tt (all_among every));
}

pub concerned_once : (plan : Plan) (phase : Phase) (stations : List Station) → stations ≡ concerned plan phase → AreOnceEach (stations_from phase 1 plan.legs) stations
unfolding concerned
concerned_once plan phase stations is = once_each (stations_from phase 1 plan.legs) stations is
