-- The airports of legs are those whose weather is attached.
use Rattle.std.proofs.Common.{◌≡◌, ◌≢◌, ℕ, ◌+◌, Bool, true, false, ◌||◌, List, [], ◌∷◌, ◌++◌, length, map, IsTrue, Option, None, Some, refl, ap, subst, sym, ◌∙◌, arith, append_assoc}
use Rattle.std.specs.List.{AllByRecursion}
use Rattle.std.specs.Str.{bytes_eq}
use Rattle.std.proofs.lemmas.Slice.Eq.{bytes_eq-Decides}
use Rattle.desk_io.specs.Station.{Station}
use Rattle.plan.specs.declared.flights.Plan.{Plan}
use Rattle.plan.specs.declared.flights.Leg.{Leg}
use Rattle.plan.specs.declared.flights.Alternate.{Alternate}
use Rattle.plan.specs.declared.flights.TakeoffAlternate.{TakeoffAlternate}
use Rattle.plan.specs.declared.release.Phase.{Phase}
use Rattle.plan.specs.declared.release.Standing.{Standing}
use Rattle.plan.specs.declared.release.Standing.TheVariants.{Ahead, InFlight, Flown}
use Rattle.plan.specs.Phases.{standing}
use Rattle.release_text.specs.Concerned.{AreAmong, alternate_stations, arrival_stations, concerned, departure_stations, is_among, leg_stations, stations_from, takeoff_station}
use Rattle.release_text.specs.Laws.{IsAirportOf, IsConcerned, StandsIn}
use Rattle.release_text.specs.Laws.IsAirportOf.{alternate, departure, destination, takeoff}
use Rattle.desk_io.proofs.Each.{each_append}
use Rattle.release_text.proofs.StationLaws.{concerned_once}

-- ---- what stands in a list

abbrev pub stands_first : {X : Type 0} (x : X) (xs : List X) → StandsIn (x ∷ xs) x
stands_first x xs = record { before = []; after = xs; whole = refl }

abbrev pub stands_after : {X : Type 0} (y x : X) (xs : List X) → StandsIn xs x → StandsIn (y ∷ xs) x
stands_after y x xs s = record { before = y ∷ s.before; after = s.after; whole = ap (λ l. y ∷ l) s.whole }

pub stands_before : {X : Type 0} (x : X) (xs ys : List X) → StandsIn xs x → StandsIn (xs ++ ys) x
stands_before x xs ys s = record { before = s.before; after = s.after ++ ys; whole = ap (λ l. l ++ ys) s.whole ∙ append_assoc s.before (x ∷ s.after) ys }

pub stands_behind : {X : Type 0} (x : X) (xs ys : List X) → StandsIn ys x → StandsIn (xs ++ ys) x
stands_behind x xs ys s = record { before = xs ++ s.before; after = s.after; whole = ap (λ l. xs ++ l) s.whole ∙ sym (append_assoc xs s.before (x ∷ s.after)) }

each_before : {X : Type 0} (P : X → Type 0) (before : List X) (x : X) (after : List X) → AllByRecursion P (before ++ x ∷ after) → P x
each_before P [] x after h = h.0
each_before P (b ∷ before) x after h = each_before P before x after h.1

-- what holds of each holds of one of them
pub holds_of : {X : Type 0} (P : X → Type 0) (xs : List X) (x : X) → AllByRecursion P xs → StandsIn xs x → P x
holds_of P xs x h s = each_before P s.before x s.after (subst (λ l. AllByRecursion P l) s.whole h)

mapped_before : {X Y : Type 0} (f : X → Y) (before : List X) (x : X) (after : List X) → StandsIn (map f (before ++ x ∷ after)) (f x)
mapped_before f [] x after = stands_first (f x) (map f after)
mapped_before f (b ∷ before) x after = stands_after (f b) (f x) _ (mapped_before f before x after)

pub stands_mapped : {X Y : Type 0} (f : X → Y) (xs : List X) (x : X) → StandsIn xs x → StandsIn (map f xs) (f x)
stands_mapped f xs x s = subst (λ l. StandsIn (map f l) (f x)) (sym s.whole) (mapped_before f s.before x s.after)

among_step : (t : Station) (stations : List Station) (s : Station) (same : Bool) → bytes_eq t s ≡ same → (IsTrue (is_among stations s) → StandsIn stations s)
    → IsTrue (same || is_among stations s) → StandsIn (t ∷ stations) s
among_step t stations s true e later h = subst (λ x. StandsIn (t ∷ stations) x) ((bytes_eq-Decides t s).0 e) (stands_first t stations)
among_step t stations s false e later h = stands_after t s stations (later h)

among_stands : (stations : List Station) (s : Station) → IsTrue (is_among stations s) → StandsIn stations s
among_stands [] s h = absurd cc
among_stands (t ∷ stations) s h = among_step t stations s (bytes_eq t s) refl (among_stands stations s) h

-- ---- the airports of a leg

ahead : Ahead ≢ Flown
ahead e = absurd cc

in_flight : InFlight ≢ Flown
in_flight e = absurd cc

arrival_stands : (s : Standing) (leg : Leg) (station : Station) → s ≢ Flown → StandsIn (arrival_stations leg) station → StandsIn (leg_stations s leg) station
arrival_stands Ahead leg station going one = stands_behind station (departure_stations leg) (arrival_stations leg) one
arrival_stands InFlight leg station going one = one
arrival_stands Flown leg station going one = absurd (going refl)

takeoff_stands : (leg : Leg) (t : TakeoffAlternate) → leg.takeoff_alternate ≡ Some t → StandsIn (departure_stations leg) t.station
takeoff_stands leg t is =
    stands_after leg.from t.station (takeoff_station leg.takeoff_alternate) (subst (λ o. StandsIn (takeoff_station o) t.station) (sym is) (stands_first t.station []))

airport_stands : {s : Standing} {leg : Leg} {station : Station} → IsAirportOf s leg station → StandsIn (leg_stations s leg) station
airport_stands (departure {leg = leg}) = stands_before leg.from (departure_stations leg) (arrival_stations leg) (stands_first leg.from _)
airport_stands (takeoff {leg = leg} {t = t} is) = stands_before t.station (departure_stations leg) (arrival_stations leg) (takeoff_stands leg t is)
airport_stands (destination {s = s} {leg = leg} going) = arrival_stands s leg leg.to going (stands_first leg.to _)
airport_stands (alternate {s = s} {leg = leg} {a = a} going one) =
    arrival_stands s leg a.station going (stands_after leg.to a.station (alternate_stations leg.alternates) (stands_mapped (λ b. b.station) leg.alternates a one))

all_takeoff : (leg : Leg) (o : Option TakeoffAlternate) → leg.takeoff_alternate ≡ o → AllByRecursion (IsAirportOf Ahead leg) (takeoff_station o)
all_takeoff leg None is = tt
all_takeoff leg (Some t) is = (takeoff is, tt)

all_alternates : (s : Standing) (leg : Leg) (before rest : List Alternate) → s ≢ Flown → leg.alternates ≡ before ++ rest → AllByRecursion (IsAirportOf s leg) (alternate_stations rest)
all_alternates s leg before [] going is = tt
all_alternates s leg before (a ∷ rest) going is = (
  alternate going (record { before = before; after = rest; whole = is }),
  all_alternates s leg (before ++ a ∷ []) rest going (is ∙ sym (append_assoc before (a ∷ []) rest)),
)

all_arrival : (s : Standing) (leg : Leg) → s ≢ Flown → AllByRecursion (IsAirportOf s leg) (arrival_stations leg)
all_arrival s leg going = (destination going, all_alternates s leg [] leg.alternates going refl)

all_airports : (s : Standing) (leg : Leg) → AllByRecursion (IsAirportOf s leg) (leg_stations s leg)
all_airports Ahead leg =
    each_append (IsAirportOf Ahead leg) (departure_stations leg) (arrival_stations leg) (departure, all_takeoff leg leg.takeoff_alternate refl) (all_arrival Ahead leg ahead)
all_airports InFlight leg = all_arrival InFlight leg in_flight
all_airports Flown leg = tt

-- ---- of all legs

-- an airport of one of the legs, of which the first has that number
record IsOfLegs (phase : Phase) (n : ℕ) (legs : List Leg) (station : Station) : Type 0 where
  pub leg : Leg
  pub one : StandsIn legs leg
  pub airport : IsAirportOf (standing phase (length one.before + n)) leg station

none_before : (n : ℕ) → length {A = Leg} [] + n ≡ n
none_before n = omega arith

stands_from : (phase : Phase) (n : ℕ) (before : List Leg) (leg : Leg) (after : List Leg) (station : Station)
    → StandsIn (leg_stations (standing phase (length before + n)) leg) station → StandsIn (stations_from phase n (before ++ leg ∷ after)) station
stands_from phase n [] leg after station h =
    stands_before station (leg_stations (standing phase n) leg) _ (subst (λ m. StandsIn (leg_stations (standing phase m) leg) station) (none_before n) h)
stands_from phase n (b ∷ before) leg after station h =
    let same : length (b ∷ before) + n ≡ length before + (n + 1) = omega arith in
    stands_behind station (leg_stations (standing phase n) b) _
    (stands_from phase (n + 1) before leg after station (subst (λ m. StandsIn (leg_stations (standing phase m) leg) station) same h))

later_leg : (phase : Phase) (n : ℕ) (leg : Leg) (legs : List Leg) (station : Station) → IsOfLegs phase (n + 1) legs station → IsOfLegs phase n (leg ∷ legs) station
later_leg phase n leg legs station h =
    let same : length h.one.before + (n + 1) ≡ length (leg ∷ h.one.before) + n = omega arith in
    record { leg = h.leg; one = stands_after leg h.leg legs h.one; airport = subst (λ m. IsAirportOf (standing phase m) h.leg station) same h.airport }

weakened : {X : Type 0} (P Q : X → Type 0) (xs : List X) → ((x : X) → P x → Q x) → AllByRecursion P xs → AllByRecursion Q xs
weakened P Q [] f h = tt
weakened P Q (x ∷ xs) f h = (f x h.0, weakened P Q xs f h.1)

all_of_legs : (phase : Phase) (n : ℕ) (legs : List Leg) → AllByRecursion (IsOfLegs phase n legs) (stations_from phase n legs)
all_of_legs phase n [] = tt
all_of_legs phase n (leg ∷ legs) =
    each_append (IsOfLegs phase n (leg ∷ legs)) (leg_stations (standing phase n) leg) (stations_from phase (n + 1) legs)
    (weakened (IsAirportOf (standing phase n) leg) _ _ (λ station is. record { leg = leg; one = stands_first leg legs; airport = subst (λ m. IsAirportOf (standing phase m) leg station) (sym (none_before n)) is }) (all_airports (standing phase n) leg))
    (weakened (IsOfLegs phase (n + 1) legs) _ _ (λ station is. later_leg phase n leg legs station is) (all_of_legs phase (n + 1) legs))

-- ---- of a release

-- an airport of one of the legs is one that the release concerns
pub concerned_stands : (plan : Plan) (phase : Phase) (station : Station) → IsConcerned plan phase station → StandsIn (concerned plan phase) station
concerned_stands plan phase station is =
    let every = subst (λ legs. StandsIn (stations_from phase 1 legs) station) (sym is.one.whole)
    (stands_from phase 1 is.one.before is.leg is.one.after station (airport_stands is.airport)) in
    among_stands (concerned plan phase) station
    (holds_of (λ s. IsTrue (is_among (concerned plan phase) s)) (stations_from phase 1 plan.legs) station (concerned_once plan phase (concerned plan phase) refl).all every)

all_among : (P : Station → Type 0) (every stations : List Station) → AllByRecursion P every → AreAmong every stations → AllByRecursion P stations
all_among P every [] h k = tt
all_among P every (s ∷ stations) h k = (holds_of P every s h (among_stands every s k.0), all_among P every stations h k.1)

-- each station that a release concerns is an airport of one of the legs
pub all_concerned : (plan : Plan) (phase : Phase) → AllByRecursion (IsConcerned plan phase) (concerned plan phase)
all_concerned plan phase =
    all_among (IsConcerned plan phase) (stations_from phase 1 plan.legs) (concerned plan phase)
    (weakened (IsOfLegs phase 1 plan.legs) _ _ (λ station is. record { leg = is.leg; one = is.one; airport = is.airport }) (all_of_legs phase 1 plan.legs))
    (concerned_once plan phase (concerned plan phase) refl).only
