-- What the tests of the rules tell of a leg, in the words of their sections.
use Rattle.std.proofs.Common.{◌≡◌, ℕ, ◌+◌, ◌*◌, ◌-◌, ◌/◌, ◌<◌, ◌≤◌, ◌==◌, Bool, true, false, not, ◌&&◌, ◌||◌, if◌then◌else◌, List, [], ◌∷◌, length, Option, None, Some, refl, ap, sym, subst, ◌∙◌, eq-eqb, arith}
use Rattle.std.specs.Prelude.{nat_le, nat_lt, is_none}
use Rattle.std.specs.List.{All, list_any}
use Rattle.std.proofs.lemmas.Bool.{eqb-true, leb-true, leb-false, ltb-true, ltb-false}
use Rattle.desk_io.specs.Station.{Station}
use Rattle.desk_io.specs.declared.pair.Pair.{Pair}
use Rattle.desk_io.specs.Pair.{raised}
use Rattle.codes.specs.Minima.{is_met, meets}
use Rattle.ops_tables.specs.declared.rows.MelRow.{MelRow}
use Rattle.ops_tables.specs.Tables.{miles_of, route_free, item_of, are_paired}
use Rattle.plan.specs.declared.flights.Kind.{Kind}
use Rattle.plan.specs.declared.flights.Kind.TheVariants.{Domestic, Flag}
use Rattle.plan.specs.declared.flights.Leg.{Leg}
use Rattle.plan.specs.declared.flights.Alternate.{Alternate}
use Rattle.plan.specs.declared.flights.TakeoffAlternate.{TakeoffAlternate}
use Rattle.plan.specs.declared.release.Phase.{Phase}
use Rattle.plan.specs.declared.release.Phase.TheVariants.{Drafted, Ready, Flying, Stopped, Completed, Cancelled}
use Rattle.plan.specs.AlternateNeeds.{needs_takeoff, range, in_range, misses, is_long, needs_destination, is_marginal}
use Rattle.airport_minima.specs.Floor.{flag_floor}
use Rattle.airport_minima.specs.Raised as landing
use Rattle.deferrals.specs.Due.{days_allowed}
use Rattle.deferrals.specs.declared.items.Deferral.{Deferral}
use Rattle.deferrals.proofs.DueLaws.{allowed_are_left, left_are_allowed}
use Rattle.rules.specs.Circumstances.{Case, weather_at, landing_at, alternate_at, is_below_alternate, has_few_hours}
use Rattle.rules.specs.Weather.{is_below_landing}
use Rattle.rules.specs.TakeoffAlternates.{needs_takeoff_alternate, lacks_takeoff_alternate, is_far, has_far_takeoff_alternate, is_below_there, has_low_takeoff_alternate}
use Rattle.rules.specs.DestinationAlternates.{is_domestic, is_flag, lists_none, arrival_weather, needs_alternate, lacks_domestic_alternate, margin, is_marginal_landing, is_marginal_at, are_marginal, lacks_second_alternate, is_free, lacks_flag_alternate}
use Rattle.rules.specs.Equipment.{is_paired_with, is_paired, is_too_long, forbids, is_limiting, is_due_by, is_overdue}
use Rattle.plan.specs.Phases.{is_flying}
use Rattle.rules.specs.Time.{only_if, unless_again, stop_limit, departs_next, is_past}
use Rattle.rules.specs.Regulation.{IsAtOrAbove, AllowsLanding, AllowsRaisedLanding, AllowsArrival, AllowsAlternate, StaysAtOrAbove, StopsAtMost, DepartsNext, first_of_draft, first, after_stop, fair, IsShortAndFair, IsFair, NeedsAlternate, IsNear, NeedsTakeoffAlternate, with_margin, IsBeyondMargin, IsBeyondMarginAtOne, IsAllowed, ArrivesBeforeRepair}
use Rattle.rules.proofs.Tells.{Tells, tells_by, tells_same, tells_not, tells_again, tells_and, tells_neither, tells_not_both, tells_unless, tells_unless_both, tells_le, tells_lt, tells_not_less, tells_not_within, tells_true, tells_false, tells_none, tells_any, tells_each}
use Rattle.rules.proofs.WeatherTells.{above_tells, meets_tells, stays_tells}

-- domestic or flag
pub domestic_tells : (kind : Kind) → Tells (is_domestic kind) (kind ≡ Domestic)
domestic_tells Domestic = refl
domestic_tells Flag = λ e. absurd (cc)

pub flag_tells : (kind : Kind) → Tells (is_flag kind) (kind ≡ Flag)
flag_tells Domestic = λ e. absurd (cc)
flag_tells Flag = refl

pub lists_none_tells : (listed : List Alternate) → Tells (lists_none listed) (listed ≡ [])
lists_none_tells [] = refl
lists_none_tells (a ∷ rest) = λ e. absurd (cc)

lists_some_tells : (listed : List Alternate) → Tells (not (lists_none listed)) (0 < length listed)
lists_some_tells [] = λ some. omega (arith, some)
lists_some_tells (a ∷ rest) = omega arith

-- stops (14 CFR 121.593, 121.595)
abbrev next_of : Phase → ℕ
next_of (Stopped next since again) = next
next_of _ = 0

abbrev since_of : Phase → ℕ
since_of (Stopped next since again) = since
since_of _ = 0

abbrev again_of : Phase → Bool
again_of (Stopped next since again) = again
again_of _ = true

abbrev is_stop : Phase → Bool
is_stop (Stopped next since again) = true
is_stop _ = false

stopped_tells : (minutes next since number moment : ℕ) (same again : Bool) → (number == next) ≡ same
    → Tells (not (is_past (only_if same (unless_again again (since + minutes))) moment)) (StopsAtMost minutes (Stopped next since again) number moment)
stopped_tells minutes next since number moment false again e =
    λ from is. absurd (let f = eq-eqb number next (sym (ap next_of is)) in let g : false ≡ true = sym e ∙ f in cc)
stopped_tells minutes next since number moment true true e = λ from is. absurd (let g : true ≡ false = ap again_of is in cc)
stopped_tells minutes next since number moment true false e =
    tells_same (not (nat_lt (since + minutes) moment)) (moment ≤ since + minutes) (StopsAtMost minutes (Stopped next since false) number moment)
    (λ h from is. subst (λ n. moment ≤ n + minutes) (ap since_of is) h)
    (λ f. f since (ap (λ n. Stopped n since false) (sym (eqb-true number next e))))
    (tells_not_less (since + minutes) moment)

never_stopped : (minutes number moment : ℕ) (phase : Phase) → is_stop phase ≡ false → StopsAtMost minutes phase number moment
never_stopped minutes number moment phase e since is = absurd (let g : false ≡ true = sym e ∙ ap is_stop is in cc)

stop_tells : (minutes : ℕ) (phase : Phase) (number moment : ℕ) → Tells (not (is_past (stop_limit minutes phase number) moment)) (StopsAtMost minutes phase number moment)
stop_tells minutes Drafted number moment = never_stopped minutes number moment Drafted refl
stop_tells minutes Ready number moment = never_stopped minutes number moment Ready refl
stop_tells minutes (Flying leg) number moment = never_stopped minutes number moment (Flying leg) refl
stop_tells minutes (Stopped next since again) number moment = stopped_tells minutes next since number moment (number == next) again refl
stop_tells minutes (Completed at) number moment = never_stopped minutes number moment (Completed at) refl
stop_tells minutes (Cancelled at) number moment = never_stopped minutes number moment (Cancelled at) refl

only_tells : (b : Bool) (P Q : Type 0) (limit : Option ℕ) (moment : ℕ) → Tells b P → Tells (not (is_past limit moment)) Q → Tells (not (is_past (only_if b limit) moment)) (P → Q)
only_tells true P Q limit moment p q = tells_same (not (is_past limit moment)) Q (P → Q) (λ y x. y) (λ f. f p) q
only_tells false P Q limit moment p q = λ x. absurd (p x)

pub domestic_stop_tells : (kind : Kind) (phase : Phase) (number moment : ℕ)
    → Tells (not (is_past (only_if (is_domestic kind) (stop_limit 60 phase number)) moment)) (kind ≡ Domestic → StopsAtMost 60 phase number moment)
domestic_stop_tells kind phase number moment =
    only_tells (is_domestic kind) (kind ≡ Domestic) (StopsAtMost 60 phase number moment) (stop_limit 60 phase number) moment (domestic_tells kind) (stop_tells 60 phase number moment)

pub flag_stop_tells : (kind : Kind) (phase : Phase) (number moment : ℕ)
    → Tells (not (is_past (only_if (is_flag kind) (stop_limit 360 phase number)) moment)) (kind ≡ Flag → StopsAtMost (6 * 60) phase number moment)
flag_stop_tells kind phase number moment =
    only_tells (is_flag kind) (kind ≡ Flag) (StopsAtMost 360 phase number moment) (stop_limit 360 phase number) moment (flag_tells kind) (stop_tells 360 phase number moment)

abbrev number_of : Option ℕ → ℕ
number_of None = 0
number_of (Some n) = n

-- departures and arrivals
departs_there : (phase : Phase) (number : ℕ) → departs_next phase number ≡ true → DepartsNext phase number
departs_there Drafted number e = subst (DepartsNext Drafted) (sym (eqb-true number 1 e)) first_of_draft
departs_there Ready number e = subst (DepartsNext Ready) (sym (eqb-true number 1 e)) first
departs_there (Flying leg) number e = absurd (cc)
departs_there (Stopped next since again) number e = subst (DepartsNext (Stopped next since again)) (sym (eqb-true number next e)) after_stop
departs_there (Completed at) number e = absurd (cc)
departs_there (Cancelled at) number e = absurd (cc)

there_departs : {phase : Phase} {number : ℕ} → DepartsNext phase number → departs_next phase number ≡ true
there_departs first_of_draft = refl
there_departs first = refl
there_departs (after_stop {next = next}) = eq-eqb next next refl

pub departure_tells : (phase : Phase) (number limit moment : ℕ) → Tells (not (is_past (only_if (departs_next phase number) (Some limit)) moment)) (DepartsNext phase number → moment ≤ limit)
departure_tells phase number limit moment =
    only_tells (departs_next phase number) (DepartsNext phase number) (moment ≤ limit) (Some limit) moment
    (tells_by (departs_next phase number) (DepartsNext phase number) (departs_there phase number) there_departs) (tells_not_less limit moment)

abbrev flown_leg : Phase → Option ℕ
flown_leg (Flying leg) = Some leg
flown_leg _ = None

flying_tells : (phase : Phase) (number : ℕ) → Tells (is_flying phase number) (phase ≡ Flying number)
flying_tells Drafted number = λ e. absurd (cc)
flying_tells Ready number = λ e. absurd (cc)
flying_tells (Flying leg) number =
    tells_by (number == leg) (Flying leg ≡ Flying number) (λ e. ap Flying (sym (eqb-true number leg e)))
    (λ e. eq-eqb number leg (sym (ap number_of (ap flown_leg e))))
flying_tells (Stopped next since again) number = λ e. absurd (cc)
flying_tells (Completed at) number = λ e. absurd (cc)
flying_tells (Cancelled at) number = λ e. absurd (cc)

pub arrival_tells : (phase : Phase) (number limit moment : ℕ) → Tells (not (is_past (only_if (is_flying phase number) (Some limit)) moment)) (phase ≡ Flying number → moment ≤ limit)
arrival_tells phase number limit moment =
    only_tells (is_flying phase number) (phase ≡ Flying number) (moment ≤ limit) (Some limit) moment (flying_tells phase number) (tells_not_less limit moment)

-- weather at the destination (14 CFR 121.613, 121.652)
landing_by : (c : Case) (leg : Leg) (few : Bool) → nat_lt c.hours 100 ≡ few
    → Tells (not (not (meets (weather_at c.grounds leg.to leg.eta) (if few then landing.raised (landing_at c leg.to) (alternate_at c leg.to) else landing_at c leg.to)))) (AllowsArrival c leg.to leg.eta)
landing_by c leg true e =
    let fewer = ltb-true c.hours 100 e in
    let minima = landing.raised (landing_at c leg.to) (alternate_at c leg.to) in
    tells_same (not (not (meets (weather_at c.grounds leg.to leg.eta) minima))) (AllowsRaisedLanding c leg.to leg.eta) (AllowsArrival c leg.to leg.eta)
    (λ allowed. record { by_minima = λ many. absurd (omega (arith, fewer, many)); by_raised = λ few. allowed }) (λ allowed. allowed.by_raised fewer)
    (tells_again (meets (weather_at c.grounds leg.to leg.eta) minima) (AllowsRaisedLanding c leg.to leg.eta) (meets_tells c.grounds leg.to leg.eta minima))
landing_by c leg false e =
    let many = ltb-false c.hours 100 e in
    let minima = landing_at c leg.to in
    tells_same (not (not (meets (weather_at c.grounds leg.to leg.eta) minima))) (AllowsLanding c leg.to leg.eta) (AllowsArrival c leg.to leg.eta)
    (λ allowed. record { by_minima = λ enough. allowed; by_raised = λ fewer. absurd (omega (arith, many, fewer)) }) (λ allowed. allowed.by_minima many)
    (tells_again (meets (weather_at c.grounds leg.to leg.eta) minima) (AllowsLanding c leg.to leg.eta) (meets_tells c.grounds leg.to leg.eta minima))

pub landing_tells : (c : Case) (leg : Leg) → Tells (not (is_below_landing c leg)) (AllowsArrival c leg.to leg.eta)
landing_tells c leg = landing_by c leg (has_few_hours c) refl

pub alternate_tells : (c : Case) (station : Station) (minute : ℕ) → Tells (not (is_below_alternate c station minute)) (AllowsAlternate c station minute)
alternate_tells c station minute =
    tells_again (meets (weather_at c.grounds station minute) (alternate_at c station)) (AllowsAlternate c station minute) (meets_tells c.grounds station minute (alternate_at c station))

-- takeoff alternates (14 CFR 121.617)
takeoff_needed_tells : (c : Case) (leg : Leg) → Tells (needs_takeoff_alternate c leg) (NeedsTakeoffAlternate c leg)
unfolding needs_takeoff
takeoff_needed_tells c leg =
    tells_not (meets (weather_at c.grounds leg.from leg.etd) (landing_at c leg.from)) (AllowsLanding c leg.from leg.etd) (meets_tells c.grounds leg.from leg.etd (landing_at c leg.from))

pub takeoff_tells : (c : Case) (leg : Leg) → Tells (not (lacks_takeoff_alternate c leg)) (NeedsTakeoffAlternate c leg → leg.takeoff_alternate ≡ None → ⊥)
takeoff_tells c leg =
    tells_unless (needs_takeoff_alternate c leg) (is_none leg.takeoff_alternate) (NeedsTakeoffAlternate c leg) (leg.takeoff_alternate ≡ None → ⊥)
    (takeoff_needed_tells c leg) (tells_not (is_none leg.takeoff_alternate) (leg.takeoff_alternate ≡ None) (tells_none leg.takeoff_alternate))

abbrev pub station_of : TakeoffAlternate → Option TakeoffAlternate → TakeoffAlternate
station_of other None = other
station_of other (Some it) = it

range_tells : (engines knots miles : ℕ) (three : Bool) → nat_le 3 engines ≡ three
    → Tells (nat_le miles (if three then 2 * knots else knots)) ((engines ≤ 2 → miles ≤ knots) × (3 ≤ engines → miles ≤ 2 * knots))
range_tells engines knots miles true e =
    let more = leb-true 3 engines e in
    tells_same (nat_le miles (2 * knots)) (miles ≤ 2 * knots) ((engines ≤ 2 → miles ≤ knots) × (3 ≤ engines → miles ≤ 2 * knots))
    (λ h. (λ two. absurd (omega (arith, more, two)), λ three. h)) (λ both. both.1 more) (tells_le miles (2 * knots))
range_tells engines knots miles false e =
    let less = leb-false 3 engines e in
    tells_same (nat_le miles knots) (miles ≤ knots) ((engines ≤ 2 → miles ≤ knots) × (3 ≤ engines → miles ≤ 2 * knots))
    (λ h. (λ two. h, λ three. absurd (omega (arith, less, three)))) (λ both. both.0 (omega (arith, less))) (tells_le miles knots)

near_by : (c : Case) (leg : Leg) (station : Station) (miles : Option ℕ) → miles_of c.grounds.tables leg.from station ≡ miles
    → Tells (in_range c.aircraft.engines c.aircraft.oei_knots miles) (IsNear c leg station)
unfolding in_range
near_by c leg station None e = λ near. absurd (let f : None ≡ Some near.miles = sym e ∙ near.are_known in cc)
near_by c leg station (Some miles) e =
    tells_same (nat_le miles (range c.aircraft.engines c.aircraft.oei_knots)) ((c.aircraft.engines ≤ 2 → miles ≤ c.aircraft.oei_knots) × (3 ≤ c.aircraft.engines → miles ≤ 2 * c.aircraft.oei_knots)) (IsNear c leg station)
    (λ h. record { miles = miles; are_known = e; two_engines = h.0; more_engines = h.1 })
    (λ near. let same : near.miles ≡ miles = ap number_of (sym near.are_known ∙ e) in
    (λ two. subst (λ m. m ≤ c.aircraft.oei_knots) same (near.two_engines two), λ three. subst (λ m. m ≤ 2 * c.aircraft.oei_knots) same (near.more_engines three)))
    (range_tells c.aircraft.engines c.aircraft.oei_knots miles (nat_le 3 c.aircraft.engines) refl)

near_tells : (c : Case) (leg : Leg) (station : Station) → Tells (not (not (in_range c.aircraft.engines c.aircraft.oei_knots (miles_of c.grounds.tables leg.from station)))) (IsNear c leg station)
near_tells c leg station =
    tells_again (in_range c.aircraft.engines c.aircraft.oei_knots (miles_of c.grounds.tables leg.from station)) (IsNear c leg station)
    (near_by c leg station (miles_of c.grounds.tables leg.from station) refl)

far_tells : (c : Case) (leg : Leg) (o : Option TakeoffAlternate) → Tells (not (is_far c leg o)) ((it : TakeoffAlternate) → o ≡ Some it → IsNear c leg it.station)
far_tells c leg None = λ it e. absurd (cc)
far_tells c leg (Some it) =
    tells_same (not (is_far c leg (Some it))) (IsNear c leg it.station) ((other : TakeoffAlternate) → Some it ≡ Some other → IsNear c leg other.station)
    (λ p other e. subst (λ a. IsNear c leg a.station) (ap (station_of it) e) p) (λ f. f it refl) (near_tells c leg it.station)

pub takeoff_range_tells : (c : Case) (leg : Leg) → Tells (not (has_far_takeoff_alternate c leg)) (NeedsTakeoffAlternate c leg → (it : TakeoffAlternate) → leg.takeoff_alternate ≡ Some it → IsNear c leg it.station)
takeoff_range_tells c leg =
    tells_unless (needs_takeoff_alternate c leg) (is_far c leg leg.takeoff_alternate) (NeedsTakeoffAlternate c leg) ((it : TakeoffAlternate) → leg.takeoff_alternate ≡ Some it → IsNear c leg it.station)
    (takeoff_needed_tells c leg) (far_tells c leg leg.takeoff_alternate)

there_tells : (c : Case) (leg : Leg) (o : Option TakeoffAlternate) → Tells (not (is_below_there c leg o)) ((it : TakeoffAlternate) → o ≡ Some it → AllowsAlternate c it.station (leg.etd + it.minutes))
there_tells c leg None = λ it e. absurd (cc)
there_tells c leg (Some it) =
    tells_same (not (is_below_there c leg (Some it))) (AllowsAlternate c it.station (leg.etd + it.minutes)) ((other : TakeoffAlternate) → Some it ≡ Some other → AllowsAlternate c other.station (leg.etd + other.minutes))
    (λ p other e. subst (λ a. AllowsAlternate c a.station (leg.etd + a.minutes)) (ap (station_of it) e) p) (λ f. f it refl) (alternate_tells c it.station (leg.etd + it.minutes))

pub takeoff_weather_tells : (c : Case) (leg : Leg)
    → Tells (not (has_low_takeoff_alternate c leg)) (NeedsTakeoffAlternate c leg → (it : TakeoffAlternate) → leg.takeoff_alternate ≡ Some it → AllowsAlternate c it.station (leg.etd + it.minutes))
takeoff_weather_tells c leg =
    tells_unless (needs_takeoff_alternate c leg) (is_below_there c leg leg.takeoff_alternate) (NeedsTakeoffAlternate c leg)
    ((it : TakeoffAlternate) → leg.takeoff_alternate ≡ Some it → AllowsAlternate c it.station (leg.etd + it.minutes))
    (takeoff_needed_tells c leg) (there_tells c leg leg.takeoff_alternate)

-- when the destination needs an alternate (14 CFR 121.619, 121.621)
abbrev pair_of : Pair → Option Pair → Pair
pair_of other None = other
pair_of other (Some pair) = pair

short_and_fair : (c : Case) (leg : Leg) (floor : Option Pair) → flag_floor c.grounds.tables c.aircraft leg.to c.limits.lost ≡ floor
    → Tells (not (is_long leg || misses (arrival_weather c leg) floor)) (IsShortAndFair c leg)
short_and_fair c leg None e =
    tells_same (not (is_long leg || true)) ((leg.eta - leg.etd ≤ 360) × ⊥) (IsShortAndFair c leg)
    (λ both. absurd both.1) (λ is. absurd (let f : None ≡ Some is.floor = sym e ∙ is.is_floor in cc))
    (tells_neither (is_long leg) true (leg.eta - leg.etd ≤ 360) ⊥ (tells_not_less 360 (leg.eta - leg.etd)) (λ never. never))
short_and_fair c leg (Some floor) e =
    tells_same (not (is_long leg || misses (arrival_weather c leg) (Some floor))) ((leg.eta - leg.etd ≤ 360) × StaysAtOrAbove c.grounds leg floor) (IsShortAndFair c leg)
    (λ both. record { six_hours = let h = both.0 in omega (arith, h); floor = floor; is_floor = e; stays = both.1 })
    (λ is. (let h = is.six_hours in omega (arith, h), subst (StaysAtOrAbove c.grounds leg) (ap (pair_of floor) (sym is.is_floor ∙ e)) is.stays))
    (tells_neither (is_long leg) (misses (arrival_weather c leg) (Some floor)) (leg.eta - leg.etd ≤ 360) (StaysAtOrAbove c.grounds leg floor)
    (tells_not_less 360 (leg.eta - leg.etd))
    (tells_again (is_met (arrival_weather c leg) floor) (StaysAtOrAbove c.grounds leg floor) (stays_tells c.grounds leg floor)))

fair_by : (kind : Kind) (c : Case) (leg : Leg)
    → Tells (not (needs_destination leg kind (arrival_weather c leg) (flag_floor c.grounds.tables c.aircraft leg.to c.limits.lost))) (IsFair kind c leg)
unfolding needs_destination
fair_by Domestic c leg = tells_again (is_met (arrival_weather c leg) fair) (StaysAtOrAbove c.grounds leg fair) (stays_tells c.grounds leg fair)
fair_by Flag c leg = short_and_fair c leg (flag_floor c.grounds.tables c.aircraft leg.to c.limits.lost) refl

negated : (b : Bool) (P : Type 0) → Tells (not b) P → Tells b (P → ⊥)
negated true P tells = tells
negated false P tells = λ f. f tells

pub needed_tells : (c : Case) (leg : Leg) → Tells (needs_alternate c leg) (NeedsAlternate c leg)
needed_tells c leg = negated (needs_alternate c leg) (IsFair c.flight c leg) (fair_by c.flight c leg)

pub domestic_alternate_tells : (c : Case) (leg : Leg) → Tells (not (lacks_domestic_alternate c leg)) (c.flight ≡ Domestic → NeedsAlternate c leg → 0 < length leg.alternates)
domestic_alternate_tells c leg =
    tells_unless_both (is_domestic c.flight) (needs_alternate c leg) (lists_none leg.alternates) (c.flight ≡ Domestic) (NeedsAlternate c leg) (0 < length leg.alternates)
    (domestic_tells c.flight) (needed_tells c leg) (lists_some_tells leg.alternates)

pub flag_alternate_tells : (c : Case) (leg : Leg)
    → Tells (not (lacks_flag_alternate c leg)) (c.flight ≡ Flag → NeedsAlternate c leg → leg.alternates ≡ [] → route_free c.grounds.tables leg.from leg.to ≡ true)
flag_alternate_tells c leg =
    let free : Bool = is_free c leg in
    tells_same (not (lacks_flag_alternate c leg)) ((c.flight ≡ Flag) × NeedsAlternate c leg → leg.alternates ≡ [] → free ≡ true)
    (c.flight ≡ Flag → NeedsAlternate c leg → leg.alternates ≡ [] → free ≡ true)
    (λ f a b. f (a, b)) (λ f both. f both.0 both.1)
    (tells_unless_both (is_flag c.flight && needs_alternate c leg) (lists_none leg.alternates) (not free) ((c.flight ≡ Flag) × NeedsAlternate c leg) (leg.alternates ≡ []) (free ≡ true)
    (tells_and (is_flag c.flight) (needs_alternate c leg) (c.flight ≡ Flag) (NeedsAlternate c leg) (flag_tells c.flight) (needed_tells c leg))
    (lists_none_tells leg.alternates) (tells_again free (free ≡ true) (tells_true free)))

-- marginal weather (14 CFR 121.619)
margin_tells : (c : Case) (station : Station) (minute : ℕ) (minima : List Pair)
    → Tells (not (is_marginal (weather_at c.grounds station minute) minima (margin c.grounds.tables.settings))) (IsBeyondMargin c station minute minima)
unfolding is_marginal
margin_tells c station minute minima =
    let settings = c.grounds.tables.settings in
    tells_again (list_any (λ pair. is_met (weather_at c.grounds station minute) (raised (margin settings) pair)) minima) (IsBeyondMargin c station minute minima)
    (tells_any (λ pair. is_met (weather_at c.grounds station minute) (raised (margin settings) pair)) (λ pair. IsAtOrAbove c.grounds station minute (with_margin settings pair))
    (λ pair. above_tells c.grounds station minute (with_margin settings pair)) minima)

abbrev first_of : Alternate → List Alternate → Alternate
first_of other [] = other
first_of other (it ∷ rest) = it

one_tells : (c : Case) (leg : Leg) (listed : List Alternate) → Tells (not (are_marginal c leg listed)) ((it : Alternate) → listed ≡ it ∷ [] → IsBeyondMarginAtOne c leg it)
one_tells c leg [] = λ it e. absurd (cc)
one_tells c leg (it ∷ []) =
    tells_same (not (is_marginal_landing c leg && is_marginal_at c leg it)) (IsBeyondMarginAtOne c leg it) ((other : Alternate) → (it ∷ []) ≡ (other ∷ []) → IsBeyondMarginAtOne c leg other)
    (λ p other e. subst (IsBeyondMarginAtOne c leg) (ap (first_of it) e) p) (λ f. f it refl)
    (tells_not_both (is_marginal_landing c leg) (is_marginal_at c leg it)
    (IsBeyondMargin c leg.to leg.eta (landing_at c leg.to)) (IsBeyondMargin c it.station (leg.eta + it.minutes) (alternate_at c it.station))
    (margin_tells c leg.to leg.eta (landing_at c leg.to)) (margin_tells c it.station (leg.eta + it.minutes) (alternate_at c it.station)))
one_tells c leg (it ∷ other ∷ rest) = λ a e. absurd (let n = ap length e in omega (arith, n))

pub second_alternate_tells : (c : Case) (leg : Leg)
    → Tells (not (lacks_second_alternate c leg)) (c.flight ≡ Domestic → NeedsAlternate c leg → (it : Alternate) → leg.alternates ≡ it ∷ [] → IsBeyondMarginAtOne c leg it)
second_alternate_tells c leg =
    tells_unless_both (is_domestic c.flight) (needs_alternate c leg) (are_marginal c leg leg.alternates) (c.flight ≡ Domestic) (NeedsAlternate c leg)
    ((it : Alternate) → leg.alternates ≡ it ∷ [] → IsBeyondMarginAtOne c leg it)
    (domestic_tells c.flight) (needed_tells c leg) (one_tells c leg leg.alternates)

-- deferred equipment (14 CFR 121.628)
abbrev row_of : MelRow → Option MelRow → MelRow
row_of other None = other
row_of other (Some row) = row

alone_tells : (c : Case) (d : Deferral) → Tells (not (is_paired c d)) (All (λ e. e.id < d.id → are_paired c.grounds.tables c.aircraft.kind e.item d.item ≡ false) c.deferred)
alone_tells c d =
    tells_each (is_paired_with c d) (λ e. e.id < d.id → are_paired c.grounds.tables c.aircraft.kind e.item d.item ≡ false)
    (λ e. tells_unless (nat_lt e.id d.id) (are_paired c.grounds.tables c.aircraft.kind e.item d.item) (e.id < d.id) (are_paired c.grounds.tables c.aircraft.kind e.item d.item ≡ false)
    (tells_lt e.id d.id) (tells_false (are_paired c.grounds.tables c.aircraft.kind e.item d.item))) c.deferred

-- what is asked of the row of an item
record Suits (c : Case) (leg : Leg) (d : Deferral) (row : MelRow) : Type 0 where
  pub flag : c.flight ≡ Flag → row.flag_ok ≡ true
  pub length : 0 < row.max_minutes → leg.minutes ≤ row.max_minutes
  pub alone : All (λ e. e.id < d.id → are_paired c.grounds.tables c.aircraft.kind e.item d.item ≡ false) c.deferred

suits_tells : (c : Case) (leg : Leg) (d : Deferral) (row : MelRow) → Tells (not (forbids c leg d (Some row))) (Suits c leg d row)
suits_tells c leg d row =
    let A = c.flight ≡ Flag → row.flag_ok ≡ true in
    let B = 0 < row.max_minutes → leg.minutes ≤ row.max_minutes in
    let D = All (λ e. e.id < d.id → are_paired c.grounds.tables c.aircraft.kind e.item d.item ≡ false) c.deferred in
    let one : Bool = is_flag c.flight && not row.flag_ok in
    let two : Bool = is_too_long row leg in
    tells_same (not (one || two || is_paired c d)) ((A × B) × D) (Suits c leg d row)
    (λ all. record { flag = all.0.0; length = all.0.1; alone = all.1 }) (λ s. ((s.flag, s.length), s.alone))
    (tells_neither (one || two) (is_paired c d) (A × B) D
    (tells_neither one two A B
    (tells_unless (is_flag c.flight) (not row.flag_ok) (c.flight ≡ Flag) (row.flag_ok ≡ true) (flag_tells c.flight) (tells_again row.flag_ok (row.flag_ok ≡ true) (tells_true row.flag_ok)))
    (tells_unless (nat_lt 0 row.max_minutes) (nat_lt row.max_minutes leg.minutes) (0 < row.max_minutes) (leg.minutes ≤ row.max_minutes) (tells_lt 0 row.max_minutes) (tells_not_less row.max_minutes leg.minutes)))
    (alone_tells c d))

allowed_by : (c : Case) (leg : Leg) (d : Deferral) (o : Option MelRow) → item_of c.grounds.tables c.aircraft.kind d.item ≡ o → Tells (not (forbids c leg d o)) (IsAllowed c leg d)
allowed_by c leg d None e = λ is. absurd (let f : None ≡ Some is.row = sym e ∙ is.is_listed in cc)
allowed_by c leg d (Some row) e =
    tells_same (not (forbids c leg d (Some row))) (Suits c leg d row) (IsAllowed c leg d)
    (λ s. record { row = row; is_listed = e; flag = s.flag; length = s.length; alone = s.alone })
    (λ is. subst (Suits c leg d) (ap (row_of row) (sym is.is_listed ∙ e)) (record { flag = is.flag; length = is.length; alone = is.alone }))
    (suits_tells c leg d row)

pub allowed_tells : (c : Case) (leg : Leg) (d : Deferral) → Tells (not (is_limiting c leg d)) (IsAllowed c leg d)
allowed_tells c leg d = allowed_by c leg d (item_of c.grounds.tables c.aircraft.kind d.item) refl

-- the day of the ETA
day_tells : (found days eta : ℕ) → Tells (not (nat_le (1440 * (found / 1440 + 1 + days)) eta)) (eta / 1440 ≤ found / 1440 + days)
day_tells found days eta =
    tells_same (not (nat_le (1440 * (found / 1440 + 1 + days)) eta)) (eta < 1440 * (found / 1440 + 1 + days)) (eta / 1440 ≤ found / 1440 + days)
    (λ h. omega (arith, h)) (λ h. omega (arith, h)) (tells_not_within (1440 * (found / 1440 + 1 + days)) eta)

repair_by : (c : Case) (leg : Leg) (d : Deferral) (o : Option MelRow) → item_of c.grounds.tables c.aircraft.kind d.item ≡ o → Tells (not (is_due_by leg d o)) (ArrivesBeforeRepair c leg d)
repair_by c leg d None e = λ row is. absurd (let f : None ≡ Some row = sym e ∙ is in cc)
repair_by c leg d (Some row) e =
    let allowed : ℕ = days_allowed row.category row.days in
    tells_same (not (is_due_by leg d (Some row))) (leg.eta / 1440 ≤ d.found / 1440 + allowed) (ArrivesBeforeRepair c leg d)
    (λ h other is days leaves.
    let same : days_allowed other.category other.days ≡ allowed = ap (λ r. days_allowed r.category r.days) (ap (row_of row) (sym is ∙ e)) in
    subst (λ n. leg.eta / 1440 ≤ d.found / 1440 + n) (sym same ∙ left_are_allowed leaves) h)
    (λ f. f row e allowed (allowed_are_left row.category row.days)) (day_tells d.found allowed leg.eta)

pub repair_tells : (c : Case) (leg : Leg) (d : Deferral) → Tells (not (is_overdue c leg d)) (ArrivesBeforeRepair c leg d)
repair_tells c leg d = repair_by c leg d (item_of c.grounds.tables c.aircraft.kind d.item) refl

-- airports that the type may use (14 CFR 121.631)
pub usable_tells : (b : Bool) → Tells (not (not b)) (b ≡ true)
usable_tells b = tells_again b (b ≡ true) (tells_true b)
