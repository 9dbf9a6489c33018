-- The numbers of each line in the sheet are those of the world.
use Rattle.std.proofs.Common.{◌≡◌, ℕ, zero, suc, ◌<◌, ◌≤◌, ◌+◌, ◌*◌, ◌/◌, ◌==◌, max, Bool, true, false, not, ◌&&◌, cond, List, [], ◌∷◌, ◌++◌, length, Contains, Option, None, Some, refl, ap, sym, subst, ◌∙◌, arith}
use Rattle.std.specs.Prelude.{nat_le, ◌||◌, find, Any, IsSome, IfSome}
use Rattle.std.specs.List.{AllByRecursion, slice_get}
use Rattle.std.specs.Option.{option_map}
use Rattle.std.proofs.lemmas.Bool.{eqb-true, leb-true, leb-false}
use Rattle.std.proofs.lemmas.List.Elements.{All-nil, All-cons, All-weaker, All-contains_itself}
use Rattle.desk_io.specs.Station.{Station}
use Rattle.desk_io.proofs.Each.{each_append}
use Rattle.desk_time.specs.Limits.{last_moment}
use Rattle.deferrals.specs.Due.{due}
use Rattle.deferrals.specs.declared.items.Deferral.{Deferral}
use Rattle.ops_tables.specs.Tables.{type_of}
use Rattle.ops_tables.specs.declared.rows.MelRow.{MelRow}
use Rattle.ops_tables.specs.declared.rows.Settings.{Settings}
use Rattle.ops_tables.specs.declared.rows.TypeRow.{TypeRow}
use Rattle.plan.specs.Check.{plan_fault}
use Rattle.plan.specs.Findings.{rules_of_legs}
use Rattle.plan.specs.Fuel.{most_fuel}
use Rattle.plan.specs.Phases.{standing, is_flying}
use Rattle.plan.specs.declared.check.BadPlan.{BadPlan}
use Rattle.plan.specs.declared.findings.Rule.{Rule}
use Rattle.plan.specs.declared.findings.Rule.TheVariants.{No1, No2, No3, No4, No5, No6, No7, No8, No9, No10, No11, No12, No13, No14, No15, No16, No17, No18, No19}
use Rattle.plan.specs.declared.flights.Alternate.{Alternate}
use Rattle.plan.specs.declared.flights.Kind.{Kind}
use Rattle.plan.specs.declared.flights.Kind.TheVariants.{Domestic, Flag}
use Rattle.plan.specs.declared.flights.Leg.{Leg}
use Rattle.plan.specs.declared.flights.Plan.{Plan}
use Rattle.plan.specs.declared.flights.TakeoffAlternate.{TakeoffAlternate}
use Rattle.plan.specs.declared.fuel.Basis.{Basis}
use Rattle.plan.specs.declared.fuel.Basis.TheVariants as basis
use Rattle.plan.specs.declared.release.Phase.{Phase}
use Rattle.plan.specs.declared.release.Phase.TheVariants.{Drafted, Ready, Flying, Stopped, Completed, Cancelled}
use Rattle.plan.specs.declared.release.Standing.{Standing}
use Rattle.plan.specs.declared.release.Standing.TheVariants.{Ahead, InFlight, Flown}
use Rattle.rules.specs.Circumstances.{Case, landing_at, alternate_at, arrival_minima}
use Rattle.rules.specs.DestinationAlternates.{is_domestic, is_flag, lists_none, needs_alternate, is_free}
use Rattle.rules.specs.Equipment.{is_paired_with}
use Rattle.rules.specs.Fuel.{does_without, is_within_states, basis_of, counts_alternate}
use Rattle.rules.specs.Grounds.{Grounds}
use Rattle.rules.specs.Judgement.{case_for, leg_numbered}
use Rattle.rules.specs.Regulation.{DepartsNext, first_of_draft, first, after_stop}
use Rattle.rules.specs.TakeoffAlternates.{needs_takeoff_alternate}
use Rattle.rules.specs.Time.{only_if, unless_again, departs_next}
use Rattle.rules.proofs.SectionTells.{domestic_tells, flag_tells}
use Rattle.rules.proofs.Tells.{told}
use Rattle.rules.proofs.Truth.{each_of_all}
use Rattle.sheet.specs.declared.lines.Compared.{Compared}
use Rattle.sheet.specs.declared.lines.Compared.TheVariants as compared
use Rattle.sheet.specs.declared.lines.Line.{Line}
use Rattle.sheet.specs.Equipment.{allowance, excluded_by, row_of, item_limit, limit_line, repair, repair_at, airport_use, airport_line, alternate_airport, takeoff_airport}
use Rattle.sheet.specs.Fuel.{tenth_term, alternate_term, reserve_term, fuel_sum}
use Rattle.sheet.specs.Lines.{line, numbered}
use Rattle.sheet.specs.Needs.{need_by, need_line, second_line}
use Rattle.sheet.specs.Sheet.{lines_of, lines_at, lines_in_case, lines_for, lines_by, tables_line, line_of_tables, sheet_of}
use Rattle.sheet.specs.Time.{stopped_since, counts_since, allowed, lines_since, time_lines}
use Rattle.sheet.specs.Origins.{landing_origins, alternate_origins, arrival_origins, AreLandingFrom, AreListedFrom, AreArrivalFrom}
use Rattle.sheet.specs.Weather.{weather_with, at_landing, at_alternate, station_of, range_of, range_line, takeoff_weather, alternate_weather}
use Rattle.sheet.specs.World as world
use Rattle.sheet.proofs.EachLine.{in_map, in_filter_map, in_numbered, in_one, in_takeoff, in_only, in_rules}
use Rattle.sheet.proofs.FuelLaws.{sum_adds_up}
use Rattle.sheet.proofs.OriginLaws.{landing_origins_are, alternate_origins_are, arrival_origins_are}
use Rattle.sheet.proofs.SourceLaws.{weather_of}

-- Rules of time

abbrev number_or : Option ℕ → ℕ
number_or None = 0
number_or (Some n) = n

-- a stop that counts is one before this leg, without another release
again_by : (again : Bool) (since at : ℕ) → unless_again again since ≡ Some at → (again ≡ false) × (since ≡ at)
again_by true since at e = absurd (cc)
again_by false since at e = (refl, ap number_or e)

stop_by : (here : Bool) (next since : ℕ) (again : Bool) (n at : ℕ) → (n == next) ≡ here → only_if here (unless_again again since) ≡ Some at → Stopped next since again ≡ Stopped n at false
stop_by true next since again n at here e =
    let both = again_by again since at e in
    ap (λ k. Stopped k since again) (sym (eqb-true n next here)) ∙ ap (λ k. Stopped n k again) both.1 ∙ ap (λ b. Stopped n at b) both.0
stop_by false next since again n at here e = absurd (cc)

stopped_by : (phase : Phase) (n at : ℕ) → stopped_since phase n ≡ Some at → phase ≡ Stopped n at false
stopped_by Drafted n at e = absurd (cc)
stopped_by Ready n at e = absurd (cc)
stopped_by (Flying leg) n at e = absurd (cc)
stopped_by (Stopped next since again) n at e = stop_by (n == next) next since again n at refl e
stopped_by (Completed moment) n at e = absurd (cc)
stopped_by (Cancelled moment) n at e = absurd (cc)

departs_by : (phase : Phase) (n : ℕ) → departs_next phase n ≡ true → DepartsNext phase n
departs_by Drafted n e = subst (DepartsNext Drafted) (sym (eqb-true n 1 e)) first_of_draft
departs_by Ready n e = subst (DepartsNext Ready) (sym (eqb-true n 1 e)) first
departs_by (Flying leg) n e = absurd (cc)
departs_by (Stopped next since again) n e = subst (DepartsNext (Stopped next since again)) (sym (eqb-true n next e)) after_stop
departs_by (Completed at) n e = absurd (cc)
departs_by (Cancelled at) n e = absurd (cc)

flying_by : (phase : Phase) (n : ℕ) → is_flying phase n ≡ true → phase ≡ Flying n
flying_by Drafted n e = absurd (cc)
flying_by Ready n e = absurd (cc)
flying_by (Flying leg) n e = ap Flying (sym (eqb-true n leg e))
flying_by (Stopped next since again) n e = absurd (cc)
flying_by (Completed at) n e = absurd (cc)
flying_by (Cancelled at) n e = absurd (cc)

-- a rule counts only if its condition holds
only_by : (b : Bool) (o : Option ℕ) (at : ℕ) → only_if b o ≡ Some at → (b ≡ true) × (o ≡ Some at)
only_by true o at e = (refl, e)
only_by false o at e = absurd (cc)

module _ (flight : Kind) (phase : Phase) (settings : Settings) (n : ℕ) (leg : Leg) where
  abbrev Counts : Rule → ℕ → Type 0
  Counts rule since = world.Allows flight phase settings n leg rule since (allowed rule settings)

  pub allows_by : (rule : Rule) (since : ℕ) → counts_since rule flight phase n leg ≡ Some since → Counts rule since
  allows_by No1 since e =
      let both = only_by (is_domestic flight) (stopped_since phase n) since e in
      world.domestic_stop (told (is_domestic flight) (flight ≡ Domestic) (domestic_tells flight) both.0) (stopped_by phase n since both.1)
  allows_by No2 since e =
      let both = only_by (is_flag flight) (stopped_since phase n) since e in
      world.flag_stop (told (is_flag flight) (flight ≡ Flag) (flag_tells flight) both.0) (stopped_by phase n since both.1)
  allows_by No17 since e =
      let both = only_by (departs_next phase n) (Some leg.etd) since e in
      let same : leg.etd ≡ since = ap number_or both.1 in
      subst (Counts No17) same (world.next_departure (departs_by phase n both.0))
  allows_by No18 since e =
      let both = only_by (is_flying phase n) (Some leg.eta) since e in
      let same : leg.eta ≡ since = ap number_or both.1 in
      subst (Counts No18) same (world.next_arrival (flying_by phase n both.0))
  allows_by _ since e = absurd (cc)

-- Distances

two_by : (three : Bool) (engines knots : ℕ) → nat_le 3 engines ≡ three → engines ≤ 2 → cond three (2 * knots) knots ≡ knots
two_by true engines knots e two = let more = leb-true 3 engines e in absurd (omega (arith, more, two))
two_by false engines knots e two = refl

more_by : (three : Bool) (engines knots : ℕ) → nat_le 3 engines ≡ three → 3 ≤ engines → cond three (2 * knots) knots ≡ 2 * knots
more_by true engines knots e three = refl
more_by false engines knots e three = let less = leb-false 3 engines e in absurd (omega (arith, less, three))

range_is : (c : Case) (leg : Leg) (it : TakeoffAlternate) → world.IsRange c leg it.station (range_of c leg it)
range_is c leg it = record {
  place = refl;
  miles = refl;
  engines = refl;
  knots = refl;
  two_engines = two_by (nat_le 3 c.aircraft.engines) c.aircraft.engines c.aircraft.oei_knots refl;
  more_engines = more_by (nat_le 3 c.aircraft.engines) c.aircraft.engines c.aircraft.oei_knots refl;
}

listed_is : (it : Option TakeoffAlternate) → station_of it ≡ option_map (λ it. it.station) it
listed_is None = refl
listed_is (Some it) = refl

-- Deferrals

allowance_is : (row : Option MelRow) → world.IsAllowance row (option_map allowance row)
allowance_is None = tt
allowance_is (Some row) = (refl, refl)

abbrev deferral_or : Deferral → Option Deferral → Deferral
deferral_or other None = other
deferral_or other (Some d) = d

-- the item that is found first passes the test, and none before it does; none does if none is found
module _ (p : Deferral → Bool) where
  abbrev NoneBefore : List Deferral → ℕ → Type 0
  NoneBefore ds place = (earlier : ℕ) (e : Deferral) → earlier < place → slice_get ds earlier ≡ Some e → p e ≡ false

  record IsFirst (ds : List Deferral) (id : ℕ) : Type 0 where
    place : ℕ
    by : Deferral
    stands : slice_get ds place ≡ Some by
    its_id : by.id ≡ id
    excludes : p by ≡ true
    first : NoneBefore ds place

  abbrev Found : List Deferral → Option ℕ → Type 0
  Found ds None = NoneBefore ds (length ds)
  Found ds (Some id) = IsFirst ds id

  -- one more, which doesn't pass
  before_all : (d : Deferral) (ds : List Deferral) (place : ℕ) → p d ≡ false → NoneBefore ds place → NoneBefore (d ∷ ds) (suc place)
  before_all d ds place is rest zero e less found = subst (λ x. p x ≡ false) (ap (deferral_or d) found) is
  before_all d ds place is rest (suc k) e less found = rest k e (omega (arith, less)) found

  found_later : (d : Deferral) (ds : List Deferral) (o : Option ℕ) → p d ≡ false → Found ds o → Found (d ∷ ds) o
  found_later d ds None is rest = λ earlier e less found. before_all d ds (length ds) is rest earlier e (omega (arith, less)) found
  found_later d ds (Some id) is rest = record {
    place = suc rest.place;
    by = rest.by;
    stands = rest.stands;
    its_id = rest.its_id;
    excludes = rest.excludes;
    first = before_all d ds rest.place is rest.first;
  }

  found_step : (b : Bool) (d : Deferral) (ds : List Deferral) (rest : Option Deferral) → p d ≡ b → Found ds (option_map (λ (e : Deferral). e.id) rest)
      → Found (d ∷ ds) (option_map (λ (e : Deferral). e.id) (cond b (Some d) rest))
  found_step true d ds rest is later = record {
    place = 0;
    by = d;
    stands = refl;
    its_id = refl;
    excludes = is;
    first = λ earlier e less found. absurd (omega (arith, less));
  }
  found_step false d ds rest is later = found_later d ds (option_map (λ (e : Deferral). e.id) rest) is later

  found_is : (ds : List Deferral) → Found ds (option_map (λ (e : Deferral). e.id) (find p ds))
  found_is [] = λ earlier e less found. absurd (omega (arith, less))
  found_is (d ∷ ds) = found_step (p d) d ds (find p ds) refl (found_is ds)

excluder_by : (c : Case) (d : Deferral) (o : Option ℕ) → Found (is_paired_with c d) c.deferred o → world.IsExcluder c d o
excluder_by c d None found = found
excluder_by c d (Some id) found = record {
  place = found.place;
  by = found.by;
  stands = found.stands;
  its_id = found.its_id;
  excludes = found.excludes;
  first = found.first;
}

limit_is : (c : Case) (leg : Leg) (d : Deferral) → world.IsLimit c leg d (item_limit c leg d)
limit_is c leg d = record {
  item = refl;
  flag = refl;
  minutes = refl;
  allowance = allowance_is (row_of c d);
  excluder = excluder_by c d (excluded_by c d) (found_is (is_paired_with c d) c.deferred);
}

due_by : (b : Bool) (row : MelRow) (found : ℕ) → nat_le found last_moment ≡ b → found ≤ last_moment → cond b (Some (due row found)) None ≡ Some (due row found)
due_by true row found e in_time = refl
due_by false row found e in_time = let late = leb-false found last_moment e in absurd (omega (arith, late, in_time))

undue_by : (b : Bool) (row : MelRow) (found : ℕ) → nat_le found last_moment ≡ b → last_moment < found → cond b (Some (due row found)) None ≡ None
undue_by true row found e late = let early = leb-true found last_moment e in absurd (omega (arith, late, early))
undue_by false row found e late = refl

repair_is : (leg : Leg) (d : Deferral) (row : MelRow) → world.IsRepair leg d row (repair leg d row)
repair_is leg d row = record {
  item = refl;
  found = refl;
  in_time = due_by (nat_le d.found last_moment) row d.found refl;
  too_late = undue_by (nat_le d.found last_moment) row d.found refl;
  eta = refl;
}

use_is : (c : Case) (station : Station) → world.IsUse c station (airport_use c station)
use_is c station = record { type_is = refl; place = refl; allowed = refl }

-- Alternates of the destination

domestic_need_is : (kind : Kind) (c : Case) (leg : Leg) → kind ≡ Domestic → world.IsNeed c leg (need_by kind c leg) × world.IsDomesticNeed (need_by kind c leg)
domestic_need_is Domestic c leg is = (record { place = refl; an_hour_before = refl; an_hour_after = refl; minutes = refl; weather = refl; listed = refl }, record { longest = refl; floor = refl; free = refl })
domestic_need_is Flag c leg is = absurd (cc)

flag_need_is : (kind : Kind) (c : Case) (leg : Leg) → kind ≡ Flag → world.IsNeed c leg (need_by kind c leg) × world.IsFlagNeed c leg (need_by kind c leg)
flag_need_is Domestic c leg is = absurd (cc)
flag_need_is Flag c leg is = (record { place = refl; an_hour_before = refl; an_hour_after = refl; minutes = refl; weather = refl; listed = refl }, record { longest = refl; floor = refl; free = refl })

-- Fuel

rounded_60 : (amount : ℕ) → world.IsRoundedUp amount 60 ((amount + 59) / 60)
rounded_60 amount = record { enough = omega arith; no_more = omega arith }

rounded_600 : (amount : ℕ) → world.IsRoundedUp amount 600 ((amount + 599) / 600)
rounded_600 amount = record { enough = omega arith; no_more = omega arith }

tenth_is : (by : Basis) (c : Case) (leg : Leg) → world.IsTenth by c leg (tenth_term by c.aircraft.cruise_pph leg.minutes)
tenth_is basis.Domestic c leg = refl
tenth_is basis.Flag c leg = rounded_600 (c.aircraft.cruise_pph * leg.minutes)
tenth_is basis.NoAlternate c leg = refl

reserve_is : (by : Basis) (c : Case) → world.IsReserve by c (reserve_term by c.aircraft.cruise_pph c.aircraft.hold_pph)
reserve_is basis.Domestic c = rounded_60 (c.aircraft.cruise_pph * 45)
reserve_is basis.Flag c = rounded_60 (c.aircraft.hold_pph * 30)
reserve_is basis.NoAlternate c = refl

-- the most fuel to an alternate
most_by : (b : Bool) (a : Alternate) (rest : List Alternate) → nat_le (most_fuel rest) a.fuel ≡ b → world.IsMost rest (most_fuel rest) → 0 < max a.fuel (most_fuel rest)
    → Any (λ it. it.fuel ≡ max a.fuel (most_fuel rest)) (a ∷ rest)
most_by true a rest e more some = let less = leb-true (most_fuel rest) a.fuel e in (0, a, omega arith, refl, omega (arith, less))
most_by false a rest e more some =
    let less = leb-false (most_fuel rest) a.fuel e in
    let one = more.one_takes_it (omega (arith, less)) in
    let place = one.2 in
    let fuel = one.4 in
    (suc one.0, one.1, omega (arith, place), one.3, omega (arith, fuel, less))

most_is : (listed : List Alternate) → world.IsMost listed (most_fuel listed)
most_is [] = record { none_takes_more = All-nil (λ it. it.fuel ≤ 0); one_takes_it = λ some. absurd (omega (arith, some)) }
most_is (a ∷ rest) = record {
  none_takes_more =
      All-cons (λ it. it.fuel ≤ max a.fuel (most_fuel rest)) a rest (omega arith)
      (All-weaker (λ it. it.fuel ≤ most_fuel rest) (λ it. it.fuel ≤ max a.fuel (most_fuel rest)) (λ it less. omega (arith, less)) rest (most_is rest).none_takes_more);
  one_takes_it = most_by (nat_le (most_fuel rest) a.fuel) a rest refl (most_is rest);
}

none_is : (listed : List Alternate) → lists_none listed ≡ true → world.IsMost listed 0
none_is [] is = most_is []
none_is (a ∷ rest) is = absurd (cc)

counted_is : (needs : Bool) (listed : List Alternate) → (needs ≡ true → world.IsMost listed (cond (needs && not (lists_none listed)) (most_fuel listed) 0))
    × (needs ≡ false → cond (needs && not (lists_none listed)) (most_fuel listed) 0 ≡ 0)
counted_is true [] = (λ is. most_is [], λ is. absurd (cc))
counted_is true (a ∷ rest) = (λ is. most_is (a ∷ rest), λ is. absurd (cc))
counted_is false listed = (λ is. absurd (cc), λ is. refl)

and_true : (a b : Bool) → (a && b) ≡ true → (a ≡ true) × (b ≡ true)
and_true true b is = (refl, is)
and_true false b is = absurd (cc)

lists_none_by : (c : Case) (leg : Leg) → does_without c leg ≡ true → lists_none leg.alternates ≡ true
lists_none_by c leg is =
    (and_true (is_flag c.flight && needs_alternate c leg) (lists_none leg.alternates) (and_true ((is_flag c.flight && needs_alternate c leg) && lists_none leg.alternates) (is_free c leg) is).0).1

alternate_by : (c : Case) (leg : Leg) (without states : Bool) → does_without c leg ≡ without
    → world.IsToAlternate c leg (alternate_term (cond without basis.NoAlternate (cond states basis.Domestic basis.Flag)) leg (counts_alternate c leg))
alternate_by c leg true states e = record { needed = λ needs. none_is leg.alternates (lists_none_by c leg e); unneeded = λ is. refl }
alternate_by c leg false true e = let both = counted_is (needs_alternate c leg) leg.alternates in record { needed = both.0; unneeded = both.1 }
alternate_by c leg false false e = let both = counted_is (needs_alternate c leg) leg.alternates in record { needed = both.0; unneeded = both.1 }

fuel_is : (c : Case) (leg : Leg) → world.IsFuel c leg (fuel_sum c leg)
fuel_is c leg = record {
  stated = refl;
  required = refl;
  counted_by = refl;
  burn = refl;
  extra = refl;
  tenth = tenth_is (basis_of c leg) c leg;
  alternate = alternate_by c leg (does_without c leg) (is_domestic c.flight || is_within_states c.grounds.tables leg) refl;
  reserve = reserve_is (basis_of c leg) c;
  deferred = refl;
  adds_up = sum_adds_up c leg;
}

-- Weather

at_landing_is : (c : Case) (station : Station) (m : ℕ) → world.IsAtLanding c station m (at_landing c station m)
at_landing_is c station m = weather_of c station m (landing_at c station) (landing_origins c station) (AreLandingFrom c station) (landing_origins_are c station)

at_alternate_is : (c : Case) (station : Station) (m : ℕ) → world.IsAtAlternate c station m (at_alternate c station m)
at_alternate_is c station m = weather_of c station m (alternate_at c station) (alternate_origins c station) (AreListedFrom c station) (alternate_origins_are c station)

at_destination_is : (c : Case) (station : Station) (m : ℕ) → world.IsAtDestination c station m (weather_with c station m (arrival_minima c station) (arrival_origins c station))
at_destination_is c station m = weather_of c station m (arrival_minima c station) (arrival_origins c station) (AreArrivalFrom c station) (arrival_origins_are c station)

-- The sheet

module _ (plan : Plan) (phase : Phase) (g : Grounds) where
  abbrev Of : Line → Type 0
  Of l = world.IsOfWorld plan phase g l

  abbrev Each : List Line → Type 0
  Each lines = AllByRecursion Of lines

  module _ (c : Case) (is_case : case_for plan g ≡ Some c) (n : ℕ) (leg : Leg) (stands : leg_numbered n 1 plan.legs ≡ Some leg) where
    of_it : (rule : Rule) (place : ℕ) (it : Compared) → world.IsOfLeg c leg rule place it → Of (line rule n place it)
    of_it rule place it is = world.of_leg rule n place leg c it stands is_case is

    in_repair : (d : Deferral) (row : Option MelRow) → row_of c d ≡ row → Contains c.deferred d → IfSome (repair_at n leg d row) Of
    in_repair d None is among = tt
    in_repair d (Some row) is among = of_it No12 d.id (compared.Due (repair leg d row)) (world.repair d row among is (repair_is leg d row))

    of_airport : (place : ℕ) (station : Station) → world.HasAirport leg place station → Of (airport_line c n place station)
    of_airport place station has = of_it No13 place (compared.Airport (airport_use c station)) (world.airport place station has (use_is c station))

    in_airport : (ahead : Bool) (listed : Option TakeoffAlternate) → leg.takeoff_alternate ≡ listed → Each (takeoff_airport c ahead n listed)
    in_airport false listed is = tt
    in_airport true None is = tt
    in_airport true (Some it) is = (of_airport 9 it.station (world.at_takeoff_alternate it is), tt)

    in_airports : (ahead : Bool) → Each ((airport_line c n 0 leg.to ∷ []) ++ numbered (alternate_airport c n) 1 leg.alternates ++ takeoff_airport c ahead n leg.takeoff_alternate)
    in_airports ahead =
        each_append Of ((airport_line c n 0 leg.to ∷ []) ++ numbered (alternate_airport c n) 1 leg.alternates) (takeoff_airport c ahead n leg.takeoff_alternate)
        (each_append Of (airport_line c n 0 leg.to ∷ []) (numbered (alternate_airport c n) 1 leg.alternates) (of_airport 0 leg.to world.at_destination, tt)
        (in_numbered Of (alternate_airport c n) 1 leg.alternates (λ k it is. of_airport (1 + k) it.station (world.at_alternate k it is))))
        (in_airport ahead leg.takeoff_alternate refl)

    domestic : is_domestic c.flight ≡ true → c.flight ≡ Domestic
    domestic is = told (is_domestic c.flight) (c.flight ≡ Domestic) (domestic_tells c.flight) is

    flag : is_flag c.flight ≡ true → c.flight ≡ Flag
    flag is = told (is_flag c.flight) (c.flight ≡ Flag) (flag_tells c.flight) is

    among : AllByRecursion (Contains c.deferred) c.deferred
    among = each_of_all (Contains c.deferred) c.deferred (All-contains_itself c.deferred)

    of_rule : (rule : Rule) (ahead : Bool) → Each (lines_of rule c ahead n leg)
    of_rule No1 ahead = tt
    of_rule No2 ahead = tt
    of_rule No3 ahead = (of_it No3 0 _ (world.landing (at_destination_is c leg.to leg.eta)), tt)
    of_rule No4 ahead = (of_it No4 0 _ (world.departure (at_landing_is c leg.from leg.etd) (listed_is leg.takeoff_alternate)), tt)
    of_rule No5 ahead =
        in_takeoff Of (range_line c n leg) (needs_takeoff_alternate c leg) leg.takeoff_alternate (λ it needed is. of_it No5 0 _ (world.takeoff_range it is (range_is c leg it)))
    of_rule No6 ahead =
        in_takeoff Of (takeoff_weather c n leg) (needs_takeoff_alternate c leg) leg.takeoff_alternate
        (λ it needed is. of_it No6 0 _ (world.takeoff_weather it is (at_alternate_is c it.station (leg.etd + it.minutes))))
    of_rule No7 ahead =
        in_one Of (is_domestic c.flight) (need_line No7 c n leg)
        (λ is. let both = domestic_need_is c.flight c leg (domestic is) in of_it No7 0 _ (world.domestic_need (domestic is) both.0 both.1))
    of_rule No8 ahead =
        in_only Of (second_line c n leg) (is_domestic c.flight && needs_alternate c leg) leg.alternates
        (λ it asked is. of_it No8 0 _ (world.second_need it is (record {
          destination = at_landing_is c leg.to leg.eta;
          alternate = at_alternate_is c it.station (leg.eta + it.minutes);
          feet = refl;
          millimetres = refl;
        })))
    of_rule No9 ahead =
        in_one Of (is_flag c.flight) (need_line No9 c n leg)
        (λ is. let both = flag_need_is c.flight c leg (flag is) in of_it No9 0 _ (world.flag_need (flag is) both.0 both.1))
    of_rule No10 ahead =
        in_numbered Of (alternate_weather c n leg) 1 leg.alternates
        (λ k it is. of_it No10 (1 + k) _ (world.alternate_weather k it is (at_alternate_is c it.station (leg.eta + it.minutes))))
    of_rule No11 ahead = in_map Of (Contains c.deferred) (limit_line c n leg) (λ d has. of_it No11 d.id _ (world.limit d has (limit_is c leg d))) c.deferred among
    of_rule No12 ahead = in_filter_map Of (Contains c.deferred) (λ d. repair_at n leg d (row_of c d)) (λ d has. in_repair d (row_of c d) refl has) c.deferred among
    of_rule No13 ahead = in_airports ahead
    of_rule No14 ahead = in_one Of (is_domestic c.flight) (line No14 n 0 (compared.Fuel (fuel_sum c leg))) (λ is. of_it No14 0 _ (world.domestic_fuel (domestic is) (fuel_is c leg)))
    of_rule No15 ahead = in_one Of (is_flag c.flight) (line No15 n 0 (compared.Fuel (fuel_sum c leg))) (λ is. of_it No15 0 _ (world.flag_fuel (flag is) (fuel_is c leg)))
    of_rule No16 ahead = (of_it No16 0 _ (world.aboard refl refl), tt)
    of_rule No17 ahead = tt
    of_rule No18 ahead = tt
    of_rule No19 ahead = tt

    in_flight : (rule : Rule) → Each (lines_at rule c InFlight n leg)
    in_flight No1 = tt
    in_flight No2 = tt
    in_flight No3 = of_rule No3 false
    in_flight No4 = tt
    in_flight No5 = tt
    in_flight No6 = tt
    in_flight No7 = of_rule No7 false
    in_flight No8 = of_rule No8 false
    in_flight No9 = of_rule No9 false
    in_flight No10 = of_rule No10 false
    in_flight No11 = tt
    in_flight No12 = tt
    in_flight No13 = of_rule No13 false
    in_flight No14 = of_rule No14 false
    in_flight No15 = of_rule No15 false
    in_flight No16 = of_rule No16 false
    in_flight No17 = tt
    in_flight No18 = tt
    in_flight No19 = tt

  in_case : (rule : Rule) (o : Option Case) → case_for plan g ≡ o → (state : Standing) (n : ℕ) (leg : Leg) → leg_numbered n 1 plan.legs ≡ Some leg → Each (lines_in_case rule o state n leg)
  in_case rule None is state n leg stands = tt
  in_case rule (Some c) is Ahead n leg stands = of_rule c is n leg stands rule true
  in_case rule (Some c) is InFlight n leg stands = in_flight c is n leg stands rule
  in_case rule (Some c) is Flown n leg stands = tt

  in_time : (rule : Rule) (n : ℕ) (leg : Leg) → leg_numbered n 1 plan.legs ≡ Some leg → (o : Option ℕ) → counts_since rule plan.kind phase n leg ≡ o
      → Each (lines_since rule n o (allowed rule g.tables.settings) g.moment)
  in_time rule n leg stands None is = tt
  in_time rule n leg stands (Some since) is =
      (world.of_time rule n since (allowed rule g.tables.settings) leg _ stands (allows_by plan.kind phase g.tables.settings n leg rule since is) (record { began = refl; ended = refl; minutes = refl; limit = refl }), tt)

  module _ (o : Option Case) (is : case_for plan g ≡ o) where
    in_leg : (rule : Rule) (n : ℕ) (leg : Leg) → leg_numbered n 1 plan.legs ≡ Some leg → Each (lines_for plan phase g o rule n leg)
    in_leg rule n leg stands =
        each_append Of (time_lines rule g.tables.settings plan.kind phase n leg g.moment) (lines_in_case rule o (standing phase n) n leg)
        (in_time rule n leg stands (counts_since rule plan.kind phase n leg) refl) (in_case rule o is (standing phase n) n leg stands)

  in_tables : (bad : Option BadPlan) (aircraft : Option TypeRow) → plan_fault g.tables plan ≡ bad → type_of g.tables plan.tail ≡ aircraft → Of (tables_line bad aircraft)
  in_tables (Some bad) aircraft is typed = world.bad_plan bad is
  in_tables None None is typed = world.no_type is typed
  in_tables None (Some aircraft) is typed = world.passes is (subst IsSome (sym typed) refl)

-- the numbers of each line are those of the world
pub sheet_of_world : (plan : Plan) (phase : Phase) (g : Grounds) → AllByRecursion (world.IsOfWorld plan phase g) (sheet_of plan phase g)
unfolding sheet_of
sheet_of_world plan phase g =
    each_append (world.IsOfWorld plan phase g) (lines_by (lines_for plan phase g (case_for plan g)) rules_of_legs plan.legs) (line_of_tables plan g ∷ [])
    (in_rules (world.IsOfWorld plan phase g) (lines_for plan phase g (case_for plan g)) plan.legs (λ rule n leg stands. in_leg plan phase g (case_for plan g) refl rule n leg stands) rules_of_legs) (in_tables plan phase g (plan_fault g.tables plan) (type_of g.tables plan.tail) refl refl, tt)
