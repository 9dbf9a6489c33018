-- Findings are silent of a rule and a leg exactly where the leg does as the section asks.
use Rattle.std.proofs.Common.{◌≡◌, ◌↔◌, inl, inr, ℕ, zero, suc, ◌+◌, ◌<◌, ◌≤◌, Bool, true, false, not, ◌&&◌, if◌then◌else◌, List, [], ◌∷◌, ◌++◌, length, get_or, Contains, Option, None, Some, append-nil, refl, ap, sym, subst, ◌∙◌, arith}
use Rattle.std.specs.Prelude.{map, filter}
use Rattle.std.specs.List.{All, AllByRecursion}
use Rattle.std.proofs.lemmas.List.Elements.{All-nil, All-cons, All-head, All-tail}
use Rattle.desk_io.specs.Station.{Station}
use Rattle.ops_tables.specs.declared.rows.TypeRow.{TypeRow}
use Rattle.ops_tables.specs.Tables.{type_of, may_use}
use Rattle.plan.specs.Check.{plan_fault}
use Rattle.plan.specs.Phases.{standing}
use Rattle.plan.specs.declared.check.BadPlan.{BadPlan}
use Rattle.plan.specs.declared.flights.Plan.{Plan}
use Rattle.plan.specs.declared.flights.Leg.{Leg}
use Rattle.plan.specs.declared.flights.Alternate.{Alternate}
use Rattle.plan.specs.declared.flights.TakeoffAlternate.{TakeoffAlternate}
use Rattle.plan.specs.declared.findings.Finding.{Finding}
use Rattle.plan.specs.declared.findings.Rule.{Rule}
use Rattle.plan.specs.declared.findings.Rule.TheVariants.{No1, No2, No3, No4, No5, No6, No7, No8, No9, No10, No11, No12, No13, No14, No15, No16, No17, No18, No19}
use Rattle.plan.specs.declared.release.Phase.{Phase}
use Rattle.plan.specs.declared.release.Standing.{Standing}
use Rattle.plan.specs.declared.release.Standing.TheVariants.{Ahead, InFlight, Flown}
use Rattle.deferrals.specs.declared.items.Deferral.{Deferral}
use Rattle.rules.specs.Grounds.{Grounds}
use Rattle.rules.specs.Circumstances.{Case, case_of, is_below_alternate}
use Rattle.rules.specs.DestinationAlternates.{place_if, places_from, lacks_domestic_alternate, lacks_second_alternate, lacks_flag_alternate, low_alternates}
use Rattle.rules.specs.TakeoffAlternates.{lacks_takeoff_alternate, has_far_takeoff_alternate, has_low_takeoff_alternate}
use Rattle.rules.specs.Weather.{is_below_landing}
use Rattle.rules.specs.Equipment.{is_limiting, is_overdue, is_barred, is_barred_takeoff, barred}
use Rattle.rules.specs.Fuel.{is_short_domestic, is_short_flag, is_underfilled}
use Rattle.rules.specs.Time.{is_late}
use Rattle.rules.specs.Judgement.{is_of_departure, places_of, places_at, places_in_case, places_for, case_for, finding, findings_of, findings_of_tables, tables_finding, leg_numbered, FailsAt, Fails, IsTrueOf}
use Rattle.rules.specs.Regulation.{IsSilent, AllowsLanding, AllowsAlternate, IsAllowed, ArrivesBeforeRepair, MayUseAirports, FollowsTime, FollowsSections, FollowsDeparture, IsJudged, FollowRegulation}
use Rattle.rules.proofs.Laws.{findings_are_true, findings_name_all}
use Rattle.rules.proofs.Order.{no_place}
use Rattle.rules.proofs.Tells.{Tells, told_not, refuted, tells_not_less}
use Rattle.rules.proofs.SectionTells as section
use Rattle.rules.proofs.TablesLaws.{follow_tables}
use Rattle.rules.proofs.FuelTells.{domestic_fuel_tells, flag_fuel_tells}

at_each : {A : Type 0} (P : A → Type 0) (xs : List A) (x : A) (k : ℕ) → AllByRecursion P xs → k < length xs → get_or xs k x ≡ x → P x
at_each P [] x k all within is = absurd (omega (arith, within))
at_each P (y ∷ xs) x zero all within is = subst P is all.0
at_each P (y ∷ xs) x (suc k) all within is = at_each P xs x k all.1 (omega (arith, within)) is

tables_alone : (bad : Option BadPlan) (aircraft : Option TypeRow) → AllByRecursion (λ f. f.rule ≡ No19) (tables_finding bad aircraft)
tables_alone (Some bad) aircraft = (refl, tt)
tables_alone None None = (refl, tt)
tables_alone None (Some aircraft) = tt

-- no place is among some
abbrev HasNone : List ℕ → Type 0
HasNone places = (place : ℕ) → Contains places place → ⊥

none_in : (places : List ℕ) → places ≡ [] → HasNone places
none_in [] e place there = let within = there.1 in omega (arith, within)
none_in (p ∷ places) e place there = absurd (cc)

in_none : (places : List ℕ) → HasNone places → places ≡ []
in_none [] never = refl
in_none (p ∷ places) never = absurd (never p (0, omega arith, refl))

-- the findings are silent where the rule has no place at the leg
silent_where : (plan : Plan) (phase : Phase) (g : Grounds) (rule : Rule) (number : ℕ) (leg : Leg) → (rule ≡ No19 → ⊥) → leg_numbered number 1 plan.legs ≡ Some leg
    → places_for plan phase g (case_for plan g) rule number leg ≡ [] → IsSilent (findings_of plan phase g) rule number
silent_where plan phase g rule number leg legs stands none place there =
    let places : Rule → ℕ → Leg → List ℕ = places_for plan phase g (case_for plan g) in
    let fails : Fails plan phase g rule number place = at_each (IsTrueOf plan phase g) (findings_of plan phase g) (finding rule number place) there.0 (findings_are_true plan phase g) there.1 there.2 in
    elim fails [
      | inl at ↦ none_in (places rule number leg) none place (subst (λ o. FailsAt places rule number o place) stands at)
      | inr there ↦ legs (at_each (λ f. f.rule ≡ No19) (findings_of_tables plan g) (finding rule number place) there.0 (tables_alone (plan_fault g.tables plan) (type_of g.tables plan.tail)) there.1 there.2)
    ]

where_silent : (plan : Plan) (phase : Phase) (g : Grounds) (rule : Rule) (number : ℕ) (leg : Leg) → leg_numbered number 1 plan.legs ≡ Some leg
    → IsSilent (findings_of plan phase g) rule number → places_for plan phase g (case_for plan g) rule number leg ≡ []
where_silent plan phase g rule number leg stands silent =
    let places : Rule → ℕ → Leg → List ℕ = places_for plan phase g (case_for plan g) in
    in_none (places rule number leg)
    (λ place there. silent place (findings_name_all plan phase g rule number place (inl (subst (λ o. FailsAt places rule number o place) (sym stands) there))))

-- a rule by its places at the leg
by_places : (plan : Plan) (phase : Phase) (g : Grounds) (rule : Rule) (number : ℕ) (leg : Leg) (places : List ℕ) (S : Type 0) → (rule ≡ No19 → ⊥) → leg_numbered number 1 plan.legs ≡ Some leg
    → places_for plan phase g (case_for plan g) rule number leg ≡ places → ((places ≡ []) ↔ S) → IsSilent (findings_of plan phase g) rule number ↔ S
by_places plan phase g rule number leg places S legs stands is exact =
    (λ silent. exact.0 (sym is ∙ where_silent plan phase g rule number leg stands silent), λ s. silent_where plan phase g rule number leg legs stands (is ∙ exact.1 s))

-- one place, where a test is true
place_none : (fails : Bool) (place : ℕ) → place_if fails place ≡ [] → fails ≡ false
place_none true place e = absurd (cc)
place_none false place e = refl

by_test : (fails : Bool) (place : ℕ) (S : Type 0) → Tells (not fails) S → (place_if fails place ≡ []) ↔ S
by_test fails place S tells = (λ e. told_not fails S tells (place_none fails place e), λ s. ap (λ b. place_if b place) (refuted fails S tells s))

parts_none : (xs ys : List ℕ) → (xs ++ ys) ≡ [] → (xs ≡ []) × (ys ≡ [])
parts_none [] ys e = (refl, e)
parts_none (x ∷ xs) ys e = absurd (cc)

none_joined : (xs ys : List ℕ) → xs ≡ [] → ys ≡ [] → (xs ++ ys) ≡ []
none_joined xs ys one two = rw (one, two) refl

-- the numbers of those of a list that fail
each_passes : {A : Type 0} (fails : A → Bool) (S : A → Type 0) → ((a : A) → Tells (not (fails a)) (S a)) → (n : ℕ) (xs : List A) → places_from fails n xs ≡ [] → All S xs
each_passes fails S tells n [] e = All-nil S
each_passes fails S tells n (a ∷ xs) e =
    let parts = parts_none (place_if (fails a) n) (places_from fails (n + 1) xs) e in
    All-cons S a xs (told_not (fails a) (S a) (tells a) (place_none (fails a) n parts.0)) (each_passes fails S tells (n + 1) xs parts.1)

passes_each : {A : Type 0} (fails : A → Bool) (S : A → Type 0) → ((a : A) → Tells (not (fails a)) (S a)) → (n : ℕ) (xs : List A) → All S xs → places_from fails n xs ≡ []
passes_each fails S tells n [] all = refl
passes_each fails S tells n (a ∷ xs) all =
    none_joined (place_if (fails a) n) (places_from fails (n + 1) xs)
    (ap (λ b. place_if b n) (refuted (fails a) (S a) (tells a) (All-head S a xs all))) (passes_each fails S tells (n + 1) xs (All-tail S a xs all))

-- the ids of the deferrals that fail
abbrev ids_failing : (Deferral → Bool) → List Deferral → List ℕ
ids_failing fails list = map (λ d. d.id) (filter fails list)

first_passes : (fails : Bool) (d : Deferral) (others : List Deferral) → map (λ e. e.id) (if fails then d ∷ others else others) ≡ [] → (fails ≡ false) × (map (λ e. e.id) others ≡ [])
first_passes true d others e = absurd (cc)
first_passes false d others e = (refl, e)

each_allowed : (fails : Deferral → Bool) (S : Deferral → Type 0) → ((d : Deferral) → Tells (not (fails d)) (S d)) → (list : List Deferral) → ids_failing fails list ≡ [] → All S list
each_allowed fails S tells [] e = All-nil S
each_allowed fails S tells (d ∷ list) e =
    let parts = first_passes (fails d) d (filter fails list) e in
    All-cons S d list (told_not (fails d) (S d) (tells d) parts.0) (each_allowed fails S tells list parts.1)

allowed_each : (fails : Deferral → Bool) (S : Deferral → Type 0) → ((d : Deferral) → Tells (not (fails d)) (S d)) → (list : List Deferral) → All S list → ids_failing fails list ≡ []
allowed_each fails S tells [] all = refl
allowed_each fails S tells (d ∷ list) all = rw (refuted (fails d) (S d) (tells d) (All-head S d list all)) (allowed_each fails S tells list (All-tail S d list all))

-- airports, by where the leg stands
barred_takeoff : (c : Case) (o : Option TakeoffAlternate) → is_barred_takeoff c o ≡ false → (it : TakeoffAlternate) → o ≡ Some it → may_use c.grounds.tables c.aircraft.kind it.station ≡ true
barred_takeoff c None e it is = absurd (cc)
barred_takeoff c (Some other) e it is =
    subst (λ a. may_use c.grounds.tables c.aircraft.kind a.station ≡ true) (ap (section.station_of other) is)
    (told_not (is_barred c other.station) (may_use c.grounds.tables c.aircraft.kind other.station ≡ true) (section.usable_tells (may_use c.grounds.tables c.aircraft.kind other.station)) e)

takeoff_barred : (c : Case) (o : Option TakeoffAlternate) → ((it : TakeoffAlternate) → o ≡ Some it → may_use c.grounds.tables c.aircraft.kind it.station ≡ true) → is_barred_takeoff c o ≡ false
takeoff_barred c None may = refl
takeoff_barred c (Some it) may = rw (may it refl) refl

abbrev MayUse : Case → Station → Type 0
MayUse c station = may_use c.grounds.tables c.aircraft.kind station ≡ true

usable : (c : Case) (station : Station) → Tells (not (is_barred c station)) (MayUse c station)
usable c station = section.usable_tells (may_use c.grounds.tables c.aircraft.kind station)

last_is : (a b : Bool) (P : Type 0) → Tells a P → P → (a && b) ≡ false → b ≡ false
last_is true b P tells p e = e
last_is false b P tells p e = absurd (tells p)

is_last : (a b : Bool) (P : Type 0) → Tells a P → (P → b ≡ false) → (a && b) ≡ false
is_last true b P tells f = f tells
is_last false b P tells f = refl

airports_by : (c : Case) (ahead : Bool) (P : Type 0) (leg : Leg) → Tells ahead P → (barred c ahead leg ≡ []) ↔ MayUseAirports c P leg
airports_by c ahead P leg tells =
    let first : List ℕ = place_if (is_barred c leg.to) 0 in
    let second : List ℕ = places_from (λ it. is_barred c it.station) 1 leg.alternates in
    let last : Bool = ahead && is_barred_takeoff c leg.takeoff_alternate in (
      λ e.
          let outer = parts_none (first ++ second) (place_if last 9) e in
          let inner = parts_none first second outer.0 in
          record {
            destination = told_not (is_barred c leg.to) (MayUse c leg.to) (usable c leg.to) (place_none (is_barred c leg.to) 0 inner.0);
            alternates = each_passes (λ it. is_barred c it.station) (λ it. MayUse c it.station) (λ it. usable c it.station) 1 leg.alternates inner.1;
            takeoff = λ p. barred_takeoff c leg.takeoff_alternate (last_is ahead (is_barred_takeoff c leg.takeoff_alternate) P tells p (place_none last 9 outer.1));
          },
      λ may.
          none_joined (first ++ second) (place_if last 9)
          (none_joined first second (ap (λ b. place_if b 0) (refuted (is_barred c leg.to) (MayUse c leg.to) (usable c leg.to) may.destination))
          (passes_each (λ it. is_barred c it.station) (λ it. MayUse c it.station) (λ it. usable c it.station) 1 leg.alternates may.alternates))
          (ap (λ b. place_if b 9) (is_last ahead (is_barred_takeoff c leg.takeoff_alternate) P tells (λ p. takeoff_barred c leg.takeoff_alternate (may.takeoff p)))),
    )

-- where a leg stands
standing_places : (rule : Rule) (c : Case) (s : Standing) (leg : Leg) (places : List ℕ) → (s ≡ Flown → ⊥) → is_of_departure rule ≡ false
    → ((ahead : Bool) → places_of rule c ahead leg ≡ places) → places_at rule c s leg ≡ places
standing_places rule c Ahead leg places flies both is = is true
standing_places rule c InFlight leg places flies both is = rw both (is false)
standing_places rule c Flown leg places flies both is = absurd (flies refl)

airports_at : (c : Case) (s : Standing) (leg : Leg) → (s ≡ Flown → ⊥) → (places_at No13 c s leg ≡ []) ↔ MayUseAirports c (s ≡ Ahead) leg
airports_at c Ahead leg flies = airports_by c true (Ahead ≡ Ahead) leg refl
airports_at c InFlight leg flies = airports_by c false (InFlight ≡ Ahead) leg (λ e. absurd (cc))
airports_at c Flown leg flies = absurd (flies refl)

case_is : (plan : Plan) (g : Grounds) (number : ℕ) (leg : Leg) (aircraft : TypeRow) → IsJudged plan g number leg aircraft → case_for plan g ≡ Some (case_of g plan aircraft)
case_is plan g number leg aircraft is = rw (is.passes, is.has_type) refl

abbrev silent_at : Plan → Phase → Grounds → Rule → ℕ → Type 0 → Type 0
silent_at plan phase g rule number S = IsSilent (findings_of plan phase g) rule number ↔ S

-- a rule of a leg that isn't flown
follows_flying : (plan : Plan) (phase : Phase) (g : Grounds) (rule : Rule) (number : ℕ) (leg : Leg) (c : Case) (places : List ℕ) (S : Type 0) → (rule ≡ No19 → ⊥)
    → leg_numbered number 1 plan.legs ≡ Some leg → case_for plan g ≡ Some c → (standing phase number ≡ Flown → ⊥)
    → ((o : Option Case) → places_for plan phase g o rule number leg ≡ places_in_case rule o (standing phase number) leg) → is_of_departure rule ≡ false
    → ((ahead : Bool) → places_of rule c ahead leg ≡ places) → ((places ≡ []) ↔ S) → silent_at plan phase g rule number S
follows_flying plan phase g rule number leg c places S legs stands is flies alone both at exact =
    by_places plan phase g rule number leg places S legs stands
    (alone (case_for plan g) ∙ ap (λ o. places_in_case rule o (standing phase number) leg) is ∙ standing_places rule c (standing phase number) leg places flies both at) exact

-- a rule of a leg that hasn't departed
follows_ahead : (plan : Plan) (phase : Phase) (g : Grounds) (rule : Rule) (number : ℕ) (leg : Leg) (c : Case) (places : List ℕ) (S : Type 0) → (rule ≡ No19 → ⊥)
    → leg_numbered number 1 plan.legs ≡ Some leg → case_for plan g ≡ Some c → standing phase number ≡ Ahead
    → ((o : Option Case) → places_for plan phase g o rule number leg ≡ places_in_case rule o (standing phase number) leg)
    → places_of rule c true leg ≡ places → ((places ≡ []) ↔ S) → silent_at plan phase g rule number S
follows_ahead plan phase g rule number leg c places S legs stands is ahead alone at exact =
    by_places plan phase g rule number leg places S legs stands
    (alone (case_for plan g) ∙ ap (λ o. places_in_case rule o (standing phase number) leg) is ∙ ap (λ s. places_at rule c s leg) ahead ∙ at) exact

-- a rule of time
follows_time : (plan : Plan) (phase : Phase) (g : Grounds) (rule : Rule) (number : ℕ) (leg : Leg) (S : Type 0) → (rule ≡ No19 → ⊥) → leg_numbered number 1 plan.legs ≡ Some leg
    → ((c : Case) (ahead : Bool) → places_of rule c ahead leg ≡ []) → is_of_departure rule ≡ false
    → Tells (not (is_late rule g.tables.settings plan.kind phase number leg g.moment)) S → silent_at plan phase g rule number S
follows_time plan phase g rule number leg S legs stands none both tells =
    let late : Bool = is_late rule g.tables.settings plan.kind phase number leg g.moment in
    by_places plan phase g rule number leg (place_if late 0) S legs stands
    (ap (λ ps. place_if late 0 ++ ps) (no_place rule (case_for plan g) (standing phase number) leg none both) ∙ append-nil (place_if late 0))
    (by_test late 0 S tells)

-- alternates of the destination (14 CFR 121.625)
low_exactly : (c : Case) (leg : Leg) → (low_alternates c leg ≡ []) ↔ All (λ it. AllowsAlternate c it.station (leg.eta + it.minutes)) leg.alternates
low_exactly c leg =
    let fails : Alternate → Bool = λ it. is_below_alternate c it.station (leg.eta + it.minutes) in
    let S : Alternate → Type 0 = λ it. AllowsAlternate c it.station (leg.eta + it.minutes) in
    let tells = λ (it : Alternate). section.alternate_tells c it.station (leg.eta + it.minutes) in
    (each_passes fails S tells 1 leg.alternates, passes_each fails S tells 1 leg.alternates)

follows_airports : (plan : Plan) (phase : Phase) (g : Grounds) (number : ℕ) (leg : Leg) (c : Case) → leg_numbered number 1 plan.legs ≡ Some leg → case_for plan g ≡ Some c
    → (standing phase number ≡ Flown → ⊥) → silent_at plan phase g No13 number (MayUseAirports c (standing phase number ≡ Ahead) leg)
follows_airports plan phase g number leg c stands is flies =
    by_places plan phase g No13 number leg (places_at No13 c (standing phase number) leg) (MayUseAirports c (standing phase number ≡ Ahead) leg) (λ e. absurd (cc)) stands
    (ap (λ o. places_in_case No13 o (standing phase number) leg) is) (airports_at c (standing phase number) leg flies)

follow_time : (plan : Plan) (phase : Phase) (g : Grounds) (number : ℕ) (leg : Leg) → leg_numbered number 1 plan.legs ≡ Some leg → FollowsTime plan phase g (findings_of plan phase g) number leg
follow_time plan phase g number leg stands = record {
  domestic_stop = follows_time plan phase g No1 number leg _ (λ e. absurd (cc)) stands (λ c ahead. refl) refl (section.domestic_stop_tells plan.kind phase number g.moment);
  flag_stop = follows_time plan phase g No2 number leg _ (λ e. absurd (cc)) stands (λ c ahead. refl) refl (section.flag_stop_tells plan.kind phase number g.moment);
  departure = follows_time plan phase g No17 number leg _ (λ e. absurd (cc)) stands (λ c ahead. refl) refl (section.departure_tells phase number (leg.etd + g.tables.settings.late_off) g.moment);
  arrival = follows_time plan phase g No18 number leg _ (λ e. absurd (cc)) stands (λ c ahead. refl) refl (section.arrival_tells phase number (leg.eta + g.tables.settings.late_on) g.moment);
}

follow_sections : (plan : Plan) (phase : Phase) (g : Grounds) (number : ℕ) (leg : Leg) (c : Case) → leg_numbered number 1 plan.legs ≡ Some leg → case_for plan g ≡ Some c
    → (standing phase number ≡ Flown → ⊥) → FollowsSections c (findings_of plan phase g) number leg (standing phase number ≡ Ahead)
follow_sections plan phase g number leg c stands is flies = record {
  landing = follows_flying plan phase g No3 number leg c _ _ (λ e. absurd (cc)) stands is flies (λ o. refl) refl (λ ahead. refl) (by_test (is_below_landing c leg) 0 _ (section.landing_tells c leg));
  domestic_alternate = follows_flying plan phase g No7 number leg c _ _ (λ e. absurd (cc)) stands is flies (λ o. refl) refl (λ ahead. refl) (by_test (lacks_domestic_alternate c leg) 0 _ (section.domestic_alternate_tells c leg));
  second_alternate = follows_flying plan phase g No8 number leg c _ _ (λ e. absurd (cc)) stands is flies (λ o. refl) refl (λ ahead. refl) (by_test (lacks_second_alternate c leg) 0 _ (section.second_alternate_tells c leg));
  flag_alternate = follows_flying plan phase g No9 number leg c _ _ (λ e. absurd (cc)) stands is flies (λ o. refl) refl (λ ahead. refl) (by_test (lacks_flag_alternate c leg) 0 _ (section.flag_alternate_tells c leg));
  alternates = follows_flying plan phase g No10 number leg c _ _ (λ e. absurd (cc)) stands is flies (λ o. refl) refl (λ ahead. refl) (low_exactly c leg);
  airports = follows_airports plan phase g number leg c stands is flies;
  domestic_fuel = follows_flying plan phase g No14 number leg c _ _ (λ e. absurd (cc)) stands is flies (λ o. refl) refl (λ ahead. refl) (by_test (is_short_domestic c leg) 0 _ (domestic_fuel_tells c leg));
  flag_fuel = follows_flying plan phase g No15 number leg c _ _ (λ e. absurd (cc)) stands is flies (λ o. refl) refl (λ ahead. refl) (by_test (is_short_flag c leg) 0 _ (flag_fuel_tells c leg));
  aboard = follows_flying plan phase g No16 number leg c _ _ (λ e. absurd (cc)) stands is flies (λ o. refl) refl (λ ahead. refl) (by_test (is_underfilled leg) 0 _ (tells_not_less leg.onboard leg.minimum));
}

follow_departure : (plan : Plan) (phase : Phase) (g : Grounds) (number : ℕ) (leg : Leg) (c : Case) → leg_numbered number 1 plan.legs ≡ Some leg → case_for plan g ≡ Some c
    → standing phase number ≡ Ahead → FollowsDeparture c (findings_of plan phase g) number leg
follow_departure plan phase g number leg c stands is ahead = record {
  takeoff_alternate = follows_ahead plan phase g No4 number leg c _ _ (λ e. absurd (cc)) stands is ahead (λ o. refl) refl (by_test (lacks_takeoff_alternate c leg) 0 _ (section.takeoff_tells c leg));
  takeoff_range = follows_ahead plan phase g No5 number leg c _ _ (λ e. absurd (cc)) stands is ahead (λ o. refl) refl (by_test (has_far_takeoff_alternate c leg) 0 _ (section.takeoff_range_tells c leg));
  takeoff_weather = follows_ahead plan phase g No6 number leg c _ _ (λ e. absurd (cc)) stands is ahead (λ o. refl) refl (by_test (has_low_takeoff_alternate c leg) 0 _ (section.takeoff_weather_tells c leg));
  deferred = follows_ahead plan phase g No11 number leg c _ _ (λ e. absurd (cc)) stands is ahead (λ o. refl) refl
      (each_allowed (is_limiting c leg) (IsAllowed c leg) (section.allowed_tells c leg) c.deferred, allowed_each (is_limiting c leg) (IsAllowed c leg) (section.allowed_tells c leg) c.deferred);
  repair = follows_ahead plan phase g No12 number leg c _ _ (λ e. absurd (cc)) stands is ahead (λ o. refl) refl
      (each_allowed (is_overdue c leg) (ArrivesBeforeRepair c leg) (section.repair_tells c leg) c.deferred, allowed_each (is_overdue c leg) (ArrivesBeforeRepair c leg) (section.repair_tells c leg) c.deferred);
}

-- the rule of the tables
tables_at : (plan : Plan) (phase : Phase) (g : Grounds) (number : ℕ) (o : Option Leg) (place : ℕ) → FailsAt (places_for plan phase g (case_for plan g)) No19 number o place → ⊥
tables_at plan phase g number None place fails = fails
tables_at plan phase g number (Some leg) place fails =
    none_in (places_for plan phase g (case_for plan g) No19 number leg) (no_place No19 (case_for plan g) (standing phase number) leg (λ c ahead. refl) refl) place fails

of_tables : (plan : Plan) (phase : Phase) (g : Grounds) (number place : ℕ) → Contains (findings_of plan phase g) (finding No19 number place) → Contains (findings_of_tables plan g) (finding No19 number place)
of_tables plan phase g number place there =
    let fails : Fails plan phase g No19 number place = at_each (IsTrueOf plan phase g) (findings_of plan phase g) (finding No19 number place) there.0 (findings_are_true plan phase g) there.1 there.2 in
    elim fails [
      | inl at ↦ absurd (tables_at plan phase g number (leg_numbered number 1 plan.legs) place at)
      | inr there ↦ there
    ]

-- a captain with 100 hours has no raised minima
by_landing : (number : ℕ) (leg : Leg) (c : Case) (fs : List Finding) (ahead : Type 0) → 100 ≤ c.hours → FollowsSections c fs number leg ahead
    → IsSilent fs No3 number ↔ AllowsLanding c leg.to leg.eta
by_landing number leg c fs ahead enough follows =
    (λ silent. (follows.landing.0 silent).by_minima enough, λ allows. follows.landing.1 (record { by_minima = λ e. allows; by_raised = λ few. absurd (omega (arith, few, enough)) }))

pub findings_follow_regulation : (plan : Plan) (phase : Phase) (g : Grounds) → FollowRegulation plan phase g (findings_of plan phase g)
findings_follow_regulation plan phase g = record {
  time = follow_time plan phase g;
  not_flown = λ number leg aircraft is flies. follow_sections plan phase g number leg (case_of g plan aircraft) is.stands (case_is plan g number leg aircraft is) flies;
  ahead = λ number leg aircraft is ahead. follow_departure plan phase g number leg (case_of g plan aircraft) is.stands (case_is plan g number leg aircraft is) ahead;
  experienced = λ number leg aircraft is flies enough.
      by_landing number leg (case_of g plan aircraft) (findings_of plan phase g) (standing phase number ≡ Ahead) enough
      (follow_sections plan phase g number leg (case_of g plan aircraft) is.stands (case_is plan g number leg aircraft is) flies);
  tables = follow_tables plan g (findings_of plan phase g) (of_tables plan phase g) (λ number place there. findings_name_all plan phase g No19 number place (inr there));
}
