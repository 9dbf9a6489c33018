-- The sheet has a line at each leg and place where a rule compares something, and nowhere else.
use Rattle.std.proofs.Common.{◌≡◌, ℕ, zero, suc, ◌+◌, ◌<◌, Bool, true, false, ◌&&◌, cond, List, [], ◌∷◌, ◌++◌, map, length, get_or, Contains, Option, None, Some, refl, ap, sym, subst, ◌∙◌, eq-eqb, arith}
use Rattle.std.specs.Prelude.{IfSome}
use Rattle.std.specs.List.{AllByRecursion, filter_map, cons_option, slice_get}
use Rattle.std.specs.Option.{option_map}
use Rattle.std.proofs.lemmas.List.{map-append}
use Rattle.std.proofs.lemmas.List.Elements.{All-contains_itself, Contains-append_left, Contains-append_right}
use Rattle.desk_io.proofs.Each.{each_append}
use Rattle.deferrals.specs.declared.items.Deferral.{Deferral}
use Rattle.ops_tables.specs.Tables.{type_of}
use Rattle.ops_tables.specs.declared.rows.MelRow.{MelRow}
use Rattle.ops_tables.specs.declared.rows.Settings.{Settings}
use Rattle.ops_tables.specs.declared.rows.TypeRow.{TypeRow}
use Rattle.codes.specs.Minima.{meets}
use Rattle.plan.specs.AlternateNeeds.{needs_takeoff}
use Rattle.plan.specs.Check.{plan_fault}
use Rattle.plan.specs.Findings.{rules_of_legs}
use Rattle.plan.specs.Phases.{standing, is_flying}
use Rattle.plan.specs.declared.check.BadPlan.{BadPlan}
use Rattle.plan.specs.declared.findings.Finding.{Finding}
use Rattle.plan.specs.declared.findings.Rule.{Rule}
use Rattle.plan.specs.declared.findings.Rule.TheVariants.{No1, No2, No3, No4, No5, No6, No7, No8, No9, No10, No11, No12, No13, No14, No15, No16, No17, No18, No19}
use Rattle.plan.specs.declared.flights.Alternate.{Alternate}
use Rattle.plan.specs.declared.flights.Kind.{Kind}
use Rattle.plan.specs.declared.flights.Kind.TheVariants.{Domestic, Flag}
use Rattle.plan.specs.declared.flights.Leg.{Leg}
use Rattle.plan.specs.declared.flights.Plan.{Plan}
use Rattle.plan.specs.declared.flights.TakeoffAlternate.{TakeoffAlternate}
use Rattle.plan.specs.declared.release.Phase.{Phase}
use Rattle.plan.specs.declared.release.Phase.TheVariants.{Stopped}
use Rattle.plan.specs.declared.release.Standing.{Standing}
use Rattle.plan.specs.declared.release.Standing.TheVariants.{Ahead, InFlight, Flown}
use Rattle.rules.specs.Circumstances.{Case, case_of, weather_at, landing_at}
use Rattle.rules.specs.DestinationAlternates.{is_domestic, is_flag, needs_alternate}
use Rattle.rules.specs.Grounds.{Grounds}
use Rattle.rules.specs.Judgement.{is_of_departure, case_unless, case_for, finding, findings_by, leg_numbered, FailsAt}
use Rattle.rules.specs.Regulation.{AllowsLanding, DepartsNext, first_of_draft, first, after_stop, NeedsAlternate, NeedsTakeoffAlternate}
use Rattle.rules.specs.TakeoffAlternates.{needs_takeoff_alternate}
use Rattle.rules.specs.Time.{only_if, unless_again, departs_next}
use Rattle.rules.proofs.SectionTells.{domestic_tells, flag_tells, needed_tells}
use Rattle.rules.proofs.Tells.{Tells, told, tested, tells_not}
use Rattle.rules.proofs.Truth.{each_of_all, named}
use Rattle.rules.proofs.WeatherTells.{meets_tells}
use Rattle.sheet.specs.declared.lines.Compared.TheVariants as compared
use Rattle.sheet.specs.declared.lines.Line.{Line}
use Rattle.sheet.specs.Applies as asked
use Rattle.sheet.specs.Applies.{IsAsked, Applies, IsWhole}
use Rattle.sheet.specs.Equipment.{row_of, limit_line, repair_line, repair_at, airport_line, alternate_airport, takeoff_airport}
use Rattle.sheet.specs.Fuel.{fuel_sum}
use Rattle.sheet.specs.Lines.{key, line, line_if, numbered}
use Rattle.sheet.specs.Needs.{need_line, second_line, of_only}
use Rattle.sheet.specs.Sheet.{lines_of, lines_at, lines_in_case, lines_for, lines_by, tables_line, line_of_tables, sheet_of}
use Rattle.sheet.specs.Time.{stopped_since, counts_since, allowed, lines_since, time_lines}
use Rattle.sheet.specs.Weather.{range_line, takeoff_weather, alternate_weather, of_takeoff}
use Rattle.sheet.specs.World as world
use Rattle.sheet.proofs.EachLine.{in_map, in_filter_map, in_numbered, in_one, in_takeoff, in_only, in_rules}
use Rattle.sheet.proofs.KeyLaws.{places_of_lines, places_on, sheet_places, no_lines, keys_are}
use Rattle.sheet.proofs.WorldLaws.{allows_by}

takeoff_needed : (c : Case) (leg : Leg) → Tells (needs_takeoff_alternate c leg) (NeedsTakeoffAlternate c leg)
unfolding needs_takeoff
takeoff_needed c leg =
    tells_not (meets (weather_at c.grounds leg.from leg.etd) (landing_at c leg.from)) (AllowsLanding c leg.from leg.etd) (meets_tells c.grounds leg.from leg.etd (landing_at c leg.from))

both_true : (a b : Bool) → (a && b) ≡ true → (a ≡ true) × (b ≡ true)
both_true true b is = (refl, is)
both_true false b is = absurd (cc)

both_hold : (a b : Bool) → a ≡ true → b ≡ true → (a && b) ≡ true
both_hold a b one two = rw (one, two) refl

is_of_domestic : (flight : Kind) → flight ≡ Domestic → is_domestic flight ≡ true
is_of_domestic flight e = tested (is_domestic flight) (flight ≡ Domestic) (domestic_tells flight) e

is_of_flag : (flight : Kind) → flight ≡ Flag → is_flag flight ≡ true
is_of_flag flight e = tested (is_flag flight) (flight ≡ Flag) (flag_tells flight) e

unless_departed : (departed : Bool) (P : Line → Type 0) (ls : List Line) → (departed ≡ false → AllByRecursion P ls) → AllByRecursion P (cond departed [] ls)
unless_departed true P ls all = tt
unless_departed false P ls all = all refl

-- No other lines

-- the aircraft of a plan that has a case
record HasCase (plan : Plan) (g : Grounds) (c : Case) : Type 0 where
  aircraft : TypeRow
  passes : plan_fault g.tables plan ≡ None
  typed : type_of g.tables plan.tail ≡ Some aircraft
  same : case_of g plan aircraft ≡ c

abbrev case_or : Case → Option Case → Case
case_or other None = other
case_or other (Some c) = c

typed_by : (plan : Plan) (g : Grounds) (o : Option TypeRow) → type_of g.tables plan.tail ≡ o → plan_fault g.tables plan ≡ None → (c : Case) → option_map (case_of g plan) o ≡ Some c → HasCase plan g c
typed_by plan g None typed passes c e = absurd (cc)
typed_by plan g (Some aircraft) typed passes c e = record { aircraft = aircraft; passes = passes; typed = typed; same = ap (case_or c) e }

has_case : (plan : Plan) (g : Grounds) (bad : Option BadPlan) → plan_fault g.tables plan ≡ bad → (c : Case) → case_unless bad plan g ≡ Some c → HasCase plan g c
has_case plan g (Some bad) is c e = absurd (cc)
has_case plan g None is c e = typed_by plan g (type_of g.tables plan.tail) refl is c e

module _ (plan : Plan) (phase : Phase) (g : Grounds) where
  abbrev Of : Line → Type 0
  Of l = Applies plan phase g l.rule l.leg l.place

  abbrev Each : List Line → Type 0
  Each lines = AllByRecursion Of lines

  module _ (c : Case) (has : HasCase plan g c) (n : ℕ) (leg : Leg) (stands : leg_numbered n 1 plan.legs ≡ Some leg) (state : Standing) (is_state : standing phase n ≡ state) (still : state ≡ Flown → ⊥) where
    of_it : (rule : Rule) (place : ℕ) → IsAsked c state leg rule place → Applies plan phase g rule n place
    of_it rule place is =
        asked.on_leg rule n place leg has.aircraft (record { stands = stands; passes = has.passes; has_type = has.typed })
        (λ flown. still (sym is_state ∙ flown))
        (subst (λ s. IsAsked (case_of g plan has.aircraft) s leg rule place) (sym is_state) (subst (λ d. IsAsked d state leg rule place) (sym has.same) is))

    in_repair : (d : Deferral) (row : Option MelRow) → row_of c d ≡ row → state ≡ Ahead → Contains c.deferred d → IfSome (repair_at n leg d row) Of
    in_repair d None is ahead among = tt
    in_repair d (Some row) is ahead among = of_it No12 d.id (asked.repair d row ahead among is)

    in_airport : (ahead : Bool) (listed : Option TakeoffAlternate) → (ahead ≡ true → state ≡ Ahead) → leg.takeoff_alternate ≡ listed → Each (takeoff_airport c ahead n listed)
    in_airport false listed before is = tt
    in_airport true None before is = tt
    in_airport true (Some it) before is = (of_it No13 9 (asked.takeoff_airport it (before refl) is), tt)

    in_airports : (ahead : Bool) → (ahead ≡ true → state ≡ Ahead) → Each ((airport_line c n 0 leg.to ∷ []) ++ numbered (alternate_airport c n) 1 leg.alternates ++ takeoff_airport c ahead n leg.takeoff_alternate)
    in_airports ahead before =
        each_append Of ((airport_line c n 0 leg.to ∷ []) ++ numbered (alternate_airport c n) 1 leg.alternates) (takeoff_airport c ahead n leg.takeoff_alternate)
        (each_append Of (airport_line c n 0 leg.to ∷ []) (numbered (alternate_airport c n) 1 leg.alternates) (of_it No13 0 asked.destination, tt)
        (in_numbered Of (alternate_airport c n) 1 leg.alternates (λ k it is. of_it No13 (1 + k) (asked.alternate_airport k it is))))
        (in_airport ahead leg.takeoff_alternate before refl)

    domestic : is_domestic c.flight ≡ true → c.flight ≡ Domestic
    domestic is = told (is_domestic c.flight) (c.flight ≡ Domestic) (domestic_tells c.flight) is

    flag : is_flag c.flight ≡ true → c.flight ≡ Flag
    flag is = told (is_flag c.flight) (c.flight ≡ Flag) (flag_tells c.flight) is

    below : needs_takeoff_alternate c leg ≡ true → NeedsTakeoffAlternate c leg
    below is = told (needs_takeoff_alternate c leg) (NeedsTakeoffAlternate c leg) (takeoff_needed c leg) is

    second : (it : Alternate) → (is_domestic c.flight && needs_alternate c leg) ≡ true → leg.alternates ≡ it ∷ [] → IsAsked c state leg No8 0
    second it is one =
        let both = both_true (is_domestic c.flight) (needs_alternate c leg) is in
        asked.second_alternate it (domestic both.0) (told (needs_alternate c leg) (NeedsAlternate c leg) (needed_tells c leg) both.1) one

    among : AllByRecursion (Contains c.deferred) c.deferred
    among = each_of_all (Contains c.deferred) c.deferred (All-contains_itself c.deferred)

    -- the lines of a rule, if the leg stands where the rule compares it
    of_rule : (rule : Rule) (ahead : Bool) → (ahead ≡ true → state ≡ Ahead) → (is_of_departure rule ≡ true → state ≡ Ahead) → Each (lines_of rule c ahead n leg)
    of_rule No1 ahead before departs = tt
    of_rule No2 ahead before departs = tt
    of_rule No3 ahead before departs = (of_it No3 0 asked.landing, tt)
    of_rule No4 ahead before departs = (of_it No4 0 (asked.departure (departs refl)), tt)
    of_rule No5 ahead before departs =
        in_takeoff Of (range_line c n leg) (needs_takeoff_alternate c leg) leg.takeoff_alternate
        (λ it needed is. of_it No5 0 (asked.takeoff_range it (departs refl) (below needed) is))
    of_rule No6 ahead before departs =
        in_takeoff Of (takeoff_weather c n leg) (needs_takeoff_alternate c leg) leg.takeoff_alternate
        (λ it needed is. of_it No6 0 (asked.takeoff_weather it (departs refl) (below needed) is))
    of_rule No7 ahead before departs = in_one Of (is_domestic c.flight) (need_line No7 c n leg) (λ is. of_it No7 0 (asked.domestic_alternate (domestic is)))
    of_rule No8 ahead before departs =
        in_only Of (second_line c n leg) (is_domestic c.flight && needs_alternate c leg) leg.alternates (λ it is one. of_it No8 0 (second it is one))
    of_rule No9 ahead before departs = in_one Of (is_flag c.flight) (need_line No9 c n leg) (λ is. of_it No9 0 (asked.flag_alternate (flag is)))
    of_rule No10 ahead before departs = in_numbered Of (alternate_weather c n leg) 1 leg.alternates (λ k it is. of_it No10 (1 + k) (asked.alternate k it is))
    of_rule No11 ahead before departs = in_map Of (Contains c.deferred) (limit_line c n leg) (λ d has. of_it No11 d.id (asked.deferred d (departs refl) has)) c.deferred among
    of_rule No12 ahead before departs =
        in_filter_map Of (Contains c.deferred) (λ d. repair_at n leg d (row_of c d)) (λ d has. in_repair d (row_of c d) refl (departs refl) has) c.deferred among
    of_rule No13 ahead before departs = in_airports ahead before
    of_rule No14 ahead before departs = in_one Of (is_domestic c.flight) (line No14 n 0 (compared.Fuel (fuel_sum c leg))) (λ is. of_it No14 0 (asked.domestic_fuel (domestic is)))
    of_rule No15 ahead before departs = in_one Of (is_flag c.flight) (line No15 n 0 (compared.Fuel (fuel_sum c leg))) (λ is. of_it No15 0 (asked.flag_fuel (flag is)))
    of_rule No16 ahead before departs = (of_it No16 0 asked.aboard, tt)
    of_rule No17 ahead before departs = tt
    of_rule No18 ahead before departs = tt
    of_rule No19 ahead before departs = tt

  in_case : (rule : Rule) (o : Option Case) → case_for plan g ≡ o → (n : ℕ) (leg : Leg) → leg_numbered n 1 plan.legs ≡ Some leg → (state : Standing) → standing phase n ≡ state
      → Each (lines_in_case rule o state n leg)
  in_case rule None is n leg stands state e = tt
  in_case rule (Some c) is n leg stands Ahead e =
      of_rule c (has_case plan g (plan_fault g.tables plan) refl c is) n leg stands Ahead e (λ f. absurd (cc)) rule true (λ t. refl) (λ t. refl)
  in_case rule (Some c) is n leg stands InFlight e =
      unless_departed (is_of_departure rule) Of (lines_of rule c false n leg)
      (λ stays. of_rule c (has_case plan g (plan_fault g.tables plan) refl c is) n leg stands InFlight e (λ f. absurd (cc)) rule false (λ t. absurd (cc)) (λ t. absurd (let clash : false ≡ true = sym stays ∙ t in cc)))
  in_case rule (Some c) is n leg stands Flown e = tt

  in_time : (rule : Rule) (n : ℕ) (leg : Leg) → leg_numbered n 1 plan.legs ≡ Some leg → (o : Option ℕ) → counts_since rule plan.kind phase n leg ≡ o
      → Each (lines_since rule n o (allowed rule g.tables.settings) g.moment)
  in_time rule n leg stands None is = tt
  in_time rule n leg stands (Some since) is =
      (asked.in_time rule n since (allowed rule g.tables.settings) leg stands (allows_by plan.kind phase g.tables.settings n leg rule since is), tt)

  in_leg : (rule : Rule) (n : ℕ) (leg : Leg) → leg_numbered n 1 plan.legs ≡ Some leg → Each (lines_for plan phase g (case_for plan g) rule n leg)
  in_leg rule n leg stands =
      each_append Of (time_lines rule g.tables.settings plan.kind phase n leg g.moment) (lines_in_case rule (case_for plan g) (standing phase n) n leg)
      (in_time rule n leg stands (counts_since rule plan.kind phase n leg) refl) (in_case rule (case_for plan g) refl n leg stands (standing phase n) refl)

  in_tables : (bad : Option BadPlan) (aircraft : Option TypeRow) → plan_fault g.tables plan ≡ bad → Of (tables_line bad aircraft)
  in_tables (Some bad) aircraft is = asked.bad_plan bad is
  in_tables None aircraft is = asked.good_plan is

  only_asked : Each (sheet_of plan phase g)
  unfolding sheet_of
  only_asked =
      each_append Of (lines_by (lines_for plan phase g (case_for plan g)) rules_of_legs plan.legs) (line_of_tables plan g ∷ [])
      (in_rules Of (lines_for plan phase g (case_for plan g)) plan.legs (λ rule n leg stands. in_leg rule n leg stands) rules_of_legs)
      (in_tables (plan_fault g.tables plan) (type_of g.tables plan.tail) refl, tt)

-- All of them

abbrev zero_alone : List ℕ
zero_alone = 0 ∷ []

only_zero : Contains zero_alone 0
only_zero = (0, omega arith, refl)

-- the first of the places
at_first : (l : Line) (place : ℕ) (rest : List Line) → l.place ≡ place → Contains (places_of_lines (l ∷ rest)) place
at_first l place rest is = (0, omega arith, is)

later : (l : Line) (place : ℕ) (rest : List Line) → Contains (places_of_lines rest) place → Contains (places_of_lines (l ∷ rest)) place
later l place rest there = Contains-append_right (l.place ∷ []) (places_of_lines rest) place there

in_parts : (xs ys : List Line) (place : ℕ) → Contains (places_of_lines xs ++ places_of_lines ys) place → Contains (places_of_lines (xs ++ ys)) place
in_parts xs ys place there = subst (λ ps. Contains ps place) (sym (map-append (λ (l : Line). l.place) xs ys)) there

on_left : (xs ys : List Line) (place : ℕ) → Contains (places_of_lines xs) place → Contains (places_of_lines (xs ++ ys)) place
on_left xs ys place there = in_parts xs ys place (Contains-append_left (places_of_lines xs) (places_of_lines ys) place there)

on_right : (xs ys : List Line) (place : ℕ) → Contains (places_of_lines ys) place → Contains (places_of_lines (xs ++ ys)) place
on_right xs ys place there = in_parts xs ys place (Contains-append_right (places_of_lines xs) (places_of_lines ys) place there)

if_so : (b : Bool) (l : Line) (place : ℕ) → b ≡ true → l.place ≡ place → Contains (places_of_lines (line_if b l)) place
if_so true l place b is = at_first l place [] is
if_so false l place b is = absurd (cc)

if_listed : (at : TakeoffAlternate → Line) (needed : Bool) (listed : Option TakeoffAlternate) (it : TakeoffAlternate) → needed ≡ true → listed ≡ Some it → ((a : TakeoffAlternate) → (at a).place ≡ 0)
    → Contains (places_of_lines (of_takeoff at needed listed)) 0
if_listed at false listed it needed is each = absurd (cc)
if_listed at true None it needed is each = absurd (cc)
if_listed at true (Some a) it needed is each = at_first (at a) 0 [] (each a)

if_only : (at : Alternate → Line) (applies : Bool) (listed : List Alternate) (it : Alternate) → applies ≡ true → listed ≡ it ∷ [] → ((a : Alternate) → (at a).place ≡ 0)
    → Contains (places_of_lines (of_only at applies listed)) 0
if_only at false listed it applies is each = absurd (cc)
if_only at true [] it applies is each = absurd (let n = ap length is in omega (arith, n))
if_only at true (a ∷ []) it applies is each = at_first (at a) 0 [] (each a)
if_only at true (a ∷ b ∷ rest) it applies is each = absurd (let n = ap length is in omega (arith, n))

at_number : (at : ℕ → Alternate → Line) → ((k : ℕ) (a : Alternate) → (at k a).place ≡ k) → (k : ℕ) (xs : List Alternate) (i : ℕ) (it : Alternate) → slice_get xs i ≡ Some it
    → Contains (places_of_lines (numbered at k xs)) (k + i)
at_number at is k [] i it found = absurd (cc)
at_number at is k (a ∷ xs) zero it found = at_first (at k a) (k + 0) (numbered at (k + 1) xs) (let same : k ≡ k + 0 = omega arith in is k a ∙ same)
at_number at is k (a ∷ xs) (suc i) it found =
    let same : (k + 1) + i ≡ k + suc i = omega arith in
    later (at k a) (k + suc i) (numbered at (k + 1) xs) (subst (λ p. Contains (places_of_lines (numbered at (k + 1) xs)) p) same (at_number at is (k + 1) xs i it found))

at_id : (at : Deferral → Line) → ((d : Deferral) → (at d).place ≡ d.id) → (ds : List Deferral) (d : Deferral) (k : ℕ) → k < length ds → get_or ds k d ≡ d → Contains (places_of_lines (map at ds)) d.id
at_id at is [] d k within there = absurd (omega (arith, within))
at_id at is (x ∷ ds) d zero within there = at_first (at x) d.id (map at ds) (is x ∙ ap (λ (e : Deferral). e.id) there)
at_id at is (x ∷ ds) d (suc k) within there = later (at x) d.id (map at ds) (at_id at is ds d k (omega (arith, within)) there)

module _ (c : Case) (n : ℕ) (leg : Leg) where
  first_repair : (x d : Deferral) (o : Option MelRow) (row : MelRow) (rest : List Line) → o ≡ Some row → x ≡ d → Contains (places_of_lines (cons_option (repair_at n leg x o) rest)) d.id
  first_repair x d None row rest has same = absurd (cc)
  first_repair x d (Some other) row rest has same = at_first (repair_line n leg x other) d.id rest (ap (λ (e : Deferral). e.id) same)

  later_repair : (x : Deferral) (place : ℕ) (o : Option MelRow) (rest : List Line) → Contains (places_of_lines rest) place → Contains (places_of_lines (cons_option (repair_at n leg x o) rest)) place
  later_repair x place None rest there = there
  later_repair x place (Some other) rest there = later (repair_line n leg x other) place rest there

  at_repair : (ds : List Deferral) (d : Deferral) (row : MelRow) (k : ℕ) → row_of c d ≡ Some row → k < length ds → get_or ds k d ≡ d
      → Contains (places_of_lines (filter_map (λ e. repair_at n leg e (row_of c e)) ds)) d.id
  at_repair [] d row k has within there = absurd (omega (arith, within))
  at_repair (x ∷ ds) d row zero has within there =
      first_repair x d (row_of c x) row (filter_map (λ e. repair_at n leg e (row_of c e)) ds) (ap (row_of c) there ∙ has) there
  at_repair (x ∷ ds) d row (suc k) has within there =
      later_repair x d.id (row_of c x) (filter_map (λ e. repair_at n leg e (row_of c e)) ds) (at_repair ds d row k has (omega (arith, within)) there)

  at_takeoff : (listed : Option TakeoffAlternate) (it : TakeoffAlternate) → listed ≡ Some it → Contains (places_of_lines (takeoff_airport c true n listed)) 9
  at_takeoff None it is = absurd (cc)
  at_takeoff (Some a) it is = at_first (airport_line c n 9 a.station) 9 [] refl

  -- the leg stands where the rule compares it
  in_any : (rule : Rule) (state : Standing) (place : ℕ) → is_of_departure rule ≡ false → (state ≡ Flown → ⊥) → ((ahead : Bool) → Contains (places_of_lines (lines_of rule c ahead n leg)) place)
      → Contains (places_of_lines (lines_at rule c state n leg)) place
  in_any rule Ahead place stays still each = each true
  in_any rule InFlight place stays still each = rw stays (each false)
  in_any rule Flown place stays still each = absurd (still refl)

  if_ahead : (rule : Rule) (state : Standing) (place : ℕ) → state ≡ Ahead → Contains (places_of_lines (lines_of rule c true n leg)) place → Contains (places_of_lines (lines_at rule c state n leg)) place
  if_ahead rule state place is there = subst (λ s. Contains (places_of_lines (lines_at rule c s n leg)) place) (sym is) there

  asked_by : (state : Standing) → (state ≡ Flown → ⊥) → (rule : Rule) (place : ℕ) → IsAsked c state leg rule place → Contains (places_of_lines (lines_at rule c state n leg)) place
  asked_by state still rule place asked.landing = in_any No3 state 0 refl still (λ ahead. only_zero)
  asked_by state still rule place (asked.departure ahead) = if_ahead No4 state 0 ahead (only_zero)
  asked_by state still rule place (asked.takeoff_range it ahead needed is) =
      if_ahead No5 state 0 ahead
      (if_listed (range_line c n leg) (needs_takeoff_alternate c leg) leg.takeoff_alternate it (tested (needs_takeoff_alternate c leg) (NeedsTakeoffAlternate c leg) (takeoff_needed c leg) needed) is (λ a. refl))
  asked_by state still rule place (asked.takeoff_weather it ahead needed is) =
      if_ahead No6 state 0 ahead
      (if_listed (takeoff_weather c n leg) (needs_takeoff_alternate c leg) leg.takeoff_alternate it (tested (needs_takeoff_alternate c leg) (NeedsTakeoffAlternate c leg) (takeoff_needed c leg) needed) is (λ a. refl))
  asked_by state still rule place (asked.domestic_alternate is) =
      in_any No7 state 0 refl still (λ ahead. if_so (is_domestic c.flight) (need_line No7 c n leg) 0 (is_of_domestic c.flight is) refl)
  asked_by state still rule place (asked.second_alternate it is needs one) =
      in_any No8 state 0 refl still
      (λ ahead. if_only (second_line c n leg) (is_domestic c.flight && needs_alternate c leg) leg.alternates it
      (both_hold (is_domestic c.flight) (needs_alternate c leg) (is_of_domestic c.flight is) (tested (needs_alternate c leg) (NeedsAlternate c leg) (needed_tells c leg) needs)) one (λ a. refl))
  asked_by state still rule place (asked.flag_alternate is) =
      in_any No9 state 0 refl still (λ ahead. if_so (is_flag c.flight) (need_line No9 c n leg) 0 (is_of_flag c.flight is) refl)
  asked_by state still rule place (asked.alternate i it is) =
      in_any No10 state (1 + i) refl still (λ ahead. at_number (alternate_weather c n leg) (λ k a. refl) 1 leg.alternates i it is)
  asked_by state still rule place (asked.deferred d ahead has) =
      if_ahead No11 state d.id ahead (at_id (limit_line c n leg) (λ e. refl) c.deferred d has.0 has.1 has.2)
  asked_by state still rule place (asked.repair d row ahead has is) =
      if_ahead No12 state d.id ahead (at_repair c.deferred d row has.0 is has.1 has.2)
  asked_by state still rule place asked.destination =
      in_any No13 state 0 refl still
      (λ ahead. on_left ((airport_line c n 0 leg.to ∷ []) ++ numbered (alternate_airport c n) 1 leg.alternates) (takeoff_airport c ahead n leg.takeoff_alternate) 0
      (on_left (airport_line c n 0 leg.to ∷ []) (numbered (alternate_airport c n) 1 leg.alternates) 0 (at_first (airport_line c n 0 leg.to) 0 [] refl)))
  asked_by state still rule place (asked.alternate_airport i it is) =
      in_any No13 state (1 + i) refl still
      (λ ahead. on_left ((airport_line c n 0 leg.to ∷ []) ++ numbered (alternate_airport c n) 1 leg.alternates) (takeoff_airport c ahead n leg.takeoff_alternate) (1 + i)
      (on_right (airport_line c n 0 leg.to ∷ []) (numbered (alternate_airport c n) 1 leg.alternates) (1 + i) (at_number (alternate_airport c n) (λ k a. refl) 1 leg.alternates i it is)))
  asked_by state still rule place (asked.takeoff_airport it ahead is) =
      if_ahead No13 state 9 ahead
      (on_right ((airport_line c n 0 leg.to ∷ []) ++ numbered (alternate_airport c n) 1 leg.alternates) (takeoff_airport c true n leg.takeoff_alternate) 9 (at_takeoff leg.takeoff_alternate it is))
  asked_by state still rule place (asked.domestic_fuel is) =
      in_any No14 state 0 refl still (λ ahead. if_so (is_domestic c.flight) (line No14 n 0 (compared.Fuel (fuel_sum c leg))) 0 (is_of_domestic c.flight is) refl)
  asked_by state still rule place (asked.flag_fuel is) =
      in_any No15 state 0 refl still (λ ahead. if_so (is_flag c.flight) (line No15 n 0 (compared.Fuel (fuel_sum c leg))) 0 (is_of_flag c.flight is) refl)
  asked_by state still rule place asked.aboard = in_any No16 state 0 refl still (λ ahead. only_zero)

-- rules of time

departs : (phase : Phase) (n : ℕ) → DepartsNext phase n → departs_next phase n ≡ true
departs phase n first_of_draft = refl
departs phase n first = refl
departs phase n (after_stop {next = next}) = eq-eqb next next refl

stopped : (phase : Phase) (n since : ℕ) → phase ≡ Stopped n since false → stopped_since phase n ≡ Some since
stopped phase n since is =
    ap (λ p. stopped_since p n) is ∙ ap (λ b. only_if b (unless_again false since)) (eq-eqb n n refl)

only_true : (b : Bool) (o : Option ℕ) (since : ℕ) → b ≡ true → o ≡ Some since → only_if b o ≡ Some since
only_true b o since one two = rw (one, two) refl

counts : (flight : Kind) (phase : Phase) (settings : Settings) (n : ℕ) (leg : Leg) (rule : Rule) (since minutes : ℕ) → world.Allows flight phase settings n leg rule since minutes
    → counts_since rule flight phase n leg ≡ Some since
counts flight phase settings n leg rule since minutes (world.domestic_stop {since = at} kind stops) =
    only_true (is_domestic flight) (stopped_since phase n) at (is_of_domestic flight kind) (stopped phase n at stops)
counts flight phase settings n leg rule since minutes (world.flag_stop {since = at} kind stops) =
    only_true (is_flag flight) (stopped_since phase n) at (is_of_flag flight kind) (stopped phase n at stops)
counts flight phase settings n leg rule since minutes (world.next_departure next) = only_true (departs_next phase n) (Some leg.etd) leg.etd (departs phase n next) refl
counts flight phase settings n leg rule since minutes (world.next_arrival is) =
    only_true (is_flying phase n) (Some leg.eta) leg.eta (ap (λ p. is_flying p n) is ∙ eq-eqb n n refl) refl

since_has : (rule : Rule) (n : ℕ) (o : Option ℕ) (since minutes moment : ℕ) → o ≡ Some since → Contains (places_of_lines (lines_since rule n o minutes moment)) 0
since_has rule n None since minutes moment is = absurd (cc)
since_has rule n (Some at) since minutes moment is = only_zero

-- The sheet

never : (plan : Plan) (phase : Phase) (g : Grounds) (o : Option Case) (n : ℕ) (leg : Leg) → places_on (lines_for plan phase g o) No19 n leg ≡ []
never plan phase g o n leg = ap places_of_lines (no_lines No19 o (standing phase n) n leg (λ c ahead. refl) refl)

module _ (plan : Plan) (phase : Phase) (g : Grounds) where
  -- the place is among those of the rule on the leg
  on_leg_by : (rule : Rule) (n place : ℕ) (leg : Leg) → leg_numbered n 1 plan.legs ≡ Some leg → Contains (sheet_places plan phase g rule n leg) place
      → Contains (map key (sheet_of plan phase g)) (finding rule n place)
  on_leg_by rule n place leg stands there =
      subst (λ ks. Contains ks (finding rule n place)) (sym (keys_are plan phase g))
      (Contains-append_left (findings_by (sheet_places plan phase g) rules_of_legs plan.legs) (key (line_of_tables plan g) ∷ []) (finding rule n place)
      (named (sheet_places plan phase g) rule plan.legs n place (never plan phase g (case_for plan g)) (subst (λ o. FailsAt (sheet_places plan phase g) rule n o place) (sym stands) there)))

  of_tables_by : (f : Finding) → key (line_of_tables plan g) ≡ f → Contains (map key (sheet_of plan phase g)) f
  of_tables_by f is =
      subst (λ ks. Contains ks f) (sym (keys_are plan phase g))
      (Contains-append_right (findings_by (sheet_places plan phase g) rules_of_legs plan.legs) (key (line_of_tables plan g) ∷ []) f (0, omega arith, is))

  case_is : (aircraft : TypeRow) → plan_fault g.tables plan ≡ None → type_of g.tables plan.tail ≡ Some aircraft → case_for plan g ≡ Some (case_of g plan aircraft)
  case_is aircraft passes typed = ap (λ bad. case_unless bad plan g) passes ∙ ap (option_map (case_of g plan)) typed

  each_asked : (rule : Rule) (n place : ℕ) → Applies plan phase g rule n place → Contains (map key (sheet_of plan phase g)) (finding rule n place)
  each_asked rule n place (asked.in_time r k since minutes leg stands allows) =
      on_leg_by r k 0 leg stands
      (on_left (time_lines r g.tables.settings plan.kind phase k leg g.moment) (lines_in_case r (case_for plan g) (standing phase k) k leg) 0
      (since_has r k (counts_since r plan.kind phase k leg) since (allowed r g.tables.settings) g.moment (counts plan.kind phase g.tables.settings k leg r since minutes allows)))
  each_asked rule n place (asked.on_leg r k p leg aircraft judged still is) =
      on_leg_by r k p leg judged.stands
      (on_right (time_lines r g.tables.settings plan.kind phase k leg g.moment) (lines_in_case r (case_for plan g) (standing phase k) k leg) p
      (subst (λ o. Contains (places_of_lines (lines_in_case r o (standing phase k) k leg)) p) (sym (case_is aircraft judged.passes judged.has_type))
      (asked_by (case_of g plan aircraft) k leg (standing phase k) still r p is)))
  each_asked rule n place (asked.bad_plan bad is) = of_tables_by (finding No19 bad.leg 0) (ap (λ o. key (tables_line o (type_of g.tables plan.tail))) is)
  each_asked rule n place (asked.good_plan is) = of_tables_by (finding No19 0 0) (ap (λ o. key (tables_line o (type_of g.tables plan.tail))) is)

pub sheet_is_whole : (plan : Plan) (phase : Phase) (g : Grounds) → IsWhole plan phase g (sheet_of plan phase g)
sheet_is_whole plan phase g = record { only = only_asked plan phase g; each = each_asked plan phase g }
