-- The keys of the lines stand in order, each once.
use Rattle.std.proofs.Common.{◌≡◌, ℕ, ◌+◌, ◌<◌, ◌≤◌, Bool, true, false, ◌&&◌, cond, List, [], ◌∷◌, ◌++◌, map, length, Option, None, Some, append-nil, refl, ap, sym, subst, ◌∙◌, arith}
use Rattle.std.specs.Prelude.{filter, is_some, IfSome}
use Rattle.std.specs.List.{AllByRecursion, filter_map, cons_option}
use Rattle.std.specs.Option.{option_map}
use Rattle.std.proofs.lemmas.List.{map-append}
use Rattle.std.proofs.lemmas.List.Kept.{AllPairs-filter}
use Rattle.desk_io.proofs.Each.{each_append, each_weaker, each_of}
use Rattle.deferrals.specs.Held.{AreRising}
use Rattle.deferrals.specs.Limits.{is_of}
use Rattle.deferrals.specs.declared.items.Deferral.{Deferral}
use Rattle.ops_tables.specs.Tables.{type_of}
use Rattle.ops_tables.specs.declared.rows.MelRow.{MelRow}
use Rattle.ops_tables.specs.declared.rows.TypeRow.{TypeRow}
use Rattle.plan.proofs.FewAlternates.{HasFew, few_alternates}
use Rattle.plan.specs.Check.{plan_fault}
use Rattle.plan.specs.Findings.{AreInOrder, rules_of_legs}
use Rattle.plan.specs.Phases.{standing}
use Rattle.plan.specs.declared.check.BadPlan.{BadPlan}
use Rattle.plan.specs.declared.findings.Rule.{Rule}
use Rattle.plan.specs.declared.findings.Rule.TheVariants.{No1, No2, No3, No4, No5, No6, No7, No8, No9, No10, No11, No12, No13, No14, No15, No16, No17, No18, No19}
use Rattle.plan.specs.declared.flights.Alternate.{Alternate}
use Rattle.plan.specs.declared.flights.Leg.{Leg}
use Rattle.plan.specs.declared.flights.Plan.{Plan}
use Rattle.plan.specs.declared.flights.TakeoffAlternate.{TakeoffAlternate}
use Rattle.plan.specs.declared.release.Phase.{Phase}
use Rattle.plan.specs.declared.release.Standing.{Standing}
use Rattle.plan.specs.declared.release.Standing.TheVariants.{Ahead, InFlight, Flown}
use Rattle.rules.specs.Circumstances.{Case, case_of}
use Rattle.rules.specs.DestinationAlternates.{is_domestic, is_flag, needs_alternate, place_if, places_from}
use Rattle.rules.specs.Grounds.{Grounds}
use Rattle.rules.specs.Judgement.{is_of_departure, case_unless, case_for, finding, findings_from, findings_by}
use Rattle.rules.specs.TakeoffAlternates.{needs_takeoff_alternate}
use Rattle.rules.proofs.Order.{rules_in_order, RisesAt, FitsCase, in_order_then}
use Rattle.rules.proofs.Rising.{Rises, places_rise, all_places_rise, ids_rise}
use Rattle.sheet.specs.declared.lines.Compared.{Compared}
use Rattle.sheet.specs.declared.lines.Compared.TheVariants as compared
use Rattle.sheet.specs.declared.lines.Line.{Line}
use Rattle.sheet.specs.Equipment.{row_of, limit_line, repair_at, airport_line, alternate_airport, takeoff_airport, airport_lines}
use Rattle.sheet.specs.Fuel.{fuel_sum}
use Rattle.sheet.specs.Lines.{key, line, line_if, numbered}
use Rattle.sheet.specs.Needs.{need_line, second_line, of_only}
use Rattle.sheet.specs.Sheet.{lines_of, lines_in_case, lines_for, lines_from, lines_by, tables_line, line_of_tables, sheet_of}
use Rattle.sheet.specs.Time.{counts_since, allowed, lines_since, time_lines}
use Rattle.sheet.specs.Weather.{range_line, takeoff_weather, alternate_weather, of_takeoff}
use Rattle.sheet.proofs.EachLine.{in_map, in_filter_map, in_numbered, in_one, in_takeoff, in_only}

-- the line is of this rule and leg
record IsOn (rule : Rule) (n : ℕ) (l : Line) : Type 0 where
  rule_is : l.rule ≡ rule
  leg_is : l.leg ≡ n

abbrev pub places_of_lines : List Line → List ℕ
places_of_lines ls = map (λ (l : Line). l.place) ls

abbrev pub places_on : (Rule → ℕ → Leg → List Line) → Rule → ℕ → Leg → List ℕ
places_on lines rule n leg = places_of_lines (lines rule n leg)

key_is : (rule : Rule) (n : ℕ) (l : Line) → IsOn rule n l → key l ≡ finding rule n l.place
key_is rule n l is = ap (λ r. finding r l.leg l.place) is.rule_is ∙ ap (λ k. finding rule k l.place) is.leg_is

keys_on : (rule : Rule) (n : ℕ) (ls : List Line) → AllByRecursion (IsOn rule n) ls → map key ls ≡ map (finding rule n) (places_of_lines ls)
keys_on rule n [] all = refl
keys_on rule n (l ∷ ls) all = ap (λ k. k ∷ map key ls) (key_is rule n l all.0) ∙ ap (λ ks. finding rule n l.place ∷ ks) (keys_on rule n ls all.1)

-- the keys of the lines of rules on legs
module _ (lines : Rule → ℕ → Leg → List Line) (are_on : (rule : Rule) (n : ℕ) (leg : Leg) → AllByRecursion (IsOn rule n) (lines rule n leg)) where
  keys_from : (rule : Rule) (n : ℕ) (legs : List Leg) → map key (lines_from lines rule n legs) ≡ findings_from (places_on lines) rule n legs
  keys_from rule n [] = refl
  keys_from rule n (leg ∷ legs) =
      map-append key (lines rule n leg) (lines_from lines rule (n + 1) legs)
      ∙ ap (λ ks. ks ++ map key (lines_from lines rule (n + 1) legs)) (keys_on rule n (lines rule n leg) (are_on rule n leg))
      ∙ ap (λ ks. map (finding rule n) (places_on lines rule n leg) ++ ks) (keys_from rule (n + 1) legs)

  keys_by : (rules : List Rule) (legs : List Leg) → map key (lines_by lines rules legs) ≡ findings_by (places_on lines) rules legs
  keys_by [] legs = refl
  keys_by (rule ∷ rules) legs =
      map-append key (lines_from lines rule 1 legs) (lines_by lines rules legs)
      ∙ ap (λ ks. ks ++ map key (lines_by lines rules legs)) (keys_from rule 1 legs)
      ∙ ap (λ ks. findings_from (places_on lines) rule 1 legs ++ ks) (keys_by rules legs)

-- Each line is of its rule and leg

on : (rule : Rule) (n place : ℕ) (it : Compared) → IsOn rule n (line rule n place it)
on rule n place it = record { rule_is = refl; leg_is = refl }

repair_on : (n : ℕ) (leg : Leg) (d : Deferral) (row : Option MelRow) → IfSome (repair_at n leg d row) (IsOn No12 n)
repair_on n leg d None = tt
repair_on n leg d (Some row) = record { rule_is = refl; leg_is = refl }

takeoff_on : (c : Case) (ahead : Bool) (n : ℕ) (listed : Option TakeoffAlternate) → AllByRecursion (IsOn No13 n) (takeoff_airport c ahead n listed)
takeoff_on c false n listed = tt
takeoff_on c true n None = tt
takeoff_on c true n (Some it) = (record { rule_is = refl; leg_is = refl }, tt)

abbrev Any : Deferral → Type 0
Any d = Unit {0}

rule_on : (rule : Rule) (c : Case) (ahead : Bool) (n : ℕ) (leg : Leg) → AllByRecursion (IsOn rule n) (lines_of rule c ahead n leg)
rule_on No1 c ahead n leg = tt
rule_on No2 c ahead n leg = tt
rule_on No3 c ahead n leg = (record { rule_is = refl; leg_is = refl }, tt)
rule_on No4 c ahead n leg = (record { rule_is = refl; leg_is = refl }, tt)
rule_on No5 c ahead n leg = in_takeoff (IsOn No5 n) (range_line c n leg) (needs_takeoff_alternate c leg) leg.takeoff_alternate (λ it needed is. on No5 n 0 _)
rule_on No6 c ahead n leg = in_takeoff (IsOn No6 n) (takeoff_weather c n leg) (needs_takeoff_alternate c leg) leg.takeoff_alternate (λ it needed is. on No6 n 0 _)
rule_on No7 c ahead n leg = in_one (IsOn No7 n) (is_domestic c.flight) (need_line No7 c n leg) (λ is. on No7 n 0 _)
rule_on No8 c ahead n leg = in_only (IsOn No8 n) (second_line c n leg) (is_domestic c.flight && needs_alternate c leg) leg.alternates (λ it asked is. on No8 n 0 _)
rule_on No9 c ahead n leg = in_one (IsOn No9 n) (is_flag c.flight) (need_line No9 c n leg) (λ is. on No9 n 0 _)
rule_on No10 c ahead n leg = in_numbered (IsOn No10 n) (alternate_weather c n leg) 1 leg.alternates (λ k it is. on No10 n (1 + k) _)
rule_on No11 c ahead n leg = in_map (IsOn No11 n) Any (limit_line c n leg) (λ d u. on No11 n d.id _) c.deferred (each_of Any (λ d. tt) c.deferred)
rule_on No12 c ahead n leg = in_filter_map (IsOn No12 n) Any (λ d. repair_at n leg d (row_of c d)) (λ d u. repair_on n leg d (row_of c d)) c.deferred (each_of Any (λ d. tt) c.deferred)
rule_on No13 c ahead n leg =
    each_append (IsOn No13 n) ((airport_line c n 0 leg.to ∷ []) ++ numbered (alternate_airport c n) 1 leg.alternates) (takeoff_airport c ahead n leg.takeoff_alternate)
    (each_append (IsOn No13 n) (airport_line c n 0 leg.to ∷ []) (numbered (alternate_airport c n) 1 leg.alternates) (on No13 n 0 _, tt)
    (in_numbered (IsOn No13 n) (alternate_airport c n) 1 leg.alternates (λ k it is. on No13 n (1 + k) _)))
    (takeoff_on c ahead n leg.takeoff_alternate)
rule_on No14 c ahead n leg = in_one (IsOn No14 n) (is_domestic c.flight) (line No14 n 0 (compared.Fuel (fuel_sum c leg))) (λ is. on No14 n 0 _)
rule_on No15 c ahead n leg = in_one (IsOn No15 n) (is_flag c.flight) (line No15 n 0 (compared.Fuel (fuel_sum c leg))) (λ is. on No15 n 0 _)
rule_on No16 c ahead n leg = (record { rule_is = refl; leg_is = refl }, tt)
rule_on No17 c ahead n leg = tt
rule_on No18 c ahead n leg = tt
rule_on No19 c ahead n leg = tt

unless_departed : (departed : Bool) (P : Line → Type 0) (ls : List Line) → AllByRecursion P ls → AllByRecursion P (cond departed [] ls)
unless_departed true P ls all = tt
unless_departed false P ls all = all

case_on : (rule : Rule) (o : Option Case) (state : Standing) (n : ℕ) (leg : Leg) → AllByRecursion (IsOn rule n) (lines_in_case rule o state n leg)
case_on rule None state n leg = tt
case_on rule (Some c) Ahead n leg = rule_on rule c true n leg
case_on rule (Some c) InFlight n leg = unless_departed (is_of_departure rule) (IsOn rule n) (lines_of rule c false n leg) (rule_on rule c false n leg)
case_on rule (Some c) Flown n leg = tt

time_on : (rule : Rule) (n : ℕ) (o : Option ℕ) (minutes moment : ℕ) → AllByRecursion (IsOn rule n) (lines_since rule n o minutes moment)
time_on rule n None minutes moment = tt
time_on rule n (Some since) minutes moment = (record { rule_is = refl; leg_is = refl }, tt)

lines_on : (plan : Plan) (phase : Phase) (g : Grounds) (o : Option Case) (rule : Rule) (n : ℕ) (leg : Leg) → AllByRecursion (IsOn rule n) (lines_for plan phase g o rule n leg)
lines_on plan phase g o rule n leg =
    each_append (IsOn rule n) (time_lines rule g.tables.settings plan.kind phase n leg g.moment) (lines_in_case rule o (standing phase n) n leg)
    (time_on rule n (counts_since rule plan.kind phase n leg) (allowed rule g.tables.settings) g.moment) (case_on rule o (standing phase n) n leg)

-- The places of each rule rise

one_rises : (b : Bool) (l : Line) → Rises (places_of_lines (line_if b l))
one_rises true l = (tt, tt)
one_rises false l = tt

takeoff_rises : (at : TakeoffAlternate → Line) (needed : Bool) (listed : Option TakeoffAlternate) → Rises (places_of_lines (of_takeoff at needed listed))
takeoff_rises at false listed = tt
takeoff_rises at true None = tt
takeoff_rises at true (Some it) = (tt, tt)

only_rises : (at : Alternate → Line) (applies : Bool) (listed : List Alternate) → Rises (places_of_lines (of_only at applies listed))
only_rises at false listed = tt
only_rises at true [] = tt
only_rises at true (it ∷ []) = (tt, tt)
only_rises at true (it ∷ other ∷ rest) = tt

abbrev always : Alternate → Bool
always it = true

numbers_are : (at : ℕ → Alternate → Line) → ((i : ℕ) (it : Alternate) → (at i it).place ≡ i) → (i : ℕ) (xs : List Alternate) → places_of_lines (numbered at i xs) ≡ places_from always i xs
numbers_are at is i [] = refl
numbers_are at is i (it ∷ xs) = ap (λ p. p ∷ places_of_lines (numbered at (i + 1) xs)) (is i it) ∙ ap (λ ps. i ∷ ps) (numbers_are at is (i + 1) xs)

ids_are : (at : Deferral → Line) → ((d : Deferral) → (at d).place ≡ d.id) → (ds : List Deferral) → places_of_lines (map at ds) ≡ map (λ d. d.id) ds
ids_are at is [] = refl
ids_are at is (d ∷ ds) = ap (λ p. p ∷ places_of_lines (map at ds)) (is d) ∙ ap (λ ps. d.id ∷ ps) (ids_are at is ds)

abbrev has_row : Case → Deferral → Bool
has_row c d = is_some (row_of c d)

repaired_by : (n : ℕ) (leg : Leg) (d : Deferral) (row : Option MelRow) (rest : List Line) (ds : List Deferral) → places_of_lines rest ≡ map (λ e. e.id) ds
    → places_of_lines (cons_option (repair_at n leg d row) rest) ≡ map (λ e. e.id) (cond (is_some row) (d ∷ ds) ds)
repaired_by n leg d None rest ds is = is
repaired_by n leg d (Some row) rest ds is = ap (λ ps. d.id ∷ ps) is

repairs_are : (c : Case) (n : ℕ) (leg : Leg) (ds : List Deferral) → places_of_lines (filter_map (λ d. repair_at n leg d (row_of c d)) ds) ≡ map (λ e. e.id) (filter (has_row c) ds)
repairs_are c n leg [] = refl
repairs_are c n leg (d ∷ ds) =
    repaired_by n leg d (row_of c d) (filter_map (λ e. repair_at n leg e (row_of c e)) ds) (filter (has_row c) ds) (repairs_are c n leg ds)

takeoff_place : (c : Case) (ahead : Bool) (n : ℕ) (listed : Option TakeoffAlternate) → places_of_lines (takeoff_airport c ahead n listed) ≡ place_if (ahead && is_some listed) 9
takeoff_place c false n listed = refl
takeoff_place c true n None = refl
takeoff_place c true n (Some it) = refl

airport_places : (c : Case) (ahead : Bool) (n : ℕ) (leg : Leg)
    → places_of_lines (airport_lines c ahead n leg) ≡ place_if true 0 ++ places_from always 1 leg.alternates ++ place_if (ahead && is_some leg.takeoff_alternate) 9
airport_places c ahead n leg =
    let first : List Line = airport_line c n 0 leg.to ∷ [] in
    let head : List ℕ = 0 ∷ [] in
    let others : List Line = numbered (alternate_airport c n) 1 leg.alternates in
    let last : List Line = takeoff_airport c ahead n leg.takeoff_alternate in
    map-append (λ (l : Line). l.place) (first ++ others) last
    ∙ ap (λ ps. ps ++ places_of_lines last) (map-append (λ (l : Line). l.place) first others)
    ∙ ap (λ ps. (head ++ ps) ++ places_of_lines last) (numbers_are (alternate_airport c n) (λ i it. refl) 1 leg.alternates)
    ∙ ap (λ ps. (head ++ places_from always 1 leg.alternates) ++ ps) (takeoff_place c ahead n leg.takeoff_alternate)

rule_rises : (rule : Rule) (c : Case) (ahead : Bool) (n : ℕ) (leg : Leg) → AreRising c.deferred → length leg.alternates ≤ 8 → Rises (places_of_lines (lines_of rule c ahead n leg))
rule_rises No1 c ahead n leg rising few = tt
rule_rises No2 c ahead n leg rising few = tt
rule_rises No3 c ahead n leg rising few = (tt, tt)
rule_rises No4 c ahead n leg rising few = (tt, tt)
rule_rises No5 c ahead n leg rising few = takeoff_rises (range_line c n leg) (needs_takeoff_alternate c leg) leg.takeoff_alternate
rule_rises No6 c ahead n leg rising few = takeoff_rises (takeoff_weather c n leg) (needs_takeoff_alternate c leg) leg.takeoff_alternate
rule_rises No7 c ahead n leg rising few = one_rises (is_domestic c.flight) (need_line No7 c n leg)
rule_rises No8 c ahead n leg rising few = only_rises (second_line c n leg) (is_domestic c.flight && needs_alternate c leg) leg.alternates
rule_rises No9 c ahead n leg rising few = one_rises (is_flag c.flight) (need_line No9 c n leg)
rule_rises No10 c ahead n leg rising few =
    subst Rises (sym (numbers_are (alternate_weather c n leg) (λ i it. refl) 1 leg.alternates)) (places_rise always 1 leg.alternates)
rule_rises No11 c ahead n leg rising few = subst Rises (sym (ids_are (limit_line c n leg) (λ d. refl) c.deferred)) (ids_rise c.deferred rising)
rule_rises No12 c ahead n leg rising few =
    subst Rises (sym (repairs_are c n leg c.deferred)) (ids_rise (filter (has_row c) c.deferred) (AllPairs-filter (λ e l. e.id < l.id) (has_row c) c.deferred rising))
rule_rises No13 c ahead n leg rising few =
    subst Rises (sym (airport_places c ahead n leg)) (all_places_rise true (ahead && is_some leg.takeoff_alternate) always leg.alternates few)
rule_rises No14 c ahead n leg rising few = one_rises (is_domestic c.flight) (line No14 n 0 (compared.Fuel (fuel_sum c leg)))
rule_rises No15 c ahead n leg rising few = one_rises (is_flag c.flight) (line No15 n 0 (compared.Fuel (fuel_sum c leg)))
rule_rises No16 c ahead n leg rising few = (tt, tt)
rule_rises No17 c ahead n leg rising few = tt
rule_rises No18 c ahead n leg rising few = tt
rule_rises No19 c ahead n leg rising few = tt

departed_rises : (departed : Bool) (ls : List Line) → Rises (places_of_lines ls) → Rises (places_of_lines (cond departed [] ls))
departed_rises true ls rises = tt
departed_rises false ls rises = rises

case_rises : (rule : Rule) (o : Option Case) (state : Standing) (n : ℕ) (leg : Leg) → FitsCase o leg → Rises (places_of_lines (lines_in_case rule o state n leg))
case_rises rule None state n leg fits = tt
case_rises rule (Some c) Ahead n leg fits = rule_rises rule c true n leg fits.0 fits.1
case_rises rule (Some c) InFlight n leg fits = departed_rises (is_of_departure rule) (lines_of rule c false n leg) (rule_rises rule c false n leg fits.0 fits.1)
case_rises rule (Some c) Flown n leg fits = tt

-- a rule of time has no lines but its own
pub no_lines : (rule : Rule) (o : Option Case) (state : Standing) (n : ℕ) (leg : Leg) → ((c : Case) (ahead : Bool) → lines_of rule c ahead n leg ≡ []) → is_of_departure rule ≡ false → lines_in_case rule o state n leg ≡ []
no_lines rule None state n leg none stays = refl
no_lines rule (Some c) Ahead n leg none stays = none c true
no_lines rule (Some c) InFlight n leg none stays = rw stays (none c false)
no_lines rule (Some c) Flown n leg none stays = refl

since_rises : (rule : Rule) (n : ℕ) (o : Option ℕ) (minutes moment : ℕ) → Rises (places_of_lines (lines_since rule n o minutes moment))
since_rises rule n None minutes moment = tt
since_rises rule n (Some since) minutes moment = (tt, tt)

alone_rises : (times more : List Line) → Rises (places_of_lines times) → more ≡ [] → Rises (places_of_lines (times ++ more))
alone_rises times more rises none =
    subst (λ ls. Rises (places_of_lines (times ++ ls))) (sym none) (subst (λ ls. Rises (places_of_lines ls)) (sym (append-nil times)) rises)

time_rises : (plan : Plan) (phase : Phase) (g : Grounds) (o : Option Case) (rule : Rule) (leg : Leg) → is_of_departure rule ≡ false → ((c : Case) (ahead : Bool) (n : ℕ) → lines_of rule c ahead n leg ≡ [])
    → RisesAt (places_on (lines_for plan phase g o)) rule leg
time_rises plan phase g o rule leg stays none n =
    alone_rises (time_lines rule g.tables.settings plan.kind phase n leg g.moment) (lines_in_case rule o (standing phase n) n leg)
    (since_rises rule n (counts_since rule plan.kind phase n leg) (allowed rule g.tables.settings) g.moment)
    (no_lines rule o (standing phase n) n leg (λ c ahead. none c ahead n) stays)

lines_rise : (plan : Plan) (phase : Phase) (g : Grounds) (o : Option Case) (rule : Rule) (leg : Leg) → FitsCase o leg → RisesAt (places_on (lines_for plan phase g o)) rule leg
lines_rise plan phase g o No1 leg fits n = time_rises plan phase g o No1 leg refl (λ c ahead m. refl) n
lines_rise plan phase g o No2 leg fits n = time_rises plan phase g o No2 leg refl (λ c ahead m. refl) n
lines_rise plan phase g o No17 leg fits n = time_rises plan phase g o No17 leg refl (λ c ahead m. refl) n
lines_rise plan phase g o No18 leg fits n = time_rises plan phase g o No18 leg refl (λ c ahead m. refl) n
lines_rise plan phase g o rule leg fits n = case_rises rule o (standing phase n) n leg fits

-- a plan that has a case passes its tests, so that its legs have few alternates, and ids of deferrals rise in the case
fits_with : (aircraft : Option TypeRow) (plan : Plan) (g : Grounds) → AllByRecursion HasFew plan.legs → AreRising g.deferrals → AllByRecursion (FitsCase (option_map (case_of g plan) aircraft)) plan.legs
fits_with None plan g few rising = each_of (FitsCase None) (λ leg. tt) plan.legs
fits_with (Some aircraft) plan g few rising =
    each_weaker HasFew (FitsCase (Some (case_of g plan aircraft)))
    (λ leg h. (AllPairs-filter (λ e l. e.id < l.id) (λ d. is_of plan.tail d) g.deferrals rising, omega (arith, h))) plan.legs few

fits_unless : (bad : Option BadPlan) (plan : Plan) (g : Grounds) → plan_fault g.tables plan ≡ bad → AreRising g.deferrals → AllByRecursion (FitsCase (case_unless bad plan g)) plan.legs
fits_unless (Some bad) plan g is rising = each_of (FitsCase None) (λ leg. tt) plan.legs
fits_unless None plan g is rising = fits_with (type_of g.tables plan.tail) plan g (few_alternates g.tables plan is) rising

-- The sheet

abbrev pub sheet_places : Plan → Phase → Grounds → Rule → ℕ → Leg → List ℕ
sheet_places plan phase g = places_on (lines_for plan phase g (case_for plan g))

-- the keys of a sheet are the places of its lines, rule by rule and leg by leg, and then the key of the tables
pub keys_are : (plan : Plan) (phase : Phase) (g : Grounds)
    → map key (sheet_of plan phase g) ≡ findings_by (sheet_places plan phase g) rules_of_legs plan.legs ++ key (line_of_tables plan g) ∷ []
unfolding sheet_of
keys_are plan phase g =
    let lines : Rule → ℕ → Leg → List Line = lines_for plan phase g (case_for plan g) in
    map-append key (lines_by lines rules_of_legs plan.legs) (line_of_tables plan g ∷ [])
    ∙ ap (λ ks. ks ++ key (line_of_tables plan g) ∷ []) (keys_by lines (λ rule n leg. lines_on plan phase g (case_for plan g) rule n leg) rules_of_legs plan.legs)

then_tables : (places : Rule → ℕ → Leg → List ℕ) (legs : List Leg) (bad : Option BadPlan) (aircraft : Option TypeRow) → AreInOrder (findings_by places rules_of_legs legs)
    → AreInOrder (findings_by places rules_of_legs legs ++ key (tables_line bad aircraft) ∷ [])
then_tables places legs (Some bad) aircraft order = in_order_then places rules_of_legs legs (finding No19 bad.leg 0) refl order
then_tables places legs None aircraft order = in_order_then places rules_of_legs legs (finding No19 0 0) refl order

-- each line comes before all later ones, in the order of findings
pub sheet_in_order : (plan : Plan) (phase : Phase) (g : Grounds) → AreRising g.deferrals → AreInOrder (map key (sheet_of plan phase g))
sheet_in_order plan phase g rising =
    subst AreInOrder (sym (keys_are plan phase g))
    (then_tables (sheet_places plan phase g) plan.legs (plan_fault g.tables plan) (type_of g.tables plan.tail)
    (rules_in_order (sheet_places plan phase g) rules_of_legs plan.legs refl
    (λ rule. each_weaker (FitsCase (case_for plan g)) (RisesAt (sheet_places plan phase g) rule)
    (λ leg fits. lines_rise plan phase g (case_for plan g) rule leg fits) plan.legs (fits_unless (plan_fault g.tables plan) plan g refl rising))))
