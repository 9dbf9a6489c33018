-- The lines on equipment and airports fail exactly where these rules do.
use Rattle.std.proofs.Common.{◌≡◌, ℕ, ◌<◌, ◌≤◌, ◌+◌, ◌*◌, ◌/◌, Bool, true, false, not, ◌&&◌, ◌||◌, cond, List, [], ◌∷◌, ◌++◌, Option, None, Some, refl, ap, sym, ◌∙◌, arith}
use Rattle.std.specs.Prelude.{nat_le, map, find, is_some, option_to_list}
use Rattle.std.specs.List.{list_any}
use Rattle.std.specs.Option.{option_map}
use Rattle.std.proofs.lemmas.Bool.{leb-true, le-leb}
use Rattle.desk_time.specs.Limits.{last_moment}
use Rattle.ops_tables.specs.declared.rows.MelRow.{MelRow}
use Rattle.deferrals.specs.Due.{due, days_allowed}
use Rattle.deferrals.specs.declared.items.Deferral.{Deferral}
use Rattle.plan.specs.declared.findings.Rule.TheVariants.{No11, No12, No13}
use Rattle.plan.specs.declared.flights.Leg.{Leg}
use Rattle.plan.specs.declared.flights.Alternate.{Alternate}
use Rattle.plan.specs.declared.flights.TakeoffAlternate.{TakeoffAlternate}
use Rattle.rules.specs.Circumstances.{Case}
use Rattle.rules.specs.DestinationAlternates.{is_flag, place_if, places_from}
use Rattle.rules.specs.Equipment.{is_paired_with, is_too_long, forbids, is_limiting, is_due_by, is_overdue, is_barred, is_barred_takeoff}
use Rattle.rules.specs.Judgement.{finding, places_of}
use Rattle.sheet.specs.Lines.{failing, numbered, is_allowed_by, arrives_before}
use Rattle.sheet.specs.Equipment.{allowance, excluded_by, row_of, item_limit, limit_line, limit_lines, due_in_time, repair_at, repair_line, repair_lines, airport_line, alternate_airport, takeoff_airport, airport_lines}
use Rattle.sheet.proofs.LineLaws.{twice, not_before, its_line, two_parts, each_line, each_found, each_place}

-- one is found exactly if there is one
found_by : {A : Type 0} (b : Bool) (a : A) (rest : Option A) (any : Bool) → is_some rest ≡ any → is_some (cond b (Some a) rest) ≡ (b || any)
found_by true a rest any is = refl
found_by false a rest any is = is

found : {A : Type 0} (p : A → Bool) (xs : List A) → is_some (find p xs) ≡ list_any p xs
found p [] = refl
found p (x ∷ xs) = found_by (p x) x (find p xs) (list_any p xs) (found p xs)

mapped : {A B : Type 0} (f : A → B) (o : Option A) → is_some (option_map f o) ≡ is_some o
mapped f None = refl
mapped f (Some a) = refl

excluded : (c : Case) (d : Deferral) → is_some (excluded_by c d) ≡ list_any (is_paired_with c d) c.deferred
excluded c d = mapped (λ (e : Deferral). e.id) (find (is_paired_with c d) c.deferred) ∙ found (is_paired_with c d) c.deferred

limit_by : (c : Case) (leg : Leg) (d : Deferral) (row : Option MelRow) → not (is_allowed_by (item_limit c leg d) (option_map allowance row)) ≡ forbids c leg d row
limit_by c leg d None = refl
limit_by c leg d (Some row) =
    twice (((is_flag c.flight && not row.flag_ok) || is_too_long row leg) || is_some (excluded_by c d))
    ∙ ap (λ b. ((is_flag c.flight && not row.flag_ok) || is_too_long row leg) || b) (excluded c d)

-- the limits of deferred items (14 CFR 121.628)
pub limits_fail : (c : Case) (n : ℕ) (leg : Leg) → failing (limit_lines c n leg) ≡ map (finding No11 n) (places_of No11 c true leg)
limits_fail c n leg = each_line No11 n (λ (d : Deferral). d.id) (limit_line c n leg) (is_limiting c leg) (λ d. refl) (λ d. limit_by c leg d (row_of c d)) c.deferred

before_due : (found days : ℕ) → found < 1440 * (found / 1440 + 1 + days)
before_due found days = omega arith

-- an item whose fault is found after the last moment isn't due by an ETA
late_by : (b : Bool) (row : MelRow) (found eta : ℕ) → eta ≤ last_moment → nat_le found last_moment ≡ b
    → not (arrives_before (cond b (Some (due row found)) None) eta) ≡ nat_le (due row found) eta
late_by true row found eta within e = not_before eta (due row found)
late_by false row found eta within e =
    elim (nat_le (due row found) eta) as (λ t. nat_le (due row found) eta ≡ t → false ≡ t) [
      | true ↦ λ t.
          let w = leb-true (due row found) eta t in
          let low : found < due row found = before_due found (days_allowed row.category row.days) in
          let early : found ≤ last_moment = omega (arith, w, low, within) in
          sym e ∙ le-leb found last_moment early
      | false ↦ λ t. refl
    ] refl

late : (row : MelRow) (found eta : ℕ) → eta ≤ last_moment → not (arrives_before (due_in_time row found) eta) ≡ nat_le (due row found) eta
late row found eta within = late_by (nat_le found last_moment) row found eta within refl

repair_by : (n : ℕ) (leg : Leg) (d : Deferral) (row : Option MelRow) → leg.eta ≤ last_moment
    → failing (option_to_list (repair_at n leg d row)) ≡ map (finding No12 n) (place_if (is_due_by leg d row) d.id)
repair_by n leg d None within = refl
repair_by n leg d (Some row) within = its_line (repair_line n leg d row) _ (late row d.found leg.eta within)

-- the repair of deferred items (14 CFR 121.628)
pub repairs_fail : (c : Case) (n : ℕ) (leg : Leg) → leg.eta ≤ last_moment → failing (repair_lines c n leg) ≡ map (finding No12 n) (places_of No12 c true leg)
repairs_fail c n leg within =
    each_found No12 n (λ (d : Deferral). d.id) (λ (d : Deferral). repair_at n leg d (row_of c d)) (is_overdue c leg) (λ d. repair_by n leg d (row_of c d) within) c.deferred

takeoff_by : (c : Case) (ahead : Bool) (n : ℕ) (it : Option TakeoffAlternate) → failing (takeoff_airport c ahead n it) ≡ map (finding No13 n) (place_if (ahead && is_barred_takeoff c it) 9)
takeoff_by c false n it = refl
takeoff_by c true n None = refl
takeoff_by c true n (Some it) = its_line (airport_line c n 9 it.station) (is_barred c it.station) refl

-- the airports of the leg (14 CFR 121.631)
pub airports_fail : (c : Case) (ahead : Bool) (n : ℕ) (leg : Leg) → failing (airport_lines c ahead n leg) ≡ map (finding No13 n) (places_of No13 c ahead leg)
airports_fail c ahead n leg =
    two_parts No13 n ((airport_line c n 0 leg.to ∷ []) ++ numbered (alternate_airport c n) 1 leg.alternates) (takeoff_airport c ahead n leg.takeoff_alternate)
    (place_if (is_barred c leg.to) 0 ++ places_from (λ (it : Alternate). is_barred c it.station) 1 leg.alternates) (place_if (ahead && is_barred_takeoff c leg.takeoff_alternate) 9)
    (two_parts No13 n (airport_line c n 0 leg.to ∷ []) (numbered (alternate_airport c n) 1 leg.alternates) (place_if (is_barred c leg.to) 0) (places_from (λ (it : Alternate). is_barred c it.station) 1 leg.alternates)
    (its_line (airport_line c n 0 leg.to) (is_barred c leg.to) refl)
    (each_place No13 n (alternate_airport c n) (λ (it : Alternate). is_barred c it.station) (λ i it. refl) (λ i it. refl) 1 leg.alternates))
    (takeoff_by c ahead n leg.takeoff_alternate)
