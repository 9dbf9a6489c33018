-- Between two points of change the weather that controls stays as it is.
use Rattle.std.proofs.Common.{◌≡◌, ℕ, ◌+◌, Bool, true, false, cond, ◌&&◌, nat_le, nat_lt, List, [], ◌∷◌, ◌++◌, Option, None, Some, refl, ap, arith, filter}
use Rattle.std.specs.List.{list_any, AllByRecursion}
use Rattle.std.proofs.lemmas.Bool.Decides.{nat_tests}
use Rattle.weather_reports.specs.declared.forecast.Part.{Part}
use Rattle.weather_reports.specs.declared.forecast.Taf.{Taf}
use Rattle.weather_reports.specs.declared.metar.Metar.{Metar}
use Rattle.weather_window.specs.Values.{Element, replaces, is_becoming, has_replaced, has_become, is_changing, may_hold, in_force, values_in_force, part_values, forecast_values, values_at}
use Rattle.weather_window.specs.Window.{least_of, value_at}
use Rattle.weather_window.specs.Changes.{part_changes, forecast_changes, changes}
use Rattle.weather_window.proofs.ChangeLaws.{Alike}

-- what a part does is the same at both moments
record DoesAlike (m k : ℕ) (p : Part) : Type 0 where
  replaced : has_replaced m p ≡ has_replaced k p
  become : has_become m p ≡ has_become k p
  changing : is_changing m p ≡ is_changing k p
  holding : may_hold m p ≡ may_hold k p

until_alike : (to m k : ℕ) → nat_le to m ≡ nat_le to k → nat_lt m to ≡ nat_lt k to
until_alike to m k e = grind (arith, nat_tests)

last_alike : (to m k : ℕ) → nat_le (to + 1) m ≡ nat_le (to + 1) k → nat_le m to ≡ nat_le k to
last_alike to m k e = grind (arith, nat_tests)

-- what a part does changes only at its own points
part_alike : (m k : ℕ) (p : Part) → nat_le p.from m ≡ nat_le p.from k → nat_le p.to m ≡ nat_le p.to k → nat_le (p.to + 1) m ≡ nat_le (p.to + 1) k
    → DoesAlike m k p
part_alike m k p begun ended over =
    let until = until_alike p.to m k ended in
    let last = last_alike p.to m k over in
    record {
      replaced = ap (λ b. replaces p.kind && b) begun;
      become = ap (λ b. is_becoming p.kind && b) ended;
      changing = rw (begun, until) refl;
      holding = rw (begun, last) refl;
    }

parts_alike : (m k : ℕ) (ps : List Part) → Alike m k (part_changes ps) → AllByRecursion (DoesAlike m k) ps
parts_alike m k [] alike = tt
parts_alike m k (p ∷ ps) alike = (part_alike m k p alike.0 alike.1.0 alike.1.1.0, parts_alike m k ps alike.1.1.1)

any_alike : (m k : ℕ) (ps : List Part) → AllByRecursion (DoesAlike m k) ps → list_any (has_replaced m) ps ≡ list_any (has_replaced k) ps
any_alike m k [] alike = refl
any_alike m k (p ∷ ps) alike =
    let first = alike.0.replaced in
    let rest = any_alike m k ps alike.1 in
    rw (first, rest) refl

-- a test that tells each part alike keeps the same parts
kept_alike : (test : ℕ → Part → Bool) (m k : ℕ) → ((p : Part) → DoesAlike m k p → test m p ≡ test k p)
    → (ps : List Part) → AllByRecursion (DoesAlike m k) ps → filter (test m) ps ≡ filter (test k) ps
kept_alike test m k same [] alike = refl
kept_alike test m k same (p ∷ ps) alike =
    let first = same p alike.0 in
    let rest = kept_alike test m k same ps alike.1 in
    rw (first, rest) refl

values_step : (element : Element) (m k : ℕ) (p : Part) (ps : List Part) → AllByRecursion (DoesAlike m k) ps
    → values_in_force element m (p ∷ ps) ≡ values_in_force element k (p ∷ ps)
values_step element m k p ps alike =
    let become = kept_alike has_become m k (λ p one. one.become) ps alike in
    let changing = kept_alike is_changing m k (λ p one. one.changing) ps alike in
    let holding = kept_alike may_hold m k (λ p one. one.holding) ps alike in
    rw (become, changing, holding) refl

values_case : (element : Element) (m k : ℕ) (p : Part) (ps : List Part) (b : Bool) → AllByRecursion (DoesAlike m k) ps
    → values_in_force element m (in_force m ps) ≡ values_in_force element k (in_force k ps)
    → values_in_force element m (cond b (in_force m ps) (p ∷ ps)) ≡ values_in_force element k (cond b (in_force k ps) (p ∷ ps))
values_case element m k p ps true alike rest = rest
values_case element m k p ps false alike rest = values_step element m k p ps alike

-- the parts of a forecast name the same values
values_alike : (element : Element) (m k : ℕ) (ps : List Part) → AllByRecursion (DoesAlike m k) ps
    → values_in_force element m (in_force m ps) ≡ values_in_force element k (in_force k ps)
values_alike element m k [] alike = refl
values_alike element m k (p ∷ ps) alike =
    let any = any_alike m k ps alike.1 in
    rw any (values_case element m k p ps (list_any (has_replaced k) ps) alike.1 (values_alike element m k ps alike.1))

forecast_alike : (element : Element) (m k : ℕ) (taf : Option Taf) → Alike m k (forecast_changes taf)
    → forecast_values element m taf ≡ forecast_values element k taf
unfolding part_values
forecast_alike element m k None alike = refl
forecast_alike element m k (Some taf) alike =
    let begun = alike.0 in
    let last = last_alike taf.to m k alike.1.0 in
    let parts = values_alike element m k taf.parts (parts_alike m k taf.parts alike.1.1) in
    rw (begun, last, parts) refl

-- of a report and a forecast
both_alike : (element : Element) (m k hold : ℕ) (taf : Option Taf) (metar : Option Metar) → Alike m k (changes taf metar hold)
    → values_at element taf metar hold m ≡ values_at element taf metar hold k
both_alike element m k hold taf None alike = ap (λ vs. vs ++ []) (forecast_alike element m k taf alike)
both_alike element m k hold taf (Some metar) alike =
    let begun = alike.0 in
    let last = last_alike (metar.observed + hold) m k alike.1.0 in
    let forecast = forecast_alike element m k taf alike.1.1 in
    rw (begun, last, forecast) refl

-- the value at a moment changes only at a point of change
pub value_alike : (element : Element) (taf : Option Taf) (metar : Option Metar) (hold m k : ℕ) → Alike m k (changes taf metar hold)
    → value_at element taf metar hold m ≡ value_at element taf metar hold k
unfolding value_at
value_alike element taf metar hold m k alike = ap least_of (both_alike element m k hold taf metar alike)
