-- Laws on the values of both, and on one pass over the points of change.
use Rattle.std.proofs.Common.{◌≡◌, ℕ, zero, suc, ◌+◌, ◌-◌, ◌≤◌, ◌<◌, cond, List, [], ◌∷◌, map, Option, None, Some, refl, ap, sym, ◌∙◌, arith, is_none, filter_map}
use Rattle.std.specs.List.{list_any}
use Rattle.codes.specs.Cond.{lesser}
use Rattle.weather_reports.specs.declared.forecast.Taf.{Taf}
use Rattle.weather_reports.specs.declared.metar.Metar.{Metar}
use Rattle.codes.proofs.CondLaws.{lesser_assoc}
use Rattle.weather_window.specs.Values.{Element, forecast_values, report_values}
use Rattle.weather_window.specs.Window.{least_of, value_at, minutes, worst_of, worst_value}
use Rattle.weather_window.specs.Changes.{next_change}
use Rattle.weather_window.specs.Running.{worse}
use Rattle.weather_window.proofs.LeastLaws.{least_of_both}
use Rattle.weather_window.proofs.ChangeLaws.{until_change, change_visits}
use Rattle.weather_window.proofs.SteadyLaws.{value_alike}

-- the value at a moment, by the least of the forecast's values and that of the report's
pub value_at_law : (element : Element) (taf : Option Taf) (metar : Option Metar) (hold m : ℕ) (a b : Option ℕ)
    → a ≡ least_of (forecast_values element m taf) → b ≡ least_of (report_values element hold m metar)
    → lesser a b ≡ value_at element taf metar hold m
unfolding value_at
value_at_law element taf metar hold m a b forecast report =
    least_of_both a b (forecast_values element m taf) (report_values element hold m metar) forecast report

-- the worst of a value and some more
abbrev pub worst_after : Option ℕ → List (Option ℕ) → Option ℕ
worst_after value [] = value
worst_after value (next ∷ later) = worst_after (worse value next) later

pub minutes_step : (m to : ℕ) → m ≤ to → minutes m to ≡ m ∷ minutes (m + 1) to
minutes_step m to small =
    let one_more : to + 1 - m ≡ suc (to - m) = omega arith in
    let left : to + 1 - (m + 1) ≡ to - m = omega arith in
    rw (one_more, left) refl

minutes_over : (to : ℕ) → minutes (to + 1) to ≡ []
minutes_over to =
    let none : to + 1 - (to + 1) ≡ 0 = omega arith in
    rw none refl

-- one more minute is seen
worst_step : (f : ℕ → Option ℕ) (value : Option ℕ) (m to : ℕ) → m ≤ to
    → worst_after value (map f (minutes m to)) ≡ worst_after (worse value (f m)) (map f (minutes (m + 1) to))
worst_step f value m to small = ap (λ ms. worst_after value (map f ms)) (minutes_step m to small)

pub worse_first : (x y : Option ℕ) (ys : List (Option ℕ)) → worst_of (worse x y ∷ ys) ≡ worst_of (x ∷ y ∷ ys)
worse_first None y ys = refl
worse_first (Some a) None ys = refl
worse_first (Some a) (Some b) ys =
    ap (λ v. cond (list_any is_none ys) None v) (sym (lesser_assoc (Some a) (Some b) (least_of (filter_map (λ value. value) ys))))

pub worst_alone : (x : Option ℕ) → x ≡ worst_of (x ∷ [])
worst_alone None = refl
worst_alone (Some a) = refl

-- one pass finds the worst of all values
worst_pass : (x : Option ℕ) (xs : List (Option ℕ)) → worst_after x xs ≡ worst_of (x ∷ xs)
worst_pass x [] = worst_alone x
worst_pass x (y ∷ ys) = worst_pass (worse x y) ys ∙ worse_first x y ys

worse_itself : (x : Option ℕ) → worse x x ≡ x
worse_itself None = refl
worse_itself (Some a) = ap Some (omega arith)

worse_again : (x y : Option ℕ) → worse (worse x y) y ≡ worse x y
worse_again None y = refl
worse_again (Some a) None = refl
worse_again (Some a) (Some b) = ap Some (omega arith)

-- minutes that name what was seen before change nothing
skip_minutes : (f : ℕ → Option ℕ) (value same : Option ℕ) (m to n : ℕ) → m + n ≤ to + 1 → worse value same ≡ value
    → ((j : ℕ) → m ≤ j → j < m + n → f j ≡ same)
    → worst_after value (map f (minutes m to)) ≡ worst_after value (map f (minutes (m + n) to))
skip_minutes f value same m to zero within settled steady = ap (λ k. worst_after value (map f (minutes k to))) (omega arith)
skip_minutes f value same m to (suc n) within settled steady =
    let here : f m ≡ same = steady m (omega arith) (omega arith) in
    let next : m + 1 + n ≡ m + suc n = omega arith in
    worst_step f value m to (omega arith)
    ∙ ap (λ v. worst_after (worse value v) (map f (minutes (m + 1) to))) here
    ∙ ap (λ v. worst_after v (map f (minutes (m + 1) to))) settled
    ∙ skip_minutes f value same (m + 1) to n (omega arith) settled (λ j low high. steady j (omega arith) (omega arith))
    ∙ ap (λ k. worst_after value (map f (minutes k to))) next

-- How far the worst has come: with the minutes that are left it makes the whole, and the moment that was
-- visited last changes it no more.
pub record Reached (f : ℕ → Option ℕ) (value whole : Option ℕ) (seen to : ℕ) : Type 0 where
  pub left : worst_after value (map f (minutes (seen + 1) to)) ≡ whole
  pub settled : worse value (f seen) ≡ value

-- the first minute
pub reach_first : (element : Element) (taf : Option Taf) (metar : Option Metar) (hold from to : ℕ) (value : Option ℕ) → from ≤ to
    → value ≡ value_at element taf metar hold from
    → Reached (value_at element taf metar hold) value (worst_value element taf metar hold from to) from to
unfolding worst_value
reach_first element taf metar hold from to value order is =
    let f = value_at element taf metar hold in
    record {
      left = ap (λ v. worst_after v (map f (minutes (from + 1) to))) is
          ∙ worst_pass (f from) (map f (minutes (from + 1) to))
          ∙ ap (λ ms. worst_of (map f ms)) (sym (minutes_step from to order));
      settled = ap (λ v. worse v (f from)) is ∙ worse_itself (f from) ∙ sym is;
    }

skip_to : (f : ℕ → Option ℕ) (value whole : Option ℕ) (seen next to : ℕ) → seen < next → next ≤ to + 1 → Reached f value whole seen to
    → ((j : ℕ) → seen ≤ j → j < next → f seen ≡ f j) → worst_after value (map f (minutes next to)) ≡ whole
skip_to f value whole seen next to later within reached steady =
    let there : seen + 1 + (next - (seen + 1)) ≡ next = omega arith in
    ap (λ k. worst_after value (map f (minutes k to))) (sym there)
    ∙ sym (skip_minutes f value (f seen) (seen + 1) to (next - (seen + 1)) (omega arith) reached.settled (λ j low high. sym (steady j (omega arith) (omega arith))))
    ∙ reached.left

reach_later : (f : ℕ → Option ℕ) (value whole : Option ℕ) (seen next to : ℕ) → seen < next → next ≤ to → Reached f value whole seen to
    → ((j : ℕ) → seen ≤ j → j < next → f seen ≡ f j) → Reached f (worse value (f next)) whole next to
reach_later f value whole seen next to later within reached steady =
    record {
      left = sym (worst_step f value next to within) ∙ skip_to f value whole seen next to later (omega arith) reached steady;
      settled = worse_again value (f next);
    }

-- the next point of change
pub reach_next : (element : Element) (taf : Option Taf) (metar : Option Metar) (hold seen next to : ℕ) (value whole there worst : Option ℕ)
    → Some next ≡ next_change taf metar hold seen to → Reached (value_at element taf metar hold) value whole seen to
    → there ≡ value_at element taf metar hold next → worst ≡ worse value there
    → Reached (value_at element taf metar hold) worst whole next to
reach_next element taf metar hold seen next to value whole there worst is reached there_is worst_is =
    let f = value_at element taf metar hold in
    let visits = change_visits taf metar hold seen next to is in
    let later : seen < next = visits.later in
    let within : next ≤ to = visits.within in
    rw (worst_is, there_is) (reach_later f value whole seen next to later within reached
    (λ j low high. value_alike element taf metar hold seen j (until_change taf metar hold seen to j (Some next) is low (omega arith) high)))

-- no point is left
pub reach_last : (element : Element) (taf : Option Taf) (metar : Option Metar) (hold seen to : ℕ) (value whole : Option ℕ)
    → None ≡ next_change taf metar hold seen to → seen ≤ to → Reached (value_at element taf metar hold) value whole seen to
    → value ≡ whole
reach_last element taf metar hold seen to value whole is order reached =
    let f = value_at element taf metar hold in
    ap (λ ms. worst_after value (map f ms)) (sym (minutes_over to))
    ∙ skip_to f value whole seen (to + 1) to (omega arith) (omega arith) reached
    (λ j low high. value_alike element taf metar hold seen j (until_change taf metar hold seen to j None is low (omega arith) tt))
