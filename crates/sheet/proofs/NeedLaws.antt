-- The lines on alternates of the destination fail exactly where these rules do.
use Rattle.std.proofs.Common.{◌≡◌, ℕ, Bool, true, false, not, ◌&&◌, ◌||◌, List, [], ◌∷◌, length, Option, Some, refl, ap, ◌∙◌, lt-ltb, arith}
use Rattle.std.specs.Prelude.{nat_lt, map}
use Rattle.airport_minima.specs.Floor.{flag_floor}
use Rattle.desk_io.specs.declared.pair.Pair.{Pair}
use Rattle.plan.specs.AlternateNeeds.{domestic_floor, misses, is_long, needs_destination, meets_raised, is_marginal}
use Rattle.plan.specs.declared.findings.Rule.TheVariants.{No7, No8, No9}
use Rattle.plan.specs.declared.flights.Alternate.{Alternate}
use Rattle.plan.specs.declared.flights.Kind.{Kind}
use Rattle.plan.specs.declared.flights.Kind.TheVariants.{Domestic, Flag}
use Rattle.plan.specs.declared.flights.Leg.{Leg}
use Rattle.rules.specs.Circumstances.{Case}
use Rattle.rules.specs.DestinationAlternates.{is_domestic, is_flag, lists_none, arrival_weather, needs_alternate, place_if, are_marginal, is_free}
use Rattle.rules.specs.Judgement.{finding, places_of}
use Rattle.sheet.specs.Lines.{failing, is_provided, is_beyond_margin}
use Rattle.sheet.specs.Needs.{need_by, need_line, domestic_needs, flag_needs, second, second_line, of_only, second_lines}
use Rattle.sheet.proofs.LineLaws.{its_line, one_line}

-- a list is empty or has members
some_listed : (listed : List Alternate) → nat_lt 0 (length listed) ≡ not (lists_none listed)
some_listed [] = refl
some_listed (it ∷ rest) = lt-ltb 0 (length (it ∷ rest)) (omega arith)

-- needed, and neither listed nor free
unprovided : (needed none free : Bool) → not ((not needed || not none) || free) ≡ ((needed && none) && not free)
unprovided true true free = refl
unprovided true false free = refl
unprovided false none free = refl

without : (needed some none free : Bool) → some ≡ not none → not ((not needed || some) || free) ≡ ((needed && none) && not free)
without needed some none free is = ap (λ b. not ((not needed || b) || free)) is ∙ unprovided needed none free

unfree : (b : Bool) → (b && not false) ≡ b
unfree true = refl
unfree false = refl

domestic_by : (flight : Kind) (c : Case) (leg : Leg) (floor : Option Pair)
    → (is_domestic flight && not (is_provided (need_by flight c leg))) ≡ ((is_domestic flight && needs_destination leg flight (arrival_weather c leg) floor) && lists_none leg.alternates)
unfolding needs_destination
domestic_by Domestic c leg floor =
    without (misses (arrival_weather c leg) (Some domestic_floor)) _ (lists_none leg.alternates) false (some_listed leg.alternates)
    ∙ unfree (misses (arrival_weather c leg) (Some domestic_floor) && lists_none leg.alternates)
domestic_by Flag c leg floor = refl

flag_by : (flight : Kind) (c : Case) (leg : Leg)
    → (is_flag flight && not (is_provided (need_by flight c leg)))
    ≡ (((is_flag flight && needs_destination leg flight (arrival_weather c leg) (flag_floor c.grounds.tables c.aircraft leg.to c.limits.lost)) && lists_none leg.alternates) && not (is_free c leg))
unfolding needs_destination
flag_by Domestic c leg = refl
flag_by Flag c leg =
    without (is_long leg || misses (arrival_weather c leg) (flag_floor c.grounds.tables c.aircraft leg.to c.limits.lost)) _ (lists_none leg.alternates) (is_free c leg) (some_listed leg.alternates)

-- a domestic leg without the alternate that it needs (14 CFR 121.619(a))
pub domestic_need_fails : (c : Case) (ahead : Bool) (n : ℕ) (leg : Leg) → failing (domestic_needs c n leg) ≡ map (finding No7 n) (places_of No7 c ahead leg)
domestic_need_fails c ahead n leg =
    one_line (is_domestic c.flight) (need_line No7 c n leg) _ refl
    ∙ ap (λ b. map (finding No7 n) (place_if b 0)) (domestic_by c.flight c leg (flag_floor c.grounds.tables c.aircraft leg.to c.limits.lost))

-- a flag leg without the alternate that it needs (14 CFR 121.621(a))
pub flag_need_fails : (c : Case) (ahead : Bool) (n : ℕ) (leg : Leg) → failing (flag_needs c n leg) ≡ map (finding No9 n) (places_of No9 c ahead leg)
flag_need_fails c ahead n leg =
    one_line (is_flag c.flight) (need_line No9 c n leg) _ refl
    ∙ ap (λ b. map (finding No9 n) (place_if b 0)) (flag_by c.flight c leg)

-- neither of the two is beyond the margin
both_marginal : (a b : Bool) → not (a || b) ≡ (not a && not b)
both_marginal true b = refl
both_marginal false b = refl

marginal : (c : Case) (leg : Leg) (it : Alternate) → not (is_beyond_margin (second c leg it)) ≡ are_marginal c leg (it ∷ [])
unfolding is_marginal
marginal c leg it =
    both_marginal (meets_raised (second c leg it).destination.weather (second c leg it).destination.minima (second c leg it).margin)
    (meets_raised (second c leg it).alternate.weather (second c leg it).alternate.minima (second c leg it).margin)

seconds : (c : Case) (n : ℕ) (leg : Leg) (applies : Bool) (listed : List Alternate) → failing (of_only (second_line c n leg) applies listed) ≡ map (finding No8 n) (place_if (applies && are_marginal c leg listed) 0)
seconds c n leg false listed = refl
seconds c n leg true [] = refl
seconds c n leg true (it ∷ []) = its_line (second_line c n leg it) (are_marginal c leg (it ∷ [])) (marginal c leg it)
seconds c n leg true (it ∷ other ∷ rest) = refl

-- marginal weather at the destination and at the one alternate (14 CFR 121.619(a))
pub second_fails : (c : Case) (ahead : Bool) (n : ℕ) (leg : Leg) → failing (second_lines c n leg) ≡ map (finding No8 n) (places_of No8 c ahead leg)
second_fails c ahead n leg = seconds c n leg (is_domestic c.flight && needs_alternate c leg) leg.alternates
