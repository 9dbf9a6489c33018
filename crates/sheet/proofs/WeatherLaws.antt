-- The lines on weather fail exactly where these rules do.
use Rattle.std.proofs.Common.{◌≡◌, ℕ, ◌+◌, Bool, true, false, not, ◌&&◌, ◌||◌, Option, None, Some, refl, ap}
use Rattle.std.specs.Prelude.{map, is_some, is_none}
use Rattle.codes.specs.Minima.{meets}
use Rattle.ops_tables.specs.Tables.{miles_of}
use Rattle.plan.specs.AlternateNeeds.{needs_takeoff, in_range, range}
use Rattle.plan.specs.declared.findings.Rule.TheVariants.{No3, No4, No5, No6, No10}
use Rattle.plan.specs.declared.flights.Leg.{Leg}
use Rattle.plan.specs.declared.flights.Alternate.{Alternate}
use Rattle.plan.specs.declared.flights.TakeoffAlternate.{TakeoffAlternate}
use Rattle.rules.specs.Circumstances.{Case, is_below_alternate}
use Rattle.rules.specs.DestinationAlternates.{place_if}
use Rattle.rules.specs.Judgement.{finding, places_of}
use Rattle.rules.specs.TakeoffAlternates.{needs_takeoff_alternate, lacks_takeoff_alternate, is_far, is_below_there}
use Rattle.rules.specs.Weather.{is_below_landing}
use Rattle.sheet.specs.declared.lines.Compared.TheVariants as compared
use Rattle.sheet.specs.Lines.{line, fails, failing, is_in_range}
use Rattle.sheet.specs.Weather.{at_destination, at_departure, station_of, departure, of_takeoff, range_line, takeoff_weather, alternate_weather, landing_lines, departure_lines, range_lines, takeoff_lines, alternate_lines}
use Rattle.sheet.proofs.LineLaws.{its_line, each_place}

-- the weather at the destination (14 CFR 121.613, 121.652)
pub landing_fail : (c : Case) (ahead : Bool) (n : ℕ) (leg : Leg) → failing (landing_lines c n leg) ≡ map (finding No3 n) (places_of No3 c ahead leg)
landing_fail c ahead n leg = its_line (line No3 n 0 (compared.Weather (at_destination c leg))) (is_below_landing c leg) refl

-- neither met nor listed
neither : (met : Bool) (listed : Option TakeoffAlternate) → not (met || is_some (station_of listed)) ≡ (not met && is_none listed)
neither true listed = refl
neither false None = refl
neither false (Some it) = refl

lacks : (c : Case) (leg : Leg) → fails (line No4 0 0 (compared.Takeoff (departure c leg))) ≡ lacks_takeoff_alternate c leg
unfolding needs_takeoff
lacks c leg = neither (meets (at_departure c leg).weather (at_departure c leg).minima) leg.takeoff_alternate

-- the weather at the departure (14 CFR 121.617(a))
pub departure_fail : (c : Case) (n : ℕ) (leg : Leg) → failing (departure_lines c n leg) ≡ map (finding No4 n) (places_of No4 c true leg)
departure_fail c n leg = its_line (line No4 n 0 (compared.Takeoff (departure c leg))) (lacks_takeoff_alternate c leg) (lacks c leg)

far_by : (engines knots : ℕ) (miles : Option ℕ) → is_in_range miles (range engines knots) ≡ in_range engines knots miles
unfolding in_range
far_by engines knots None = refl
far_by engines knots (Some miles) = refl

ranges : (c : Case) (n : ℕ) (leg : Leg) (needed : Bool) (listed : Option TakeoffAlternate) → failing (of_takeoff (range_line c n leg) needed listed) ≡ map (finding No5 n) (place_if (needed && is_far c leg listed) 0)
ranges c n leg false listed = refl
ranges c n leg true None = refl
ranges c n leg true (Some it) = its_line (range_line c n leg it) (is_far c leg (Some it)) (ap not (far_by c.aircraft.engines c.aircraft.oei_knots (miles_of c.grounds.tables leg.from it.station)))

-- the distance to the takeoff alternate (14 CFR 121.617(a)(1), (2))
pub range_fail : (c : Case) (n : ℕ) (leg : Leg) → failing (range_lines c n leg) ≡ map (finding No5 n) (places_of No5 c true leg)
range_fail c n leg = ranges c n leg (needs_takeoff_alternate c leg) leg.takeoff_alternate

lows : (c : Case) (n : ℕ) (leg : Leg) (needed : Bool) (listed : Option TakeoffAlternate) → failing (of_takeoff (takeoff_weather c n leg) needed listed) ≡ map (finding No6 n) (place_if (needed && is_below_there c leg listed) 0)
lows c n leg false listed = refl
lows c n leg true None = refl
lows c n leg true (Some it) = its_line (takeoff_weather c n leg it) (is_below_there c leg (Some it)) refl

-- the weather at the takeoff alternate (14 CFR 121.617(b))
pub takeoff_fail : (c : Case) (n : ℕ) (leg : Leg) → failing (takeoff_lines c n leg) ≡ map (finding No6 n) (places_of No6 c true leg)
takeoff_fail c n leg = lows c n leg (needs_takeoff_alternate c leg) leg.takeoff_alternate

-- the weather at the alternates (14 CFR 121.625)
pub alternates_fail : (c : Case) (ahead : Bool) (n : ℕ) (leg : Leg) → failing (alternate_lines c n leg) ≡ map (finding No10 n) (places_of No10 c ahead leg)
alternates_fail c ahead n leg =
    each_place No10 n (alternate_weather c n leg) (λ (it : Alternate). is_below_alternate c it.station (leg.eta + it.minutes)) (λ i it. refl) (λ i it. refl) 1 leg.alternates
