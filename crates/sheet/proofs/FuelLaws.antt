-- The terms of the required fuel add up, and the lines on fuel fail exactly where the rules on fuel do.
use Rattle.std.proofs.Common.{◌≡◌, ℕ, ◌+◌, ◌*◌, Bool, refl, arith}
use Rattle.std.specs.Prelude.{nat_lt, map}
use Rattle.plan.specs.declared.findings.Rule.TheVariants.{No14, No15, No16}
use Rattle.plan.specs.declared.flights.Leg.{Leg}
use Rattle.plan.specs.declared.fuel.Basis.{Basis}
use Rattle.plan.specs.declared.fuel.Basis.TheVariants as basis
use Rattle.plan.specs.Fuel.{required, alternate_fuel, fuel_for}
use Rattle.rules.specs.Circumstances.{Case}
use Rattle.rules.specs.DestinationAlternates.{is_domestic, is_flag}
use Rattle.rules.specs.Fuel.{basis_of, counts_alternate, required_fuel}
use Rattle.rules.specs.Judgement.{finding, places_of}
use Rattle.sheet.specs.declared.lines.Compared.TheVariants as compared
use Rattle.sheet.specs.Fuel.{tenth_term, alternate_term, reserve_term, fuel_sum, on_board, AddsUp, domestic_lines, flag_lines, board_lines}
use Rattle.sheet.specs.Lines.{line, failing}
use Rattle.sheet.proofs.LineLaws.{not_within, one_line, its_line}

no_tenth : (burn extra alternate reserve deferred : ℕ) → burn + extra + alternate + reserve + deferred ≡ burn + extra + 0 + alternate + reserve + deferred
no_tenth burn extra alternate reserve deferred = omega arith

no_alternate : (burn extra reserve deferred : ℕ) → burn + extra + reserve + deferred ≡ burn + extra + 0 + 0 + reserve + deferred
no_alternate burn extra reserve deferred = omega arith

terms_add_up : (leg : Leg) (by : Basis) (counted : Bool) (cruise hold deferred : ℕ)
    → required leg by counted cruise hold deferred ≡ leg.burn + leg.extra + tenth_term by cruise leg.minutes + alternate_term by leg counted + reserve_term by cruise hold + deferred
unfolding required
terms_add_up leg basis.Domestic counted cruise hold deferred = no_tenth leg.burn leg.extra (alternate_fuel leg counted) (fuel_for cruise 45) deferred
terms_add_up leg basis.Flag counted cruise hold deferred = refl
terms_add_up leg basis.NoAlternate counted cruise hold deferred = no_alternate leg.burn leg.extra (2 * cruise) deferred

pub sum_adds_up : (c : Case) (leg : Leg) → AddsUp (fuel_sum c leg)
sum_adds_up c leg = terms_add_up leg (basis_of c leg) (counts_alternate c leg) c.aircraft.cruise_pph c.aircraft.hold_pph c.limits.extra_fuel

-- a domestic leg's minimum fuel (14 CFR 121.639)
pub domestic_fail : (c : Case) (ahead : Bool) (n : ℕ) (leg : Leg) → failing (domestic_lines c n leg) ≡ map (finding No14 n) (places_of No14 c ahead leg)
domestic_fail c ahead n leg = one_line (is_domestic c.flight) (line No14 n 0 (compared.Fuel (fuel_sum c leg))) (nat_lt leg.minimum (required_fuel c leg)) (not_within (required_fuel c leg) leg.minimum)

-- a flag leg's minimum fuel (14 CFR 121.645)
pub flag_fail : (c : Case) (ahead : Bool) (n : ℕ) (leg : Leg) → failing (flag_lines c n leg) ≡ map (finding No15 n) (places_of No15 c ahead leg)
flag_fail c ahead n leg = one_line (is_flag c.flight) (line No15 n 0 (compared.Fuel (fuel_sum c leg))) (nat_lt leg.minimum (required_fuel c leg)) (not_within (required_fuel c leg) leg.minimum)

-- the fuel on board
pub board_fail : (c : Case) (ahead : Bool) (n : ℕ) (leg : Leg) → failing (board_lines n leg) ≡ map (finding No16 n) (places_of No16 c ahead leg)
board_fail c ahead n leg = its_line (line No16 n 0 (compared.Board (on_board leg))) (nat_lt leg.onboard leg.minimum) (not_within leg.minimum leg.onboard)
