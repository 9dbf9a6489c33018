-- The lines on fuel, with the terms of the required fuel (14 CFR 121.639, 121.645, 121.647).
use Rattle.std.specs.Prelude.{◌≡◌, ℕ, ◌+◌, ◌*◌, Bool, List, [], ◌∷◌}
use Rattle.plan.specs.declared.findings.Rule.TheVariants.{No14, No15, No16}
use Rattle.plan.specs.declared.flights.Leg.{Leg}
use Rattle.plan.specs.declared.fuel.Basis.{Basis}
use Rattle.plan.specs.declared.fuel.Basis.TheVariants as basis
use Rattle.plan.specs.Fuel.{alternate_fuel, fuel_for, tenth_for}
use Rattle.rules.specs.Circumstances.{Case}
use Rattle.rules.specs.DestinationAlternates.{is_domestic, is_flag}
use Rattle.rules.specs.Fuel.{basis_of, counts_alternate, required_fuel}
use Rattle.sheet.specs.declared.lines.Line.{Line}
use Rattle.sheet.specs.declared.lines.Compared.TheVariants as compared
use Rattle.sheet.specs.declared.lines.FuelSum.{FuelSum}
use Rattle.sheet.specs.declared.lines.OnBoard.{OnBoard}
use Rattle.sheet.specs.Lines.{line, line_if}

-- a tenth of the time in the air (14 CFR 121.645(b)(2))
abbrev pub tenth_term : Basis → ℕ → ℕ → ℕ
tenth_term basis.Domestic cruise_pph minutes = 0
tenth_term basis.Flag cruise_pph minutes = tenth_for cruise_pph minutes
tenth_term basis.NoAlternate cruise_pph minutes = 0

-- the fuel to the most distant alternate, if it is counted
abbrev pub alternate_term : Basis → Leg → Bool → ℕ
alternate_term basis.Domestic leg counted = alternate_fuel leg counted
alternate_term basis.Flag leg counted = alternate_fuel leg counted
alternate_term basis.NoAlternate leg counted = 0

-- 45 minutes at the cruise rate, 30 minutes of holding, or two hours at the cruise rate
abbrev pub reserve_term : Basis → ℕ → ℕ → ℕ
reserve_term basis.Domestic cruise_pph hold_pph = fuel_for cruise_pph 45
reserve_term basis.Flag cruise_pph hold_pph = fuel_for hold_pph 30
reserve_term basis.NoAlternate cruise_pph hold_pph = 2 * cruise_pph

-- the stated and the required fuel of a leg, with the terms
abbrev pub fuel_sum : Case → Leg → FuelSum
fuel_sum c leg = record {
  stated = leg.minimum;
  required = required_fuel c leg;
  basis = basis_of c leg;
  burn = leg.burn;
  extra = leg.extra;
  tenth = tenth_term (basis_of c leg) c.aircraft.cruise_pph leg.minutes;
  alternate = alternate_term (basis_of c leg) leg (counts_alternate c leg);
  reserve = reserve_term (basis_of c leg) c.aircraft.cruise_pph c.aircraft.hold_pph;
  deferred = c.limits.extra_fuel;
}

-- the terms add up to what is required
abbrev pub AddsUp : FuelSum → Type 0
AddsUp sum = sum.required ≡ sum.burn + sum.extra + sum.tenth + sum.alternate + sum.reserve + sum.deferred

abbrev pub on_board : Leg → OnBoard
on_board leg = record { onboard = leg.onboard; minimum = leg.minimum }

-- the minimum fuel of a domestic leg (14 CFR 121.639)
abbrev pub domestic_lines : Case → ℕ → Leg → List Line
domestic_lines c n leg = line_if (is_domestic c.flight) (line No14 n 0 (compared.Fuel (fuel_sum c leg)))

-- the minimum fuel of a flag leg (14 CFR 121.645)
abbrev pub flag_lines : Case → ℕ → Leg → List Line
flag_lines c n leg = line_if (is_flag c.flight) (line No15 n 0 (compared.Fuel (fuel_sum c leg)))

-- the fuel on board
abbrev pub board_lines : ℕ → Leg → List Line
board_lines n leg = line No16 n 0 (compared.Board (on_board leg)) ∷ []
