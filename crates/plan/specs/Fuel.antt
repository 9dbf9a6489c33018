-- The fuel that a leg requires, in pounds (14 CFR 121.639, 121.645, 121.647); rates are in pounds per hour.
use Rattle.std.specs.Prelude.{ℕ, ◌+◌, ◌-◌, ◌*◌, ◌/◌, max, Bool, if◌then◌else◌, List, [], ◌∷◌}
use Rattle.plan.specs.declared.flights.Leg.{Leg}
use Rattle.plan.specs.declared.flights.Alternate.{Alternate}
use Rattle.plan.specs.declared.fuel.Basis.{Basis}
use Rattle.plan.specs.declared.fuel.Basis.TheVariants.{Domestic, Flag, NoAlternate}

-- a quotient, rounded up
abbrev pub rounded_up : ℕ → ℕ → ℕ
rounded_up amount parts = (amount + (parts - 1)) / parts

-- the fuel to the most distant alternate, the one that takes the most fuel
abbrev pub most_fuel : List Alternate → ℕ
most_fuel [] = 0
most_fuel (alternate ∷ others) = max alternate.fuel (most_fuel others)

-- the fuel to the most distant alternate, if it is counted
abbrev pub alternate_fuel : Leg → Bool → ℕ
alternate_fuel leg counted = if counted then most_fuel leg.alternates else 0

-- the fuel for this many minutes
abbrev pub fuel_for : ℕ → ℕ → ℕ
fuel_for pph minutes = rounded_up (pph * minutes) 60

-- the fuel for a tenth of this many minutes
abbrev pub tenth_for : ℕ → ℕ → ℕ
tenth_for pph minutes = rounded_up (pph * minutes) 600

-- the fuel that the leg requires
unfoldable pub required : Leg → Basis → Bool → ℕ → ℕ → ℕ → ℕ
required leg Domestic counted cruise_pph hold_pph extra_fuel =
    leg.burn + leg.extra + alternate_fuel leg counted + fuel_for cruise_pph 45 + extra_fuel
required leg Flag counted cruise_pph hold_pph extra_fuel =
    leg.burn + leg.extra + tenth_for cruise_pph leg.minutes + alternate_fuel leg counted + fuel_for hold_pph 30 + extra_fuel
required leg NoAlternate counted cruise_pph hold_pph extra_fuel =
    leg.burn + leg.extra + 2 * cruise_pph + extra_fuel
