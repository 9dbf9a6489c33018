-- Whether a flight needs an alternate, and whether a takeoff alternate is near enough (14 CFR 121.617, 121.619,
-- 121.621).
use Rattle.std.specs.Prelude.{ℕ, ◌-◌, ◌*◌, nat_le, nat_lt, Bool, true, false, not, ◌||◌, if◌then◌else◌, List, Option, None, Some}
use Rattle.std.specs.List.{list_any}
use Rattle.codes.specs.declared.cond.Cond.{Cond}
use Rattle.plan.specs.declared.flights.Leg.{Leg}
use Rattle.plan.specs.declared.flights.Kind.{Kind}
use Rattle.plan.specs.declared.flights.Kind.TheVariants.{Domestic, Flag}
use Rattle.desk_io.specs.declared.pair.Pair.{Pair}
use Rattle.codes.specs.Minima.{is_met, meets}
use Rattle.desk_io.specs.Pair.{raised}

-- a takeoff alternate is needed if the weather meets none of the landing minima
unfoldable pub needs_takeoff : Cond → List Pair → Bool
needs_takeoff cond landing = not (meets cond landing)

-- the range in nautical miles: one hour of flight with two engines, two hours with three or more
abbrev pub range : ℕ → ℕ → ℕ
range engines knots = if nat_le 3 engines then 2 * knots else knots

-- an airport is near enough for a takeoff alternate; an unknown distance is too far
unfoldable pub in_range : ℕ → ℕ → Option ℕ → Bool
in_range engines knots None = false
in_range engines knots (Some miles) = nat_le miles (range engines knots)

-- 2,000 feet and 3 statute miles
abbrev pub domestic_floor : Pair
domestic_floor = record { ceiling = 2_000; vis = 3 * 1_609_344 }

-- the weather is below the floor, or there is no floor
abbrev pub misses : Cond → Option Pair → Bool
misses window None = true
misses window (Some floor) = not (is_met window floor)

-- the leg is scheduled for more than six hours
abbrev pub is_long : Leg → Bool
is_long leg = nat_lt 360 (leg.eta - leg.etd)

-- the destination needs an alternate, if `window` is the worst weather there
unfoldable pub needs_destination : Leg → Kind → Cond → Option Pair → Bool
needs_destination leg Domestic window floor = misses window (Some domestic_floor)
needs_destination leg Flag window floor = is_long leg || misses window floor

-- the weather meets one of the minima raised by the margin
abbrev pub meets_raised : Cond → List Pair → Pair → Bool
meets_raised cond pairs margin = list_any (λ pair. is_met cond (raised margin pair)) pairs

-- the weather is marginal if it meets none of the minima raised by the margin
unfoldable pub is_marginal : Cond → List Pair → Pair → Bool
is_marginal cond pairs margin = not (meets_raised cond pairs margin)
