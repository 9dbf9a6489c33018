-- What the tests of the rules on fuel tell of a leg (14 CFR 121.639, 121.645).
use Rattle.std.proofs.Common.{◌≡◌, ℕ, ◌+◌, ◌*◌, ◌/◌, ◌≤◌, Bool, true, false, not, ◌&&◌, ◌||◌, if◌then◌else◌, List, [], ◌∷◌, refl, sym, ◌∙◌, arith}
use Rattle.std.specs.Prelude.{nat_lt}
use Rattle.std.specs.List.{All}
use Rattle.std.proofs.lemmas.List.Elements.{All-nil, All-cons, All-head, All-tail, All-weaker}
use Rattle.plan.specs.declared.flights.Kind.{Kind}
use Rattle.plan.specs.declared.flights.Kind.TheVariants.{Domestic, Flag}
use Rattle.plan.specs.declared.flights.Leg.{Leg}
use Rattle.plan.specs.declared.flights.Alternate.{Alternate}
use Rattle.plan.specs.declared.fuel.Basis.{Basis}
use Rattle.plan.specs.declared.fuel.Basis.TheVariants as basis
use Rattle.plan.specs.Fuel.{most_fuel, alternate_fuel, required}
use Rattle.rules.specs.Circumstances.{Case}
use Rattle.rules.specs.DestinationAlternates.{is_domestic, is_flag, lists_none, needs_alternate, is_free}
use Rattle.rules.specs.Fuel.{is_within_states, counts_alternate, is_short_domestic, is_short_flag}
use Rattle.rules.specs.Regulation.{NeedsAlternate, IsWithinMinimum, HasCruiseReserve, HasHoldingReserve, GoesWithout, HasFlagFuel}
use Rattle.rules.proofs.Tells.{Tells, tells_same, tells_and, tells_true, tells_not_less}
use Rattle.rules.proofs.SectionTells.{lists_none_tells, needed_tells}

-- with the greatest fuel to an alternate, and so with that to each
each_within : (rest minimum : ℕ) (listed : List Alternate) → rest + most_fuel listed ≤ minimum → All (λ it. rest + it.fuel ≤ minimum) listed
each_within rest minimum [] h = All-nil (λ it. rest + it.fuel ≤ minimum)
each_within rest minimum (a ∷ others) h =
    All-cons (λ it. rest + it.fuel ≤ minimum) a others (omega (arith, h)) (each_within rest minimum others (omega (arith, h)))

most_within : (rest minimum : ℕ) (listed : List Alternate) → rest ≤ minimum → All (λ it. rest + it.fuel ≤ minimum) listed → rest + most_fuel listed ≤ minimum
most_within rest minimum [] h all = omega (arith, h)
most_within rest minimum (a ∷ others) h all =
    let one = All-head (λ it. rest + it.fuel ≤ minimum) a others all in
    let more = most_within rest minimum others h (All-tail (λ it. rest + it.fuel ≤ minimum) a others all) in
    omega (arith, one, more)

-- the fuel to the most distant alternate, where it is needed
abbrev counted_fuel : Bool → List Alternate → ℕ
counted_fuel needs listed = if needs && not (lists_none listed) then most_fuel listed else 0

-- what is within the minimum, without an alternate and, where it is needed, with each
abbrev EachWithin : Type 0 → ℕ → ℕ → List Alternate → Type 0
EachWithin N rest minimum listed = (rest ≤ minimum) × (N → All (λ it. rest + it.fuel ≤ minimum) listed)

counted_each : (needs : Bool) (N : Type 0) (rest minimum : ℕ) (listed : List Alternate) → Tells needs N → rest + counted_fuel needs listed ≤ minimum → EachWithin N rest minimum listed
counted_each true N rest minimum [] needed h = (omega (arith, h), λ n. All-nil (λ it. rest + it.fuel ≤ minimum))
counted_each true N rest minimum (a ∷ others) needed h = (omega (arith, h), λ n. each_within rest minimum (a ∷ others) h)
counted_each false N rest minimum listed needed h = (omega (arith, h), λ n. absurd (needed n))

each_counted : (needs : Bool) (N : Type 0) (rest minimum : ℕ) (listed : List Alternate) → Tells needs N → EachWithin N rest minimum listed → rest + counted_fuel needs listed ≤ minimum
each_counted true N rest minimum [] needed h = let less = h.0 in omega (arith, less)
each_counted true N rest minimum (a ∷ others) needed h = most_within rest minimum (a ∷ others) h.0 (h.1 needed)
each_counted false N rest minimum listed needed h = let less = h.0 in omega (arith, less)

-- all but the fuel to an alternate
abbrev other_fuel : Case → Leg → ℕ → ℕ
other_fuel c leg reserve = leg.burn + leg.extra + reserve + c.limits.extra_fuel

within_of : (c : Case) (leg : Leg) (reserve : ℕ) → other_fuel c leg reserve + alternate_fuel leg (counts_alternate c leg) ≤ leg.minimum → IsWithinMinimum c leg reserve
within_of c leg reserve h =
    let each = counted_each (needs_alternate c leg) (NeedsAlternate c leg) (other_fuel c leg reserve) leg.minimum leg.alternates (needed_tells c leg) h in
    record {
      to_destination = each.0;
      to_each_alternate = λ needs. All-weaker (λ it. other_fuel c leg reserve + it.fuel ≤ leg.minimum) (λ it. leg.burn + leg.extra + it.fuel + reserve + c.limits.extra_fuel ≤ leg.minimum)
          (λ it less. omega (arith, less)) leg.alternates (each.1 needs);
    }

of_within : (c : Case) (leg : Leg) (reserve : ℕ) → IsWithinMinimum c leg reserve → other_fuel c leg reserve + alternate_fuel leg (counts_alternate c leg) ≤ leg.minimum
of_within c leg reserve is =
    each_counted (needs_alternate c leg) (NeedsAlternate c leg) (other_fuel c leg reserve) leg.minimum leg.alternates (needed_tells c leg) (
      is.to_destination,
      λ needs. All-weaker (λ it. leg.burn + leg.extra + it.fuel + reserve + c.limits.extra_fuel ≤ leg.minimum) (λ it. other_fuel c leg reserve + it.fuel ≤ leg.minimum)
          (λ it less. omega (arith, less)) leg.alternates (is.to_each_alternate needs),
    )

-- pounds that last for some minutes are at least those that are rounded up
least_pounds : (amount pounds : ℕ) → amount ≤ pounds * 60 → (amount + 59) / 60 ≤ pounds
least_pounds amount pounds h = omega (arith, h)

pounds_last : (amount : ℕ) → amount ≤ (amount + 59) / 60 * 60
pounds_last amount = omega arith

least_tenths : (amount pounds : ℕ) → amount ≤ pounds * 600 → (amount + 599) / 600 ≤ pounds
least_tenths amount pounds h = omega (arith, h)

tenths_last : (amount : ℕ) → amount ≤ (amount + 599) / 600 * 600
tenths_last amount = omega arith

sum_with : (burn extra alternate reserve more minimum : ℕ) → burn + extra + alternate + reserve + more ≤ minimum → burn + extra + reserve + more + alternate ≤ minimum
sum_with burn extra alternate reserve more minimum h = omega (arith, h)

sum_of : (burn extra alternate least reserve more minimum : ℕ) → least ≤ reserve → burn + extra + reserve + more + alternate ≤ minimum → burn + extra + alternate + least + more ≤ minimum
sum_of burn extra alternate least reserve more minimum less h = omega (arith, less, h)

cruise_tells : (c : Case) (leg : Leg)
    → Tells (not (nat_lt leg.minimum (required leg basis.Domestic (counts_alternate c leg) c.aircraft.cruise_pph c.aircraft.hold_pph c.limits.extra_fuel))) (HasCruiseReserve c leg)
unfolding required
cruise_tells c leg =
    let cruise : ℕ = c.aircraft.cruise_pph * 45 in
    let least : ℕ = (cruise + 59) / 60 in
    let other : ℕ = alternate_fuel leg (counts_alternate c leg) in
    let sum : ℕ = leg.burn + leg.extra + other + least + c.limits.extra_fuel in
    tells_same (not (nat_lt leg.minimum sum)) (sum ≤ leg.minimum) (HasCruiseReserve c leg)
    (λ h. record { pounds = least; last = pounds_last cruise; within = within_of c leg least (sum_with leg.burn leg.extra other least c.limits.extra_fuel leg.minimum h) })
    (λ has. sum_of leg.burn leg.extra other least has.pounds c.limits.extra_fuel leg.minimum (least_pounds cruise has.pounds has.last) (of_within c leg has.pounds has.within))
    (tells_not_less leg.minimum sum)

sum_with_tenth : (burn extra tenth alternate holding more minimum : ℕ) → burn + extra + tenth + alternate + holding + more ≤ minimum → burn + extra + (tenth + holding) + more + alternate ≤ minimum
sum_with_tenth burn extra tenth alternate holding more minimum h = omega (arith, h)

sum_of_tenth : (burn extra least tenth alternate low holding more minimum : ℕ) → least ≤ tenth → low ≤ holding → burn + extra + (tenth + holding) + more + alternate ≤ minimum
    → burn + extra + least + alternate + low + more ≤ minimum
sum_of_tenth burn extra least tenth alternate low holding more minimum less lower h = omega (arith, less, lower, h)

holding_tells : (c : Case) (leg : Leg)
    → Tells (not (nat_lt leg.minimum (required leg basis.Flag (counts_alternate c leg) c.aircraft.cruise_pph c.aircraft.hold_pph c.limits.extra_fuel))) (HasHoldingReserve c leg)
unfolding required
holding_tells c leg =
    let cruise : ℕ = c.aircraft.cruise_pph * leg.minutes in
    let hold : ℕ = c.aircraft.hold_pph * 30 in
    let least : ℕ = (cruise + 599) / 600 in
    let low : ℕ = (hold + 59) / 60 in
    let other : ℕ = alternate_fuel leg (counts_alternate c leg) in
    let more : ℕ = c.limits.extra_fuel in
    let sum : ℕ = leg.burn + leg.extra + least + other + low + more in
    tells_same (not (nat_lt leg.minimum sum)) (sum ≤ leg.minimum) (HasHoldingReserve c leg)
    (λ h. record {
      tenth = least;
      lasts_tenth = tenths_last cruise;
      holding = low;
      lasts_holding = pounds_last hold;
      within = within_of c leg (least + low) (sum_with_tenth leg.burn leg.extra least other low more leg.minimum h);
    })
    (λ has. sum_of_tenth leg.burn leg.extra least has.tenth other low has.holding more leg.minimum
    (least_tenths cruise has.tenth has.lasts_tenth) (least_pounds hold has.holding has.lasts_holding) (of_within c leg (has.tenth + has.holding) has.within))
    (tells_not_less leg.minimum sum)

two_hours_tells : (c : Case) (leg : Leg) (counted : Bool)
    → Tells (not (nat_lt leg.minimum (required leg basis.NoAlternate counted c.aircraft.cruise_pph c.aircraft.hold_pph c.limits.extra_fuel)))
    (leg.burn + leg.extra + 2 * c.aircraft.cruise_pph + c.limits.extra_fuel ≤ leg.minimum)
unfolding required
two_hours_tells c leg counted = tells_not_less leg.minimum (leg.burn + leg.extra + 2 * c.aircraft.cruise_pph + c.limits.extra_fuel)

-- the fuel by a basis
abbrev is_short_by : Case → Leg → Basis → Bool
is_short_by c leg by = nat_lt leg.minimum (required leg by (counts_alternate c leg) c.aircraft.cruise_pph c.aircraft.hold_pph c.limits.extra_fuel)

-- the basis of a domestic flight, whatever else holds
domestic_by : (kind : Kind) (more inside : Bool) (c : Case) (leg : Leg)
    → Tells (not (is_domestic kind && is_short_by c leg (if is_flag kind && more then basis.NoAlternate else (if is_domestic kind || inside then basis.Domestic else basis.Flag))))
    (kind ≡ Domestic → HasCruiseReserve c leg)
domestic_by Domestic more inside c leg =
    tells_same (not (is_short_by c leg basis.Domestic)) (HasCruiseReserve c leg) (Domestic ≡ Domestic → HasCruiseReserve c leg) (λ has e. has) (λ f. f refl) (cruise_tells c leg)
domestic_by Flag more inside c leg = λ e. absurd (cc)

and_joins : (a b d e : Bool) → (a && b && d && e) ≡ (a && (b && d && e))
and_joins true b d e = refl
and_joins false b d e = refl

pub domestic_fuel_tells : (c : Case) (leg : Leg) → Tells (not (is_short_domestic c leg)) (c.flight ≡ Domestic → HasCruiseReserve c leg)
domestic_fuel_tells c leg =
    rw (and_joins (is_flag c.flight) (needs_alternate c leg) (lists_none leg.alternates) (is_free c leg))
    (domestic_by c.flight (needs_alternate c leg && lists_none leg.alternates && is_free c leg) (is_within_states c.grounds.tables leg) c leg)

-- a flag flight that needs an alternate and goes without
without_tells : (c : Case) (leg : Leg) → Tells (needs_alternate c leg && lists_none leg.alternates && is_free c leg) (GoesWithout c leg)
without_tells c leg =
    tells_same (needs_alternate c leg && lists_none leg.alternates && is_free c leg) ((NeedsAlternate c leg × (leg.alternates ≡ [])) × (is_free c leg ≡ true)) (GoesWithout c leg)
    (λ all. record { needs = all.0.0; lists_none = all.0.1; is_free = all.1 }) (λ is. ((is.needs, is.lists_none), is.is_free))
    (tells_and (needs_alternate c leg && lists_none leg.alternates) (is_free c leg) (NeedsAlternate c leg × (leg.alternates ≡ [])) (is_free c leg ≡ true)
    (tells_and (needs_alternate c leg) (lists_none leg.alternates) (NeedsAlternate c leg) (leg.alternates ≡ []) (needed_tells c leg) (lists_none_tells leg.alternates))
    (tells_true (is_free c leg)))

flag_basis : (without inside : Bool) (c : Case) (leg : Leg) → is_within_states c.grounds.tables leg ≡ inside → Tells without (GoesWithout c leg)
    → Tells (not (is_short_by c leg (if without then basis.NoAlternate else (if inside then basis.Domestic else basis.Flag)))) (HasFlagFuel c leg)
flag_basis true inside c leg e goes =
    tells_same (not (is_short_by c leg basis.NoAlternate)) (leg.burn + leg.extra + 2 * c.aircraft.cruise_pph + c.limits.extra_fuel ≤ leg.minimum) (HasFlagFuel c leg)
    (λ h. record { without_alternate = λ g. h; within_states = λ never. absurd (never goes); beyond_states = λ never. absurd (never goes) })
    (λ has. has.without_alternate goes) (two_hours_tells c leg (counts_alternate c leg))
flag_basis false true c leg e goes =
    tells_same (not (is_short_by c leg basis.Domestic)) (HasCruiseReserve c leg) (HasFlagFuel c leg)
    (λ h. record { without_alternate = λ g. absurd (goes g); within_states = λ never is. h; beyond_states = λ never is. absurd (let f : true ≡ false = sym e ∙ is in cc) })
    (λ has. has.within_states goes e) (cruise_tells c leg)
flag_basis false false c leg e goes =
    tells_same (not (is_short_by c leg basis.Flag)) (HasHoldingReserve c leg) (HasFlagFuel c leg)
    (λ h. record { without_alternate = λ g. absurd (goes g); within_states = λ never is. absurd (let f : false ≡ true = sym e ∙ is in cc); beyond_states = λ never is. h })
    (λ has. has.beyond_states goes e) (holding_tells c leg)

flag_by : (kind : Kind) (more inside : Bool) (c : Case) (leg : Leg) → is_within_states c.grounds.tables leg ≡ inside → Tells more (GoesWithout c leg)
    → Tells (not (is_flag kind && is_short_by c leg (if is_flag kind && more then basis.NoAlternate else (if is_domestic kind || inside then basis.Domestic else basis.Flag))))
    (kind ≡ Flag → HasFlagFuel c leg)
flag_by Domestic more inside c leg e goes = λ e. absurd (cc)
flag_by Flag more inside c leg e goes =
    tells_same (not (is_short_by c leg (if more then basis.NoAlternate else (if inside then basis.Domestic else basis.Flag)))) (HasFlagFuel c leg) (Flag ≡ Flag → HasFlagFuel c leg)
    (λ has is. has) (λ f. f refl) (flag_basis more inside c leg e goes)

pub flag_fuel_tells : (c : Case) (leg : Leg) → Tells (not (is_short_flag c leg)) (c.flight ≡ Flag → HasFlagFuel c leg)
flag_fuel_tells c leg =
    rw (and_joins (is_flag c.flight) (needs_alternate c leg) (lists_none leg.alternates) (is_free c leg))
    (flag_by c.flight (needs_alternate c leg && lists_none leg.alternates && is_free c leg) (is_within_states c.grounds.tables leg) c leg refl (without_tells c leg))
