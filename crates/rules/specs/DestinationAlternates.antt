-- The rules on the alternates of the destination (14 CFR 121.619, 121.621, 121.625).
use Rattle.std.specs.Prelude.{ℕ, ◌+◌, ◌-◌, Bool, true, false, not, ◌&&◌, if◌then◌else◌, List, [], ◌∷◌, ◌++◌}
use Rattle.codes.specs.declared.cond.Cond.{Cond}
use Rattle.desk_io.specs.declared.pair.Pair.{Pair}
use Rattle.ops_tables.specs.declared.rows.Settings.{Settings}
use Rattle.ops_tables.specs.Tables.{route_free}
use Rattle.plan.specs.declared.flights.Kind.{Kind}
use Rattle.plan.specs.declared.flights.Kind.TheVariants.{Domestic, Flag}
use Rattle.plan.specs.declared.flights.Leg.{Leg}
use Rattle.plan.specs.declared.flights.Alternate.{Alternate}
use Rattle.airport_minima.specs.Minima.{millimetres}
use Rattle.airport_minima.specs.Floor.{flag_floor}
use Rattle.plan.specs.AlternateNeeds.{needs_destination, is_marginal}
use Rattle.rules.specs.Circumstances.{Case, weather_at, worst_weather, landing_at, alternate_at, is_below_alternate}

abbrev pub is_domestic : Kind → Bool
is_domestic Domestic = true
is_domestic Flag = false

abbrev pub is_flag : Kind → Bool
is_flag kind = not (is_domestic kind)

abbrev pub lists_none : List Alternate → Bool
lists_none [] = true
lists_none (a ∷ rest) = false

-- the worst weather at the destination from an hour before the ETA to an hour after it
abbrev pub arrival_weather : Case → Leg → Cond
arrival_weather c leg = worst_weather c.grounds leg.to (leg.eta - 60) (leg.eta + 60)

-- the leg needs an alternate, by the worst weather around the ETA (14 CFR 121.619(a), 121.621(a)(1))
abbrev pub needs_alternate : Case → Leg → Bool
needs_alternate c leg = needs_destination leg c.flight (arrival_weather c leg) (flag_floor c.grounds.tables c.aircraft leg.to c.limits.lost)

-- A domestic leg needs an alternate and lists none (14 CFR 121.619(a)).
abbrev pub lacks_domestic_alternate : Case → Leg → Bool
lacks_domestic_alternate c leg = is_domestic c.flight && needs_alternate c leg && lists_none leg.alternates

-- the margin: weather that isn't this much above minima is marginal
abbrev pub margin : Settings → Pair
margin settings = record { ceiling = settings.marginal_ceiling; vis = millimetres settings.marginal_vis16 }

-- the destination at the ETA is marginal, by its landing minima
abbrev pub is_marginal_landing : Case → Leg → Bool
is_marginal_landing c leg = is_marginal (weather_at c.grounds leg.to leg.eta) (landing_at c leg.to) (margin c.grounds.tables.settings)

-- an alternate is marginal, by its alternate minima, when the aircraft arrives there from the destination
abbrev pub is_marginal_at : Case → Leg → Alternate → Bool
is_marginal_at c leg it = is_marginal (weather_at c.grounds it.station (leg.eta + it.minutes)) (alternate_at c it.station) (margin c.grounds.tables.settings)

-- one alternate is listed, and it and the destination are both marginal
abbrev pub are_marginal : Case → Leg → List Alternate → Bool
are_marginal c leg [] = false
are_marginal c leg (it ∷ []) = is_marginal_landing c leg && is_marginal_at c leg it
are_marginal c leg (it ∷ other ∷ rest) = false

-- A domestic leg needs an alternate and lists one, and the destination and that alternate are both marginal (14 CFR
-- 121.619(a)).
abbrev pub lacks_second_alternate : Case → Leg → Bool
lacks_second_alternate c leg = is_domestic c.flight && needs_alternate c leg && are_marginal c leg leg.alternates

-- a flag flight on this route may go without an alternate (14 CFR 121.621(a)(2))
abbrev pub is_free : Case → Leg → Bool
is_free c leg = route_free c.grounds.tables leg.from leg.to

-- A flag leg needs an alternate and lists none, and its route isn't free of them (14 CFR 121.621(a)).
abbrev pub lacks_flag_alternate : Case → Leg → Bool
lacks_flag_alternate c leg = is_flag c.flight && needs_alternate c leg && lists_none leg.alternates && not (is_free c leg)

abbrev pub place_if : Bool → ℕ → List ℕ
place_if fails place = if fails then place ∷ [] else []

-- the numbers, counted from n, of the items that fail
abbrev pub places_from : {A : Type 0} → (A → Bool) → ℕ → List A → List ℕ
places_from fails n [] = []
places_from fails n (a ∷ rest) = place_if (fails a) n ++ places_from fails (n + 1) rest

-- The listed alternates that are below their alternate minima when the aircraft arrives there from the destination
-- (14 CFR 121.625).
abbrev pub low_alternates : Case → Leg → List ℕ
low_alternates c leg = places_from (λ it. is_below_alternate c it.station (leg.eta + it.minutes)) 1 leg.alternates
