-- When an alternate is needed, and marginal weather at the one that is listed.
use Rattle.std.proofs.Common.{◌≡◌, Bool, true, false, ◌&&◌, List, [], ◌∷◌, Option, refl, ap}
use Rattle.std.specs.List.{list_all}
use Rattle.codes.specs.declared.cond.Cond.{Cond}
use Rattle.desk_io.specs.declared.pair.Pair.{Pair}
use Rattle.plan.specs.declared.flights.Kind.TheVariants.{Domestic}
use Rattle.plan.specs.declared.flights.Leg.{Leg}
use Rattle.plan.specs.declared.flights.Alternate.{Alternate}
use Rattle.plan.specs.AlternateNeeds.{needs_destination}
use Rattle.rules.specs.Circumstances.{Case}
use Rattle.rules.specs.DestinationAlternates.{is_marginal_landing, is_marginal_at, are_marginal}
use Rattle.rules.specs.Sights.{lists_one}

-- the floor plays no part in a domestic flight
pub needs_domestic : (leg : Leg) (window : Cond) (a b : Option Pair) → needs_destination leg Domestic window a ≡ needs_destination leg Domestic window b
unfolding needs_destination
needs_domestic leg window a b = refl

and_true : (b : Bool) → (b && true) ≡ b
and_true true = refl
and_true false = refl

-- of a list of one, all are marginal where the one is
pub marginal_at_one : (c : Case) (leg : Leg) (listed : List Alternate)
    → (lists_one listed && is_marginal_landing c leg && list_all (is_marginal_at c leg) listed) ≡ are_marginal c leg listed
marginal_at_one c leg [] = refl
marginal_at_one c leg (it ∷ []) = ap (λ b. is_marginal_landing c leg && b) (and_true (is_marginal_at c leg it))
marginal_at_one c leg (it ∷ other ∷ rest) = refl
