-- A plan with other alternates on one of its legs.
use Rattle.std.specs.Prelude.{ℕ, ◌+◌, ◌==◌, Bool, true, false, List, [], ◌∷◌}
use Rattle.plan.specs.declared.flights.Alternate.{Alternate}
use Rattle.plan.specs.declared.flights.Leg.{Leg}
use Rattle.plan.specs.declared.flights.Plan.{Plan}

-- the leg with these alternates, if it is the one that gets them
abbrev pub leg_if : Bool → List Alternate → Leg → Leg
leg_if true listed leg = record leg { alternates = listed }
leg_if false listed leg = leg

-- the same for some legs, if the first of them has the number `first`
abbrev pub legs_with : ℕ → ℕ → List Alternate → List Leg → List Leg
legs_with number first listed [] = []
legs_with number first listed (leg ∷ legs) = leg_if (number == first) listed leg ∷ legs_with number (first + 1) listed legs

-- the plan with these alternates on the leg of a number, counted from 1, in place of those that the leg lists
abbrev pub plan_with : Plan → ℕ → List Alternate → Plan
plan_with plan number listed = record plan { legs = legs_with number 1 listed plan.legs }
