-- The candidates for the alternates of a plan's legs.
use Rattle.std.specs.Prelude.{◌≡◌, ◌≢◌, ℕ, ◌≤◌, ◌==◌, Bool, true, false, not, ◌&&◌, List, [], ◌∷◌, length, map, filter, All, AllPairs, Option, None, Some}
use Rattle.ops_tables.specs.Tables.{TableRows, has_airport}
use Rattle.plan.specs.Check.{is_alternate_at, is_near, is_amount, plan_fault}
use Rattle.plan.specs.declared.flights.Alternate.{Alternate}
use Rattle.plan.specs.declared.flights.Leg.{Leg}
use Rattle.plan.specs.declared.flights.Plan.{Plan}
use Rattle.rules.specs.Judgement.{leg_numbered}
use Rattle.advise.specs.declared.candidates.Candidate.{Candidate}
use Rattle.advise.specs.Listing.{plan_with}

-- A leg may list the alternate: it is an airport other than the destination, and the flight time and the fuel are
-- within the limits of a plan.
abbrev pub is_allowed : TableRows → Leg → Alternate → Bool
is_allowed tables leg it = has_airport tables it.station && not (is_alternate_at leg.to it) && is_near it.minutes && is_amount it.fuel

abbrev pub is_allowed_on : TableRows → Alternate → Option Leg → Bool
is_allowed_on tables it None = false
is_allowed_on tables it (Some leg) = is_allowed tables leg it

-- the candidate's leg is one of the plan's, and may list the alternate
abbrev pub is_candidate : TableRows → Plan → Candidate → Bool
is_candidate tables plan c = is_allowed_on tables c.alternate (leg_numbered c.leg 1 plan.legs)

-- The candidate's leg is one of the plan's, and the plan passes its tests with the alternate alone on that leg.
pub record PassesAlone (tables : TableRows) (plan : Plan) (c : Candidate) : Type 0 where
  pub first : 1 ≤ c.leg
  pub last : c.leg ≤ length plan.legs
  pub passes : plan_fault tables (plan_with plan c.leg (c.alternate ∷ [])) ≡ None

-- Each candidate is an alternate that its leg may list, and no two have the same leg and station.
pub record AreCandidates (tables : TableRows) (plan : Plan) (candidates : List Candidate) : Type 0 where
  pub allowed : All (λ c. is_candidate tables plan c ≡ true) candidates
  pub different : AllPairs (λ one other. one.leg ≡ other.leg → one.alternate.station ≢ other.alternate.station) candidates

-- the alternates that are candidates for a leg, in the order of the candidates
abbrev pub choices_for : ℕ → List Candidate → List Alternate
choices_for number candidates = map (λ c. c.alternate) (filter (λ c. c.leg == number) candidates)
