-- Which plan is pending for a release, and what proposes it. A captain's concurrence puts the pending plan in force.
use Rattle.std.specs.Prelude.{◌≡◌, ℕ, List, Option, option_and_then}
use Rattle.std.specs.Option.{option_map}
use Rattle.asks.specs.declared.call.Ask.{Ask}
use Rattle.asks.specs.declared.call.Ask.TheVariants as ask
use Rattle.desk_state.specs.State.{State, release_at}
use Rattle.desk_state.specs.declared.entry.What.{What}
use Rattle.desk_state.specs.declared.entry.What.TheVariants as what
use Rattle.plan.specs.declared.flights.Plan.{Plan}
use Rattle.plan.specs.declared.release.Release.{Release}

-- the plan of the pending revision
abbrev pub pending_plan : Release → Option Plan
pending_plan r = option_map (λ v. v.plan) r.pending

abbrev pub pending_plan_in : ℕ → List Release → Option Plan
pending_plan_in id releases = option_and_then pending_plan (release_at id releases)

-- the plan that is pending for the release with this id
abbrev pub pending_plan_at : ℕ → State → Option Plan
pending_plan_at id s = pending_plan_in id s.releases

-- An ask proposes a plan for a release: it amends that release, or drafts a new one.
abbrev pub Proposes : ℕ → Plan → Ask → Type 0
Proposes id plan (ask.Amend release proposed) = (release ≡ id) × (proposed ≡ plan)
Proposes id plan (ask.Draft proposed) = proposed ≡ plan
Proposes id plan _ = ⊥

abbrev pub IsProposedBy : ℕ → Plan → What → Type 0
IsProposedBy id plan (what.Tick to) = ⊥
IsProposedBy id plan (what.Asked call reply) = Proposes id plan call.ask
