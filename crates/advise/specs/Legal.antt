-- Which lists of alternates are legal for a leg, and what each costs in fuel.
use Rattle.std.specs.Prelude.{◌≢◌, ℕ, ◌<◌, ◌≤◌, List, length, All, AllPairs, Contains}
use Rattle.plan.specs.declared.findings.Finding.{Finding}
use Rattle.plan.specs.declared.findings.Rule.TheVariants.{No7, No8, No9, No10, No13}
use Rattle.plan.specs.declared.flights.Alternate.{Alternate}
use Rattle.plan.specs.declared.flights.Plan.{Plan}
use Rattle.plan.specs.declared.release.Phase.{Phase}
use Rattle.rules.specs.Grounds.{Grounds}
use Rattle.rules.specs.Judgement.{finding, findings_of}
use Rattle.rules.specs.Regulation.{IsSilent}
use Rattle.rules.specs.Required.{required_of}
use Rattle.advise.specs.declared.candidates.Candidate.{Candidate}
use Rattle.advise.specs.Candidates.{choices_for}
use Rattle.advise.specs.Listing.{plan_with}
use Rattle.advise.specs.Places.{listed_at}

-- What is asked: which alternates a leg of a plan should list.
pub record Question : Type 0 where
  pub plan : Plan
  pub phase : Phase
  -- the number of the leg, counted from 1
  pub leg : ℕ
  -- the alternates that may be chosen, in the order of the candidates
  pub choices : List Alternate
  pub grounds : Grounds

-- the question that is asked with these candidates
abbrev pub question : Plan → Phase → ℕ → List Candidate → Grounds → Question
question plan phase leg candidates grounds = record { plan = plan; phase = phase; leg = leg; choices = choices_for leg candidates; grounds = grounds }

-- No finding is against the alternates of the leg (14 CFR 121.619, 121.621, 121.625, 121.631). The destination and the
-- takeoff alternate (places 0 and 9 of the last rule) don't count.
pub record IsSilentOnAlternates (fs : List Finding) (leg : ℕ) : Type 0 where
  pub domestic_alternate : IsSilent fs No7 leg
  pub second_alternate : IsSilent fs No8 leg
  pub flag_alternate : IsSilent fs No9 leg
  pub weather : IsSilent fs No10 leg
  pub airports : (place : ℕ) → 1 ≤ place → place ≤ 3 → Contains fs (finding No13 leg place) → ⊥

-- the plan with the alternates at these places on its leg
abbrev pub plan_at : Question → List ℕ → Plan
plan_at q places = plan_with q.plan q.leg (listed_at q.choices places)

-- A list of at most three different candidates is legal if no finding is against it.
pub record IsLegal (q : Question) (places : List ℕ) : Type 0 where
  pub few : length places ≤ 3
  pub are_choices : All (λ place. place < length q.choices) places
  pub different : AllPairs (λ one other. one ≢ other) places
  pub allowed : IsSilentOnAlternates (findings_of (plan_at q places) q.phase q.grounds) q.leg

-- the fuel in pounds that the leg requires with the list
abbrev pub cost : Question → List ℕ → ℕ
cost q places = required_of (plan_at q places) q.phase q.leg q.grounds
