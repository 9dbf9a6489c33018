-- The plan that a text represents, if the text is the JSON of one.
use Rattle.std.specs.Prelude.{◌≡◌, ℕ, List, Option, None, Some, option_and_then, Result, Ok, Err}
use Rattle.plan.specs.declared.flights.Plan.{Plan}
use Rattle.asks.specs.Canonical.{plan_data}
use Rattle.asks.specs.Fields.{data_of}
use Rattle.asks.specs.Forms.{HasForms}
use Rattle.asks.specs.Plans.{plan_of}
use Rattle.desk_json.specs.declared.plans.PlanText.{PlanText}
use Rattle.desk_json.specs.declared.plans.PlanText.TheVariants.{NotPlan, OutOfMemory}

-- the plan that a text represents
unfoldable pub plan_in : List ℕ → Option Plan
plan_in text = option_and_then plan_of (data_of text)

-- The reader returns the plan, the fault that the text represents none, or out of memory.
abbrev pub AnswersPlan : Option Plan → Result Plan PlanText → Type 0
AnswersPlan o (Ok plan) = o ≡ Some plan
AnswersPlan o (Err NotPlan) = o ≡ None
AnswersPlan o (Err OutOfMemory) = Unit {0}

-- The reader returns this plan, or out of memory.
abbrev pub GivesPlan : Plan → Result Plan PlanText → Type 0
GivesPlan plan (Ok read) = read ≡ plan
GivesPlan plan (Err NotPlan) = ⊥
GivesPlan plan (Err OutOfMemory) = Unit {0}

-- The reader returns each plan with well-formed fields from any text that has its JSON. Out of memory may come instead.
abbrev pub IsPlanAgain : List ℕ → Result Plan PlanText → Type 0
IsPlanAgain text read = (plan : Plan) → HasForms plan → data_of text ≡ Some (plan_data plan) → GivesPlan plan read
