-- What is read of a plan has its forms, and the JSON of a plan is read as it.
use Rattle.std.proofs.Common.{◌≡◌, ℕ, List, Option, Some, IfSome, IfOk, Result, Ok, Err, ap, ◌∙◌, subst}
use Rattle.std.specs.Prelude.{option_and_then}
use Rattle.plan.specs.declared.flights.Plan.{Plan}
use Rattle.desk_time.proofs.Chains.{then_if}
use Rattle.asks.specs.Fields.{data_of}
use Rattle.asks.specs.Forms.{HasForms}
use Rattle.asks.specs.Plans.{plan_of}
use Rattle.asks.proofs.Again.{plan_again}
use Rattle.asks.proofs.PlanForms.{plan_formed}
use Rattle.desk_json.specs.Plans.{plan_in, AnswersPlan, GivesPlan, IsPlanAgain}
use Rattle.desk_json.specs.declared.plans.PlanText.{PlanText}
use Rattle.desk_json.specs.declared.plans.PlanText.TheVariants.{NotPlan, OutOfMemory}

pub plan_forms : (text : List ℕ) (r : Result Plan PlanText) → AnswersPlan (plan_in text) r → IfOk r HasForms
unfolding plan_in
plan_forms text (Ok plan) is = subst (λ (o : Option Plan). IfSome o HasForms) is (then_if plan_of (data_of text) HasForms plan_formed)
plan_forms text (Err NotPlan) is = tt
plan_forms text (Err OutOfMemory) is = tt

gives : (plan : Plan) (o : Option Plan) (r : Result Plan PlanText) → o ≡ Some plan → AnswersPlan o r → GivesPlan plan r
gives plan o (Ok read) same is = cc
gives plan o (Err NotPlan) same is = absurd (cc)
gives plan o (Err OutOfMemory) same is = tt

pub plan_is_again : (text : List ℕ) (r : Result Plan PlanText) → AnswersPlan (plan_in text) r → IsPlanAgain text r
unfolding plan_in
plan_is_again text r is = λ plan forms same. gives plan (plan_in text) r (ap (option_and_then plan_of) same ∙ plan_again plan forms) is
