-- The texts that are written of plans and of what was done are read as these.
use Rattle.std.proofs.Common.{◌≡◌, Some, option_and_then, ap, ◌∙◌, arith}
use Rattle.serde_json.specs.Read.{read}
use Rattle.serde_json.specs.Written.{compact_text}
use Rattle.plan.specs.declared.flights.Plan.{Plan}
use Rattle.asks.specs.declared.reply.Done.{Done}
use Rattle.asks.specs.Canonical.{plan_data, done_data}
use Rattle.asks.specs.Forms.{HasForms, DoneHasForms}
use Rattle.asks.specs.Dones.{done_of}
use Rattle.asks.specs.Plans.{plan_of}
use Rattle.asks.proofs.Again.{plan_again, done_again}
use Rattle.asks.proofs.Compact.{read_compact}
use Rattle.asks.proofs.Plain.{plan_plain, plan_depth, done_plain, done_depth, kept_said}

pub plan_text_again : (p : Plan) → HasForms p → option_and_then plan_of (read (compact_text (plan_data p))) ≡ Some p
plan_text_again p is = ap (option_and_then plan_of) (read_compact (plan_data p) (plan_plain p is) (omega (arith, plan_depth p))) ∙ plan_again p is

pub done_text_again : (d : Done) → DoneHasForms d → option_and_then done_of (read (compact_text (done_data d))) ≡ Some d
done_text_again d is = ap (option_and_then done_of) (read_compact (done_data d) (done_plain d (kept_said d is)) (omega (arith, done_depth d))) ∙ done_again _ _ d is
