use Rattle.facts.proofs.Admission.{none_held}
use Rattle.facts.proofs.IndexLaws.{none_latest}
use Rattle.facts.proofs.SameLaws.{none_keyed}
use Rattle.facts.proofs.reports.Reports.new.Goals as goal

pub invariant_of-result : goal.invariant_of-result
invariant_of-result c = (
  λ e. absurd cc,
  none_held _ c.new.ensures.items,
  none_latest _ _ c.new-2.ensures c.new.ensures.items,
  none_keyed _ _ c.new-3.ensures c.new.ensures.items,
)
