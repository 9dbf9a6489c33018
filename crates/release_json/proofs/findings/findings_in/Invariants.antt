use Rattle.std.proofs.Common.{◌≡◌, drop}
use Rattle.serde_json.specs.View.{items_view}
use Rattle.asks.specs.Fields.{each_read}
use Rattle.asks.proofs.Lists.{onto}
use Rattle.release_json.specs.Findings.{finding_in}
use Rattle.release_json.proofs.findings.findings_in.Given as goal

abbrev pub invariant-loop-item : goal.invariant-loop-item
invariant-loop-item l = onto l.findings (each_read finding_in (items_view (drop l.item-index l.items))) ≡ each_read finding_in (items_view l.items)
