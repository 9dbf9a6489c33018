use Rattle.std.proofs.Common.{◌≡◌, drop}
use Rattle.serde_json.specs.View.{items_view}
use Rattle.asks.specs.Fields.{each_read}
use Rattle.asks.proofs.Lists.{onto}
use Rattle.release_json.specs.Releases.{attached_of}
use Rattle.release_json.proofs.revisions.attached_in.Given as goal

abbrev pub invariant-loop-item : goal.invariant-loop-item
invariant-loop-item l = onto l.all (each_read attached_of (items_view (drop l.item-index l.items))) ≡ each_read attached_of (items_view l.items)
