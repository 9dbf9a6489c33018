use Rattle.std.proofs.Common.{◌∙◌, ◌+◌, ap, sym, List, [], ◌∷◌, ◌++◌, drop, map}
use Rattle.ops_tables.specs.declared.rows.MelRow.{MelRow}
use Rattle.deferrals.specs.Limits.{once, capabilities_of}
use Rattle.deferrals.proofs.Once.{filter_true, lost_new, lost_again, lost_step}
use Rattle.deferrals.proofs.limits.lost_by.Goals.{then-loses_more+in_ok-of+in_ok-push, else-loses_more}
use Rattle.deferrals.proofs.limits.lost_by.Goals as goal

pub loop-row-init : goal.loop-row-init
loop-row-init c = rw c.new-lost.ensures (filter_true (once (capabilities_of (map (λ row. row.now) c.args.rows.now))))

pub loop-row-preserved : goal.loop-row-preserved
loop-row-preserved c =
    let rest : List MelRow = map (λ r. r.now) (drop (c.loop-row.row-index + 1) c.args.rows.now) in
    lost_step c.args.rows.now c.loop-row.row-index c.row-item.result c.loop-row.lost c.if-loses_more.lost c.loop-row-test.true c.row-item.is (elim c.if-loses_more.branch [
      | then-loses_more+in_ok-of+in_ok-push w ↦
          rw (w.lost-is ∙ w.in_ok-push.ensures.ok ∙ ap (λ n. c.loop-row.lost ++ n ∷ []) (w.in_ok-of.ensures ∙ w.bytes.ensures))
          (lost_new c.row-item.result.now rest c.loop-row.lost (sym w.if-loses_more.ensures))
      | else-loses_more w ↦
          rw w.lost-is (ap (λ ns. c.loop-row.lost ++ ns) (lost_again c.row-item.result.now rest c.loop-row.lost (sym w.if-loses_more.ensures)))
    ])
    ∙ c.loop-row.invariant
