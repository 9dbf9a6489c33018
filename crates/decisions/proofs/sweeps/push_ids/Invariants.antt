use Rattle.std.proofs.Common.{◌≡◌, ◌++◌, map, drop}
use Rattle.decisions.proofs.sweeps.push_ids.Given as goal

abbrev pub invariant-loop-attached : goal.invariant-loop-attached
invariant-loop-attached l = l.ids.items ++ map (λ a. a.report) (drop l.attached-index l.attached-items) ≡ l.fn.ids.items ++ map (λ a. a.report) l.attached-items
