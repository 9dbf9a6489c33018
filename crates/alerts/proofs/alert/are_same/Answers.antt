use Rattle.std.proofs.Common.{◌<◌, length, drop, sym, ◌∙◌, arith, length-drop}
use Rattle.plan.specs.declared.findings.Finding.{Finding}
use Rattle.alerts.proofs.Sameness.{too_short}
use Rattle.alerts.proofs.alert.are_same.Goals as goal

pub returns-in-empty : goal.returns-in-empty
returns-in-empty c =
    let some : 0 < length (drop c.loop-a.a-index c.args.one.now) = omega (arith, length-drop {A = Finding}) in
    sym (too_short (drop c.loop-a.a-index c.args.one.now) c.loop-a.left.now some c.in-empty.len_below) ∙ c.loop-a.invariant
