use Rattle.std.proofs.Common.{◌≡◌, ◌++◌, drop}
use Rattle.std.specs.Prelude.{map}
use Rattle.sheet.specs.Circumstances.{case_by}
use Rattle.sheet.specs.Equipment.{limit_line, limit_lines}
use Rattle.sheet.proofs.circumstances.Circumstances.push_limits.Given as goal

abbrev pub invariant-loop-deferral : goal.invariant-loop-deferral
invariant-loop-deferral l =
    l.sheet ++ map (limit_line (case_by l.self) l.number l.leg) (map (λ d. d.now) (drop l.deferral-index l.self.deferred.items))
    ≡ l.fn.sheet ++ limit_lines (case_by l.self) l.number l.leg
