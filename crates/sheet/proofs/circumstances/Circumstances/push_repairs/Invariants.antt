use Rattle.std.proofs.Common.{◌≡◌, ◌++◌, drop}
use Rattle.std.specs.Prelude.{map}
use Rattle.std.specs.List.{filter_map}
use Rattle.sheet.specs.Circumstances.{case_by}
use Rattle.sheet.specs.Equipment.{row_of, repair_at, repair_lines}
use Rattle.sheet.proofs.circumstances.Circumstances.push_repairs.Given as goal

abbrev pub invariant-loop-deferral : goal.invariant-loop-deferral
invariant-loop-deferral l =
    l.sheet ++ filter_map (λ d. repair_at l.number l.leg d (row_of (case_by l.self) d)) (map (λ d. d.now) (drop l.deferral-index l.self.deferred.items))
    ≡ l.fn.sheet ++ repair_lines (case_by l.self) l.number l.leg
