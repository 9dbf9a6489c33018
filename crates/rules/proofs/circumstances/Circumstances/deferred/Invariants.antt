use Rattle.std.proofs.Common.{◌≡◌, ◌++◌, drop}
use Rattle.std.specs.Prelude.{map, filter}
use Rattle.rules.specs.Equipment.{is_limiting, is_overdue, limiting, overdue}
use Rattle.rules.specs.Sights.{case_by}
use Rattle.rules.proofs.circumstances.Circumstances.deferred.Given as goal

abbrev pub invariant-loop-deferral : goal.invariant-loop-deferral
invariant-loop-deferral l = record {
  limiting : l.limiting ++ map (λ d. d.id) (filter (is_limiting (case_by l.self) l.leg) (map (λ d. d.now) (drop l.deferral-index l.self.deferred.items))) ≡ limiting (case_by l.self) l.leg;
  overdue : l.overdue ++ map (λ d. d.id) (filter (is_overdue (case_by l.self) l.leg) (map (λ d. d.now) (drop l.deferral-index l.self.deferred.items))) ≡ overdue (case_by l.self) l.leg;
}
