use Rattle.std.proofs.Common.{◌≡◌, drop}
use Rattle.std.specs.Prelude.{map}
use Rattle.std.specs.List.{list_any}
use Rattle.rules.specs.Equipment.{is_paired_with}
use Rattle.rules.specs.Sights.{case_by}
use Rattle.rules.proofs.circumstances.Circumstances.is_paired.Given as goal

abbrev pub invariant-loop-earlier : goal.invariant-loop-earlier
invariant-loop-earlier l =
    list_any (is_paired_with (case_by l.self) l.deferral) (map (λ d. d.now) (drop l.earlier-index l.self.deferred.items))
    ≡ list_any (is_paired_with (case_by l.self) l.deferral) (map (λ d. d.now) l.self.deferred.items)
