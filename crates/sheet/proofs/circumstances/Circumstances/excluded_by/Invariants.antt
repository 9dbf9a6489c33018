use Rattle.std.proofs.Common.{◌≡◌, drop}
use Rattle.std.specs.Prelude.{map, find}
use Rattle.std.specs.Option.{option_map}
use Rattle.rules.specs.Equipment.{is_paired_with}
use Rattle.sheet.specs.Circumstances.{case_by}
use Rattle.sheet.specs.Equipment.{excluded_by}
use Rattle.sheet.proofs.circumstances.Circumstances.excluded_by.Given as goal

abbrev pub invariant-loop-earlier : goal.invariant-loop-earlier
invariant-loop-earlier l =
    option_map (λ e. e.id) (find (is_paired_with (case_by l.self) l.deferral) (map (λ d. d.now) (drop l.earlier-index l.self.deferred.items)))
    ≡ excluded_by (case_by l.self) l.deferral
