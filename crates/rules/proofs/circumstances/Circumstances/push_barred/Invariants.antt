use Rattle.std.proofs.Common.{◌≡◌, ◌+◌, ◌++◌, drop}
use Rattle.rules.specs.DestinationAlternates.{places_from}
use Rattle.rules.specs.Equipment.{is_barred}
use Rattle.rules.specs.Sights.{case_by}
use Rattle.rules.proofs.circumstances.Circumstances.push_barred.Given as goal

abbrev pub invariant-loop-i : goal.invariant-loop-i
invariant-loop-i l =
    l.places ++ places_from (λ it. is_barred (case_by l.self) it.station) (l.i + 1) (drop l.i l.alternates)
    ≡ l.fn.places ++ places_from (λ it. is_barred (case_by l.self) it.station) 1 l.alternates
