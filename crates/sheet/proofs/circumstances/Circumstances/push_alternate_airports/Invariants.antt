use Rattle.std.proofs.Common.{◌≡◌, ◌+◌, ◌++◌, drop}
use Rattle.sheet.specs.Circumstances.{case_by}
use Rattle.sheet.specs.Equipment.{alternate_airport}
use Rattle.sheet.specs.Lines.{numbered}
use Rattle.sheet.proofs.circumstances.Circumstances.push_alternate_airports.Given as goal

abbrev pub invariant-loop-i : goal.invariant-loop-i
invariant-loop-i l =
    l.sheet ++ numbered (alternate_airport (case_by l.self) l.number) (l.i + 1) (drop l.i l.alternates)
    ≡ l.fn.sheet ++ numbered (alternate_airport (case_by l.self) l.number) 1 l.alternates
