use Rattle.std.proofs.Common.{◌≡◌, ◌+◌, ◌++◌, drop}
use Rattle.sheet.specs.Circumstances.{case_by}
use Rattle.sheet.specs.Lines.{numbered}
use Rattle.sheet.specs.Weather.{alternate_weather}
use Rattle.sheet.proofs.circumstances.Circumstances.push_each_alternate.Given as goal

abbrev pub invariant-loop-i : goal.invariant-loop-i
invariant-loop-i l =
    l.sheet ++ numbered (alternate_weather (case_by l.self) l.number l.leg) (l.i + 1) (drop l.i l.alternates)
    ≡ l.fn.sheet ++ numbered (alternate_weather (case_by l.self) l.number l.leg) 1 l.alternates
