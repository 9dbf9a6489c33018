use Rattle.std.proofs.Common.{◌≡◌, ◌+◌, drop}
use Rattle.sheet.specs.Sources.{element_of, by_part, named_by, held_from, only_named}
use Rattle.sheet.proofs.sources.after_first.Given as goal

abbrev pub invariant-loop-i : goal.invariant-loop-i
invariant-loop-i l =
    held_from (element_of l.which) l.minute l.report (l.i + 2) l.held (drop l.i l.after)
    ≡ held_from (element_of l.which) l.minute l.report 2 (only_named (named_by (element_of l.which l.first.cond) (by_part l.report 1))) l.after
