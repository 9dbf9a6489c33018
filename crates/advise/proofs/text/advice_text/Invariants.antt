use Rattle.std.proofs.Common.{◌≤◌, ◌+◌}
use Rattle.rules.specs.Grounds.{grounds_held}
use Rattle.advise.proofs.TextLaws.{AreLines, count_up_to}
use Rattle.advise.proofs.text.advice_text.Given as goal

abbrev pub invariant-loop-i : goal.invariant-loop-i
invariant-loop-i g l = record {
  lines : AreLines l.plan l.candidates (grounds_held l.tables l.facts.reports l.deferrals.list l.moment) l.i l.out.items;
  counted : l.steps ≤ l.initial.steps + (l.i + count_up_to l.i l.candidates);
}
