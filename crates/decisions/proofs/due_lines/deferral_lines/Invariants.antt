use Rattle.std.proofs.Common.{◌≡◌, ◌++◌, drop}
use Rattle.std.specs.Prelude.{map}
use Rattle.std.specs.List.{AllByRecursion}
use Rattle.desk_time.specs.Limits.{IsMoment}
use Rattle.desk_state.specs.Texts.{deferral_lines}
use Rattle.decisions.proofs.due_lines.deferral_lines.Given as goal

abbrev pub invariant-loop-deferral : goal.invariant-loop-deferral
invariant-loop-deferral l = record {
  lines : l.out.items ++ deferral_lines l.tables l.kind (map (λ d. d.now) (drop l.deferral-index l.deferrals)) ≡ deferral_lines l.tables l.kind (map (λ d. d.now) l.deferrals);
  rest : AllByRecursion (λ d. IsMoment d.found) (map (λ d. d.now) (drop l.deferral-index l.deferrals));
}
