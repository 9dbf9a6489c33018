use Rattle.std.specs.List.{All}
use Rattle.desk_time.specs.Limits.{IsMoment}
use Rattle.scenarios.proofs.objects.moments_in.Given as goal

abbrev pub invariant-loop-value : goal.invariant-loop-value
invariant-loop-value l = All IsMoment l.moments.items
