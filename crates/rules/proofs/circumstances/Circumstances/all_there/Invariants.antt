use Rattle.std.proofs.Common.{◌≡◌, ◌+◌, ◌++◌, drop}
use Rattle.std.specs.Prelude.{◌&&◌}
use Rattle.std.specs.List.{list_all}
use Rattle.rules.specs.Circumstances.{is_below_alternate}
use Rattle.rules.specs.DestinationAlternates.{places_from, low_alternates, is_marginal_at}
use Rattle.rules.specs.Sights.{case_by}
use Rattle.rules.proofs.circumstances.Circumstances.all_there.Given as goal

abbrev pub invariant-loop-i : goal.invariant-loop-i
invariant-loop-i l = record {
  low : l.low ++ places_from (λ it. is_below_alternate (case_by l.self) it.station (l.leg.eta + it.minutes)) (l.i + 1) (drop l.i l.leg.alternates) ≡ low_alternates (case_by l.self) l.leg;
  marginal : (l.are_marginal && list_all (is_marginal_at (case_by l.self) l.leg) (drop l.i l.leg.alternates)) ≡ list_all (is_marginal_at (case_by l.self) l.leg) l.leg.alternates;
}
