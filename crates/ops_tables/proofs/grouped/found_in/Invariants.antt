use Rattle.std.proofs.Common.{◌≡◌, drop, find}
use Rattle.ops_tables.proofs.grouped.found_in.Given as goal

abbrev pub invariant-loop-place : goal.invariant-loop-place
invariant-loop-place g l =
    find (g.R.Keyed.is_of l.first l.second l.third) (drop l.place l.group) ≡ find (g.R.Keyed.is_of l.first l.second l.third) l.group
