use Rattle.std.proofs.Common.{◌≡◌, ◌≤◌, drop, filter, IfSome}
use Rattle.airport_minima.specs.Minima.{is_usable}
use Rattle.airport_minima.specs.Floor.{lowest_of}
use Rattle.airport_minima.proofs.LowestLaws.{lesser_of}
use Rattle.airport_minima.proofs.floors.lowest_usable.Given as goal

abbrev pub invariant-loop-place : goal.invariant-loop-place
invariant-loop-place l =
    (lesser_of l.lowest (lowest_of (filter (λ a. is_usable l.kind l.lost a) (drop l.place l.approaches))) ≡ lowest_of (filter (λ a. is_usable l.kind l.lost a) l.approaches))
    × IfSome l.lowest (λ lowest. (lowest.height ≤ 20_000) × (lowest.vis16 ≤ 160))
