use Rattle.std.proofs.Common.{rules}
use Rattle.std.proofs.lemmas.Fn.{always_returns_same}
use Rattle.std.specs.Ordering.{nat_cmp}
use Rattle.std.specs.Cmp.Lexicographic.{slice_cmp}
use Rattle.asks.specs.declared.kept.Floor.{Floor}
use Rattle.decisions.proofs.FloorLaws.{found_place, gap_place}
use Rattle.decisions.proofs.floors.place_of.Goals as goal

-- the closure compares a floor's name

pub returns-in-Ok-clause-place : goal.returns-in-Ok-clause-place
returns-in-Ok-clause-place c =
    (found_place c.args.actor.now c.args.floors.now c.in-Ok.i c.requires c.in-Ok.ensures.bound
    (c.in-Ok.ensures.position (λ (f : Floor). slice_cmp nat_cmp f.actor c.args.actor.now) (always_returns_same _ _ _ (λ a r f called. search rules)))).1

pub returns-in-Err-clause-place : goal.returns-in-Err-clause-place
returns-in-Err-clause-place c =
    (gap_place c.args.actor.now c.args.floors.now c.in-Err.i c.requires c.in-Err.ensures.bound
    (c.in-Err.ensures.position (λ (f : Floor). slice_cmp nat_cmp f.actor c.args.actor.now) (always_returns_same _ _ _ (λ a r f called. search rules)))).1
