use Rattle.std.proofs.Common.{refl}
use Rattle.turn_lock.proofs.ElementLaws.{elements_of-another, elements_of-own}
use Rattle.turn_lock.proofs.laws.elements_are_found.Goals as goal

pub returns : goal.returns
returns g c = let bears = g.T.Listed.bears in record { none = λ n. refl; its = elements_of-own bears; others = elements_of-another bears }
