use Rattle.std.proofs.Common.{◌≡◌, ◌-◌, ◌++◌, ◌∷◌, []}
use Rattle.pg_scram.specs.Keyed.{hmac, stretch}
use Rattle.pg_scram.proofs.keyed.salted.Given as goal

abbrev pub invariant-loop-left : goal.invariant-loop-left
invariant-loop-left l =
    stretch l.password l.left l.last l.all
    ≡ stretch l.password (l.rounds - 1) (hmac l.password (l.salt ++ 0 ∷ 0 ∷ 0 ∷ 1 ∷ [])) (hmac l.password (l.salt ++ 0 ∷ 0 ∷ 0 ∷ 1 ∷ []))

abbrev pub decreases-loop-left : goal.decreases-loop-left
decreases-loop-left l = l.left
