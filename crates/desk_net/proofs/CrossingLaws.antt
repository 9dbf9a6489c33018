-- What a failed write adds to what has crossed.
use Rattle.std.proofs.Common.{◌≡◌, ℕ, ◌++◌, ◌∙◌, ◌∷◌, List, [], take, ap}
use Rattle.desk_io.specs.declared.faults.PutFault.TheVariants.{Failed}
use Rattle.desk_net.specs.Crossing.{FailedSend}
use Rattle.desk_net.specs.declared.crossed.Crossed.{Crossed}
use Rattle.desk_net.specs.declared.crossed.Crossed.TheVariants.{Took}

pub sends_none : (old new : List Crossed) (bytes : List ℕ) → new ≡ old ++ Took [] ∷ [] → FailedSend old new bytes Failed
sends_none old new bytes is = (0, is)

pub sends_front : (old new : List Crossed) (bytes taken : List ℕ) (n : ℕ) → taken ≡ take n bytes → new ≡ old ++ Took taken ∷ [] → FailedSend old new bytes Failed
sends_front old new bytes taken n is grew = (n, grew ∙ ap (λ t. old ++ Took t ∷ []) is)
