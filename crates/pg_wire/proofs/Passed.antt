-- The bytes that one call adds to those that crossed.
use Rattle.std.proofs.Common.{◌≡◌, ℕ, List, [], ◌∷◌, ◌++◌, take, refl, sym, ap, ◌∙◌, append_assoc, append-nil}
use Rattle.desk_net.specs.declared.crossed.Crossed.{Crossed}
use Rattle.desk_net.specs.declared.crossed.Crossed.TheVariants.{Came, Took}
use Rattle.desk_net.specs.Crossing.{FailedSend}
use Rattle.desk_io.specs.declared.faults.PutFault.TheVariants.{Failed}
use Rattle.pg_wire.specs.Crossing.{came, took, TakesFront}

came_join : (xs ys : List Crossed) → came (xs ++ ys) ≡ came xs ++ came ys
unfolding came
came_join [] ys = refl
came_join (Came bytes ∷ xs) ys = ap (λ bs. bytes ++ bs) (came_join xs ys) ∙ sym (append_assoc bytes (came xs) (came ys))
came_join (Took bytes ∷ xs) ys = came_join xs ys

took_join : (xs ys : List Crossed) → took (xs ++ ys) ≡ took xs ++ took ys
unfolding took
took_join [] ys = refl
took_join (Came bytes ∷ xs) ys = took_join xs ys
took_join (Took bytes ∷ xs) ys = ap (λ bs. bytes ++ bs) (took_join xs ys) ∙ sym (append_assoc bytes (took xs) (took ys))

pub came_more : (old new : List Crossed) (bytes : List ℕ) → new ≡ old ++ Came bytes ∷ [] → came new ≡ came old ++ bytes
unfolding came
came_more old new bytes is = ap came is ∙ came_join old (Came bytes ∷ []) ∙ ap (λ bs. came old ++ bs) (append-nil bytes)

pub took_read : (old new : List Crossed) (bytes : List ℕ) → new ≡ old ++ Came bytes ∷ [] → took new ≡ took old
unfolding took
took_read old new bytes is = ap took is ∙ took_join old (Came bytes ∷ []) ∙ append-nil (took old)

pub took_more : (old new : List Crossed) (bytes : List ℕ) → new ≡ old ++ Took bytes ∷ [] → took new ≡ took old ++ bytes
unfolding took
took_more old new bytes is = ap took is ∙ took_join old (Took bytes ∷ []) ∙ ap (λ bs. took old ++ bs) (append-nil bytes)

pub came_sent : (old new : List Crossed) (bytes : List ℕ) → new ≡ old ++ Took bytes ∷ [] → came new ≡ came old
unfolding came
came_sent old new bytes is = ap came is ∙ came_join old (Took bytes ∷ []) ∙ append-nil (came old)

pub came_same : (old new : List Crossed) → new ≡ old → came new ≡ came old
came_same old new is = ap came is

pub took_same : (old new : List Crossed) → new ≡ old → took new ≡ took old
took_same old new is = ap took is

pub took_front : (old new : List Crossed) (bytes : List ℕ) → FailedSend old new bytes Failed → TakesFront old new bytes
unfolding TakesFront
took_front old new bytes failed = (failed.0, took_more old new (take failed.0 bytes) failed.1)

pub took_none : (old new : List Crossed) (bytes : List ℕ) → new ≡ old → TakesFront old new bytes
unfolding TakesFront
took_none old new bytes is = (0, ap took is ∙ sym (append-nil (took old)))

pub came_front : (old new : List Crossed) (bytes : List ℕ) → FailedSend old new bytes Failed → came new ≡ came old
came_front old new bytes failed = came_sent old new (take failed.0 bytes) failed.1
