-- What crossed a link: the bytes that each read returned and each write accepted, in order.
use Rattle.std.specs.Prelude.{◌≡◌, ℕ, List, [], ◌∷◌, ◌++◌, take, Result, MatchResult}
use Rattle.desk_io.specs.declared.faults.PutFault.{PutFault}
use Rattle.desk_io.specs.declared.faults.PutFault.TheVariants.{Failed, OutOfMemory}
use Rattle.desk_net.specs.declared.crossed.Crossed.{Crossed}
use Rattle.desk_net.specs.declared.crossed.Crossed.TheVariants.{Came, Took}

-- A read adds the bytes that it returned. A read that fails adds nothing.
abbrev pub Receives : {E : Type 0} → List Crossed → List Crossed → List ℕ → Result ℕ E → Type 0
Receives old new into r = MatchResult r (λ n. new ≡ old ++ Came (take n into) ∷ []) (λ _. new ≡ old)

-- `Failed` adds a prefix of the bytes, which may be empty, and `OutOfMemory` nothing
abbrev pub FailedSend : List Crossed → List Crossed → List ℕ → PutFault → Type 0
FailedSend old new bytes Failed = (n : ℕ) × (new ≡ old ++ Took (take n bytes) ∷ [])
FailedSend old new bytes OutOfMemory = new ≡ old

-- A write adds the bytes that it accepted: all of them, unless it fails.
abbrev pub Sends : {T : Type 0} → List Crossed → List Crossed → List ℕ → Result T PutFault → Type 0
Sends old new bytes r = MatchResult r (λ _. new ≡ old ++ Took bytes ∷ []) (FailedSend old new bytes)
