-- The bytes that crossed a link.
use Rattle.std.specs.Prelude.{◌≡◌, ℕ, List, [], ◌∷◌, ◌++◌, take}
use Rattle.desk_net.specs.declared.crossed.Crossed.{Crossed}
use Rattle.desk_net.specs.declared.crossed.Crossed.TheVariants.{Came, Took}

-- all bytes that reads returned, in order
unfoldable pub came : List Crossed → List ℕ
came [] = []
came (Came bytes ∷ rest) = bytes ++ came rest
came (Took bytes ∷ rest) = came rest

-- all bytes that writes accepted, in order
unfoldable pub took : List Crossed → List ℕ
took [] = []
took (Came bytes ∷ rest) = took rest
took (Took bytes ∷ rest) = bytes ++ took rest

-- the link accepted a prefix of the bytes
unfoldable pub TakesFront : List Crossed → List Crossed → List ℕ → Type 0
TakesFront old new bytes = (n : ℕ) × (took new ≡ took old ++ take n bytes)
