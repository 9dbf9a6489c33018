-- What the reads of a link returned, by the record of what crossed it.
use Rattle.std.specs.Prelude.{◌≡◌, ℕ, List, [], ◌∷◌, ◌++◌}
use Rattle.std.specs.List.{AllByRecursion}
use Rattle.desk_net.specs.declared.crossed.Crossed.{Crossed}
use Rattle.desk_net.specs.declared.crossed.Crossed.TheVariants.{Came, Took}

-- the bytes that reads returned, one piece after another
abbrev pub came : List Crossed → List ℕ
came [] = []
came (Came piece ∷ entries) = piece ++ came entries
came (Took piece ∷ entries) = came entries

-- a read returned the piece
abbrev pub IsCame : Crossed → Type 0
IsCame (Came piece) = Unit {0}
IsCame (Took piece) = ⊥

-- Only reads crossed the link between two moments, and they returned these bytes.
pub record CameIn (old : List Crossed) (read : List ℕ) (new : List Crossed) : Type 0 where
  pub entries : List Crossed
  pub added : new ≡ old ++ entries
  pub came_all : AllByRecursion IsCame entries
  pub read_is : read ≡ came entries

-- The last entry since the first moment is a read that returned no bytes.
abbrev pub EndedIn : List Crossed → List Crossed → Type 0
EndedIn old new = (entries : List Crossed) × (new ≡ old ++ (entries ++ Came [] ∷ []))
