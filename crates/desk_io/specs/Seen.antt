-- The models of a shelf and a sink in contracts: contents and health.
use Rattle.std.specs.Prelude.{◌≡◌, ℕ, List, Option}
use Rattle.desk_io.specs.Health.{Health, GoesOnWhere}
use Rattle.desk_io.specs.Told.{HoldsName}
use Rattle.desk_io.specs.declared.source_read.SourceRead.{SourceRead}

-- the model of a shelf
pub record ShelfSeen : Type 0 where
  -- the bytes under each name, if the sources are known
  pub sources : Option (List ℕ → Option (List ℕ))
  -- all reads so far, in order
  pub reads : List SourceRead
  pub health : Health

-- the model of a sink
pub record SinkSeen : Type 0 where
  -- everything appended so far, if that is known
  pub content : Option (List ℕ)
  pub health : Health

-- the shelf holds the name, or its sources are unknown
abbrev pub Holds : ShelfSeen → List ℕ → Type 0
Holds shelf name = HoldsName shelf.sources name

-- How a call that asks for something changes a shelf: its sources stay, and its health changes as allowed.
pub record ShelfGoesOn (held : Type 0) (old new : ShelfSeen) : Type 0 where
  pub sources : new.sources ≡ old.sources
  pub health : GoesOnWhere held old.health new.health
