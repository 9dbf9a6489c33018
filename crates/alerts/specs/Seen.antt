-- The model of a bell in contracts: its person, its notices and its health.
use Rattle.std.specs.Prelude.{ℕ, List, Option}
use Rattle.alerts.specs.declared.notices.Notice.{Notice}
use Rattle.desk_io.specs.Health.{Health}

pub record BellSeen : Type 0 where
  -- the person for whom the bell rings, or `*` if it rings for all
  pub desk : List ℕ
  -- the notices received so far, in order, if contracts know them
  pub heard : Option (List Notice)
  pub health : Health
