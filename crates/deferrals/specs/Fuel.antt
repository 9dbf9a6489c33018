-- The sum of the extra fuel of deferred items, in pounds.
use Rattle.std.specs.Prelude.{ℕ, ◌+◌, List, [], ◌∷◌}
use Rattle.ops_tables.specs.declared.rows.MelRow.{MelRow}

-- each row adds its extra fuel, in pounds
pub data AddsFuel : List MelRow → ℕ → Type 0 where
  none : AddsFuel [] 0
  more : {row : MelRow} {rows : List MelRow} {pounds : ℕ} → AddsFuel rows pounds → AddsFuel (row ∷ rows) (row.extra_fuel + pounds)
