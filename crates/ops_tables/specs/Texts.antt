-- The texts of a row, stored inline or in a box, and its other column.
use Rattle.std.specs.Prelude.{ℕ}
use Rattle.ops_tables.specs.Parts.{Parts}
use Rattle.ops_tables.specs.declared.row_texts.Place.{Place}
use Rattle.ops_tables.specs.declared.row_texts.Place.TheVariants.{Here, Away}

pub record Texts (T : Type 0) : Type 0 where
  pub parts : Parts
  pub rest : T

abbrev pub texts_at : {T : Type 0} {N M : ℕ} → Place T N M → Texts T
texts_at (Here parts rest) = record { parts = parts; rest = rest }
texts_at (Away parts rest) = record { parts = parts.value; rest = rest }
