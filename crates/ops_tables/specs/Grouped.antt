-- Tables in groups: the group name of a key, and the rows and sorted indices of a table.
use Rattle.std.specs.Prelude.{ℕ, Bool, List, [], ◌∷◌, take, filter}
use Rattle.std.specs.Str.{bytes_eq}
use Rattle.ops_tables.specs.Keys.{AreRows}
use Rattle.ops_tables.specs.Order.{IsOrder}
use Rattle.ops_tables.specs.Parts.{written}

abbrev pub zeros : List ℕ
zeros = 0 ∷ 0 ∷ 0 ∷ 0 ∷ 0 ∷ 0 ∷ 0 ∷ 0 ∷ 0 ∷ 0 ∷ 0 ∷ 0 ∷ 0 ∷ 0 ∷ 0 ∷ 0 ∷ 0 ∷ 0 ∷ 0 ∷ 0 ∷ 0 ∷ 0 ∷ 0 ∷ 0 ∷ 0 ∷ 0 ∷ 0 ∷ 0 ∷ 0 ∷ 0 ∷ 0 ∷ 0 ∷ 0 ∷ 0 ∷ 0 ∷ 0 ∷ 0 ∷ 0 ∷ 0 ∷ 0 ∷ 0 ∷ 0 ∷ 0 ∷ 0 ∷ 0 ∷ 0 ∷ 0 ∷ 0 ∷ []

-- the group name of a key of up to three parts: the first sixteen bytes of each, so rows with one key share a group
unfoldable pub group_name : List ℕ → List ℕ → List ℕ → List ℕ
group_name first second third = written (written (written zeros 0 (take 16 first)) 16 (take 16 second)) 32 (take 16 third)

-- the rows of the group with this name
abbrev pub rows_at : {R : Type 0} → (R → List ℕ) → List ℕ → List R → List R
rows_at name_of name rows = filter (λ r. bytes_eq (name_of r) name) rows

-- the rows of a table, and their indices sorted by the names of their groups
pub record IsTable {R : Type 0} (size : ℕ) (name : R → List ℕ) (is_same_key : R → R → Bool) (Fits : R → Type 0) (limit : ℕ) (rows : List R) (order : List ℕ) : Type 0 where
  pub ordered : IsOrder size name rows order
  pub allowed : AreRows is_same_key Fits limit rows
