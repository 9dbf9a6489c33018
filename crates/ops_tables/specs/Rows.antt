-- The columns of the rows that are stored in a compact form.
use Rattle.std.specs.Prelude.{ℕ, List}
use Rattle.ops_tables.specs.declared.rows.Role.{Role}

-- two items of a type that may not be deferred together
pub record ItemPair : Type 0 where
  pub kind : List ℕ
  pub item : List ℕ
  pub other : List ℕ

-- a person, and the key that a request gives with the name
pub record Actor : Type 0 where
  pub name : List ℕ
  pub key : List ℕ
  pub role : Role

-- the hours of a captain as pilot in command in a type of aircraft
pub record CaptainHours : Type 0 where
  pub captain : List ℕ
  pub kind : List ℕ
  pub hours : ℕ
