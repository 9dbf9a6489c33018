-- Three texts stored one after another in a byte string, and writing over a byte string.
use Rattle.std.specs.Prelude.{ℕ, ◌+◌, List, ◌++◌, take, drop, length}

-- three texts of a row; the third is empty if the row has two
pub record Parts : Type 0 where
  pub first : List ℕ
  pub second : List ℕ
  pub third : List ℕ

-- the three texts of these lengths, one after another
abbrev pub parts_in : List ℕ → ℕ → ℕ → ℕ → Parts
parts_in bytes first second third = record {
  first = take first bytes;
  second = take second (drop first bytes);
  third = take third (drop (first + second) bytes);
}

-- the bytes after `part` is written over them from index `place` on
abbrev pub written : List ℕ → ℕ → List ℕ → List ℕ
written over place part = take place over ++ part ++ drop (place + length part) over
