-- Sets of keys, in increasing order.
use Rattle.std.specs.Prelude.{ℕ, Bool, List}
use Rattle.std.specs.declared.cmp.Ordering.{Ordering}
use Rattle.std.specs.Ordering.{nat_cmp, ordering_then}
use Rattle.std.specs.List.{list_any}
use Rattle.std.specs.Map.{keys_of}
use Rattle.std.specs.BTreeMap.{is_at}
use Rattle.desk_io.specs.Sorted.{Entries}

-- the model of a `Keys`
pub record KeySet (K : Type 0) : Type 0 where
  -- the keys, in order
  pub keys : List K
  -- how many more keys fit without allocation
  pub room : ℕ

-- the keys of a sorted map, whatever its values
abbrev pub keys_in : {K V : Type 0} → Entries K V → KeySet K
keys_in held = record { keys = keys_of held.entries; room = held.room }

-- the list contains the key
abbrev pub is_held : {K : Type 0} → (K → K → Ordering) → K → List K → Bool
is_held cmp k keys = list_any (is_at (cmp k)) keys

-- compares pairs of numbers by the first number, then by the second
abbrev pub pair_cmp : ℕ × ℕ → ℕ × ℕ → Ordering
pair_cmp x y = ordering_then (nat_cmp x.0 y.0) (nat_cmp x.1 y.1)
