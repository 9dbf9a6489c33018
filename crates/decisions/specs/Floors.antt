-- Floors of which one is raised, or inserted, at a place.
use Rattle.std.specs.Prelude.{ℕ, Bool, true, false, max, List, [], ◌∷◌, ◌++◌, take, drop}
use Rattle.asks.specs.declared.kept.Floor.{Floor}
use Rattle.desk_state.specs.Requests.{floor}

-- the floors with the first raised to at least a number
abbrev pub first_raised : ℕ → List Floor → List Floor
first_raised number [] = []
first_raised number (f ∷ fs) = floor f.actor (max f.number number) ∷ fs

-- the floors with that at a place raised to at least a number, or with a new one inserted there
abbrev pub raised_at : ℕ → Bool → List ℕ → ℕ → List Floor → List Floor
raised_at place true actor number floors = take place floors ++ first_raised number (drop place floors)
raised_at place false actor number floors = take place floors ++ floor actor number ∷ drop place floors
