-- Weather minima: a ceiling in feet and a visibility in millimetres (14 CFR 121.613, 121.625).
use Rattle.std.specs.Prelude.{ℕ, ◌+◌, ◌≤◌, max, List, All}
use Rattle.desk_io.specs.declared.pair.Pair.{Pair}

-- minima raised by `by.ceiling` feet and `by.vis` millimetres
abbrev pub raised : Pair → Pair → Pair
raised by pair = record { ceiling = pair.ceiling + by.ceiling; vis = pair.vis + by.vis }

-- the higher ceiling with the higher visibility
abbrev pub higher : Pair → Pair → Pair
higher a b = record { ceiling = max a.ceiling b.ceiling; vis = max a.vis b.vis }

-- every ceiling is at most `ceiling` feet, and every visibility at most `vis` millimetres
abbrev pub AreWithin : ℕ → ℕ → List Pair → Type 0
AreWithin ceiling vis pairs = All (λ pair. (pair.ceiling ≤ ceiling) × (pair.vis ≤ vis)) pairs
