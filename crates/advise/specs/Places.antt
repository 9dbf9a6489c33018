-- Lists of alternates by their places among the choices, counted from 0.
use Rattle.std.specs.Prelude.{◌≡◌, ◌⊎◌, ℕ, ◌<◌, List, [], ◌∷◌, ◌++◌, AllPairs, option_to_list}
use Rattle.std.specs.List.{slice_get}
use Rattle.plan.specs.declared.flights.Alternate.{Alternate}

-- the alternates at these places
abbrev pub listed_at : List Alternate → List ℕ → List Alternate
listed_at choices [] = []
listed_at choices (place ∷ places) = option_to_list (slice_get choices place) ++ listed_at choices places

-- the places are in the order of the choices
abbrev pub AreInOrder : List ℕ → Type 0
AreInOrder places = AllPairs (λ earlier later. earlier < later) places

-- the places are the same as others or come before them, compared place by place
abbrev pub IsNotAfter : List ℕ → List ℕ → Type 0
IsNotAfter [] others = Unit {0}
IsNotAfter (a ∷ rest) [] = ⊥
IsNotAfter (a ∷ rest) (b ∷ others) = (a < b) ⊎ ((a ≡ b) × IsNotAfter rest others)
