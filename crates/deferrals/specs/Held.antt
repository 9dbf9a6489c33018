-- The list of open deferrals.
use Rattle.std.specs.Prelude.{ℕ, ◌<◌, ◌==◌, Bool, not, List, filter, All, AllPairs}
use Rattle.deferrals.specs.declared.items.Deferral.{Deferral}

-- the open deferrals, and whether room for one more is reserved
pub record OpenDeferrals : Type 0 where
  pub list : List Deferral
  pub room : Bool

-- each id is below all later ones
abbrev pub AreRising : List Deferral → Type 0
AreRising list = AllPairs (λ earlier later. earlier.id < later.id) list

-- all ids are below this one
abbrev pub IsNewest : ℕ → List Deferral → Type 0
IsNewest id list = All (λ held. held.id < id) list

abbrev pub has_id : ℕ → Deferral → Bool
has_id id deferral = deferral.id == id

-- all deferrals but the one of this id
abbrev pub without : ℕ → List Deferral → List Deferral
without id list = filter (λ deferral. not (has_id id deferral)) list
