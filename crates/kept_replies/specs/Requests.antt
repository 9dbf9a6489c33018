-- Looking up kept replies by person and number, and the floor of each person's swept numbers.
use Rattle.std.specs.Prelude.{◌≡◌, ◌≢◌, ℕ, ◌==◌, ◌&&◌, nat_le, Bool, List, ◌∷◌, ◌++◌, All, find, Option, None, Some}
use Rattle.std.specs.Option.{option_map}
use Rattle.std.specs.Str.{bytes_eq}
use Rattle.asks.specs.declared.kept.Floor.{Floor}
use Rattle.asks.specs.declared.kept.KeptReply.{KeptReply}
pub use Rattle.asks.specs.Forms.{FloorsRise}

-- the reply is to the request of this person and number
abbrev pub is_request : List ℕ → ℕ → KeptReply → Bool
is_request actor number k = (k.number == number) && bytes_eq k.actor actor

-- the kept reply to the request of this person and number
abbrev pub kept_at : List ℕ → ℕ → List KeptReply → Option KeptReply
kept_at actor number kept = find (is_request actor number) kept

-- The reply is kept, and it is to the request of this person and number.
pub record IsReplyTo (actor : List ℕ) (number : ℕ) (kept : List KeptReply) (k : KeptReply) : Type 0 where
  pub before : List KeptReply
  pub after : List KeptReply
  pub stands : kept ≡ before ++ k ∷ after
  pub his : k.actor ≡ actor
  pub under : k.number ≡ number

-- The reply to the request of this person and number, or none if no such reply is kept.
abbrev pub IsFoundFor : List ℕ → ℕ → List KeptReply → Option KeptReply → Type 0
IsFoundFor actor number kept None = All (λ k. k.actor ≡ actor → k.number ≢ number) kept
IsFoundFor actor number kept (Some k) = IsReplyTo actor number kept k

-- the floor of a person
abbrev pub floor_at : List ℕ → List Floor → Option ℕ
floor_at actor floors = option_map (λ f. f.number) (find (λ f. bytes_eq f.actor actor) floors)

-- The number is that of a floor of this person.
pub record IsFloorOf (actor : List ℕ) (floors : List Floor) (number : ℕ) : Type 0 where
  pub before : List Floor
  pub floor : Floor
  pub after : List Floor
  pub stands : floors ≡ before ++ floor ∷ after
  pub his : floor.actor ≡ actor
  pub tells : floor.number ≡ number

-- the number of the person's floor, or none if the person has no floor
abbrev pub IsToldOf : List ℕ → List Floor → Option ℕ → Type 0
IsToldOf actor floors None = All (λ f. f.actor ≢ actor) floors
IsToldOf actor floors (Some number) = IsFloorOf actor floors number

-- the request was accepted at this moment or later
abbrev pub is_since : ℕ → KeptReply → Bool
is_since before k = nat_le before k.at
