-- What a clock returns, and how its dial of moments advances.
use Rattle.std.specs.Prelude.{ℕ, ◌/◌, nat_le, ◌&&◌, if◌then◌else◌, List, [], ◌∷◌, ◌++◌, Option, None, Some, ◌≡◌, ◌+◌, ◌-◌, ◌<◌, ◌≤◌, min, length, slice_index, Result, MatchResult}
use Rattle.desk_time.specs.Limits.{first_moment, last_moment}

-- The moments that a clock returns, in order, and the place of the next one. The last moment repeats forever.
pub record Dial : Type 0 where
  pub moments : List ℕ
  pub place : ℕ

abbrev pub dial : List ℕ → ℕ → Dial
dial moments place = record { moments = moments; place = place }

-- the dial is at that moment, or is unknown
abbrev pub StandsAt : Option Dial → ℕ → Type 0
StandsAt None m = Unit {0}
StandsAt (Some d) m = (d.place < length d.moments) × (slice_index d.moments d.place ≡ m)

-- the dial after a moment was returned
abbrev pub turned : Option Dial → Option Dial
turned None = None
turned (Some d) = Some (dial d.moments (min (d.place + 1) (length d.moments - 1)))

-- A clock returns the moment at its dial's place, and the dial advances. If the clock fails, the dial stays.
abbrev pub Shows : {E : Type 0} → Option Dial → Option Dial → Result ℕ E → Type 0
Shows old new r = MatchResult r (λ m. StandsAt old m × (new ≡ turned old)) (λ _. new ≡ old)

-- A call adds its answer to the answers so far: the moment that it returned, or None if it failed.
abbrev pub AddsAnswer : {E : Type 0} → List (Option ℕ) → List (Option ℕ) → Result ℕ E → Type 0
AddsAnswer old new r = MatchResult r (λ m. new ≡ old ++ Some m ∷ []) (λ _. new ≡ old ++ None ∷ [])

-- the moments stay the same, and the place never falls
abbrev pub DialGoesOn : Option Dial → Option Dial → Type 0
DialGoesOn None None = Unit {0}
DialGoesOn (Some old) (Some new) = (new.moments ≡ old.moments) × (old.place ≤ new.place)
DialGoesOn _ _ = ⊥

abbrev pub in_reach : ℕ → Option ℕ
in_reach minute = if nat_le first_moment minute && nat_le minute last_moment then Some minute else None

-- the whole minutes of nanoseconds since 1970, if they are from `first_moment` to `last_moment`
abbrev pub moment_in : ℕ → Option ℕ
moment_in nanoseconds = in_reach (nanoseconds / 1_000_000_000 / 60)
