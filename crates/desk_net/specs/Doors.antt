-- How a door accepts links and takes them back, if contracts know its links.
use Rattle.std.specs.Prelude.{◌≡◌, ◌<◌, Bool, not, false, List, [], ◌∷◌, ◌++◌, length, Option, None, Some, Result, MatchResult}

-- the links still to come and those given back, each in order
pub record Links (L : Type 0) : Type 0 where
  pub coming : List L
  pub ended : List L

abbrev pub links : {L : Type 0} → List L → List L → Links L
links coming ended = record { coming = coming; ended = ended }

-- the first link to come was taken out
pub record TakesFirst {L : Type 0} (old new : Links L) (link : L) : Type 0 where
  pub first : old.coming ≡ link ∷ new.coming
  pub ended : new.ended ≡ old.ended

-- An accept returns the first link to come. If it fails, nothing changes.
abbrev pub Accepts : {L E : Type 0} → Option (Links L) → Option (Links L) → Result L E → Type 0
Accepts None None r = Unit {0}
Accepts (Some old) (Some new) r = MatchResult r (TakesFirst old new) (λ _. new ≡ old)
Accepts _ _ r = ⊥

-- the link was added after those given back before
pub record PutsLast {L : Type 0} (old new : Links L) (link : L) : Type 0 where
  pub coming : new.coming ≡ old.coming
  pub last : new.ended ≡ old.ended ++ link ∷ []

-- A link is given back. If that fails, nothing changes.
abbrev pub TakesBack : {L T E : Type 0} → Option (Links L) → Option (Links L) → L → Result T E → Type 0
TakesBack None None link r = Unit {0}
TakesBack (Some old) (Some new) link r = MatchResult r (λ _. PutsLast old new link) (λ _. new ≡ old)
TakesBack _ _ link r = ⊥

-- the links that accepts returned, as they came, and those that were given back, as they went, each in order
pub record Passed (L : Type 0) : Type 0 where
  pub came : List L
  pub went : List L

abbrev pub passed : {L : Type 0} → List L → List L → Passed L
passed came went = record { came = came; went = went }

-- An accept adds the link that it returned. If it fails, nothing changes.
abbrev pub LetsIn : {L E : Type 0} → Passed L → Passed L → Result L E → Type 0
LetsIn old new r = MatchResult r (λ link. new ≡ passed (old.came ++ link ∷ []) old.went) (λ _. new ≡ old)

-- A link that is given back is added. If that fails, nothing changes.
abbrev pub LetsOut : {L T E : Type 0} → Passed L → Passed L → L → Result T E → Type 0
LetsOut old new link r = MatchResult r (λ _. new ≡ passed old.came (old.went ++ link ∷ [])) (λ _. new ≡ old)

-- a link is still to come, or the links are unknown
abbrev pub HasNext : {L : Type 0} → Option (Links L) → Type 0
HasNext None = Unit {0}
HasNext (Some told) = 0 < length told.coming

-- an accept succeeds if a link is still to come and the call isn't planned to fail
abbrev pub accepts : {L : Type 0} → List L → Bool → Bool
accepts [] fails = false
accepts (link ∷ coming) fails = not fails
