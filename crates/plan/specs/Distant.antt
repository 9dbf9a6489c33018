-- The most distant alternate (14 CFR 121.639, 121.645).
use Rattle.std.specs.Prelude.{◌≡◌, ℕ, ◌<◌, ◌≤◌, List, length, map, All, Contains}
use Rattle.plan.specs.declared.flights.Alternate.{Alternate}

-- The fuel is that to the most distant alternate. No alternate needs more, and one needs exactly this. It is 0 if
-- there is no alternate.
pub record IsToMostDistant (alternates : List Alternate) (fuel : ℕ) : Type 0 where
  pub none_has_more : All (λ a. a.fuel ≤ fuel) alternates
  pub one_has_it : 0 < length alternates → Contains (map (λ a. a.fuel) alternates) fuel
  pub without_any : length alternates ≡ 0 → fuel ≡ 0
