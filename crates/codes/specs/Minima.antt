-- Whether the weather meets minima (14 CFR 121.613, 121.625).
use Rattle.std.specs.Prelude.{ℕ, ◌==◌, nat_le, Bool, ◌&&◌, List, Option, None, Some}
use Rattle.std.specs.List.{list_any}
use Rattle.codes.specs.declared.cond.Cond.{Cond}
use Rattle.desk_io.specs.declared.pair.Pair.{Pair}

-- the element is at or above its minimum; an unknown element meets only 0
abbrev pub reaches : Option ℕ → ℕ → Bool
reaches None least = least == 0
reaches (Some known) least = nat_le least known

-- ceiling and visibility are both at or above these minima
abbrev pub is_met : Cond → Pair → Bool
is_met cond pair = reaches cond.ceiling pair.ceiling && reaches cond.vis pair.vis

-- the weather meets at least one of these pairs of minima
unfoldable pub meets : Cond → List Pair → Bool
meets cond pairs = list_any (λ pair. is_met cond pair) pairs
