-- The first and last moments of each kind, in minutes since 1970-01-01 00:00 UTC.
use Rattle.std.specs.Prelude.{ℕ, ◌≤◌}

-- 2000-01-01 00:00, the first that can be read
abbrev pub first_moment : ℕ
first_moment = 15_778_080

-- 2099-12-31 23:59, the last that can be read
abbrev pub last_moment : ℕ
last_moment = 68_374_079

-- a day after `first_moment`, the first at which a leg may be planned
abbrev pub first_planned : ℕ
first_planned = 15_779_520

-- a day before `last_moment`, the last at which a leg may be planned
abbrev pub last_planned : ℕ
last_planned = 68_372_639

-- the last that can be printed
abbrev pub last_shown : ℕ
last_shown = 69_000_000

-- a moment that can be read
abbrev pub IsMoment : ℕ → Type 0
IsMoment at = (first_moment ≤ at) × (at ≤ last_moment)
