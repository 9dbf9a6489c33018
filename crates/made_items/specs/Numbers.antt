-- The random numbers of flights, and the minimum fuel from them.
use Rattle.std.specs.Prelude.{ℕ, ◌+◌, ◌*◌, ◌/◌, ◌%◌, ◌==◌, if◌then◌else◌}

-- the random number after x, by a linear congruential generator
abbrev pub next_number : ℕ → ℕ
next_number x = (1_664_525 * x + 1_013_904_223) % 4_294_967_296

-- the minimum fuel in pounds; in one case of four it is a pound less
abbrev pub minimum_of : ℕ → ℕ
minimum_of x = if (x / 65_536) % 4 == 0 then 16_499 else 16_500
