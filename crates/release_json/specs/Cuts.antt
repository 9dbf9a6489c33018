-- The number of a leg, and texts split at a byte.
use Rattle.std.specs.Prelude.{ℕ, ◌+◌, ◌==◌, List, take, drop, Option, Some}
use Rattle.std.specs.List.{position}
use Rattle.desk_time.specs.Digits.{◌>>=◌}
use Rattle.desk_time.specs.Numbers.{number_in}

-- a leg's number, at most 4,294,967,295
abbrev pub leg_of : List ℕ → Option ℕ
leg_of text = number_in 4_294_967_295 text

-- the text before the first byte equal to sign, and the text after it
abbrev pub cut : ℕ → List ℕ → Option (List ℕ × List ℕ)
cut sign text = position (λ b. b == sign) text >>= λ at. Some (take at text, drop (at + 1) text)
