-- Numbers in decimal.
use Rattle.std.specs.Prelude.{ℕ, ◌+◌, ◌*◌, ◌-◌, ◌==◌, nat_le, Bool, false, not, ◌&&◌, ◌||◌, if◌then◌else◌, List, [], ◌∷◌, length, Option, None, Some}
use Rattle.std.specs.List.{list_all}

abbrev pub is_digit : ℕ → Bool
is_digit b = nat_le 48 b && nat_le b 57

-- the value of the digits, read after digits whose value is `before`
abbrev pub digits_after : ℕ → List ℕ → ℕ
digits_after before [] = before
digits_after before (d ∷ ds) = digits_after (10 * before + (d - 48)) ds

-- at least one digit, without leading zeros
abbrev pub is_decimal : List ℕ → Bool
is_decimal [] = false
is_decimal (d ∷ ds) = list_all is_digit (d ∷ ds) && (not (d == 48) || (length ds == 0))

-- the number that a text writes in decimal, if it is at most the limit
abbrev pub number_in : ℕ → List ℕ → Option ℕ
number_in limit text = if is_decimal text && nat_le (digits_after 0 text) limit then Some (digits_after 0 text) else None
