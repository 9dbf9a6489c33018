-- Numbers of a limited count of decimal digits.
use Rattle.std.specs.Prelude.{ℕ, nat_le, Bool, ◌&&◌, List, length, if◌then◌else◌, Option, None, Some}
use Rattle.std.specs.List.{list_all}
use Rattle.desk_time.specs.Numbers.{is_digit, digits_after}

-- the text has 1 to `most` bytes
abbrev pub has_length : ℕ → List ℕ → Bool
has_length most text = nat_le 1 (length text) && nat_le (length text) most

-- 1 to `most` digits
abbrev pub are_digits : ℕ → List ℕ → Bool
are_digits most text = has_length most text && list_all is_digit text

-- the number of 1 to `most` digits
abbrev pub number_of : ℕ → List ℕ → Option ℕ
number_of most text = if are_digits most text then Some (digits_after 0 text) else None
