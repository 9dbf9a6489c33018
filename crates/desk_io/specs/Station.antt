-- ICAO location indicators: the four characters that identify an airport.
use Rattle.std.specs.Prelude.{ℕ, nat_le, Bool, ◌&&◌, ◌||◌, false, if◌then◌else◌, List, [], ◌∷◌, Option, None, Some}

abbrev pub is_capital : ℕ → Bool
is_capital b = nat_le 65 b && nat_le b 90

abbrev pub is_capital_or_digit : ℕ → Bool
is_capital_or_digit b = is_capital b || (nat_le 48 b && nat_le b 57)

-- a station is represented by its characters
abbrev pub Station : Type 0
Station = List ℕ

-- a capital letter, then three capital letters or digits
abbrev pub is_station : List ℕ → Bool
is_station (a ∷ b ∷ c ∷ d ∷ []) = is_capital a && is_capital_or_digit b && is_capital_or_digit c && is_capital_or_digit d
is_station _ = false

-- the station of a text, if the text is well-formed
abbrev pub station_of : List ℕ → Option Station
station_of text = if is_station text then Some text else None
