-- Visibility groups in millimetres and sky groups in feet (FMH-1, 12.6.6 and 12.6.9; WMO FM 15, 15.6 and 15.9).
use Rattle.std.specs.Prelude.{ℕ, ◌+◌, ◌-◌, ◌*◌, ◌/◌, nat_lt, nat_le, Bool, ◌&&◌, ◌||◌, ◌==◌, if◌then◌else◌, List, [], ◌∷◌, length, take, slice_index, Option, None, Some}
use Rattle.std.specs.Prelude.{codes, is_some}
use Rattle.std.specs.Str.{bytes_eq}
use Rattle.std.specs.List.{list_all}
use Rattle.desk_time.specs.Digits.{digit, pair, ◌>>=◌, or_else}
use Rattle.codes.specs.declared.shapes.Named.{Named}
use Rattle.codes.specs.declared.shapes.Named.TheVariants.{Value, Unmeasured, Nothing, Bad}
use Rattle.codes.specs.declared.shapes.Elements.{Elements}

abbrev pub is_digit : ℕ → Bool
is_digit b = is_some (digit b)

abbrev pub are_digits : List ℕ → Bool
are_digits text = list_all is_digit text

-- the number of one or two digits
abbrev pub number : List ℕ → Option ℕ
number (a ∷ []) = digit a
number (a ∷ b ∷ []) = pair a b
number _ = None

-- the millimetres of one or two digits of statute miles
abbrev pub miles : List ℕ → Option ℕ
miles digits = number digits >>= λ n. Some (1_609_344 * n)

-- the millimetres of n/d of a mile, a fraction less than 1 in halves, quarters, eighths or sixteenths
abbrev pub sixteenths : ℕ → ℕ → Option ℕ
sixteenths n d =
    if ((d == 2) || (d == 4) || (d == 8) || (d == 16)) && nat_le 1 n && nat_lt n d then Some (n * (16 / d) * 100_584) else None

abbrev pub part : ℕ → ℕ → Option ℕ
part n d = digit n >>= λ a. digit d >>= λ b. sixteenths a b

abbrev pub part_of_16 : ℕ → ℕ → Option ℕ
part_of_16 tens n = digit n >>= λ a. sixteenths (tens + a) 16

-- The millimetres of the text n/d, a fraction of a mile. The denominator is 2, 4, 8 or 16. The numerator is from 1 to
-- d - 1, without a leading zero.
abbrev pub fraction : List ℕ → Option ℕ
fraction (n ∷ s ∷ d ∷ []) = if s == 47 then part n d else None
fraction (n ∷ s ∷ d ∷ e ∷ []) = if (s == 47) && (d == 49) && (e == 54) then part_of_16 0 n else None
fraction (m ∷ n ∷ s ∷ d ∷ e ∷ []) = if (m == 49) && (s == 47) && (d == 49) && (e == 54) then part_of_16 10 n else None
fraction _ = None

-- P, more than a distance, counts as one millimetre more
abbrev pub above : Option ℕ → Option ℕ
above v = v >>= λ n. Some (n + 1)

-- M, less than a distance, counts as one millimetre less
abbrev pub below : Option ℕ → Option ℕ
below v = v >>= λ n. Some (n - 1)

-- the millimetres of the text before SM: P and miles, M and a fraction, miles, or a fraction
abbrev pub distance : List ℕ → Option ℕ
distance [] = None
distance (c ∷ text) =
    if c == 80 then above (miles text) else (if c == 77 then below (fraction text) else or_else (miles (c ∷ text)) (fraction (c ∷ text)))

-- the text before a final SM
abbrev pub before_sm : List ℕ → Option (List ℕ)
before_sm g =
    let n = length g - 2 in
    if nat_le 2 (length g) && (slice_index g n == 83) && (slice_index g (n + 1) == 77) then Some (take n g) else None

-- the number of four digits
abbrev pub four_digits : ℕ → ℕ → ℕ → ℕ → Option ℕ
four_digits a b c d = pair a b >>= λ x. pair c d >>= λ y. Some (100 * x + y)

-- the millimetres of a number of metres; 9999, ten kilometres or more, counts as ten kilometres
abbrev pub metres : ℕ → ℕ
metres m = if m == 9999 then 10_000_000 else 1000 * m

abbrev pub written_metres : ℕ → ℕ → ℕ → ℕ → Option ℕ
written_metres a b c d = four_digits a b c d >>= λ m. Some (metres m)

-- the millimetres of four digits, or of four digits and NDV (no directional variation)
abbrev pub distance_in_metres : List ℕ → Option ℕ
distance_in_metres (a ∷ b ∷ c ∷ d ∷ []) = written_metres a b c d
distance_in_metres (a ∷ b ∷ c ∷ d ∷ n ∷ v ∷ r ∷ []) = if (n == 78) && (v == 68) && (r == 86) then written_metres a b c d else None
distance_in_metres _ = None

abbrev pub is_cavok : List ℕ → Bool
is_cavok g = bytes_eq g (codes "CAVOK")

-- CAVOK, ten kilometres or more, counts as ten kilometres
abbrev pub cavok_distance : List ℕ → Option ℕ
cavok_distance g = if is_cavok g then Some 10_000_000 else None

abbrev pub value_or_bad : Option ℕ → Named
value_or_bad None = Bad
value_or_bad (Some n) = Value n

abbrev pub value_or_nothing : Option ℕ → Named
value_or_nothing None = Nothing
value_or_nothing (Some n) = Value n

abbrev pub visibility_before : Option (List ℕ) → List ℕ → Named
visibility_before None g = value_or_nothing (or_else (distance_in_metres g) (cavok_distance g))
visibility_before (Some front) g = value_or_bad (distance front)

-- The visibility that a group reports by itself. A group that ends in SM, doesn't begin with /, and isn't a distance
-- in miles is bad.
unfoldable pub visibility : List ℕ → Named
visibility g = if slice_index g 0 == 47 then Nothing else visibility_before (before_sm g) g

-- a fraction of a mile without whole miles
abbrev pub fraction_of_mile : List ℕ → Option ℕ
fraction_of_mile g = before_sm g >>= fraction

-- whole miles and a fraction of a mile in two groups
unfoldable pub mixed : List ℕ → List ℕ → Option ℕ
mixed before g = miles before >>= λ m. fraction_of_mile g >>= λ f. Some (m + f)

abbrev pub sum_or_alone : Option ℕ → Named → Named
sum_or_alone None alone = alone
sum_or_alone (Some sum) alone = Value sum

-- the visibility that a group reports, possibly together with the group before it
abbrev pub visibility_after : List ℕ → List ℕ → Named
visibility_after before g = sum_or_alone (mixed before g) (visibility g)

-- a height in feet from three digits of hundreds
abbrev pub hundreds : ℕ → ℕ → ℕ → Option ℕ
hundreds a b c = digit a >>= λ x. digit b >>= λ y. digit c >>= λ z. Some (10_000 * x + 1000 * y + 100 * z)

-- what may follow the height of a layer: nothing, a type of cloud, or ///
abbrev pub is_cloud : List ℕ → Bool
is_cloud rest = (length rest == 0) || bytes_eq rest (codes "CB") || bytes_eq rest (codes "TCU") || bytes_eq rest (codes "///")

-- the layer of three digits or ///
abbrev pub layer_at : ℕ → ℕ → ℕ → Named
layer_at a b c = if (a == 47) && (b == 47) && (c == 47) then Unmeasured else value_or_bad (hundreds a b c)

-- the layer after FEW, SCT, BKN or OVC
abbrev pub layer : List ℕ → Named
layer (a ∷ b ∷ c ∷ rest) = if is_cloud rest then layer_at a b c else Bad
layer _ = Bad

-- the vertical visibility after VV
abbrev pub vertical : List ℕ → Named
vertical (a ∷ b ∷ c ∷ []) = layer_at a b c
vertical _ = Bad

-- a layer of few or scattered clouds isn't a ceiling, whatever its height
abbrev pub no_ceiling : Named → Named
no_ceiling (Value n) = Value 100_000
no_ceiling Unmeasured = Value 100_000
no_ceiling Nothing = Nothing
no_ceiling Bad = Bad

-- the words for a sky without layers
abbrev pub sky_word : List ℕ → Named
sky_word g =
    if bytes_eq g (codes "SKC") then Value 100_000
    else (if bytes_eq g (codes "CLR") then Value 12_000
    else (if bytes_eq g (codes "NSC") || bytes_eq g (codes "NCD") || is_cavok g then Value 5000 else Nothing))

abbrev pub layer_after : List ℕ → List ℕ → List ℕ → Named
layer_after word rest g =
    if bytes_eq word (codes "FEW") || bytes_eq word (codes "SCT") then no_ceiling (layer rest)
    else (if bytes_eq word (codes "BKN") || bytes_eq word (codes "OVC") then layer rest else sky_word g)

abbrev pub layer_of : List ℕ → Named
layer_of (a ∷ b ∷ c ∷ rest) = layer_after (a ∷ b ∷ c ∷ []) rest (a ∷ b ∷ c ∷ rest)
layer_of _ = Nothing

-- The height in feet that a sky group reports. A group that begins with FEW, SCT, BKN, OVC or VV and isn't a layer or
-- vertical visibility is bad.
unfoldable pub sky : List ℕ → Named
sky (a ∷ b ∷ rest) = if (a == 86) && (b == 86) then vertical rest else layer_of (a ∷ b ∷ rest)
sky _ = Nothing

-- what a group reports about each element, read without the groups beside it
abbrev pub elements_of : List ℕ → Elements
elements_of g = record { vis = visibility g; sky = sky g }
