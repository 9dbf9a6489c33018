-- The classes of groups (FMH-1, chapter 12; WMO FM 15).
use Rattle.std.specs.Prelude.{ℕ, ◌+◌, ◌-◌, nat_le, Bool, ◌&&◌, ◌||◌, ◌==◌, not, true, false, if◌then◌else◌, List, [], ◌∷◌, length, take, drop, slice_index, codes, is_some}
use Rattle.std.specs.Str.{bytes_eq}
use Rattle.std.specs.List.{list_any}
use Rattle.codes.specs.declared.shapes.Named.{Named}
use Rattle.codes.specs.declared.shapes.Named.TheVariants.{Value, Unmeasured, Nothing, Bad}
use Rattle.codes.specs.declared.class.Class.{Class}
use Rattle.codes.specs.declared.class.Class.TheVariants.{Visibility, Sky, Wind, Runway, Weather, Temperature, Altimeter, Mark, Unread}
use Rattle.codes.specs.Groups.{first_of}
use Rattle.codes.specs.declared.shapes.Elements.{Elements}
use Rattle.codes.specs.Shapes.{is_digit, are_digits, is_cavok, mixed, elements_of}

-- the group reports something
abbrev pub is_shaped : Named → Bool
is_shaped (Value n) = true
is_shaped Unmeasured = true
is_shaped Nothing = false
is_shaped Bad = false

-- a visibility, or whole miles whose fraction is in the next group
abbrev pub is_visibility : Elements → List ℕ → List ℕ → Bool
is_visibility elements g next = (is_shaped elements.vis && not (is_cavok g)) || is_some (mixed g next)

-- a wind speed of two or three digits
abbrev pub is_speed : List ℕ → Bool
is_speed text = ((length text == 2) || (length text == 3)) && are_digits text

-- a speed, the letter G, and n digits
abbrev pub is_gust : ℕ → List ℕ → Bool
is_gust n text =
    let front = length text - (n + 1) in
    nat_le (n + 1) (length text) && (slice_index text front == 71) && is_speed (take front text) && are_digits (drop (front + 1) text)

-- a speed, or a speed with gusts
abbrev pub are_speeds : List ℕ → Bool
are_speeds text = is_speed text || is_gust 2 text || is_gust 3 text

-- the text before the unit of speed, KT or MPS; empty if there is no unit
abbrev pub before_unit : List ℕ → List ℕ
before_unit g =
    let n = length g in
    if nat_le 2 n && (slice_index g (n - 2) == 75) && (slice_index g (n - 1) == 84) then take (n - 2) g
    else (if nat_le 3 n && (slice_index g (n - 3) == 77) && (slice_index g (n - 2) == 80) && (slice_index g (n - 1) == 83) then take (n - 3) g else [])

abbrev pub is_direction : List ℕ → Bool
is_direction text = are_digits text || bytes_eq text (codes "VRB")

-- a direction and its speeds
abbrev pub is_wind_at : List ℕ → Bool
is_wind_at (a ∷ b ∷ c ∷ speeds) = is_direction (a ∷ b ∷ c ∷ []) && are_speeds speeds
is_wind_at _ = false

-- the two directions between which the wind varies
abbrev pub is_variation : List ℕ → Bool
is_variation (a ∷ b ∷ c ∷ v ∷ d ∷ e ∷ f ∷ []) = (v == 86) && are_digits (a ∷ b ∷ c ∷ []) && are_digits (d ∷ e ∷ f ∷ [])
is_variation _ = false

abbrev pub is_wind : List ℕ → Bool
is_wind g = is_wind_at (before_unit g) || is_variation g

-- R, two digits, and a / somewhere after them
abbrev pub is_runway : List ℕ → Bool
is_runway (r ∷ a ∷ b ∷ rest) = (r == 82) && is_digit a && is_digit b && list_any (λ x. x == 47) rest
is_runway _ = false

-- descriptors and phenomena of present weather
abbrev pub phenomena : List (List ℕ)
phenomena =
    codes "MI" ∷ codes "PR" ∷ codes "BC" ∷ codes "DR" ∷ codes "BL" ∷ codes "SH" ∷ codes "TS" ∷ codes "FZ" ∷ codes "DZ" ∷ codes "RA" ∷ codes "SN" ∷ codes "SG"
    ∷ codes "IC" ∷ codes "PL" ∷ codes "GR" ∷ codes "GS" ∷ codes "UP" ∷ codes "BR" ∷ codes "FG" ∷ codes "FU" ∷ codes "VA" ∷ codes "DU" ∷ codes "SA" ∷ codes "HZ"
    ∷ codes "PY" ∷ codes "PO" ∷ codes "SQ" ∷ codes "FC" ∷ codes "SS" ∷ codes "DS" ∷ []

abbrev pub is_phenomenon : ℕ → ℕ → Bool
is_phenomenon a b = list_any (λ p. bytes_eq p (a ∷ b ∷ [])) phenomena

-- pairs of letters, each a descriptor or phenomenon
abbrev pub are_phenomena : List ℕ → Bool
are_phenomena [] = true
are_phenomena (a ∷ []) = false
are_phenomena (a ∷ b ∷ rest) = is_phenomenon a b && are_phenomena rest

-- the text after the sign of intensity, or after VC (in the vicinity)
abbrev pub after_intensity : List ℕ → List ℕ
after_intensity [] = []
after_intensity (a ∷ []) = if (a == 43) || (a == 45) then [] else a ∷ []
after_intensity (a ∷ b ∷ rest) =
    if (a == 43) || (a == 45) then b ∷ rest else (if (a == 86) && (b == 67) then rest else a ∷ b ∷ rest)

abbrev pub is_weather : List ℕ → Bool
is_weather g = not (length (after_intensity g) == 0) && are_phenomena (after_intensity g)

-- the text without a leading M, which marks a temperature below zero
abbrev pub without_minus : List ℕ → List ℕ
without_minus [] = []
without_minus (a ∷ rest) = if a == 77 then rest else a ∷ rest

abbrev pub are_two_digits : List ℕ → Bool
are_two_digits (a ∷ b ∷ []) = is_digit a && is_digit b
are_two_digits _ = false

-- nothing, or a dew point
abbrev pub is_dew_point : List ℕ → Bool
is_dew_point rest = (length rest == 0) || are_two_digits (without_minus rest)

abbrev pub is_temperature_at : List ℕ → Bool
is_temperature_at (a ∷ b ∷ s ∷ rest) = is_digit a && is_digit b && (s == 47) && is_dew_point rest
is_temperature_at _ = false

abbrev pub is_temperature : List ℕ → Bool
is_temperature g = is_temperature_at (without_minus g)

-- A or Q, and four digits
abbrev pub is_altimeter : List ℕ → Bool
is_altimeter (a ∷ rest) = ((a == 65) || (a == 81)) && (length rest == 4) && are_digits rest
is_altimeter _ = false

abbrev pub is_mark : List ℕ → Bool
is_mark g = bytes_eq g (codes "AUTO") || bytes_eq g (codes "COR")

abbrev pub other_class : List ℕ → Class
other_class g =
    if is_wind g then Wind else (if is_runway g then Runway else (if is_weather g then Weather
    else (if is_temperature g then Temperature else (if is_altimeter g then Altimeter else (if is_mark g then Mark else Unread)))))

-- the class of a group with these elements
abbrev pub class_by : Elements → List ℕ → List ℕ → Class
class_by elements g next = if is_visibility elements g next then Visibility else (if is_shaped elements.sky then Sky else other_class g)

-- the class of a group, given the group after it
unfoldable pub class_of : List ℕ → List ℕ → Class
class_of g next = class_by (elements_of g) g next

abbrev pub is_unread : Class → Bool
is_unread Unread = true
is_unread _ = false

abbrev pub one_if : Bool → ℕ
one_if b = if b then 1 else 0

-- how many groups have class Unread
abbrev pub unread_count : List (List ℕ) → ℕ
unread_count [] = 0
unread_count (g ∷ gs) = one_if (is_unread (class_of g (first_of gs))) + unread_count gs
