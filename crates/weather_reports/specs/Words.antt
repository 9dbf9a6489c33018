-- The words of a TAF (WMO FM 51).
use Rattle.std.specs.Prelude.{ℕ, Bool, true, false, ◌&&◌, ◌||◌, ◌==◌, if◌then◌else◌, List, [], ◌∷◌, Option, None, Some, is_some, codes}
use Rattle.std.specs.Str.{bytes_eq}
use Rattle.desk_time.specs.Digits.{digit}
use Rattle.weather_reports.specs.declared.forecast.PartKind.TheVariants.{Becoming, Tempo}
use Rattle.weather_reports.specs.declared.change.Change.{Change}
use Rattle.weather_reports.specs.declared.change.Change.TheVariants.{At, During, Chance, Misshaped}

-- AMD: the forecast amends an earlier one
abbrev pub is_amended : List ℕ → Bool
is_amended g = bytes_eq g (codes "AMD")

-- COR: the forecast corrects an earlier one
abbrev pub is_corrected : List ℕ → Bool
is_corrected g = bytes_eq g (codes "COR")

abbrev pub is_modifier : List ℕ → Bool
is_modifier g = is_amended g || is_corrected g

-- NIL: there is no forecast
abbrev pub is_nil : List ℕ → Bool
is_nil g = bytes_eq g (codes "NIL")

-- CNL: the forecast is cancelled
abbrev pub is_cancelled : List ℕ → Bool
is_cancelled g = bytes_eq g (codes "CNL")

-- RMK: remarks follow, which aren't read
abbrev pub is_remarks : List ℕ → Bool
is_remarks g = bytes_eq g (codes "RMK")

abbrev pub is_tempo : List ℕ → Bool
is_tempo g = bytes_eq g (codes "TEMPO")

-- the text after FM: six characters, for day, hour and minute
abbrev pub moment_word : List ℕ → Change
moment_word (a ∷ b ∷ c ∷ d ∷ e ∷ f ∷ []) = At (a ∷ b ∷ c ∷ d ∷ e ∷ f ∷ [])
moment_word _ = Misshaped

-- the text after PROB: a chance of 30 or 40 percent
abbrev pub chance_word : List ℕ → Change
chance_word percent = if bytes_eq percent (codes "30") || bytes_eq percent (codes "40") then Chance else Misshaped

abbrev pub period_word : List ℕ → Option Change
period_word g =
    if bytes_eq g (codes "BECMG") then Some (During Becoming) else (if is_tempo g then Some (During Tempo) else None)

-- a group that begins with PROB, or one of the words BECMG and TEMPO
abbrev pub other_word : List ℕ → Option Change
other_word (a ∷ b ∷ c ∷ d ∷ rest) =
    if bytes_eq (a ∷ b ∷ c ∷ d ∷ []) (codes "PROB") then Some (chance_word rest) else period_word (a ∷ b ∷ c ∷ d ∷ rest)
other_word _ = None

-- The kind of change word that a group is: BECMG, TEMPO, or a group that begins with FM and a digit, or with PROB.
unfoldable pub change_of : List ℕ → Option Change
change_of (a ∷ b ∷ c ∷ rest) =
    if (a == 70) && (b == 77) && is_some (digit c) then Some (moment_word (c ∷ rest)) else other_word (a ∷ b ∷ c ∷ rest)
change_of _ = None

abbrev pub is_chance : Option Change → Bool
is_chance (Some Chance) = true
is_chance (Some (At digits)) = false
is_chance (Some (During kind)) = false
is_chance (Some Misshaped) = false
is_chance None = false

-- The kind of change word, given the group before it. TEMPO after PROB30 or PROB40 belongs to that word.
abbrev pub change_after : List ℕ → List ℕ → Option Change
change_after before g = if is_tempo g && is_chance (change_of before) then None else change_of g
