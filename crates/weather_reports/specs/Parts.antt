-- The parts of a forecast: change words, their periods, and the groups of each part (WMO FM 51).
use Rattle.std.specs.Prelude.{◌≡◌, ℕ, ◌+◌, All, Bool, ◌||◌, if◌then◌else◌, List, [], ◌∷◌, ◌++◌, drop, map, Option, None, Some, is_some, Result, Ok, Err}
use Rattle.std.specs.List.{before_first}
use Rattle.desk_time.specs.Limits.{IsMoment}
use Rattle.codes.specs.Groups.{first_of}
use Rattle.codes.specs.Cond.{cond_of}
use Rattle.codes.specs.Period.{end_of, numbered, period_due}
use Rattle.codes.specs.declared.fault.Why.TheVariants.{BadPeriod}
use Rattle.codes.specs.declared.fault.BadReport.{BadReport}
use Rattle.codes.specs.declared.fault.Form.TheVariants.{Forecast}
use Rattle.weather_reports.specs.declared.forecast.Part.{Part}
use Rattle.weather_reports.specs.declared.forecast.PartKind.{PartKind}
use Rattle.weather_reports.specs.declared.forecast.PartKind.TheVariants.{Base, From, Prob}
use Rattle.weather_reports.specs.declared.change.Change.{Change}
use Rattle.weather_reports.specs.declared.change.Change.TheVariants.{At, During, Chance, Misshaped}
use Rattle.weather_reports.specs.Words.{is_remarks, is_tempo, change_of, change_after}

infixl 10 ◌>>=◌
-- the next step, if the one before it succeeded
abbrev pub ◌>>=◌ : {A B E : Type 0} → Result A E → (A → Result B E) → Result B E
(Ok x) >>= f = f x
(Err e) >>= f = Err e

-- all values, or the first fault
abbrev pub all_or_fault : {A E : Type 0} → List (Result A E) → Result (List A) E
all_or_fault [] = Ok []
all_or_fault (r ∷ rs) = r >>= λ x. all_or_fault rs >>= λ xs. Ok (x ∷ xs)

-- a change word in a text: its number, and the groups after it
pub record Turn : Type 0 where
  pub change : Change
  pub number : ℕ
  pub after : List (List ℕ)

abbrev pub noted : Option Change → ℕ → List (List ℕ) → List Turn → List Turn
noted None n after later = later
noted (Some change) n after later = record { change = change; number = n; after = after } ∷ later

-- the change words before RMK; the groups are numbered from n and follow the group `before`
abbrev pub turns : List ℕ → ℕ → List (List ℕ) → List Turn
turns before n [] = []
turns before n (g ∷ gs) = if is_remarks g then [] else noted (change_after before g) n gs (turns g (n + 1) gs)

abbrev pub ends_stretch : List ℕ → Bool
ends_stretch g = is_remarks g || is_some (change_of g)

-- the groups before the next change word, RMK or the end
abbrev pub stretch : List (List ℕ) → List (List ℕ)
stretch gs = before_first ends_stretch gs

-- the part whose groups begin at number n
abbrev pub part_of : PartKind → ℕ → ℕ → ℕ → List (List ℕ) → Result Part BadReport
part_of kind from to n gs =
    cond_of Forecast n (stretch gs) >>= λ cond. Ok (record { kind = kind; from = from; to = to; cond = cond })

-- the part whose period must be at group n
abbrev pub part_during : PartKind → ℕ → List (List ℕ) → ℕ → Result Part BadReport
part_during kind n gs first_day = period_due n gs first_day >>= λ period. part_of kind period.0 period.1 (n + 1) (drop 1 gs)

-- the part that begins at a moment in group n and lasts to `until`, the end of the forecast
abbrev pub part_from : List ℕ → ℕ → List (List ℕ) → ℕ → ℕ → Result Part BadReport
part_from digits n gs first_day until =
    numbered n (end_of digits first_day) >>= λ from. part_of From from until (n + 1) gs

-- a part that may hold; TEMPO may stand before its period
abbrev pub part_likely : ℕ → List (List ℕ) → ℕ → Result Part BadReport
part_likely n gs first_day =
    if is_tempo (first_of gs) then part_during Prob (n + 1) (drop 1 gs) first_day else part_during Prob n gs first_day

-- the part that a change word at group n begins; the groups `after` follow that word
abbrev pub part_at : Change → ℕ → List (List ℕ) → ℕ → ℕ → Result Part BadReport
part_at (At digits) n after first_day until = part_from digits n after first_day until
part_at (During kind) n after first_day until = part_during kind (n + 1) after first_day
part_at Chance n after first_day until = part_likely (n + 1) after first_day
part_at Misshaped n after first_day until = Err (record { group = n; why = BadPeriod })

abbrev pub part_of_turn : ℕ → ℕ → Turn → Result Part BadReport
part_of_turn first_day until t = part_at t.change t.number t.after first_day until

-- The parts of the change words, or the first fault in them. Days are among the five from `first_day`. A part that
-- begins with FM lasts to `until`, the end of the forecast.
abbrev pub parts_of : List ℕ → ℕ → List (List ℕ) → ℕ → ℕ → Result (List Part) BadReport
parts_of before n gs first_day until = all_or_fault (map (part_of_turn first_day until) (turns before n gs))

-- appends the values to `xs`, unless there is a fault
abbrev pub onto : {A E : Type 0} → List A → Result (List A) E → Result (List A) E
onto xs r = r >>= λ ys. Ok (xs ++ ys)

-- appends the part of one change word, if there is one
abbrev pub and_change : List Part → Option Change → ℕ → List (List ℕ) → ℕ → ℕ → Result (List Part) BadReport
and_change parts None n after first_day until = Ok parts
and_change parts (Some change) n after first_day until =
    part_at change n after first_day until >>= λ part. Ok (parts ++ part ∷ [])

-- the first and last moments of a part can be read
pub record HasMoments (part : Part) : Type 0 where
  pub from : IsMoment part.from
  pub to : IsMoment part.to

-- the part isn't a base, and lasts to the end of the forecast if it replaces all earlier parts
pub record IsChange (until : ℕ) (part : Part) : Type 0 where
  pub is_no_base : part.kind ≡ Base → ⊥
  pub lasts : part.kind ≡ From → part.to ≡ until

-- a base for the whole validity, and changes
pub record HasBase (first last : ℕ) (parts : List Part) : Type 0 where
  pub base : Part
  pub changes : List Part
  pub split : parts ≡ base ∷ changes
  pub is_base : base.kind ≡ Base
  pub from : base.from ≡ first
  pub to : base.to ≡ last
  pub are_changes : All (IsChange last) changes
