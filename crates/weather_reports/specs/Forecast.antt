-- The form of a TAF as a relation: which groups report which forecast (WMO FM 51).
use Rattle.std.specs.Prelude.{◌≡◌, ℕ, ◌-◌, ◌/◌, true, List, [], ◌∷◌, ◌++◌, None, Some, Ok, codes, All, Contains, Decides}
use Rattle.desk_io.specs.Station.{is_station}
use Rattle.codes.specs.Moment.{time_of}
use Rattle.codes.specs.Cond.{named_cond, shape_fault}
use Rattle.codes.specs.Period.{end_of, period_of}
use Rattle.codes.specs.declared.fault.Form.TheVariants.{Forecast}
use Rattle.weather_reports.specs.declared.change.Change.{Change}
use Rattle.weather_reports.specs.declared.change.Change.TheVariants.{At, During, Chance}
use Rattle.weather_reports.specs.declared.forecast.Part.{Part}
use Rattle.weather_reports.specs.declared.forecast.PartKind.{PartKind}
use Rattle.weather_reports.specs.declared.forecast.PartKind.TheVariants.{Base, From, Prob}
use Rattle.weather_reports.specs.declared.forecast.Taf.{Taf}
use Rattle.weather_reports.specs.declared.forecast.TafState.TheVariants.{Normal, Nil, Cancelled}
use Rattle.weather_reports.specs.Words.{change_of}

-- a word between TAF and the station
pub data IsModifier : List ℕ → Type 0 where
  amended : IsModifier (codes "AMD")
  corrected : IsModifier (codes "COR")

-- a group that ends a part: RMK or a change word
pub data EndsStretch : List ℕ → Type 0 where
  remarks : EndsStretch (codes "RMK")
  change : {word : List ℕ} {what : Change} → change_of word ≡ Some what → EndsStretch word

-- the part has the condition that its groups report; each group is well-formed, and none ends the part
pub record SaysPart (its_kind : PartKind) (stretch : List (List ℕ)) (part : Part) : Type 0 where
  pub kind : part.kind ≡ its_kind
  pub goes_on : All (λ group. EndsStretch group → ⊥) stretch
  pub shaped : All (λ group. shape_fault Forecast group ≡ None) stretch
  pub names : part.cond ≡ named_cond stretch

-- Changes up to RMK or the end: each is a change word, its moment or period, and the groups of the part. Days are
-- among the five from `first_day`. A part that begins with FM lasts to `until`, the end of the forecast.
pub data SaysChanges : ℕ → ℕ → List (List ℕ) → List Part → Type 0 where
  nothing : {first_day until : ℕ} → SaysChanges first_day until [] []
  remarks_follow : {first_day until : ℕ} (rest : List (List ℕ)) → SaysChanges first_day until (codes "RMK" ∷ rest) []
  at : {first_day until : ℕ} {word digits : List ℕ} {stretch rest : List (List ℕ)} {part : Part} {parts : List Part}
      → change_of word ≡ Some (At digits) → end_of digits first_day ≡ Ok part.from → part.to ≡ until
      → SaysPart From stretch part → SaysChanges first_day until rest parts
      → SaysChanges first_day until (word ∷ (stretch ++ rest)) (part ∷ parts)
  during : {first_day until : ℕ} {word period : List ℕ} {kind : PartKind} {stretch rest : List (List ℕ)} {part : Part} {parts : List Part}
      → change_of word ≡ Some (During kind) → period_of period first_day ≡ Ok (part.from, part.to)
      → SaysPart kind stretch part → SaysChanges first_day until rest parts
      → SaysChanges first_day until (word ∷ period ∷ (stretch ++ rest)) (part ∷ parts)
  likely : {first_day until : ℕ} {word period : List ℕ} {stretch rest : List (List ℕ)} {part : Part} {parts : List Part}
      → change_of word ≡ Some Chance → period_of period first_day ≡ Ok (part.from, part.to)
      → SaysPart Prob stretch part → SaysChanges first_day until rest parts
      → SaysChanges first_day until (word ∷ period ∷ (stretch ++ rest)) (part ∷ parts)
  likely_at_times : {first_day until : ℕ} {word period : List ℕ} {stretch rest : List (List ℕ)} {part : Part} {parts : List Part}
      → change_of word ≡ Some Chance → period_of period first_day ≡ Ok (part.from, part.to)
      → SaysPart Prob stretch part → SaysChanges first_day until rest parts
      → SaysChanges first_day until (word ∷ codes "TEMPO" ∷ period ∷ (stretch ++ rest)) (part ∷ parts)

-- the groups after the validity: a base for the whole validity, and changes
pub record SaysParts (groups : List (List ℕ)) (taf : Taf) : Type 0 where
  pub stretch : List (List ℕ)
  pub rest : List (List ℕ)
  pub base : Part
  pub changes : List Part
  pub split : groups ≡ stretch ++ rest
  pub parts : taf.parts ≡ base ∷ changes
  pub from : base.from ≡ taf.from
  pub to : base.to ≡ taf.to
  pub says_base : SaysPart Base stretch base
  pub says_changes : SaysChanges (taf.issued / 1440 - 1) taf.to rest changes

-- the TAF reports that there is no forecast
pub record SaysNone (taf : Taf) : Type 0 where
  pub state : taf.state ≡ Nil
  pub from : taf.from ≡ taf.issued
  pub to : taf.to ≡ taf.issued
  pub parts : taf.parts ≡ []

-- a validity; its days are among the five that begin one day before the day of issue
abbrev pub IsValidity : List ℕ → Taf → Type 0
IsValidity group taf = period_of group (taf.issued / 1440 - 1) ≡ Ok (taf.from, taf.to)

-- the groups after the time: NIL; or a validity and CNL; or a validity, a base and changes
pub data SaysAfterTime : List (List ℕ) → Taf → Type 0 where
  none : {rest : List (List ℕ)} {taf : Taf} → SaysNone taf → SaysAfterTime (codes "NIL" ∷ rest) taf
  cancelled : {validity : List ℕ} {rest : List (List ℕ)} {taf : Taf}
      → IsValidity validity taf → taf.state ≡ Cancelled → taf.parts ≡ [] → SaysAfterTime (validity ∷ codes "CNL" ∷ rest) taf
  normal : {validity : List ℕ} {rest : List (List ℕ)} {taf : Taf}
      → IsValidity validity taf → taf.state ≡ Normal → ((more : List (List ℕ)) → rest ≡ codes "CNL" ∷ more → ⊥)
      → SaysParts rest taf → SaysAfterTime (validity ∷ rest) taf

-- The groups of a TAF received at a moment: TAF, modifiers, a station, a time, and what follows. The day of the time
-- is one of the five that begin three days before the day of receipt.
pub record ReadsTaf (groups : List (List ℕ)) (receipt : ℕ) (taf : Taf) : Type 0 where
  pub words : List (List ℕ)
  pub time : List ℕ
  pub rest : List (List ℕ)
  pub split : groups ≡ codes "TAF" ∷ (words ++ (taf.station ∷ time ∷ rest))
  pub are_modifiers : All IsModifier words
  pub amended : Decides taf.amended (Contains words (codes "AMD"))
  pub corrected : Decides taf.corrected (Contains words (codes "COR"))
  pub has_station : is_station taf.station ≡ true
  pub issued : time_of time (receipt / 1440 - 3) ≡ Ok taf.issued
  pub says : SaysAfterTime rest taf
