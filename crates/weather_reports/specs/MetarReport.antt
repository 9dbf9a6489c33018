-- The form of a METAR or SPECI as a relation (FMH-1, chapter 12; WMO FM 15).
use Rattle.std.specs.Prelude.{◌≡◌, ◌⊎◌, ℕ, ◌-◌, ◌/◌, Bool, true, false, List, [], ◌∷◌, ◌++◌, None, Ok, codes, All, Contains, Decides}
use Rattle.desk_io.specs.Station.{is_station}
use Rattle.codes.specs.Moment.{time_of}
use Rattle.codes.specs.Class.{unread_count}
use Rattle.codes.specs.Cond.{named_cond, shape_fault}
use Rattle.codes.specs.declared.fault.Form.TheVariants.{Report}
use Rattle.weather_reports.specs.declared.metar.Metar.{Metar}

-- the optional first word, and whether it is SPECI
pub data IsReportWord : List (List ℕ) → Bool → Type 0 where
  unnamed : IsReportWord [] false
  metar : IsReportWord (codes "METAR" ∷ []) false
  speci : IsReportWord (codes "SPECI" ∷ []) true

-- the optional COR before the station
pub data IsCorrection : List (List ℕ) → Bool → Type 0 where
  uncorrected : IsCorrection [] false
  corrected : IsCorrection (codes "COR" ∷ []) true

-- a word that ends the body; remarks and trends aren't read
pub data EndsBody : List ℕ → Type 0 where
  remarks : EndsBody (codes "RMK")
  no_change : EndsBody (codes "NOSIG")
  temporary : EndsBody (codes "TEMPO")
  becoming : EndsBody (codes "BECMG")

-- the groups after the body: none, or a word that ends the body and the rest
pub data FollowsBody : List (List ℕ) → Type 0 where
  nothing : FollowsBody []
  end : {word : List ℕ} → EndsBody word → (rest : List (List ℕ)) → FollowsBody (word ∷ rest)

-- the body of some groups: those before the first word that ends a body
pub record IsBodyOf (groups body : List (List ℕ)) : Type 0 where
  pub rest : List (List ℕ)
  pub split : groups ≡ body ++ rest
  pub goes_on : All (λ group. EndsBody group → ⊥) body
  pub ends : FollowsBody rest

-- the report states what its body reports, and each group of the body is well-formed
pub record SaysBody (body : List (List ℕ)) (in_front : Bool) (report : Metar) : Type 0 where
  pub is_there : report.nil ≡ false
  pub shaped : All (λ group. shape_fault Report group ≡ None) body
  pub names : report.cond ≡ named_cond body
  pub corrects : Decides report.corrected ((in_front ≡ true) ⊎ Contains body (codes "COR"))
  pub is_automatic : Decides report.auto (Contains body (codes "AUTO"))
  pub counts : report.unread ≡ unread_count body

-- the report is NIL, and reports nothing
pub record SaysNone (in_front : Bool) (report : Metar) : Type 0 where
  pub is_not_there : report.nil ≡ true
  pub names_no_ceiling : report.cond.ceiling ≡ None
  pub names_no_visibility : report.cond.vis ≡ None
  pub corrects : report.corrected ≡ in_front
  pub is_not_automatic : report.auto ≡ false
  pub counts_none : report.unread ≡ 0

-- the groups after the time: NIL or the body
pub data SaysAfterTime : List (List ℕ) → Bool → Metar → Type 0 where
  none : {rest : List (List ℕ)} {in_front : Bool} {report : Metar} → SaysNone in_front report → SaysAfterTime (codes "NIL" ∷ rest) in_front report
  some : {rest body : List (List ℕ)} {in_front : Bool} {report : Metar}
      → ((more : List (List ℕ)) → rest ≡ codes "NIL" ∷ more → ⊥) → IsBodyOf rest body → SaysBody body in_front report → SaysAfterTime rest in_front report

-- The groups of a report received at a moment: optional words, a station, a time, and NIL or a body. The day of the
-- time is one of the five that begin three days before the day of receipt.
pub record ReadsMetar (groups : List (List ℕ)) (receipt : ℕ) (report : Metar) : Type 0 where
  pub word : List (List ℕ)
  pub correction : List (List ℕ)
  pub in_front : Bool
  pub time : List ℕ
  pub rest : List (List ℕ)
  pub split : groups ≡ word ++ (correction ++ (report.station ∷ time ∷ rest))
  pub is_special : IsReportWord word report.special
  pub is_correction : IsCorrection correction in_front
  pub has_station : is_station report.station ≡ true
  pub observed : time_of time (receipt / 1440 - 3) ≡ Ok report.observed
  pub says : SaysAfterTime rest in_front report
