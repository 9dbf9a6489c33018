-- The text of a release determines its plan, revision number and attached reports (14 CFR 121.663).
use Rattle.std.specs.Prelude.{◌≡◌, ◌<◌, ◌==◌, ℕ, ◌^◌, Bool, not, true, List, Option, None, Some}
use Rattle.std.specs.List.{AllByRecursion, list_all}
use Rattle.desk_time.specs.Limits.{IsMoment}
use Rattle.plan.specs.declared.flights.Plan.{Plan}
use Rattle.plan.specs.declared.flights.Leg.{Leg}
use Rattle.plan.specs.declared.flights.Alternate.{Alternate}
use Rattle.plan.specs.declared.flights.TakeoffAlternate.{TakeoffAlternate}
use Rattle.plan.specs.declared.release.Attached.{Attached}
use Rattle.release_text.specs.Text.{release_text}

-- the text doesn't contain this character
abbrev pub is_free : ℕ → List ℕ → Bool
is_free sign text = list_all (λ b. not (b == sign)) text

-- the text has no line feed
abbrev pub IsLine : List ℕ → Type 0
IsLine text = is_free 10 text ≡ true

-- the text has neither a space nor a line feed
pub record IsWord (text : List ℕ) : Type 0 where
  pub unbroken : is_free 32 text ≡ true
  pub line : IsLine text

-- a 64-bit number
abbrev pub IsNumber : ℕ → Type 0
IsNumber n = n < 2 ^ 64

pub record IsLegibleAlternate (a : Alternate) : Type 0 where
  pub station : IsWord a.station
  pub minutes : IsNumber a.minutes
  pub fuel : IsNumber a.fuel

abbrev pub IsLegibleTakeoff : Option TakeoffAlternate → Type 0
IsLegibleTakeoff None = Unit {0}
IsLegibleTakeoff (Some t) = IsWord t.station × IsNumber t.minutes

-- a leg whose stations are single words and whose times can be written
pub record IsLegibleLeg (l : Leg) : Type 0 where
  pub from : IsWord l.from
  pub to : IsWord l.to
  pub etd : IsMoment l.etd
  pub eta : IsMoment l.eta
  pub minutes : IsNumber l.minutes
  pub burn : IsNumber l.burn
  pub extra : IsNumber l.extra
  pub minimum : IsNumber l.minimum
  pub onboard : IsNumber l.onboard
  pub takeoff : IsLegibleTakeoff l.takeoff_alternate
  pub alternates : AllByRecursion IsLegibleAlternate l.alternates

-- a plan whose names are single words, and with such legs
pub record IsLegible (plan : Plan) : Type 0 where
  pub flight : IsWord plan.flight
  pub tail : IsWord plan.tail
  pub captain : IsWord plan.captain
  pub legs : AllByRecursion IsLegibleLeg plan.legs

-- an attached report whose text has no line feed
pub record IsLegibleReport (a : Attached) : Type 0 where
  pub report : IsNumber a.report
  pub text : IsLine a.text

-- Two releases have the same plan and the same revision number. If the text of each report is one line, they also
-- have the same attached reports.
pub record AreSame (plan other : Plan) (revision number : ℕ) (attached list : List Attached) : Type 0 where
  pub plans : other ≡ plan
  pub revisions : number ≡ revision
  pub reports : AllByRecursion IsLegibleReport attached → AllByRecursion IsLegibleReport list → list ≡ attached

-- the text determines the release: any legible release with this text is the same
unfoldable pub Tells : List ℕ → Plan → ℕ → List Attached → Type 0
Tells text plan revision attached =
    IsLegible plan → (other : Plan) (number : ℕ) (list : List Attached) → IsLegible other → IsNumber number
    → text ≡ release_text other number list → AreSame plan other revision number attached list
