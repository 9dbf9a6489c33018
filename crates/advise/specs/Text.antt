-- The advice on the legs of a plan as text.
use Rattle.std.specs.Prelude.{◌≡◌, ℕ, ◌+◌, List, [], ◌∷◌, ◌++◌, length, Option, None, Some, codes, decimal}
use Rattle.std.specs.List.{concat}
use Rattle.plan.specs.declared.flights.Alternate.{Alternate}
use Rattle.plan.specs.declared.flights.Plan.{Plan}
use Rattle.plan.specs.declared.release.Phase.TheVariants.{Ready}
use Rattle.rules.specs.Grounds.{Grounds}
use Rattle.advise.specs.declared.advice.Advice.{Advice}
use Rattle.advise.specs.declared.candidates.Candidate.{Candidate}
use Rattle.advise.specs.Advice.{Advises}
use Rattle.advise.specs.Legal.{question}

-- the stations, each after a blank
abbrev pub stations_text : List Alternate → List ℕ
stations_text [] = []
stations_text (it ∷ rest) = concat (codes " " ∷ it.station ∷ []) ++ stations_text rest

-- the stations, or a dash if there is none
abbrev pub alternates_text : List Alternate → List ℕ
alternates_text [] = codes " -"
alternates_text (it ∷ rest) = stations_text (it ∷ rest)

-- the fuel that a leg requires
abbrev pub required_text : ℕ → ℕ → List ℕ
required_text leg required = concat (codes "LEG " ∷ decimal leg ∷ codes " required " ∷ decimal required ∷ codes " alternates" ∷ [])

-- the line of a leg that should list these alternates
abbrev pub listed_line : ℕ → Advice → List ℕ
listed_line leg advice = required_text leg advice.required ++ alternates_text advice.alternates ++ codes "\n"

-- the line of a leg
abbrev pub advice_line : ℕ → Option Advice → List ℕ
advice_line leg None = concat (codes "LEG " ∷ decimal leg ∷ codes " none\n" ∷ [])
advice_line leg (Some advice) = listed_line leg advice

-- the lines of legs, if the first has the number n
abbrev pub advice_lines : ℕ → List (Option Advice) → List ℕ
advice_lines n [] = []
advice_lines n (advice ∷ rest) = advice_line n advice ++ advice_lines (n + 1) rest

-- this is advised on the legs before departure, if the first has the number n
abbrev pub AreAdvised : Plan → List Candidate → Grounds → ℕ → List (Option Advice) → Type 0
AreAdvised plan candidates g n [] = Unit {0}
AreAdvised plan candidates g n (advice ∷ rest) = Advises (question plan Ready n candidates g) advice × AreAdvised plan candidates g (n + 1) rest

-- The text has one line for each leg, with what is advised on it before departure.
pub record IsAdviceText (plan : Plan) (candidates : List Candidate) (g : Grounds) (text : List ℕ) : Type 0 where
  pub advices : List (Option Advice)
  pub count : length advices ≡ length plan.legs
  pub are : AreAdvised plan candidates g 1 advices
  pub is : text ≡ advice_lines 1 advices
