-- The minutes at which rules of time begin to fail.
use Rattle.std.specs.Prelude.{◌≡◌, ℕ, ◌+◌, ◌-◌, ◌<◌, ◌≤◌, nat_lt, true, false, if◌then◌else◌, List, [], ◌∷◌, ◌++◌, Option, None, Some}
use Rattle.codes.specs.Cond.{lesser}
use Rattle.ops_tables.specs.declared.rows.Settings.{Settings}
use Rattle.plan.specs.declared.flights.Leg.{Leg}
use Rattle.plan.specs.declared.flights.Plan.{Plan}
use Rattle.plan.specs.declared.findings.Rule.{Rule}
use Rattle.plan.specs.declared.findings.Rule.TheVariants.{No1, No2, No17, No18}
use Rattle.plan.specs.declared.release.Phase.{Phase}
use Rattle.rules.specs.Grounds.{Grounds}
use Rattle.rules.specs.Judgement.{findings_of, leg_numbered}
use Rattle.rules.specs.Time.{limit_of, is_late}

-- the rules that can begin to fail as time passes
abbrev pub rules_of_time : List Rule
rules_of_time = No1 ∷ No2 ∷ No17 ∷ No18 ∷ []

-- the first minute past the limit, if it is after the moment
abbrev pub due_after : ℕ → Option ℕ → Option ℕ
due_after moment None = None
due_after moment (Some limit) = if nat_lt moment (limit + 1) then Some (limit + 1) else None

-- the first minute after the moment at which one of these rules begins to fail for leg n
abbrev pub leg_due : List Rule → Settings → Plan → Phase → ℕ → ℕ → Leg → Option ℕ
leg_due [] settings plan phase moment n leg = None
leg_due (rule ∷ rules) settings plan phase moment n leg =
    lesser (due_after moment (limit_of rule settings plan.kind phase n leg)) (leg_due rules settings plan phase moment n leg)

-- the first such minute for these legs, if the first leg has number n
abbrev pub legs_due : Settings → Plan → Phase → ℕ → ℕ → List Leg → Option ℕ
legs_due settings plan phase moment n [] = None
legs_due settings plan phase moment n (leg ∷ legs) = lesser (leg_due rules_of_time settings plan phase moment n leg) (legs_due settings plan phase moment (n + 1) legs)

-- the first minute after the moment at which a rule of time begins to fail
unfoldable pub next_due : Plan → Phase → Settings → ℕ → Option ℕ
next_due plan phase settings moment = legs_due settings plan phase moment 1 plan.legs

-- A rule begins to fail for a leg at this minute. It fails then, and not a minute earlier.
pub record Begins (plan : Plan) (phase : Phase) (settings : Settings) (minute : ℕ) : Type 0 where
  pub rule : Rule
  pub number : ℕ
  pub leg : Leg
  pub stands : leg_numbered number 1 plan.legs ≡ Some leg
  pub before : is_late rule settings plan.kind phase number leg (minute - 1) ≡ false
  pub fails : is_late rule settings plan.kind phase number leg minute ≡ true

-- no rule begins to fail between the two moments
abbrev pub NoneBegins : Plan → Phase → Settings → ℕ → ℕ → Type 0
NoneBegins plan phase settings after until = (minute : ℕ) → after < minute → minute < until → Begins plan phase settings minute → ⊥

-- A rule of time begins to fail at that minute, and none does earlier. If there is no minute, none ever does.
abbrev pub IsNextDue : Plan → Phase → Settings → ℕ → Option ℕ → Type 0
IsNextDue plan phase settings moment None = (until : ℕ) → NoneBegins plan phase settings moment until
IsNextDue plan phase settings moment (Some due) = (moment < due) × Begins plan phase settings due × NoneBegins plan phase settings moment due

-- All minutes at which a rule of time begins to fail, the first past each limit. The definitions below add them in
-- turn.

abbrev pub with_past : List ℕ → Option ℕ → List ℕ
with_past minutes None = minutes
with_past minutes (Some limit) = minutes ++ (limit + 1) ∷ []

abbrev pub with_leg : List Rule → Settings → Plan → Phase → ℕ → List ℕ → Leg → List ℕ
with_leg [] settings plan phase n minutes leg = minutes
with_leg (rule ∷ rules) settings plan phase n minutes leg =
    with_leg rules settings plan phase n (with_past minutes (limit_of rule settings plan.kind phase n leg)) leg

abbrev pub with_legs : Settings → Plan → Phase → ℕ → List ℕ → List Leg → List ℕ
with_legs settings plan phase n minutes [] = minutes
with_legs settings plan phase n minutes (leg ∷ legs) =
    with_legs settings plan phase (n + 1) (with_leg rules_of_time settings plan phase n minutes leg) legs

unfoldable pub due_minutes : Plan → Phase → Settings → List ℕ
due_minutes plan phase settings = with_legs settings plan phase 1 [] plan.legs

-- the least of these minutes that is after the moment
abbrev pub first_after : ℕ → List ℕ → Option ℕ
first_after moment [] = None
first_after moment (minute ∷ minutes) = lesser (if nat_lt moment minute then Some minute else None) (first_after moment minutes)

-- For every moment, what is next due is the first of these minutes after it.
abbrev pub AreDue : Plan → Phase → Settings → List ℕ → Type 0
AreDue plan phase settings minutes = (moment : ℕ) → next_due plan phase settings moment ≡ first_after moment minutes

-- the same tables, reports and deferrals at another moment
abbrev pub at_moment : Grounds → ℕ → Grounds
at_moment g moment = record { tables = g.tables; reports = g.reports; deferrals = g.deferrals; moment = moment }

-- the minute is before `due`, or nothing is due
abbrev pub IsBeforeDue : ℕ → Option ℕ → Type 0
IsBeforeDue minute None = Unit {0}
IsBeforeDue minute (Some due) = minute < due

-- From the moment of the grounds until `due`, the findings stay the same.
abbrev pub StaysUntil : Plan → Phase → Grounds → Option ℕ → Type 0
StaysUntil plan phase g due = (minute : ℕ) → g.moment ≤ minute → IsBeforeDue minute due → findings_of plan phase (at_moment g minute) ≡ findings_of plan phase g

-- the findings stay the same until `due`, for all reports and deferrals
abbrev pub Stays : Plan → Phase → Settings → ℕ → Option ℕ → Type 0
Stays plan phase settings moment due = (g : Grounds) → g.tables.settings ≡ settings → g.moment ≡ moment → StaysUntil plan phase g due

-- From the moment until `due`, the same minute stays the next.
abbrev pub Lasts : Plan → Phase → Settings → ℕ → Option ℕ → Type 0
Lasts plan phase settings moment due = (minute : ℕ) → moment ≤ minute → IsBeforeDue minute due → next_due plan phase settings minute ≡ due
