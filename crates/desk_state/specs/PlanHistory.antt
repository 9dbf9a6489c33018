-- Which plans of a release are active, one after another, and what makes them so (14 CFR 121.631).
use Rattle.std.specs.Prelude.{◌≡◌, ◌⊎◌, ℕ, ◌<◌, ◌≤◌, ◌==◌, List, [], ◌∷◌, ◌++◌, length, take, slice_get, option_and_then, option_to_list, Option, None, Some, IfSome, if◌then◌else◌}
use Rattle.std.specs.List.{last_or}
use Rattle.std.specs.Option.{option_map}
use Rattle.plan.specs.declared.flights.Plan.{Plan}
use Rattle.plan.specs.declared.release.Release.{Release}
use Rattle.plan.specs.declared.release.Revision.{Revision}
use Rattle.release_index.specs.Below.{findings_of}
use Rattle.asks.specs.declared.call.Ask.{Ask}
use Rattle.asks.specs.declared.call.Ask.TheVariants as ask
use Rattle.desk_state.specs.declared.entry.Entry.{Entry}
use Rattle.desk_state.specs.declared.entry.What.{What}
use Rattle.desk_state.specs.declared.entry.What.TheVariants as what
use Rattle.desk_state.specs.Decide.{once_signed}
use Rattle.desk_state.specs.Legal.{after_entries, next}
use Rattle.desk_state.specs.State.{State, grounds_of, release_at}

-- the active plan of a release, that of its active revision
abbrev pub active_plan : Release → Option Plan
active_plan r = option_map (λ v. v.plan) r.active

-- the active plan of the release with this id, if it has one
abbrev pub active_plan_in : ℕ → List Release → Option Plan
active_plan_in id releases = option_and_then active_plan (release_at id releases)

abbrev pub active_plan_at : ℕ → State → Option Plan
active_plan_at id s = active_plan_in id s.releases

-- ---- what replaces the active plan

-- The ask makes this the active plan of a release. The captain concurs with its pending revision, against whose plan no
-- rule fails then. Or the release is purged, and has no plan any more.
pub data Replaces (s : State) (id : ℕ) : Ask → Option Plan → Type 0 where
  concurs : {number : ℕ} {digest : List ℕ} {r : Release} {v : Revision} → release_at id s.releases ≡ Some r → r.pending ≡ Some v
      → findings_of v.plan (once_signed r.phase) (grounds_of s) ≡ [] → Replaces s id (ask.Concur id number digest) (Some v.plan)
  purges : Replaces s id (ask.Purge id) None

-- the event is a call with such an ask
abbrev pub IsReplacedBy : State → ℕ → What → Option Plan → Type 0
IsReplacedBy s id (what.Tick to) plan = ⊥
IsReplacedBy s id (what.Asked call reply) plan = Replaces s id call.ask plan

-- one of the entries, after the first p and among the first q, makes this the active plan of the release
pub record IsReplacedBetween (opening : State) (entries : List Entry) (p q id : ℕ) (plan : Option Plan) : Type 0 where
  pub place : ℕ
  pub since : p ≤ place
  pub by : place < q
  pub one : Entry
  pub found : slice_get entries place ≡ Some one
  pub replaces : IsReplacedBy (after_entries opening (take place entries)) id one.what plan

-- the active plan of the release after the first entries
abbrev pub active_plan_after : State → List Entry → ℕ → ℕ → Option Plan
active_plan_after opening entries count id = active_plan_at id (after_entries opening (take count entries))

-- The active plan of a release after q entries is that after p entries, or one of the entries between made it so.
abbrev pub IsKeptOrReplaced : State → List Entry → ℕ → ℕ → ℕ → Type 0
IsKeptOrReplaced opening entries p q id =
    (active_plan_after opening entries q id ≡ active_plan_after opening entries p id)
    ⊎ IsReplacedBetween opening entries p q id (active_plan_after opening entries q id)

-- ---- the line of a release

-- the plan that an ask made active, which is that of the state after it
abbrev pub made_active : ℕ → State → Ask → List Plan
made_active id t (ask.Concur release number digest) = if release == id then option_to_list (active_plan_at id t) else []
made_active id t _ = []

abbrev pub made_active_by : ℕ → State → What → List Plan
made_active_by id t (what.Tick to) = []
made_active_by id t (what.Asked call reply) = made_active id t call.ask

-- the plans that entries made active, in order
abbrev pub made_active_along : ℕ → State → List Entry → List Plan
made_active_along id s [] = []
made_active_along id s (e ∷ es) = made_active_by id (next s e.lane e.what) e.what ++ made_active_along id (next s e.lane e.what) es

-- The line of a release: its active plans, in the order in which they became active. The plan that was active when the
-- desk opened is the first.
abbrev pub line_of : State → List Entry → ℕ → List Plan
line_of opening entries id = option_to_list (active_plan_at id opening) ++ made_active_along id opening entries

-- the active plan of a release after the first entries, if it has one, is the last of its line
abbrev pub IsLastOfLine : State → List Entry → ℕ → ℕ → Type 0
IsLastOfLine opening entries count id =
    IfSome (active_plan_after opening entries count id) (λ plan. last_or None (line_of opening (take count entries) id) ≡ Some plan)

-- Along a history, the active plan of a release changes only at a concurrence, at which no rule failed against the new
-- plan, and it goes only at a purge. At every moment it is the last of the release's line.
pub record AreReplacedInTurn (opening : State) (entries : List Entry) : Type 0 where
  pub changed : (p q id : ℕ) → p ≤ q → q ≤ length entries → IsKeptOrReplaced opening entries p q id
  pub last : (count id : ℕ) → count ≤ length entries → IsLastOfLine opening entries count id
