-- The final plans that are filed, at most one for each release.
use Rattle.std.specs.Prelude.{ℕ, List, [], ◌∷◌, find, Option}
use Rattle.desk_io.specs.ById.{has_id, put}
use Rattle.asks.specs.Forms.{HasForms}
use Rattle.plan.specs.Check.{IsPlan}
use Rattle.plan.specs.declared.flights.Plan.{Plan}
use Rattle.redispatch.specs.declared.planned.Filed.{Filed}

-- a final plan of a leg of a release
abbrev pub final_plan : ℕ → ℕ → Plan → Filed
final_plan release leg plan = record { release = release; leg = leg; plan = plan }

abbrev pub release_of : Filed → ℕ
release_of f = f.release

-- what is filed for a release
abbrev pub filed_for : ℕ → List Filed → Option Filed
filed_for release planned = find (has_id release_of release) planned

-- the list after a plan is filed: in place of an earlier plan of its release, or else in the order of the releases
abbrev pub once_filed : Filed → List Filed → List Filed
once_filed f planned = put release_of f planned

-- the list after plans are filed one after another
abbrev pub filed_after : List Filed → List Filed → List Filed
filed_after planned [] = planned
filed_after planned (f ∷ fs) = filed_after (once_filed f planned) fs

-- the plan has at most 1,000 legs, whose times can be written
abbrev pub HasPlan : Filed → Type 0
HasPlan f = IsPlan f.plan

-- the names and numbers of the plan are well-formed
abbrev pub HasFormedPlan : Filed → Type 0
HasFormedPlan f = HasForms f.plan
