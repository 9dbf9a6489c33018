-- The reports that releases have attached.
use Rattle.std.specs.Prelude.{ℕ, ◌==◌, Bool, List, [], ◌∷◌, ◌++◌, filter, map, Option, None, Some}
use Rattle.std.specs.List.{list_any}
use Rattle.facts.specs.declared.report.Report.{Report}
use Rattle.plan.specs.declared.release.Release.{Release}
use Rattle.plan.specs.declared.release.Revision.{Revision}

-- the ids of the reports attached to a revision
abbrev pub ids_of : Option Revision → List ℕ
ids_of None = []
ids_of (Some v) = map (λ a. a.report) v.attached

-- the ids of the reports attached to pending and active revisions
abbrev pub all_ids : List Release → List ℕ
all_ids [] = []
all_ids (r ∷ rs) = ids_of r.pending ++ ids_of r.active ++ all_ids rs

-- an id is in the list
abbrev pub is_among : List ℕ → ℕ → Bool
is_among ids id = list_any (λ held. held == id) ids

-- the ids of the reports whose ids are in a list
abbrev pub ids_among : List ℕ → List Report → List ℕ
ids_among ids reports = map (λ r. r.id) (filter (λ r. is_among ids r.id) reports)
