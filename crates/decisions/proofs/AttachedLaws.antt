-- Which reports are attached to releases.
use Rattle.std.proofs.Common.{◌≡◌, ℕ, ◌∙◌, ◌++◌, ◌==◌, ◌||◌, Bool, true, false, List, [], ◌∷◌, map, filter, Option, None, Some, refl, ap, sym}
use Rattle.std.specs.List.{list_any}
use Rattle.std.specs.List.Sorted.{IsPermutation}
use Rattle.std.proofs.lemmas.List.Folds.{list_any-append}
use Rattle.std.proofs.lemmas.List.Sorted.{list_any-IsPermutation}
use Rattle.facts.specs.declared.report.Report.{Report}
use Rattle.plan.specs.declared.release.Attached.{Attached}
use Rattle.plan.specs.declared.release.Release.{Release}
use Rattle.plan.specs.declared.release.Revision.{Revision}
use Rattle.desk_state.specs.Decide.{is_attached_to, is_attached, attached_reports}
use Rattle.desk_state.specs.State.{State}
use Rattle.decisions.specs.Attached.{ids_of, all_ids, is_among, ids_among}

among_map : (id : ℕ) (list : List Attached) → is_among (map (λ a. a.report) list) id ≡ list_any (λ a. a.report == id) list
among_map id [] = refl
among_map id (a ∷ list) = ap (λ b. (a.report == id) || b) (among_map id list)

among_one : (id : ℕ) (o : Option Revision) → is_among (ids_of o) id ≡ is_attached_to id o
among_one id None = refl
among_one id (Some v) = among_map id v.attached

sorted_among : (ids sorted : List ℕ) (id : ℕ) → IsPermutation ids sorted → is_among sorted id ≡ is_among ids id
sorted_among ids sorted id moved = sym (list_any-IsPermutation (λ held. held == id) ids sorted moved)

-- the reports of releases are those that are attached to one
pub among_all : (id : ℕ) (rs : List Release) → is_among (all_ids rs) id ≡ is_attached id rs
among_all id [] = refl
among_all id (r ∷ rs) =
    list_any-append (λ held. held == id) (ids_of r.pending ++ ids_of r.active) (all_ids rs)
    ∙ ap (λ b. b || is_among (all_ids rs) id) (list_any-append (λ held. held == id) (ids_of r.pending) (ids_of r.active))
    ∙ ap (λ b. (b || is_among (ids_of r.active) id) || is_among (all_ids rs) id) (among_one id r.pending)
    ∙ ap (λ b. (is_attached_to id r.pending || b) || is_among (all_ids rs) id) (among_one id r.active)
    ∙ ap (λ b. (is_attached_to id r.pending || is_attached_to id r.active) || b) (among_all id rs)

pub among_sorted : (ids sorted : List ℕ) (rs : List Release) → ids ≡ all_ids rs → IsPermutation ids sorted → (id : ℕ) → is_among sorted id ≡ is_attached id rs
among_sorted ids sorted rs is moved id = sorted_among ids sorted id moved ∙ ap (λ list. is_among list id) is ∙ among_all id rs

by_attached : (found : List ℕ) (rs : List Release) (r : Report) (rest : List Report) (b : Bool) → is_among found r.id ≡ b → is_attached r.id rs ≡ b
    → map (λ x. x.id) (filter (λ x. is_among found x.id) rest) ≡ map (λ x. x.id) (filter (λ x. is_attached x.id rs) rest)
    → map (λ x. x.id) (filter (λ x. is_among found x.id) (r ∷ rest)) ≡ map (λ x. x.id) (filter (λ x. is_attached x.id rs) (r ∷ rest))
by_attached found rs r rest true one two same = rw (one, two) (ap (λ list. r.id ∷ list) same)
by_attached found rs r rest false one two same = rw (one, two) same

same_reports : (found : List ℕ) (rs : List Release) (reports : List Report) → ((id : ℕ) → is_among found id ≡ is_attached id rs)
    → map (λ x. x.id) (filter (λ x. is_among found x.id) reports) ≡ map (λ x. x.id) (filter (λ x. is_attached x.id rs) reports)
same_reports found rs [] among = refl
same_reports found rs (r ∷ rest) among = by_attached found rs r rest (is_attached r.id rs) (among r.id) refl (same_reports found rs rest among)

-- the reports that are among those attached
pub reports_among : (found : List ℕ) (s : State) (reports : List Report) (ids : List ℕ) → ((id : ℕ) → is_among found id ≡ is_attached id s.releases) → reports ≡ s.reports
    → ids ≡ ids_among found reports → ids ≡ attached_reports s
reports_among found s reports ids among held is = is ∙ ap (λ list. ids_among found list) held ∙ same_reports found s.releases s.reports among
