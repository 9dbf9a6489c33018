-- Alerts keep their forms when every active release is judged.
use Rattle.std.proofs.Common.{ℕ, ◌≤◌, Bool, true, false, cond, eqb, List, [], ◌∷◌, length, Option, None, Some, IfSome, arith}
use Rattle.std.specs.List.{AllByRecursion, filter_map, cons_option}
use Rattle.alerts.specs.Alerts.{are_same, with_finding, with_findings, alert_once_open, alert_after}
use Rattle.alerts.specs.declared.alert.Alert.{Alert}
use Rattle.desk_state.specs.Formed.{AlertHasForms}
use Rattle.desk_state.proofs.FindingForms.{HaveIds, findings_formed}
use Rattle.desk_state.specs.Sound.{InBounds, IsOpen, ReleaseInBounds, RevisionInBounds}
use Rattle.desk_state.specs.State.{State, alert_at, alert_for, failing_if, failing_in, failing_of, grounds_of, judged}
use Rattle.desk_state.proofs.Each.{found_each}
use Rattle.plan.specs.Findings.{is_before, is_same}
use Rattle.plan.specs.Phases.{is_active}
use Rattle.plan.specs.declared.findings.Finding.{Finding}
use Rattle.plan.specs.declared.release.Phase.{Phase}
use Rattle.plan.specs.declared.release.Release.{Release}
use Rattle.plan.specs.declared.release.Revision.{Revision}
use Rattle.asks.specs.Forms.{IsId, IsFinding}
use Rattle.release_index.specs.Below.{Grounds}
use Rattle.desk_io.proofs.Each.{each_weaker}

-- ---- findings that are put in their places

with_by : (f g : Finding) (gs more : List Finding) (before same : Bool) → IsFinding f → IsFinding g → AllByRecursion IsFinding gs → AllByRecursion IsFinding more
    → AllByRecursion IsFinding (cond before (f ∷ g ∷ gs) (cond same (g ∷ gs) (g ∷ more)))
with_by f g gs more true same is here rest later = (is, (here, rest))
with_by f g gs more false true is here rest later = (here, rest)
with_by f g gs more false false is here rest later = (here, later)

with_formed : (f : Finding) (gs : List Finding) → IsFinding f → AllByRecursion IsFinding gs → AllByRecursion IsFinding (with_finding f gs)
with_formed f [] is all = (is, tt)
with_formed f (g ∷ gs) is all = with_by f g gs (with_finding f gs) (is_before f g) (is_same f g) is all.0 all.1 (with_formed f gs is all.1)

all_formed : (ever fs : List Finding) → AllByRecursion IsFinding ever → AllByRecursion IsFinding fs → AllByRecursion IsFinding (with_findings ever fs)
all_formed ever [] all more = all
all_formed ever (f ∷ fs) all more = all_formed (with_finding f ever) fs (with_formed f ever more.0 all) more.1

-- ---- an alert

once_formed : (same : Bool) (a : Alert) (findings : List Finding) → AlertHasForms a → AllByRecursion IsFinding findings → AlertHasForms (alert_once_open same a findings)
once_formed true a findings is all = is
once_formed false a findings is all = record { failing = all; ever = all_formed a.ever findings is.ever all }

after_formed : (old : Option Alert) (release : ℕ) (desk : List ℕ) (findings : List Finding) (moment : ℕ) → IfSome old AlertHasForms → AllByRecursion IsFinding findings
    → IfSome (alert_after old release desk findings moment) AlertHasForms
after_formed None release desk [] moment is all = tt
after_formed None release desk (f ∷ fs) moment is all = record { failing = all; ever = all }
after_formed (Some a) release desk findings moment is all = once_formed (are_same a.failing findings) a findings is all

for_formed : (failing : Option (List Finding)) (old : Option Alert) (r : Release) (moment : ℕ) → IfSome failing (λ fs. AllByRecursion IsFinding fs) → IfSome old AlertHasForms
    → IfSome (alert_for failing old r moment) AlertHasForms
for_formed None old r moment all is = tt
for_formed (Some fs) old r moment all is = after_formed old r.id r.holder fs moment is all

-- a revision that names at most 1,000 legs
abbrev HasFew : Revision → Type 0
HasFew v = length v.plan.legs ≤ 1000

failing_by : (active : Bool) (g : Grounds) (v : Revision) (phase : Phase) → HasFew v → HaveIds g.deferrals → IfSome (failing_if active g v phase) (λ fs. AllByRecursion IsFinding fs)
failing_by true g v phase few ids = findings_formed v.plan phase g few ids
failing_by false g v phase few ids = tt

failing_formed : (g : Grounds) (o : Option Revision) (phase : Phase) → IfSome o RevisionInBounds → HaveIds g.deferrals → IfSome (failing_in g o phase) (λ fs. AllByRecursion IsFinding fs)
failing_formed g None phase is ids = tt
failing_formed g (Some v) phase is ids = failing_by (is_active phase) g v phase is.is_plan.few ids

-- ---- all alerts

option_formed : (o : Option Alert) (alerts : List Alert) → IfSome o AlertHasForms → AllByRecursion AlertHasForms alerts → AllByRecursion AlertHasForms (cons_option o alerts)
option_formed None alerts here all = all
option_formed (Some a) alerts here all = (here, all)

judged_formed : (t : State) (r : Release) → HaveIds t.deferrals → ReleaseInBounds r → AllByRecursion AlertHasForms t.alerts → IfSome (judged t r) AlertHasForms
judged_formed t r ids is all =
    for_formed (failing_of (grounds_of t) r) (alert_at r.id t.alerts) r t.moment (failing_formed (grounds_of t) r.active r.phase is.active ids)
    (found_each AlertHasForms (λ a. eqb a.release r.id) t.alerts all)

-- the alerts of some releases once they are judged
pub all_judged : (t : State) (rs : List Release) → HaveIds t.deferrals → AllByRecursion ReleaseInBounds rs → AllByRecursion AlertHasForms t.alerts
    → AllByRecursion AlertHasForms (filter_map (judged t) rs)
all_judged t [] ids bounds all = tt
all_judged t (r ∷ rs) ids bounds all =
    option_formed (judged t r) (filter_map (judged t) rs) (judged_formed t r ids bounds.0 all) (all_judged t rs ids bounds.1 all)

-- the ids of open deferrals are below the counter
pub ids_low : (s : State) → InBounds s → HaveIds s.deferrals
ids_low s bounds =
    let next = bounds.counters.deferral in
    let top = bounds.counters.events in
    each_weaker (IsOpen s.counters.next_deferral) (λ d. IsId d.id) (λ d is. let below = is.0 in omega (arith, below, next, top)) s.deferrals bounds.deferrals.each
