-- What is found has moments that can be shown.
use Rattle.std.proofs.Common.{◌≡◌, ℕ, List, IfSome, eqb, sym, subst}
use Rattle.std.specs.List.{AllByRecursion}
use Rattle.std.proofs.lemmas.List.Elements.{All-filter, All-from_recursion, recursion_from_All}
use Rattle.alerts.specs.Alerts.{IsAlert}
use Rattle.alerts.specs.declared.alert.Alert.{Alert}
use Rattle.deferrals.specs.Limits.{is_of, open_on}
use Rattle.deferrals.specs.declared.items.Deferral.{Deferral}
use Rattle.desk_io.proofs.Each.{each_weaker}
use Rattle.desk_state.proofs.Each.{found_each}
use Rattle.desk_state.specs.Sound.{IsOpen, ReleaseInBounds}
use Rattle.desk_state.specs.State.{alert_at, release_at}
use Rattle.desk_time.specs.Limits.{IsMoment}
use Rattle.plan.specs.declared.release.Release.{Release}

pub opened_at : (id most : ℕ) (alerts : List Alert) → AllByRecursion (IsAlert most) alerts → IfSome (alert_at id alerts) (λ a. IsMoment a.opened)
opened_at id most alerts each =
    let P : Alert → Type 0 = λ a. IsMoment a.opened in
    found_each P (λ a. eqb a.release id) alerts (each_weaker (IsAlert most) P (λ a is. is.moment) alerts each)

pub bounded_at : (id : ℕ) (releases : List Release) → AllByRecursion ReleaseInBounds releases → IfSome (release_at id releases) ReleaseInBounds
bounded_at id releases each = found_each ReleaseInBounds (λ r. eqb r.id id) releases each

pub shown_on : (next : ℕ) (tail : List ℕ) (ds shown : List Deferral) → shown ≡ open_on tail ds → AllByRecursion (IsOpen next) ds → AllByRecursion (λ d. IsMoment d.found) shown
shown_on next tail ds shown is each =
    let P : Deferral → Type 0 = λ d. IsMoment d.found in
    subst (λ (held : List Deferral). AllByRecursion P held) (sym is)
    (recursion_from_All P (open_on tail ds) (All-filter (λ d. is_of tail d) P ds (All-from_recursion P ds (each_weaker (IsOpen next) P (λ d has. has.1) ds each))))
