-- What an event needs of what is held.
use Rattle.std.proofs.Common.{◌≡◌, sym, subst, ℕ, ◌+◌, ◌<◌, ◌≤◌, List, [], ◌∷◌, arith, Option, None, Some, IfSome}
use Rattle.std.specs.List.{All, AllByRecursion}
use Rattle.std.proofs.lemmas.List.Elements.{All-from_recursion}
use Rattle.asks.specs.Forms.{FloorsRise}
use Rattle.deferrals.specs.declared.items.Deferral.{Deferral}
use Rattle.facts.specs.Reading.{IsRead}
use Rattle.facts.specs.declared.report.Report.{Report}
use Rattle.release_index.specs.Changes.{MayChange}
use Rattle.release_index.specs.declared.change.OnReleases.{OnReleases}
use Rattle.release_index.specs.declared.change.OnReleases.TheVariants as on_releases
use Rattle.desk_io.proofs.ByIdForms.{all_below}
use Rattle.plan.specs.declared.release.Release.{Release}
use Rattle.desk_state.specs.Holds.{Holds}
use Rattle.desk_state.specs.Install.{MayAdmit, MayDefer, MayBeMade}
use Rattle.desk_state.specs.State.{State}
use Rattle.desk_state.specs.Sound.{IsNumbered, IsOpen, IsNext, InBounds, DeferralsFit, ReleasesFit, EffectFits, Rise}
use Rattle.desk_state.specs.declared.effect.Effect.{Effect}
use Rattle.desk_state.specs.declared.effect.OnDeferrals.{OnDeferrals}
use Rattle.desk_state.specs.declared.effect.OnDeferrals.TheVariants as on_deferrals
use Rattle.decisions.specs.Reads.{AdmitsRead}
use Rattle.row_changes.specs.Shown.{IsSmallDeferral, IsSmallReport}
use Rattle.row_changes.proofs.ShownLaws.{are_small}

above_all : (next id : ℕ) (rs : List Report) → AllByRecursion (IsNumbered next) rs → id ≡ next → AllByRecursion (λ held. held.id < id) rs
above_all next id [] all is = tt
above_all next id (r ∷ rs) all is = (let least = all.0 in omega (arith, least, is), above_all next id rs all.1 is)

newest : (next id : ℕ) (ds : List Deferral) → AllByRecursion (IsOpen next) ds → id ≡ next → AllByRecursion (λ held. held.id < id) ds
newest next id [] all is = tt
newest next id (d ∷ ds) all is = (let least = all.0.0 in omega (arith, least, is), newest next id ds all.1 is)

may_admit : (s : State) (o : Option Report) → IfSome o (IsNext s) → IfSome o IsRead → IsSmallReport o → InBounds s → IfSome o (MayAdmit s.reports)
may_admit s None fits read small kept = tt
may_admit s (Some r) fits read small kept = record {
  above = All-from_recursion (λ held. held.id < r.id) s.reports (above_all s.counters.next_report r.id s.reports kept.reports fits.is_new);
  read = read;
  small = small;
}

may_defer : (s : State) (on : OnDeferrals) → DeferralsFit s on → IsSmallDeferral on → InBounds s → MayDefer s.deferrals on
may_defer s on_deferrals.Nothing fits small kept = tt
may_defer s (on_deferrals.Open d) fits small kept = record {
  newest = All-from_recursion (λ held. held.id < d.id) s.deferrals (newest s.counters.next_deferral d.id s.deferrals kept.deferrals.each fits.is_new);
  few = fits.few;
  small = small;
}
may_defer s (on_deferrals.Clear id) fits small kept = tt

-- ids that rise within the next one are all below it
none_left : (low next : ℕ) → Rise low [] next → low ≤ next
none_left low next is = is

one_more : (low next : ℕ) (r : Release) (rs : List Release) → Rise low (r ∷ rs) next → (low ≤ r.id) × Rise (r.id + 1) rs next
one_more low next r rs is = is

may_change : (s : State) (on : OnReleases) → ReleasesFit s on → Rise 0 s.releases s.counters.next_release → MayChange on s.releases
may_change s on_releases.Nothing fits rise = tt
may_change s (on_releases.File r) fits rise = record {
  bounds = fits.fits.kept;
  newest = subst (λ (n : ℕ). All (λ (q : Release). q.id < n) s.releases) (sym fits.numbered) (all_below (λ (q : Release). q.id) Rise none_left one_more 0 s.counters.next_release s.releases rise);
  few = fits.few;
}
may_change s (on_releases.Put r) fits rise = record { bounds = fits.fits.kept; taken = fits.taken }
may_change s (on_releases.Remove id) fits rise = tt

-- an effect that fits may be made
pub may_come : (s : State) (e : Effect) → EffectFits s e → AdmitsRead e → IfSome e.sweep (λ w. FloorsRise w.floors) → Holds s → MayBeMade s e
may_come s e fits read floors holds =
    let small = are_small s e fits holds.bounds in
    record {
      report = may_admit s e.report fits.report read small.report holds.bounds;
      deferral = may_defer s e.on_deferrals fits.deferrals small.deferral holds.bounds;
      change = may_change s e.on_releases fits.releases holds.judgeable.ids;
      release = small.release;
      floors = floors;
    }
