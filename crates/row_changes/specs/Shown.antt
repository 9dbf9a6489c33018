-- Events whose changes can be written as rows: moments from 2000 to 2099, and ids that can be incremented.
use Rattle.std.specs.Prelude.{List, Option, IfSome, All}
use Rattle.alerts.specs.declared.alert.Alert.{Alert}
use Rattle.asks.specs.declared.kept.KeptReply.{KeptReply}
use Rattle.facts.specs.declared.report.Report.{Report}
use Rattle.desk_time.specs.Limits.{IsMoment}
use Rattle.release_json.specs.Rows.{ReleaseHasMoments}
use Rattle.desk_state.specs.declared.change.AlertChange.{AlertChange}
use Rattle.desk_state.specs.declared.counters.Counters.{Counters}
use Rattle.desk_state.specs.declared.effect.Effect.{Effect}
use Rattle.desk_state.specs.declared.effect.OnDeferrals.{OnDeferrals}
use Rattle.desk_state.specs.declared.effect.OnDeferrals.TheVariants as on_deferrals
use Rattle.release_index.specs.declared.change.OnReleases.{OnReleases}
use Rattle.release_index.specs.declared.change.OnReleases.TheVariants as on_releases
use Rattle.desk_state.specs.Events.{moment_after}
pub use Rattle.desk_state.specs.Install.{IsSmall, IsSmallRelease}
use Rattle.desk_state.specs.Sound.{AreApart}
use Rattle.desk_state.specs.State.{State}

abbrev pub WasReceived : Option Report → Type 0
WasReceived report = IfSome report (λ r. IsMoment r.received)

abbrev pub IsSmallReport : Option Report → Type 0
IsSmallReport report = IfSome report (λ r. IsSmall r.id)

abbrev pub WasFound : OnDeferrals → Type 0
WasFound on_deferrals.Nothing = Unit {0}
WasFound (on_deferrals.Open d) = IsMoment d.found
WasFound (on_deferrals.Clear id) = Unit {0}

abbrev pub IsSmallDeferral : OnDeferrals → Type 0
IsSmallDeferral on_deferrals.Nothing = Unit {0}
IsSmallDeferral (on_deferrals.Open d) = IsSmall d.id
IsSmallDeferral (on_deferrals.Clear id) = Unit {0}

abbrev pub IsShownRelease : OnReleases → Type 0
IsShownRelease on_releases.Nothing = Unit {0}
IsShownRelease (on_releases.File r) = ReleaseHasMoments r
IsShownRelease (on_releases.Put r) = ReleaseHasMoments r
IsShownRelease (on_releases.Remove id) = Unit {0}

abbrev pub WasAccepted : Option KeptReply → Type 0
WasAccepted kept = IfSome kept (λ k. IsMoment k.at)

abbrev pub WasOpened : Option Alert → Type 0
WasOpened alert = IfSome alert (λ a. IsMoment a.opened)

-- counters and ids that can be incremented
pub record AreSmall (c : Counters) (effect : Effect) : Type 0 where
  pub events : IsSmall c.events
  pub accepted : IsSmall c.next_kept
  pub report : IsSmallReport effect.report
  pub deferral : IsSmallDeferral effect.on_deferrals
  pub release : IsSmallRelease effect.on_releases

-- the changes of an event can be written as rows
pub record AreShown (s : State) (effect : Effect) (kept : Option KeptReply) (alerts : List AlertChange) : Type 0 where
  pub moment : IsMoment (moment_after effect.moment s.moment)
  pub small : AreSmall s.counters effect
  pub received : WasReceived effect.report
  pub apart : AreApart effect.report effect.sweep
  pub found : WasFound effect.on_deferrals
  pub release : IsShownRelease effect.on_releases
  pub accepted : WasAccepted kept
  pub opened : All (λ c. WasOpened c.after) alerts
