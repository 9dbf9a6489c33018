-- The effect of each accepted event.
use Rattle.std.specs.Prelude.{ℕ, List, None, Some}
use Rattle.asks.specs.declared.kept.Floor.{Floor}
use Rattle.deferrals.specs.declared.items.Deferral.{Deferral}
use Rattle.facts.specs.declared.report.Report.{Report}
use Rattle.plan.specs.declared.release.Release.{Release}
use Rattle.desk_state.specs.declared.effect.Effect.{Effect}
use Rattle.desk_state.specs.declared.effect.OnDeferrals.TheVariants as deferrals
use Rattle.release_index.specs.declared.change.OnReleases.TheVariants as releases
use Rattle.desk_state.specs.declared.effect.OnAlerts.TheVariants as alerts

abbrev pub nothing : Effect
nothing = record { moment = None; report = None; sweep = None; on_deferrals = deferrals.Nothing; on_releases = releases.Nothing; on_alerts = alerts.Nothing }

-- moves the desk's moment forward
abbrev pub tick : ℕ → Effect
tick to = record nothing { moment = Some to }

-- admits a report
abbrev pub admit : Report → Effect
admit report = record nothing { report = Some report }

-- opens a deferral
abbrev pub defer : Deferral → Effect
defer d = record nothing { on_deferrals = deferrals.Open d }

-- removes a deferral
abbrev pub clear : ℕ → Effect
clear id = record nothing { on_deferrals = deferrals.Clear id }

-- adds a release
abbrev pub file : Release → Effect
file r = record nothing { on_releases = releases.File r }

-- replaces the release with the same id
abbrev pub put : Release → Effect
put r = record nothing { on_releases = releases.Put r }

-- replaces the release with the same id, and removes its alert
abbrev pub put_afresh : Release → Effect
put_afresh r = record nothing { on_releases = releases.Put r; on_alerts = alerts.Take r.id }

-- acknowledges the alert of a release
abbrev pub acknowledge : ℕ → Effect
acknowledge release = record nothing { on_alerts = alerts.Acknowledge release }

-- removes the release with this id
abbrev pub remove : ℕ → Effect
remove release = record nothing { on_releases = releases.Remove release }

-- removes earlier reports, except those that must stay, and earlier kept replies, and raises the floors of persons
abbrev pub sweep : ℕ → List ℕ → List Floor → Effect
sweep before attached floors = record nothing { sweep = Some (record { before = before; attached = attached; floors = floors }) }
