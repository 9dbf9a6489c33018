-- Every step of the desk keeps the forms of what it holds.
use Rattle.std.proofs.Common.{◌≡◌, ℕ, true, not, List, ◌++◌, append-nil, option_to_list, Option, None, Some, IfSome, Ok}
use Rattle.std.specs.List.{AllByRecursion}
use Rattle.asks.specs.declared.call.Call.{Call}
use Rattle.asks.specs.declared.kept.Floor.{Floor}
use Rattle.asks.specs.declared.kept.KeptReply.{KeptReply}
use Rattle.asks.specs.declared.reply.Done.{Done as DoneType}
use Rattle.asks.specs.declared.reply.Reply.TheVariants.{Done}
use Rattle.deferrals.specs.Held.{has_id}
use Rattle.deferrals.specs.declared.items.Deferral.{Deferral}
use Rattle.facts.specs.declared.report.Report.{Report}
use Rattle.ops_tables.specs.Named.{AreNamed}
use Rattle.desk_state.specs.Formed.{ReportHasForms, DeferralHasForms, AlertHasForms, ReplyHasForms, AreFormed}
use Rattle.desk_state.proofs.AlertForms.{all_judged, ids_low}
use Rattle.desk_state.proofs.DigestForms.{ask_digest_formed}
use Rattle.desk_state.proofs.EffectForms.{OpensFormed, PutsFormed, HasFloors, BringsForms, Stands, effect_formed}
use Rattle.desk_state.specs.Allowed.{DecisionOf}
use Rattle.desk_state.specs.Effects.{tick}
use Rattle.desk_state.specs.Events.{effected, reports_after, deferrals_after, releases_after, floors_after}
use Rattle.desk_state.specs.Sound.{InBounds}
use Rattle.desk_state.specs.State.{State, start}
use Rattle.desk_state.specs.Step.{entry, entered, kept_of, accepted, ticked, without_key}
use Rattle.desk_state.specs.declared.effect.Decision.TheVariants.{Do}
use Rattle.desk_state.specs.declared.effect.Effect.{Effect}
use Rattle.desk_state.specs.declared.effect.OnDeferrals.{OnDeferrals}
use Rattle.desk_state.specs.declared.effect.OnDeferrals.TheVariants as on_deferrals
use Rattle.release_index.specs.declared.change.OnReleases.{OnReleases}
use Rattle.release_index.specs.declared.change.OnReleases.TheVariants as on_releases
use Rattle.desk_state.specs.declared.effect.Sweep.{Sweep}
use Rattle.desk_state.specs.declared.entry.Entry.{Entry}
use Rattle.desk_state.specs.declared.entry.What.TheVariants as what
use Rattle.desk_state.proofs.Each.{put_each, without_each}
use Rattle.desk_state.proofs.Judging.{alerts_have}
use Rattle.desk_state.proofs.Parts.{filter_each, kept_each, swept_each}
use Rattle.ops_tables.specs.Forms.{is_person}
use Rattle.ops_tables.specs.Tables.{TableRows}
use Rattle.plan.specs.declared.release.Release.{Release}
use Rattle.asks.specs.Forms.{CallHasForms, IsFloor, FloorsRise, IsFormed}
use Rattle.desk_io.proofs.Each.{each_push}

-- nothing is held at the beginning
pub start_formed : (tables : TableRows) → AreNamed tables → AreFormed (start tables)
start_formed tables names = record { names = names; reports = tt; deferrals = tt; releases = tt; alerts = tt; kept = tt; floors = tt; rising = tt }

-- ---- the effect, part by part

reports_more : (o : Option Report) (rs : List Report) → IfSome o ReportHasForms → AllByRecursion ReportHasForms rs → AllByRecursion ReportHasForms (reports_after o rs)
reports_more None rs brings all = all
reports_more (Some r) rs brings all = each_push ReportHasForms rs r all brings

deferrals_more : (on : OnDeferrals) (ds : List Deferral) → OpensFormed on → AllByRecursion DeferralHasForms ds → AllByRecursion DeferralHasForms (deferrals_after on ds)
deferrals_more on_deferrals.Nothing ds brings all = all
deferrals_more (on_deferrals.Open d) ds brings all = each_push DeferralHasForms ds d all brings
deferrals_more (on_deferrals.Clear id) ds brings all = filter_each DeferralHasForms (λ d. not (has_id id d)) ds all

releases_more : (on : OnReleases) (rs : List Release) → PutsFormed on → AllByRecursion IsFormed rs → AllByRecursion IsFormed (releases_after on rs)
releases_more on_releases.Nothing rs brings all = all
releases_more (on_releases.File r) rs brings all = each_push IsFormed rs r all brings
releases_more (on_releases.Put r) rs brings all = put_each IsFormed r rs all brings
releases_more (on_releases.Remove id) rs brings all = without_each IsFormed id rs all

floors_more : (o : Option Sweep) (fs : List Floor) → IfSome o HasFloors → AllByRecursion IsFloor fs × FloorsRise fs → AllByRecursion IsFloor (floors_after o fs) × FloorsRise (floors_after o fs)
floors_more None fs brings all = all
floors_more (Some w) fs brings all = brings

-- an effect that brings what has its forms keeps those of the state
effected_formed : (s : State) (e : Effect) → BringsForms e → AreFormed s → AreFormed (effected e s)
effected_formed s e brings formed =
    let floors = floors_more e.sweep s.floors brings.floors (formed.floors, formed.rising) in
    record {
      names = formed.names;
      reports = swept_each ReportHasForms e.sweep (reports_after e.report s.reports) (reports_more e.report s.reports brings.admitted formed.reports);
      deferrals = deferrals_more e.on_deferrals s.deferrals brings.opened formed.deferrals;
      releases = releases_more e.on_releases s.releases brings.filed formed.releases;
      alerts = alerts_have AlertHasForms (λ a is. record { failing = is.failing; ever = is.ever }) e.on_alerts s.alerts formed.alerts;
      kept = kept_each ReplyHasForms e.sweep s.kept formed.kept;
      floors = floors.0;
      rising = floors.1;
    }

-- ---- the judgement and the entry

replies_more : (o : Option KeptReply) (ks : List KeptReply) → IfSome o ReplyHasForms → AllByRecursion ReplyHasForms ks → AllByRecursion ReplyHasForms (ks ++ option_to_list o)
replies_more None ks here all = rw (append-nil ks) all
replies_more (Some k) ks here all = each_push ReplyHasForms ks k all here

entered_formed : (t : State) (e : Entry) → InBounds (entered e t) → IfSome (kept_of t e.what) ReplyHasForms → AreFormed t → AreFormed (entered e t)
entered_formed t e bounds reply formed = record {
  names = formed.names;
  reports = formed.reports;
  deferrals = formed.deferrals;
  releases = formed.releases;
  alerts = all_judged t t.releases (ids_low (entered e t) bounds) bounds.releases formed.alerts;
  kept = replies_more (kept_of t e.what) t.kept reply formed.kept;
  floors = formed.floors;
  rising = formed.rising;
}

-- a tick brings nothing
pub tick_formed : (s : State) (lane to : ℕ) → InBounds (ticked s lane to).state → AreFormed s → AreFormed (ticked s lane to).state
tick_formed s lane to bounds formed =
    entered_formed (effected (tick to) s) (entry lane (what.Tick to)) bounds tt (effected_formed s (tick to) (record { admitted = tt; opened = tt; filed = tt; floors = tt }) formed)

-- ---- calls

-- what an accepted command of a person brings has its forms, and so has what is kept of it
pub command_formed : (s : State) (lane : ℕ) (call : Call) (made : DoneType) (e : Effect) → DecisionOf s call (Ok (Do made e)) → Stands s → is_person call.actor ≡ true → CallHasForms call
    → InBounds (accepted s lane call made e).state → AreFormed (accepted s lane call made e).state
command_formed s lane call made e decided stands person has bounds =
    let formed = effect_formed s call.actor stands person decided.1 has.ask in
    entered_formed (effected e s) (entry lane (what.Asked (without_key call) (Done made))) bounds
    (record { actor = person; number = has.number; digest = ask_digest_formed call.ask; done = formed.1 }) (effected_formed s e formed.0 stands.formed)
