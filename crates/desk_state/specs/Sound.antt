-- What holds of the desk at every moment.
use Rattle.std.specs.Prelude.{◌≡◌, ℕ, ◌+◌, ◌<◌, ◌≤◌, ◌==◌, true, false, List, [], ◌∷◌, length, Option, None, Some, IfSome, Result, Ok, Err}
use Rattle.std.specs.List.{AllByRecursion, AllPairs, filter_map, list_any}
use Rattle.facts.specs.Same.{is_same, same_id, minute_of_report}
use Rattle.plan.specs.declared.findings.Finding.{Finding}
use Rattle.desk_time.specs.Limits.{IsMoment}
use Rattle.plan.specs.declared.release.Release.{Release}
use Rattle.facts.specs.declared.report.Report.{Report}
use Rattle.alerts.specs.declared.alert.Alert.{Alert}
use Rattle.alerts.specs.Alerts.{IsAlert}
use Rattle.asks.specs.Ranges.{IsCall, RefusalHasMoment, ReplyHasMoment}
use Rattle.asks.specs.declared.kept.KeptReply.{KeptReply}
use Rattle.desk_state.specs.declared.entry.What.{What}
use Rattle.desk_state.specs.declared.entry.What.TheVariants as what
use Rattle.asks.specs.declared.reply.Refusal.{Refusal}
use Rattle.deferrals.specs.declared.items.Deferral.{Deferral}
use Rattle.deferrals.specs.Held.{AreRising}
use Rattle.release_index.specs.Below.{Grounds}
use Rattle.desk_state.specs.declared.counters.Counters.{Counters}
use Rattle.desk_state.specs.declared.effect.Effect.{Effect}
use Rattle.desk_state.specs.declared.effect.Sweep.{Sweep}
use Rattle.desk_state.specs.declared.effect.OnDeferrals.{OnDeferrals}
use Rattle.desk_state.specs.declared.effect.OnDeferrals.TheVariants as on_deferrals
use Rattle.release_index.specs.declared.change.OnReleases.{OnReleases}
use Rattle.release_index.specs.declared.change.OnReleases.TheVariants as on_releases
use Rattle.desk_state.specs.declared.effect.Decision.{Decision}
use Rattle.desk_state.specs.declared.effect.Decision.TheVariants.{Show, Do}
use Rattle.release_text.specs.Valid.{IsValid}
pub use Rattle.release_index.specs.Bounds.{RevisionInBounds, ReleaseInBounds}
use Rattle.desk_state.specs.Formed.{AreFormed}
use Rattle.desk_state.specs.State.{State, grounds_of, failing_of, alert_at}
use Rattle.desk_state.specs.Legal.{IsHistory}
use Rattle.desk_state.specs.AlertHistory.{StayOpen}
use Rattle.desk_state.specs.PlanHistory.{AreReplacedInTurn}
use Rattle.desk_state.specs.Once.{AreOnce}
use Rattle.desk_state.specs.Requests.{is_request}
use Rattle.desk_state.specs.Signatures.{AreKnownByText, AreOwnSignatures}

-- The alert matches the failing rules. Without an alert, the release is inactive or fails no rule. An alert names
-- exactly the rules that fail.
abbrev pub Matches : Option Alert → Option (List Finding) → Type 0
Matches None None = Unit {0}
Matches None (Some findings) = findings ≡ []
Matches (Some a) None = ⊥
Matches (Some a) (Some findings) = a.failing ≡ findings

-- an alert goes to the dispatcher who holds the release
abbrev pub IsToldTo : List ℕ → Option Alert → Type 0
IsToldTo holder alert = IfSome alert (λ a. a.desk ≡ holder)

-- the alert of a release matches the failing rules, and goes to its holder
abbrev pub IsAlerted : Grounds → List Alert → Release → Type 0
IsAlerted g alerts r = Matches (alert_at r.id alerts) (failing_of g r) × IsToldTo r.holder (alert_at r.id alerts)

-- ids strictly increase, from low to below next
abbrev pub Rise : ℕ → List Release → ℕ → Type 0
Rise low [] next = low ≤ next
Rise low (r ∷ rs) next = (low ≤ r.id) × Rise (r.id + 1) rs next

-- no revision has a number above most
abbrev pub IsWithin : ℕ → Release → Type 0
IsWithin most r = IfSome r.pending (λ v. v.number ≤ most) × IfSome r.active (λ v. v.number ≤ most)

-- a release is valid, and no revision has a number above most
pub record MayStand (most : ℕ) (r : Release) : Type 0 where
  pub valid : IsValid r
  pub within : IsWithin most r

-- no two reports have the same canonical text and the same moment
abbrev pub AreUnlike : List Report → Type 0
AreUnlike reports = AllPairs (λ earlier later. is_same later.text (minute_of_report later) earlier ≡ false) reports

-- no two kept replies have the same person and number
abbrev pub AreSingle : List KeptReply → Type 0
AreSingle kept = AllPairs (λ earlier later. is_request later.actor later.number earlier ≡ false) kept

-- Each active release has no alert and fails no rule, or has one alert that names exactly the rules that it fails. An
-- inactive release has no alert, and alerts go to the holder. Each alert belongs to a stored release, and no release
-- has two. Each release is valid; in particular, each active revision has both signatures on its exact text. No two
-- reports are the same, and no two replies answer the same request. Release ids increase, and ids, revision numbers
-- and versions are within the counters.
pub record Sound (s : State) : Type 0 where
  pub alerted : AllByRecursion (IsAlerted (grounds_of s) s.alerts) s.releases
  pub own : s.alerts ≡ filter_map (λ r. alert_at r.id s.alerts) s.releases
  pub alerts : AllByRecursion (IsAlert s.counters.events) s.alerts
  pub valid : AllByRecursion (MayStand s.counters.events) s.releases
  pub unlike : AreUnlike s.reports
  pub single : AreSingle s.kept
  pub ids : Rise 0 s.releases s.counters.next_release

-- What a judgement of all releases relies on. Each alert belongs to a stored release, in order of the releases, and
-- ids increase. It holds even before the judgement, when a desk opens.
pub record AreJudgeable (s : State) : Type 0 where
  pub own : s.alerts ≡ filter_map (λ r. alert_at r.id s.alerts) s.releases
  pub alerts : AllByRecursion (IsAlert s.counters.events) s.alerts
  pub ids : Rise 0 s.releases s.counters.next_release

-- a release may be stored
pub record Fits (most : ℕ) (r : Release) : Type 0 where
  pub stands : MayStand most r
  pub kept : ReleaseInBounds r

-- a report has an id below next
abbrev pub IsNumbered : ℕ → Report → Type 0
IsNumbered next r = r.id < next

-- an open deferral has an id below next, and its moment is from 2000 to 2099
abbrev pub IsOpen : ℕ → Deferral → Type 0
IsOpen next d = (d.id < next) × IsMoment d.found

-- The ids of open deferrals increase, all below the next one, and there are at most 50,000.
pub record AreOpen (next : ℕ) (list : List Deferral) : Type 0 where
  pub each : AllByRecursion (IsOpen next) list
  pub rising : AreRising list
  pub few : length list ≤ 50_000

-- a kept reply has an id below next, and its moment is from 2000 to 2099
abbrev pub IsReplied : ℕ → KeptReply → Type 0
IsReplied next k = (k.id < next) × IsMoment k.at

-- each next id is at most one more than the number of events
pub record AreCounters (c : Counters) : Type 0 where
  pub events : c.events ≤ 999_999_999_999_999
  pub report : c.next_report ≤ c.events + 1
  pub deferral : c.next_deferral ≤ c.events + 1
  pub release : c.next_release ≤ c.events + 1
  pub accepted : c.next_kept ≤ c.events + 1

-- the moment of a tick is from 2000 to 2099, and a call and its reply have their forms
abbrev pub IsEntered : What → Type 0
IsEntered (what.Tick to) = IsMoment to
IsEntered (what.Asked call reply) = IsCall call.ask × ReplyHasMoment reply

-- the bounds of the state: counters, ids and the length of each list
pub record InBounds (s : State) : Type 0 where
  pub moment : IsMoment s.moment
  pub counters : AreCounters s.counters
  pub reports : AllByRecursion (IsNumbered s.counters.next_report) s.reports
  pub admitted : AllPairs (λ a b. a.id < b.id) s.reports
  pub few : length s.reports ≤ 200_000
  pub deferrals : AreOpen s.counters.next_deferral s.deferrals
  pub releases : AllByRecursion ReleaseInBounds s.releases
  pub held : length s.releases ≤ 20_000
  pub replies : AllByRecursion (IsReplied s.counters.next_kept) s.kept
  pub accepted : AllPairs (λ a b. a.id < b.id) s.kept
  pub many : length s.kept ≤ 800_000 + length s.entries
  pub entries : length s.entries ≤ 400_000
  pub forms : AllByRecursion (λ e. IsEntered e.what) s.entries

-- a release may be filed: it has the next id, and fewer than 20,000 are stored
pub record IsNew (most id held : ℕ) (r : Release) : Type 0 where
  pub fits : Fits most r
  pub numbered : r.id ≡ id
  pub few : held < 20_000

-- a stored release has this id
abbrev pub IsTaken : ℕ → List Release → Type 0
IsTaken id releases = list_any (λ q. q.id == id) releases ≡ true

-- a release may replace the stored one with its id, whose alert, if any, goes to the new one's holder
pub record MayReplace (s : State) (r : Release) : Type 0 where
  pub fits : Fits (s.counters.events + 1) r
  pub holder : IsToldTo r.holder (alert_at r.id s.alerts)
  pub taken : IsTaken r.id s.releases

-- a deferral may be opened: it has the next id, and fewer than 50,000 are open
pub record MayOpen (s : State) (d : Deferral) : Type 0 where
  pub is_new : d.id ≡ s.counters.next_deferral
  pub found : IsMoment d.found
  pub few : length s.deferrals < 50_000

-- a report may be admitted: it has the next id, no stored report is the same, and fewer than 200,000 are stored
pub record IsNext (s : State) (report : Report) : Type 0 where
  pub is_new : report.id ≡ s.counters.next_report
  pub received : IsMoment report.received
  pub unlike : same_id s.reports report.text (minute_of_report report) ≡ None
  pub few : length s.reports < 200_000

-- changes of deferrals and of releases that keep the desk sound

abbrev pub DeferralsFit : State → OnDeferrals → Type 0
DeferralsFit s on_deferrals.Nothing = Unit {0}
DeferralsFit s (on_deferrals.Open d) = MayOpen s d
DeferralsFit s (on_deferrals.Clear id) = Unit {0}

abbrev pub ReleasesFit : State → OnReleases → Type 0
ReleasesFit s on_releases.Nothing = Unit {0}
ReleasesFit s (on_releases.File r) = IsNew (s.counters.events + 1) s.counters.next_release (length s.releases) r
ReleasesFit s (on_releases.Put r) = MayReplace s r
ReleasesFit s (on_releases.Remove id) = alert_at id s.alerts ≡ None

-- an event doesn't both admit a report and sweep
abbrev pub AreApart : Option Report → Option Sweep → Type 0
AreApart None sweep = Unit {0}
AreApart (Some r) None = Unit {0}
AreApart (Some r) (Some w) = ⊥

-- a moment from 2000 to 2099 that isn't before another
abbrev pub IsLater : ℕ → ℕ → Type 0
IsLater moment to = IsMoment to × (moment ≤ to)

-- an effect that keeps the desk sound
pub record EffectFits (s : State) (e : Effect) : Type 0 where
  pub moment : IfSome e.moment (IsLater s.moment)
  pub report : IfSome e.report (IsNext s)
  pub apart : AreApart e.report e.sweep
  pub deferrals : DeferralsFit s e.on_deferrals
  pub releases : ReleasesFit s e.on_releases

abbrev pub DecisionFits : State → Result Decision Refusal → Type 0
DecisionFits s (Err refusal) = RefusalHasMoment refusal
DecisionFits s (Ok (Show reply)) = ReplyHasMoment reply
DecisionFits s (Ok (Do made effect)) = EffectFits s effect

-- What holds of a board at every moment. A history of legal steps leads to its state from the opening one, and each
-- person's accepted calls appear in it once. Along it each alert stays open until something settles it, and active plans
-- change only at concurrences. The state is sound and within its bounds. Each part has its forms, so that its rows can
-- be read again. The text of each revision determines its plan. Its signatures are those of the holder and of the plan's
-- captain.
pub record IsBoard (opening s : State) : Type 0 where
  pub tables : s.tables ≡ opening.tables
  pub history : IsHistory opening s
  pub once : AreOnce opening s
  pub lasting : StayOpen opening s.entries
  pub plans : AreReplacedInTurn opening s.entries
  pub sound : Sound s
  pub kept : InBounds s
  pub formed : AreFormed s
  pub texts : AllByRecursion AreKnownByText s.releases
  pub signed : AllByRecursion (AreOwnSignatures opening) s.releases
