-- No view has a number with a fraction, so its text is the one that is written.
use Rattle.std.proofs.Common.{◌≡◌, ℕ, List, Bool, true, false, Option, None, Some, Result, Ok, Err, IfOk, IfSome, refl, ap, ◌∙◌, eqb}
use Rattle.std.specs.List.{AllByRecursion}
use Rattle.std.specs.Option.{option_map}
use Rattle.serde_json.specs.Data.{Data, Members, object}
use Rattle.serde_json.specs.Written.{compact_text, has_float, members_have_float}
use Rattle.alerts.specs.declared.alert.Alert.{Alert}
use Rattle.asks.proofs.Compact.{plain_whole}
use Rattle.asks.proofs.Whole.{list_whole}
use Rattle.asks.specs.Canonical.{count, moment_data, option_data}
use Rattle.asks.specs.Forms.{IsFormed}
use Rattle.asks.specs.declared.reply.Refusal.{Refusal}
use Rattle.desk_state.proofs.Each.{found_each}
use Rattle.desk_state.specs.Chain.{◌>>-◌, some_or, unless}
use Rattle.desk_state.specs.Decide.{aircraft, no_airport}
use Rattle.desk_state.specs.State.{State, release_at}
use Rattle.deferrals.specs.Limits.{open_on}
use Rattle.facts.specs.Latest.{latest_metar, latest_taf}
use Rattle.facts.specs.declared.report.Read.{Read}
use Rattle.facts.specs.declared.report.Read.TheVariants as read
use Rattle.facts.specs.declared.report.Report.{Report}
use Rattle.plan.specs.declared.release.Phase.{Phase}
use Rattle.plan.specs.declared.release.Phase.TheVariants.{Drafted, Ready, Flying, Stopped, Completed, Cancelled}
use Rattle.plan.specs.declared.release.Release.{Release}
use Rattle.plan.specs.declared.release.Revision.{Revision}
use Rattle.release_json.proofs.PlainLaws.{release_plain}
use Rattle.release_json.specs.Findings.{finding_data}
use Rattle.release_json.specs.declared.version.Version.TheVariants.{Second}
use Rattle.views.specs.Objects.{alert_data, detail_members, flight_data, item_data, metres, metres_data, part_data, pending_data, pending_text_data, phase_data, prepared_data, read_members, record_data, release_data, report_data, signable_data, signed_data, tail_data}
use Rattle.views.specs.Shown.{DetailShown, FlightShown, ItemShown, PendingShown, ReleaseShown, deferred_shown, detail_shown, items_shown, releases_shown, weather_shown}
use Rattle.views.specs.Views.{Alerts, Board, Deferred, Detail, Shown, Shows, Weather, json_or_refusal, shown, shown_members}
use Rattle.views.specs.declared.view.View.{View}
use Rattle.views.specs.declared.view.View.TheVariants as view
use Rattle.weather_reports.specs.declared.forecast.Part.{Part}

option_whole : {A : Type 0} (written : A → Data) → ((x : A) → has_float (written x) ≡ false) → (o : Option A) → has_float (option_data written o) ≡ false
option_whole written each None = refl
option_whole written each (Some x) = each x

count_whole : (o : Option ℕ) → has_float (option_data count o) ≡ false
count_whole None = refl
count_whole (Some n) = refl

alert_whole : (a : Alert) → has_float (alert_data a) ≡ false
unfolding alert_data
alert_whole a = rw (list_whole finding_data (λ f. refl) a.ever, list_whole finding_data (λ f. refl) a.failing) refl

phase_whole : (phase : Phase) → has_float (phase_data phase) ≡ false
phase_whole Drafted = refl
phase_whole Ready = refl
phase_whole (Flying leg) = refl
phase_whole (Stopped next since again) = refl
phase_whole (Completed at) = refl
phase_whole (Cancelled at) = refl

flight_whole : (o : Option FlightShown) → has_float (flight_data o) ≡ false
unfolding flight_data
flight_whole None = refl
flight_whole (Some f) = refl

tail_whole : (o : Option FlightShown) → has_float (tail_data o) ≡ false
unfolding tail_data
tail_whole None = refl
tail_whole (Some f) = refl

pending_whole : (p : PendingShown) → has_float (pending_data p) ≡ false
pending_whole p = rw (option_whole signed_data (λ s. refl) p.signed) refl

release_whole : (r : ReleaseShown) → has_float (release_data r) ≡ false
unfolding release_data
release_whole r =
    rw (count_whole r.active, option_whole alert_data alert_whole r.alert, flight_whole r.flight, option_whole pending_data pending_whole r.pending, phase_whole r.phase, tail_whole r.flight) refl

metres_whole : (vis : Option ℕ) → has_float (metres_data vis) ≡ false
metres_whole vis = count_whole (option_map metres vis)

part_whole : (p : Part) → has_float (part_data p) ≡ false
unfolding part_data
part_whole p = rw (count_whole p.cond.ceiling, metres_whole p.cond.vis, count_whole p.cond.vis) refl

read_whole : (id : ℕ) (text : List ℕ) (r : Read) → members_have_float (read_members id text r) ≡ false
read_whole id text (read.Metar m) = rw (count_whole m.cond.ceiling, metres_whole m.cond.vis, count_whole m.cond.vis) refl
read_whole id text (read.Taf t) = rw (list_whole part_data part_whole t.parts) refl

report_whole : (r : Report) → has_float (report_data r) ≡ false
report_whole r = read_whole r.id r.text r.read

item_whole : (i : ItemShown) → has_float (item_data i) ≡ false
unfolding item_data
item_whole i = rw (option_whole moment_data (λ at. refl) i.due) refl

prepared_whole : (b : Bool) (v : Revision) → has_float (prepared_data b v) ≡ false
prepared_whole true v = refl
prepared_whole false v = refl

pending_text_whole : (o : Option Revision) → has_float (pending_text_data o) ≡ false
unfolding pending_text_data
pending_text_whole None = refl
pending_text_whole (Some v) = prepared_whole v.prepared v

detail_whole : (s : State) (r : Release) → IsFormed r → members_have_float (detail_members (detail_shown s r)) ≡ false
detail_whole s r is =
    let d : DetailShown = detail_shown s r in
    rw (option_whole signable_data (λ v. refl) r.active, option_whole alert_data alert_whole d.alert, pending_text_whole r.pending, plain_whole (record_data r) (release_plain Second r is)) refl

found_whole : (s : State) (o : Option Release) → IfSome o IsFormed → (e : Refusal)
    → IfOk (some_or e o >>- λ r. Ok (Detail (detail_shown s r))) (λ x. members_have_float (shown_members x) ≡ false)
found_whole s None is e = tt
found_whole s (Some r) is e = detail_whole s r is

past_whole : (o : Option Refusal) (x : Shown) → members_have_float (shown_members x) ≡ false → IfOk (unless o (Ok x)) (λ y. members_have_float (shown_members y) ≡ false)
past_whole None x is = is
past_whole (Some refusal) x is = tt

over_whole : {A : Type 0} (m : Result A Refusal) (f : A → Shown) → ((a : A) → members_have_float (shown_members (f a)) ≡ false)
    → IfOk (m >>- λ a. Ok (f a)) (λ y. members_have_float (shown_members y) ≡ false)
over_whole (Err refusal) f each = tt
over_whole (Ok a) f each = each a

pub shown_whole : (s : State) (v : View) → AllByRecursion IsFormed s.releases → IfOk (shown s v) (λ x. members_have_float (shown_members x) ≡ false)
shown_whole s view.Board formed = rw (list_whole release_data release_whole (releases_shown s.alerts s.releases)) refl
shown_whole s view.Alerts formed = rw (list_whole alert_data alert_whole s.alerts) refl
shown_whole s (view.Release id) formed = found_whole s (release_at id s.releases) (found_each IsFormed (λ r. eqb r.id id) s.releases formed) _
shown_whole s (view.Weather station) formed =
    past_whole (no_airport s station) (Weather (weather_shown s station))
    (rw (option_whole report_data report_whole (latest_metar s.reports station), option_whole report_data report_whole (latest_taf s.reports station)) refl)
shown_whole s (view.Deferred tail) formed =
    over_whole (aircraft s tail) (λ kind. Deferred (deferred_shown s tail kind.kind)) (λ kind. rw (list_whole item_data item_whole (items_shown s.tables kind.kind (open_on tail s.deferrals))) refl)

-- what is written is what is shown
pub json_is : {A : Type 0} (seen : A → Members) (m : Result Shown Refusal) (made : A) (text : List ℕ) → IfOk m (λ x. members_have_float (shown_members x) ≡ false)
    → Shows seen m (Ok made) → (has_float (object (seen made)) ≡ false → text ≡ compact_text (object (seen made))) → Ok text ≡ json_or_refusal m
json_is seen (Ok x) made text whole is wrote = ap (λ t. Ok t) (wrote (ap members_have_float is ∙ whole) ∙ ap (λ ms. compact_text (object ms)) is)
json_is seen (Err why) made text whole is wrote = absurd is
