-- The changes of each kind of rows lead from the rows before an event to those after it.
use Rattle.std.proofs.Common.{◌≡◌, ℕ, ◌+◌, ◌<◌, not, eqb, lit≤, lit<, List, [], ◌∷◌, ◌++◌, append-nil, Option, None, Some, IfSome, refl, ap, sym, ◌∙◌, arith}
use Rattle.std.specs.Prelude.{map, filter, option_to_list}
use Rattle.std.specs.List.{AllByRecursion}
use Rattle.asks.specs.declared.kept.KeptReply.{KeptReply}
use Rattle.asks.specs.declared.reply.Reply.TheVariants.{Done, Seen, Refused}
use Rattle.alerts.specs.declared.alert.Alert.{Alert as AlertOf}
use Rattle.deferrals.specs.declared.items.Deferral.{Deferral as DeferralOf}
use Rattle.desk_io.specs.declared.rows.Row.{Row}
use Rattle.desk_io.specs.declared.rows.Change.TheVariants.{Remove}
use Rattle.facts.specs.Swept.{stays, swept, leaving}
use Rattle.facts.specs.declared.report.Report.{Report as ReportOf}
use Rattle.plan.specs.declared.release.Release.{Release as ReleaseOf}
use Rattle.desk_state.specs.declared.effect.Effect.{Effect}
use Rattle.desk_state.specs.declared.effect.Sweep.{Sweep}
use Rattle.desk_state.specs.declared.effect.OnDeferrals.{OnDeferrals}
use Rattle.desk_state.specs.declared.effect.OnDeferrals.TheVariants as on_deferrals
use Rattle.release_index.specs.declared.change.OnReleases.{OnReleases}
use Rattle.release_index.specs.declared.change.OnReleases.TheVariants as on_releases
use Rattle.desk_state.specs.declared.entry.What.{What}
use Rattle.desk_state.specs.declared.entry.What.TheVariants as what
use Rattle.desk_state.specs.Events.{effected, reports_after, reports_swept, is_since, kept_after, deferrals_after, releases_after, alert_changes}
use Rattle.desk_state.specs.Requests.{kept_before}
use Rattle.desk_state.specs.Sound.{Sound, InBounds, EffectFits, IsNext, IsNumbered, IsOpen, IsReplied, DeferralsFit, ReleasesFit}
use Rattle.desk_state.specs.State.{State, judged_all}
use Rattle.desk_state.specs.Step.{kept_of}
use Rattle.desk_state.proofs.Parts.{reports_rise, kept_each}
use Rattle.desk_state.proofs.Changes.{changes_lead}
use Rattle.records.specs.Bodies.{row_in, row_of}
use Rattle.records.specs.declared.record.Meta.{Meta as MetaOf}
use Rattle.records.specs.declared.record.Record.TheVariants.{Meta, Report, Deferral, Release, Kept, Alert}
use Rattle.row_changes.specs.Rows.{report_kept, alert_kept}
use Rattle.row_changes.specs.Changes.{report_changes, swept_reports, deferral_changes, release_changes, swept_replies, reply_changes, alert_rows, on_reports, on_replies, put_row}
use Rattle.row_changes.proofs.Parts.{Body, becomes, becomes_append, IsTo, Leads}
use Rattle.row_changes.proofs.Items.{twice, Ascends, ascends_from, found_at, pushed, without_found, removed, filtered, part}
use Rattle.row_changes.proofs.ReleaseRows as release_rows
use Rattle.row_changes.proofs.AlertRows as alert_rows_of
use Rattle.desk_io.proofs.Each.{each_append, each_weaker}

-- The rows of each kind.

abbrev pub meta_row : MetaOf → Row
meta_row m = row_of (Meta m)

abbrev pub report_row : ReportOf → Row
report_row r = row_of (Report (report_kept r))

abbrev pub deferral_row : DeferralOf → Row
deferral_row d = row_of (Deferral d)

abbrev pub release_row : ReleaseOf → Row
release_row r = row_of (Release r)

abbrev pub kept_row : KeptReply → Row
kept_row k = row_of (Kept k)

abbrev pub alert_row : AlertOf → Row
alert_row a = row_of (Alert (alert_kept a))

-- the row of the counters is put
pub meta_leads : (m fresh : MetaOf) → Leads 0 1 (meta_row m ∷ []) (meta_row fresh ∷ []) (put_row (Meta fresh) ∷ [])
unfolding row_in
meta_leads m fresh =
    part meta_row 0 (λ c. refl) (m ∷ []) (fresh ∷ []) (put_row (Meta fresh) ∷ []) ((lit≤ tt, lit< tt), tt)
    (λ q. twice (eqb 0 q) (Some (meta_row fresh).body) (Some (meta_row m).body) None)

-- Reports.

abbrev report_id : ReportOf → ℕ
report_id r = r.id

abbrev report_body : ReportOf → Body
report_body r = (report_row r).body

report_only : (o : Option ReportOf) → AllByRecursion (IsTo 1 2) (report_changes o)
unfolding row_in
report_only None = tt
report_only (Some r) = ((lit≤ tt, lit< tt), tt)

ids_only : (n : ℕ) {A : Type 0} (key : A → ℕ) (xs : List A) → AllByRecursion (IsTo n (n + 1)) (map (λ x. Remove n (key x)) xs)
ids_only n key [] = tt
ids_only n key (x ∷ xs) = ((omega arith, omega arith), ids_only n key xs)

swept_only : (o : Option Sweep) (rs : List ReportOf) → AllByRecursion (IsTo 1 2) (swept_reports o rs)
swept_only None rs = tt
swept_only (Some w) rs = ids_only 1 report_id (leaving w.before w.attached rs)

report_found : (s : State) (o : Option ReportOf) (q : ℕ) → IfSome o (IsNext s) → AllByRecursion (IsNumbered s.counters.next_report) s.reports
    → becomes 1 q (report_changes o) (found_at report_id report_body q s.reports) ≡ found_at report_id report_body q (reports_after o s.reports)
unfolding row_in
report_found s None q fits below = refl
report_found s (Some r) q fits below =
    let is = fits.is_new in
    pushed report_id report_body s.reports r (each_weaker (IsNumbered s.counters.next_report) (λ y. y.id < r.id) (λ y less. omega (arith, less, is)) s.reports below) q

sweep_found : (o : Option Sweep) (rs : List ReportOf) (q : ℕ) → Ascends report_id rs
    → becomes 1 q (swept_reports o rs) (found_at report_id report_body q rs) ≡ found_at report_id report_body q (reports_swept o rs)
unfolding swept leaving
sweep_found None rs q rising = refl
sweep_found (Some w) rs q rising =
    removed report_id report_body 1 q (filter (λ r. not (stays w.before w.attached rs r)) rs) (found_at report_id report_body q rs)
    ∙ filtered report_id report_body (stays w.before w.attached rs) rs rising q

pub reports_lead : (s : State) (effect : Effect) → EffectFits s effect → InBounds s
    → Leads 1 2 (map report_row s.reports) (map report_row (effected effect s).reports) (on_reports s effect)
unfolding row_in
reports_lead s effect fits bounds =
    part report_row 1 (λ r. refl) s.reports (effected effect s).reports (on_reports s effect)
    (each_append (IsTo 1 2) (report_changes effect.report) (swept_reports effect.sweep (reports_after effect.report s.reports)) (report_only effect.report)
    (swept_only effect.sweep (reports_after effect.report s.reports)))
    (λ q.
    becomes_append 1 q (report_changes effect.report) (swept_reports effect.sweep (reports_after effect.report s.reports)) (found_at report_id report_body q s.reports)
    ∙ ap (λ o. becomes 1 q (swept_reports effect.sweep (reports_after effect.report s.reports)) o) (report_found s effect.report q fits.report bounds.reports)
    ∙ sweep_found effect.sweep (reports_after effect.report s.reports) q
    (ascends_from report_id (reports_after effect.report s.reports) (reports_rise s effect.report fits.report bounds.reports bounds.admitted)))

-- Deferrals.

abbrev deferral_id : DeferralOf → ℕ
deferral_id d = d.id

abbrev deferral_body : DeferralOf → Body
deferral_body d = (deferral_row d).body

deferral_only : (on : OnDeferrals) → AllByRecursion (IsTo 2 3) (deferral_changes on)
unfolding row_in
deferral_only on_deferrals.Nothing = tt
deferral_only (on_deferrals.Open d) = ((lit≤ tt, lit< tt), tt)
deferral_only (on_deferrals.Clear id) = ((lit≤ tt, lit< tt), tt)

deferral_found : (s : State) (on : OnDeferrals) (q : ℕ) → DeferralsFit s on → AllByRecursion (IsOpen s.counters.next_deferral) s.deferrals
    → becomes 2 q (deferral_changes on) (found_at deferral_id deferral_body q s.deferrals) ≡ found_at deferral_id deferral_body q (deferrals_after on s.deferrals)
unfolding row_in
deferral_found s on_deferrals.Nothing q fits below = refl
deferral_found s (on_deferrals.Open d) q fits below =
    let is = fits.is_new in
    pushed deferral_id deferral_body s.deferrals d
    (each_weaker (IsOpen s.counters.next_deferral) (λ y. y.id < d.id) (λ y open_. let less = open_.0 in omega (arith, less, is)) s.deferrals below) q
deferral_found s (on_deferrals.Clear id) q fits below = without_found deferral_id deferral_body id s.deferrals q

pub deferrals_lead : (s : State) (effect : Effect) → EffectFits s effect → InBounds s
    → Leads 2 3 (map deferral_row s.deferrals) (map deferral_row (effected effect s).deferrals) (deferral_changes effect.on_deferrals)
unfolding row_in
deferrals_lead s effect fits bounds =
    part deferral_row 2 (λ d. refl) s.deferrals (effected effect s).deferrals (deferral_changes effect.on_deferrals) (deferral_only effect.on_deferrals)
    (λ q. deferral_found s effect.on_deferrals q fits.deferrals bounds.deferrals.each)

-- Releases.

abbrev release_body : ReleaseOf → Body
release_body r = (release_row r).body

release_only : (on : OnReleases) → AllByRecursion (IsTo 3 4) (release_changes on)
unfolding row_in
release_only on_releases.Nothing = tt
release_only (on_releases.File r) = ((lit≤ tt, lit< tt), tt)
release_only (on_releases.Put r) = ((lit≤ tt, lit< tt), tt)
release_only (on_releases.Remove id) = ((lit≤ tt, lit< tt), tt)

release_found : (s : State) (on : OnReleases) (q : ℕ) → ReleasesFit s on → Sound s
    → becomes 3 q (release_changes on) (found_at release_rows.id_of release_body q s.releases) ≡ found_at release_rows.id_of release_body q (releases_after on s.releases)
unfolding row_in
release_found s on_releases.Nothing q fits sound = refl
release_found s (on_releases.File r) q fits sound =
    let is = fits.numbered in
    pushed release_rows.id_of release_body s.releases r
    (each_weaker (λ y. y.id < s.counters.next_release) (λ y. y.id < r.id) (λ y less. omega (arith, less, is)) s.releases
    (release_rows.rise_below 0 s.counters.next_release s.releases sound.ids)) q
release_found s (on_releases.Put r) q fits sound = release_rows.put_found release_body r s.releases fits.taken q
release_found s (on_releases.Remove id) q fits sound =
    release_rows.without_found release_body id s.releases (release_rows.rise_ascends 0 s.counters.next_release s.releases sound.ids) q

pub releases_lead : (s : State) (effect : Effect) → EffectFits s effect → Sound s
    → Leads 3 4 (map release_row s.releases) (map release_row (effected effect s).releases) (release_changes effect.on_releases)
unfolding row_in
releases_lead s effect fits sound =
    part release_row 3 (λ r. refl) s.releases (effected effect s).releases (release_changes effect.on_releases) (release_only effect.on_releases)
    (λ q. release_found s effect.on_releases q fits.releases sound)

-- Kept replies.

abbrev kept_id : KeptReply → ℕ
kept_id k = k.id

abbrev kept_body : KeptReply → Body
kept_body k = (kept_row k).body

reply_only : (o : Option KeptReply) → AllByRecursion (IsTo 4 5) (reply_changes o)
unfolding row_in
reply_only None = tt
reply_only (Some k) = ((lit≤ tt, lit< tt), tt)

replies_only : (o : Option Sweep) (ks : List KeptReply) → AllByRecursion (IsTo 4 5) (swept_replies o ks)
replies_only None ks = tt
replies_only (Some w) ks = ids_only 4 kept_id (kept_before w.before ks)

replies_swept : (o : Option Sweep) (ks : List KeptReply) (q : ℕ) → Ascends kept_id ks
    → becomes 4 q (swept_replies o ks) (found_at kept_id kept_body q ks) ≡ found_at kept_id kept_body q (kept_after o ks)
replies_swept None ks q rising = refl
replies_swept (Some w) ks q rising =
    removed kept_id kept_body 4 q (filter (λ k. not (is_since w.before k)) ks) (found_at kept_id kept_body q ks)
    ∙ filtered kept_id kept_body (is_since w.before) ks rising q

-- what is kept of an event has the next id
reply_numbered : (t : State) (w : What) → IfSome (kept_of t w) (λ k. k.id ≡ t.counters.next_kept)
reply_numbered t (what.Tick to) = tt
reply_numbered t (what.Asked call (Done done)) = refl
reply_numbered t (what.Asked call (Seen text)) = tt
reply_numbered t (what.Asked call (Refused refusal)) = tt

reply_found : (o : Option KeptReply) (next : ℕ) (ks : List KeptReply) (q : ℕ) → IfSome o (λ k. k.id ≡ next) → AllByRecursion (IsReplied next) ks
    → becomes 4 q (reply_changes o) (found_at kept_id kept_body q ks) ≡ found_at kept_id kept_body q (ks ++ option_to_list o)
unfolding row_in
reply_found None next ks q is below = ap (λ xs. found_at kept_id kept_body q xs) (sym (append-nil ks))
reply_found (Some k) next ks q is below =
    pushed kept_id kept_body ks k (each_weaker (IsReplied next) (λ y. y.id < k.id) (λ y has. let less = has.0 in omega (arith, less, is)) ks below) q

pub replies_lead : (s : State) (effect : Effect) (w : What) → InBounds s
    → Leads 4 5 (map kept_row s.kept) (map kept_row (kept_after effect.sweep s.kept ++ option_to_list (kept_of (effected effect s) w))) (on_replies s effect (kept_of (effected effect s) w))
unfolding row_in
replies_lead s effect w bounds =
    part kept_row 4 (λ k. refl) s.kept (kept_after effect.sweep s.kept ++ option_to_list (kept_of (effected effect s) w)) (on_replies s effect (kept_of (effected effect s) w))
    (each_append (IsTo 4 5) (swept_replies effect.sweep s.kept) (reply_changes (kept_of (effected effect s) w)) (replies_only effect.sweep s.kept)
    (reply_only (kept_of (effected effect s) w)))
    (λ q.
    becomes_append 4 q (swept_replies effect.sweep s.kept) (reply_changes (kept_of (effected effect s) w)) (found_at kept_id kept_body q s.kept)
    ∙ ap (λ o. becomes 4 q (reply_changes (kept_of (effected effect s) w)) o) (replies_swept effect.sweep s.kept q (ascends_from kept_id s.kept bounds.accepted))
    ∙ reply_found (kept_of (effected effect s) w) s.counters.next_kept (kept_after effect.sweep s.kept) q (reply_numbered (effected effect s) w)
    (kept_each (IsReplied s.counters.next_kept) effect.sweep s.kept bounds.replies))

-- Alerts.

pub alerts_lead : (s : State) (effect : Effect) → EffectFits s effect → Sound s
    → Leads 5 6 (map alert_row s.alerts) (map alert_row (judged_all (effected effect s))) (alert_rows (alert_changes effect s))
unfolding row_in
alerts_lead s effect fits sound =
    part alert_row 5 (λ a. refl) s.alerts (judged_all (effected effect s)) (alert_rows (alert_changes effect s)) (alert_rows_of.rows_only (alert_changes effect s))
    (λ q.
    alert_rows_of.changes_found (alert_changes effect s) s.alerts q (alert_rows_of.changes_own effect s) (alert_rows_of.alerts_ascend s sound)
    ∙ ap (λ alerts. found_at alert_rows_of.release_of alert_rows_of.alert_body q alerts) (changes_lead effect s fits sound))
