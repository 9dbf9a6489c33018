-- The records of a state stand for it.
use Rattle.std.proofs.Common.{◌≡◌, ℕ, List, [], ◌∷◌, ◌++◌, append-nil, map, Option, None, Some, IfSome, Result, Ok, Err, refl, sym, ap, ◌∙◌, subst}
use Rattle.std.specs.List.{AllByRecursion, filter_map, cons_option}
use Rattle.std.proofs.lemmas.List.Elements.{filter_map-append}
use Rattle.ops_tables.specs.Tables.{TableRows}
use Rattle.codes.specs.declared.fault.BadReport.{BadReport}
use Rattle.asks.specs.declared.kept.KeptReply.{KeptReply}
use Rattle.alerts.specs.declared.alert.Alert.{Alert as AlertOf}
use Rattle.deferrals.specs.declared.items.Deferral.{Deferral as DeferralOf}
use Rattle.facts.specs.Reading.{IsRead, read_of}
use Rattle.facts.specs.declared.report.Read.{Read}
use Rattle.facts.specs.declared.report.Report.{Report as ReportOf}
use Rattle.plan.specs.declared.release.Release.{Release as ReleaseOf}
use Rattle.desk_state.specs.Sound.{IsToldTo, Rise}
use Rattle.desk_state.specs.State.{State, alert_at, release_at}
use Rattle.desk_state.proofs.Judging.{IsOf, found_of}
use Rattle.records.specs.declared.record.KeptAlert.{KeptAlert}
use Rattle.records.specs.declared.record.KeptReport.{KeptReport}
use Rattle.records.specs.declared.record.Meta.{Meta as MetaOf}
use Rattle.records.specs.declared.record.Record.{Record}
use Rattle.records.specs.declared.record.Record.TheVariants.{Meta, Report, Deferral, Release, Kept, Alert}
use Rattle.row_changes.specs.Held.{alert_in, alert_of, alert_with, deferral_in, release_in, reply_in, report_if, report_in, report_of, state_in}
use Rattle.row_changes.specs.Rows.{alert_kept, report_kept}
use Rattle.row_changes.proofs.Lists.{both, each_mapped}
use Rattle.row_changes.proofs.AlertLaws.{found_self, rise_pairs}

-- ---- the kinds of a list that was made of them

all_of : {A B : Type 0} (f : A → Option B) (g : B → A) → ((y : B) → f (g y) ≡ Some y) → (ys : List B) → filter_map f (map g ys) ≡ ys
all_of f g is [] = refl
all_of f g is (y ∷ ys) = ap (λ o. cons_option o (filter_map f (map g ys))) (is y) ∙ ap (λ rest. y ∷ rest) (all_of f g is ys)

none_of : {A B C : Type 0} (f : A → Option C) (g : B → A) → ((y : B) → f (g y) ≡ None) → (ys : List B) → filter_map f (map g ys) ≡ []
none_of f g is [] = refl
none_of f g is (y ∷ ys) = ap (λ o. cons_option o (filter_map f (map g ys))) (is y) ∙ none_of f g is ys

-- what a function gives of six lists, one after another
parts_of : {B : Type 0} (f : Record → Option B) (one two three four five six : List Record)
    → filter_map f (one ++ two ++ three ++ four ++ five ++ six) ≡ filter_map f one ++ filter_map f two ++ filter_map f three ++ filter_map f four ++ filter_map f five ++ filter_map f six
parts_of f one two three four five six =
    filter_map-append f (one ++ two ++ three ++ four ++ five) six
    ∙ ap (λ xs. xs ++ filter_map f six) (filter_map-append f (one ++ two ++ three ++ four) five
    ∙ ap (λ xs. xs ++ filter_map f five) (filter_map-append f (one ++ two ++ three) four
    ∙ ap (λ xs. xs ++ filter_map f four) (filter_map-append f (one ++ two) three
    ∙ ap (λ xs. xs ++ filter_map f three) (filter_map-append f one two))))

module _ (m : MetaOf) (reports : List KeptReport) (deferrals : List DeferralOf) (releases : List ReleaseOf) (replies : List KeptReply) (alerts : List KeptAlert) where
  -- records by their kinds, in their order
  abbrev pub listed : List Record
  listed = Meta m ∷ map Report reports ++ map Deferral deferrals ++ map Release releases ++ map Kept replies ++ map Alert alerts

  reports_of : filter_map report_in listed ≡ reports
  reports_of =
      parts_of report_in (Meta m ∷ []) (map Report reports) (map Deferral deferrals) (map Release releases) (map Kept replies) (map Alert alerts)
      ∙ rw (all_of report_in Report (λ y. refl) reports, none_of report_in Deferral (λ y. refl) deferrals, none_of report_in Release (λ y. refl) releases, none_of report_in Kept (λ y. refl) replies, none_of report_in Alert (λ y. refl) alerts) (simp append-nil refl)

  deferrals_of : filter_map deferral_in listed ≡ deferrals
  deferrals_of =
      parts_of deferral_in (Meta m ∷ []) (map Report reports) (map Deferral deferrals) (map Release releases) (map Kept replies) (map Alert alerts)
      ∙ rw (none_of deferral_in Report (λ y. refl) reports, all_of deferral_in Deferral (λ y. refl) deferrals, none_of deferral_in Release (λ y. refl) releases, none_of deferral_in Kept (λ y. refl) replies, none_of deferral_in Alert (λ y. refl) alerts) (simp append-nil refl)

  releases_of : filter_map release_in listed ≡ releases
  releases_of =
      parts_of release_in (Meta m ∷ []) (map Report reports) (map Deferral deferrals) (map Release releases) (map Kept replies) (map Alert alerts)
      ∙ rw (none_of release_in Report (λ y. refl) reports, none_of release_in Deferral (λ y. refl) deferrals, all_of release_in Release (λ y. refl) releases, none_of release_in Kept (λ y. refl) replies, none_of release_in Alert (λ y. refl) alerts) (simp append-nil refl)

  replies_of : filter_map reply_in listed ≡ replies
  replies_of =
      parts_of reply_in (Meta m ∷ []) (map Report reports) (map Deferral deferrals) (map Release releases) (map Kept replies) (map Alert alerts)
      ∙ rw (none_of reply_in Report (λ y. refl) reports, none_of reply_in Deferral (λ y. refl) deferrals, none_of reply_in Release (λ y. refl) releases, all_of reply_in Kept (λ y. refl) replies, none_of reply_in Alert (λ y. refl) alerts) (simp append-nil refl)

  alerts_of : filter_map alert_in listed ≡ alerts
  alerts_of =
      parts_of alert_in (Meta m ∷ []) (map Report reports) (map Deferral deferrals) (map Release releases) (map Kept replies) (map Alert alerts)
      ∙ rw (none_of alert_in Report (λ y. refl) reports, none_of alert_in Deferral (λ y. refl) deferrals, none_of alert_in Release (λ y. refl) releases, none_of alert_in Kept (λ y. refl) replies, all_of alert_in Alert (λ y. refl) alerts) refl

  -- the state that they stand for
  abbrev pub listed_state : TableRows → State
  listed_state tables = record {
    tables = tables;
    moment = m.moment;
    counters = m.counters;
    reports = filter_map report_of reports;
    deferrals = deferrals;
    releases = releases;
    alerts = filter_map (alert_of releases) alerts;
    kept = replies;
    floors = m.floors;
    entries = [];
  }

  pub state_listed : (tables : TableRows) → state_in tables listed ≡ listed_state tables
  unfolding state_in
  state_listed tables = rw (reports_of, deferrals_of, releases_of, replies_of, alerts_of) refl

-- ---- reports and alerts, as a state has them

read_if : (r : ReportOf) (o : Result Read BadReport) → o ≡ Ok r.read → report_if (report_kept r) o ≡ Some r
read_if r (Ok read) is = let same : read ≡ r.read = cc in ap (λ x. Some (record r { read = x })) same
read_if r (Err bad) is = absurd (cc)

read_again : (r : ReportOf) → IsRead r → report_of (report_kept r) ≡ Some r
unfolding report_of
read_again r is = read_if r (read_of r.text r.received) is.reading

-- reports that say what their texts say are read again as they were
pub reports_again : (rs : List ReportOf) → AllByRecursion IsRead rs → filter_map report_of (map report_kept rs) ≡ rs
reports_again [] all = refl
reports_again (r ∷ rs) all = ap (λ o. cons_option o (filter_map report_of (map report_kept rs))) (read_again r all.0) ∙ ap (λ rest. r ∷ rest) (reports_again rs all.1)

-- a release that is held, to whose holder the alert is told
record IsToHolder (releases : List ReleaseOf) (a : AlertOf) : Type 0 where
  pub release : ReleaseOf
  pub found : release_at a.release releases ≡ Some release
  pub told : a.desk ≡ release.holder

told_again : (releases : List ReleaseOf) (a : AlertOf) → IsToHolder releases a → alert_of releases (alert_kept a) ≡ Some a
told_again releases a is = rw is.found (ap (λ desk. Some (alert_with (alert_kept a) desk)) (sym is.told))

all_told : (releases : List ReleaseOf) (alerts : List AlertOf) → AllByRecursion (IsToHolder releases) alerts → filter_map (alert_of releases) (map alert_kept alerts) ≡ alerts
all_told releases [] all = refl
all_told releases (a ∷ rest) all = ap (λ o. cons_option o (filter_map (alert_of releases) (map alert_kept rest))) (told_again releases a all.0) ∙ ap (λ more. a ∷ more) (all_told releases rest all.1)

to_holder_by : (releases : List ReleaseOf) (r : ReleaseOf) (o : Option AlertOf) → release_at r.id releases ≡ Some r → IsToldTo r.holder o → IfSome o (IsOf r.id) → IfSome o (IsToHolder releases)
to_holder_by releases r None found told of = tt
to_holder_by releases r (Some a) found told of = record { release = r; found = ap (λ id. release_at id releases) of ∙ found; told = told }

-- alerts that are those of the releases, and are told to their holders, are told again as they were
pub alerts_again : (alerts : List AlertOf) (releases : List ReleaseOf) (next : ℕ) → Rise 0 releases next → alerts ≡ filter_map (λ r. alert_at r.id alerts) releases
    → AllByRecursion (λ r. IsToldTo r.holder (alert_at r.id alerts)) releases → filter_map (alert_of releases) (map alert_kept alerts) ≡ alerts
alerts_again alerts releases next rise own told =
    let each = both (λ r. release_at r.id releases ≡ Some r) (λ r. IsToldTo r.holder (alert_at r.id alerts)) releases (found_self releases (rise_pairs 0 releases next rise)) told in
    let held = each_mapped (λ r. (release_at r.id releases ≡ Some r) × IsToldTo r.holder (alert_at r.id alerts)) (IsToHolder releases) (λ r. alert_at r.id alerts)
    (λ r is. to_holder_by releases r (alert_at r.id alerts) is.0 is.1 (found_of r.id alerts)) releases each in
    all_told releases alerts (subst (λ (xs : List AlertOf). AllByRecursion (IsToHolder releases) xs) (sym own) held)
