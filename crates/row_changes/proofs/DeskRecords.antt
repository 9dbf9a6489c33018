-- The records of a state of a board are valid, fit together and rise.
use Rattle.std.proofs.Common.{◌≡◌, ℕ, ◌<◌, ◌≤◌, Bool, true, false, ◌||◌, cond, not, List, [], ◌∷◌, ◌++◌, length, Option, None, Some, Ok, refl, sym, ap, ◌∙◌, subst}
use Rattle.std.specs.Prelude.{◌==◌}
use Rattle.std.specs.List.{AllByRecursion, list_any}
use Rattle.std.proofs.lemmas.Bool.{lt-leb}
use Rattle.std.proofs.lemmas.List.{append_assoc}
use Rattle.std.proofs.lemmas.List.Elements.{All-from_recursion}
use Rattle.alerts.specs.Alerts.{IsAlert}
use Rattle.asks.specs.declared.kept.KeptReply.{KeptReply}
use Rattle.deferrals.specs.declared.items.Deferral.{Deferral as DeferralOf}
use Rattle.facts.specs.Reading.{IsRead}
use Rattle.facts.specs.declared.report.Report.{Report as ReportOf}
use Rattle.row_changes.specs.Rows.{alert_kept, meta_of, records_of, report_kept}
use Rattle.desk_state.specs.Sound.{IsBoard, IsNumbered, IsOpen, IsReplied, MayStand, Sound}
use Rattle.desk_state.specs.State.{State}
use Rattle.plan.specs.declared.release.Release.{Release as ReleaseOf}
use Rattle.records.specs.Faults.{fit, within_limits, have_releases, agree, are_counted, lacks_meta, place_of, first_after, pair_after, is_over, is_orphan, is_bad_pair, is_ahead, meta_from, beside, ahead_of, bad, pair, ◌>>◌}
use Rattle.records.specs.Kinds.{is_kind}
use Rattle.records.specs.Valid.{IsRecord}
use Rattle.records.specs.declared.faults.RowWhy.TheVariants.{NoMeta, Orphan, OverLimit}
use Rattle.records.specs.declared.record.Record.{Record}
use Rattle.records.specs.declared.record.Record.TheVariants.{Meta, Report, Deferral, Release, Kept, Alert}
use Rattle.asks.specs.Forms.{IsFormed}
use Rattle.row_changes.specs.Held.{AreOfDesk, comes_before}
use Rattle.row_changes.proofs.Fitting.{Agree, AreFew}
use Rattle.row_changes.proofs.Lists.{both, weaker_pairs}
use Rattle.row_changes.proofs.Segments.{all_rise, none_if, none_paired, none_placed, room_before}
use Rattle.row_changes.proofs.Together.{Stands, all_few, all_pairs, all_records, all_stand, has_release, ids_below}
use Rattle.row_changes.proofs.KeptForms.{Counts, IsKeptRecord, kept_alert, kept_deferral, kept_meta, kept_release, kept_reply, kept_report}
use Rattle.desk_state.specs.Formed.{AlertHasForms, DeferralHasForms, ReplyHasForms, ReportHasForms}
use Rattle.desk_io.proofs.Each.{each_weaker, each_of}

-- ---- there is a meta record

meta_by : (a b : Bool) → b ≡ true → cond {A = Option ℕ} (a || b) None (Some 0) ≡ None
meta_by true b is = refl
meta_by false true is = refl
meta_by false false is = absurd (cc)

meta_there : (s : State) → lacks_meta (records_of s) ≡ None
unfolding records_of
meta_there s = meta_by (length (records_of s) == 0) (list_any (is_kind 0) (records_of s)) refl

-- ---- there are not too many of a kind

abbrev HasEvents : Record → Type 0
HasEvents (Meta m) = m.counters.events < 999_999_999_999_999
HasEvents (Report r) = Unit {0}
HasEvents (Deferral d) = Unit {0}
HasEvents (Release r) = Unit {0}
HasEvents (Kept k) = Unit {0}
HasEvents (Alert a) = Unit {0}

not_over : (earlier : List Record) (r : Record) (rest : List Record) → AreFew (earlier ++ r ∷ rest) → HasEvents r → is_over earlier r ≡ false
not_over earlier (Meta m) rest few has = lt-leb 999_999_999_999_999 m.counters.events has
not_over earlier (Report r) rest few has = lt-leb 200_000 _ (room_before (is_kind 1) earlier (Report r) rest 200_000 refl few.reports)
not_over earlier (Deferral d) rest few has = lt-leb 50_000 _ (room_before (is_kind 2) earlier (Deferral d) rest 50_000 refl few.deferrals)
not_over earlier (Release r) rest few has = lt-leb 20_000 _ (room_before (is_kind 3) earlier (Release r) rest 20_000 refl few.releases)
not_over earlier (Kept k) rest few has = lt-leb 800_000 _ (room_before (is_kind 4) earlier (Kept k) rest 800_000 refl few.replies)
not_over earlier (Alert a) rest few has = refl

none_over : (earlier rs : List Record) → AreFew (earlier ++ rs) → AllByRecursion HasEvents rs → first_after is_over earlier rs ≡ None
none_over earlier [] few has = refl
none_over earlier (r ∷ rs) few has =
    none_if (is_over earlier r) (length earlier) (first_after is_over (earlier ++ r ∷ []) rs) (not_over earlier r rs few has.0)
    (none_over (earlier ++ r ∷ []) rs (subst AreFew (sym (append_assoc earlier (r ∷ []) rs)) few) has.1)

all_events : (s : State) → s.counters.events < 999_999_999_999_999 → AllByRecursion HasEvents (records_of s)
all_events s room =
    all_records HasEvents s room (each_of (λ r. Unit {0}) (λ r. tt) s.reports) (each_of (λ d. Unit {0}) (λ d. tt) s.deferrals) (each_of (λ r. Unit {0}) (λ r. tt) s.releases)
    (each_of (λ k. Unit {0}) (λ k. tt) s.kept) (each_of (λ a. Unit {0}) (λ a. tt) s.alerts)

-- ---- each alert has its release

none_orphan : (s : State) → Sound s → AllByRecursion (λ r. is_orphan (records_of s) r ≡ false) (records_of s)
none_orphan s sound =
    all_records (λ r. is_orphan (records_of s) r ≡ false) s refl (each_of (λ (r : ReportOf). is_orphan (records_of s) (Report (report_kept r)) ≡ false) (λ r. refl) s.reports)
    (each_of (λ (d : DeferralOf). is_orphan (records_of s) (Deferral d) ≡ false) (λ d. refl) s.deferrals)
    (each_of (λ (r : ReleaseOf). is_orphan (records_of s) (Release r) ≡ false) (λ r. refl) s.releases)
    (each_of (λ (k : KeptReply). is_orphan (records_of s) (Kept k) ≡ false) (λ k. refl) s.kept)
    (each_weaker (Stands s.releases s.counters.next_release) (λ a. is_orphan (records_of s) (Alert (alert_kept a)) ≡ false) (λ a is. ap not (has_release s a is)) s.alerts (all_stand s sound))

-- ---- each record is valid and outruns no counter

all_kept : (opening s : State) → IsBoard opening s → Counts (meta_of s) → AllByRecursion (IsKeptRecord s) (records_of s)
all_kept opening s board counts =
    let sound = board.sound in
    let kept = board.kept in
    let formed = board.formed in
    let next = s.counters.next_release in
    let reports = both ReportHasForms (IsNumbered s.counters.next_report) s.reports formed.reports kept.reports in
    let deferrals = both DeferralHasForms (IsOpen s.counters.next_deferral) s.deferrals formed.deferrals kept.deferrals.each in
    let valid = both (MayStand s.counters.events) (λ r. r.id < next) s.releases sound.valid (ids_below 0 s.releases next sound.ids) in
    let releases = both IsFormed (λ r. MayStand s.counters.events r × (r.id < next)) s.releases formed.releases valid in
    let replies = both ReplyHasForms (IsReplied s.counters.next_kept) s.kept formed.kept kept.replies in
    let standing = both (IsAlert s.counters.events) (Stands s.releases next) s.alerts sound.alerts (all_stand s sound) in
    let alerts = both AlertHasForms (λ a. IsAlert s.counters.events a × Stands s.releases next a) s.alerts formed.alerts standing in
    all_records (IsKeptRecord s) s (kept_meta s counts formed.floors formed.rising)
    (each_weaker (λ r. ReportHasForms r × IsNumbered s.counters.next_report r) (λ r. IsKeptRecord s (Report (report_kept r))) (λ r is. kept_report s r counts is.0 is.1) s.reports reports)
    (each_weaker (λ d. DeferralHasForms d × IsOpen s.counters.next_deferral d) (λ d. IsKeptRecord s (Deferral d)) (λ d is. kept_deferral s d counts is.0 is.1) s.deferrals deferrals)
    (each_weaker (λ r. IsFormed r × (MayStand s.counters.events r × (r.id < next))) (λ r. IsKeptRecord s (Release r)) (λ r is. kept_release s r counts is.0 is.1.0 is.1.1) s.releases releases)
    (each_weaker (λ k. ReplyHasForms k × IsReplied s.counters.next_kept k) (λ k. IsKeptRecord s (Kept k)) (λ k is. kept_reply s k counts is.0 is.1) s.kept replies)
    (each_weaker (λ a. AlertHasForms a × (IsAlert s.counters.events a × Stands s.releases next a)) (λ a. IsKeptRecord s (Alert (alert_kept a)))
    (λ a is. kept_alert s a counts is.0 is.1.0 is.1.1.below) s.alerts alerts)

none_ahead : (s : State) → AllByRecursion (IsKeptRecord s) (records_of s) → ahead_of (records_of s) (meta_from 0 (records_of s)) ≡ None
unfolding records_of
none_ahead s kept =
    ap (λ o. beside o 0) (none_placed (is_ahead s.counters) 0 (records_of s)
    (each_weaker (IsKeptRecord s) (λ r. is_ahead s.counters r ≡ false) (λ r is. is.ahead) (records_of s) kept))

-- ---- all tests are passed

fits : (rs : List Record) → lacks_meta rs ≡ None → first_after is_over [] rs ≡ None → place_of (is_orphan rs) rs ≡ None → pair_after is_bad_pair [] rs ≡ None
    → ahead_of rs (meta_from 0 rs) ≡ None → fit rs ≡ Ok tt
unfolding fit
fits rs meta limits orphans pairs ahead =
    ap (λ o. bad NoMeta o >> (within_limits rs >> (have_releases rs >> (agree rs >> are_counted rs)))) meta
    ∙ ap (λ o. bad OverLimit o >> (have_releases rs >> (agree rs >> are_counted rs))) limits
    ∙ ap (λ o. bad Orphan o >> (agree rs >> are_counted rs)) orphans
    ∙ ap (λ o. pair o >> are_counted rs) pairs
    ∙ ap (λ o. pair o) ahead

none_before : (p : Record → Record → Bool) (rs : List Record) → AllByRecursion (λ r. AllByRecursion (λ e. p r e ≡ false) []) rs
none_before p rs = each_of (λ r. AllByRecursion (λ e. p r e ≡ false) []) (λ r. tt) rs

-- The records of a state of a board with room for one more event are those of a desk.
pub records_formed : (opening s : State) → IsBoard opening s → length s.kept ≤ 800_000 → s.counters.events < 999_999_999_999_999 → AreOfDesk (records_of s)
records_formed opening s board few room =
    let rs = records_of s in
    let each = all_kept opening s board (record { counters = board.kept.counters; moment = board.kept.moment; room = room }) in
    let two = all_pairs s board.sound board.kept (each_weaker ReportHasForms IsRead (λ r is. is.read) s.reports board.formed.reports) in
    record {
      valid = All-from_recursion IsRecord rs (each_weaker (IsKeptRecord s) IsRecord (λ r is. is.valid) rs each);
      fit = fits rs (meta_there s) (none_over [] rs (all_few s board.kept few) (all_events s room)) (none_placed (is_orphan rs) 0 rs (none_orphan s board.sound))
          (none_paired is_bad_pair [] rs (none_before is_bad_pair rs) (weaker_pairs Agree (λ a b. is_bad_pair b a ≡ false) (λ a b is. is.1) rs two)) (none_ahead s each);
      order = all_rise rs (weaker_pairs Agree (λ a b. comes_before a b ≡ true) (λ a b is. is.0) rs two);
    }
