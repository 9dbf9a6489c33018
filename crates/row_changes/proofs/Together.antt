-- What holds of each two records of a state, and how many there are of each kind.
use Rattle.std.proofs.Common.{◌≡◌, ℕ, ◌+◌, ◌<◌, ◌≤◌, arith, Bool, true, false, ◌&&◌, ◌||◌, not, eqb, List, [], ◌∷◌, ◌++◌, map, length, bytes_eq, count_by, Option, None, Some, IfSome, refl, sym, ap, ◌∙◌, subst}
use Rattle.std.specs.Prelude.{◌==◌, nat_lt}
use Rattle.std.specs.List.{AllByRecursion, list_any}
use Rattle.std.proofs.lemmas.Bool.{eqb-true, lt-ltb, ne_eqb, or_from}
use Rattle.alerts.specs.declared.alert.Alert.{Alert as AlertOf}
use Rattle.asks.specs.declared.kept.KeptReply.{KeptReply}
use Rattle.facts.specs.Reading.{IsRead}
use Rattle.facts.specs.Same.{is_same, minute_of_report}
use Rattle.facts.specs.declared.report.Report.{Report as ReportOf}
use Rattle.row_changes.specs.Rows.{alert_kept, meta_of, records_of, report_kept}
use Rattle.desk_state.specs.Requests.{is_request}
use Rattle.desk_state.specs.Sound.{InBounds, IsAlerted, Matches, Rise, Sound}
use Rattle.desk_state.specs.State.{State, alert_at, failing_if, failing_in, failing_of, grounds_of, release_at}
use Rattle.desk_state.proofs.Judging.{IsOf, found_of}
use Rattle.plan.specs.Phases.{is_active}
use Rattle.plan.specs.declared.release.Phase.{Phase}
use Rattle.plan.specs.declared.release.Release.{Release as ReleaseOf}
use Rattle.plan.specs.declared.release.Revision.{Revision}
use Rattle.records.specs.Faults.{is_release_of, is_same_report, is_same_request, minute_in, minute_of}
use Rattle.records.specs.Kinds.{is_kind}
use Rattle.records.specs.declared.record.Record.{Record}
use Rattle.records.specs.declared.record.Record.TheVariants.{Meta, Report, Deferral, Release, Kept, Alert}
use Rattle.row_changes.proofs.AlertLaws.{Rises, found_self, found_taken, rise_pairs}
use Rattle.row_changes.proofs.Fitting.{Agree, AreFew}
use Rattle.row_changes.proofs.Lists.{Pairs, both, both_pairs, each_mapped, pairs_from, pairs_mapped, weaker_pairs}
use Rattle.row_changes.proofs.PartLaws.{Other, Unlike, swapped, turned}
use Rattle.row_changes.proofs.ReleaseLaws.{Below}
use Rattle.row_changes.proofs.Segments.{Across, across_any, across_made, all_made, any_back, any_front, any_made, counted_all, counted_is, counted_joined, counted_none, pairs_joined, pairs_made, with_each, how_many}
use Rattle.desk_io.proofs.Each.{each_append, each_weaker}

-- ---- releases by their ids

rise_within : (low : ℕ) (rs : List ReleaseOf) (next : ℕ) → Rise low rs next → low ≤ next
rise_within low [] next rise = rise
rise_within low (r ∷ rs) next rise = let here = rise.0 in let more = rise_within (r.id + 1) rs next rise.1 in omega (arith, here, more)

pub ids_below : (low : ℕ) (rs : List ReleaseOf) (next : ℕ) → Rise low rs next → AllByRecursion (λ r. r.id < next) rs
ids_below low [] next rise = tt
ids_below low (r ∷ rs) next rise = (let more = rise_within (r.id + 1) rs next rise.1 in omega (arith, more), ids_below (r.id + 1) rs next rise.1)

-- ---- each alert is that of an active release

-- an active release that is held, whose alert it is, and whose id is below the next one
pub record Stands (releases : List ReleaseOf) (next : ℕ) (a : AlertOf) : Type 0 where
  pub release : ReleaseOf
  pub found : release_at a.release releases ≡ Some release
  pub active : is_active release.phase ≡ true
  pub below : a.release < next

active_if : (b : Bool) (s : State) (v : Revision) (phase : Phase) (a : AlertOf) → Matches (Some a) (failing_if b (grounds_of s) v phase) → b ≡ true
active_if true s v phase a is = refl
active_if false s v phase a is = absurd is

active_in : (s : State) (active : Option Revision) (phase : Phase) (a : AlertOf) → Matches (Some a) (failing_in (grounds_of s) active phase) → is_active phase ≡ true
active_in s None phase a is = absurd is
active_in s (Some v) phase a is = active_if (is_active phase) s v phase a is

stands_by : (s : State) (next : ℕ) (r : ReleaseOf) (o : Option AlertOf) → release_at r.id s.releases ≡ Some r → r.id < next → Matches o (failing_of (grounds_of s) r)
    → IfSome o (IsOf r.id) → IfSome o (Stands s.releases next)
stands_by s next r None found below is of = tt
stands_by s next r (Some a) found below is of =
    record { release = r; found = ap (λ id. release_at id s.releases) of ∙ found; active = active_in s r.active r.phase a is; below = omega (arith, of, below) }

pub all_stand : (s : State) → Sound s → AllByRecursion (Stands s.releases s.counters.next_release) s.alerts
all_stand s sound =
    let next = s.counters.next_release in
    let alerted = both (λ r. r.id < next) (IsAlerted (grounds_of s) s.alerts) s.releases (ids_below 0 s.releases next sound.ids) sound.alerted in
    let each = both (λ r. release_at r.id s.releases ≡ Some r) (λ r. (r.id < next) × IsAlerted (grounds_of s) s.alerts r) s.releases
    (found_self s.releases (rise_pairs 0 s.releases next sound.ids)) alerted in
    subst (λ (xs : List AlertOf). AllByRecursion (Stands s.releases next) xs) (sym sound.own)
    (each_mapped (λ r. (release_at r.id s.releases ≡ Some r) × ((r.id < next) × IsAlerted (grounds_of s) s.alerts r)) (Stands s.releases next) (λ r. alert_at r.id s.alerts)
    (λ r is. stands_by s next r (alert_at r.id s.alerts) is.0 is.1.0 is.1.1.0 (found_of r.id s.alerts)) s.releases each)

-- the release of each alert is among the records
pub has_release : (s : State) (a : AlertOf) → Stands s.releases s.counters.next_release a → list_any (is_release_of a.release) (records_of s) ≡ true
unfolding records_of
has_release s a is =
    let p = is_release_of a.release in
    let two = map (λ r. Report (report_kept r)) s.reports in
    let three = map Deferral s.deferrals in
    let four = map Release s.releases in
    let five = map Kept s.kept in
    let one = Meta (meta_of s) ∷ [] in
    any_front p (one ++ two ++ three ++ four ++ five) (map (λ b. Alert (alert_kept b)) s.alerts)
    (any_front p (one ++ two ++ three ++ four) five
    (any_back p (one ++ two ++ three) four (any_made p Release s.releases (found_taken a.release s.releases is.release is.found))))

-- ---- two of one kind

abbrev Apart : ℕ → ℕ → Bool → Type 0
Apart a b odds = (nat_lt a b ≡ true) × (((b == a) || odds) ≡ false)

apart_by : (a b : ℕ) (odds : Bool) → a < b → odds ≡ false → Apart a b odds
apart_by a b odds less none = (lt-ltb a b less, or_from (b == a) odds (ne_eqb b a (λ e. absurd (omega (arith, e, less)))) none)

-- the minute of a report that is kept is that of its reading
minute_again : (r : ReportOf) → IsRead r → minute_of (report_kept r) ≡ minute_of_report r
unfolding minute_of
minute_again r is = ap (λ read. minute_in read) is.reading

report_other : (a b : ReportOf) → IsRead a → IsRead b → is_same b.text (minute_of_report b) a ≡ false → is_same_report (report_kept b) (report_kept a) ≡ false
report_other a b one two other =
    ap (λ m. bytes_eq b.text a.text && (m == minute_of (report_kept a))) (minute_again b two) ∙ ap (λ m. bytes_eq b.text a.text && (minute_of_report b == m)) (minute_again a one)
    ∙ turned b.text a.text (minute_of_report b) (minute_of_report a) other

reports_agree : (a b : ReportOf) → IsRead a × IsRead b × Unlike a b → Agree (Report (report_kept a)) (Report (report_kept b))
reports_agree a b is = apart_by a.id b.id (is_same_report (report_kept b) (report_kept a)) is.2.0 (report_other a b is.0 is.1 is.2.1)

report_pairs : (s : State) → Sound s → InBounds s → AllByRecursion IsRead s.reports → Pairs Agree (map (λ r. Report (report_kept r)) s.reports)
report_pairs s sound kept read =
    let unlike = both_pairs (λ a b. a.id < b.id) (λ a b. is_same b.text (minute_of_report b) a ≡ false) s.reports
    (pairs_from (λ a b. a.id < b.id) s.reports kept.admitted) (pairs_from (λ a b. is_same b.text (minute_of_report b) a ≡ false) s.reports sound.unlike) in
    pairs_made Agree (λ r. Report (report_kept r)) s.reports
    (weaker_pairs (λ a b. IsRead a × IsRead b × Unlike a b) (λ a b. Agree (Report (report_kept a)) (Report (report_kept b))) reports_agree s.reports
    (with_each IsRead Unlike s.reports read unlike))

deferral_pairs : (s : State) → InBounds s → Pairs Agree (map Deferral s.deferrals)
deferral_pairs s kept =
    pairs_made Agree Deferral s.deferrals
    (weaker_pairs (λ a b. a.id < b.id) (λ a b. Agree (Deferral a) (Deferral b)) (λ a b less. apart_by a.id b.id false less refl) s.deferrals
    (pairs_from (λ a b. a.id < b.id) s.deferrals kept.deferrals.rising))

held_pairs : (s : State) → Sound s → Pairs Agree (map Release s.releases)
held_pairs s sound =
    pairs_made Agree Release s.releases
    (weaker_pairs Below (λ a b. Agree (Release a) (Release b)) (λ a b less. apart_by a.id b.id false less refl) s.releases (rise_pairs 0 s.releases s.counters.next_release sound.ids))

replies_agree : (a b : KeptReply) → Other a b → Agree (Kept a) (Kept b)
replies_agree a b is =
    apart_by a.id b.id (is_same_request b a) is.0 (turned b.actor a.actor b.number a.number (swapped (bytes_eq a.actor b.actor) (a.number == b.number) ∙ is.1))

reply_pairs : (s : State) → Sound s → InBounds s → Pairs Agree (map Kept s.kept)
reply_pairs s sound kept =
    pairs_made Agree Kept s.kept
    (weaker_pairs Other (λ a b. Agree (Kept a) (Kept b)) replies_agree s.kept
    (both_pairs (λ a b. a.id < b.id) (λ a b. is_request b.actor b.number a ≡ false) s.kept
    (pairs_from (λ a b. a.id < b.id) s.kept kept.accepted) (pairs_from (λ a b. is_request b.actor b.number a ≡ false) s.kept sound.single)))

earlier_by : (i j : ℕ) (o p : Option AlertOf) → i < j → IfSome o (IsOf i) → IfSome p (IsOf j) → IfSome o (λ a. IfSome p (Rises a))
earlier_by i j None p less one two = tt
earlier_by i j (Some a) None less one two = tt
earlier_by i j (Some a) (Some b) less one two = omega (arith, less, one, two)

alert_pairs : (s : State) → Sound s → Pairs Agree (map (λ a. Alert (alert_kept a)) s.alerts)
alert_pairs s sound =
    pairs_made Agree (λ a. Alert (alert_kept a)) s.alerts
    (weaker_pairs Rises (λ a b. Agree (Alert (alert_kept a)) (Alert (alert_kept b))) (λ a b less. apart_by a.release b.release false less refl) s.alerts
    (subst (λ (xs : List AlertOf). Pairs Rises xs) (sym sound.own)
    (pairs_mapped Below Rises (λ r. alert_at r.id s.alerts)
    (λ q r less. earlier_by q.id r.id (alert_at q.id s.alerts) (alert_at r.id s.alerts) less (found_of q.id s.alerts) (found_of r.id s.alerts))
    s.releases (rise_pairs 0 s.releases s.counters.next_release sound.ids))))

-- ---- a release and an alert

idle_by : (releases : List ReleaseOf) (r q : ReleaseOf) (a : AlertOf) (b : Bool) → eqb r.id a.release ≡ b → release_at r.id releases ≡ Some r → release_at a.release releases ≡ Some q
    → is_active q.phase ≡ true → (b && not (is_active r.phase)) ≡ false
idle_by releases r q a true e found here active =
    let one : Some r ≡ Some q = sym found ∙ ap (λ id. release_at id releases) (eqb-true r.id a.release e) ∙ here in
    let same : r ≡ q = cc in
    ap (λ x. not (is_active x.phase)) same ∙ ap not active
idle_by releases r q a false e found here active = refl

none_idle : (s : State) → Sound s → AllByRecursion (λ r. AllByRecursion (λ a. Agree (Release r) (Alert (alert_kept a))) s.alerts) s.releases
none_idle s sound =
    let next = s.counters.next_release in
    let stand = all_stand s sound in
    each_weaker (λ r. release_at r.id s.releases ≡ Some r) (λ r. AllByRecursion (λ a. Agree (Release r) (Alert (alert_kept a))) s.alerts)
    (λ r found. each_weaker (Stands s.releases next) (λ a. Agree (Release r) (Alert (alert_kept a)))
    (λ a is. (refl, idle_by s.releases r is.release a (eqb r.id a.release) refl found is.found is.active)) s.alerts stand) s.releases
    (found_self s.releases (rise_pairs 0 s.releases next sound.ids))

-- ---- all of them

-- each record comes before all later ones, and no two are at odds
pub all_pairs : (s : State) → Sound s → InBounds s → AllByRecursion IsRead s.reports → Pairs Agree (records_of s)
unfolding records_of
all_pairs s sound kept read =
    let report = λ (r : ReportOf). Report (report_kept r) in
    let alert = λ (a : AlertOf). Alert (alert_kept a) in
    let metas = meta_of s ∷ [] in
    let one = map Meta metas in
    let two = map report s.reports in
    let three = map Deferral s.deferrals in
    let four = map Release s.releases in
    let five = map Kept s.kept in
    let six = map alert s.alerts in
    let joined = λ (xs ys zs : List Record) (front : Across Agree xs zs) (back : Across Agree ys zs). each_append (λ x. AllByRecursion (Agree x) zs) xs ys front back in
    let first = pairs_joined Agree one two (tt, tt) (report_pairs s sound kept read) (across_any Agree Meta report (λ x y. (refl, refl)) metas s.reports) in
    let second = pairs_joined Agree (one ++ two) three first (deferral_pairs s kept)
    (joined one two three (across_any Agree Meta Deferral (λ x y. (refl, refl)) metas s.deferrals) (across_any Agree report Deferral (λ x y. (refl, refl)) s.reports s.deferrals)) in
    let third = pairs_joined Agree (one ++ two ++ three) four second (held_pairs s sound)
    (joined (one ++ two) three four
    (joined one two four (across_any Agree Meta Release (λ x y. (refl, refl)) metas s.releases) (across_any Agree report Release (λ x y. (refl, refl)) s.reports s.releases))
    (across_any Agree Deferral Release (λ x y. (refl, refl)) s.deferrals s.releases)) in
    let fourth = pairs_joined Agree (one ++ two ++ three ++ four) five third (reply_pairs s sound kept)
    (joined (one ++ two ++ three) four five
    (joined (one ++ two) three five
    (joined one two five (across_any Agree Meta Kept (λ x y. (refl, refl)) metas s.kept) (across_any Agree report Kept (λ x y. (refl, refl)) s.reports s.kept))
    (across_any Agree Deferral Kept (λ x y. (refl, refl)) s.deferrals s.kept))
    (across_any Agree Release Kept (λ x y. (refl, refl)) s.releases s.kept)) in
    pairs_joined Agree (one ++ two ++ three ++ four ++ five) six fourth (alert_pairs s sound)
    (joined (one ++ two ++ three ++ four) five six
    (joined (one ++ two ++ three) four six
    (joined (one ++ two) three six
    (joined one two six (across_any Agree Meta alert (λ x y. (refl, refl)) metas s.alerts) (across_any Agree report alert (λ x y. (refl, refl)) s.reports s.alerts))
    (across_any Agree Deferral alert (λ x y. (refl, refl)) s.deferrals s.alerts))
    (across_made Agree Release alert s.releases s.alerts (none_idle s sound)))
    (across_any Agree Kept alert (λ x y. (refl, refl)) s.kept s.alerts))

-- what holds of each part holds of all records
pub all_records : (P : Record → Type 0) (s : State) → P (Meta (meta_of s)) → AllByRecursion (λ r. P (Report (report_kept r))) s.reports → AllByRecursion (λ d. P (Deferral d)) s.deferrals
    → AllByRecursion (λ r. P (Release r)) s.releases → AllByRecursion (λ k. P (Kept k)) s.kept → AllByRecursion (λ a. P (Alert (alert_kept a))) s.alerts → AllByRecursion P (records_of s)
unfolding records_of
all_records P s meta reports deferrals releases replies alerts =
    let one = Meta (meta_of s) ∷ [] in
    let two = map (λ r. Report (report_kept r)) s.reports in
    let three = map Deferral s.deferrals in
    let four = map Release s.releases in
    let five = map Kept s.kept in
    each_append P (one ++ two ++ three ++ four ++ five) (map (λ a. Alert (alert_kept a)) s.alerts)
    (each_append P (one ++ two ++ three ++ four) five
    (each_append P (one ++ two ++ three) four
    (each_append P (one ++ two) three
    (each_append P one two (meta, tt) (all_made P (λ r. Report (report_kept r)) s.reports reports))
    (all_made P Deferral s.deferrals deferrals))
    (all_made P Release s.releases releases))
    (all_made P Kept s.kept replies))
    (all_made P (λ a. Alert (alert_kept a)) s.alerts alerts)

-- ---- how many there are of each kind

counted_parts : (p : Record → Bool) (one two three four five six : List Record)
    → how_many p (one ++ two ++ three ++ four ++ five ++ six) ≡ how_many p one + how_many p two + how_many p three + how_many p four + how_many p five + how_many p six
counted_parts p one two three four five six =
    let a = counted_joined p (one ++ two ++ three ++ four ++ five) six in
    let b = counted_joined p (one ++ two ++ three ++ four) five in
    let c = counted_joined p (one ++ two ++ three) four in
    let d = counted_joined p (one ++ two) three in
    let e = counted_joined p one two in
    omega (arith, a, b, c, d, e)

-- how many of a kind there are among records, by how many there are of it in each part
few_by : (p : Record → Bool) (one two three four five six : List Record) (a b c d e f most : ℕ)
    → how_many p one ≡ a → how_many p two ≡ b → how_many p three ≡ c → how_many p four ≡ d → how_many p five ≡ e → how_many p six ≡ f
    → a + b + c + d + e + f ≤ most → count_by p (one ++ two ++ three ++ four ++ five ++ six) ≤ most
few_by p one two three four five six a b c d e f most is_a is_b is_c is_d is_e is_f few =
    let whole = counted_is p (one ++ two ++ three ++ four ++ five ++ six) in
    let parts = counted_parts p one two three four five six in
    omega (arith, whole, parts, is_a, is_b, is_c, is_d, is_e, is_f, few)

few_of : (kind : ℕ) (s : State) (b c d e most : ℕ) → how_many (is_kind kind) (Meta (meta_of s) ∷ []) ≡ 0 → how_many (is_kind kind) (map (λ r. Report (report_kept r)) s.reports) ≡ b
    → how_many (is_kind kind) (map Deferral s.deferrals) ≡ c → how_many (is_kind kind) (map Release s.releases) ≡ d → how_many (is_kind kind) (map Kept s.kept) ≡ e
    → how_many (is_kind kind) (map (λ a. Alert (alert_kept a)) s.alerts) ≡ 0 → b + c + d + e ≤ most → count_by (is_kind kind) (records_of s) ≤ most
unfolding records_of
few_of kind s b c d e most none is_b is_c is_d is_e last few =
    few_by (is_kind kind) (Meta (meta_of s) ∷ []) (map (λ r. Report (report_kept r)) s.reports) (map Deferral s.deferrals) (map Release s.releases) (map Kept s.kept)
    (map (λ a. Alert (alert_kept a)) s.alerts) 0 b c d e 0 most none is_b is_c is_d is_e last (omega (arith, few))

pub all_few : (s : State) → InBounds s → length s.kept ≤ 800_000 → AreFew (records_of s)
all_few s kept replies =
    let report = λ (r : ReportOf). Report (report_kept r) in
    let alert = λ (a : AlertOf). Alert (alert_kept a) in
    record {
      reports = few_of 1 s (length s.reports) 0 0 0 200_000 refl (counted_all (is_kind 1) report (λ y. refl) s.reports) (counted_none (is_kind 1) Deferral (λ y. refl) s.deferrals)
          (counted_none (is_kind 1) Release (λ y. refl) s.releases) (counted_none (is_kind 1) Kept (λ y. refl) s.kept) (counted_none (is_kind 1) alert (λ y. refl) s.alerts)
          (let few = kept.few in omega (arith, few));
      deferrals = few_of 2 s 0 (length s.deferrals) 0 0 50_000 refl (counted_none (is_kind 2) report (λ y. refl) s.reports) (counted_all (is_kind 2) Deferral (λ y. refl) s.deferrals)
          (counted_none (is_kind 2) Release (λ y. refl) s.releases) (counted_none (is_kind 2) Kept (λ y. refl) s.kept) (counted_none (is_kind 2) alert (λ y. refl) s.alerts)
          (let few = kept.deferrals.few in omega (arith, few));
      releases = few_of 3 s 0 0 (length s.releases) 0 20_000 refl (counted_none (is_kind 3) report (λ y. refl) s.reports) (counted_none (is_kind 3) Deferral (λ y. refl) s.deferrals)
          (counted_all (is_kind 3) Release (λ y. refl) s.releases) (counted_none (is_kind 3) Kept (λ y. refl) s.kept) (counted_none (is_kind 3) alert (λ y. refl) s.alerts)
          (let few = kept.held in omega (arith, few));
      replies = few_of 4 s 0 0 0 (length s.kept) 800_000 refl (counted_none (is_kind 4) report (λ y. refl) s.reports) (counted_none (is_kind 4) Deferral (λ y. refl) s.deferrals)
          (counted_none (is_kind 4) Release (λ y. refl) s.releases) (counted_all (is_kind 4) Kept (λ y. refl) s.kept) (counted_none (is_kind 4) alert (λ y. refl) s.alerts)
          (omega (arith, replies));
    }
