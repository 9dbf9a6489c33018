-- What holds of each part of the state holds once an effect is there.
use Rattle.std.proofs.Common.{◌≡◌, ℕ, ◌+◌, ◌<◌, ◌≤◌, Bool, true, false, cond, eqb, not, List, [], ◌∷◌, ◌++◌, append-nil, length, length-append, Option, None, Some, IfSome, refl, ap, sym, ◌∙◌, subst, arith}
use Rattle.std.specs.Prelude.{filter, find}
use Rattle.std.specs.Option.{option_map}
use Rattle.std.specs.List.{AllByRecursion, AllPairs, filter_map, cons_option}
use Rattle.std.proofs.lemmas.Bool.{eqb-true}
use Rattle.std.proofs.lemmas.List.Elements.{All-from_recursion, filter_map-append}
use Rattle.std.proofs.lemmas.List.Kept.{AllPairs-filter}
use Rattle.std.proofs.lemmas.List.Quantifiers.{all_pairs_push}
use Rattle.alerts.specs.declared.alert.Alert.{Alert}
use Rattle.deferrals.specs.Held.{has_id, without}
use Rattle.deferrals.specs.declared.items.Deferral.{Deferral}
use Rattle.asks.specs.declared.kept.KeptReply.{KeptReply}
use Rattle.facts.specs.Same.{is_same, same_id, minute_of_report}
use Rattle.facts.specs.Swept.{stays, swept}
use Rattle.facts.specs.declared.report.Report.{Report}
use Rattle.desk_time.specs.Limits.{IsMoment}
use Rattle.plan.specs.declared.release.Release.{Release}
use Rattle.plan.specs.declared.release.Revision.{Revision}
use Rattle.desk_state.specs.declared.effect.Sweep.{Sweep}
use Rattle.desk_state.specs.declared.effect.OnDeferrals.{OnDeferrals}
use Rattle.desk_state.specs.declared.effect.OnDeferrals.TheVariants as on_deferrals
use Rattle.release_index.specs.declared.change.OnReleases.{OnReleases}
use Rattle.release_index.specs.declared.change.OnReleases.TheVariants as on_releases
use Rattle.desk_state.specs.Effects.{tick}
use Rattle.desk_state.specs.Events.{put_release, without_release, moment_after, reports_after, reports_swept, is_since, kept_after, deferrals_after, releases_after, next_report, next_deferral, next_release}
use Rattle.desk_state.specs.Sound.{Sound, AreJudgeable, IsLater, MayStand, ReleaseInBounds, IsNumbered, IsOpen, AreOpen, MayOpen, IsNext, AreUnlike, AreSingle, IsToldTo, Rise, DeferralsFit, ReleasesFit, EffectFits}
use Rattle.desk_state.specs.Requests.{is_request, kept_at}
use Rattle.desk_state.specs.State.{State, alert_at}
use Rattle.desk_state.proofs.Each.{put_each, put_length, without_each, without_shorter}
use Rattle.desk_state.proofs.Judging.{AreTold, none_next, rise_push, rise_put, rise_without}
use Rattle.desk_io.proofs.Each.{each_weaker, each_push}

pub moment_shown : (o : Option ℕ) (moment : ℕ) → IfSome o (IsLater moment) → IsMoment moment → IsMoment (moment_after o moment)
moment_shown None moment fits is = is
moment_shown (Some to) moment fits is = fits.0

pub tick_fits : (s : State) (to : ℕ) → IsLater s.moment to → EffectFits s (tick to)
tick_fits s to shown = record { moment = shown; report = tt; apart = tt; deferrals = tt; releases = tt }

-- Reports.

pub none_by : {A : Type 0} (p : A → Bool) (x : A) (b : Bool) (o : Option A) → p x ≡ b → cond b (Some x) o ≡ None → (p x ≡ false) × (o ≡ None)
none_by p x true o e none = absurd (cc)
none_by p x false o e none = (e, none)

-- where none is found, none passes
pub none_found : {A : Type 0} (p : A → Bool) (xs : List A) → find p xs ≡ None → AllByRecursion (λ x. p x ≡ false) xs
none_found p [] none = tt
none_found p (x ∷ xs) none = let both = none_by p x (p x) (find p xs) refl none in (both.0, none_found p xs both.1)

no_report : (o : Option Report) → option_map (λ r. r.id) o ≡ None → o ≡ None
no_report None e = refl
no_report (Some r) e = absurd (cc)

unlike_more : (s : State) (report : Report) → IsNext s report → AreUnlike s.reports → AreUnlike (s.reports ++ report ∷ [])
unfolding same_id
unlike_more s report next unlike =
    let test : Report → Bool = is_same report.text (minute_of_report report) in
    all_pairs_push (λ a b. is_same b.text (minute_of_report b) a ≡ false) s.reports report unlike
    (All-from_recursion (λ r. test r ≡ false) s.reports (none_found test s.reports (no_report (find test s.reports) next.unlike)))

pub reports_unlike : (s : State) (o : Option Report) → IfSome o (IsNext s) → AreUnlike s.reports → AreUnlike (reports_after o s.reports)
reports_unlike s None fits unlike = unlike
reports_unlike s (Some report) fits unlike = unlike_more s report fits unlike

pub reports_numbered : (s : State) (o : Option Report) → IfSome o (IsNext s) → AllByRecursion (IsNumbered s.counters.next_report) s.reports
    → AllByRecursion (IsNumbered (next_report o s.counters.next_report)) (reports_after o s.reports)
reports_numbered s None fits all = all
reports_numbered s (Some report) fits all =
    let is_new = fits.is_new in
    each_push (IsNumbered (report.id + 1)) s.reports report
    (each_weaker (IsNumbered s.counters.next_report) (IsNumbered (report.id + 1)) (λ r within. omega (arith, is_new, within)) s.reports all) (omega arith)

pub reports_rise : (s : State) (o : Option Report) → IfSome o (IsNext s) → AllByRecursion (IsNumbered s.counters.next_report) s.reports → AllPairs (λ a b. a.id < b.id) s.reports
    → AllPairs (λ a b. a.id < b.id) (reports_after o s.reports)
reports_rise s None fits all rising = rising
reports_rise s (Some report) fits all rising =
    let is_new = fits.is_new in
    all_pairs_push (λ a b. a.id < b.id) s.reports report rising
    (All-from_recursion (λ r. r.id < report.id) s.reports (each_weaker (IsNumbered s.counters.next_report) (λ r. r.id < report.id) (λ r below. omega (arith, is_new, below)) s.reports all))

pub reports_few : (s : State) (o : Option Report) → IfSome o (IsNext s) → length s.reports ≤ 200_000 → length (reports_after o s.reports) ≤ 200_000
reports_few s None fits few = few
reports_few s (Some report) fits few = let long = length-append s.reports (report ∷ []) in let room = fits.few in omega (arith, long, room)

pub report_next : (s : State) (o : Option Report) → IfSome o (IsNext s) → s.counters.next_report ≤ s.counters.events + 1 → next_report o s.counters.next_report ≤ s.counters.events + 2
report_next s None fits least = omega (arith, least)
report_next s (Some report) fits least = let is_new = fits.is_new in omega (arith, is_new, least)

-- Open deferrals.

all_open : (next more : ℕ) (ds : List Deferral) → next ≤ more → AllByRecursion (IsOpen next) ds → AllByRecursion (IsOpen more) ds
all_open next more ds within all = each_weaker (IsOpen next) (IsOpen more) (λ d is. (let below = is.0 in omega (arith, below, within), is.1)) ds all

all_below : (next id : ℕ) (ds : List Deferral) → id ≡ next → AllByRecursion (IsOpen next) ds → AllByRecursion (λ e. e.id < id) ds
all_below next id ds is all = each_weaker (IsOpen next) (λ e. e.id < id) (λ e has. let below = has.0 in omega (arith, below, is)) ds all

one_longer : (ds : List Deferral) (d : Deferral) → length (ds ++ d ∷ []) ≡ length ds + 1
one_longer ds d = length-append ds (d ∷ [])

open_more : (s : State) (d : Deferral) → MayOpen s d → AreOpen s.counters.next_deferral s.deferrals → AreOpen (d.id + 1) (s.deferrals ++ d ∷ [])
open_more s d may held =
    let same = may.is_new in
    record {
      each = each_push (IsOpen (d.id + 1)) s.deferrals d (all_open s.counters.next_deferral (d.id + 1) s.deferrals (omega (arith, same)) held.each) (omega arith, may.found);
      rising = all_pairs_push (λ a b. a.id < b.id) s.deferrals d held.rising
          (All-from_recursion (λ e. e.id < d.id) s.deferrals (all_below s.counters.next_deferral d.id s.deferrals may.is_new held.each));
      few = let long = one_longer s.deferrals d in let few = may.few in omega (arith, long, few);
    }

each_filter : {A : Type 0} (P : A → Type 0) (b : Bool) (x : A) (rest : List A) → P x → AllByRecursion P rest → AllByRecursion P (cond b (x ∷ rest) rest)
each_filter P true x rest here all = (here, all)
each_filter P false x rest here all = all

pub filter_each : {A : Type 0} (P : A → Type 0) (q : A → Bool) (xs : List A) → AllByRecursion P xs → AllByRecursion P (filter q xs)
filter_each P q [] all = tt
filter_each P q (x ∷ xs) all = each_filter P (q x) x (filter q xs) all.0 (filter_each P q xs all.1)

shorter : {A : Type 0} (b : Bool) (x : A) (rest xs : List A) → length rest ≤ length xs → length (cond b (x ∷ rest) rest) ≤ length (x ∷ xs)
shorter true x rest xs within = omega (arith, within)
shorter false x rest xs within = omega (arith, within)

pub filter_shorter : {A : Type 0} (q : A → Bool) (xs : List A) → length (filter q xs) ≤ length xs
filter_shorter q [] = omega arith
filter_shorter q (x ∷ xs) = shorter (q x) x (filter q xs) xs (filter_shorter q xs)

open_less : (id next : ℕ) (ds : List Deferral) → AreOpen next ds → AreOpen next (without id ds)
open_less id next ds held = record {
  each = filter_each (IsOpen next) (λ d. not (has_id id d)) ds held.each;
  rising = AllPairs-filter (λ a b. a.id < b.id) (λ d. not (has_id id d)) ds held.rising;
  few = let less = filter_shorter (λ d. not (has_id id d)) ds in let few = held.few in omega (arith, less, few);
}

pub deferrals_open : (s : State) (on : OnDeferrals) → DeferralsFit s on → AreOpen s.counters.next_deferral s.deferrals
    → AreOpen (next_deferral on s.counters.next_deferral) (deferrals_after on s.deferrals)
deferrals_open s on_deferrals.Nothing fits held = held
deferrals_open s (on_deferrals.Open d) fits held = open_more s d fits held
deferrals_open s (on_deferrals.Clear id) fits held = open_less id s.counters.next_deferral s.deferrals held

pub deferral_next : (s : State) (on : OnDeferrals) → DeferralsFit s on → s.counters.next_deferral ≤ s.counters.events + 1
    → next_deferral on s.counters.next_deferral ≤ s.counters.events + 2
deferral_next s on_deferrals.Nothing fits least = omega (arith, least)
deferral_next s (on_deferrals.Open d) fits least = let same = fits.is_new in omega (arith, same, least)
deferral_next s (on_deferrals.Clear id) fits least = omega (arith, least)

-- Sweeps.

pub swept_each : (P : Report → Type 0) (o : Option Sweep) (rs : List Report) → AllByRecursion P rs → AllByRecursion P (reports_swept o rs)
unfolding swept
swept_each P None rs all = all
swept_each P (Some w) rs all = filter_each P (stays w.before w.attached rs) rs all

pub swept_unlike : (o : Option Sweep) (rs : List Report) → AreUnlike rs → AreUnlike (reports_swept o rs)
unfolding swept
swept_unlike None rs unlike = unlike
swept_unlike (Some w) rs unlike = AllPairs-filter (λ a b. is_same b.text (minute_of_report b) a ≡ false) (stays w.before w.attached rs) rs unlike

pub swept_rise : (o : Option Sweep) (rs : List Report) → AllPairs (λ a b. a.id < b.id) rs → AllPairs (λ a b. a.id < b.id) (reports_swept o rs)
unfolding swept
swept_rise None rs rising = rising
swept_rise (Some w) rs rising = AllPairs-filter (λ a b. a.id < b.id) (stays w.before w.attached rs) rs rising

pub swept_fewer : (o : Option Sweep) (rs : List Report) → length (reports_swept o rs) ≤ length rs
unfolding swept
swept_fewer None rs = omega arith
swept_fewer (Some w) rs = filter_shorter (stays w.before w.attached rs) rs

pub kept_each : (P : KeptReply → Type 0) (o : Option Sweep) (ks : List KeptReply) → AllByRecursion P ks → AllByRecursion P (kept_after o ks)
kept_each P None ks all = all
kept_each P (Some w) ks all = filter_each P (is_since w.before) ks all

pub kept_single : (o : Option Sweep) (ks : List KeptReply) → AreSingle ks → AreSingle (kept_after o ks)
kept_single None ks single = single
kept_single (Some w) ks single = AllPairs-filter (λ a b. is_request b.actor b.number a ≡ false) (is_since w.before) ks single

pub kept_rise : (o : Option Sweep) (ks : List KeptReply) → AllPairs (λ a b. a.id < b.id) ks → AllPairs (λ a b. a.id < b.id) (kept_after o ks)
kept_rise None ks rising = rising
kept_rise (Some w) ks rising = AllPairs-filter (λ a b. a.id < b.id) (is_since w.before) ks rising

pub kept_fewer : (o : Option Sweep) (ks : List KeptReply) → length (kept_after o ks) ≤ length ks
kept_fewer None ks = omega arith
kept_fewer (Some w) ks = filter_shorter (is_since w.before) ks

found_still : {A : Type 0} (p : A → Bool) (x : A) (b : Bool) (rest : List A) → p x ≡ false → find p rest ≡ None → find p (cond b (x ∷ rest) rest) ≡ None
found_still p x true rest fails none = rw fails none
found_still p x false rest fails none = none

-- what isn't found isn't found in a part
still_none : {A : Type 0} (p q : A → Bool) (xs : List A) → find p xs ≡ None → find p (filter q xs) ≡ None
still_none p q [] none = refl
still_none p q (x ∷ xs) none = let both = none_by p x (p x) (find p xs) refl none in found_still p x (q x) (filter q xs) both.0 (still_none p q xs both.1)

pub still_unused : (actor : List ℕ) (number : ℕ) (o : Option Sweep) (ks : List KeptReply) → kept_at actor number ks ≡ None → kept_at actor number (kept_after o ks) ≡ None
still_unused actor number None ks none = none
still_unused actor number (Some w) ks none = still_none (is_request actor number) (is_since w.before) ks none

-- Releases.

pub releases_rise : (s : State) (on : OnReleases) → ReleasesFit s on → Rise 0 s.releases s.counters.next_release
    → Rise 0 (releases_after on s.releases) (next_release on s.counters.next_release)
releases_rise s on_releases.Nothing fits rise = rise
releases_rise s (on_releases.File r) fits rise =
    subst (λ (n : ℕ). Rise 0 (s.releases ++ r ∷ []) (n + 1)) (sym fits.numbered) (rise_push 0 s.releases s.counters.next_release r rise fits.numbered)
releases_rise s (on_releases.Put r) fits rise = rise_put 0 r s.releases s.counters.next_release rise
releases_rise s (on_releases.Remove id) fits rise = rise_without 0 id s.releases s.counters.next_release rise

pub releases_held : (s : State) (on : OnReleases) → ReleasesFit s on → length s.releases ≤ 20_000 → length (releases_after on s.releases) ≤ 20_000
releases_held s on_releases.Nothing fits few = few
releases_held s (on_releases.File r) fits few = let long = length-append s.releases (r ∷ []) in let room = fits.few in omega (arith, long, room)
releases_held s (on_releases.Put r) fits few = rw (put_length r s.releases) few
releases_held s (on_releases.Remove id) fits few = let less = without_shorter id s.releases in omega (arith, less, few)

pub release_next : (s : State) (on : OnReleases) → ReleasesFit s on → s.counters.next_release ≤ s.counters.events + 1
    → next_release on s.counters.next_release ≤ s.counters.events + 2
release_next s on_releases.Nothing fits least = omega (arith, least)
release_next s (on_releases.File r) fits least = let same = fits.numbered in omega (arith, same, least)
release_next s (on_releases.Put r) fits least = omega (arith, least)
release_next s (on_releases.Remove id) fits least = omega (arith, least)

pub later_within : (most : ℕ) (o : Option Revision) → IfSome o (λ v. v.number ≤ most) → IfSome o (λ v. v.number ≤ most + 1)
later_within most None is = tt
later_within most (Some v) is = omega (arith, is)

pub more_valid : (most : ℕ) (r : Release) → MayStand most r → MayStand (most + 1) r
more_valid most r is = record { valid = is.valid; within = (later_within most r.pending is.within.0, later_within most r.active is.within.1) }

all_valid : (most : ℕ) (rs : List Release) → AllByRecursion (MayStand most) rs → AllByRecursion (MayStand (most + 1)) rs
all_valid most rs all = each_weaker (MayStand most) (MayStand (most + 1)) (more_valid most) rs all

pub releases_valid : (s : State) (on : OnReleases) → ReleasesFit s on → AllByRecursion (MayStand s.counters.events) s.releases
    → AllByRecursion (MayStand (s.counters.events + 1)) (releases_after on s.releases)
releases_valid s on_releases.Nothing fits all = all_valid s.counters.events s.releases all
releases_valid s (on_releases.File r) fits all = each_push (MayStand (s.counters.events + 1)) s.releases r (all_valid s.counters.events s.releases all) fits.fits.stands
releases_valid s (on_releases.Remove id) fits all = without_each (MayStand (s.counters.events + 1)) id s.releases (all_valid s.counters.events s.releases all)
releases_valid s (on_releases.Put r) fits all = put_each (MayStand (s.counters.events + 1)) r s.releases (all_valid s.counters.events s.releases all) fits.fits.stands

pub releases_kept : (s : State) (on : OnReleases) → ReleasesFit s on → AllByRecursion ReleaseInBounds s.releases → AllByRecursion ReleaseInBounds (releases_after on s.releases)
releases_kept s on_releases.Nothing fits all = all
releases_kept s (on_releases.File r) fits all = each_push ReleaseInBounds s.releases r all fits.fits.kept
releases_kept s (on_releases.Remove id) fits all = without_each ReleaseInBounds id s.releases all
releases_kept s (on_releases.Put r) fits all = put_each ReleaseInBounds r s.releases all fits.fits.kept

told_none : (holder : List ℕ) (o : Option Alert) → o ≡ None → IsToldTo holder o
told_none holder None e = tt
told_none holder (Some a) e = absurd (cc)

-- what holds of the desk lets its releases be judged
pub judgeable : (s : State) → Sound s → AreJudgeable s
judgeable s sound = record { own = sound.own; alerts = sound.alerts; ids = sound.ids }

-- a release that is filed has no alert
none_filed : (s : State) (r : Release) → r.id ≡ s.counters.next_release → AreJudgeable s → alert_at r.id s.alerts ≡ None
none_filed s r numbered listed = ap (λ id. alert_at id s.alerts) numbered ∙ none_next s.alerts s.releases s.counters.next_release listed.own listed.ids

pub releases_told : (s : State) (on : OnReleases) → ReleasesFit s on → AreJudgeable s → AreTold s.alerts s.releases → AreTold s.alerts (releases_after on s.releases)
releases_told s on_releases.Nothing fits listed told = told
releases_told s (on_releases.File r) fits listed told =
    each_push (λ q. IsToldTo q.holder (alert_at q.id s.alerts)) s.releases r told (told_none r.holder (alert_at r.id s.alerts) (none_filed s r fits.numbered listed))
releases_told s (on_releases.Remove id) fits listed told = without_each (λ q. IsToldTo q.holder (alert_at q.id s.alerts)) id s.releases told
releases_told s (on_releases.Put r) fits listed told = put_each (λ q. IsToldTo q.holder (alert_at q.id s.alerts)) r s.releases told fits.holder

put_own_by : (alerts : List Alert) (q r : Release) (b : Bool) (qs more : List Release) → eqb q.id r.id ≡ b
    → filter_map (λ x. alert_at x.id alerts) more ≡ filter_map (λ x. alert_at x.id alerts) qs
    → filter_map (λ x. alert_at x.id alerts) (cond b (r ∷ qs) (q ∷ more)) ≡ filter_map (λ x. alert_at x.id alerts) (q ∷ qs)
put_own_by alerts q r true qs more e same = ap (λ id. cons_option (alert_at id alerts) (filter_map (λ x. alert_at x.id alerts) qs)) (sym (eqb-true q.id r.id e))
put_own_by alerts q r false qs more e same = ap (λ rest. cons_option (alert_at q.id alerts) rest) same

put_own : (alerts : List Alert) (r : Release) (rs : List Release) → filter_map (λ x. alert_at x.id alerts) (put_release r rs) ≡ filter_map (λ x. alert_at x.id alerts) rs
put_own alerts r [] = refl
put_own alerts r (q ∷ qs) = put_own_by alerts q r _ qs (put_release r qs) refl (put_own alerts r qs)

none_more : (alerts : List Alert) (r : Release) → alert_at r.id alerts ≡ None → filter_map (λ x. alert_at x.id alerts) (r ∷ []) ≡ []
none_more alerts r none = rw none refl

without_own_by : (alerts : List Alert) (id : ℕ) (q : Release) (b : Bool) (qs more : List Release) → eqb q.id id ≡ b → alert_at id alerts ≡ None
    → filter_map (λ x. alert_at x.id alerts) more ≡ filter_map (λ x. alert_at x.id alerts) qs
    → filter_map (λ x. alert_at x.id alerts) (cond b qs (q ∷ more)) ≡ filter_map (λ x. alert_at x.id alerts) (q ∷ qs)
without_own_by alerts id q true qs more e none same = rw (eqb-true q.id id e, none) refl
without_own_by alerts id q false qs more e none same = ap (λ rest. cons_option (alert_at q.id alerts) rest) same

-- a release without an alert takes none away
without_own : (alerts : List Alert) (id : ℕ) (rs : List Release) → alert_at id alerts ≡ None
    → filter_map (λ x. alert_at x.id alerts) (without_release id rs) ≡ filter_map (λ x. alert_at x.id alerts) rs
without_own alerts id [] none = refl
without_own alerts id (q ∷ qs) none = without_own_by alerts id q _ qs (without_release id qs) refl none (without_own alerts id qs none)

-- the alerts of the releases are found in the releases after the effect
pub releases_own : (s : State) (on : OnReleases) → ReleasesFit s on → AreJudgeable s → s.alerts ≡ filter_map (λ r. alert_at r.id s.alerts) (releases_after on s.releases)
releases_own s on_releases.Nothing fits listed = listed.own
releases_own s (on_releases.File r) fits listed =
    listed.own
    ∙ sym (filter_map-append (λ x. alert_at x.id s.alerts) s.releases (r ∷ [])
    ∙ ap (λ rest. filter_map (λ x. alert_at x.id s.alerts) s.releases ++ rest) (none_more s.alerts r (none_filed s r fits.numbered listed))
    ∙ append-nil (filter_map (λ x. alert_at x.id s.alerts) s.releases))
releases_own s (on_releases.Put r) fits listed = listed.own ∙ sym (put_own s.alerts r s.releases)
releases_own s (on_releases.Remove id) fits listed = listed.own ∙ sym (without_own s.alerts id s.releases fits)
