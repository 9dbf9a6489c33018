-- Once every active release is judged, each alert is as its rules ask.
use Rattle.std.proofs.Common.{◌≡◌, ℕ, ◌+◌, ◌<◌, ◌≤◌, Bool, true, false, cond, not, eqb, List, [], ◌∷◌, ◌++◌, Option, None, Some, IfSome, refl, ap, sym, ◌∙◌, subst, arith, eq-eqb}
use Rattle.std.proofs.lemmas.Bool.{ne_eqb, eqb-true}
use Rattle.std.specs.Prelude.{map}
use Rattle.std.specs.Option.{option_map}
use Rattle.std.specs.List.{AllByRecursion, filter_map, cons_option}
use Rattle.plan.specs.declared.findings.Finding.{Finding}
use Rattle.plan.specs.declared.release.Phase.{Phase}
use Rattle.plan.specs.Phases.{is_active}
use Rattle.plan.specs.declared.release.Release.{Release}
use Rattle.plan.specs.declared.release.Revision.{Revision}
use Rattle.plan.specs.Findings.{AreInOrder}
use Rattle.desk_time.specs.Limits.{IsMoment}
use Rattle.alerts.specs.declared.alert.Alert.{Alert}
use Rattle.alerts.specs.Alerts.{IsAlert, alert_once_open, are_same}
use Rattle.alerts.proofs.Sameness.{same_is}
use Rattle.alerts.proofs.Laws.{after_is}
use Rattle.deferrals.specs.Held.{AreRising}
use Rattle.release_index.specs.Below.{Grounds}
use Rattle.release_index.proofs.Below.{findings_in_order}
use Rattle.desk_state.specs.State.{State, grounds_of, failing_if, failing_in, failing_of, alert_at, alert_for, judged, judged_all}
use Rattle.desk_state.specs.declared.effect.OnAlerts.{OnAlerts}
use Rattle.desk_state.specs.declared.effect.OnAlerts.TheVariants as on_alerts
use Rattle.desk_state.specs.Events.{put_release, without_alert, acknowledged_if, alerts_after, kept_alert, without_release}
use Rattle.desk_state.specs.Sound.{Matches, IsToldTo, IsAlerted, Rise}
use Rattle.desk_state.proofs.Each.{found_each}

once_open : (b : Bool) (a : Alert) (findings : List Finding) → are_same a.failing findings ≡ b → (alert_once_open b a findings).failing ≡ findings
once_open true a findings e = same_is a.failing findings e
once_open false a findings e = refl

-- a judged alert names exactly the rules that fail
pub matches : (failing : Option (List Finding)) (old : Option Alert) (r : Release) (moment : ℕ) → Matches (alert_for failing old r moment) failing
matches None old r moment = tt
matches (Some []) None r moment = refl
matches (Some (f ∷ fs)) None r moment = refl
matches (Some []) (Some a) r moment = once_open _ a [] refl
matches (Some (f ∷ fs)) (Some a) r moment = once_open _ a (f ∷ fs) refl

-- an alert of that release
abbrev pub IsOf : ℕ → Alert → Type 0
IsOf id a = a.release ≡ id

once_of : (b : Bool) (a : Alert) (findings : List Finding) (id : ℕ) → IsOf id a → IsOf id (alert_once_open b a findings)
once_of true a findings id is = is
once_of false a findings id is = is

judged_of : (failing : Option (List Finding)) (old : Option Alert) (r : Release) (moment : ℕ) → IfSome old (IsOf r.id) → IfSome (alert_for failing old r moment) (IsOf r.id)
judged_of None old r moment is = tt
judged_of (Some []) None r moment is = tt
judged_of (Some (f ∷ fs)) None r moment is = refl
judged_of (Some []) (Some a) r moment is = once_of _ a [] r.id is
judged_of (Some (f ∷ fs)) (Some a) r moment is = once_of _ a (f ∷ fs) r.id is

found_by_id : (id : ℕ) (a : Alert) (b : Bool) (later : Option Alert) → eqb a.release id ≡ b → IfSome later (IsOf id) → IfSome (cond b (Some a) later) (IsOf id)
found_by_id id a true later e is = eqb-true a.release id e
found_by_id id a false later e is = is

-- an alert that is found is of that release
pub found_of : (id : ℕ) (alerts : List Alert) → IfSome (alert_at id alerts) (IsOf id)
found_of id [] = tt
found_of id (a ∷ rest) = found_by_id id a _ (alert_at id rest) refl (found_of id rest)

pub judged_is : (t : State) (r : Release) → IfSome (judged t r) (IsOf r.id)
judged_is t r = judged_of (failing_of (grounds_of t) r) (alert_at r.id t.alerts) r t.moment (found_of r.id t.alerts)

once_told : (b : Bool) (a : Alert) (findings : List Finding) (holder : List ℕ) → a.desk ≡ holder → (alert_once_open b a findings).desk ≡ holder
once_told true a findings holder is = is
once_told false a findings holder is = is

judged_told : (failing : Option (List Finding)) (old : Option Alert) (r : Release) (moment : ℕ) → IsToldTo r.holder old → IsToldTo r.holder (alert_for failing old r moment)
judged_told None old r moment is = tt
judged_told (Some []) None r moment is = tt
judged_told (Some (f ∷ fs)) None r moment is = refl
judged_told (Some fs) (Some a) r moment is = once_told _ a fs r.holder is

order_if : (b : Bool) (g : Grounds) (v : Revision) (phase : Phase) → AreRising g.deferrals → IfSome (failing_if b g v phase) AreInOrder
order_if true g v phase rising = findings_in_order v.plan phase g rising
order_if false g v phase rising = tt

failing_order : (g : Grounds) (active : Option Revision) (phase : Phase) → AreRising g.deferrals → IfSome (failing_in g active phase) AreInOrder
failing_order g None phase rising = tt
failing_order g (Some v) phase rising = order_if (is_active phase) g v phase rising

judged_alert : (failing : Option (List Finding)) (old : Option Alert) (r : Release) (moment most : ℕ) → IsMoment moment → IfSome failing AreInOrder → IfSome old (IsAlert most)
    → IfSome (alert_for failing old r moment) (IsAlert (most + 1))
judged_alert None old r moment most shown order is = tt
judged_alert (Some fs) old r moment most shown order is = after_is old r.id r.holder fs moment most shown order is

-- the alert of each release is what a function gives
abbrev pub Agrees : (Release → Option Alert) → List Alert → List Release → Type 0
Agrees j alerts rs = AllByRecursion (λ r. alert_at r.id alerts ≡ j r) rs

-- each alert that the function gives is of its release
abbrev pub Of : (Release → Option Alert) → Type 0
Of j = (r : Release) → IfSome (j r) (IsOf r.id)

-- an alert of an earlier release in front
after_option : (id low : ℕ) (o : Option Alert) (alerts : List Alert) → low < id → IfSome o (IsOf low) → alert_at id (cons_option o alerts) ≡ alert_at id alerts
after_option id low None alerts less is = refl
after_option id low (Some a) alerts less is = let ne : a.release ≡ id → ⊥ = λ e. absurd (omega (arith, is, e)) in rw (ne_eqb a.release id ne) refl

rise_lower : (low high : ℕ) (rs : List Release) (next : ℕ) → low ≤ high → Rise high rs next → Rise low rs next
rise_lower low high [] next less rise = omega arith
rise_lower low high (r ∷ rs) next less rise = (let above = rise.0 in omega arith, rise.1)

agrees_after : (j : Release → Option Alert) (low : ℕ) (o : Option Alert) (alerts : List Alert) (rs : List Release) (next : ℕ)
    → IfSome o (IsOf low) → Rise (low + 1) rs next → Agrees j alerts rs → Agrees j (cons_option o alerts) rs
agrees_after j low o alerts [] next is rise agrees = tt
agrees_after j low o alerts (r ∷ rs) next is rise agrees =
    let above = rise.0 in
    (after_option r.id low o alerts (omega (arith, above)) is ∙ agrees.0, agrees_after j low o alerts rs next is (rise_lower (low + 1) (r.id + 1) rs next (omega (arith, above)) rise.1) agrees.1)

-- an alert of a later release in front
before_option : (id high : ℕ) (o : Option Alert) (alerts : List Alert) → id < high → IfSome o (IsOf high) → alert_at id (cons_option o alerts) ≡ alert_at id alerts
before_option id high None alerts less is = refl
before_option id high (Some a) alerts less is = let ne : a.release ≡ id → ⊥ = λ e. absurd (omega (arith, is, e)) in rw (ne_eqb a.release id ne) refl

pub none_before : (j : Release → Option Alert) (id low : ℕ) (rs : List Release) (next : ℕ) → Of j → id < low → Rise low rs next → alert_at id (filter_map j rs) ≡ None
none_before j id low [] next of within rise = refl
none_before j id low (r ∷ rs) next of within rise =
    let above = rise.0 in
    before_option id r.id (j r) (filter_map j rs) (omega arith) (of r) ∙ none_before j id (r.id + 1) rs next of (omega arith) rise.1

here_by : (id : ℕ) (o : Option Alert) (alerts : List Alert) → IfSome o (IsOf id) → alert_at id alerts ≡ None → alert_at id (cons_option o alerts) ≡ o
here_by id None alerts is none = none
here_by id (Some a) alerts is none = rw (eq-eqb a.release id is) refl

-- the alerts that a function gives, in order of their releases, are found by their releases
pub agrees_all : (j : Release → Option Alert) (low : ℕ) (rs : List Release) (next : ℕ) → Of j → Rise low rs next → Agrees j (filter_map j rs) rs
agrees_all j low [] next of rise = tt
agrees_all j low (r ∷ rs) next of rise = (
  here_by r.id (j r) (filter_map j rs) (of r) (none_before j r.id (r.id + 1) rs next of (omega arith) rise.1),
  agrees_after j r.id (j r) (filter_map j rs) rs next (of r) rise.1 (agrees_all j (r.id + 1) rs next of rise.1),
)

agreed : (j : Release → Option Alert) (alerts : List Alert) (rs : List Release) → Agrees j alerts rs → filter_map j rs ≡ filter_map (λ r. alert_at r.id alerts) rs
agreed j alerts [] agrees = refl
agreed j alerts (r ∷ rs) agrees =
    ap (λ o. cons_option o (filter_map j rs)) (sym agrees.0) ∙ ap (λ (rest : List Alert). cons_option (alert_at r.id alerts) rest) (agreed j alerts rs agrees.1)

-- the alerts are those of the releases, each once
pub all_own : (t : State) (low next : ℕ) → Rise low t.releases next → judged_all t ≡ filter_map (λ r. alert_at r.id (judged_all t)) t.releases
all_own t low next rise = agreed (judged t) (judged_all t) t.releases (agrees_all (judged t) low t.releases next (judged_is t) rise)

abbrev pub AreTold : List Alert → List Release → Type 0
AreTold alerts rs = AllByRecursion (λ r. IsToldTo r.holder (alert_at r.id alerts)) rs

alerted_by : (t : State) (alerts : List Alert) (rs : List Release) → Agrees (judged t) alerts rs → AreTold t.alerts rs → AllByRecursion (IsAlerted (grounds_of t) alerts) rs
alerted_by t alerts [] agrees told = tt
alerted_by t alerts (r ∷ rs) agrees told = (
  subst (λ (o : Option Alert). Matches o (failing_of (grounds_of t) r) × IsToldTo r.holder o) (sym agrees.0)
      (matches (failing_of (grounds_of t) r) (alert_at r.id t.alerts) r t.moment, judged_told (failing_of (grounds_of t) r) (alert_at r.id t.alerts) r t.moment told.0),
  alerted_by t alerts rs agrees.1 told.1,
)

-- once all are judged, each alert is as its rules ask, and told to the holder
pub are_alerted : (t : State) (low next : ℕ) → Rise low t.releases next → AreTold t.alerts t.releases → AllByRecursion (IsAlerted (grounds_of t) (judged_all t)) t.releases
are_alerted t low next rise told = alerted_by t (judged_all t) t.releases (agrees_all (judged t) low t.releases next (judged_is t) rise) told

each_option : (P : Alert → Type 0) (o : Option Alert) (alerts : List Alert) → IfSome o P → AllByRecursion P alerts → AllByRecursion P (cons_option o alerts)
each_option P None alerts here all = all
each_option P (Some a) alerts here all = (here, all)

pub is_alert_at : (alerts : List Alert) (most id : ℕ) → AllByRecursion (IsAlert most) alerts → IfSome (alert_at id alerts) (IsAlert most)
is_alert_at alerts most id all = found_each (IsAlert most) (λ a. eqb a.release id) alerts all

pub are_alerts : (t : State) (most : ℕ) (rs : List Release) → IsMoment t.moment → AreRising t.deferrals → AllByRecursion (IsAlert most) t.alerts → AllByRecursion (IsAlert (most + 1)) (filter_map (judged t) rs)
are_alerts t most [] shown rising all = tt
are_alerts t most (r ∷ rs) shown rising all =
    each_option (IsAlert (most + 1)) (judged t r) (filter_map (judged t) rs)
    (judged_alert (failing_of (grounds_of t) r) (alert_at r.id t.alerts) r t.moment most shown (failing_order (grounds_of t) r.active r.phase rising) (is_alert_at t.alerts most r.id all))
    (are_alerts t most rs shown rising all)

pub rise_bound : (low : ℕ) (rs : List Release) (next : ℕ) → Rise low rs next → low ≤ next
rise_bound low [] next rise = rise
rise_bound low (r ∷ rs) next rise = let more = rise_bound (r.id + 1) rs next rise.1 in let one = rise.0 in omega (arith, more, one)

-- no alert of an id that is above all
none_after : (j : Release → Option Alert) (id low : ℕ) (rs : List Release) (next : ℕ) → Of j → next ≤ id → Rise low rs next → alert_at id (filter_map j rs) ≡ None
none_after j id low [] next of within rise = refl
none_after j id low (r ∷ rs) next of within rise =
    let less = rise_bound (r.id + 1) rs next rise.1 in
    after_option id r.id (j r) (filter_map j rs) (omega (arith, less, within)) (of r) ∙ none_after j id (r.id + 1) rs next of within rise.1

-- the release that comes next has no alert
pub none_next : (alerts : List Alert) (rs : List Release) (next : ℕ) → alerts ≡ filter_map (λ r. alert_at r.id alerts) rs → Rise 0 rs next → alert_at next alerts ≡ None
none_next alerts rs next own rise =
    ap (λ (held : List Alert). alert_at next held) own ∙ none_after (λ r. alert_at r.id alerts) next 0 rs next (λ r. found_of r.id alerts) (omega arith) rise

-- an alert that goes
without_by : (gone id : ℕ) (a : Alert) (rest kept : List Alert) (b c d : Bool) → eqb a.release gone ≡ b → eqb a.release id ≡ c → eqb id gone ≡ d
    → alert_at id kept ≡ cond d None (alert_at id rest) → alert_at id (cond (not b) (a ∷ kept) kept) ≡ cond d None (cond c (Some a) (alert_at id rest))
without_by gone id a rest kept true c true e f g more = more
without_by gone id a rest kept true false false e f g more = more
without_by gone id a rest kept true true false e f g more =
    absurd (let one = eqb-true a.release gone e in let two = eqb-true a.release id f in let ne : eqb id gone ≡ true = eq-eqb id gone (sym two ∙ one) in let bad : false ≡ true = sym g ∙ ne in cc)
without_by gone id a rest kept false true true e f g more =
    absurd (let two = eqb-true a.release id f in let three = eqb-true id gone g in let ne : eqb a.release gone ≡ true = eq-eqb a.release gone (two ∙ three) in let bad : false ≡ true = sym e ∙ ne in cc)
without_by gone id a rest kept false true false e f g more = rw f refl
without_by gone id a rest kept false false d e f g more = rw f more

abbrev no_alert : Option Alert
no_alert = None

none_either : (b : Bool) → no_alert ≡ cond b None no_alert
none_either true = refl
none_either false = refl

pub alert_without : (gone id : ℕ) (alerts : List Alert) → alert_at id (without_alert gone alerts) ≡ cond (eqb id gone) None (alert_at id alerts)
alert_without gone id [] = none_either (eqb id gone)
alert_without gone id (a ∷ rest) = without_by gone id a rest (without_alert gone rest) _ _ _ refl refl refl (alert_without gone id rest)

kept_by : (b : Bool) (o : Option Alert) (P : Alert → Type 0) → IfSome o P → IfSome (cond b None o) P
kept_by true o P is = tt
kept_by false o P is = is

each_kept : (P : Alert → Type 0) (b : Bool) (a : Alert) (rest : List Alert) → P a → AllByRecursion P rest → AllByRecursion P (cond (not b) (a ∷ rest) rest)
each_kept P true a rest here all = all
each_kept P false a rest here all = (here, all)

each_without : (P : Alert → Type 0) (gone : ℕ) (alerts : List Alert) → AllByRecursion P alerts → AllByRecursion P (without_alert gone alerts)
each_without P gone [] all = tt
each_without P gone (a ∷ rest) all = each_kept P _ a (without_alert gone rest) all.0 (each_without P gone rest all.1)

-- ids rise on
pub rise_push : (low : ℕ) (rs : List Release) (next : ℕ) (r : Release) → Rise low rs next → r.id ≡ next → Rise low (rs ++ r ∷ []) (next + 1)
rise_push low [] next r rise is = (omega arith, omega arith)
rise_push low (q ∷ qs) next r rise is = (rise.0, rise_push (q.id + 1) qs next r rise.1 is)

rise_put_by : (low : ℕ) (q r : Release) (qs more : List Release) (next : ℕ) (b : Bool) → eqb q.id r.id ≡ b → low ≤ q.id → Rise (q.id + 1) qs next → Rise (q.id + 1) more next
    → Rise low (cond b (r ∷ qs) (q ∷ more)) next
rise_put_by low q r qs more next true e less rest later =
    let same = eqb-true q.id r.id e in (omega (arith, same, less), subst (λ (id : ℕ). Rise (id + 1) qs next) same rest)
rise_put_by low q r qs more next false e less rest later = (less, later)

pub rise_put : (low : ℕ) (r : Release) (rs : List Release) (next : ℕ) → Rise low rs next → Rise low (put_release r rs) next
rise_put low r [] next rise = rise
rise_put low r (q ∷ qs) next rise = rise_put_by low q r qs (put_release r qs) next _ refl rise.0 rise.1 (rise_put (q.id + 1) r qs next rise.1)

rise_without_by : (low : ℕ) (q : Release) (qs more : List Release) (next : ℕ) (b : Bool) → low ≤ q.id → Rise (q.id + 1) qs next → Rise (q.id + 1) more next → Rise low (cond b qs (q ∷ more)) next
rise_without_by low q qs more next true less rest later = rise_lower low (q.id + 1) qs next (omega (arith, less)) rest
rise_without_by low q qs more next false less rest later = (less, later)

pub rise_without : (low id : ℕ) (rs : List Release) (next : ℕ) → Rise low rs next → Rise low (without_release id rs) next
rise_without low id [] next rise = rise
rise_without low id (q ∷ qs) next rise = rise_without_by low q qs (without_release id qs) next _ rise.0 rise.1 (rise_without (q.id + 1) id qs next rise.1)

-- an alert that is acknowledged

acknowledged_of : (seen : ℕ) (a : Alert) → (acknowledged_if seen a).release ≡ a.release
acknowledged_of seen a = by_mark (eqb a.release seen) a
  where
    by_mark : (b : Bool) (a : Alert) → (cond b (record a { acknowledged = true }) a).release ≡ a.release
    by_mark true a = refl
    by_mark false a = refl

found_seen : (seen id : ℕ) (a : Alert) (b : Bool) (later kept : Option Alert) → kept ≡ option_map (acknowledged_if seen) later
    → cond b (Some (acknowledged_if seen a)) kept ≡ option_map (acknowledged_if seen) (cond b (Some a) later)
found_seen seen id a true later kept e = refl
found_seen seen id a false later kept e = e

alert_seen : (seen id : ℕ) (alerts : List Alert) → alert_at id (map (acknowledged_if seen) alerts) ≡ option_map (acknowledged_if seen) (alert_at id alerts)
alert_seen seen id [] = refl
alert_seen seen id (a ∷ rest) =
    ap (λ n. cond (eqb n id) (Some (acknowledged_if seen a)) (alert_at id (map (acknowledged_if seen) rest))) (acknowledged_of seen a)
    ∙ found_seen seen id a (eqb a.release id) (alert_at id rest) (alert_at id (map (acknowledged_if seen) rest)) (alert_seen seen id rest)

-- the alert of a release that an effect leaves
pub alerts_kept : (on : OnAlerts) (id : ℕ) (alerts : List Alert) → alert_at id (alerts_after on alerts) ≡ kept_alert on id (alert_at id alerts)
alerts_kept on_alerts.Nothing id alerts = refl
alerts_kept (on_alerts.Take gone) id alerts = alert_without gone id alerts
alerts_kept (on_alerts.Acknowledge seen) id alerts = alert_seen seen id alerts

-- what doesn't ask whether an alert is acknowledged holds of the alert that is left
seen_kept : (P : Alert → Type 0) → ((a : Alert) → P a → P (record a { acknowledged = true })) → (seen : ℕ) (a : Alert) → P a → P (acknowledged_if seen a)
seen_kept P keeps seen a is = by_mark (eqb a.release seen)
  where
    by_mark : (b : Bool) → P (cond b (record a { acknowledged = true }) a)
    by_mark true = keeps a is
    by_mark false = is

option_seen : (P : Alert → Type 0) → ((a : Alert) → P a → P (record a { acknowledged = true })) → (seen : ℕ) (o : Option Alert) → IfSome o P → IfSome (option_map (acknowledged_if seen) o) P
option_seen P keeps seen None is = tt
option_seen P keeps seen (Some a) is = seen_kept P keeps seen a is

pub kept_has : (P : Alert → Type 0) → ((a : Alert) → P a → P (record a { acknowledged = true })) → (on : OnAlerts) (id : ℕ) (o : Option Alert) → IfSome o P → IfSome (kept_alert on id o) P
kept_has P keeps on_alerts.Nothing id o is = is
kept_has P keeps (on_alerts.Take gone) id o is = kept_by (eqb id gone) o P is
kept_has P keeps (on_alerts.Acknowledge seen) id o is = option_seen P keeps seen o is

each_seen : (P : Alert → Type 0) → ((a : Alert) → P a → P (record a { acknowledged = true })) → (seen : ℕ) (alerts : List Alert) → AllByRecursion P alerts
    → AllByRecursion P (map (acknowledged_if seen) alerts)
each_seen P keeps seen [] all = tt
each_seen P keeps seen (a ∷ rest) all = (seen_kept P keeps seen a all.0, each_seen P keeps seen rest all.1)

-- and of all that are left
pub alerts_have : (P : Alert → Type 0) → ((a : Alert) → P a → P (record a { acknowledged = true })) → (on : OnAlerts) (alerts : List Alert) → AllByRecursion P alerts
    → AllByRecursion P (alerts_after on alerts)
alerts_have P keeps on_alerts.Nothing alerts all = all
alerts_have P keeps (on_alerts.Take gone) alerts all = each_without P gone alerts all
alerts_have P keeps (on_alerts.Acknowledge seen) alerts all = each_seen P keeps seen alerts all

pub told_kept : (on : OnAlerts) (alerts : List Alert) (rs : List Release) → AreTold alerts rs → AreTold (alerts_after on alerts) rs
told_kept on alerts [] all = tt
told_kept on alerts (r ∷ rs) all = (
  subst (λ (o : Option Alert). IsToldTo r.holder o) (sym (alerts_kept on r.id alerts)) (kept_has (λ a. a.desk ≡ r.holder) (λ a is. is) on r.id (alert_at r.id alerts) all.0),
  told_kept on alerts rs all.1,
)
