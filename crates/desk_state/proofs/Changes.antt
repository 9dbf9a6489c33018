-- The changes of the alerts lead from those before an event to those after it.
use Rattle.std.proofs.Common.{◌≡◌, ℕ, ◌+◌, ◌<◌, ◌≤◌, Bool, true, false, cond, eqb, ltb, List, [], ◌∷◌, ◌++◌, Option, None, Some, IfSome, refl, ap, sym, ◌∙◌, subst, arith, eq-eqb}
use Rattle.std.proofs.lemmas.Bool.{ne_eqb, eqb-true, lt-ltb, and_parts}
use Rattle.std.proofs.lemmas.Bool.Decides.{nat_tests}
use Rattle.std.proofs.lemmas.List.{append_assoc}
use Rattle.std.specs.Option.{option_map}
use Rattle.std.specs.List.{AllByRecursion, filter_map, cons_option}
use Rattle.plan.specs.declared.findings.Finding.{Finding}
use Rattle.plan.specs.declared.release.Release.{Release}
use Rattle.alerts.specs.declared.alert.Alert.{Alert}
use Rattle.alerts.specs.Alerts.{alert_once_open}
use Rattle.desk_state.specs.declared.change.AlertChange.{AlertChange}
use Rattle.desk_state.specs.declared.effect.Effect.{Effect}
use Rattle.desk_state.specs.declared.effect.OnAlerts.{OnAlerts}
use Rattle.desk_state.specs.declared.effect.OnAlerts.TheVariants as on_alerts
use Rattle.desk_state.specs.State.{State, grounds_of, failing_of, alert_at, alert_for, judged, judged_all}
use Rattle.desk_state.specs.Events.{effected, acknowledged_if, alerts_after, kept_alert, is_same_mark, is_same_alert, change_between, changes_over, alert_changes, put_alert, put_changes}
use Rattle.desk_state.specs.Sound.{Sound, AreJudgeable, Rise, EffectFits}
use Rattle.desk_state.proofs.Judging.{IsOf, Of, found_of, judged_is, alerts_kept}
use Rattle.desk_state.proofs.Parts.{judgeable, releases_own, releases_rise}

-- alerts of earlier and of later releases
abbrev pub AreBelow : ℕ → List Alert → Type 0
AreBelow id alerts = AllByRecursion (λ a. a.release < id) alerts

abbrev pub AreAbove : ℕ → List Alert → Type 0
AreAbove id alerts = AllByRecursion (λ a. id < a.release) alerts

-- the alert of a release is put behind those of earlier ones
put_below : (id : ℕ) (o : Option Alert) (xs ys : List Alert) → AreBelow id xs → put_alert id o (xs ++ ys) ≡ xs ++ put_alert id o ys
put_below id o [] ys below = refl
put_below id o (a ∷ xs) ys below =
    let less = below.0 in
    let ne : a.release ≡ id → ⊥ = λ e. absurd (omega (arith, e, less)) in
    let low : ltb id a.release ≡ false = grind (arith, nat_tests, less) in
    rw (ne_eqb a.release id ne, low) (ap (λ rest. a ∷ rest) (put_below id o xs ys below.1))

put_here : (id : ℕ) (old new : Option Alert) (ys : List Alert) → IfSome old (IsOf id) → AreAbove id ys → put_alert id new (cons_option old ys) ≡ cons_option new ys
put_here id (Some a) new ys is above = rw (eq-eqb a.release id is) refl
put_here id None new [] is above = refl
put_here id None new (a ∷ ys) is above =
    let less = above.0 in
    let ne : a.release ≡ id → ⊥ = λ e. absurd (omega (arith, e, less)) in
    rw (ne_eqb a.release id ne, lt-ltb id a.release less) refl

-- an alert of the same version and mark is the same
abbrev IsStep : Option Alert → Option Alert → Type 0
IsStep None new = Unit {0}
IsStep (Some a) None = Unit {0}
IsStep (Some a) (Some b) = is_same_alert a b ≡ true → a ≡ b

stands : (id : ℕ) (old new : Option Alert) (xs ys : List Alert) → AreBelow id xs → AreAbove id ys → IfSome old (IsOf id)
    → put_alert id new (xs ++ cons_option old ys) ≡ xs ++ cons_option new ys
stands id old new xs ys below above is = put_below id new xs (cons_option old ys) below ∙ ap (λ rest. xs ++ rest) (put_here id old new ys is above)

by_same : (id : ℕ) (a b : Alert) (same : Bool) (xs ys : List Alert) (more : List AlertChange) → is_same_alert a b ≡ same → (is_same_alert a b ≡ true → a ≡ b)
    → AreBelow id xs → AreAbove id ys → IsOf id a
    → put_changes (cond same [] (record { release = id; before = Some a; after = Some b } ∷ []) ++ more) (xs ++ a ∷ ys) ≡ put_changes more (xs ++ b ∷ ys)
by_same id a b true xs ys more e step below above is = ap (λ c. put_changes more (xs ++ c ∷ ys)) (step e)
by_same id a b false xs ys more e step below above is = ap (λ rest. put_changes more rest) (stands id (Some a) (Some b) xs ys below above is)

between : (id : ℕ) (old new : Option Alert) (xs ys : List Alert) (more : List AlertChange) → AreBelow id xs → AreAbove id ys → IfSome old (IsOf id) → IsStep old new
    → put_changes (change_between id old new ++ more) (xs ++ cons_option old ys) ≡ put_changes more (xs ++ cons_option new ys)
between id None None xs ys more below above is step = refl
between id None (Some b) xs ys more below above is step = ap (λ rest. put_changes more rest) (stands id None (Some b) xs ys below above is)
between id (Some a) None xs ys more below above is step = ap (λ rest. put_changes more rest) (stands id (Some a) None xs ys below above is)
between id (Some a) (Some b) xs ys more below above is step = by_same id a b _ xs ys more refl step below above is

version_rises : (a b : Alert) → b.version ≡ a.version + 1 → is_same_alert a b ≡ true → ⊥
version_rises a b more e =
    absurd (let same = eqb-true a.version b.version (and_parts (eqb a.version b.version) (is_same_mark a.acknowledged b.acknowledged) e).0 in omega (arith, same, more))

once_step : (b : Bool) (a : Alert) (fs : List Finding) → is_same_alert a (alert_once_open b a fs) ≡ true → a ≡ alert_once_open b a fs
once_step true a fs e = refl
once_step false a fs e = absurd (version_rises a (alert_once_open false a fs) refl e)

judged_step : (failing : Option (List Finding)) (old : Option Alert) (r : Release) (moment : ℕ) → IsStep old (alert_for failing old r moment)
judged_step None None r moment = tt
judged_step None (Some a) r moment = tt
judged_step (Some fs) None r moment = tt
judged_step (Some fs) (Some a) r moment = once_step _ a fs

-- the alert that an effect leaves is the one before it, or that one acknowledged, or none
same_step : (o : Option Alert) → IsStep o o
same_step None = tt
same_step (Some a) = λ e. refl

none_step : (b : Bool) (o : Option Alert) → IsStep o (cond b None o)
none_step true None = tt
none_step true (Some a) = tt
none_step false o = same_step o

mark_is : (mark : Bool) → is_same_mark mark true ≡ true → mark ≡ true
mark_is true e = refl
mark_is false e = absurd (cc)

abbrev marked : Alert → Bool → Alert
marked a mark = record a { acknowledged = mark }

seen_by : (b : Bool) (a : Alert) → is_same_alert a (cond b (marked a true) a) ≡ true → a ≡ cond b (marked a true) a
seen_by true a e = ap (λ mark. marked a mark) (mark_is a.acknowledged (and_parts (eqb a.version a.version) (is_same_mark a.acknowledged true) e).1)
seen_by false a e = refl

seen_step : (seen : ℕ) (o : Option Alert) → IsStep o (option_map (acknowledged_if seen) o)
seen_step seen None = tt
seen_step seen (Some a) = seen_by (eqb a.release seen) a

kept_step : (on : OnAlerts) (id : ℕ) (o : Option Alert) → IsStep o (kept_alert on id o)
kept_step on_alerts.Nothing id o = same_step o
kept_step (on_alerts.Take gone) id o = none_step (eqb id gone) o
kept_step (on_alerts.Acknowledge seen) id o = seen_step seen o

effect_step : (on : OnAlerts) (id : ℕ) (held : List Alert) → IsStep (alert_at id held) (alert_at id (alerts_after on held))
effect_step on id held = subst (IsStep (alert_at id held)) (sym (alerts_kept on id held)) (kept_step on id (alert_at id held))

above_option : (id high : ℕ) (o : Option Alert) (ys : List Alert) → id < high → IfSome o (IsOf high) → AreAbove id ys → AreAbove id (cons_option o ys)
above_option id high None ys less is above = above
above_option id high (Some a) ys less is above = (omega (arith, less, is), above)

pub all_above : (j : Release → Option Alert) (low : ℕ) (rs : List Release) (next : ℕ) → Of j → (id : ℕ) → id < low → Rise low rs next → AreAbove id (filter_map j rs)
all_above j low [] next of id within rise = tt
all_above j low (r ∷ rs) next of id within rise =
    let one = rise.0 in
    above_option id r.id (j r) (filter_map j rs) (omega (arith, one, within)) (of r) (all_above j (r.id + 1) rs next of id (omega (arith, one, within)) rise.1)

below_more : (id high : ℕ) (xs : List Alert) → id ≤ high → AreBelow id xs → AreBelow high xs
below_more id high [] within below = tt
below_more id high (a ∷ xs) within below = (let one = below.0 in omega (arith, one, within), below_more id high xs within below.1)

below_option : (id high : ℕ) (xs : List Alert) (o : Option Alert) → id < high → AreBelow id xs → IfSome o (IsOf id) → AreBelow high (xs ++ cons_option o [])
below_option id high [] None less below is = tt
below_option id high [] (Some a) less below is = (omega (arith, less, is), tt)
below_option id high (x ∷ xs) o less below is = (let one = below.0 in omega (arith, one, less), below_option id high xs o less below.1 is)

join : (xs ys : List Alert) (o : Option Alert) → xs ++ cons_option o ys ≡ (xs ++ cons_option o []) ++ ys
join [] ys None = refl
join [] ys (Some a) = refl
join (x ∷ xs) ys o = ap (λ rest. x ∷ rest) (join xs ys o)

-- release by release
over : (t : State) (alerts xs : List Alert) (low : ℕ) (rs : List Release) (next : ℕ) → ((id : ℕ) → IsStep (alert_at id alerts) (alert_at id t.alerts)) → Rise low rs next → AreBelow low xs
    → put_changes (changes_over t alerts rs) (xs ++ filter_map (λ r. alert_at r.id alerts) rs) ≡ xs ++ filter_map (judged t) rs
over t alerts xs low [] next step rise below = refl
over t alerts xs low (r ∷ rs) next step rise below =
    let before : Option Alert = alert_at r.id alerts in
    let kept : Option Alert = alert_at r.id t.alerts in
    let later : List Alert = filter_map (λ q. alert_at q.id alerts) rs in
    let more : List AlertChange = changes_over t alerts rs in
    let less = rise.0 in
    let under : AreBelow r.id xs = below_more low r.id xs (omega (arith, less)) below in
    let above : AreAbove r.id later = all_above (λ q. alert_at q.id alerts) (r.id + 1) rs next (λ q. found_of q.id alerts) r.id (omega arith) rise.1 in
    ap (λ cs. put_changes cs (xs ++ cons_option before later)) (append_assoc (change_between r.id before kept) (change_between r.id kept (judged t r)) more)
    ∙ between r.id before kept xs later (change_between r.id kept (judged t r) ++ more) under above (found_of r.id alerts) (step r.id)
    ∙ between r.id kept (judged t r) xs later more under above (found_of r.id t.alerts) (judged_step (failing_of (grounds_of t) r) kept r t.moment)
    ∙ ap (λ rest. put_changes more rest) (join xs later (judged t r))
    ∙ over t alerts (xs ++ cons_option (judged t r) []) (r.id + 1) rs next step rise.1 (below_option r.id (r.id + 1) xs (judged t r) (omega arith) under (judged_is t r))
    ∙ sym (join xs (filter_map (judged t) rs) (judged t r))

-- the changes lead to the alerts once every active release is judged
pub changes_lead_by : (effect : Effect) (s : State) → EffectFits s effect → AreJudgeable s → put_changes (alert_changes effect s) s.alerts ≡ judged_all (effected effect s)
changes_lead_by effect s fits listed =
    ap (λ (held : List Alert). put_changes (alert_changes effect s) held) (releases_own s effect.on_releases fits.releases listed)
    ∙ over (effected effect s) s.alerts [] 0 (effected effect s).releases (effected effect s).counters.next_release (λ id. effect_step effect.on_alerts id s.alerts)
    (releases_rise s effect.on_releases fits.releases listed.ids) tt

pub changes_lead : (effect : Effect) (s : State) → EffectFits s effect → Sound s → put_changes (alert_changes effect s) s.alerts ≡ judged_all (effected effect s)
changes_lead effect s fits sound = changes_lead_by effect s fits (judgeable s sound)

-- One pass over the releases and the alerts in their order.
