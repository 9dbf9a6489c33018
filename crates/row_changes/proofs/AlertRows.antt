-- Alerts under their releases, through the changes of an event.
use Rattle.std.proofs.Common.{◌≡◌, ℕ, ◌+◌, ◌<◌, Bool, true, false, cond, eqb, ltb, lit≤, lit<, List, [], ◌∷◌, Option, None, Some, IfSome, refl, ap, sym, ◌∙◌, subst, arith}
use Rattle.std.specs.Option.{option_map}
use Rattle.std.specs.List.{AllByRecursion, filter_map, cons_option}
use Rattle.std.proofs.lemmas.Bool.{eqb-true, ltb-true}
use Rattle.std.proofs.lemmas.Bool.Decides.{nat_tests}
use Rattle.plan.specs.declared.release.Release.{Release}
use Rattle.alerts.specs.declared.alert.Alert.{Alert}
use Rattle.desk_state.specs.declared.change.AlertChange.{AlertChange}
use Rattle.desk_state.specs.declared.effect.Effect.{Effect}
use Rattle.desk_state.specs.Events.{effected, is_same_alert, change_between, changes_from, changes_over, alert_changes, put_alert, put_changes}
pub use Rattle.desk_state.specs.Install.{IsOwn}
use Rattle.desk_state.specs.Sound.{AreJudgeable, Sound, Rise}
use Rattle.desk_state.specs.State.{State, alert_at, judged}
use Rattle.desk_state.proofs.Judging.{IsOf, Of, found_of, judged_is}
use Rattle.desk_state.proofs.Changes.{all_above}
use Rattle.desk_state.proofs.Parts.{judgeable}
use Rattle.records.specs.Bodies.{row_in, row_of}
use Rattle.records.specs.declared.record.Record.TheVariants as record_of
use Rattle.row_changes.specs.Rows.{alert_kept}
use Rattle.row_changes.specs.Changes.{alert_row, alert_rows}
use Rattle.row_changes.proofs.Parts.{Body, changed_at, becomes, IsTo}
use Rattle.row_changes.proofs.Items.{exchanged, twice, not_both, above_not, Ascends, found_at, absent, none_later}
use Rattle.desk_io.proofs.Each.{each_append, each_weaker}

abbrev pub release_of : Alert → ℕ
release_of a = a.release

-- alerts in order of their releases
filter_ascends : (j : Release → Option Alert) (low next : ℕ) (rs : List Release) → Of j → Rise low rs next → Ascends release_of (filter_map j rs)
filter_ascends j low next [] of rise = tt
filter_ascends j low next (r ∷ rs) of rise = by (j r) (of r) (filter_ascends j (r.id + 1) next rs of rise.1)
  where
    by : (o : Option Alert) → IfSome o (IsOf r.id) → Ascends release_of (filter_map j rs) → Ascends release_of (cons_option o (filter_map j rs))
    by None is rest = rest
    by (Some a) is rest = (all_above j (r.id + 1) rs next of a.release (omega (arith, is)) rise.1, rest)

pub judgeable_ascend : (s : State) → AreJudgeable s → Ascends release_of s.alerts
judgeable_ascend s judgeable =
    subst (Ascends release_of) (sym judgeable.own)
    (filter_ascends (λ r. alert_at r.id s.alerts) 0 s.counters.next_release s.releases (λ r. found_of r.id s.alerts) judgeable.ids)

pub alerts_ascend : (s : State) → Sound s → Ascends release_of s.alerts
alerts_ascend s sound = judgeable_ascend s (judgeable s sound)

-- One alert.

above_put : (low id : ℕ) (o : Option Alert) (held : List Alert) → low < id → IfSome o (IsOf id) → AllByRecursion (λ a. low < a.release) held
    → AllByRecursion (λ a. low < a.release) (put_alert id o held)
above_put low id o held less is = over held
  where
    front : (p : Option Alert) → IfSome p (IsOf id) → (rest : List Alert) → AllByRecursion (λ a. low < a.release) rest → AllByRecursion (λ a. low < a.release) (cons_option p rest)
    front None own rest all = all
    front (Some a) own rest all = (omega (arith, own, less), all)

    by : (u v : Bool) (a : Alert) (rest more : List Alert) → low < a.release → AllByRecursion (λ b. low < b.release) rest → AllByRecursion (λ b. low < b.release) more
        → AllByRecursion (λ b. low < b.release) (cond u (cons_option o rest) (cond v (cons_option o (a ∷ rest)) (a ∷ more)))
    by true v a rest more here all later = front o is rest all
    by false true a rest more here all later = front o is (a ∷ rest) (here, all)
    by false false a rest more here all later = (here, later)

    over : (all_held : List Alert) → AllByRecursion (λ a. low < a.release) all_held → AllByRecursion (λ a. low < a.release) (put_alert id o all_held)
    over [] all = front o is [] tt
    over (a ∷ rest) all = by _ _ a rest (put_alert id o rest) all.0 all.1 (over rest all.1)

-- the order stays
put_ascends : (id : ℕ) (o : Option Alert) (held : List Alert) → IfSome o (IsOf id) → Ascends release_of held → Ascends release_of (put_alert id o held)
put_ascends id None [] is rising = tt
put_ascends id (Some a) [] is rising = (tt, tt)
put_ascends id o (a ∷ rest) is rising = by o is (eqb a.release id) (ltb id a.release) refl refl (λ less. above_put a.release id o rest less is rising.0) (put_ascends id o rest is rising.1)
  where
    by : (p : Option Alert) → IfSome p (IsOf id) → (u v : Bool) → eqb a.release id ≡ u → ltb id a.release ≡ v
        → (a.release < id → AllByRecursion (λ b. a.release < b.release) (put_alert id o rest)) → Ascends release_of (put_alert id o rest)
        → Ascends release_of (cond u (cons_option p rest) (cond v (cons_option p (a ∷ rest)) (a ∷ put_alert id o rest)))
    by None own true v e f above later = rising.1
    by (Some b) own true v e f above later =
        let same = eqb-true a.release id e in
        (each_weaker (λ c. a.release < c.release) (λ c. b.release < c.release) (λ c less. omega (arith, less, same, own)) rest rising.0, rising.1)
    by None own false true e f above later = rising
    by (Some b) own false true e f above later =
        let less = ltb-true id a.release f in
        ((omega (arith, less, own), each_weaker (λ c. a.release < c.release) (λ c. b.release < c.release) (λ c more. omega (arith, more, less, own)) rest rising.0), rising)
    by p own false false e f above later = (above (grind (arith, nat_tests, e, f)), later)

module _ (body : Alert → Body) where
  -- an alert, or none, in front of those of later releases
  found_front : (id : ℕ) (o : Option Alert) (rest : List Alert) (q : ℕ) → IfSome o (IsOf id) → (eqb id q ≡ true → found_at release_of body q rest ≡ None)
      → found_at release_of body q (cons_option o rest) ≡ cond (eqb id q) (option_map body o) (found_at release_of body q rest)
  found_front id (Some a) rest q is none = ap (λ (n : ℕ). cond (eqb n q) (Some (body a)) (found_at release_of body q rest)) is
  found_front id None rest q is none = by (eqb id q) none
    where
      by : (s : Bool) → (s ≡ true → found_at release_of body q rest ≡ None) → found_at release_of body q rest ≡ cond s None (found_at release_of body q rest)
      by true none = none refl
      by false none = refl

  -- the release has what was put, and every other what it had
  put_found : (id : ℕ) (o : Option Alert) (held : List Alert) (q : ℕ) → IfSome o (IsOf id) → Ascends release_of held
      → found_at release_of body q (put_alert id o held) ≡ cond (eqb id q) (option_map body o) (found_at release_of body q held)
  put_found id o [] q is rising = found_front id o [] q is (λ e. refl)
  put_found id o (a ∷ rest) q is rising = by (eqb a.release id) (ltb id a.release) refl refl (put_found id o rest q is rising.1)
    where
      by : (u v : Bool) → eqb a.release id ≡ u → ltb id a.release ≡ v
          → found_at release_of body q (put_alert id o rest) ≡ cond (eqb id q) (option_map body o) (found_at release_of body q rest)
          → found_at release_of body q (cond u (cons_option o rest) (cond v (cons_option o (a ∷ rest)) (a ∷ put_alert id o rest)))
          ≡ cond (eqb id q) (option_map body o) (cond (eqb a.release q) (Some (body a)) (found_at release_of body q rest))
      by true v e f later =
          let same = eqb-true a.release id e in
          found_front id o rest q is (λ at. absent release_of body q rest (none_later release_of body q a.release rest (ap (λ (n : ℕ). eqb n q) same ∙ at) rising.0))
          ∙ sym (ap (λ (n : ℕ). cond (eqb id q) (option_map body o) (cond (eqb n q) (Some (body a)) (found_at release_of body q rest))) same
          ∙ twice (eqb id q) (option_map body o) (Some (body a)) (found_at release_of body q rest))
      by false true e f later =
          let less = ltb-true id a.release f in
          found_front id o (a ∷ rest) q is
          (λ at. absent release_of body q (a ∷ rest)
          (above_not id a.release q less at, none_later release_of body q id rest at (each_weaker (λ c. a.release < c.release) (λ c. id < c.release) (λ c more. omega (arith, more, less)) rest rising.0)))
      by false false e f later =
          ap (λ p. cond (eqb a.release q) (Some (body a)) p) later
          ∙ sym (exchanged (eqb id q) (eqb a.release q) (option_map body o) (Some (body a)) (found_at release_of body q rest) (not_both a.release id q e))

-- Changes of alerts.

between_own : (id : ℕ) (before after : Option Alert) → IfSome after (IsOf id) → AllByRecursion IsOwn (change_between id before after)
between_own id None None is = tt
between_own id None (Some b) is = (is, tt)
between_own id (Some a) None is = (tt, tt)
between_own id (Some a) (Some b) is = by (is_same_alert a b)
  where
    by : (same : Bool) → AllByRecursion IsOwn (cond same [] (record { release = id; before = Some a; after = Some b } ∷ []))
    by true = tt
    by false = (is, tt)

over_own : (t : State) (held : List Alert) (rs : List Release) → AllByRecursion IsOwn (changes_over t held rs)
over_own t held [] = tt
over_own t held (r ∷ rs) =
    each_append IsOwn (changes_from t (alert_at r.id held) r) (changes_over t held rs)
    (each_append IsOwn (change_between r.id (alert_at r.id held) (alert_at r.id t.alerts)) (change_between r.id (alert_at r.id t.alerts) (judged t r))
    (between_own r.id (alert_at r.id held) (alert_at r.id t.alerts) (found_of r.id t.alerts))
    (between_own r.id (alert_at r.id t.alerts) (judged t r) (judged_is t r)))
    (over_own t held rs)

pub changes_own : (effect : Effect) (s : State) → AllByRecursion IsOwn (alert_changes effect s)
changes_own effect s = over_own (effected effect s) s.alerts (effected effect s).releases

abbrev pub alert_body : Alert → Body
alert_body a = (row_of (record_of.Alert (alert_kept a))).body

one_row : (id : ℕ) (o : Option Alert) (q : ℕ) (p : Option Body) → IfSome o (IsOf id) → changed_at 5 q (alert_row id o) p ≡ cond (eqb id q) (option_map alert_body o) p
unfolding row_in
one_row id None q p is = refl
one_row id (Some a) q p is = ap (λ (n : ℕ). cond (eqb n q) (Some (alert_body a)) p) is

-- the rows of the alerts go through the changes of alerts
pub changes_found : (cs : List AlertChange) (held : List Alert) (q : ℕ) → AllByRecursion IsOwn cs → Ascends release_of held
    → becomes 5 q (alert_rows cs) (found_at release_of alert_body q held) ≡ found_at release_of alert_body q (put_changes cs held)
changes_found [] held q own rising = refl
changes_found (c ∷ cs) held q own rising =
    ap (λ o. becomes 5 q (alert_rows cs) o)
    (one_row c.release c.after q (found_at release_of alert_body q held) own.0 ∙ sym (put_found alert_body c.release c.after held q own.0 rising))
    ∙ changes_found cs (put_alert c.release c.after held) q own.1 (put_ascends c.release c.after held own.0 rising)

one_only : (id : ℕ) (o : Option Alert) → IsTo 5 6 (alert_row id o)
unfolding row_in
one_only id None = (lit≤ tt, lit< tt)
one_only id (Some a) = (lit≤ tt, lit< tt)

pub rows_only : (cs : List AlertChange) → AllByRecursion (IsTo 5 6) (alert_rows cs)
rows_only [] = tt
rows_only (c ∷ cs) = (one_only c.release c.after, rows_only cs)
