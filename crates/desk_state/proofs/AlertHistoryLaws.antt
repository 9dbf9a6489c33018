-- Every step keeps that alerts stay open until something settles them.
use Rattle.std.proofs.Common.{◌≡◌, ◌⊎◌, inl, inr, ℕ, zero, suc, ◌+◌, ◌<◌, ◌≤◌, Bool, true, false, eqb, List, [], ◌∷◌, ◌++◌, length, length-append, Option, None, Some, IfSome, refl, ap, sym, ◌∙◌, subst, arith}
use Rattle.std.specs.Prelude.{nat_le, take, slice_get}
use Rattle.std.specs.List.{AllByRecursion}
use Rattle.std.proofs.Math.Seq.{take-append_seam, take-length}
use Rattle.std.proofs.lemmas.Bool.{leb-false, leb-true}
use Rattle.std.proofs.lemmas.List.{take-append-le}
use Rattle.plan.specs.declared.findings.Finding.{Finding}
use Rattle.plan.specs.declared.release.Release.{Release}
use Rattle.alerts.specs.declared.alert.Alert.{Alert}
use Rattle.alerts.specs.Alerts.{are_same, alert_once_open}
use Rattle.asks.specs.declared.call.Ask.{Ask}
use Rattle.asks.specs.declared.reply.Done.{Done as DoneType}
use Rattle.release_index.specs.Below.{Grounds, findings_of}
use Rattle.desk_state.specs.declared.effect.Effect.{Effect}
use Rattle.desk_state.specs.declared.entry.Entry.{Entry}
use Rattle.desk_state.specs.declared.entry.What.{What}
use Rattle.desk_state.specs.AlertHistory.{Settles, IsSettledBy, IsSettledBetween, IsStill, alert_after_first, StayOpen}
use Rattle.desk_state.specs.Allowed.{IsEffectOf}
use Rattle.desk_state.specs.Effects.{tick}
use Rattle.desk_state.specs.Events.{effected, kept_alert}
use Rattle.desk_state.specs.Legal.{Legal, IsHistory, after_entries, next}
use Rattle.desk_state.specs.Sound.{EffectFits, Sound}
use Rattle.desk_state.specs.State.{State, grounds_of, failing_if, failing_in, failing_of, release_at, alert_at, alert_for, judged, judged_all}
use Rattle.desk_state.proofs.Each.{found_each}
use Rattle.desk_state.proofs.ForceLaws.{IsInForce, HasInForce, IsLeft, LeavesForce, alert_in_force, ask_leaves}
use Rattle.desk_state.proofs.Found.{if_found}
use Rattle.desk_state.proofs.Judging.{Agrees, agrees_all, alerts_kept, judged_is}
use Rattle.desk_state.proofs.Parts.{releases_rise}
use Rattle.desk_state.proofs.ToldLaws.{found_id}

-- ---- one step

once_still : (b : Bool) (a left : Alert) (findings : List Finding) → left.opened ≡ a.opened → left.version ≡ a.version → IsStill a (Some (alert_once_open b left findings))
once_still true a left findings opened version = (opened, omega (arith, version))
once_still false a left findings opened version = (opened, omega (arith, version))

judged_still : (failing : Option (List Finding)) (findings : List Finding) (a left : Alert) (before : Option Alert) (r : Release) (moment : ℕ) → failing ≡ Some findings → before ≡ Some left → left.opened ≡ a.opened
    → left.version ≡ a.version → IsStill a (alert_for failing before r moment)
judged_still failing findings a left before r moment one two opened version =
    subst (λ (f : Option (List Finding)). IsStill a (alert_for f before r moment)) (sym one)
    (subst (λ (o : Option Alert). IsStill a (alert_for (Some findings) o r moment)) (sym two) (once_still (are_same left.failing findings) a left findings opened version))

failing_there : (g : Grounds) (r : Release) (is : IsInForce r) → failing_of g r ≡ Some (findings_of is.revision.plan r.phase g)
failing_there g r is = ap (λ o. failing_in g o r.phase) is.active ∙ ap (λ b. failing_if b g is.revision r.phase) is.judged

at_found : (P : Release → Type 0) (o : Option Release) (r : Release) → o ≡ Some r → IfSome o P → P r
at_found P o r is each = subst (λ (x : Option Release). IfSome x P) is each

-- the alert that is left stays open through the judgement
left_still : (does : Effect) (s : State) (id : ℕ) (a : Alert) → Sound s → EffectFits s does → alert_at id s.alerts ≡ Some a → LeavesForce does s id → IsStill a (alert_at id (judged_all (effected does s)))
left_still does s id a sound fits is leaves =
    let t : State = effected does s in
    let r : Release = leaves.force.release in
    let own : r.id ≡ id = found_id id t.releases r leaves.force.found in
    let left = leaves.left a in
    let agrees : Agrees (judged t) (judged_all t) t.releases = agrees_all (judged t) 0 t.releases t.counters.next_release (judged_is t) (releases_rise s does.on_releases fits.releases sound.ids) in
    let here : alert_at r.id (judged_all t) ≡ judged t r =
    at_found (λ q. alert_at q.id (judged_all t) ≡ judged t q) (release_at id t.releases) r leaves.force.found (found_each (λ q. alert_at q.id (judged_all t) ≡ judged t q) (λ q. eqb q.id id) t.releases agrees) in
    let before : alert_at r.id t.alerts ≡ Some left.left =
    alerts_kept does.on_alerts r.id s.alerts ∙ ap (λ n. kept_alert does.on_alerts n (alert_at n s.alerts)) own ∙ ap (kept_alert does.on_alerts id) is ∙ left.kept in
    let there : alert_at id (judged_all t) ≡ judged t r = ap (λ n. alert_at n (judged_all t)) (sym own) ∙ here in
    subst (IsStill a) (sym there)
    (judged_still (failing_of (grounds_of t) r) (findings_of leaves.force.force.revision.plan r.phase (grounds_of t)) a left.left (alert_at r.id t.alerts) r t.moment
    (failing_there (grounds_of t) r leaves.force.force) before left.opened left.version)

abbrev pub StaysBy : State → State → What → Type 0
StaysBy s t w = (id : ℕ) → IfSome (alert_at id s.alerts) (λ a. IsStill a (alert_at id t.alerts) ⊎ IsSettledBy s id w)

still_or : (does : Effect) (s : State) (id : ℕ) (a : Alert) (S : Type 0) → Sound s → EffectFits s does → alert_at id s.alerts ≡ Some a → LeavesForce does s id ⊎ S
    → IsStill a (alert_at id (judged_all (effected does s))) ⊎ S
still_or does s id a S sound fits is (inl leaves) = inl (left_still does s id a sound fits is leaves)
still_or does s id a S sound fits is (inr settles) = inr settles

-- an accepted ask
pub asked_stays : (s : State) (actor : List ℕ) (id : ℕ) {a : Ask} {does : Effect} {made : DoneType} → Sound s → EffectFits s does → IsEffectOf s actor a does made
    → IfSome (alert_at id s.alerts) (λ x. IsStill x (alert_at id (judged_all (effected does s))) ⊎ Settles s id a)
asked_stays s actor id {a = a} {does = does} sound fits is =
    if_found (λ x. IsStill x (alert_at id (judged_all (effected does s))) ⊎ Settles s id a) (alert_at id s.alerts)
    (λ x here. still_or does s id x (Settles s id a) sound fits here (ask_leaves s actor id is (alert_in_force s id x sound here)))

-- a tick
pub ticked_stays : (s : State) (to : ℕ) (w : What) → Sound s → EffectFits s (tick to) → (id : ℕ)
    → IfSome (alert_at id s.alerts) (λ x. IsStill x (alert_at id (judged_all (effected (tick to) s))) ⊎ IsSettledBy s id w)
ticked_stays s to w sound fits id =
    if_found (λ x. IsStill x (alert_at id (judged_all (effected (tick to) s))) ⊎ IsSettledBy s id w) (alert_at id s.alerts)
    (λ x here. inl (left_still (tick to) s id x sound fits here (record { force = alert_in_force s id x sound here; left = λ b. record { left = b; kept = refl; opened = refl; version = refl } })))

-- ---- the history

pub legal_after : (s : State) (es : List Entry) (t : State) → Legal s es t → after_entries s es ≡ t
legal_after s [] t is = is
legal_after s (e ∷ es) t legal = legal_after (next s e.lane e.what) es t legal.1

pub get_front : (xs ys : List Entry) (k : ℕ) → k < length xs → slice_get (xs ++ ys) k ≡ slice_get xs k
get_front [] ys k under = absurd (omega (arith, under))
get_front (x ∷ xs) ys zero under = refl
get_front (x ∷ xs) ys (suc k) under = get_front xs ys k (omega (arith, under))

pub get_last : (xs : List Entry) (e : Entry) → slice_get (xs ++ e ∷ []) (length xs) ≡ Some e
get_last [] e = refl
get_last (x ∷ xs) e = get_last xs e

own_still : (o : Option Alert) (S : Type 0) → IfSome o (λ a. IsStill a o ⊎ S)
own_still None S = tt
own_still (Some a) S = inl (refl, omega arith)

still_still : (a b : Alert) (o : Option Alert) → IsStill a (Some b) → IsStill b o → IsStill a o
still_still a b None one two = two
still_still a b (Some c) one two = (two.0 ∙ one.0, let low = one.1 in let high = two.1 in omega (arith, low, high))

-- first to one state, then to the next
through : (o m l : Option Alert) (B C : Type 0) → IfSome o (λ a. IsStill a m ⊎ B) → IfSome m (λ b. IsStill b l ⊎ C) → IfSome o (λ a. IsStill a l ⊎ (B ⊎ C))
through None m l B C one two = tt
through (Some a) m l B C (inr b) two = inr (inl b)
through (Some a) None l B C (inl still) two = absurd still
through (Some a) (Some b) l B C (inl still) (inl later) = inl (still_still a b l still later)
through (Some a) (Some b) l B C (inl still) (inr c) = inr (inr c)

weaker : (o l : Option Alert) (B C : Type 0) → (B → C) → IfSome o (λ a. IsStill a l ⊎ B) → IfSome o (λ a. IsStill a l ⊎ C)
weaker None l B C f is = tt
weaker (Some a) l B C f (inl still) = inl still
weaker (Some a) l B C f (inr b) = inr (f b)

module _ (opening s t : State) (e : Entry) (here : after_entries opening s.entries ≡ s) (there : after_entries opening (s.entries ++ e ∷ []) ≡ t) where
  abbrev more : List Entry
  more = s.entries ++ e ∷ []

  front_same : (p id : ℕ) → p ≤ length s.entries → alert_after_first opening more p id ≡ alert_after_first opening s.entries p id
  front_same p id within = ap (λ es. alert_at id (after_entries opening es).alerts) (take-append-le p s.entries (e ∷ []) within)

  wider : (p q r id : ℕ) → q ≤ r → q ≤ length s.entries → IsSettledBetween opening s.entries p q id → IsSettledBetween opening more p r id
  wider p q r id less within is =
      let by = is.by in
      let low : is.place < length s.entries = omega (arith, by, within) in
      record {
        place = is.place;
        since = is.since;
        by = omega (arith, by, less);
        one = is.one;
        found = get_front s.entries (e ∷ []) is.place low ∙ is.found;
        settles = subst (λ es. IsSettledBy (after_entries opening es) id is.one.what) (sym (take-append-le is.place s.entries (e ∷ []) (omega (arith, low)))) is.settles;
      }

  last_settles : (p q id : ℕ) → p ≤ length s.entries → length s.entries < q → IsSettledBy s id e.what → IsSettledBetween opening more p q id
  last_settles p q id low high is = record {
    place = length s.entries;
    since = low;
    by = high;
    one = e;
    found = get_last s.entries e;
    settles = subst (λ es. IsSettledBy (after_entries opening es) id e.what) (sym (take-append_seam s.entries (e ∷ []))) (subst (λ u. IsSettledBy u id e.what) (sym here) is);
  }

  both : (p q id : ℕ) → p ≤ length s.entries → length s.entries < q → IsSettledBetween opening s.entries p (length s.entries) id ⊎ IsSettledBy s id e.what → IsSettledBetween opening more p q id
  both p q id low high (inl is) = wider p (length s.entries) q id (omega (arith, high)) (omega arith) is
  both p q id low high (inr is) = last_settles p q id low high is

  at_front : (id : ℕ) → alert_after_first opening s.entries (length s.entries) id ≡ alert_at id s.alerts
  at_front id = ap (λ es. alert_at id (after_entries opening es).alerts) (take-length s.entries) ∙ ap (λ u. alert_at id u.alerts) here

  at_end : (q id : ℕ) → length s.entries < q → q ≤ length more → alert_after_first opening more q id ≡ alert_at id t.alerts
  at_end q id high within =
      let long : length more ≡ length s.entries + 1 = length-append s.entries (e ∷ []) in
      let all : q ≡ length more = omega (arith, long, high, within) in
      ap (λ n. alert_at id (after_entries opening (take n more)).alerts) all ∙ ap (λ es. alert_at id (after_entries opening es).alerts) (take-length more) ∙ ap (λ u. alert_at id u.alerts) there

  -- to a place among the earlier entries
  up_to : (p q id : ℕ) → p ≤ q → q ≤ length s.entries → StayOpen opening s.entries
      → IfSome (alert_after_first opening more p id) (λ a. IsStill a (alert_after_first opening more q id) ⊎ IsSettledBetween opening more p q id)
  unfolding StayOpen
  up_to p q id low within stay =
      subst (λ (o : Option Alert). IfSome o (λ a. IsStill a (alert_after_first opening more q id) ⊎ IsSettledBetween opening more p q id)) (sym (front_same p id (omega (arith, low, within))))
      (subst (λ (l : Option Alert). IfSome (alert_after_first opening s.entries p id) (λ a. IsStill a l ⊎ IsSettledBetween opening more p q id)) (sym (front_same q id within))
      (weaker (alert_after_first opening s.entries p id) (alert_after_first opening s.entries q id) _ _ (wider p q q id (omega arith) within) (stay p q id low within)))

  -- to the end
  to_end : (p q id : ℕ) → p ≤ length s.entries → length s.entries < q → q ≤ length more → StayOpen opening s.entries → StaysBy s t e.what
      → IfSome (alert_after_first opening more p id) (λ a. IsStill a (alert_after_first opening more q id) ⊎ IsSettledBetween opening more p q id)
  unfolding StayOpen
  to_end p q id low high within stay step =
      let earlier : IfSome (alert_after_first opening s.entries p id) (λ a. IsStill a (alert_at id s.alerts) ⊎ IsSettledBetween opening s.entries p (length s.entries) id) =
      subst (λ (l : Option Alert). IfSome (alert_after_first opening s.entries p id) (λ a. IsStill a l ⊎ IsSettledBetween opening s.entries p (length s.entries) id)) (at_front id)
      (stay p (length s.entries) id low (omega arith)) in
      subst (λ (o : Option Alert). IfSome o (λ a. IsStill a (alert_after_first opening more q id) ⊎ IsSettledBetween opening more p q id)) (sym (front_same p id low))
      (subst (λ (l : Option Alert). IfSome (alert_after_first opening s.entries p id) (λ a. IsStill a l ⊎ IsSettledBetween opening more p q id)) (sym (at_end q id high within))
      (weaker (alert_after_first opening s.entries p id) (alert_at id t.alerts) _ _ (both p q id low high)
      (through (alert_after_first opening s.entries p id) (alert_at id s.alerts) (alert_at id t.alerts) _ _ earlier (step id))))

  stay_more : StayOpen opening s.entries → StaysBy s t e.what → StayOpen opening more
  unfolding StayOpen
  stay_more stay step p q id low within = by_place (nat_le q (length s.entries)) refl
    where
      last : (b : Bool) → nat_le p (length s.entries) ≡ b → length s.entries < q → IfSome (alert_after_first opening more p id) (λ a. IsStill a (alert_after_first opening more q id) ⊎ IsSettledBetween opening more p q id)
      last true f high = to_end p q id (leb-true p (length s.entries) f) high within stay step
      last false f high =
          let above = leb-false p (length s.entries) f in
          let long : length more ≡ length s.entries + 1 = length-append s.entries (e ∷ []) in
          let same : q ≡ p = omega (arith, long, low, within, above) in
          subst (λ n. IfSome (alert_after_first opening more p id) (λ a. IsStill a (alert_after_first opening more n id) ⊎ IsSettledBetween opening more p n id)) (sym same)
          (own_still (alert_after_first opening more p id) (IsSettledBetween opening more p p id))

      by_place : (b : Bool) → nat_le q (length s.entries) ≡ b → IfSome (alert_after_first opening more p id) (λ a. IsStill a (alert_after_first opening more q id) ⊎ IsSettledBetween opening more p q id)
      by_place true f = up_to p q id low (leb-true q (length s.entries) f) stay
      by_place false f = last (nat_le p (length s.entries)) refl (leb-false q (length s.entries) f)

-- an entry more keeps that alerts stay open
pub still_open : (opening s t : State) (e : Entry) → IsHistory opening s → IsHistory opening t → t.entries ≡ s.entries ++ e ∷ [] → StaysBy s t e.what → StayOpen opening s.entries → StayOpen opening t.entries
still_open opening s t e before after grown step stay =
    subst (StayOpen opening) (sym grown)
    (stay_more opening s t e (legal_after opening s.entries s before.legal) (subst (λ es. after_entries opening es ≡ t) grown (legal_after opening t.entries t after.legal)) stay step)

-- nothing has happened yet
pub none_open : (opening : State) (entries : List Entry) → entries ≡ [] → StayOpen opening entries
unfolding StayOpen
none_open opening entries empty p q id low within =
    let none : length entries ≡ 0 = ap length empty in
    let same : q ≡ p = omega (arith, none, low, within) in
    subst (λ n. IfSome (alert_after_first opening entries p id) (λ a. IsStill a (alert_after_first opening entries n id) ⊎ IsSettledBetween opening entries p n id)) (sym same)
    (own_still (alert_after_first opening entries p id) (IsSettledBetween opening entries p p id))
