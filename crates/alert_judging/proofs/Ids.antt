-- The ids of the releases that are judged.
use Rattle.std.proofs.Common.{◌≡◌, ℕ, ◌+◌, ◌<◌, Bool, true, false, cond, eqb, ◌&&◌, ◌||◌, List, [], ◌∷◌, ◌++◌, refl, ap, sym, ◌∙◌, arith, eq-eqb}
use Rattle.std.proofs.lemmas.Bool.{ne_eqb, eqb-true}
use Rattle.std.proofs.lemmas.List.Folds.{list_any-append}
use Rattle.std.proofs.lemmas.List.Sorted.{list_any-IsPermutation}
use Rattle.std.specs.Prelude.{map}
use Rattle.std.specs.List.{AllByRecursion, dedup, dedup_from}
use Rattle.std.specs.List.Sorted.{IsPermutation}
use Rattle.plan.specs.declared.release.Release.{Release}
use Rattle.release_index.specs.declared.change.OnReleases.{OnReleases}
use Rattle.release_index.specs.declared.change.OnReleases.TheVariants as on_releases
use Rattle.release_index.specs.Touched.{held_where, is_among}
use Rattle.desk_io.proofs.Each.{each_push, each_weaker}
use Rattle.desk_state.specs.declared.effect.Effect.{Effect}
use Rattle.desk_state.specs.Events.{releases_after}
use Rattle.desk_state.specs.Sound.{Rise}
use Rattle.desk_state.specs.State.{State}
use Rattle.desk_state.specs.Touched.{by_report, by_deferral, by_time, by_release, by_alert, is_touched}
use Rattle.desk_state.proofs.Each.{put_each, without_each}
use Rattle.alert_judging.specs.Touching.{Adds, touches, is_there}

-- Ids that are added.

or_false : (b : Bool) → (b || false) ≡ b
or_false true = refl
or_false false = refl

or_true : (b : Bool) → (b || true) ≡ true
or_true true = refl
or_true false = refl

and_false : (b : Bool) → (b && false) ≡ false
and_false true = refl
and_false false = refl

held_never : (id : ℕ) (rs : List Release) → held_where (λ r. false) id rs ≡ false
held_never id [] = refl
held_never id (r ∷ rs) = ap (λ b. b || held_where (λ q. false) id rs) (and_false (eqb r.id id)) ∙ held_never id rs

-- none are added where nothing touches a release
pub none_added : (ids : List ℕ) (rs : List Release) → Adds (λ id. held_where (λ r. false) id rs) ids ids
none_added ids rs id = sym (or_false (is_among ids id)) ∙ sym (ap (λ b. is_among ids id || b) (held_never id rs))

and_true : (b : Bool) → (b && true) ≡ b
and_true true = refl
and_true false = refl

among_map : (rs : List Release) (id : ℕ) → is_among (map (λ r. r.id) rs) id ≡ held_where (λ r. true) id rs
among_map [] id = refl
among_map (r ∷ rs) id = ap (λ b. b || is_among (map (λ q. q.id) rs) id) (sym (and_true (eqb r.id id))) ∙ ap (λ b. (eqb r.id id && true) || b) (among_map rs id)

-- those of some releases are added
all_added : (ids fresh : List ℕ) (rs : List Release) → fresh ≡ ids ++ map (λ r. r.id) rs → Adds (λ id. held_where (λ r. true) id rs) ids fresh
all_added ids fresh rs is id =
    ap (λ xs. is_among xs id) is ∙ list_any-append (λ other. eqb other id) ids (map (λ r. r.id) rs) ∙ ap (λ b. is_among ids id || b) (among_map rs id)

-- Ids that are sorted, each once.

same_twice : (a b : Bool) → (a || b) ≡ (a || (a || b))
same_twice true b = refl
same_twice false b = refl

left_from : (id k : ℕ) (xs : List ℕ) → is_among (dedup_from eqb k xs) id ≡ (eqb k id || is_among xs id)
left_from id k [] = refl
left_from id k (x ∷ xs) = by (eqb x k) refl (left_from id k xs) (left_from id x xs)
  where
    by : (b : Bool) → eqb x k ≡ b → is_among (dedup_from eqb k xs) id ≡ (eqb k id || is_among xs id) → is_among (dedup_from eqb x xs) id ≡ (eqb x id || is_among xs id)
        → is_among (cond b (dedup_from eqb k xs) (k ∷ dedup_from eqb x xs)) id ≡ (eqb k id || (eqb x id || is_among xs id))
    by true is one two = one ∙ same_twice (eqb k id) (is_among xs id) ∙ sym (ap (λ n. eqb k id || (eqb n id || is_among xs id)) (eqb-true x k is))
    by false is one two = ap (λ b. eqb k id || b) two

left_all : (id : ℕ) (xs : List ℕ) → is_among (dedup eqb xs) id ≡ is_among xs id
left_all id [] = refl
left_all id (x ∷ xs) = left_from id x xs

pub sorted_same : (ids sorted fresh : List ℕ) → IsPermutation ids sorted → fresh ≡ dedup eqb sorted → (id : ℕ) → is_among fresh id ≡ is_among ids id
sorted_same ids sorted fresh moved left id =
    ap (λ xs. is_among xs id) left ∙ left_all id sorted ∙ sym (list_any-IsPermutation (λ other. eqb other id) ids sorted moved)

-- All ids, added one after another, and then sorted.

pub there_added : (s : State) (e : Effect) (start one two fresh : List ℕ) → start ≡ [] → one ≡ start ++ map (λ r. r.id) s.releases → Adds (by_release e.on_releases) one two
    → ((id : ℕ) → is_among fresh id ≡ is_among two id) → (id : ℕ) → is_among fresh id ≡ is_there s e id
there_added s e start one two fresh none a b same id =
    let by_a = held_where (λ r. true) id s.releases in
    let by_b = by_release e.on_releases id in
    same id ∙ b id ∙ ap (λ x. x || by_b) (all_added start one s.releases a id) ∙ ap (λ xs. is_among xs id || by_a || by_b) none

-- Each release has an id of its own.

abbrev IsOwn : List Release → Release → Type 0
IsOwn rs r = (test : Release → Bool) → held_where test r.id rs ≡ test r

none_held : (test : Release → Bool) (id low : ℕ) (rs : List Release) (next : ℕ) → id < low → Rise low rs next → held_where test id rs ≡ false
none_held test id low [] next less rise = refl
none_held test id low (r ∷ rs) next less rise =
    let first = rise.0 in
    rw (ne_eqb r.id id (λ e. absurd (omega (arith, less, first, e)))) (none_held test id (r.id + 1) rs next (omega (arith, less, first)) rise.1)

own_past : (r : Release) (rs : List Release) (low : ℕ) (qs : List Release) (next : ℕ) → r.id < low → Rise low qs next → AllByRecursion (IsOwn rs) qs → AllByRecursion (IsOwn (r ∷ rs)) qs
own_past r rs low [] next less rise all = tt
own_past r rs low (q ∷ qs) next less rise all =
    let first = rise.0 in
    let other : eqb r.id q.id ≡ false = ne_eqb r.id q.id (λ e. absurd (omega (arith, less, first, e))) in
    (λ test. ap (λ b. (b && test r) || held_where test q.id rs) other ∙ all.0 test, own_past r rs (q.id + 1) qs next (omega (arith, less, first)) rise.1 all.1)

all_own : (low : ℕ) (rs : List Release) (next : ℕ) → Rise low rs next → AllByRecursion (IsOwn rs) rs
all_own low [] next rise = tt
all_own low (r ∷ rs) next rise = (
  λ test. ap (λ b. (b && test r) || held_where test r.id rs) (eq-eqb r.id r.id refl) ∙ ap (λ b. test r || b) (none_held test r.id (r.id + 1) rs next (omega arith) rise.1) ∙ or_false (test r),
  own_past r rs (r.id + 1) rs next (omega arith) rise.1 (all_own (r.id + 1) rs next rise.1),
)

-- what holds of the releases that are held and of the one that an effect brings holds of those after it
each_after : (P : Release → Type 0) (e : Effect) (on : OnReleases) (rs : List Release) → e.on_releases ≡ on → AllByRecursion P rs
    → ((r : Release) → by_release e.on_releases r.id ≡ true → P r) → AllByRecursion P (releases_after on rs)
each_after P e on_releases.Nothing rs is all brought = all
each_after P e (on_releases.File r) rs is all brought = each_push P rs r all (brought r (ap (λ on. by_release on r.id) is ∙ eq-eqb r.id r.id refl))
each_after P e (on_releases.Put r) rs is all brought = put_each P r rs all (brought r (ap (λ on. by_release on r.id) is ∙ eq-eqb r.id r.id refl))
each_after P e (on_releases.Remove id) rs is all brought = without_each P id rs all

-- an id is among some exactly where its release is touched
pub among_touched : (s : State) (e : Effect) (ids : List ℕ) → ((id : ℕ) → is_among ids id ≡ touches s e id) → Rise 0 s.releases s.counters.next_release
    → AllByRecursion (λ r. is_among ids r.id ≡ is_touched s e r) (releases_after e.on_releases s.releases)
among_touched s e ids among rise =
    let report : Release → Bool = by_report e.report in
    let deferral : Release → Bool = by_deferral e.on_deferrals s.deferrals in
    let time : Release → Bool = by_time e.moment s.tables.settings s.moment in
    let release : Release → Bool = λ r. by_release e.on_releases r.id in
    let alert : Release → Bool = λ r. by_alert e.on_alerts r.id in
    each_after (λ r. is_among ids r.id ≡ is_touched s e r) e e.on_releases s.releases refl
    (each_weaker (IsOwn s.releases) (λ r. is_among ids r.id ≡ is_touched s e r)
    (λ r own. among r.id
    ∙ ap (λ b. b || held_where deferral r.id s.releases || held_where time r.id s.releases || release r || alert r) (own report)
    ∙ ap (λ b. report r || b || held_where time r.id s.releases || release r || alert r) (own deferral)
    ∙ ap (λ b. report r || deferral r || b || release r || alert r) (own time)) s.releases (all_own 0 s.releases s.counters.next_release rise))
    (λ r is. among r.id
    ∙ ap (λ b. held_where report r.id s.releases || held_where deferral r.id s.releases || held_where time r.id s.releases || b || alert r) is
    ∙ ap (λ b. b || alert r) (or_true (held_where report r.id s.releases || held_where deferral r.id s.releases || held_where time r.id s.releases))
    ∙ sym (ap (λ b. b || alert r) (or_true (report r || deferral r || time r)))
    ∙ sym (ap (λ b. report r || deferral r || time r || b || alert r) is))

-- and every release has its id among those of all
pub among_all : (s : State) (e : Effect) (ids : List ℕ) → ((id : ℕ) → is_among ids id ≡ is_there s e id) → Rise 0 s.releases s.counters.next_release
    → AllByRecursion (λ r. is_among ids r.id ≡ true) (releases_after e.on_releases s.releases)
among_all s e ids among rise =
    each_after (λ r. is_among ids r.id ≡ true) e e.on_releases s.releases refl
    (each_weaker (IsOwn s.releases) (λ r. is_among ids r.id ≡ true) (λ r own. among r.id ∙ ap (λ b. b || by_release e.on_releases r.id) (own (λ q. true))) s.releases
    (all_own 0 s.releases s.counters.next_release rise))
    (λ r is. among r.id ∙ ap (λ b. held_where (λ q. true) r.id s.releases || b) is ∙ or_true (held_where (λ q. true) r.id s.releases))
