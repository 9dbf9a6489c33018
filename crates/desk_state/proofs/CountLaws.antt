-- How many releases an event touches.
use Rattle.std.proofs.Common.{◌≡◌, ℕ, ◌+◌, ◌≤◌, ◌<◌, ◌==◌, ◌||◌, Bool, true, false, cond, eqb, List, [], ◌∷◌, length, filter, find, Option, None, Some, refl, ap, arith}
use Rattle.std.proofs.Math.Bool.{or-false}
use Rattle.std.proofs.lemmas.Bool.{ne_eqb, eqb-true}
use Rattle.asks.specs.declared.call.Ask.{Ask}
use Rattle.asks.specs.declared.call.Ask.TheVariants as ask
use Rattle.asks.specs.declared.reply.Done.{Done as DoneType}
use Rattle.deferrals.specs.Held.{has_id}
use Rattle.deferrals.specs.declared.items.Deferral.{Deferral}
use Rattle.facts.specs.Reading.{read_of}
use Rattle.facts.specs.Same.{station_of_report}
use Rattle.plan.specs.declared.release.Release.{Release}
use Rattle.desk_state.specs.Allowed.{IsEffectOf}
use Rattle.desk_state.specs.Allowed.IsEffectOf.{admits, defers, clears, drafts, prepares, signs, concurs, amends, cancels, departs, stops, completes, acknowledges, sweeps, purges}
use Rattle.desk_state.specs.Counting.{count, count_touched, most_by_reading, most_by_cleared, most_judged, most_ticked, to_decide}
use Rattle.desk_state.specs.declared.effect.Effect.{Effect}
use Rattle.desk_state.specs.Effects as effect
use Rattle.desk_state.specs.Effects.{tick}
use Rattle.desk_state.specs.Events.{effected}
use Rattle.desk_state.specs.Sound.{Rise}
use Rattle.desk_state.specs.State.{State}
use Rattle.desk_state.specs.Touched.{touched_at, touched_on, touched_by, by_cleared, is_touched}

count_same : (p q : Release → Bool) (rs : List Release) → ((r : Release) → p r ≡ q r) → count p rs ≡ count q rs
count_same p q rs same = λ i. length (filter (λ r. same r i) rs)

count_none : (rs : List Release) → count (λ r. false) rs ≡ 0
count_none [] = refl
count_none (r ∷ rs) = count_none rs

-- none above has the id
none_above : (id low : ℕ) (rs : List Release) (next : ℕ) → id < low → Rise low rs next → count (λ r. r.id == id) rs ≡ 0
none_above id low [] next less rise = refl
none_above id low (r ∷ rs) next less rise =
    let first = rise.0 in
    rw (ne_eqb r.id id (λ e. absurd (omega (arith, less, first, e)))) (none_above id (r.id + 1) rs next (omega (arith, less, first)) rise.1)

one_by : (id : ℕ) (r : Release) (rs : List Release) (next : ℕ) (b : Bool) → eqb r.id id ≡ b → Rise (r.id + 1) rs next → count (λ q. q.id == id) rs ≤ 1
    → length (cond b (r ∷ filter (λ q. q.id == id) rs) (filter (λ q. q.id == id) rs)) ≤ 1
one_by id r rs next true e rise few =
    let same = eqb-true r.id id e in let none = none_above id (r.id + 1) rs next (omega (arith, same)) rise in omega (arith, none)
one_by id r rs next false e rise few = few

-- of releases whose ids rise one at most has an id
one_of : (id low : ℕ) (rs : List Release) (next : ℕ) → Rise low rs next → count (λ r. r.id == id) rs ≤ 1
one_of id low [] next rise = omega arith
one_of id low (r ∷ rs) next rise = one_by id r rs next (eqb r.id id) refl rise.1 (one_of id (r.id + 1) rs next rise.1)

one_at : (id : ℕ) (test : Release → Bool) (rs : List Release) (next : ℕ) → ((r : Release) → test r ≡ (r.id == id)) → Rise 0 rs next → count test rs ≤ 1
one_at id test rs next same rise = let few = one_of id 0 rs next rise in let is = count_same test (λ r. r.id == id) rs same in omega (arith, few, is)

twice : (b : Bool) → (b || b) ≡ b
twice true = refl
twice false = refl

or_none : (b : Bool) → ((((b || false) || false) || false) || false) ≡ b
or_none true = refl
or_none false = refl

or_later : (b : Bool) → (((b || false) || false) || false) ≡ b
or_later true = refl
or_later false = refl

or_two : (b : Bool) → ((b || false) || false) ≡ b
or_two true = refl
or_two false = refl

cleared_few : (s : State) (id : ℕ) (rs : List Release) → count (is_touched s (effect.clear id)) rs ≡ most_by_cleared (find (has_id id) s.deferrals) rs
cleared_few s id rs = cleared_by (find (has_id id) s.deferrals) rs
  where
    cleared_by : (o : Option Deferral) (rs : List Release) → count (λ r. (((by_cleared o r) || false) || false) || false) rs ≡ most_by_cleared o rs
    cleared_by None rs = count_none rs
    cleared_by (Some d) rs = count_same (λ r. ((touched_on d.tail r || false) || false) || false) (touched_on d.tail) rs (λ r. or_later (touched_on d.tail r))

-- An ask that is accepted makes judge no more plans than it may, to decide it and by what it touches.
pub asks_judge : (s : State) (actor : List ℕ) {a : Ask} {e : Effect} {made : DoneType} (next : ℕ) → IsEffectOf s actor a e made → Rise 0 (effected e s).releases next
    → to_decide a + count_touched s e ≤ most_judged s a
asks_judge s actor next (admits {text} {report} is) rise =
    let reading : most_by_reading (read_of text s.moment) s.releases ≡ count (touched_at (station_of_report report)) s.releases = ap (λ x. most_by_reading x s.releases) is.reading in
    let same = count_same (is_touched s (effect.admit report)) (touched_at (station_of_report report)) s.releases (λ r. or_none (touched_at (station_of_report report) r)) in
    omega (arith, reading, same)
asks_judge s actor next (defers {tail} {item} {found} {d} is) rise =
    let tails : count (touched_on d.tail) s.releases ≡ count (touched_on tail) s.releases = ap (λ t. count (touched_on t) s.releases) is.aircraft in
    let same = count_same (is_touched s (effect.defer d)) (touched_on d.tail) s.releases (λ r. or_later (touched_on d.tail r)) in
    omega (arith, tails, same)
asks_judge s actor next (clears {id} is) rise = let same = cleared_few s id s.releases in omega (arith, same)
asks_judge s actor next (drafts {plan} {r} is) rise = let few = one_at r.id (is_touched s (effect.file r)) (effected (effect.file r) s).releases next (λ q. or-false (q.id == r.id)) rise in omega (arith, few)
asks_judge s actor next (prepares {id} {r} {w} is pending) rise = let few = one_at r.id (is_touched s (effect.put r)) (effected (effect.put r) s).releases next (λ q. or-false (q.id == r.id)) rise in omega (arith, few)
asks_judge s actor next (signs {id} {number} {digest} {r} is) rise = let few = one_at r.id (is_touched s (effect.put r)) (effected (effect.put r) s).releases next (λ q. or-false (q.id == r.id)) rise in omega (arith, few)
asks_judge s actor next (concurs {id} {number} {digest} {r} is) rise = let few = one_at r.id (is_touched s (effect.put_afresh r)) (effected (effect.put_afresh r) s).releases next (λ q. twice (q.id == r.id)) rise in omega (arith, few)
asks_judge s actor next (amends {id} {number} {plan} {r} is) rise = let few = one_at r.id (is_touched s (effect.put r)) (effected (effect.put r) s).releases next (λ q. or-false (q.id == r.id)) rise in omega (arith, few)
asks_judge s actor next (cancels {id} {r} is) rise = let few = one_at r.id (is_touched s (effect.put_afresh r)) (effected (effect.put_afresh r) s).releases next (λ q. twice (q.id == r.id)) rise in omega (arith, few)
asks_judge s actor next (departs {id} {leg} {r} is) rise = let few = one_at r.id (is_touched s (effect.put r)) (effected (effect.put r) s).releases next (λ q. or-false (q.id == r.id)) rise in omega (arith, few)
asks_judge s actor next (stops {id} {leg} {r} is) rise = let few = one_at r.id (is_touched s (effect.put r)) (effected (effect.put r) s).releases next (λ q. or-false (q.id == r.id)) rise in omega (arith, few)
asks_judge s actor next (completes {id} {leg} {r} is) rise = let few = one_at r.id (is_touched s (effect.put_afresh r)) (effected (effect.put_afresh r) s).releases next (λ q. twice (q.id == r.id)) rise in omega (arith, few)
asks_judge s actor next (acknowledges {id} {version} {q} held is) rise = let few = one_at q.id (is_touched s (effect.acknowledge q.id)) s.releases next (λ r. refl) rise in omega (arith, few)
asks_judge s actor next (sweeps {before} {attached} {floors} is) rise = let none = count_none s.releases in omega (arith, none)
asks_judge s actor next (purges {id} {q} held is) rise = let none = count_none (effected (effect.remove q.id) s).releases in omega (arith, none)

-- deciding alone never judges more
pub decides_few : (s : State) (a : Ask) → to_decide a ≤ most_judged s a
decides_few s (ask.Admit text) = omega arith
decides_few s (ask.Defer tail item found) = omega arith
decides_few s (ask.Clear deferral) = omega arith
decides_few s (ask.Draft plan) = omega arith
decides_few s (ask.Prepare release) = omega arith
decides_few s (ask.Sign release revision digest) = omega arith
decides_few s (ask.Concur release revision digest) = omega arith
decides_few s (ask.Amend release plan) = omega arith
decides_few s (ask.Cancel release) = omega arith
decides_few s (ask.Depart release leg) = omega arith
decides_few s (ask.Arrive release leg) = omega arith
decides_few s (ask.Acknowledge release version) = omega arith
decides_few s (ask.Purge release) = omega arith
decides_few s (ask.Sweep before) = omega arith
decides_few s ask.ViewBoard = omega arith
decides_few s ask.ViewAlerts = omega arith
decides_few s (ask.ViewRelease release) = omega arith
decides_few s (ask.ViewWeather station) = omega arith
decides_few s (ask.ViewDeferred tail) = omega arith

-- a tick touches those for which a rule of time begins to fail
pub tick_judges : (s : State) (to : ℕ) → count_touched s (tick to) ≡ most_ticked s to
tick_judges s to =
    count_same (is_touched s (tick to)) (touched_by s.tables.settings s.moment to) s.releases (λ r. or_two (touched_by s.tables.settings s.moment to r))
