-- What a step touches is active.
use Rattle.std.proofs.Common.{◌≡◌, ℕ, ◌≤◌, Bool, true, false, cond, List, [], ◌∷◌, length, filter, find, None, Some, Ok, Err, refl, arith}
use Rattle.std.proofs.lemmas.Bool.{and_parts}
use Rattle.asks.specs.declared.call.Ask.{Ask}
use Rattle.asks.specs.declared.call.Ask.TheVariants as ask
use Rattle.deferrals.specs.Held.{has_id}
use Rattle.facts.specs.Reading.{read_of}
use Rattle.facts.specs.Same.{station_of_read}
use Rattle.plan.specs.Phases.{is_active}
use Rattle.plan.specs.declared.release.Phase.{Phase}
use Rattle.plan.specs.declared.release.Release.{Release}
use Rattle.rules.specs.Due.{next_due}
use Rattle.rules.specs.Touches.{names_station, is_of_tail}
use Rattle.desk_state.specs.Counting.{count, most_by_reading, most_by_cleared, most_judged, most_ticked}
use Rattle.desk_state.specs.State.{State}
use Rattle.desk_state.specs.Touched.{passes_in, is_active_where, is_due_by}
use Rattle.desk_acceptance.specs.Few.{active_releases, few_for}

within_by : (p q : Release → Bool) (r : Release) (rs : List Release) (a b : Bool) → (a ≡ true → b ≡ true) → count p rs ≤ count q rs
    → length (cond a (r ∷ filter p rs) (filter p rs)) ≤ length (cond b (r ∷ filter q rs) (filter q rs))
within_by p q r rs true true so few = omega (arith, few)
within_by p q r rs true false so few = absurd (let bad : false ≡ true = so refl in cc)
within_by p q r rs false true so few = omega (arith, few)
within_by p q r rs false false so few = few

-- of some releases no more pass a test than another that they pass with it
within : (p q : Release → Bool) → ((r : Release) → p r ≡ true → q r ≡ true) → (rs : List Release) → count p rs ≤ count q rs
within p q so [] = omega arith
within p q so (r ∷ rs) = within_by p q r rs (p r) (q r) (so r) (within p q so rs)

passing : (test : _) (o : _) (phase : Phase) → passes_in test o phase ≡ true → is_active phase ≡ true
passing test None phase e = absurd (cc)
passing test (Some v) phase e = (and_parts (is_active phase) (test v.plan phase) e).0

few_where : (test : _) (rs : List Release) → count (is_active_where test) rs ≤ count (λ r. is_active r.phase) rs
few_where test rs = within (is_active_where test) (λ r. is_active r.phase) (λ r e. passing test r.active r.phase e) rs

few_read : (o : _) (rs : List Release) → most_by_reading o rs ≤ count (λ r. is_active r.phase) rs
few_read (Err bad) rs = omega arith
few_read (Ok read) rs = few_where (λ plan phase. names_station plan phase (station_of_read read)) rs

few_cleared : (o : _) (rs : List Release) → most_by_cleared o rs ≤ count (λ r. is_active r.phase) rs
few_cleared None rs = omega arith
few_cleared (Some d) rs = few_where (λ plan phase. is_of_tail plan d.tail) rs

-- a call judges no more plans than the numbers say
pub few_judged : (s : State) (a : Ask) → most_judged s a ≤ few_for a (active_releases s)
few_judged s (ask.Admit text) = few_read (read_of text s.moment) s.releases
few_judged s (ask.Defer tail item found) = few_where (λ plan phase. is_of_tail plan tail) s.releases
few_judged s (ask.Clear deferral) = few_cleared (find (has_id deferral) s.deferrals) s.releases
few_judged s (ask.Draft plan) = omega arith
few_judged s (ask.Prepare release) = omega arith
few_judged s (ask.Sign release revision digest) = omega arith
few_judged s (ask.Concur release revision digest) = omega arith
few_judged s (ask.Amend release plan) = omega arith
few_judged s (ask.Cancel release) = omega arith
few_judged s (ask.Depart release leg) = omega arith
few_judged s (ask.Arrive release leg) = omega arith
few_judged s (ask.Acknowledge release version) = omega arith
few_judged s (ask.Purge release) = omega arith
few_judged s (ask.Sweep before) = omega arith
few_judged s ask.ViewBoard = omega arith
few_judged s ask.ViewAlerts = omega arith
few_judged s (ask.ViewRelease release) = omega arith
few_judged s (ask.ViewWeather station) = omega arith
few_judged s (ask.ViewDeferred tail) = omega arith

-- and a tick no more than are active
pub few_ticked : (s : State) (to : ℕ) → most_ticked s to ≤ active_releases s
few_ticked s to = few_where (λ plan phase. is_due_by to (next_due plan phase s.tables.settings s.moment)) s.releases
