-- The alerts of records that fit together: those of releases that are held, in their order, told to the holders.
use Rattle.std.proofs.Common.{◌≡◌, ℕ, ◌+◌, ◌<◌, ◌≤◌, arith, Bool, true, false, ◌||◌, cond, eqb, List, [], ◌∷◌, Option, None, Some, IfSome, refl, sym, ap, ◌∙◌, subst, eq-eqb}
use Rattle.std.specs.Prelude.{◌==◌}
use Rattle.std.specs.List.{AllByRecursion, filter_map, cons_option, list_any}
use Rattle.std.specs.Option.{option_map}
use Rattle.std.proofs.lemmas.Bool.{eqb-true, ltb-true, ltb-false, ne_eqb}
use Rattle.alerts.specs.declared.alert.Alert.{Alert as AlertOf}
use Rattle.alerts.specs.Alerts.{IsAlert}
use Rattle.plan.specs.declared.release.Release.{Release as ReleaseOf}
use Rattle.desk_state.specs.Sound.{IsTaken, IsToldTo, Rise}
use Rattle.desk_state.specs.State.{release_at, alert_at}
use Rattle.desk_state.proofs.Each.{found_each}
use Rattle.desk_state.proofs.Judging.{IsOf, found_of}
use Rattle.records.specs.Valid.{IsRecord, IsKeptAlert}
use Rattle.records.specs.declared.record.KeptAlert.{KeptAlert}
use Rattle.records.specs.declared.record.Meta.{Meta as MetaOf}
use Rattle.records.specs.declared.record.Record.{Record}
use Rattle.records.specs.declared.record.Record.TheVariants.{Meta, Report, Deferral, Release, Kept, Alert}
use Rattle.row_changes.specs.Held.{AreOfDesk, alert_in, alert_of, alert_with, meta_in, release_in}
use Rattle.row_changes.proofs.Lists.{Pairs, each_mapped, pairs_mapped}
use Rattle.row_changes.proofs.Fitting.{Agree, IsAmong, all_agree, each_among}
use Rattle.row_changes.proofs.ReleaseLaws.{Below, release_pairs, releases_rise}
use Rattle.desk_io.proofs.Each.{each_weaker}

-- ---- the alerts that are kept

-- a valid alert of a version that is no greater than a number
record IsOpenAlert (events : ℕ) (a : KeptAlert) : Type 0 where
  pub valid : IsKeptAlert a
  pub version : a.version ≤ events

alert_among : (rs : List Record) (m : MetaOf) (x : Record) → IsAmong rs m x → IfSome (alert_in x) (IsOpenAlert m.counters.events)
unfolding IsRecord
alert_among rs m (Alert a) is = record { valid = is.valid; version = ltb-false m.counters.events a.version is.ahead }
alert_among rs m (Meta n) is = tt
alert_among rs m (Report r) is = tt
alert_among rs m (Deferral d) is = tt
alert_among rs m (Release r) is = tt
alert_among rs m (Kept k) is = tt

open_alerts : (rs : List Record) (m : MetaOf) → AreOfDesk rs → meta_in rs ≡ Some m → AllByRecursion (IsOpenAlert m.counters.events) (filter_map alert_in rs)
open_alerts rs m are is = each_mapped (IsAmong rs m) (IsOpenAlert m.counters.events) alert_in (alert_among rs m) rs (each_among rs m are is)

abbrev Earlier : KeptAlert → KeptAlert → Type 0
Earlier a b = a.release < b.release

alerts_apart : (x y : Record) → Agree x y → IfSome (alert_in x) (λ a. IfSome (alert_in y) (Earlier a))
alerts_apart (Alert a) (Alert b) agree = ltb-true a.release b.release agree.0
alerts_apart (Alert a) (Meta m) agree = tt
alerts_apart (Alert a) (Report r) agree = tt
alerts_apart (Alert a) (Deferral d) agree = tt
alerts_apart (Alert a) (Release r) agree = tt
alerts_apart (Alert a) (Kept k) agree = tt
alerts_apart (Meta m) y agree = tt
alerts_apart (Report r) y agree = tt
alerts_apart (Deferral d) y agree = tt
alerts_apart (Release r) y agree = tt
alerts_apart (Kept k) y agree = tt

alert_pairs : (rs : List Record) → AreOfDesk rs → Pairs Earlier (filter_map alert_in rs)
alert_pairs rs are = pairs_mapped Agree Earlier alert_in alerts_apart rs (all_agree rs are)

-- ---- told to the holders

-- an alert of a release that is held, told to its holder
record IsHolders (releases : List ReleaseOf) (a : AlertOf) : Type 0 where
  pub taken : IsTaken a.release releases
  pub told : IfSome (release_at a.release releases) (λ r. a.desk ≡ r.holder)

found_by : (b any : Bool) (q r : ReleaseOf) (later : Option ReleaseOf) → cond b (Some q) later ≡ Some r → (later ≡ Some r → any ≡ true) → (b || any) ≡ true
found_by true any q r later found rest = refl
found_by false any q r later found rest = rest found

-- what is found is there
pub found_taken : (id : ℕ) (rs : List ReleaseOf) (r : ReleaseOf) → release_at id rs ≡ Some r → IsTaken id rs
found_taken id [] r found = absurd (cc)
found_taken id (q ∷ qs) r found = found_by (eqb q.id id) (list_any (λ x. x.id == id) qs) q r (release_at id qs) found (found_taken id qs r)

holders_by : (releases : List ReleaseOf) (a : KeptAlert) (o : Option ReleaseOf) → release_at a.release releases ≡ o → IfSome (option_map (λ r. alert_with a r.holder) o) (IsHolders releases)
holders_by releases a None is = tt
holders_by releases a (Some r) is = record { taken = found_taken a.release releases r is; told = rw is refl }

holders_are : (releases : List ReleaseOf) (events : ℕ) (a : KeptAlert) → IsOpenAlert events a → IfSome (alert_of releases a) (IsHolders releases)
holders_are releases events a is = holders_by releases a (release_at a.release releases) refl

alert_by : (events : ℕ) (a : KeptAlert) (o : Option ReleaseOf) → IsOpenAlert events a → IfSome (option_map (λ r. alert_with a r.holder) o) (IsAlert events)
alert_by events a None is = tt
alert_by events a (Some r) is =
    record { moment = is.valid.opened; first = is.valid.first; version = is.version; failing = is.valid.failing.order; ever = is.valid.ever.order; among = is.valid.among }

alert_is : (releases : List ReleaseOf) (events : ℕ) (a : KeptAlert) → IsOpenAlert events a → IfSome (alert_of releases a) (IsAlert events)
alert_is releases events a is = alert_by events a (release_at a.release releases) is

abbrev pub Rises : AlertOf → AlertOf → Type 0
Rises a b = a.release < b.release

rises_by : (a b : KeptAlert) (o p : Option ReleaseOf) → a.release < b.release → IfSome (option_map (λ r. alert_with a r.holder) o) (λ x. IfSome (option_map (λ r. alert_with b r.holder) p) (Rises x))
rises_by a b None p less = tt
rises_by a b (Some q) None less = tt
rises_by a b (Some q) (Some r) less = less

rises_are : (releases : List ReleaseOf) (a b : KeptAlert) → Earlier a b → IfSome (alert_of releases a) (λ x. IfSome (alert_of releases b) (Rises x))
rises_are releases a b less = rises_by a b (release_at a.release releases) (release_at b.release releases) less

-- the alerts of records
abbrev pub alerts_in : List Record → List AlertOf
alerts_in rs = filter_map (alert_of (filter_map release_in rs)) (filter_map alert_in rs)

pub alerts_are : (rs : List Record) (m : MetaOf) → AreOfDesk rs → meta_in rs ≡ Some m → AllByRecursion (IsAlert m.counters.events) (alerts_in rs)
alerts_are rs m are is =
    each_mapped (IsOpenAlert m.counters.events) (IsAlert m.counters.events) (alert_of (filter_map release_in rs)) (alert_is (filter_map release_in rs) m.counters.events) (filter_map alert_in rs) (open_alerts rs m are is)

alerts_held : (rs : List Record) (m : MetaOf) → AreOfDesk rs → meta_in rs ≡ Some m → AllByRecursion (IsHolders (filter_map release_in rs)) (alerts_in rs)
alerts_held rs m are is =
    each_mapped (IsOpenAlert m.counters.events) (IsHolders (filter_map release_in rs)) (alert_of (filter_map release_in rs)) (holders_are (filter_map release_in rs) m.counters.events) (filter_map alert_in rs)
    (open_alerts rs m are is)

pub alerts_rise : (rs : List Record) → AreOfDesk rs → Pairs Rises (alerts_in rs)
alerts_rise rs are = pairs_mapped Earlier Rises (alert_of (filter_map release_in rs)) (rises_are (filter_map release_in rs)) (filter_map alert_in rs) (alert_pairs rs are)

found_later : (low : ReleaseOf) (rs : List ReleaseOf) (q : ReleaseOf) → (low.id < q.id) × (release_at q.id rs ≡ Some q) → release_at q.id (low ∷ rs) ≡ Some q
found_later low rs q is = let less = is.0 in let ne : low.id ≡ q.id → ⊥ = λ e. absurd (omega (arith, e, less)) in rw (ne_eqb low.id q.id ne) is.1

later_found : (low : ReleaseOf) (all rs : List ReleaseOf) → AllByRecursion (Below low) rs → AllByRecursion (λ q. release_at q.id all ≡ Some q) rs → AllByRecursion (λ q. release_at q.id (low ∷ all) ≡ Some q) rs
later_found low all [] less found = tt
later_found low all (q ∷ qs) less found = (found_later low all q (less.0, found.0), later_found low all qs less.1 found.1)

-- a release whose ids rise is found by its id
pub found_self : (rs : List ReleaseOf) → Pairs Below rs → AllByRecursion (λ r. release_at r.id rs ≡ Some r) rs
found_self [] pairs = tt
found_self (r ∷ rs) pairs = (rw (eq-eqb r.id r.id refl) refl, later_found r rs rs pairs.0 (found_self rs pairs.1))

told_by : (releases : List ReleaseOf) (r : ReleaseOf) (o : Option AlertOf) → release_at r.id releases ≡ Some r → IfSome o (IsHolders releases) → IfSome o (IsOf r.id) → IsToldTo r.holder o
told_by releases r None found held of = tt
told_by releases r (Some a) found held of = subst (λ (p : Option ReleaseOf). IfSome p (λ q. a.desk ≡ q.holder)) (ap (λ id. release_at id releases) of ∙ found) held.told

told_all : (releases : List ReleaseOf) (alerts : List AlertOf) (rs : List ReleaseOf) → AllByRecursion (IsHolders releases) alerts → AllByRecursion (λ r. release_at r.id releases ≡ Some r) rs
    → AllByRecursion (λ r. IsToldTo r.holder (alert_at r.id alerts)) rs
told_all releases alerts [] held found = tt
told_all releases alerts (r ∷ rs) held found = (
  told_by releases r (alert_at r.id alerts) found.0 (found_each (IsHolders releases) (λ a. eqb a.release r.id) alerts held) (found_of r.id alerts),
  told_all releases alerts rs held found.1,
)

-- each alert is told to the holder of its release
pub alerts_told : (rs : List Record) (m : MetaOf) → AreOfDesk rs → meta_in rs ≡ Some m → AllByRecursion (λ r. IsToldTo r.holder (alert_at r.id (alerts_in rs))) (filter_map release_in rs)
alerts_told rs m are is = told_all (filter_map release_in rs) (alerts_in rs) (filter_map release_in rs) (alerts_held rs m are is) (found_self (filter_map release_in rs) (release_pairs rs are))

-- ---- in the order of the releases

none_all : (rs : List ReleaseOf) → filter_map (λ r. alert_at r.id []) rs ≡ []
none_all [] = refl
none_all (r ∷ rs) = none_all rs

-- an alert of an earlier release isn't found
skip : (a : AlertOf) (others : List AlertOf) (rs : List ReleaseOf) → AllByRecursion (λ q. a.release < q.id) rs → filter_map (λ q. alert_at q.id (a ∷ others)) rs ≡ filter_map (λ q. alert_at q.id others) rs
skip a others [] less = refl
skip a others (q ∷ qs) less =
    let here = less.0 in
    let ne : a.release ≡ q.id → ⊥ = λ e. absurd (omega (arith, e, here)) in
    ap (λ (b : Bool). cons_option (cond b (Some a) (alert_at q.id others)) (filter_map (λ x. alert_at x.id (a ∷ others)) qs)) (ne_eqb a.release q.id ne)
    ∙ ap (λ (rest : List AlertOf). cons_option (alert_at q.id others) rest) (skip a others qs less.1)

none_of : (id : ℕ) (others : List AlertOf) → AllByRecursion (λ a. id < a.release) others → alert_at id others ≡ None
none_of id [] above = refl
none_of id (a ∷ others) above = let here = above.0 in let ne : a.release ≡ id → ⊥ = λ e. absurd (omega (arith, e, here)) in rw (ne_eqb a.release id ne) (none_of id others above.1)

taken_by : (id : ℕ) (r : ReleaseOf) (b any : Bool) → eqb r.id id ≡ b → r.id < id → (b || any) ≡ true → any ≡ true
taken_by id r true any e less taken = absurd (let same = eqb-true r.id id e in omega (arith, same, less))
taken_by id r false any e less taken = taken

-- a release of a greater id is among the later ones
taken_later : (r : ReleaseOf) (rs : List ReleaseOf) (id : ℕ) → (r.id < id) × IsTaken id (r ∷ rs) → IsTaken id rs
taken_later r rs id is = taken_by id r (eqb r.id id) (list_any (λ q. q.id == id) rs) refl is.0 is.1

later_taken : (r : ReleaseOf) (rs : List ReleaseOf) (others : List AlertOf) → AllByRecursion (λ a. r.id < a.release) others → AllByRecursion (λ a. IsTaken a.release (r ∷ rs)) others → AllByRecursion (λ a. IsTaken a.release rs) others
later_taken r rs [] above taken = tt
later_taken r rs (a ∷ others) above taken = (taken_later r rs a.release (above.0, taken.0), later_taken r rs others above.1 taken.1)

above_by : (id low : ℕ) (r : ReleaseOf) (b any : Bool) → eqb r.id id ≡ b → low ≤ r.id → (any ≡ true → r.id + 1 ≤ id) → (b || any) ≡ true → low ≤ id
above_by id low r true any e less rest taken = let same = eqb-true r.id id e in omega (arith, same, less)
above_by id low r false any e less rest taken = let more = rest taken in omega (arith, more, less)

taken_above : (low : ℕ) (rs : List ReleaseOf) (next id : ℕ) → Rise low rs next → IsTaken id rs → low ≤ id
taken_above low [] next id rise taken = absurd (cc)
taken_above low (r ∷ rs) next id rise taken = above_by id low r (eqb r.id id) (list_any (λ q. q.id == id) rs) refl rise.0 (taken_above (r.id + 1) rs next id rise.1) taken

rise_above : (id low : ℕ) (rs : List ReleaseOf) (next : ℕ) → id < low → Rise low rs next → AllByRecursion (λ q. id < q.id) rs
rise_above id low [] next less rise = tt
rise_above id low (r ∷ rs) next less rise = let one = rise.0 in (omega (arith, one, less), rise_above id (r.id + 1) rs next (omega (arith, one, less)) rise.1)

pub rise_pairs : (low : ℕ) (rs : List ReleaseOf) (next : ℕ) → Rise low rs next → Pairs Below rs
rise_pairs low [] next rise = tt
rise_pairs low (r ∷ rs) next rise = (rise_above r.id (r.id + 1) rs next (omega arith) rise.1, rise_pairs (r.id + 1) rs next rise.1)

-- alerts of some releases, in order of these, are those that are found by them
Own : List ReleaseOf → Type 0
Own rs = (others : List AlertOf) → Pairs Rises others → AllByRecursion (λ a. IsTaken a.release rs) others → others ≡ filter_map (λ r. alert_at r.id others) rs

own_step : (b : Bool) (r : ReleaseOf) (rs : List ReleaseOf) (next : ℕ) (a : AlertOf) (others : List AlertOf) → eqb a.release r.id ≡ b → Rise (r.id + 1) rs next → Own rs → Pairs Rises (a ∷ others)
    → AllByRecursion (λ x. IsTaken x.release (r ∷ rs)) (a ∷ others) → a ∷ others ≡ filter_map (λ q. alert_at q.id (a ∷ others)) (r ∷ rs)
unfolding Own
own_step true r rs next a others e rise own pairs taken =
    let same = eqb-true a.release r.id e in
    let above : AllByRecursion (λ x. r.id < x.release) others = each_weaker (Rises a) (λ x. r.id < x.release) (λ x less. omega (arith, same, less)) others pairs.0 in
    let beyond : AllByRecursion (λ q. a.release < q.id) rs = rise_above a.release (r.id + 1) rs next (omega (arith, same)) rise in
    ap (λ rest. a ∷ rest) (own others pairs.1 (later_taken r rs others above taken.1) ∙ sym (skip a others rs beyond))
    ∙ ap (λ (c : Bool). cons_option (cond c (Some a) (alert_at r.id others)) (filter_map (λ q. alert_at q.id (a ∷ others)) rs)) (sym e)
own_step false r rs next a others e rise own pairs taken =
    let less : r.id < a.release = beyond_by r rs next a e rise taken.0 in
    let above : AllByRecursion (λ x. r.id < x.release) (a ∷ others) = (less, each_weaker (Rises a) (λ x. r.id < x.release) (λ x later. omega (arith, less, later)) others pairs.0) in
    own (a ∷ others) pairs (later_taken r rs (a ∷ others) above taken)
    ∙ ap (λ (o : Option AlertOf). cons_option o (filter_map (λ q. alert_at q.id (a ∷ others)) rs)) (sym (none_of r.id (a ∷ others) above))
  where
    other_by : (r : ReleaseOf) (a : AlertOf) (b any : Bool) → eqb r.id a.release ≡ b → eqb a.release r.id ≡ false → (b || any) ≡ true → any ≡ true
    other_by r a true any is e taken = absurd (let yes : eqb a.release r.id ≡ true = eq-eqb a.release r.id (sym (eqb-true r.id a.release is)) in cc)
    other_by r a false any is e taken = taken

    beyond_by : (r : ReleaseOf) (rs : List ReleaseOf) (next : ℕ) (a : AlertOf) → eqb a.release r.id ≡ false → Rise (r.id + 1) rs next → IsTaken a.release (r ∷ rs) → r.id < a.release
    beyond_by r rs next a e rise taken =
        let more = taken_above (r.id + 1) rs next a.release rise (other_by r a (eqb r.id a.release) (list_any (λ q. q.id == a.release) rs) refl e taken) in
        omega (arith, more)

own_all : (low : ℕ) (rs : List ReleaseOf) (next : ℕ) → Rise low rs next → Own rs
unfolding Own
own_all low [] next rise [] pairs taken = refl
own_all low [] next rise (a ∷ others) pairs taken = absurd (let no = taken.0 in cc)
own_all low (r ∷ rs) next rise [] pairs taken = sym (none_all rs)
own_all low (r ∷ rs) next rise (a ∷ others) pairs taken = own_step (eqb a.release r.id) r rs next a others refl rise.1 (own_all (r.id + 1) rs next rise.1) pairs taken

-- the alerts are those of the releases, in their order
pub alerts_own : (rs : List Record) (m : MetaOf) → AreOfDesk rs → meta_in rs ≡ Some m → alerts_in rs ≡ filter_map (λ r. alert_at r.id (alerts_in rs)) (filter_map release_in rs)
unfolding Own
alerts_own rs m are is =
    own_all 0 (filter_map release_in rs) m.counters.next_release (releases_rise rs m are is) (alerts_in rs) (alerts_rise rs are)
    (each_weaker (IsHolders (filter_map release_in rs)) (λ a. IsTaken a.release (filter_map release_in rs)) (λ a held. held.taken) (alerts_in rs) (alerts_held rs m are is))
