-- The keys of a release are those by which it is found.
use Rattle.std.proofs.Common.{◌≡◌, refl, sym, ap, ◌∙◌, subst, ℕ, ◌+◌, ◌==◌, Bool, true, false, ◌||◌, cond, List, [], ◌∷◌, ◌++◌, Option, None, Some, Any, bytes_eq, eq-eqb}
use Rattle.std.specs.List.{AllByRecursion}
use Rattle.std.specs.BTreeMap.{is_at}
use Rattle.std.proofs.lemmas.List.Folds.{Any-from_list_any, list_any-from_Any}
use Rattle.std.proofs.lemmas.Slice.Eq.{bytes_eq-Decides}
use Rattle.desk_io.proofs.Each.{each_push}
use Rattle.desk_io.specs.Station.{Station}
use Rattle.facts.specs.Index.{fingerprint, key_cmp}
use Rattle.ops_tables.specs.declared.rows.Settings.{Settings}
use Rattle.rules.specs.Due.{due_minutes, Begins}
use Rattle.plan.specs.Phases.{is_active, standing}
use Rattle.plan.specs.declared.flights.Alternate.{Alternate}
use Rattle.plan.specs.declared.flights.Leg.{Leg}
use Rattle.plan.specs.declared.flights.Plan.{Plan}
use Rattle.plan.specs.declared.flights.TakeoffAlternate.{TakeoffAlternate}
use Rattle.plan.specs.declared.release.Phase.{Phase}
use Rattle.plan.specs.declared.release.Release.{Release}
use Rattle.plan.specs.declared.release.Revision.{Revision}
use Rattle.plan.specs.declared.release.Standing.{Standing}
use Rattle.plan.specs.declared.release.Standing.TheVariants.{Ahead, InFlight, Flown}
use Rattle.rules.specs.Touches.{is_takeoff_alternate, lists_station, leg_names, names_at, legs_name, names_station, is_of_tail}
use Rattle.rules.proofs.Named.{first_named, second_named, third_named, listed_named}
use Rattle.rules.proofs.TouchLaws.{named_exactly}
use Rattle.desk_io.specs.Keys.{is_held}
use Rattle.release_index.specs.Entries.{text_onto, takeoff_onto, alternates_onto, leg_onto, standing_onto, legs_onto, active_onto, minutes_onto}
use Rattle.release_index.specs.Found.{NamesOne, Touches, IsFoundBy, FindsBy}
use Rattle.release_index.specs.Index.{onto_by, IsIndexOf}
use Rattle.release_index.specs.Touched.{passes_in}
use Rattle.release_index.specs.declared.moves.By.{By}
use Rattle.release_index.specs.declared.moves.By.TheVariants as by
use Rattle.release_index.proofs.BeginLaws.{begins_listed, listed_begins}
use Rattle.release_index.proofs.BoolLaws.{or_left, or_right, both_true}
use Rattle.release_index.proofs.DueLaws.{has_minute, minutes_have}
use Rattle.release_index.proofs.EntryLaws.{station_has, tail_has, own_by}
use Rattle.release_index.proofs.PairLaws.{tied}

itself : (text : List ℕ) → bytes_eq text text ≡ true
itself text = (bytes_eq-Decides text text).1 refl

-- What holds of each key of what is named holds of each key that is added.

module _ (id : ℕ) (Q : ℕ × ℕ → Type 0) where
  abbrev Each : List (ℕ × ℕ) → Type 0
  Each keys = AllByRecursion Q keys

  text_each : (keys : List (ℕ × ℕ)) (text : List ℕ) → Q (fingerprint text, id) → Each keys → Each (text_onto id keys text)
  text_each keys text here all = each_push Q keys (fingerprint text, id) all here

  takeoff_each : (keys : List (ℕ × ℕ)) (it : Option TakeoffAlternate) → ((station : Station) → is_takeoff_alternate station it ≡ true → Q (fingerprint station, id)) → Each keys → Each (takeoff_onto id keys it)
  takeoff_each keys None each all = all
  takeoff_each keys (Some it) each all = text_each keys it.station (each it.station (itself it.station)) all

  alternates_each : (keys : List (ℕ × ℕ)) (listed : List Alternate) → ((station : Station) → lists_station station listed ≡ true → Q (fingerprint station, id)) → Each keys → Each (alternates_onto id keys listed)
  alternates_each keys [] each all = all
  alternates_each keys (it ∷ listed) each all =
      alternates_each (text_onto id keys it.station) listed (λ station later. each station (or_right (bytes_eq it.station station) (lists_station station listed) later))
      (text_each keys it.station (each it.station (or_left (bytes_eq it.station it.station) (lists_station it.station listed) (itself it.station))) all)

  leg_each : (keys : List (ℕ × ℕ)) (leg : Leg) → ((station : Station) → leg_names station leg ≡ true → Q (fingerprint station, id)) → Each keys → Each (leg_onto id keys leg)
  leg_each keys leg each all =
      alternates_each (takeoff_onto id (text_onto id (text_onto id keys leg.from) leg.to) leg.takeoff_alternate) leg.alternates (λ station is. each station (listed_named station leg is))
      (takeoff_each (text_onto id (text_onto id keys leg.from) leg.to) leg.takeoff_alternate (λ station is. each station (third_named station leg is))
      (text_each (text_onto id keys leg.from) leg.to (each leg.to (second_named leg.to leg (itself leg.to)))
      (text_each keys leg.from (each leg.from (first_named leg.from leg (itself leg.from))) all)))

  standing_each : (s : Standing) (keys : List (ℕ × ℕ)) (leg : Leg) → ((station : Station) → names_at s station leg ≡ true → Q (fingerprint station, id)) → Each keys → Each (standing_onto s id keys leg)
  standing_each Ahead keys leg each all = leg_each keys leg each all
  standing_each InFlight keys leg each all = leg_each keys leg each all
  standing_each Flown keys leg each all = all

  legs_each : (phase : Phase) (n : ℕ) (keys : List (ℕ × ℕ)) (legs : List Leg) → ((station : Station) → legs_name phase station n legs ≡ true → Q (fingerprint station, id)) → Each keys → Each (legs_onto id phase n keys legs)
  legs_each phase n keys [] each all = all
  legs_each phase n keys (leg ∷ legs) each all =
      legs_each phase (n + 1) (standing_onto (standing phase n) id keys leg) legs
      (λ station later. each station (or_right (names_at (standing phase n) station leg) (legs_name phase station (n + 1) legs) later))
      (standing_each (standing phase n) keys leg (λ station is. each station (or_left (names_at (standing phase n) station leg) (legs_name phase station (n + 1) legs) is)) all)

  minutes_each : (keys : List (ℕ × ℕ)) (minutes : List ℕ) → ((m : ℕ) → has_minute minutes m ≡ true → Q (m, id)) → Each keys → Each (minutes_onto id keys minutes)
  minutes_each keys [] each all = all
  minutes_each keys (minute ∷ minutes) each all =
      minutes_each (keys ++ (minute, id) ∷ []) minutes (λ m later. each m (or_right (minute == m) (has_minute minutes m) later))
      (each_push Q keys (minute, id) all (each minute (or_left (minute == minute) (has_minute minutes minute) (eq-eqb minute minute refl))))

  held_each : (q : ℕ × ℕ) (keys : List (ℕ × ℕ)) → Each keys → is_held key_cmp q keys ≡ true → Q q
  held_each q [] all is = absurd cc
  held_each q (k ∷ keys) all is = by (is_at (key_cmp q) k) refl is (held_each q keys all.1)
    where
      by : (b : Bool) → is_at (key_cmp q) k ≡ b → (b || is_held key_cmp q keys) ≡ true → (is_held key_cmp q keys ≡ true → Q q) → Q q
      by true e is rest = subst Q (sym (tied q k e)) all.0
      by false e is rest = rest is

-- The keys that a plan adds touch it.

plan_named : (plan : Plan) (phase : Phase) (station : Station) → legs_name phase station 1 plan.legs ≡ true → names_station plan phase station ≡ true
unfolding names_station
plan_named plan phase station is = is

station_touches : (id : ℕ) (q : ℕ × ℕ) (plan : Plan) (phase : Phase) → is_held key_cmp q (legs_onto id phase 1 [] plan.legs) ≡ true → NamesOne q.0 plan phase
station_touches id q plan phase is =
    held_each id (λ k. NamesOne k.0 plan phase) q (legs_onto id phase 1 [] plan.legs)
    (legs_each id (λ k. NamesOne k.0 plan phase) phase 1 [] plan.legs
    (λ station named. record { station = station; mark = refl; named = (named_exactly plan phase station).0 (plan_named plan phase station named) }) tt)
    is

tail_touches : (id : ℕ) (q : ℕ × ℕ) (plan : Plan) → is_held key_cmp q (text_onto id [] plan.tail) ≡ true → fingerprint plan.tail ≡ q.0
tail_touches id q plan is = held_each id (λ k. fingerprint plan.tail ≡ k.0) q (text_onto id [] plan.tail) (text_each id (λ k. fingerprint plan.tail ≡ k.0) [] plan.tail refl tt) is

due_touches : (settings : Settings) (id : ℕ) (q : ℕ × ℕ) (plan : Plan) (phase : Phase) → is_held key_cmp q (minutes_onto id [] (due_minutes plan phase settings)) ≡ true → Begins plan phase settings q.0
due_touches settings id q plan phase is =
    held_each id (λ k. Begins plan phase settings k.0) q (minutes_onto id [] (due_minutes plan phase settings))
    (minutes_each id (λ k. Begins plan phase settings k.0) [] (due_minutes plan phase settings) (λ m listed. begins_listed plan phase settings m listed) tt)
    is

-- A release is found by its keys.

module _ (kind : By) (settings : Settings) (q : ℕ × ℕ) (r : Release) (id : q.1 ≡ r.id) (add : List (ℕ × ℕ) → Plan → Phase → List (ℕ × ℕ))
    (touches : (plan : Plan) (phase : Phase) → is_held key_cmp q (add [] plan phase) ≡ true → Touches kind settings q.0 plan phase) where
  phase_found : (v : Revision) → r.active ≡ Some v → (b : Bool) → is_active r.phase ≡ b → is_held key_cmp q (cond b (add [] v.plan r.phase) []) ≡ true → IsFoundBy kind settings q r
  phase_found v stands true active is = record { id = id; revision = v; stands = stands; active = active; touches = touches v.plan r.phase is }
  phase_found v stands false active is = absurd cc

  active_found : (o : Option Revision) → r.active ≡ o → is_held key_cmp q (active_onto add [] o r.phase) ≡ true → IsFoundBy kind settings q r
  active_found None stands is = absurd cc
  active_found (Some v) stands is = phase_found v stands (is_active r.phase) refl is

found : (kind : By) (settings : Settings) (q : ℕ × ℕ) (r : Release) → is_held key_cmp q (onto_by kind settings [] r) ≡ true → IsFoundBy kind settings q r
found by.Station settings q r is =
    active_found by.Station settings q r (own_by by.Station settings q r is) (λ some plan phase. legs_onto r.id phase 1 some plan.legs) (λ plan phase held. station_touches r.id q plan phase held) r.active refl is
found by.Tail settings q r is =
    active_found by.Tail settings q r (own_by by.Tail settings q r is) (λ some plan phase. text_onto r.id some plan.tail) (λ plan phase held. tail_touches r.id q plan held) r.active refl is
found by.Due settings q r is =
    active_found by.Due settings q r (own_by by.Due settings q r is) (λ some plan phase. minutes_onto r.id some (due_minutes plan phase settings)) (λ plan phase held. due_touches settings r.id q plan phase held) r.active refl is

-- The keys by which a release is found are its keys.

passes_of : (test : Plan → Phase → Bool) (o : Option Revision) (v : Revision) (phase : Phase) → o ≡ Some v → is_active phase ≡ true → test v.plan phase ≡ true → passes_in test o phase ≡ true
passes_of test o v phase stands active is = ap (λ x. passes_in test x phase) stands ∙ both_true (is_active phase) (test v.plan phase) active is

active_held : (k : ℕ × ℕ) (add : List (ℕ × ℕ) → Plan → Phase → List (ℕ × ℕ)) (o : Option Revision) (v : Revision) (phase : Phase) → o ≡ Some v → is_active phase ≡ true
    → is_held key_cmp k (add [] v.plan phase) ≡ true → is_held key_cmp k (active_onto add [] o phase) ≡ true
active_held k add o v phase stands active held =
    ap (λ x. is_held key_cmp k (active_onto add [] x phase)) stands ∙ ap (λ b. is_held key_cmp k (cond b (add [] v.plan phase) [])) active ∙ held

key_is : (q : ℕ × ℕ) (number id : ℕ) → q.0 ≡ number → q.1 ≡ id → (keys : List (ℕ × ℕ)) → is_held key_cmp (number, id) keys ≡ true → is_held key_cmp q keys ≡ true
key_is q number id one two keys held = subst (λ (k : ℕ × ℕ). is_held key_cmp k keys ≡ true) (sym (let path : q ≡ (number, id) = λ i. (one i, two i) in path)) held

has_key : (kind : By) (settings : Settings) (q : ℕ × ℕ) (r : Release) → IsFoundBy kind settings q r → is_held key_cmp q (onto_by kind settings [] r) ≡ true
has_key by.Station settings q r f =
    let named = (named_exactly f.revision.plan r.phase f.touches.station).1 f.touches.named in
    let touched = passes_of (λ plan phase. names_station plan phase f.touches.station) r.active f.revision r.phase f.stands f.active named in
    key_is q (fingerprint f.touches.station) r.id (sym f.touches.mark) f.id (onto_by by.Station settings [] r) (station_has f.touches.station r touched)
has_key by.Tail settings q r f =
    let touched = passes_of (λ plan phase. is_of_tail plan f.revision.plan.tail) r.active f.revision r.phase f.stands f.active (itself f.revision.plan.tail) in
    key_is q (fingerprint f.revision.plan.tail) r.id (sym f.touches) f.id (onto_by by.Tail settings [] r) (tail_has f.revision.plan.tail r touched)
has_key by.Due settings q r f =
    let listed = minutes_have r.id q.0 [] (due_minutes f.revision.plan r.phase settings) (listed_begins f.revision.plan r.phase settings q.0 f.touches) in
    key_is q q.0 r.id refl f.id (onto_by by.Due settings [] r)
    (active_held (q.0, r.id) (λ some plan phase. minutes_onto r.id some (due_minutes plan phase settings)) r.active f.revision r.phase f.stands f.active listed)

any_each : (P R : Release → Type 0) → ((r : Release) → P r → R r) → (list : List Release) → Any P list → Any R list
any_each P R f list any = (any.0, any.1, any.2, any.3, f any.1 any.4)

-- what an index holds
pub finds : (kind : By) (settings : Settings) (keys : List (ℕ × ℕ)) (list : List Release) → IsIndexOf (onto_by kind settings) keys list → FindsBy kind settings keys list
finds kind settings keys list index q = (
  λ held. any_each (λ r. is_held key_cmp q (onto_by kind settings [] r) ≡ true) (IsFoundBy kind settings q) (found kind settings q) list
      (Any-from_list_any (λ r. is_held key_cmp q (onto_by kind settings [] r)) list (sym (index q) ∙ held)),
  λ any. index q
      ∙ list_any-from_Any (λ r. is_held key_cmp q (onto_by kind settings [] r)) list (any_each (IsFoundBy kind settings q) (λ r. is_held key_cmp q (onto_by kind settings [] r) ≡ true) (has_key kind settings q) list any),
)
