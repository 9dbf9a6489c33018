-- The keys of a release: they have its id, those of what touches it are among them, and those of some releases come after those
-- of others.
use Rattle.std.proofs.Common.{◌≡◌, refl, sym, ap, ◌∙◌, ℕ, ◌+◌, Bool, true, false, ◌&&◌, ◌||◌, cond, List, [], ◌∷◌, ◌++◌, Option, None, Some, bytes_eq}
use Rattle.std.specs.List.{list_any, AllByRecursion}
use Rattle.std.specs.BTreeMap.{is_at}
use Rattle.std.proofs.lemmas.List.Folds.{list_any-append}
use Rattle.std.proofs.lemmas.Slice.Eq.{bytes_eq-Decides}
use Rattle.desk_io.proofs.Each.{each_push}
use Rattle.desk_io.specs.Station.{Station}
use Rattle.facts.specs.Index.{fingerprint, key_cmp}
use Rattle.ops_tables.specs.declared.rows.Settings.{Settings}
use Rattle.rules.specs.Due.{due_minutes}
use Rattle.plan.specs.Phases.{is_active, standing}
use Rattle.plan.specs.declared.flights.Alternate.{Alternate}
use Rattle.plan.specs.declared.flights.Leg.{Leg}
use Rattle.plan.specs.declared.flights.Plan.{Plan}
use Rattle.plan.specs.declared.flights.TakeoffAlternate.{TakeoffAlternate}
use Rattle.plan.specs.declared.release.Phase.{Phase}
use Rattle.plan.specs.declared.release.Release.{Release}
use Rattle.plan.specs.declared.release.Revision.{Revision}
use Rattle.plan.specs.declared.release.Standing.{Standing}
use Rattle.plan.specs.declared.release.Standing.TheVariants.{Ahead, InFlight, Flown}
use Rattle.rules.specs.Touches.{is_takeoff_alternate, lists_station, leg_names, names_at, legs_name, names_station, is_of_tail}
use Rattle.desk_io.specs.Keys.{is_held}
use Rattle.release_index.specs.Entries.{text_onto, takeoff_onto, alternates_onto, leg_onto, standing_onto, legs_onto, active_onto, stations_onto, tail_onto, minutes_onto, dues_onto}
use Rattle.release_index.specs.Touched.{passes_in, touched_at, touched_on}
use Rattle.release_index.specs.declared.moves.By.{By}
use Rattle.release_index.specs.declared.moves.By.TheVariants as by
use Rattle.release_index.specs.Index.{all_onto, onto_by, IsIndexOf}
use Rattle.release_index.proofs.BoolLaws.{or_left, or_right, or_cases, or_three}
use Rattle.release_index.proofs.PairLaws.{tied, at_itself}
use Rattle.release_index.proofs.SetLaws.{or_none}

-- All have the release's id.

module _ (id : ℕ) where
  abbrev HaveId : List (ℕ × ℕ) → Type 0
  HaveId keys = AllByRecursion (λ k. k.1 ≡ id) keys

  text_ids : (keys : List (ℕ × ℕ)) (text : List ℕ) → HaveId keys → HaveId (text_onto id keys text)
  text_ids keys text all = each_push (λ k. k.1 ≡ id) keys (fingerprint text, id) all refl

  takeoff_ids : (keys : List (ℕ × ℕ)) (it : Option TakeoffAlternate) → HaveId keys → HaveId (takeoff_onto id keys it)
  takeoff_ids keys None all = all
  takeoff_ids keys (Some it) all = text_ids keys it.station all

  alternates_ids : (keys : List (ℕ × ℕ)) (listed : List Alternate) → HaveId keys → HaveId (alternates_onto id keys listed)
  alternates_ids keys [] all = all
  alternates_ids keys (it ∷ listed) all = alternates_ids (text_onto id keys it.station) listed (text_ids keys it.station all)

  leg_ids : (keys : List (ℕ × ℕ)) (leg : Leg) → HaveId keys → HaveId (leg_onto id keys leg)
  leg_ids keys leg all =
      alternates_ids (takeoff_onto id (text_onto id (text_onto id keys leg.from) leg.to) leg.takeoff_alternate) leg.alternates
      (takeoff_ids (text_onto id (text_onto id keys leg.from) leg.to) leg.takeoff_alternate
      (text_ids (text_onto id keys leg.from) leg.to (text_ids keys leg.from all)))

  standing_ids : (s : Standing) (keys : List (ℕ × ℕ)) (leg : Leg) → HaveId keys → HaveId (standing_onto s id keys leg)
  standing_ids Ahead keys leg all = leg_ids keys leg all
  standing_ids InFlight keys leg all = leg_ids keys leg all
  standing_ids Flown keys leg all = all

  legs_ids : (phase : Phase) (n : ℕ) (keys : List (ℕ × ℕ)) (legs : List Leg) → HaveId keys → HaveId (legs_onto id phase n keys legs)
  legs_ids phase n keys [] all = all
  legs_ids phase n keys (leg ∷ legs) all =
      legs_ids phase (n + 1) (standing_onto (standing phase n) id keys leg) legs (standing_ids (standing phase n) keys leg all)

  minutes_ids : (keys : List (ℕ × ℕ)) (minutes : List ℕ) → HaveId keys → HaveId (minutes_onto id keys minutes)
  minutes_ids keys [] all = all
  minutes_ids keys (minute ∷ minutes) all = minutes_ids (keys ++ (minute, id) ∷ []) minutes (each_push (λ k. k.1 ≡ id) keys (minute, id) all refl)

  active_ids : (add : List (ℕ × ℕ) → Plan → Phase → List (ℕ × ℕ)) → ((plan : Plan) (phase : Phase) → HaveId (add [] plan phase)) → (v : Option Revision) (phase : Phase)
      → HaveId (active_onto add [] v phase)
  active_ids add each None phase = tt
  active_ids add each (Some v) phase = by (is_active phase)
    where
      by : (b : Bool) → HaveId (cond b (add [] v.plan phase) [])
      by true = each v.plan phase
      by false = tt

  held_id : (q : ℕ × ℕ) (keys : List (ℕ × ℕ)) → HaveId keys → is_held key_cmp q keys ≡ true → q.1 ≡ id
  held_id q [] all is = absurd cc
  held_id q (k ∷ keys) all is = by (is_at (key_cmp q) k) refl is (held_id q keys all.1)
    where
      by : (b : Bool) → is_at (key_cmp q) k ≡ b → (b || is_held key_cmp q keys) ≡ true → (is_held key_cmp q keys ≡ true → q.1 ≡ id) → q.1 ≡ id
      by true e is rest = ap (λ (p : ℕ × ℕ). p.1) (tied q k e) ∙ all.0
      by false e is rest = rest is

pub station_own : (q : ℕ × ℕ) (r : Release) → is_held key_cmp q (stations_onto [] r) ≡ true → q.1 ≡ r.id
station_own q r is =
    held_id r.id q (stations_onto [] r) (active_ids r.id (λ some plan phase. legs_onto r.id phase 1 some plan.legs) (λ plan phase. legs_ids r.id phase 1 [] plan.legs tt) r.active r.phase) is

pub due_own : (settings : Settings) (q : ℕ × ℕ) (r : Release) → is_held key_cmp q (dues_onto settings [] r) ≡ true → q.1 ≡ r.id
due_own settings q r is =
    held_id r.id q (dues_onto settings [] r)
    (active_ids r.id (λ some plan phase. minutes_onto r.id some (due_minutes plan phase settings)) (λ plan phase. minutes_ids r.id [] (due_minutes plan phase settings) tt) r.active r.phase) is

pub tail_own : (q : ℕ × ℕ) (r : Release) → is_held key_cmp q (tail_onto [] r) ≡ true → q.1 ≡ r.id
tail_own q r is =
    held_id r.id q (tail_onto [] r) (active_ids r.id (λ some plan phase. text_onto r.id some plan.tail) (λ plan phase. text_ids r.id [] plan.tail tt) r.active r.phase) is

-- What adds keys to some, whatever these are.

abbrev pub Adds : (List (ℕ × ℕ) → List (ℕ × ℕ)) → Type 0
Adds onto = (q : ℕ × ℕ) (keys : List (ℕ × ℕ)) → is_held key_cmp q (onto keys) ≡ (is_held key_cmp q keys || is_held key_cmp q (onto []))

adds_none : Adds (λ keys. keys)
adds_none q keys = sym (or_none (is_held key_cmp q keys))

adds_both : (f g : List (ℕ × ℕ) → List (ℕ × ℕ)) → Adds f → Adds g → Adds (λ keys. g (f keys))
adds_both f g one two q keys =
    two q (f keys) ∙ ap (λ b. b || is_held key_cmp q (g [])) (one q keys)
    ∙ or_three (is_held key_cmp q keys) (is_held key_cmp q (f [])) (is_held key_cmp q (g []))
    ∙ ap (λ b. is_held key_cmp q keys || b) (sym (two q (f [])))

module _ (id : ℕ) where
  text_adds : (text : List ℕ) → Adds (λ keys. text_onto id keys text)
  text_adds text q keys = list_any-append (is_at (key_cmp q)) keys ((fingerprint text, id) ∷ [])

  takeoff_adds : (it : Option TakeoffAlternate) → Adds (λ keys. takeoff_onto id keys it)
  takeoff_adds None = adds_none
  takeoff_adds (Some it) = text_adds it.station

  alternates_adds : (listed : List Alternate) → Adds (λ keys. alternates_onto id keys listed)
  alternates_adds [] = adds_none
  alternates_adds (it ∷ listed) = adds_both (λ keys. text_onto id keys it.station) (λ keys. alternates_onto id keys listed) (text_adds it.station) (alternates_adds listed)

  leg_adds : (leg : Leg) → Adds (λ keys. leg_onto id keys leg)
  leg_adds leg =
      adds_both (λ keys. takeoff_onto id (text_onto id (text_onto id keys leg.from) leg.to) leg.takeoff_alternate) (λ keys. alternates_onto id keys leg.alternates)
      (adds_both (λ keys. text_onto id (text_onto id keys leg.from) leg.to) (λ keys. takeoff_onto id keys leg.takeoff_alternate)
      (adds_both (λ keys. text_onto id keys leg.from) (λ keys. text_onto id keys leg.to) (text_adds leg.from) (text_adds leg.to))
      (takeoff_adds leg.takeoff_alternate))
      (alternates_adds leg.alternates)

  standing_adds : (s : Standing) (leg : Leg) → Adds (λ keys. standing_onto s id keys leg)
  standing_adds Ahead leg = leg_adds leg
  standing_adds InFlight leg = leg_adds leg
  standing_adds Flown leg = adds_none

  legs_adds : (phase : Phase) (n : ℕ) (legs : List Leg) → Adds (λ keys. legs_onto id phase n keys legs)
  legs_adds phase n [] = adds_none
  legs_adds phase n (leg ∷ legs) =
      adds_both (λ keys. standing_onto (standing phase n) id keys leg) (λ keys. legs_onto id phase (n + 1) keys legs) (standing_adds (standing phase n) leg) (legs_adds phase (n + 1) legs)

  key_adds : (key : ℕ × ℕ) → Adds (λ keys. keys ++ key ∷ [])
  key_adds key q keys = list_any-append (is_at (key_cmp q)) keys (key ∷ [])

  pub minutes_adds : (minutes : List ℕ) → Adds (λ keys. minutes_onto id keys minutes)
  minutes_adds [] = adds_none
  minutes_adds (minute ∷ minutes) = adds_both (λ keys. keys ++ (minute, id) ∷ []) (λ keys. minutes_onto id keys minutes) (key_adds (minute, id)) (minutes_adds minutes)

active_adds : (add : List (ℕ × ℕ) → Plan → Phase → List (ℕ × ℕ)) → ((plan : Plan) (phase : Phase) → Adds (λ keys. add keys plan phase)) → (v : Option Revision) (phase : Phase)
    → Adds (λ keys. active_onto add keys v phase)
active_adds add each None phase = adds_none
active_adds add each (Some v) phase = by (is_active phase)
  where
    by : (b : Bool) → Adds (λ keys. cond b (add keys v.plan phase) keys)
    by true = each v.plan phase
    by false = adds_none

pub station_adds : (r : Release) → Adds (λ keys. stations_onto keys r)
station_adds r = active_adds (λ some plan phase. legs_onto r.id phase 1 some plan.legs) (λ plan phase. legs_adds r.id phase 1 plan.legs) r.active r.phase

pub due_adds : (settings : Settings) (r : Release) → Adds (λ keys. dues_onto settings keys r)
due_adds settings r = active_adds (λ some plan phase. minutes_onto r.id some (due_minutes plan phase settings)) (λ plan phase. minutes_adds r.id (due_minutes plan phase settings)) r.active r.phase

pub tail_adds : (r : Release) → Adds (λ keys. tail_onto keys r)
tail_adds r = active_adds (λ some plan phase. text_onto r.id some plan.tail) (λ plan phase. text_adds r.id plan.tail) r.active r.phase

-- the keys of all releases are those of each
module _ (onto : List (ℕ × ℕ) → Release → List (ℕ × ℕ)) (adds : (r : Release) → Adds (λ keys. onto keys r)) (q : ℕ × ℕ) where
  pub all_held : (keys : List (ℕ × ℕ)) (list : List Release) → is_held key_cmp q (all_onto onto keys list) ≡ (is_held key_cmp q keys || list_any (λ r. is_held key_cmp q (onto [] r)) list)
  all_held keys [] = sym (or_none (is_held key_cmp q keys))
  all_held keys (r ∷ list) =
      all_held (onto keys r) list ∙ ap (λ b. b || list_any (λ r. is_held key_cmp q (onto [] r)) list) (adds r q keys)
      ∙ or_three (is_held key_cmp q keys) (is_held key_cmp q (onto [] r)) (list_any (λ r. is_held key_cmp q (onto [] r)) list)

-- The key of what touches a release is among its keys.

module _ (id : ℕ) (text : List ℕ) where
  abbrev Has : List (ℕ × ℕ) → Type 0
  Has keys = is_held key_cmp (fingerprint text, id) keys ≡ true

  -- what keys have is there once others came after them
  kept : (onto : List (ℕ × ℕ) → List (ℕ × ℕ)) → Adds onto → (keys : List (ℕ × ℕ)) → Has keys → Has (onto keys)
  kept onto adds keys has = adds (fingerprint text, id) keys ∙ or_left (is_held key_cmp (fingerprint text, id) keys) (is_held key_cmp (fingerprint text, id) (onto [])) has

  text_has : (keys : List (ℕ × ℕ)) (other : List ℕ) → bytes_eq other text ≡ true → Has (text_onto id keys other)
  text_has keys other same =
      let is : other ≡ text = (bytes_eq-Decides other text).0 same in
      let here : is_at (key_cmp (fingerprint text, id)) (fingerprint other, id) ≡ true = ap (λ t. is_at (key_cmp (fingerprint text, id)) (fingerprint t, id)) is ∙ at_itself (fingerprint text, id) in
      list_any-append (is_at (key_cmp (fingerprint text, id))) keys ((fingerprint other, id) ∷ [])
      ∙ or_right (is_held key_cmp (fingerprint text, id) keys) (is_at (key_cmp (fingerprint text, id)) (fingerprint other, id) || false)
      (or_left (is_at (key_cmp (fingerprint text, id)) (fingerprint other, id)) false here)

  takeoff_has : (keys : List (ℕ × ℕ)) (it : Option TakeoffAlternate) → is_takeoff_alternate text it ≡ true → Has (takeoff_onto id keys it)
  takeoff_has keys None is = absurd cc
  takeoff_has keys (Some it) is = text_has keys it.station is

  alternates_has : (keys : List (ℕ × ℕ)) (listed : List Alternate) → lists_station text listed ≡ true → Has (alternates_onto id keys listed)
  alternates_has keys [] is = absurd cc
  alternates_has keys (it ∷ listed) is =
      or_cases (bytes_eq it.station text) (lists_station text listed) (Has (alternates_onto id (text_onto id keys it.station) listed))
      (λ same. kept (λ some. alternates_onto id some listed) (alternates_adds id listed) (text_onto id keys it.station) (text_has keys it.station same))
      (λ later. alternates_has (text_onto id keys it.station) listed later) is

  leg_has : (keys : List (ℕ × ℕ)) (leg : Leg) → leg_names text leg ≡ true → Has (leg_onto id keys leg)
  leg_has keys leg is =
      let one = text_onto id keys leg.from in
      let two = text_onto id one leg.to in
      let three = takeoff_onto id two leg.takeoff_alternate in
      let after_three : Has three → Has (leg_onto id keys leg) = kept (λ some. alternates_onto id some leg.alternates) (alternates_adds id leg.alternates) three in
      let after_two : Has two → Has (leg_onto id keys leg) = λ has. after_three (kept (λ some. takeoff_onto id some leg.takeoff_alternate) (takeoff_adds id leg.takeoff_alternate) two has) in
      let after_one : Has one → Has (leg_onto id keys leg) = λ has. after_two (kept (λ some. text_onto id some leg.to) (text_adds id leg.to) one has) in
      or_cases (bytes_eq leg.from text || bytes_eq leg.to text || is_takeoff_alternate text leg.takeoff_alternate) (lists_station text leg.alternates) (Has (leg_onto id keys leg))
      (or_cases (bytes_eq leg.from text || bytes_eq leg.to text) (is_takeoff_alternate text leg.takeoff_alternate) (Has (leg_onto id keys leg))
      (or_cases (bytes_eq leg.from text) (bytes_eq leg.to text) (Has (leg_onto id keys leg)) (λ same. after_one (text_has keys leg.from same)) (λ same. after_two (text_has one leg.to same)))
      (λ same. after_three (takeoff_has two leg.takeoff_alternate same)))
      (λ same. alternates_has three leg.alternates same) is

  standing_has : (s : Standing) (keys : List (ℕ × ℕ)) (leg : Leg) → names_at s text leg ≡ true → Has (standing_onto s id keys leg)
  standing_has Ahead keys leg is = leg_has keys leg is
  standing_has InFlight keys leg is = leg_has keys leg is
  standing_has Flown keys leg is = absurd cc

  legs_has : (phase : Phase) (n : ℕ) (keys : List (ℕ × ℕ)) (legs : List Leg) → legs_name phase text n legs ≡ true → Has (legs_onto id phase n keys legs)
  legs_has phase n keys [] is = absurd cc
  legs_has phase n keys (leg ∷ legs) is =
      let some = standing_onto (standing phase n) id keys leg in
      or_cases (names_at (standing phase n) text leg) (legs_name phase text (n + 1) legs) (Has (legs_onto id phase (n + 1) some legs))
      (λ named. kept (λ ks. legs_onto id phase (n + 1) ks legs) (legs_adds id phase (n + 1) legs) some (standing_has (standing phase n) keys leg named))
      (λ later. legs_has phase (n + 1) some legs later) is

  active_has : (add : List (ℕ × ℕ) → Plan → Phase → List (ℕ × ℕ)) (test : Plan → Phase → Bool) → ((plan : Plan) (phase : Phase) → test plan phase ≡ true → Has (add [] plan phase))
      → (v : Option Revision) (phase : Phase) → passes_in test v phase ≡ true → Has (active_onto add [] v phase)
  active_has add test each None phase is = absurd cc
  active_has add test each (Some v) phase is = by (is_active phase) is
    where
      by : (b : Bool) → (b && test v.plan phase) ≡ true → Has (cond b (add [] v.plan phase) [])
      by true is = each v.plan phase is
      by false is = absurd cc

plan_has : (id : ℕ) (station : Station) (plan : Plan) (phase : Phase) → names_station plan phase station ≡ true
    → is_held key_cmp (fingerprint station, id) (legs_onto id phase 1 [] plan.legs) ≡ true
unfolding names_station
plan_has id station plan phase is = legs_has id station phase 1 [] plan.legs is

pub station_has : (station : Station) (r : Release) → touched_at station r ≡ true → is_held key_cmp (fingerprint station, r.id) (stations_onto [] r) ≡ true
station_has station r is =
    active_has r.id station (λ some plan phase. legs_onto r.id phase 1 some plan.legs) (λ plan phase. names_station plan phase station) (plan_has r.id station) r.active r.phase is

pub tail_has : (tail : List ℕ) (r : Release) → touched_on tail r ≡ true → is_held key_cmp (fingerprint tail, r.id) (tail_onto [] r) ≡ true
tail_has tail r is =
    active_has r.id tail (λ some plan phase. text_onto r.id some plan.tail) (λ plan phase. is_of_tail plan tail) (λ plan phase same. text_has r.id tail [] plan.tail same) r.active r.phase is

-- By whatever an index finds releases.

pub own_by : (by : By) (settings : Settings) (q : ℕ × ℕ) (r : Release) → is_held key_cmp q (onto_by by settings [] r) ≡ true → q.1 ≡ r.id
own_by by.Station settings q r is = station_own q r is
own_by by.Tail settings q r is = tail_own q r is
own_by by.Due settings q r is = due_own settings q r is

adds_by : (by : By) (settings : Settings) (r : Release) → Adds (λ keys. onto_by by settings keys r)
adds_by by.Station settings r = station_adds r
adds_by by.Tail settings r = tail_adds r
adds_by by.Due settings r = due_adds settings r

-- the set of the keys of all releases is an index of them
pub set_is_index : (by : By) (settings : Settings) (keys some : List (ℕ × ℕ)) (list : List Release) → some ≡ all_onto (onto_by by settings) [] list → ((q : ℕ × ℕ) → is_held key_cmp q keys ≡ is_held key_cmp q some) → IsIndexOf (onto_by by settings) keys list
set_is_index by settings keys some list is each q = each q ∙ ap (is_held key_cmp q) is ∙ all_held (onto_by by settings) (adds_by by settings) q [] list
