-- The run of some minutes leads to the releases for which a rule of time begins to fail in it.
use Rattle.std.proofs.Common.{◌≡◌, refl, sym, ap, ◌∙◌, ℕ, ◌+◌, ◌-◌, ◌<◌, ◌≤◌, ◌==◌, arith, Bool, true, false, ◌&&◌, ◌||◌, cond, nat_lt, nat_le, List, [], ◌∷◌, ◌++◌, length, filter, Option, None, Some, min, eqb-true, eq-eqb}
use Rattle.std.specs.List.{AllByRecursion, slice_get, list_any}
use Rattle.std.specs.List.Sorted.{IsStrictlySortedBy}
use Rattle.std.specs.BTreeMap.{is_at}
use Rattle.std.proofs.lemmas.Bool.{and_parts, ltb-true, ltb-false}
use Rattle.std.proofs.lemmas.Bool.Decides.{nat_tests}
use Rattle.std.proofs.lemmas.List.Folds.{list_any-append}
use Rattle.codes.specs.Cond.{lesser}
use Rattle.desk_io.proofs.Each.{each_weaker}
use Rattle.facts.specs.Index.{key_cmp}
use Rattle.ops_tables.specs.declared.rows.Settings.{Settings}
use Rattle.plan.specs.Phases.{is_active}
use Rattle.plan.specs.declared.flights.Plan.{Plan}
use Rattle.plan.specs.declared.release.Phase.{Phase}
use Rattle.plan.specs.declared.release.Release.{Release}
use Rattle.plan.specs.declared.release.Revision.{Revision}
use Rattle.rules.specs.Due.{next_due, due_minutes, first_after}
use Rattle.rules.proofs.DueMinutes.{are_due}
use Rattle.desk_io.specs.ById.{AreRising}
use Rattle.desk_io.specs.Keys.{is_held}
use Rattle.desk_io.specs.Sorted.{within}
use Rattle.desk_io.proofs.ByIdLaws.{rise}
use Rattle.release_index.specs.Chosen.{chosen_onto, due_at, is_at_minute, leads_by, id_or_none}
use Rattle.release_index.specs.Entries.{active_onto, minutes_onto, dues_onto}
use Rattle.release_index.specs.Index.{IsIndexOf}
use Rattle.release_index.specs.Touched.{passes_in, is_due_by, touched_by, held_where, is_among}
use Rattle.release_index.proofs.BoolLaws.{or_left, or_right}
use Rattle.release_index.proofs.ChangeLaws.{id_of}
use Rattle.release_index.proofs.ChosenLaws.{Leads, chosen_touched, chosen_few}
use Rattle.release_index.proofs.EntryLaws.{minutes_adds}
use Rattle.release_index.proofs.PairLaws.{at_itself}
use Rattle.release_index.proofs.RunLaws.{last_above}

-- The first of some minutes after a moment is one of them.

abbrev pub has_minute : List ℕ → ℕ → Bool
has_minute minutes due = list_any (λ m. m == due) minutes

of_lesser : (a b : Option ℕ) (due : ℕ) (P : Type 0) → lesser a b ≡ Some due → (a ≡ Some due → P) → (b ≡ Some due → P) → P
of_lesser None b due P is one two = two is
of_lesser (Some x) None due P is one two = one is
of_lesser (Some x) (Some y) due P is one two = by (nat_lt x y) refl
  where
    by : (b : Bool) → nat_lt x y ≡ b → P
    by true e = one (ap Some (let less = ltb-true x y e in let same : min x y ≡ x = omega (arith, less) in sym same) ∙ is)
    by false e = two (ap Some (let more = ltb-false x y e in let same : min x y ≡ y = omega (arith, more) in sym same) ∙ is)

after_is : (moment minute due : ℕ) → cond (nat_lt moment minute) (Some minute) None ≡ Some due → (minute ≡ due) × (moment < due)
after_is moment minute due is = by (nat_lt moment minute) refl is
  where
    by : (b : Bool) → nat_lt moment minute ≡ b → cond b (Some minute) None ≡ Some due → (minute ≡ due) × (moment < due)
    by true e is = let same : minute ≡ due = grind (arith, is) in (same, let less = ltb-true moment minute e in omega (arith, less, same))
    by false e is = absurd cc

pub first_among : (moment : ℕ) (minutes : List ℕ) (due : ℕ) → first_after moment minutes ≡ Some due → (has_minute minutes due ≡ true) × (moment < due)
first_among moment [] due is = absurd cc
first_among moment (minute ∷ minutes) due is =
    of_lesser (cond (nat_lt moment minute) (Some minute) None) (first_after moment minutes) due ((has_minute (minute ∷ minutes) due ≡ true) × (moment < due)) is
    (λ here. let it = after_is moment minute due here in (or_left (minute == due) (has_minute minutes due) (eq-eqb minute due it.0), it.1))
    (λ later. let it = first_among moment minutes due later in (or_right (minute == due) (has_minute minutes due) it.0, it.1))

-- and its key is among those of the minutes
pub minutes_have : (id due : ℕ) (keys : List (ℕ × ℕ)) (minutes : List ℕ) → has_minute minutes due ≡ true → is_held key_cmp (due, id) (minutes_onto id keys minutes) ≡ true
minutes_have id due keys [] is = absurd cc
minutes_have id due keys (minute ∷ minutes) is = by (minute == due) (minutes_have id due (keys ++ (minute, id) ∷ []) minutes) refl is
  where
    by : (b : Bool) → (has_minute minutes due ≡ true → is_held key_cmp (due, id) (minutes_onto id (keys ++ (minute, id) ∷ []) minutes) ≡ true) → (minute == due) ≡ b → (b || has_minute minutes due) ≡ true → is_held key_cmp (due, id) (minutes_onto id (keys ++ (minute, id) ∷ []) minutes) ≡ true
    by true rest e is =
        let same : minute ≡ due = eqb-true minute due e in
        let here : is_at (key_cmp (due, id)) (minute, id) ≡ true = ap (λ m. is_at (key_cmp (due, id)) (m, id)) same ∙ at_itself (due, id) in
        minutes_adds id minutes (due, id) (keys ++ (minute, id) ∷ [])
        ∙ or_left (is_held key_cmp (due, id) (keys ++ (minute, id) ∷ [])) (is_held key_cmp (due, id) (minutes_onto id [] minutes))
        (list_any-append (is_at (key_cmp (due, id))) keys ((minute, id) ∷ [])
        ∙ or_right (is_held key_cmp (due, id) keys) (is_at (key_cmp (due, id)) (minute, id) || false) (or_left (is_at (key_cmp (due, id)) (minute, id)) false here))
    by false rest e is = rest is

module _ (settings : Settings) (moment minute : ℕ) where
  abbrev by_then : Plan → Phase → Bool
  by_then plan phase = is_due_by minute (next_due plan phase settings moment)

  abbrev at_it : ℕ → Plan → Phase → Bool
  at_it due plan phase = is_at_minute due (next_due plan phase settings moment)

  record DueIn (id : ℕ) (v : Option Revision) (phase : Phase) : Type 0 where
    pub due : ℕ
    pub later : moment < due
    pub within : due ≤ minute
    pub meets : passes_in (at_it due) v phase ≡ true
    pub held : is_held key_cmp (due, id) (active_onto (λ some plan phase. minutes_onto id some (due_minutes plan phase settings)) [] v phase) ≡ true

  plan_due : (id : ℕ) (v : Revision) (phase : Phase) (o : Option ℕ) → is_active phase ≡ true → next_due v.plan phase settings moment ≡ o → is_due_by minute o ≡ true → DueIn id (Some v) phase
  plan_due id v phase None active is within = absurd cc
  plan_due id v phase (Some due) active is within =
      let first = first_among moment (due_minutes v.plan phase settings) due (sym (are_due v.plan phase settings moment) ∙ is) in record {
        due = due;
        later = first.1;
        within = grind (arith, nat_tests, within);
        meets = rw (active, is) (eq-eqb due due refl);
        held = rw active (minutes_have id due [] (due_minutes v.plan phase settings) first.0);
      }

  due_in : (id : ℕ) (v : Option Revision) (phase : Phase) → passes_in by_then v phase ≡ true → DueIn id v phase
  due_in id None phase is = absurd cc
  due_in id (Some v) phase is =
      let both = and_parts (is_active phase) (by_then v.plan phase) is in
      plan_due id v phase (next_due v.plan phase settings moment) both.0 refl both.1

  at_is : (due : ℕ) (o : Option ℕ) → is_at_minute due o ≡ true → o ≡ Some due
  at_is due None is = absurd cc
  at_is due (Some other) is = ap Some (eqb-true other due is)

  -- what is due at a minute not later is due by then
  at_by : (due : ℕ) (v : Option Revision) (phase : Phase) → due ≤ minute → passes_in (at_it due) v phase ≡ true → passes_in by_then v phase ≡ true
  at_by due None phase within is = absurd cc
  at_by due (Some v) phase within is =
      let both = and_parts (is_active phase) (at_it due v.plan phase) is in
      let next = at_is due (next_due v.plan phase settings moment) both.1 in
      let early : nat_le due minute ≡ true = grind (arith, nat_tests, within) in
      rw (both.0, next) early

  -- and at no other minute
  one_due : (one two : ℕ) (v : Option Revision) (phase : Phase) → passes_in (at_it one) v phase ≡ true → passes_in (at_it two) v phase ≡ true → one ≡ two
  one_due one two None phase is also = absurd cc
  one_due one two (Some v) phase is also =
      let a = and_parts (is_active phase) (at_it one v.plan phase) is in
      let b = and_parts (is_active phase) (at_it two v.plan phase) also in
      let first = at_is one (next_due v.plan phase settings moment) a.1 in
      let second = at_is two (next_due v.plan phase settings moment) b.1 in
      let same : Some one ≡ Some two = sym first ∙ second in
      grind (arith, same)

  module _ (first top : ℕ) (next : first ≤ moment + 1) (list : List Release) (rising : AreRising id_of list) (is_top : top ≡ id_or_none (slice_get list (length list - 1))) where
    abbrev run : ℕ × ℕ → Bool
    run = within key_cmp (first, 0) (minute, top)

    run_is : (k : ℕ × ℕ) → run k ≡ (nat_le first k.0 && (nat_lt k.0 minute || ((k.0 == minute) && nat_le k.1 top)))
    run_is k = grind (arith, nat_tests)

    early : (k : ℕ × ℕ) → run k ≡ true → k.0 ≤ minute
    early k is = let e = sym (run_is k) ∙ is in grind (arith, nat_tests, e)

    inside : (due id : ℕ) → moment < due → due ≤ minute → id ≤ top → run (due, id) ≡ true
    inside due id later within least = run_is (due, id) ∙ grind (arith, nat_tests, next, later, within, least)

    complete : AllByRecursion (λ r. touched_by settings moment minute r ≡ true → Leads (dues_onto settings) run (λ k r. due_at settings moment k.0 r) r) list
    complete =
        each_weaker (λ r. r.id ≤ id_or_none (slice_get list (length list - 1))) (λ r. touched_by settings moment minute r ≡ true → Leads (dues_onto settings) run (λ k r. due_at settings moment k.0 r) r)
        (λ r least touched. let d = due_in r.id r.active r.phase touched in record {
          key = (d.due, r.id);
          named = refl;
          within = inside d.due r.id d.later d.within (omega (arith, least, is_top));
          passes = d.meets;
          held = d.held;
        })
        list (last_above list rising)

    sound : (k : ℕ × ℕ) (r : Release) → run k ≡ true → due_at settings moment k.0 r ≡ true → touched_by settings moment minute r ≡ true
    sound k r in_run is = at_by k.0 r.active r.phase (early k in_run) is

    once : (r : Release) (a b : ℕ × ℕ) → run a ≡ true → a.1 ≡ r.id → due_at settings moment a.0 r ≡ true → run b ≡ true → b.1 ≡ r.id → due_at settings moment b.0 r ≡ true → a ≡ b
    once r a b in_a id_a at_a in_b id_b at_b =
        let first : a.0 ≡ b.0 = one_due a.0 b.0 r.active r.phase at_a at_b in
        let second : a.1 ≡ b.1 = id_a ∙ sym id_b in
        λ i. (first i, second i)

    module _ (keys some : List (ℕ × ℕ)) (ids fresh : List ℕ) (ran : some ≡ filter run keys) (is : fresh ≡ chosen_onto (leads_by settings moment list) ids some) where
      pub due_touched : IsIndexOf (dues_onto settings) keys list → (id : ℕ) → is_among fresh id ≡ (is_among ids id || held_where (touched_by settings moment minute) id list)
      due_touched index =
          chosen_touched (dues_onto settings) run (λ k r. due_at settings moment k.0 r) (touched_by settings moment minute) keys list sound index (rise id_of list rising) complete ids fresh some ran is

      pub due_few : IsStrictlySortedBy key_cmp keys → length fresh ≤ length ids + length (filter (touched_by settings moment minute) list)
      due_few sorted = chosen_few (dues_onto settings) run (λ k r. due_at settings moment k.0 r) (touched_by settings moment minute) keys list sound once sorted ids fresh some ran is
