-- The changes of an event lead from the rows of the state before it to those of the state after it.
use Rattle.std.proofs.Common.{◌≡◌, ℕ, Bool, true, false, ◌&&◌, inl, inr, cond, eqb, lit≤, List, [], ◌∷◌, ◌++◌, Option, None, Some, refl, ap, sym, ◌∙◌}
use Rattle.std.specs.Prelude.{map}
use Rattle.std.specs.Option.{option_map}
use Rattle.std.proofs.lemmas.List.{map-append}
use Rattle.desk_io.specs.declared.rows.Row.{Row}
use Rattle.desk_io.specs.Rows.{Rows, no_rows, is_row, rows_of, changed_by}
use Rattle.keeper.specs.Kept.{AreSame}
use Rattle.desk_state.specs.declared.effect.Effect.{Effect}
use Rattle.desk_state.specs.declared.entry.Entry.{Entry}
use Rattle.desk_state.specs.Events.{effected, alert_changes}
use Rattle.desk_state.specs.Sound.{Sound, InBounds, EffectFits}
use Rattle.desk_state.specs.State.{State, start}
use Rattle.desk_state.specs.Step.{entered, kept_of}
use Rattle.records.specs.Bodies.{row_in, row_of}
use Rattle.records.specs.declared.record.Meta.{Meta as MetaOf}
use Rattle.records.specs.declared.record.Record.{Record}
use Rattle.records.specs.declared.record.Record.TheVariants.{Meta, Report, Deferral, Release, Kept, Alert}
use Rattle.row_changes.specs.Rows.{meta_of, report_kept, alert_kept, records_of, state_rows, AreKept}
use Rattle.row_changes.specs.Changes.{put_row, part_changes, event_changes}
use Rattle.row_changes.proofs.Parts.{Body, becomes, becomes_is, Leads, joined}
use Rattle.row_changes.proofs.KindLaws.{meta_row, report_row, deferral_row, release_row, kept_row, alert_row, meta_leads, reports_lead, deferrals_lead, releases_lead, replies_lead, alerts_lead}

map_map : {A : Type 0} (g : A → Record) (xs : List A) → map row_of (map g xs) ≡ map (λ x. row_of (g x)) xs
map_map g [] = refl
map_map g (x ∷ xs) = ap (λ rest. row_of (g x) ∷ rest) (map_map g xs)

more_mapped : {A : Type 0} (g : A → Record) (records : List Record) (rows : List Row) (xs : List A) → map row_of records ≡ rows
    → map row_of (records ++ map g xs) ≡ rows ++ map (λ x. row_of (g x)) xs
more_mapped g records rows xs e =
    map-append row_of records (map g xs) ∙ ap (λ front. front ++ map row_of (map g xs)) e ∙ ap (λ rest. rows ++ rest) (map_map g xs)

-- the rows of a state, kind after kind
abbrev pub parts_of : State → List Row
parts_of s =
    meta_row (meta_of s) ∷ [] ++ map report_row s.reports ++ map deferral_row s.deferrals ++ map release_row s.releases ++ map kept_row s.kept ++ map alert_row s.alerts

pub rows_parts : (s : State) → state_rows s ≡ parts_of s
unfolding state_rows records_of
rows_parts s =
    let first = Meta (meta_of s) ∷ [] in
    let second = first ++ map (λ r. Report (report_kept r)) s.reports in
    let third = second ++ map Deferral s.deferrals in
    let fourth = third ++ map Release s.releases in
    let fifth = fourth ++ map Kept s.kept in
    more_mapped (λ a. Alert (alert_kept a)) fifth _ s.alerts
    (more_mapped Kept fourth _ s.kept
    (more_mapped Release third _ s.releases
    (more_mapped Deferral second _ s.deferrals
    (more_mapped (λ r. Report (report_kept r)) first (meta_row (meta_of s) ∷ []) s.reports refl))))

module _ (s : State) (effect : Effect) (e : Entry) (fits : EffectFits s effect) (sound : Sound s) (bounds : InBounds s) where
  parts_lead : Leads 0 6 (parts_of s) (parts_of (entered e (effected effect s)))
      (put_row (Meta (meta_of (entered e (effected effect s)))) ∷ part_changes s effect (kept_of (effected effect s) e.what) (alert_changes effect s))
  parts_lead =
      joined 0 5 6 (lit≤ tt) (lit≤ tt) _ _ _ _ _ _
      (joined 0 4 5 (lit≤ tt) (lit≤ tt) _ _ _ _ _ _
      (joined 0 3 4 (lit≤ tt) (lit≤ tt) _ _ _ _ _ _
      (joined 0 2 3 (lit≤ tt) (lit≤ tt) _ _ _ _ _ _
      (joined 0 1 2 (lit≤ tt) (lit≤ tt) _ _ _ _ _ _ (meta_leads (meta_of s) (meta_of (entered e (effected effect s)))) (reports_lead s effect fits bounds))
      (deferrals_lead s effect fits bounds))
      (releases_lead s effect fits sound))
      (replies_lead s effect e.what bounds))
      (alerts_lead s effect fits sound)

  lead_at : (k q : ℕ) → becomes k q (event_changes s effect e) (rows_of (state_rows s) k q) ≡ rows_of (state_rows (entered e (effected effect s))) k q
  unfolding event_changes
  lead_at k q =
      ap (λ rows. becomes k q (event_changes s effect e) (rows_of rows k q)) (rows_parts s)
      ∙ parts_lead.leads k q
      ∙ sym (ap (λ rows. rows_of rows k q) (rows_parts (entered e (effected effect s))))

module _ (rows : Rows) (s : State) (effect : Effect) (e : Entry) (fits : EffectFits s effect) (sound : Sound s) (bounds : InBounds s) where
  -- the row of the counters is put, whether one stood there or not
  put_first : (m : MetaOf) (k q : ℕ)
      → cond (is_row k q (meta_row m)) (Some (meta_row m).body) None ≡ cond (is_row k q (meta_row m)) (Some (meta_row m).body) (rows_of (state_rows (start s.tables)) k q)
  unfolding state_rows records_of row_in
  put_first m k q = by (eqb 0 k && eqb 0 q) (Some (meta_row m).body) (meta_row (meta_of (start s.tables)))
    where
      by : (t : Bool) (body : Option Body) (row : Row) → cond t body None ≡ cond t body (option_map (λ (r : Row). r.body) (cond t (Some row) None))
      by true body row = refl
      by false body row = refl

  -- nothing is the same to the changes of an event as the rows of the beginning
  from_none : s ≡ start s.tables → (k q : ℕ) → becomes k q (event_changes s effect e) None ≡ becomes k q (event_changes s effect e) (rows_of (state_rows s) k q)
  unfolding event_changes
  from_none is k q =
      ap (λ o. becomes k q (part_changes s effect (kept_of (effected effect s) e.what) (alert_changes effect s)) o)
      (put_first (meta_of (entered e (effected effect s))) k q
      ∙ ap (λ (t : State). cond (is_row k q (meta_row (meta_of (entered e (effected effect s))))) (Some (meta_row (meta_of (entered e (effected effect s)))).body) (rows_of (state_rows t) k q))
      (sym is))

  -- from nothing, where the state is as at the beginning
  pub first_changes_lead : AreSame rows no_rows → s ≡ start s.tables → AreSame (changed_by (event_changes s effect e) rows) (rows_of (state_rows (entered e (effected effect s))))
  first_changes_lead none is k q =
      becomes_is (event_changes s effect e) rows k q
      ∙ ap (λ o. becomes k q (event_changes s effect e) o) (none k q)
      ∙ from_none is k q
      ∙ lead_at s effect e fits sound bounds k q

  lead_from : AreSame rows (rows_of (state_rows s)) → AreSame (changed_by (event_changes s effect e) rows) (rows_of (state_rows (entered e (effected effect s))))
  lead_from same k q =
      becomes_is (event_changes s effect e) rows k q
      ∙ ap (λ o. becomes k q (event_changes s effect e) o) (same k q)
      ∙ lead_at s effect e fits sound bounds k q

-- from the rows that are kept for the state before
pub kept_lead : (rows : Rows) (s : State) (effect : Effect) (e : Entry) → EffectFits s effect → Sound s → InBounds s → AreKept rows s
    → AreSame (changed_by (event_changes s effect e) rows) (rows_of (state_rows (entered e (effected effect s))))
kept_lead rows s effect e fits sound bounds (inl same) = lead_from rows s effect e fits sound bounds same
kept_lead rows s effect e fits sound bounds (inr both) = first_changes_lead rows s effect e fits sound bounds both.0 both.1
