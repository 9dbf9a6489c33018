-- Rows of the first version are rewritten as those of the second.
use Rattle.std.proofs.Common.{◌≡◌, ℕ, ◌+◌, Bool, true, false, cond, eqb, lit≤, lit<, All, List, [], ◌∷◌, ◌++◌, Option, None, Some, refl, ap, sym, ◌∙◌, subst, arith}
use Rattle.std.specs.Prelude.{map}
use Rattle.std.specs.Option.{option_map}
use Rattle.std.specs.List.{AllByRecursion}
use Rattle.std.proofs.lemmas.Bool.{eqb-true}
use Rattle.std.proofs.lemmas.List.{map-append}
use Rattle.std.proofs.lemmas.List.Elements.{All-from_recursion}
use Rattle.desk_io.specs.declared.rows.Row.{Row}
use Rattle.desk_io.specs.declared.rows.Change.{Change}
use Rattle.desk_io.specs.Rows.{Rows, no_rows, is_row, rows_of, changed_by}
use Rattle.desk_io.proofs.Each.{each_weaker}
use Rattle.keeper.specs.Kept.{AreSame}
use Rattle.plan.specs.declared.release.Release.{Release as ReleaseOf}
use Rattle.release_index.specs.Bounds.{ReleaseInBounds}
use Rattle.release_json.specs.Rows.{ReleaseHasMoments}
use Rattle.release_json.specs.declared.version.Version.TheVariants.{First}
use Rattle.ops_tables.specs.Tables.{TableRows}
use Rattle.desk_state.specs.State.{State, start}
use Rattle.records.specs.Bodies.{body_data, row_in}
use Rattle.records.specs.declared.record.Meta.{Meta as MetaOf}
use Rattle.records.specs.declared.record.Record.{Record}
use Rattle.records.specs.declared.record.Record.TheVariants.{Meta, Report, Deferral, Release, Kept, Alert}
use Rattle.row_changes.specs.Rows.{meta_of, report_kept, alert_kept, records_of, state_rows}
use Rattle.row_changes.specs.Changes.{put_row}
use Rattle.row_changes.specs.Opening.{MayReopen}
use Rattle.row_changes.specs.Upgraded.{upgraded_changes}
use Rattle.row_changes.proofs.Parts.{Body, becomes, becomes_is, becomes_append, IsTo, IsOutside, Leads, joined, left_alone, rows_outside}
use Rattle.row_changes.proofs.Items.{Ascends, found_at, absent, none_later, one_kind, part, seen_at, twice}
use Rattle.row_changes.proofs.KindLaws.{meta_row, report_row, deferral_row, release_row, kept_row, alert_row}
use Rattle.row_changes.proofs.Leading.{parts_of, rows_parts}
use Rattle.row_changes.proofs.ReleaseRows.{id_of, rise_ascends}
use Rattle.row_changes.proofs.ShownLaws.{release_shown}

-- the moments of releases in bounds can be shown
pub each_shown : (rs : List ReleaseOf) → AllByRecursion ReleaseInBounds rs → All ReleaseHasMoments rs
each_shown rs bounds = All-from_recursion ReleaseHasMoments rs (each_weaker ReleaseInBounds ReleaseHasMoments release_shown rs bounds)

-- ---- rows of the first version

abbrev old_meta : MetaOf → Row
old_meta m = row_in First (Meta m)

abbrev old_release : ReleaseOf → Row
old_release r = row_in First (Release r)

map_map : {A : Type 0} (g : A → Record) (xs : List A) → map (row_in First) (map g xs) ≡ map (λ x. row_in First (g x)) xs
map_map g [] = refl
map_map g (x ∷ xs) = ap (λ rest. row_in First (g x) ∷ rest) (map_map g xs)

more_mapped : {A : Type 0} (g : A → Record) (row : A → Row) (records : List Record) (rows : List Row) (xs : List A) → ((x : A) → row_in First (g x) ≡ row x) → map (row_in First) records ≡ rows
    → map (row_in First) (records ++ map g xs) ≡ rows ++ map row xs
more_mapped g row records rows xs same e =
    let each : map (λ x. row_in First (g x)) xs ≡ map row xs = λ i. map (λ x. same x i) xs in
    map-append (row_in First) records (map g xs)
    ∙ ap (λ front. front ++ map (row_in First) (map g xs)) e
    ∙ ap (λ rest. rows ++ rest) (map_map g xs ∙ each)

-- the rows of a state in the first version, kind after kind
abbrev old_parts : State → List Row
old_parts s =
    old_meta (meta_of s) ∷ [] ++ map report_row s.reports ++ map deferral_row s.deferrals ++ map old_release s.releases ++ map kept_row s.kept ++ map alert_row s.alerts

old_rows_parts : (s : State) → map (row_in First) (records_of s) ≡ old_parts s
unfolding records_of row_in body_data
old_rows_parts s =
    let first = Meta (meta_of s) ∷ [] in
    let second = first ++ map (λ r. Report (report_kept r)) s.reports in
    let third = second ++ map Deferral s.deferrals in
    let fourth = third ++ map Release s.releases in
    let fifth = fourth ++ map Kept s.kept in
    more_mapped (λ a. Alert (alert_kept a)) alert_row fifth _ s.alerts (λ a. refl)
    (more_mapped Kept kept_row fourth _ s.kept (λ k. refl)
    (more_mapped Release old_release third _ s.releases (λ r. refl)
    (more_mapped Deferral deferral_row second _ s.deferrals (λ d. refl)
    (more_mapped (λ r. Report (report_kept r)) report_row first (old_meta (meta_of s) ∷ []) s.reports (λ r. refl) refl))))

-- ---- the rows of releases are put again

abbrev first_of : Option Body → Option Body → Option Body
first_of None o = o
first_of (Some body) o = Some body

abbrev new_body : ReleaseOf → Body
new_body r = (release_row r).body

abbrev old_body : ReleaseOf → Body
old_body r = (old_release r).body

abbrev put_release : ReleaseOf → Change
put_release r = put_row (Release r)

-- what stands under a number once the rows of all are put
all_put : (q : ℕ) (rs : List ReleaseOf) (o : Option Body) → Ascends id_of rs → becomes 3 q (map put_release rs) o ≡ first_of (found_at id_of new_body q rs) o
unfolding row_in
all_put q [] o rising = refl
all_put q (r ∷ rs) o rising = all_put q rs (cond (eqb r.id q) (Some (new_body r)) o) rising.1 ∙ by (eqb r.id q) refl
  where
    by : (t : Bool) → eqb r.id q ≡ t → first_of (found_at id_of new_body q rs) (cond t (Some (new_body r)) o) ≡ first_of (cond t (Some (new_body r)) (found_at id_of new_body q rs)) o
    by true e = ap (λ found. first_of found (Some (new_body r))) (absent id_of new_body q rs (none_later id_of new_body q r.id rs e rising.0))
    by false e = refl

-- each old row has its new one
all_new : (q : ℕ) (rs : List ReleaseOf) → first_of (found_at id_of new_body q rs) (found_at id_of old_body q rs) ≡ found_at id_of new_body q rs
all_new q [] = refl
all_new q (r ∷ rs) = by (eqb r.id q) (all_new q rs)
  where
    by : (t : Bool) → first_of (found_at id_of new_body q rs) (found_at id_of old_body q rs) ≡ found_at id_of new_body q rs
        → first_of (cond t (Some (new_body r)) (found_at id_of new_body q rs)) (cond t (Some (old_body r)) (found_at id_of old_body q rs)) ≡ cond t (Some (new_body r)) (found_at id_of new_body q rs)
    by true rest = refl
    by false rest = rest

puts_only : (rs : List ReleaseOf) → AllByRecursion (IsTo 3 4) (map put_release rs)
unfolding row_in
puts_only [] = tt
puts_only (r ∷ rs) = ((lit≤ tt, lit< tt), puts_only rs)

-- Rows of one kind, in which others take the place of some.
module _ {A : Type 0} (old new : A → Row) (n : ℕ) (kinds : (x : A) → (old x).kind ≡ n) (others : (x : A) → (new x).kind ≡ n) where
  outside : (k : ℕ) → eqb n k ≡ false → IsOutside n (n + 1) k
  outside k e kind low high = let same : kind ≡ n = omega (arith, low, high) in ap (λ m. eqb m k) same ∙ e

  anew : (xs : List A) (cs : List Change) → AllByRecursion (IsTo n (n + 1)) cs
      → ((q : ℕ) → becomes n q cs (found_at (λ x. (old x).key) (λ x. (old x).body) q xs) ≡ found_at (λ x. (new x).key) (λ x. (new x).body) q xs) → Leads n (n + 1) (map old xs) (map new xs) cs
  anew xs cs only leads = record { before = one_kind old n kinds xs; after = one_kind new n others xs; only = only; leads = λ k q. by k q (eqb n k) refl }
    where
      by : (k q : ℕ) (b : Bool) → eqb n k ≡ b → becomes k q cs (rows_of (map old xs) k q) ≡ rows_of (map new xs) k q
      by k q true e =
          subst (λ m. becomes m q cs (rows_of (map old xs) m q) ≡ rows_of (map new xs) m q) (eqb-true n k e)
          (ap (λ o. becomes n q cs o) (seen_at old n kinds xs q) ∙ leads q ∙ sym (seen_at new n others xs q))
      by k q false e =
          ap (λ o. becomes k q cs o) (rows_outside n (n + 1) k q (map old xs) (outside k e) (one_kind old n kinds xs))
          ∙ left_alone n (n + 1) k q cs None (outside k e) only
          ∙ sym (rows_outside n (n + 1) k q (map new xs) (outside k e) (one_kind new n others xs))

releases_anew : (rs : List ReleaseOf) → Ascends id_of rs → Leads 3 4 (map old_release rs) (map release_row rs) (map put_release rs)
unfolding row_in
releases_anew rs rising =
    anew old_release release_row 3 (λ r. refl) (λ r. refl) rs (map put_release rs) (puts_only rs)
    (λ q. all_put q rs (found_at id_of old_body q rs) rising ∙ all_new q rs)

-- the row of the counters is put again
meta_anew : (m : MetaOf) → Leads 0 1 (old_meta m ∷ []) (meta_row m ∷ []) (put_row (Meta m) ∷ [])
unfolding row_in
meta_anew m =
    anew old_meta meta_row 0 (λ c. refl) (λ c. refl) (m ∷ []) (put_row (Meta m) ∷ []) ((lit≤ tt, lit< tt), tt)
    (λ q. twice (eqb 0 q) (Some (meta_row m).body) (Some (old_meta m).body) None)

-- the ids of releases that may be judged rise
pub releases_ascend : (s : State) → MayReopen s → Ascends id_of s.releases
releases_ascend s may = rise_ascends 0 s.counters.next_release s.releases may.holds.judgeable.ids

-- ---- all rows

module _ (s : State) (rising : Ascends id_of s.releases) where
  abbrev all_changes : List Change
  all_changes = put_row (Meta (meta_of s)) ∷ map put_release s.releases

  parts_lead : Leads 0 6 (old_parts s) (parts_of s) (all_changes ++ [] ++ [])
  unfolding row_in
  parts_lead =
      joined 0 5 6 (lit≤ tt) (lit≤ tt) _ _ _ _ _ _
      (joined 0 4 5 (lit≤ tt) (lit≤ tt) _ _ _ _ _ _
      (joined 0 3 4 (lit≤ tt) (lit≤ tt) _ _ _ _ _ _
      (joined 0 2 3 (lit≤ tt) (lit≤ tt) _ _ _ _ _ _
      (joined 0 1 2 (lit≤ tt) (lit≤ tt) _ _ _ _ _ _ (meta_anew (meta_of s)) (part report_row 1 (λ r. refl) s.reports s.reports [] tt (λ q. refl)))
      (part deferral_row 2 (λ d. refl) s.deferrals s.deferrals [] tt (λ q. refl)))
      (releases_anew s.releases rising))
      (part kept_row 4 (λ k. refl) s.kept s.kept [] tt (λ q. refl)))
      (part alert_row 5 (λ a. refl) s.alerts s.alerts [] tt (λ q. refl))

  lead_at : (k q : ℕ) → becomes k q all_changes (rows_of (old_parts s) k q) ≡ rows_of (parts_of s) k q
  lead_at k q =
      sym (becomes_append k q (all_changes ++ []) [] (rows_of (old_parts s) k q) ∙ becomes_append k q all_changes [] (rows_of (old_parts s) k q))
      ∙ parts_lead.leads k q

  -- from the rows of a state in the first version to those in the second
  pub upgraded_lead : (rows : Rows) → AreSame rows (rows_of (map (row_in First) (records_of s))) → AreSame (changed_by (upgraded_changes s) rows) (rows_of (state_rows s))
  unfolding upgraded_changes
  upgraded_lead rows same k q =
      becomes_is all_changes rows k q
      ∙ ap (λ o. becomes k q all_changes o) (same k q ∙ ap (λ rs. rows_of rs k q) (old_rows_parts s))
      ∙ lead_at k q
      ∙ sym (ap (λ rs. rows_of rs k q) (rows_parts s))

-- from no rows to those of the beginning
pub upgraded_first : (tables : TableRows) (rows : Rows) → AreSame rows no_rows → AreSame (changed_by (upgraded_changes (start tables)) rows) (rows_of (state_rows (start tables)))
unfolding upgraded_changes state_rows records_of row_in
upgraded_first tables rows none k q =
    let m = meta_of (start tables) in
    becomes_is (put_row (Meta m) ∷ []) rows k q
    ∙ ap (λ o. becomes k q (put_row (Meta m) ∷ []) o) (none k q)
    ∙ by (is_row k q (meta_row m)) (meta_row m)
  where
    by : (t : Bool) (row : Row) → cond t (Some row.body) None ≡ option_map (λ (r : Row). r.body) (cond t (Some row) None)
    by true row = refl
    by false row = refl
