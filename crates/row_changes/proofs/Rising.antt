-- The rows of a state are in order, and so they are that state's list where they are loaded.
use Rattle.std.proofs.Common.{◌≡◌, ℕ, ◌+◌, ◌<◌, ◌≤◌, Bool, true, false, cond, eqb, lit≤, List, [], ◌∷◌, ◌++◌, Option, None, Some, IfSome, refl, ap, sym, ◌∙◌, arith}
use Rattle.std.specs.Prelude.{map, find}
use Rattle.std.specs.Option.{option_map}
use Rattle.std.specs.List.{AllByRecursion}
use Rattle.std.proofs.lemmas.Bool.{and_parts, and_from, eqb-true}
use Rattle.std.proofs.lemmas.Bool.Decides.{nat_tests}
use Rattle.desk_io.specs.declared.rows.Row.{Row}
use Rattle.desk_io.specs.Rows.{is_row, rows_of}
use Rattle.keeper.specs.Kept.{AreSame}
use Rattle.keeper.specs.Order.{comes_before, is_below, rises_from, rising}
use Rattle.keeper.proofs.SortLaws.{rising_same}
use Rattle.desk_state.specs.Sound.{Sound, InBounds}
use Rattle.desk_state.specs.State.{State}
use Rattle.records.specs.Bodies.{row_in}
use Rattle.row_changes.specs.Rows.{meta_of, state_rows}
use Rattle.row_changes.proofs.Parts.{IsIn}
use Rattle.row_changes.proofs.Items.{Ascends, ascends_from, one_kind}
use Rattle.row_changes.proofs.ReleaseRows.{rise_ascends}
use Rattle.row_changes.proofs.AlertRows.{alerts_ascend}
use Rattle.row_changes.proofs.KindLaws.{meta_row, report_row, deferral_row, release_row, kept_row, alert_row}
use Rattle.row_changes.proofs.Leading.{parts_of, rows_parts}
use Rattle.desk_io.proofs.Each.{each_append, each_weaker}

-- the first row comes before the second
abbrev Precedes : Row → Row → Type 0
Precedes a b = is_below b.kind b.key a ≡ true

-- each row comes before all later ones
abbrev AreOrdered : List Row → Type 0
AreOrdered [] = Unit {0}
AreOrdered (row ∷ rows) = AllByRecursion (Precedes row) rows × AreOrdered rows

rises : (row : Row) (rows : List Row) → AllByRecursion (Precedes row) rows → AreOrdered rows → rises_from row rows ≡ true
rises row [] first later = refl
rises row (next ∷ rows) first later = and_from (is_below next.kind next.key row) (rises_from next rows) first.0 (rises next rows later.0 later.1)

ordered_rising : (rows : List Row) → AreOrdered rows → rising rows ≡ true
ordered_rising [] ordered = refl
ordered_rising (row ∷ rows) ordered = rises row rows ordered.0 ordered.1

by_kind : (a b c d : ℕ) → a < c → comes_before a b c d ≡ true
by_kind a b c d less = grind (arith, nat_tests, less)

by_key : (n a b c d : ℕ) → a ≡ n → c ≡ n → b < d → comes_before a b c d ≡ true
by_key n a b c d one two less = grind (arith, nat_tests, one, two, less)

-- rows in order, of kinds from one number on and below another
record AreIn (low high : ℕ) (rows : List Row) : Type 0 where
  pub each : AllByRecursion (IsIn low high) rows
  pub ordered : AreOrdered rows

ordered_append : (a b c : ℕ) (xs ys : List Row) → AllByRecursion (IsIn a b) xs → AreOrdered xs → AllByRecursion (IsIn b c) ys → AreOrdered ys → AreOrdered (xs ++ ys)
ordered_append a b c [] ys here first there later = later
ordered_append a b c (x ∷ xs) ys here first there later = (
  each_append (Precedes x) xs ys first.0
      (each_weaker (IsIn b c) (Precedes x) (λ y is. let one = here.0.1 in let two = is.0 in by_kind x.kind x.key y.kind y.key (omega (arith, one, two))) ys there),
  ordered_append a b c xs ys here.1 first.1 there later,
)

both : (a b c : ℕ) → a ≤ b → b ≤ c → (xs ys : List Row) → AreIn a b xs → AreIn b c ys → AreIn a c (xs ++ ys)
both a b c low high xs ys one two = record {
  each = each_append (IsIn a c) xs ys
      (each_weaker (IsIn a b) (IsIn a c) (λ x is. (is.0, let less = is.1 in omega (arith, less, high))) xs one.each)
      (each_weaker (IsIn b c) (IsIn a c) (λ y is. (let more = is.0 in omega (arith, more, low), is.1)) ys two.each);
  ordered = ordered_append a b c xs ys one.each one.ordered two.each two.ordered;
}

kind_ordered : {A : Type 0} (r : A → Row) (n : ℕ) → ((x : A) → (r x).kind ≡ n) → (xs : List A) → Ascends (λ x. (r x).key) xs → AreOrdered (map r xs)
kind_ordered {A = A} r n kinds [] rising = tt
kind_ordered {A = A} r n kinds (x ∷ xs) rising = (after xs rising.0, kind_ordered r n kinds xs rising.1)
  where
    after : (ys : List A) → AllByRecursion (λ y. (r x).key < (r y).key) ys → AllByRecursion (Precedes (r x)) (map r ys)
    after [] all = tt
    after (y ∷ ys) all = (by_key n (r x).kind (r x).key (r y).kind (r y).key (kinds x) (kinds y) all.0, after ys all.1)

one : {A : Type 0} (r : A → Row) (n : ℕ) → ((x : A) → (r x).kind ≡ n) → (xs : List A) → Ascends (λ x. (r x).key) xs → AreIn n (n + 1) (map r xs)
one r n kinds xs rising = record { each = one_kind r n kinds xs; ordered = kind_ordered r n kinds xs rising }

module _ (s : State) (sound : Sound s) (bounds : InBounds s) where
  parts_in : AreIn 0 6 (parts_of s)
  unfolding row_in
  parts_in =
      both 0 5 6 (lit≤ tt) (lit≤ tt) _ _
      (both 0 4 5 (lit≤ tt) (lit≤ tt) _ _
      (both 0 3 4 (lit≤ tt) (lit≤ tt) _ _
      (both 0 2 3 (lit≤ tt) (lit≤ tt) _ _
      (both 0 1 2 (lit≤ tt) (lit≤ tt) _ _ (one meta_row 0 (λ m. refl) (meta_of s ∷ []) (tt, tt))
      (one report_row 1 (λ r. refl) s.reports (ascends_from (λ r. r.id) s.reports bounds.admitted)))
      (one deferral_row 2 (λ d. refl) s.deferrals (ascends_from (λ d. d.id) s.deferrals bounds.deferrals.rising)))
      (one release_row 3 (λ r. refl) s.releases (rise_ascends 0 s.counters.next_release s.releases sound.ids)))
      (one kept_row 4 (λ k. refl) s.kept (ascends_from (λ k. k.id) s.kept bounds.accepted)))
      (one alert_row 5 (λ a. refl) s.alerts (alerts_ascend s sound))

  -- the rows of a state are in order
  pub state_rising : rising (state_rows s) ≡ true
  state_rising = ap rising (rows_parts s) ∙ ordered_rising (parts_of s) parts_in.ordered

-- Lists in order that have the same rows.

found_passes : (p : Row → Bool) (rows : List Row) → IfSome (find p rows) (λ row. p row ≡ true)
found_passes p [] = tt
found_passes p (row ∷ rows) = by (p row) refl (found_passes p rows)
  where
    by : (b : Bool) → p row ≡ b → IfSome (find p rows) (λ r. p r ≡ true) → IfSome (cond b (Some row) (find p rows)) (λ r. p r ≡ true)
    by true e later = e
    by false e later = later

abbrev row_with : ℕ → ℕ → List ℕ → Row
row_with kind key body = record { kind = kind; key = key; body = body }

same_row : (k q : ℕ) (a b : Row) → is_row k q a ≡ true → is_row k q b ≡ true → a.body ≡ b.body → a ≡ b
same_row k q a b one two bodies =
    let first = and_parts (eqb a.kind k) (eqb a.key q) one in
    let second = and_parts (eqb b.kind k) (eqb b.key q) two in
    ap (λ n. row_with n a.key a.body) (eqb-true a.kind k first.0 ∙ sym (eqb-true b.kind k second.0))
    ∙ ap (λ n. row_with b.kind n a.body) (eqb-true a.key q first.1 ∙ sym (eqb-true b.key q second.1))
    ∙ ap (λ body. row_with b.kind b.key body) bodies

same_found : (k q : ℕ) (o p : Option Row) → IfSome o (λ row. is_row k q row ≡ true) → IfSome p (λ row. is_row k q row ≡ true)
    → option_map (λ (r : Row). r.body) o ≡ option_map (λ (r : Row). r.body) p → o ≡ p
same_found k q None None one two e = refl
same_found k q None (Some b) one two e = absurd (cc)
same_found k q (Some a) None one two e = absurd (cc)
same_found k q (Some a) (Some b) one two e = ap Some (same_row k q a b one two (cc))

-- two lists in order that have the same rows are the same
pub same_list : (rows others : List Row) → rising rows ≡ true → rising others ≡ true → AreSame (rows_of rows) (rows_of others) → rows ≡ others
same_list rows others up risen same =
    rising_same rows others up risen
    (λ k q. same_found k q (find (is_row k q) rows) (find (is_row k q) others) (found_passes (is_row k q) rows) (found_passes (is_row k q) others) (same k q))
