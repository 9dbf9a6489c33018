-- Looking up lines in a roster that was changed, and rosters whose lines are known desk by desk.
use Rattle.std.proofs.Common.{◌≡◌, refl, sym, ap, ◌∙◌, subst, ℕ, Bool, true, false, ◌||◌, cond, List, [], ◌∷◌, map, Option, None, Some, Bor, is_some, option_copied}
use Rattle.std.specs.Option.{option_map}
use Rattle.std.specs.Str.{bytes_eq}
use Rattle.desk_io.proofs.Bytes.{equal_bytes, same_bytes}
use Rattle.ops_tables.specs.Names.{has_name}
use Rattle.relief.specs.declared.lines.RosterLine.{RosterLine}
use Rattle.relief.specs.Roster.{HasEachOnce, desks_in, line_of, own_line, sitter_at, with_line}
use Rattle.relief.proofs.NameLaws.{alike, apart, both, some_is}

-- ---- a line changed

none_either : {A : Type 0} (test : Bool) → cond {A = Option A} test None None ≡ None
none_either true = refl
none_either false = refl

abbrev Keeps : (RosterLine → RosterLine) → Type 0
Keeps change = (line : RosterLine) → (change line).desk ≡ line.desk

module _ (change : RosterLine → RosterLine) (keeps : Keeps change) (desk other : List ℕ) where
  abbrev Looked : List RosterLine → Type 0
  Looked roster = line_of (with_line change desk roster) other ≡ cond (bytes_eq desk other) (option_map change (line_of roster other)) (line_of roster other)

  looked_by : (line : RosterLine) (roster : List RosterLine) (here there : Bool) → bytes_eq line.desk desk ≡ here → bytes_eq line.desk other ≡ there → Looked roster
      → line_of (cond here (change line ∷ roster) (line ∷ with_line change desk roster)) other
      ≡ cond (bytes_eq desk other) (option_map change (cond there (Some line) (line_of roster other))) (cond there (Some line) (line_of roster other))
  looked_by line roster true true is at rest = rw (keeps line, at, alike line.desk desk other is, at) refl
  looked_by line roster true false is at rest = rw (keeps line, at, alike line.desk desk other is, at) refl
  looked_by line roster false true is at rest = rw (at, apart line.desk desk other is at) refl
  looked_by line roster false false is at rest = rw at rest

  pub looked : (roster : List RosterLine) → Looked roster
  looked [] = sym (none_either (bytes_eq desk other))
  looked (line ∷ roster) = looked_by line roster (bytes_eq line.desk desk) (bytes_eq line.desk other) refl refl (looked roster)

same_by : (change : RosterLine → RosterLine) → Keeps change → (desk : List ℕ) (line : RosterLine) (roster : List RosterLine) (here : Bool)
    → desks_in (with_line change desk roster) ≡ desks_in roster
    → desks_in (cond here (change line ∷ roster) (line ∷ with_line change desk roster)) ≡ line.desk ∷ desks_in roster
same_by change keeps desk line roster true rest = ap (λ d. d ∷ desks_in roster) (keeps line)
same_by change keeps desk line roster false rest = ap (λ ds. line.desk ∷ ds) rest

-- a change of a line that keeps its desk keeps the desks
pub same_desks : (change : RosterLine → RosterLine) → Keeps change → (desk : List ℕ) (roster : List RosterLine)
    → desks_in (with_line change desk roster) ≡ desks_in roster
same_desks change keeps desk [] = refl
same_desks change keeps desk (line ∷ roster) = same_by change keeps desk line roster (bytes_eq line.desk desk) (same_desks change keeps desk roster)

-- ---- lines that are known desk by desk

absent_by : (line : RosterLine) (roster : List RosterLine) (desk : List ℕ) (test : Bool) → (test || has_name (desks_in roster) desk) ≡ false
    → (has_name (desks_in roster) desk ≡ false → line_of roster desk ≡ None) → cond test (Some line) (line_of roster desk) ≡ None
absent_by line roster desk true e rest = both refl e
absent_by line roster desk false e rest = rest e

pub absent : (roster : List RosterLine) (desk : List ℕ) → has_name (desks_in roster) desk ≡ false → line_of roster desk ≡ None
absent [] desk e = refl
absent (line ∷ roster) desk e = absent_by line roster desk (bytes_eq line.desk desk) e (absent roster desk)

some_sits_by : (line : RosterLine) (roster : List RosterLine) (desk : List ℕ) (test : Bool) → is_some (sitter_at roster desk) ≡ has_name (desks_in roster) desk
    → is_some (option_map (λ l. l.sitter) (cond test (Some line) (line_of roster desk))) ≡ (test || has_name (desks_in roster) desk)
some_sits_by line roster desk true rest = refl
some_sits_by line roster desk false rest = rest

some_sits : (roster : List RosterLine) (desk : List ℕ) → is_some (sitter_at roster desk) ≡ has_name (desks_in roster) desk
some_sits [] desk = refl
some_sits (line ∷ roster) desk = some_sits_by line roster desk (bytes_eq line.desk desk) (some_sits roster desk)

some_lent : {X : Type 0} (o : Option (Bor X)) → is_some o ≡ is_some (option_copied o)
some_lent None = refl
some_lent (Some x) = refl

-- somebody sits at each desk of the roster, and at no other
pub sits : (roster : List RosterLine) (desk : List ℕ) (sitter : Option (Bor (List ℕ))) → option_copied sitter ≡ sitter_at roster desk → is_some sitter ≡ has_name (desks_in roster) desk
sits roster desk sitter is = some_lent sitter ∙ ap is_some is ∙ some_sits roster desk

module _ (known : List ℕ → RosterLine) where
  -- the line of each of these desks is known, and no other desk has one
  abbrev pub Known : List (List ℕ) → List RosterLine → Type 0
  Known desks roster = (desk : List ℕ) → line_of roster desk ≡ cond (has_name desks desk) (Some (known desk)) None

  first_is : (line : RosterLine) (roster : List RosterLine) → Known (desks_in (line ∷ roster)) (line ∷ roster) → line ≡ known line.desk
  first_is line roster each =
      let own = equal_bytes line.desk in
      let found : Some line ≡ line_of (line ∷ roster) line.desk = rw own refl in
      let wanted : cond (has_name (desks_in (line ∷ roster)) line.desk) (Some (known line.desk)) None ≡ Some (known line.desk) = rw own refl in
      some_is (found ∙ each line.desk ∙ wanted)

  rest_by : (line : RosterLine) (roster : List RosterLine) (desk : List ℕ) (test : Bool) → bytes_eq line.desk desk ≡ test
      → has_name (desks_in roster) line.desk ≡ false
      → cond test (Some line) (line_of roster desk) ≡ cond (test || has_name (desks_in roster) desk) (Some (known desk)) None
      → line_of roster desk ≡ cond (has_name (desks_in roster) desk) (Some (known desk)) None
  rest_by line roster desk true is once each =
      let gone : has_name (desks_in roster) desk ≡ false = subst (λ d. has_name (desks_in roster) d ≡ false) (same_bytes line.desk desk is) once in
      absent roster desk gone ∙ sym (ap (λ has. cond has (Some (known desk)) None) gone)
  rest_by line roster desk false is once each = each

  pub lines_by : (roster : List RosterLine) → HasEachOnce (desks_in roster) → Known (desks_in roster) roster → roster ≡ map known (desks_in roster)
  lines_by [] once each = refl
  lines_by (line ∷ roster) once each =
      ap (λ l. l ∷ roster) (first_is line roster each)
      ∙ ap (λ ls. known line.desk ∷ ls)
      (lines_by roster once.1 (λ desk. rest_by line roster desk (bytes_eq line.desk desk) refl once.0 (each desk)))

-- ---- the roster at the start

pub own_desks : (desks : List (List ℕ)) → desks_in (map own_line desks) ≡ desks
own_desks [] = refl
own_desks (desk ∷ desks) = ap (λ ds. desk ∷ ds) (own_desks desks)

own_by : (first : List ℕ) (desks : List (List ℕ)) (desk : List ℕ) (test : Bool) → bytes_eq first desk ≡ test
    → line_of (map own_line desks) desk ≡ cond (has_name desks desk) (Some (own_line desk)) None
    → cond test (Some (own_line first)) (line_of (map own_line desks) desk) ≡ cond (test || has_name desks desk) (Some (own_line desk)) None
own_by first desks desk true is rest = ap (λ d. Some (own_line d)) (same_bytes first desk is)
own_by first desks desk false is rest = rest

pub own_known : (desks : List (List ℕ)) → Known own_line desks (map own_line desks)
own_known [] desk = refl
own_known (first ∷ desks) desk = own_by first desks desk (bytes_eq first desk) refl (own_known desks desk)
