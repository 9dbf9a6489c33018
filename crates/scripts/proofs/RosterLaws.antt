-- The roster after lines, and who sits at each desk.
use Rattle.std.proofs.Common.{◌≡◌, ℕ, Bool, true, false, ◌||◌, cond, List, [], ◌∷◌, map, filter, take, Option, None, Some, refl, sym, ap, ◌∙◌, subst}
use Rattle.std.specs.List.{cons_option}
use Rattle.std.specs.Option.{option_map}
use Rattle.std.specs.Str.{bytes_eq}
use Rattle.desk_io.proofs.Bytes.{same_bytes}
use Rattle.desk.specs.Run.{lines_of}
use Rattle.ops_tables.specs.Keys.{AreNew, is_same_actor}
use Rattle.ops_tables.specs.Names.{has_name}
use Rattle.ops_tables.specs.Tables.{TableRows}
use Rattle.relief.proofs.HandoverLaws.{after_handovers, after_none}
use Rattle.relief.proofs.NameLaws.{both, desks_once}
use Rattle.relief.specs.Handovers.{IsRosterAfter, after_all, line_after}
use Rattle.relief.specs.Roster.{HasEachOnce, desks_of, first_roster, is_line_of}
use Rattle.relief.specs.declared.handover.Handover.{Handover}
use Rattle.relief.specs.declared.lines.RosterLine.{RosterLine}
use Rattle.scripts.specs.Routes.{after_maybe, handover_in, handovers_in, roster_after, roster_after_all}
use Rattle.scripts.specs.ShiftRuns.{AreSeatedAlways, HasOneSitter, accepted_in}

-- ---- the roster after lines is the one after their handovers

maybe_first : (t : TableRows) (roster : List RosterLine) (h : Option Handover) (hs : List Handover) → after_all t (after_maybe t roster h) hs ≡ after_all t roster (cons_option h hs)
maybe_first t roster None hs = refl
maybe_first t roster (Some h) hs = refl

pub after_lines : (t : TableRows) (roster : List RosterLine) (lines : List (List ℕ)) → roster_after_all t roster lines ≡ after_all t roster (handovers_in t lines)
after_lines t roster [] = refl
after_lines t roster (line ∷ lines) =
    after_lines t (roster_after t roster line) lines ∙ maybe_first t roster (handover_in t line) (handovers_in t lines)

-- ---- one line of each desk

none_by : (made : List Handover) (d : List ℕ) (desks : List (List ℕ)) (desk : List ℕ) (test : Bool) → (test || has_name desks desk) ≡ false
    → (has_name desks desk ≡ false → filter (is_line_of desk) (map (line_after made) desks) ≡ [])
    → cond test (line_after made d ∷ filter (is_line_of desk) (map (line_after made) desks)) (filter (is_line_of desk) (map (line_after made) desks)) ≡ []
none_by made d desks desk true other rest = both refl other
none_by made d desks desk false other rest = rest other

-- no line is of a desk that isn't among these
none_named : (made : List Handover) (desks : List (List ℕ)) (desk : List ℕ) → has_name desks desk ≡ false → filter (is_line_of desk) (map (line_after made) desks) ≡ []
none_named made [] desk none = refl
none_named made (d ∷ desks) desk none = none_by made d desks desk (bytes_eq d desk) none (none_named made desks desk)

one_by : (made : List Handover) (d : List ℕ) (desks : List (List ℕ)) (desk : List ℕ) (test : Bool) → bytes_eq d desk ≡ test → has_name desks d ≡ false → (test || has_name desks desk) ≡ true
    → (has_name desks desk ≡ true → filter (is_line_of desk) (map (line_after made) desks) ≡ line_after made desk ∷ [])
    → cond test (line_after made d ∷ filter (is_line_of desk) (map (line_after made) desks)) (filter (is_line_of desk) (map (line_after made) desks)) ≡ line_after made desk ∷ []
one_by made d desks desk true is once other rest =
    let same : d ≡ desk = same_bytes d desk is in
    ap (λ more. line_after made d ∷ more) (none_named made desks desk (subst (λ (name : List ℕ). has_name desks name ≡ false) same once))
    ∙ ap (λ (name : List ℕ). line_after made name ∷ []) same
one_by made d desks desk false is once other rest = rest other

one_named : (made : List Handover) (desks : List (List ℕ)) (desk : List ℕ) → HasEachOnce desks → has_name desks desk ≡ true
    → filter (is_line_of desk) (map (line_after made) desks) ≡ line_after made desk ∷ []
one_named made [] desk once has = both has refl
one_named made (d ∷ desks) desk once has = one_by made d desks desk (bytes_eq d desk) refl once.0 has (one_named made desks desk once.1)

pub has_one_sitter : (desks : List (List ℕ)) (made : List Handover) (roster : List RosterLine) (desk : List ℕ) → HasEachOnce desks → IsRosterAfter desks made roster → has_name desks desk ≡ true
    → HasOneSitter made roster desk
has_one_sitter desks made roster desk once follows has = record {
  line = line_after made desk;
  alone = ap (filter (is_line_of desk)) (follows.lines_are once) ∙ one_named made desks desk once has;
  sits = refl;
  found = ap (option_map (λ l. l.sitter)) (follows.line_is desk ∙ ap (λ test. cond test (Some (line_after made desk)) None) has);
}

-- ---- at every moment

pub follows_lines : (t : TableRows) (lines : List (List ℕ)) → IsRosterAfter (desks_of t) (accepted_in t lines) (roster_after_all t (first_roster t) lines)
follows_lines t lines =
    subst (IsRosterAfter (desks_of t) (accepted_in t lines)) (sym (after_lines t (first_roster t) lines))
    (after_handovers t (handovers_in t lines) (desks_of t) [] (first_roster t) (after_none (desks_of t)))

pub seated_always : (t : TableRows) (script : List ℕ) → AreNew is_same_actor [] t.actors → AreSeatedAlways t script
seated_always t script new = λ n.
    let lines = take n (lines_of script) in
    let once : HasEachOnce (desks_of t) = desks_once t new in
    let follows = follows_lines t lines in
    record {
      follows = follows;
      once = once;
      one = λ desk has. has_one_sitter (desks_of t) (accepted_in t lines) (roster_after_all t (first_roster t) lines) desk once follows has;
    }
