-- The index of a desk's line.
use Rattle.std.proofs.Common.{◌≡◌, refl, sym, ap, ◌∙◌, subst, ℕ, zero, suc, ◌+◌, Bool, true, false, cond, List, [], ◌∷◌, get_or, set, Option, None, Some, IfNone, IfSome, position, arith}
use Rattle.std.proofs.lemmas.Iterator.Adapters.{position_from-zero}
use Rattle.std.specs.List.{position_from}
use Rattle.std.specs.Str.{bytes_eq}
use Rattle.relief.specs.declared.lines.RosterLine.{RosterLine}
use Rattle.relief.specs.Roster.{IsPlaceOf, is_line_of, line_of, with_line}

here : (desk : List ℕ) (line : RosterLine) (roster : List RosterLine) → bytes_eq line.desk desk ≡ true → IsPlaceOf desk (line ∷ roster) zero
here desk line roster is = record { within = omega arith; found = λ other. rw is refl; changed = λ change other. rw is refl }

past : (desk : List ℕ) (line : RosterLine) (roster : List RosterLine) (i : ℕ) → bytes_eq line.desk desk ≡ false → IsPlaceOf desk roster i
    → IsPlaceOf desk (line ∷ roster) (suc i)
past desk line roster i isnt place = record {
  within = let within = place.within in omega (arith, within);
  found = λ other. rw isnt (place.found other);
  changed = λ change other. rw isnt (ap (λ lines. line ∷ lines) (place.changed change other));
}

abbrev IsFrom : List ℕ → List RosterLine → ℕ → Option ℕ → Type 0
IsFrom desk roster start None = line_of roster desk ≡ None
IsFrom desk roster start (Some at) = (i : ℕ) × (at ≡ start + i) × IsPlaceOf desk roster i

past_from : (desk : List ℕ) (line : RosterLine) (roster : List RosterLine) (start : ℕ) (o : Option ℕ) → bytes_eq line.desk desk ≡ false
    → IsFrom desk roster (start + 1) o → IsFrom desk (line ∷ roster) start o
past_from desk line roster start None isnt none = rw isnt none
past_from desk line roster start (Some at) isnt (i, is, place) = (suc i, omega (arith, is), past desk line roster i isnt place)

step_from : (desk : List ℕ) (line : RosterLine) (roster : List RosterLine) (start : ℕ) (test : Bool) → bytes_eq line.desk desk ≡ test
    → IsFrom desk roster (start + 1) (position_from (is_line_of desk) (start + 1) roster)
    → IsFrom desk (line ∷ roster) start (cond test (Some start) (position_from (is_line_of desk) (start + 1) roster))
step_from desk line roster start true is rest = (zero, omega arith, here desk line roster is)
step_from desk line roster start false isnt rest = past_from desk line roster start (position_from (is_line_of desk) (start + 1) roster) isnt rest

from : (desk : List ℕ) (roster : List RosterLine) (start : ℕ) → IsFrom desk roster start (position_from (is_line_of desk) start roster)
from desk [] start = refl
from desk (line ∷ roster) start = step_from desk line roster start (bytes_eq line.desk desk) refl (from desk roster (start + 1))

from_zero : (desk : List ℕ) (roster : List RosterLine) (o : Option ℕ) → o ≡ position (is_line_of desk) roster → IsFrom desk roster zero o
from_zero desk roster o is = rw (is ∙ position_from-zero (is_line_of desk) roster) (from desk roster zero)

none_by : (desk : List ℕ) (roster : List RosterLine) (o : Option ℕ) → IsFrom desk roster zero o → IfNone o (line_of roster desk ≡ None)
none_by desk roster None is = is
none_by desk roster (Some at) is = tt

some_by : (desk : List ℕ) (roster : List RosterLine) (o : Option ℕ) → IsFrom desk roster zero o → IfSome o (IsPlaceOf desk roster)
some_by desk roster None is = tt
some_by desk roster (Some at) (i, is, place) = let same : at ≡ i = omega (arith, is) in rw same place

pub no_place : (desk : List ℕ) (roster : List RosterLine) (o : Option ℕ) → o ≡ position (is_line_of desk) roster → IfNone o (line_of roster desk ≡ None)
no_place desk roster o is = none_by desk roster o (from_zero desk roster o is)

pub place : (desk : List ℕ) (roster : List RosterLine) (o : Option ℕ) → o ≡ position (is_line_of desk) roster → IfSome o (IsPlaceOf desk roster)
place desk roster o is = some_by desk roster o (from_zero desk roster o is)

-- the line at the place is changed
pub changed_there : (change : RosterLine → RosterLine) (desk : List ℕ) (seen held roster : List RosterLine) (i : ℕ) (line : RosterLine) → seen ≡ held → held ≡ roster
    → IsPlaceOf desk seen i → line ≡ get_or held i line → set held i (change line) ≡ with_line change desk roster
changed_there change desk seen held roster i line is shown place at =
    ap (λ l. set held i (change l)) at ∙ sym ((subst (λ lines. IsPlaceOf desk lines i) is place).changed change line) ∙ ap (with_line change desk) shown
