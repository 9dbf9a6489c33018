-- Calls for a desk: its namesake is known, and the call stays well-formed.
use Rattle.std.proofs.Common.{◌≡◌, refl, sym, ap, ◌∙◌, subst, ℕ, ◌≤◌, Bool, true, false, ◌&&◌, ◌||◌, cond, List, [], ◌∷◌, length, map, filter, find, None, Some, nat_lt, nat_le, arith}
use Rattle.std.proofs.lemmas.Bool.{and_parts, leb-true}
use Rattle.std.proofs.lemmas.Bool.Decides.{nat_tests}
use Rattle.std.specs.List.{list_all}
use Rattle.std.specs.Str.{bytes_eq}
use Rattle.asks.proofs.Texts.{passing_utf8}
use Rattle.asks.specs.Forms.{CallHasForms, IsShort}
use Rattle.asks.specs.declared.call.Call.{Call}
use Rattle.desk_io.proofs.Bytes.{same_bytes}
use Rattle.ops_tables.specs.Forms.{in_key, in_person, is_key, is_person, is_word}
use Rattle.ops_tables.specs.Limits.{FitsActor}
use Rattle.ops_tables.specs.Names.{has_name}
use Rattle.ops_tables.specs.Rows.{Actor}
use Rattle.ops_tables.specs.Tables.{TableRows, actor_of}
use Rattle.relief.specs.declared.lines.RosterLine.{RosterLine}
use Rattle.relief.specs.Calls.{IsForDesk}
use Rattle.relief.specs.Roster.{desks_in, desks_of, dispatchers_among, is_dispatcher_role, line_of}
use Rattle.relief.proofs.LineLaws.{absent}
use Rattle.relief.proofs.NameLaws.{both, some_is}

-- ---- the desk's namesake

no_some : {A B : Type 0} {a : A} → Some a ≡ None → B
no_some e = absurd (cc)

nobody_by : (a : Actor) (people : List Actor) (desk : List ℕ) (does is : Bool)
    → has_name (map (λ a. a.name) (cond does (a ∷ filter (λ a. is_dispatcher_role a.role) people) (filter (λ a. is_dispatcher_role a.role) people))) desk ≡ true
    → bytes_eq a.name desk ≡ is → cond is (Some a) (find (λ a. bytes_eq a.name desk) people) ≡ None
    → (has_name (dispatchers_among people) desk ≡ true → find (λ a. bytes_eq a.name desk) people ≡ None → ⊥) → ⊥
nobody_by a people desk does true has is none rest = no_some none
nobody_by a people desk false false has is none rest = rest has none
nobody_by a people desk true false has is none rest = rest (subst (λ test. (test || has_name (dispatchers_among people) desk) ≡ true) is has) none

nobody_among : (people : List Actor) (desk : List ℕ) → has_name (dispatchers_among people) desk ≡ true → find (λ a. bytes_eq a.name desk) people ≡ None → ⊥
nobody_among [] desk has none = both has refl
nobody_among (a ∷ people) desk has none =
    nobody_by a people desk (is_dispatcher_role a.role) (bytes_eq a.name desk) has refl none (nobody_among people desk)

pub nobody : (t : TableRows) (desk : List ℕ) → has_name (desks_of t) desk ≡ true → None ≡ actor_of t desk → ⊥
nobody t desk has none = nobody_among t.actors desk has (sym none)

is_desk_by : (roster : List RosterLine) (desk : List ℕ) (line : RosterLine) (has : Bool) → has_name (desks_in roster) desk ≡ has → Some line ≡ line_of roster desk
    → has_name (desks_in roster) desk ≡ true
is_desk_by roster desk line true is found = is
is_desk_by roster desk line false is found = no_some (found ∙ absent roster desk is)

-- a desk with a line is a desk of the tables
pub is_desk : (t : TableRows) (roster : List RosterLine) (desk : List ℕ) (line : RosterLine) → desks_in roster ≡ desks_of t → Some line ≡ line_of roster desk
    → has_name (desks_of t) desk ≡ true
is_desk t roster desk line same found =
    ap (λ desks. has_name desks desk) (sym same) ∙ is_desk_by roster desk line (has_name (desks_in roster) desk) refl found

-- ---- forms

word_short : (allowed : ℕ → Bool) → ((b : ℕ) → allowed b ≡ true → nat_lt b 128 ≡ true) → (most : ℕ) → most ≤ 64 → (t : List ℕ) → is_word allowed most t ≡ true → IsShort t
word_short allowed small most few t is =
    let parts = and_parts (nat_le 1 (length t) && nat_le (length t) most) (list_all allowed t) is in
    let long = leb-true (length t) most ((and_parts (nat_le 1 (length t)) (nat_le (length t) most) parts.0).1) in
    record { text = passing_utf8 allowed small t parts.1; few = omega (arith, long, few) }

person_ascii : (b : ℕ) → in_person b ≡ true → nat_lt b 128 ≡ true
person_ascii b is = grind (arith, nat_tests, is)

key_ascii : (b : ℕ) → in_key b ≡ true → nat_lt b 128 ≡ true
key_ascii b is = grind (arith, nat_tests, is)

person_short : (t : List ℕ) → is_person t ≡ true → IsShort t
unfolding is_person
person_short t is = word_short in_person person_ascii 16 (omega arith) t is

key_short : (t : List ℕ) → is_key t ≡ true → IsShort t
unfolding is_key
key_short t is = word_short in_key key_ascii 64 (omega arith) t is

named_by : (a person : Actor) (people : List Actor) (desk : List ℕ) (is : Bool) → bytes_eq a.name desk ≡ is
    → cond is (Some a) (find (λ a. bytes_eq a.name desk) people) ≡ Some person
    → (find (λ a. bytes_eq a.name desk) people ≡ Some person → bytes_eq person.name desk ≡ true) → bytes_eq person.name desk ≡ true
named_by a person people desk true is found rest =
    subst (λ (x : Actor). bytes_eq x.name desk ≡ true) (some_is found) is
named_by a person people desk false is found rest = rest found

named : (people : List Actor) (desk : List ℕ) (person : Actor) → find (λ a. bytes_eq a.name desk) people ≡ Some person → bytes_eq person.name desk ≡ true
named [] desk person found = no_some (sym found)
named (a ∷ people) desk person found = named_by a person people desk (bytes_eq a.name desk) refl found (named people desk person)

pub for_desk : (t : TableRows) (desk : List ℕ) (call made : Call) (person : Actor) → actor_of t desk ≡ Some person → is_dispatcher_role person.role ≡ true → FitsActor person
    → made ≡ record call { actor = desk; key = person.key } → IsForDesk t desk call made
for_desk t desk call made person known role fits same = record {
  namesake = person;
  known = known;
  role = role;
  same = same;
  forms = λ forms.
      let each = and_parts (is_person person.name) (is_key person.key) fits.name in
      let short : IsShort desk = subst IsShort (same_bytes person.name desk (named t.actors desk person known)) (person_short person.name each.0) in
      subst CallHasForms (sym same) (record { actor = short; key = key_short person.key each.1; number = forms.number; ask = forms.ask });
}
