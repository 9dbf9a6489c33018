-- Comparing names, and people of whom no two have the same name.
use Rattle.std.proofs.Common.{◌≡◌, refl, sym, ap, ◌∙◌, subst, ℕ, Bool, true, false, ◌||◌, cond, List, [], ◌∷◌, ◌++◌, append_assoc, map, filter, find, None, Some}
use Rattle.std.proofs.lemmas.Bool.{or_from, or_parts, true≢false}
use Rattle.std.specs.List.{list_any}
use Rattle.std.specs.Str.{bytes_eq}
use Rattle.desk_io.proofs.Bytes.{equal_bytes, same_bytes}
use Rattle.ops_tables.specs.Keys.{AreNew, is_same_actor}
use Rattle.ops_tables.specs.Names.{has_name}
use Rattle.ops_tables.specs.Rows.{Actor}
use Rattle.ops_tables.specs.Tables.{TableRows, actor_of}
use Rattle.relief.specs.Roster.{HasEachOnce, desks_of, dispatchers_among, is_dispatcher_role}

pub both : {A : Type 0} {b : Bool} → b ≡ true → b ≡ false → A
both one other = absurd (true≢false (sym one ∙ other))

unlike_by : (a b : List ℕ) (test : Bool) → bytes_eq b a ≡ test → bytes_eq a b ≡ false → bytes_eq b a ≡ false
unlike_by a b true is other = both (subst (λ c. bytes_eq a c ≡ true) (sym (same_bytes b a is)) (equal_bytes a)) other
unlike_by a b false is other = is

pub unlike : (a b : List ℕ) → bytes_eq a b ≡ false → bytes_eq b a ≡ false
unlike a b other = unlike_by a b (bytes_eq b a) refl other

-- what equals one name, and not another, tells these two apart
pub apart : (a b c : List ℕ) → bytes_eq a b ≡ false → bytes_eq a c ≡ true → bytes_eq b c ≡ false
apart a b c other is = subst (λ d. bytes_eq b d ≡ false) (same_bytes a c is) (unlike a b other)

pub alike : (a b c : List ℕ) → bytes_eq a b ≡ true → bytes_eq b c ≡ bytes_eq a c
alike a b c is = ap (λ d. bytes_eq d c) (sym (same_bytes a b is))

pub some_is : {A : Type 0} {a b : A} → Some a ≡ Some b → a ≡ b
some_is {a = a} e = ap (λ o. elim o [ None ↦ a | Some x ↦ x ]) e

-- ---- people of whom no two have the same name

-- whoever comes later has another name
other_name : (front : List Actor) (a : Actor) (back : List Actor) (later : Actor) → list_any (is_same_actor later) (front ++ a ∷ back) ≡ false → bytes_eq a.name later.name ≡ false
other_name [] a back later none = (or_parts (is_same_actor later a) (list_any (is_same_actor later) back) none).0
other_name (b ∷ front) a back later none = other_name front a back later ((or_parts (is_same_actor later b) (list_any (is_same_actor later) (front ++ a ∷ back)) none).1)

no_desk_by : (a b : Actor) (people : List Actor) (does : Bool) → bytes_eq b.name a.name ≡ false → has_name (dispatchers_among people) a.name ≡ false
    → has_name (map (λ c. c.name) (cond does (b ∷ filter (λ c. is_dispatcher_role c.role) people) (filter (λ c. is_dispatcher_role c.role) people))) a.name ≡ false
no_desk_by a b people true other rest = or_from (bytes_eq b.name a.name) (has_name (dispatchers_among people) a.name) other rest
no_desk_by a b people false other rest = rest

-- no later desk is named after an earlier person
no_desk : (front : List Actor) (a : Actor) (back people : List Actor) → AreNew is_same_actor (front ++ a ∷ back) people → has_name (dispatchers_among people) a.name ≡ false
no_desk front a back [] new = refl
no_desk front a back (b ∷ people) new =
    no_desk_by a b people (is_dispatcher_role b.role) (unlike a.name b.name (other_name front a back b new.0))
    (no_desk front a (back ++ b ∷ []) people (subst (λ earlier. AreNew is_same_actor earlier people) (append_assoc front (a ∷ back) (b ∷ [])) new.1))

each_by : (a : Actor) (people : List Actor) (does : Bool) → has_name (dispatchers_among people) a.name ≡ false → HasEachOnce (dispatchers_among people)
    → HasEachOnce (map (λ c. c.name) (cond does (a ∷ filter (λ c. is_dispatcher_role c.role) people) (filter (λ c. is_dispatcher_role c.role) people)))
each_by a people true none rest = (none, rest)
each_by a people false none rest = rest

each_once : (earlier people : List Actor) → AreNew is_same_actor earlier people → HasEachOnce (dispatchers_among people)
each_once earlier [] new = tt
each_once earlier (a ∷ people) new =
    each_by a people (is_dispatcher_role a.role) (no_desk earlier a [] people new.1) (each_once (earlier ++ a ∷ []) people new.1)

-- each dispatcher's name is the name of one desk
pub desks_once : (t : TableRows) → AreNew is_same_actor [] t.actors → HasEachOnce (desks_of t)
desks_once t new = each_once [] t.actors new

dispatcher_by : (a : Actor) (people : List Actor) (desk : List ℕ) (person : Actor) (does is : Bool) → is_dispatcher_role a.role ≡ does → bytes_eq a.name desk ≡ is
    → has_name (dispatchers_among people) a.name ≡ false
    → has_name (map (λ c. c.name) (cond does (a ∷ filter (λ c. is_dispatcher_role c.role) people) (filter (λ c. is_dispatcher_role c.role) people))) desk ≡ true
    → cond is (Some a) (find (λ c. bytes_eq c.name desk) people) ≡ Some person
    → (has_name (dispatchers_among people) desk ≡ true → find (λ c. bytes_eq c.name desk) people ≡ Some person → is_dispatcher_role person.role ≡ true)
    → is_dispatcher_role person.role ≡ true
dispatcher_by a people desk person true true role same none has found rest = subst (λ (b : Actor). is_dispatcher_role b.role ≡ true) (some_is found) role
dispatcher_by a people desk person false true role same none has found rest =
    both has (subst (λ name. has_name (dispatchers_among people) name ≡ false) (same_bytes a.name desk same) none)
dispatcher_by a people desk person true false role same none has found rest =
    rest (subst (λ test. (test || has_name (dispatchers_among people) desk) ≡ true) same has) found
dispatcher_by a people desk person false false role same none has found rest = rest has found

dispatcher_among : (earlier people : List Actor) (desk : List ℕ) (person : Actor) → AreNew is_same_actor earlier people → has_name (dispatchers_among people) desk ≡ true
    → find (λ c. bytes_eq c.name desk) people ≡ Some person → is_dispatcher_role person.role ≡ true
dispatcher_among earlier [] desk person new has found = both has refl
dispatcher_among earlier (a ∷ people) desk person new has found =
    dispatcher_by a people desk person (is_dispatcher_role a.role) (bytes_eq a.name desk) refl refl (no_desk earlier a [] people new.1) has found
    (dispatcher_among (earlier ++ a ∷ []) people desk person new.1)

-- the person after whom a desk is named is a dispatcher
pub is_dispatchers : (t : TableRows) (desk : List ℕ) (person : Actor) → AreNew is_same_actor [] t.actors → has_name (desks_of t) desk ≡ true → actor_of t desk ≡ Some person
    → is_dispatcher_role person.role ≡ true
is_dispatchers t desk person new has found = dispatcher_among [] t.actors desk person new has found
