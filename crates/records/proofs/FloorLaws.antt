-- Floors as members of an object, in the order of their names.
use Rattle.std.proofs.Common.{◌≡◌, ℕ, true, List, [], ◌∷◌, Some, refl, sym, ap, ◌∙◌, subst, arith, nat_cmp, Less, is_lt}
use Rattle.std.specs.List.{AllByRecursion}
use Rattle.std.specs.Cmp.Lexicographic.{slice_cmp}
use Rattle.std.proofs.lemmas.Bool.{and_parts}
use Rattle.serde_json.specs.Data.{Members, no_members, member, put, members_depth}
use Rattle.asks.specs.declared.kept.Floor.{Floor}
use Rattle.asks.specs.Canonical.{count}
use Rattle.asks.specs.Plain.{IsBefore, AreInOrder, MembersArePlain, MembersHaveText}
use Rattle.asks.proofs.Again.{small_again}
use Rattle.release_json.proofs.ReleaseLaws.{person_utf8}
use Rattle.records.specs.Bodies.{with_floors}
use Rattle.records.specs.Reading.{floor_of, floors_in}
use Rattle.asks.specs.Forms.{IsFloor, FloorsRise}
use Rattle.desk_state.proofs.FloorForms.{all_later}
use Rattle.records.specs.Valid.{comes_before, are_rising}
use Rattle.records.proofs.NameLaws.{person_lossy, person_known}
use Rattle.asks.proofs.Joined.{joined, joined_again, joined_nothing, put_last}
use Rattle.asks.proofs.Plain.{less}

-- the members one after another
abbrev pub in_turn : List Floor → Members
in_turn [] = no_members
in_turn (f ∷ fs) = member f.actor (count f.number) (in_turn fs)

name_before : (name : List ℕ) (fs : List Floor) → AllByRecursion (λ (g : Floor). slice_cmp nat_cmp name g.actor ≡ Less) fs → IsBefore name (in_turn fs)
name_before name [] all = tt
name_before name (f ∷ fs) all = (all.0, name_before name fs all.1)

pub turn_order : (fs : List Floor) → FloorsRise fs → AreInOrder (in_turn fs)
turn_order [] rising = tt
turn_order (f ∷ fs) rising = (name_before f.actor fs rising.0, turn_order fs rising.1)

onto : (ms : Members) (fs : List Floor) → AllByRecursion IsFloor fs → AreInOrder (joined ms (in_turn fs)) → with_floors ms fs ≡ joined ms (in_turn fs)
onto ms [] all order = sym (joined_nothing ms)
onto ms (f ∷ fs) all order =
    let last = put_last ms f.actor (count f.number) (in_turn fs) order in
    let again = joined_again ms (member f.actor (count f.number) no_members) (in_turn fs) in
    ap (λ key. with_floors (put key (count f.number) ms) fs) (person_lossy f.actor all.0.actor)
    ∙ ap (λ made. with_floors made fs) last
    ∙ onto (joined ms (member f.actor (count f.number) no_members)) fs all.1 (subst AreInOrder (sym again) order)
    ∙ again

-- where names rise each is put behind those before it
pub floors_in_turn : (fs : List Floor) → AllByRecursion IsFloor fs → FloorsRise fs → with_floors no_members fs ≡ in_turn fs
floors_in_turn fs all rising = onto no_members fs all (turn_order fs rising)

pub turn_plain : (fs : List Floor) → AllByRecursion IsFloor fs → MembersArePlain (in_turn fs)
turn_plain [] all = tt
turn_plain (f ∷ fs) all = ((let few = all.0.number in omega arith), turn_plain fs all.1)

pub turn_has_text : (fs : List Floor) → AllByRecursion IsFloor fs → MembersHaveText (in_turn fs)
turn_has_text [] all = tt
turn_has_text (f ∷ fs) all = (person_utf8 f.actor all.0.actor, tt, turn_has_text fs all.1)

pub turn_depth : (fs : List Floor) → members_depth (in_turn fs) ≡ 0
turn_depth [] = refl
turn_depth (f ∷ fs) = rw (turn_depth fs) refl

floor_again : (f : Floor) → IsFloor f → floor_of f.actor (count f.number) ≡ Some f
floor_again f is = rw (person_known f.actor is.actor, small_again f.number 1_000_000_000_000 is.number) refl

pub floors_again : (fs : List Floor) → AllByRecursion IsFloor fs → floors_in (in_turn fs) ≡ Some fs
floors_again [] all = refl
floors_again (f ∷ fs) all = rw (floor_again f all.0, floors_again fs all.1) refl

-- ---- names that rise

next_rises : (name : List ℕ) (fs : List Floor) → AllByRecursion (λ (g : Floor). slice_cmp nat_cmp name g.actor ≡ Less) fs → comes_before name fs ≡ true
next_rises name [] all = refl
next_rises name (f ∷ fs) all = ap is_lt all.0

pub rising_tested : (fs : List Floor) → FloorsRise fs → are_rising fs ≡ true
rising_tested [] rising = refl
rising_tested (f ∷ fs) rising = rw (next_rises f.actor fs rising.0, rising_tested fs rising.1) refl

first_before : (name : List ℕ) (fs : List Floor) → comes_before name fs ≡ true → FloorsRise fs → AllByRecursion (λ (g : Floor). slice_cmp nat_cmp name g.actor ≡ Less) fs
first_before name [] is rising = tt
first_before name (f ∷ fs) is rising = (less _ is, all_later name f.actor fs (less _ is) rising.0)

pub rising_from_test : (fs : List Floor) → are_rising fs ≡ true → FloorsRise fs
rising_from_test [] is = tt
rising_from_test (f ∷ fs) is =
    let parts = and_parts (comes_before f.actor fs) (are_rising fs) is in
    let rising = rising_from_test fs parts.1 in
    (first_before f.actor fs parts.0 rising, rising)
