-- Names that are found in the tables have their forms.
use Rattle.std.proofs.Common.{◌≡◌, ℕ, Bool, true, false, cond, ◌&&◌, List, [], ◌∷◌, Option, None, Some, IfSome, is_some, refl, sym, subst}
use Rattle.std.specs.Prelude.{find}
use Rattle.std.specs.List.{AllByRecursion}
use Rattle.std.specs.Str.{bytes_eq}
use Rattle.std.proofs.lemmas.Bool.{and_parts}
use Rattle.deferrals.specs.declared.items.Deferral.{Deferral}
use Rattle.ops_tables.specs.Named.{AreNamed}
use Rattle.desk_state.specs.Formed.{DeferralHasForms}
use Rattle.desk_state.specs.Allowed.{IsListed, IsDeferred}
use Rattle.desk_state.specs.People.{mistaken}
use Rattle.desk_state.specs.State.{State}
use Rattle.ops_tables.specs.Forms.{is_tail, is_item, is_person}
use Rattle.ops_tables.specs.Tables.{TableRows, actor_of, item_of, tail_named, type_of, type_of_tail}
use Rattle.ops_tables.specs.Rows.{Actor}
use Rattle.ops_tables.specs.declared.rows.MelRow.{MelRow}
use Rattle.ops_tables.specs.declared.rows.Tail.{Tail}
use Rattle.ops_tables.specs.declared.rows.TypeRow.{TypeRow}
use Rattle.desk_io.proofs.Bytes.{same_bytes}

-- what is found passes the test by which it was sought

found_by : {A : Type 0} (P : A → Type 0) (p : A → Bool) (x : A) (b : Bool) (o : Option A) → p x ≡ b → P x → IfSome o (λ y. P y × (p y ≡ true))
    → IfSome (cond b (Some x) o) (λ y. P y × (p y ≡ true))
found_by P p x true o e here later = (here, e)
found_by P p x false o e here later = later

pub found_has : {A : Type 0} (P : A → Type 0) (p : A → Bool) (xs : List A) → AllByRecursion P xs → IfSome (find p xs) (λ y. P y × (p y ≡ true))
found_has P p [] all = tt
found_has P p (x ∷ xs) all = found_by P p x (p x) (find p xs) refl all.0 (found_has P p xs all.1)

-- ---- persons

person_by : (o : Option Actor) (actor key : List ℕ) → IfSome o (λ a. (is_person a.name ≡ true) × (bytes_eq a.name actor ≡ true)) → mistaken o key ≡ None → is_person actor ≡ true
person_by None actor key has known = absurd (cc)
person_by (Some person) actor key has known = subst (λ (name : List ℕ). is_person name ≡ true) (same_bytes person.name actor has.1) has.0

-- who calls with a name and a key that aren't mistaken
pub person_formed : (tables : TableRows) (actor key : List ℕ) → AreNamed tables → mistaken (actor_of tables actor) key ≡ None → is_person actor ≡ true
person_formed tables actor key names known =
    person_by (actor_of tables actor) actor key (found_has (λ a. is_person a.name ≡ true) (λ a. bytes_eq a.name actor) tables.actors names.people) known

-- ---- deferrals

tail_by : (tables : TableRows) (o : Option Tail) (tail item : List ℕ) → IfSome o (λ r. (is_tail r.tail ≡ true) × (bytes_eq r.tail tail ≡ true)) → IsListed tables (type_of_tail tables o) item
    → is_tail tail ≡ true
tail_by tables None tail item has listed = absurd listed
tail_by tables (Some r) tail item has listed = subst (λ (name : List ℕ). is_tail name ≡ true) (same_bytes r.tail tail has.1) has.0

item_found : (o : Option MelRow) (kind item : List ℕ) → IfSome o (λ r. (is_item r.item ≡ true) × ((bytes_eq r.kind kind && bytes_eq r.item item) ≡ true)) → is_some o ≡ true → is_item item ≡ true
item_found None kind item has there = absurd (cc)
item_found (Some r) kind item has there =
    subst (λ (name : List ℕ). is_item name ≡ true) (same_bytes r.item item (and_parts (bytes_eq r.kind kind) (bytes_eq r.item item) has.1).1) has.0

item_by : (tables : TableRows) (o : Option TypeRow) (item : List ℕ) → AreNamed tables → IsListed tables o item → is_item item ≡ true
item_by tables None item names listed = absurd listed
item_by tables (Some kind) item names listed =
    item_found (item_of tables kind.kind item) kind.kind item
    (found_has (λ r. is_item r.item ≡ true) (λ r. bytes_eq r.kind kind.kind && bytes_eq r.item item) tables.mel names.items) listed

-- a new deferral is of an aircraft and an item that the tables name
pub deferred_formed : (s : State) (tail item : List ℕ) (found : ℕ) (d : Deferral) → AreNamed s.tables → IsDeferred s tail item found d → DeferralHasForms d
deferred_formed s tail item found d names is = record {
  tail = subst (λ (name : List ℕ). is_tail name ≡ true) (sym is.aircraft)
      (tail_by s.tables (tail_named s.tables tail) tail item (found_has (λ r. is_tail r.tail ≡ true) (λ r. bytes_eq r.tail tail) s.tables.tails names.tails) is.listed);
  item = subst (λ (name : List ℕ). is_item name ≡ true) (sym is.deferred) (item_by s.tables (type_of s.tables tail) item names is.listed);
}
