-- What is read has the keys of each object in byte order, each once.
use Rattle.std.proofs.Common.{◌≡◌, ℕ, List, Option, None, Some, IfSome, Ordering, Less, Equal, Greater, nat_cmp, refl, ap, ◌∙◌}
use Rattle.std.specs.Prelude.{◌==◌, length, option_map, option_and_then, ⊤}
use Rattle.std.specs.Ordering.{match_ordering, ordering_reverse}
use Rattle.std.specs.Str.Lossy.{utf8_valid_len}
use Rattle.std.specs.Cmp.Lexicographic.{slice_cmp}
use Rattle.std.proofs.lemmas.Cmp.{nat_list_cmp_total}
use Rattle.json.specs.Json as json
use Rattle.json.specs.Lex.{tokens}
use Rattle.serde_json.specs.Data.{Data, null, boolean, number, string, array, object, Items, no_items, item, Members, no_members, member, put}
use Rattle.serde_json.specs.Find.{get_member}
use Rattle.serde_json.specs.Read.{max_depth, read, of_json, of_items, of_members, number_of}
use Rattle.asks.specs.Fields.{data_of}
use Rattle.asks.specs.Plain.{IsBefore, AreInOrder}
use Rattle.desk_time.proofs.Chains.{then_if, under, mapped}

abbrev mutual
  pub Ordered : Data → Type 0
  Ordered null = ⊤
  Ordered (boolean b) = ⊤
  Ordered (number n) = ⊤
  Ordered (string t) = ⊤
  Ordered (array ds) = ItemsOrdered ds
  Ordered (object ms) = AreInOrder ms × MembersOrdered ms

  pub ItemsOrdered : Items → Type 0
  ItemsOrdered no_items = ⊤
  ItemsOrdered (item d ds) = Ordered d × ItemsOrdered ds

  pub MembersOrdered : Members → Type 0
  MembersOrdered no_members = ⊤
  MembersOrdered (member k d ms) = Ordered d × MembersOrdered ms

-- ---- one member more

before_all : (a b : List ℕ) (ms : Members) → slice_cmp nat_cmp a b ≡ Less → IsBefore b ms → IsBefore a ms
before_all a b no_members less is = tt
before_all a b (member k d ms) less is = (nat_list_cmp_total.trans a b k less is.0, before_all a b ms less is.1)

before_put_at : (o : Ordering) (a k l : List ℕ) (d e : Data) (ms : Members) → slice_cmp nat_cmp a k ≡ Less → slice_cmp nat_cmp a l ≡ Less → IsBefore a ms → IsBefore a (put k d ms)
    → IsBefore a (match_ordering o (member k d (member l e ms)) (member l d ms) (member l e (put k d ms)))
before_put_at Less a k l d e ms first second is later = (first, (second, is))
before_put_at Equal a k l d e ms first second is later = (second, is)
before_put_at Greater a k l d e ms first second is later = (second, later)

before_put : (a k : List ℕ) (d : Data) (ms : Members) → slice_cmp nat_cmp a k ≡ Less → IsBefore a ms → IsBefore a (put k d ms)
before_put a k d no_members less is = (less, tt)
before_put a k d (member l e ms) less is = before_put_at (slice_cmp nat_cmp k l) a k l d e ms less is.0 is.1 (before_put a k d ms less is.1)

order_put_at : (o : Ordering) (k l : List ℕ) (d e : Data) (ms : Members) → slice_cmp nat_cmp k l ≡ o → AreInOrder (member l e ms) → AreInOrder (put k d ms)
    → AreInOrder (match_ordering o (member k d (member l e ms)) (member l d ms) (member l e (put k d ms)))
order_put_at Less k l d e ms is order later = ((is, before_all k l ms is order.0), order)
order_put_at Equal k l d e ms is order later = (order.0, order.1)
order_put_at Greater k l d e ms is order later =
    let behind : slice_cmp nat_cmp l k ≡ Less = nat_list_cmp_total.antisymm l k ∙ ap ordering_reverse is in
    (before_put l k d ms behind order.0, later)

order_put : (k : List ℕ) (d : Data) (ms : Members) → AreInOrder ms → AreInOrder (put k d ms)
order_put k d no_members order = (tt, tt)
order_put k d (member l e ms) order = order_put_at (slice_cmp nat_cmp k l) k l d e ms refl order (order_put k d ms order.1)

values_put_at : (o : Ordering) (k l : List ℕ) (d e : Data) (ms : Members) → Ordered d → MembersOrdered (member l e ms) → MembersOrdered (put k d ms)
    → MembersOrdered (match_ordering o (member k d (member l e ms)) (member l d ms) (member l e (put k d ms)))
values_put_at Less k l d e ms is all later = (is, all)
values_put_at Equal k l d e ms is all later = (is, all.1)
values_put_at Greater k l d e ms is all later = (all.0, later)

values_put : (k : List ℕ) (d : Data) (ms : Members) → Ordered d → MembersOrdered ms → MembersOrdered (put k d ms)
values_put k d no_members is all = (is, tt)
values_put k d (member l e ms) is all = values_put_at (slice_cmp nat_cmp k l) k l d e ms is all (values_put k d ms is all.1)

-- ---- what is read

abbrev AllOrdered : Members → Type 0
AllOrdered ms = AreInOrder ms × MembersOrdered ms

then_known : {A B : Type 0} (f : A → Option B) (o : Option A) (P : A → Type 0) (Q : B → Type 0) → IfSome o P → ((x : A) → P x → IfSome (f x) Q) → IfSome (option_and_then f o) Q
then_known f None P Q is next = tt
then_known f (Some x) P Q is next = next x is

any_made : {A B : Type 0} (f : A → B) (o : Option A) (Q : B → Type 0) → ((x : A) → Q (f x)) → IfSome (option_map f o) Q
any_made f None Q next = tt
any_made f (Some x) Q next = next x

mutual
  ordered : (j : json.Json) → IfSome (of_json j) Ordered
  ordered json.null = tt
  ordered (json.boolean b) = tt
  ordered (json.number s) = any_made number (number_of s) Ordered (λ n. tt)
  ordered (json.string s) = tt
  ordered (json.array js) = mapped array (of_items js) ItemsOrdered Ordered (items_ordered js) (λ ds is. is)
  ordered (json.object ms) = mapped object (of_members ms no_members) AllOrdered Ordered (members_ordered ms no_members (tt, tt)) (λ all is. is)

  items_ordered : (js : json.Items) → IfSome (of_items js) ItemsOrdered
  items_ordered json.no_items = tt
  items_ordered (json.item j js) =
      then_known (λ d. option_map (item d) (of_items js)) (of_json j) Ordered ItemsOrdered (ordered j)
      (λ d is. mapped (item d) (of_items js) ItemsOrdered ItemsOrdered (items_ordered js) (λ ds all. (is, all)))

  members_ordered : (ms : json.Members) (found : Members) → AllOrdered found → IfSome (of_members ms found) AllOrdered
  members_ordered json.no_members found is = is
  members_ordered (json.member k j ms) found is =
      then_known (λ d. of_members ms (put k d found)) (of_json j) Ordered AllOrdered (ordered j)
      (λ d one. members_ordered ms (put k d found) (order_put k d found is.0, values_put k d found one is.1))

-- the data of a line
pub data_ordered : (line : List ℕ) → IfSome (data_of line) Ordered
data_ordered line = under (utf8_valid_len line == length line) (read line) Ordered (λ valid. then_if of_json (option_and_then (λ p. json.if_last p.0 p.1) (json.value max_depth (tokens line))) Ordered ordered)

-- ---- what is found

found_by : (o : Ordering) (before found after : Option Data) → IfSome before Ordered → IfSome found Ordered → IfSome after Ordered → IfSome (match_ordering o before found after) Ordered
found_by Less before found after low here high = low
found_by Equal before found after low here high = here
found_by Greater before found after low here high = high

member_ordered : (key : List ℕ) (ms : Members) → MembersOrdered ms → IfSome (get_member key ms) Ordered
member_ordered key no_members all = tt
member_ordered key (member k d ms) all =
    let rest = member_ordered key ms all.1 in
    found_by (slice_cmp nat_cmp key k) (get_member key ms) (Some d) (get_member key ms) rest all.0 rest
