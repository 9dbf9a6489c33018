-- What is written of JSON keeps what is read of it.
use Rattle.std.proofs.Common.{◌≡◌, ℕ, ◌+◌, ◌-◌, ◌≤◌, true, false, cond, List, [], ◌∷◌, ◌++◌, length, set, Option, None, Some, option_map, IsUtf8, refl, sym, ap, ap₂, ◌∙◌, true≢false, arith, append_assoc, append-nil, length-append}
use Rattle.std.specs.Prelude.{is_some}
use Rattle.std.proofs.lemmas.List.{set-append_right}
use Rattle.json.specs.Token.{Token}
use Rattle.json.specs.Json.{parse_map}
use Rattle.serde_json.specs.Data.{Num, Data, null, number, string, Items, no_items, item, Members, no_members, put}
use Rattle.compact_json.specs.declared.boxes.Kind.{Kind}
use Rattle.compact_json.specs.declared.boxes.Kind.TheVariants as kind
use Rattle.compact_json.specs.Boxes.{kind_by, content, after, long_box}
use Rattle.compact_json.specs.Kept.{number_or_null, text_data, data_by, put_text, data_of, items_of, members_onto, members_of}
use Rattle.compact_json.specs.Written.{IsBoxOf, IsBox, HasBox, HasData, HasItems, HasMembers, SetsLength, FitsLength}
use Rattle.compact_json.proofs.BoxLaws.{long_box_of}
use Rattle.compact_json.proofs.KeptLaws.{data_is, items_none, items_more, members_none, members_more}
use Rattle.compact_json.proofs.MemberLaws.{text_passes}

-- ---- one box

box_more : (k : Kind) (s bytes more : List ℕ) → IsBoxOf k s bytes → data_of (bytes ++ more) ≡ data_by items_of members_of s k
box_more k s bytes more is = data_is (bytes ++ more) ∙ ap₂ (data_by items_of members_of) (is.content_is more) (is.kind_is more)

box_data : (k : Kind) (s bytes : List ℕ) → IsBoxOf k s bytes → data_of bytes ≡ data_by items_of members_of s k
box_data k s bytes is = ap data_of (sym (append-nil bytes)) ∙ box_more k s bytes [] is

one_box : (k : Kind) (s bytes : List ℕ) → IsBoxOf k s bytes → IsBox bytes
one_box k s bytes is = record {
  some = is.some;
  same = λ more. box_more k s bytes more is ∙ sym (box_data k s bytes is);
  after_is = is.after_is;
}

-- a box that was added keeps what was read, where that is the data of its kind and content
pub has_data : (k : Kind) (s old new : List ℕ) (read : Option (Data × List Token)) (left : List Token) → HasBox k s old new
    → read ≡ Some (data_by items_of members_of s k, left) → HasData old new read left
has_data k s old new read left has is = record {
  added = has.added;
  longer = has.longer;
  is_box = one_box k s has.added has.is_box;
  keeps = is ∙ ap (λ d. Some (d, left)) (sym (box_data k s has.added has.is_box));
}

pub text_kept : (s : List ℕ) → IsUtf8 s → string s ≡ text_data s
text_kept s utf8 = sym (ap (λ b. cond b (string s) null) (text_passes s utf8))

pub number_kept : (o : Option Num) (left : List Token) → is_some o ≡ true → option_map {U = Data × List Token} (λ d. (d, left)) (option_map number o) ≡ Some (number_or_null o, left)
number_kept None left some = absurd (true≢false (sym some))
number_kept (Some n) left some = refl

pub number_refused : (o : Option Num) (left : List Token) → is_some o ≡ false → option_map {U = Data × List Token} (λ d. (d, left)) (option_map number o) ≡ None
number_refused None left none = refl
number_refused (Some n) left none = absurd (true≢false none)

-- ---- the boxes of a list

items_box : (bytes more : List ℕ) → IsBox bytes → items_of (bytes ++ more) ≡ item (data_of bytes) (items_of more)
items_box [] more is = absurd (omega (arith, is.some))
items_box (b ∷ bs) more is = items_more b (bs ++ more) ∙ ap₂ item (is.same more) (ap items_of (is.after_is more))

-- some items of a list were written, and the rest are to be read
pub record ItemsGrown (old new : List ℕ) (all rest : Option (Items × List Token)) : Type 0 where
  pub added : List ℕ
  pub into : Items → Items
  pub longer : new ≡ old ++ added
  pub goes : (more : List ℕ) → items_of (added ++ more) ≡ into (items_of more)
  pub same : all ≡ parse_map into rest

as_is : {A : Type 0} (r : Option (A × List Token)) → r ≡ parse_map (λ a. a) r
as_is None = refl
as_is (Some p) = refl

twice : {A B C : Type 0} (f : B → C) (g : A → B) (r : Option (A × List Token)) → parse_map f (parse_map g r) ≡ parse_map (λ x. f (g x)) r
twice f g None = refl
twice f g (Some p) = refl

pub items_begin : (old : List ℕ) (all : Option (Items × List Token)) → ItemsGrown old old all all
items_begin old all = record {
  added = [];
  into = λ x. x;
  longer = sym (append-nil old);
  goes = λ more. refl;
  same = as_is all;
}

pub items_step : (old mid new : List ℕ) (all rest next : Option (Items × List Token)) (read : Option (Data × List Token)) (left : List Token)
    → ItemsGrown old mid all rest → (has : HasData mid new read left) → rest ≡ parse_map (item (data_of has.added)) next → ItemsGrown old new all next
items_step old mid new all rest next read left g has is =
    let a = has.added in record {
      added = g.added ++ a;
      into = λ x. g.into (item (data_of a) x);
      longer = has.longer ∙ ap (λ t. t ++ a) g.longer ∙ append_assoc old g.added a;
      goes = λ more. ap items_of (append_assoc g.added a more) ∙ g.goes (a ++ more) ∙ ap g.into (items_box a more has.is_box);
      same = g.same ∙ ap (parse_map g.into) is ∙ twice g.into (item (data_of a)) next;
    }

pub items_end : (old new : List ℕ) (all rest : Option (Items × List Token)) (left : List Token) → ItemsGrown old new all rest
    → rest ≡ Some (no_items, left) → HasItems old new all left
items_end old new all rest left g is =
    let whole : items_of g.added ≡ g.into no_items = ap items_of (sym (append-nil g.added)) ∙ g.goes [] ∙ ap g.into items_none in record {
      added = g.added;
      longer = g.longer;
      keeps = g.same ∙ ap (parse_map g.into) is ∙ ap (λ x. Some (x, left)) (sym whole);
    }

-- ---- the boxes of an object

members_box : (s key bytes more : List ℕ) (found : Members) → IsBoxOf kind.Text s key → IsUtf8 s → IsBox bytes
    → members_onto (key ++ (bytes ++ more)) found ≡ members_onto more (put s (data_of bytes) found)
members_box s [] bytes more found is utf8 box = absurd (omega (arith, is.some))
members_box s (b ∷ bs) bytes more found is utf8 box =
    let rest = bytes ++ more in
    members_more b (bs ++ rest) found
    ∙ ap (λ t. members_onto (after t) (put_text (content ((b ∷ bs) ++ rest)) (data_of t) found)) (is.after_is rest)
    ∙ ap (λ c. members_onto (after rest) (put_text c (data_of rest) found)) (is.content_is rest)
    ∙ ap (λ d. members_onto (after rest) (put_text s d found)) (box.same more)
    ∙ ap (λ t. members_onto t (put_text s (data_of bytes) found)) (box.after_is more)
    ∙ ap (λ t. members_onto more (cond t (put s (data_of bytes) found) found)) (text_passes s utf8)

-- some members of an object were written, and the rest are to be read after these
pub record MembersGrown (old new : List ℕ) (all : Option (Members × List Token)) (rest : Members → Option (Members × List Token)) : Type 0 where
  pub added : List ℕ
  pub found : Members
  pub longer : new ≡ old ++ added
  pub goes : (more : List ℕ) → members_onto (added ++ more) no_members ≡ members_onto more found
  pub same : all ≡ rest found

pub members_begin : (old : List ℕ) (all : Option (Members × List Token)) (rest : Members → Option (Members × List Token)) → all ≡ rest no_members → MembersGrown old old all rest
members_begin old all rest is = record {
  added = [];
  found = no_members;
  longer = sym (append-nil old);
  goes = λ more. refl;
  same = is;
}

pub members_step : (s old mid key new : List ℕ) (all : Option (Members × List Token)) (rest next : Members → Option (Members × List Token)) (read : Option (Data × List Token)) (left : List Token)
    → MembersGrown old mid all rest → HasBox kind.Text s mid key → IsUtf8 s → (has : HasData key new read left)
    → ((found : Members) → rest found ≡ next (put s (data_of has.added) found)) → MembersGrown old new all next
members_step s old mid key new all rest next read left g named utf8 has is =
    let k = named.added in
    let a = has.added in record {
      added = g.added ++ (k ++ a);
      found = put s (data_of a) g.found;
      longer = has.longer ∙ ap (λ t. t ++ a) (named.longer ∙ ap (λ t. t ++ k) g.longer) ∙ ap (λ t. t ++ a) (append_assoc old g.added k)
          ∙ append_assoc old (g.added ++ k) a ∙ ap (λ t. old ++ t) (append_assoc g.added k a);
      goes = λ more. ap (λ t. members_onto t no_members) (append_assoc g.added (k ++ a) more ∙ ap (λ t. g.added ++ t) (append_assoc k a more))
          ∙ g.goes (k ++ (a ++ more)) ∙ members_box s k a more g.found named.is_box utf8 has.is_box;
      same = g.same ∙ is g.found;
    }

pub members_end : (old new : List ℕ) (all : Option (Members × List Token)) (rest : Members → Option (Members × List Token)) (left : List Token)
    → MembersGrown old new all rest → ((found : Members) → rest found ≡ Some (found, left)) → HasMembers old new all left
members_end old new all rest left g is =
    let whole : members_of g.added ≡ g.found = ap (λ t. members_onto t no_members) (sym (append-nil g.added)) ∙ g.goes [] ∙ members_none g.found in record {
      added = g.added;
      longer = g.longer;
      keeps = g.same ∙ is g.found ∙ ap (λ x. Some (x, left)) (sym whole);
    }

-- ---- a box that is begun and ended

pub set_four : (front : List ℕ) (start b w x y z p q r t : ℕ) (s : List ℕ) → length front ≡ start
    → set (set (set (set (front ++ b ∷ w ∷ x ∷ y ∷ z ∷ s) (start + 1) p) (start + 2) q) (start + 3) r) (start + 4) t ≡ front ++ b ∷ p ∷ q ∷ r ∷ t ∷ s
set_four front start b w x y z p q r t s is =
    let one = λ (more : List ℕ) (i n v : ℕ) (e : i - start ≡ n) (low : start ≤ i).
    set-append_right front more start i v is low ∙ ap (λ j. front ++ set more j v) e in
    ap (λ l. set (set (set l (start + 2) q) (start + 3) r) (start + 4) t) (one (b ∷ w ∷ x ∷ y ∷ z ∷ s) (start + 1) 1 p (omega arith) (omega arith))
    ∙ ap (λ l. set (set l (start + 3) r) (start + 4) t) (one (b ∷ p ∷ x ∷ y ∷ z ∷ s) (start + 2) 2 q (omega arith) (omega arith))
    ∙ ap (λ l. set l (start + 4) t) (one (b ∷ p ∷ q ∷ y ∷ z ∷ s) (start + 3) 3 r (omega arith) (omega arith))
    ∙ one (b ∷ p ∷ q ∷ r ∷ z ∷ s) (start + 4) 4 t (omega arith) (omega arith)

begun : (b : ℕ) (old mid new s : List ℕ) → mid ≡ old ++ b ∷ 0 ∷ 0 ∷ 0 ∷ 0 ∷ [] → new ≡ mid ++ s → new ≡ old ++ b ∷ 0 ∷ 0 ∷ 0 ∷ 0 ∷ s
begun b old mid new s opened longer = longer ∙ ap (λ t. t ++ s) opened ∙ append_assoc old (b ∷ 0 ∷ 0 ∷ 0 ∷ 0 ∷ []) s

-- there is room for the length
pub begun_long : (b start : ℕ) (old mid new s : List ℕ) → mid ≡ old ++ b ∷ 0 ∷ 0 ∷ 0 ∷ 0 ∷ [] → start ≡ length old → new ≡ mid ++ s → start + 5 ≤ length new
begun_long b start old mid new s opened at longer =
    omega (arith, at, ap length (begun b old mid new s opened longer), length-append old (b ∷ 0 ∷ 0 ∷ 0 ∷ 0 ∷ s))

pub closed : (b start : ℕ) (old mid new end s : List ℕ) → 5 ≤ b → mid ≡ old ++ b ∷ 0 ∷ 0 ∷ 0 ∷ 0 ∷ [] → start ≡ length old → new ≡ mid ++ s
    → SetsLength new end start → FitsLength new start → HasBox (kind_by b) s old end
closed b start old mid new end s low opened at longer sets fits =
    let whole = begun b old mid new s opened longer in record {
      added = long_box b s;
      longer = sets old b 0 0 0 0 s whole (sym at);
      is_box = long_box_of b s low (fits old b 0 0 0 0 s whole (sym at));
    }
