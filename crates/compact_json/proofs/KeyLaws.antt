-- Members that are put one after another stand in the order of their keys, and the least key after a key is the next of them.
use Rattle.std.proofs.Common.{◌≡◌, ℕ, zero, suc, Bool, true, false, cond, unwrap_or, List, [], ◌∷◌, length, Option, None, Some, Ordering, Less, Equal, Greater, nat_cmp, is_lt, is_eq, refl, sym, ap, ◌∙◌, subst, true≢false}
use Rattle.std.specs.Prelude.{◌&&◌, ⊤}
use Rattle.std.specs.Ordering.{match_ordering, ordering_reverse}
use Rattle.std.specs.Cmp.Lexicographic.{slice_cmp}
use Rattle.std.proofs.lemmas.Cmp.{nat_list_cmp_total, tied_itself}
use Rattle.std.proofs.lemmas.Map.Text.{is_eq-slice_cmp}
use Rattle.std.proofs.lemmas.Slice.Eq.{bytes_eq-Decides}
use Rattle.serde_json.specs.Data.{Data, Members, no_members, member, put}
use Rattle.compact_json.specs.Boxes.{content, after}
use Rattle.compact_json.specs.Kept.{is_text, put_text, members_by, data_of, members_onto, members_of}
use Rattle.compact_json.specs.Keys.{is_below, is_past, past, first_key, is_below_all, lesser}

abbrev Below : List ℕ → List ℕ → Type 0
Below a b = slice_cmp nat_cmp a b ≡ Less

-- a key that comes before each of these
abbrev pub IsBefore : List ℕ → Members → Type 0
IsBefore key no_members = ⊤
IsBefore key (member k d ms) = Below key k × IsBefore key ms

-- keys in byte order, each once
abbrev pub AreInOrder : Members → Type 0
AreInOrder no_members = ⊤
AreInOrder (member k d ms) = IsBefore k ms × AreInOrder ms

-- ---- one member more

before_all : (a b : List ℕ) (ms : Members) → Below a b → IsBefore b ms → IsBefore a ms
before_all a b no_members less is = tt
before_all a b (member k d ms) less is = (nat_list_cmp_total.trans a b k less is.0, before_all a b ms less is.1)

before_put_at : (o : Ordering) (a k l : List ℕ) (d e : Data) (ms : Members) → Below a k → Below a l → IsBefore a ms → IsBefore a (put k d ms)
    → IsBefore a (match_ordering o (member k d (member l e ms)) (member l d ms) (member l e (put k d ms)))
before_put_at Less a k l d e ms one two is later = (one, (two, is))
before_put_at Equal a k l d e ms one two is later = (two, is)
before_put_at Greater a k l d e ms one two is later = (two, later)

before_put : (a k : List ℕ) (d : Data) (ms : Members) → Below a k → IsBefore a ms → IsBefore a (put k d ms)
before_put a k d no_members less is = (less, tt)
before_put a k d (member l e ms) less is = before_put_at (slice_cmp nat_cmp k l) a k l d e ms less is.0 is.1 (before_put a k d ms less is.1)

order_put_at : (o : Ordering) (k l : List ℕ) (d e : Data) (ms : Members) → slice_cmp nat_cmp k l ≡ o → AreInOrder (member l e ms) → AreInOrder (put k d ms)
    → AreInOrder (match_ordering o (member k d (member l e ms)) (member l d ms) (member l e (put k d ms)))
order_put_at Less k l d e ms is order later = ((is, before_all k l ms is order.0), order)
order_put_at Equal k l d e ms is order later = (order.0, order.1)
order_put_at Greater k l d e ms is order later =
    let behind : Below l k = nat_list_cmp_total.antisymm l k ∙ ap ordering_reverse is in
    (before_put l k d ms behind order.0, later)

order_put : (k : List ℕ) (d : Data) (ms : Members) → AreInOrder ms → AreInOrder (put k d ms)
order_put k d no_members order = (tt, tt)
order_put k d (member l e ms) order = order_put_at (slice_cmp nat_cmp k l) k l d e ms refl order (order_put k d ms order.1)

order_if : (b : Bool) (k : List ℕ) (d : Data) (ms : Members) → AreInOrder ms → AreInOrder (cond b (put k d ms) ms)
order_if true k d ms order = order_put k d ms order
order_if false k d ms order = order

pub order_text : (k : List ℕ) (d : Data) (ms : Members) → AreInOrder ms → AreInOrder (put_text k d ms)
order_text k d ms order = order_if (is_text k) k d ms order

order_by : (each : List ℕ → Data) (n : ℕ) (bytes : List ℕ) (found : Members) → AreInOrder found → AreInOrder (members_by each n bytes found)
order_by each zero bytes found order = order
order_by each (suc n) [] found order = order
order_by each (suc n) (b ∷ bs) found order =
    order_by each n (after (after (b ∷ bs))) (put_text (content (b ∷ bs)) (each (after (b ∷ bs))) found) (order_text (content (b ∷ bs)) (each (after (b ∷ bs))) found order)

pub members_in_order : (bytes : List ℕ) → AreInOrder (members_of bytes)
unfolding members_onto
members_in_order bytes = order_by data_of (length bytes) bytes no_members tt

-- ---- the least key

not_below : (a b : List ℕ) → Below b a → is_below a b ≡ false
not_below a b less = ap is_lt (nat_list_cmp_total.antisymm a b ∙ ap ordering_reverse less)

some_same : {A : Type 0} (a b : A) → Some a ≡ Some b → a ≡ b
some_same a b is = ap (λ o. unwrap_or o a) is

before_case : (t : Bool) (k l : List ℕ) (e : Data) (rest : Members) → Below k l → is_below_all k (first_key rest) ≡ true
    → is_below_all k (first_key (cond t (member l e rest) rest)) ≡ true
before_case true k l e rest less later = ap is_lt less
before_case false k l e rest less later = later

-- nothing that comes after a key is below it
least_before : (s : Bool) (last k : List ℕ) (ms : Members) → IsBefore k ms → is_below_all k (first_key (past s last ms)) ≡ true
least_before s last k no_members is = refl
least_before s last k (member l e ms) is = before_case (is_past s last l) k l e (past s last ms) is.0 (least_before s last k ms is.1)

-- the lesser of the key that is put and the one that was first before
abbrev taken : Bool → List ℕ → Option (List ℕ) → Option (List ℕ)
taken t k least = cond (t && is_below_all k least) (Some k) least

alone_case : (t : Bool) (k : List ℕ) (d : Data) → first_key (cond t (member k d no_members) no_members) ≡ taken t k None
alone_case true k d = refl
alone_case false k d = refl

less_case : (t : Bool) (k : List ℕ) (d : Data) (rest : Members) → is_below_all k (first_key rest) ≡ true
    → first_key (cond t (member k d rest) rest) ≡ taken t k (first_key rest)
less_case true k d rest low = sym (ap (λ b. cond b (Some k) (first_key rest)) low)
less_case false k d rest low = refl

either_way : {A : Type 0} (b : Bool) (x : A) → x ≡ cond b x x
either_way true x = refl
either_way false x = refl

equal_case : (t : Bool) (l : List ℕ) (d e : Data) (rest : Members)
    → first_key (cond t (member l d rest) rest) ≡ taken t l (first_key (cond t (member l e rest) rest))
equal_case true l d e rest = either_way (is_below l l) (Some l)
equal_case false l d e rest = refl

never : (t b : Bool) (x y : Option (List ℕ)) → b ≡ false → y ≡ cond (t && b) x y
never true b x y isnt = sym (ap (λ c. cond c x y) isnt)
never false b x y isnt = refl

greater_case : (t p : Bool) (k l : List ℕ) (e : Data) (more rest : Members) → is_below k l ≡ false → first_key more ≡ taken p k (first_key rest)
    → first_key (cond t (member l e more) more) ≡ taken p k (first_key (cond t (member l e rest) rest))
greater_case true p k l e more rest isnt is = never p (is_below k l) (Some k) (Some l) isnt
greater_case false p k l e more rest isnt is = is

put_case : (o : Ordering) (s : Bool) (last k l : List ℕ) (d e : Data) (ms : Members) → slice_cmp nat_cmp k l ≡ o → IsBefore l ms
    → first_key (past s last (put k d ms)) ≡ taken (is_past s last k) k (first_key (past s last ms))
    → first_key (past s last (match_ordering o (member k d (member l e ms)) (member l d ms) (member l e (put k d ms))))
    ≡ taken (is_past s last k) k (first_key (past s last (member l e ms)))
put_case Less s last k l d e ms is order later =
    less_case (is_past s last k) k d (past s last (member l e ms)) (least_before s last k (member l e ms) (is, before_all k l ms is order))
put_case Equal s last k l d e ms is order later =
    let same : k ≡ l = (bytes_eq-Decides k l).0 (sym (is_eq-slice_cmp k l) ∙ ap is_eq is) in
    subst (λ x. first_key (past s last (member l d ms)) ≡ taken (is_past s last x) x (first_key (past s last (member l e ms)))) (sym same)
    (equal_case (is_past s last l) l d e (past s last ms))
put_case Greater s last k l d e ms is order later =
    greater_case (is_past s last l) (is_past s last k) k l e (past s last (put k d ms)) (past s last ms) (ap is_lt is) later

least_put : (s : Bool) (last k : List ℕ) (d : Data) (ms : Members) → AreInOrder ms
    → first_key (past s last (put k d ms)) ≡ taken (is_past s last k) k (first_key (past s last ms))
least_put s last k d no_members order = alone_case (is_past s last k) k d
least_put s last k d (member l e ms) order = put_case (slice_cmp nat_cmp k l) s last k l d e ms refl order.0 (least_put s last k d ms order.1)

text_case : (t : Bool) (s : Bool) (last k : List ℕ) (d : Data) (ms : Members)
    → first_key (past s last (put k d ms)) ≡ taken (is_past s last k) k (first_key (past s last ms))
    → first_key (past s last (cond t (put k d ms) ms)) ≡ cond (t && is_past s last k && is_below_all k (first_key (past s last ms))) (Some k) (first_key (past s last ms))
text_case true s last k d ms is = is
text_case false s last k d ms is = refl

-- one box more
pub least_text : (s : Bool) (last k : List ℕ) (d : Data) (ms : Members) → AreInOrder ms
    → lesser s last k (first_key (past s last ms)) ≡ first_key (past s last (put_text k d ms))
least_text s last k d ms order = sym (text_case (is_text k) s last k d ms (least_put s last k d ms order))

-- ---- the next key

-- all keys come after none
pub past_none : (last : List ℕ) (ms : Members) → past false last ms ≡ ms
past_none last no_members = refl
past_none last (member k d ms) = ap (member k d) (past_none last ms)

less_of : (o : Ordering) → is_lt o ≡ true → o ≡ Less
less_of Less is = refl
less_of Equal is = absurd (true≢false (sym is))
less_of Greater is = absurd (true≢false (sym is))

past_on : (s : Bool) (last l q : List ℕ) → is_past s last l ≡ true → Below l q → is_past s last q ≡ true
past_on false last l q is less = refl
past_on true last l q is less = ap is_lt (nat_list_cmp_total.trans last l q (less_of (slice_cmp nat_cmp last l) is) less)

kept_case : (t : Bool) (q : List ℕ) (f : Data) (kept rest : Members) → t ≡ true → kept ≡ rest → cond t (member q f kept) kept ≡ member q f rest
kept_case true q f kept rest is same = ap (member q f) same
kept_case false q f kept rest is same = absurd (true≢false (sym is))

all_past : (s : Bool) (last l : List ℕ) (ms : Members) → is_past s last l ≡ true → IsBefore l ms → past s last ms ≡ ms
all_past s last l no_members is order = refl
all_past s last l (member q f ms) is order =
    kept_case (is_past s last q) q f (past s last ms) ms (past_on s last l q is order.0) (all_past s last l ms is order.1)

own_past : (l : List ℕ) (ms : Members) → IsBefore l ms → past true l ms ≡ ms
own_past l no_members order = refl
own_past l (member q f ms) order = kept_case (is_below l q) q f (past true l ms) ms (ap is_lt order.0) (own_past l ms order.1)

behind_case : (t : Bool) (l q k : List ℕ) (f : Data) (rest : Members) → Below l q → (first_key rest ≡ Some k → Below l k)
    → first_key (cond t (member q f rest) rest) ≡ Some k → Below l k
behind_case true l q k f rest less later is = subst (Below l) (some_same q k is) less
behind_case false l q k f rest less later is = later is

first_behind : (s : Bool) (last l k : List ℕ) (ms : Members) → IsBefore l ms → first_key (past s last ms) ≡ Some k → Below l k
first_behind s last l k no_members order is = absurd (cc)
first_behind s last l k (member q f ms) order is =
    behind_case (is_past s last q) l q k f (past s last ms) order.0 (first_behind s last l k ms order.1) is

skipped : (t : Bool) (l : List ℕ) (e : Data) (rest : Members) → t ≡ false → cond t (member l e rest) rest ≡ rest
skipped true l e rest is = absurd (true≢false is)
skipped false l e rest is = refl

same_below : (l : List ℕ) → is_below l l ≡ false
same_below l = ap is_lt (tied_itself nat_list_cmp_total l)

-- what stands from a key on
abbrev From : Members → List ℕ → Members → Type 0
From kept k all = (d : Data) × (kept ≡ member k d (past true k all))

next_case : (t : Bool) (s : Bool) (last l k : List ℕ) (e : Data) (ms : Members) → is_past s last l ≡ t → IsBefore l ms
    → (first_key (past s last ms) ≡ Some k → From (past s last ms) k ms)
    → first_key (cond t (member l e (past s last ms)) (past s last ms)) ≡ Some k
    → From (cond t (member l e (past s last ms)) (past s last ms)) k (member l e ms)
next_case true s last l k e ms is order later found =
    let rest : past s last ms ≡ past true l (member l e ms) =
    all_past s last l ms is order ∙ sym (own_past l ms order) ∙ sym (skipped (is_below l l) l e (past true l ms) (same_below l)) in
    subst (λ x. From (member l e (past s last ms)) x (member l e ms)) (some_same l k found) (e, ap (member l e) rest)
next_case false s last l k e ms is order later found =
    let next = later found in
    let behind = first_behind s last l k ms order found in
    (next.0, next.1 ∙ ap (member k next.0) (sym (skipped (is_below k l) l e (past true k ms) (not_below k l behind))))

next_left : (s : Bool) (last k : List ℕ) (ms : Members) → AreInOrder ms → first_key (past s last ms) ≡ Some k → From (past s last ms) k ms
next_left s last k no_members order found = absurd (cc)
next_left s last k (member l e ms) order found =
    next_case (is_past s last l) s last l k e ms refl order.0 (next_left s last k ms order.1) found

-- the next key of an object, and those after it
pub next_of : (s : Bool) (last bytes k : List ℕ) → Some k ≡ first_key (past s last (members_of bytes))
    → (d : Data) × (past s last (members_of bytes) ≡ member k d (past true k (members_of bytes)))
next_of s last bytes k found = next_left s last k (members_of bytes) (members_in_order bytes) (sym found)

none_of : (ms : Members) → None ≡ first_key ms → ms ≡ no_members
none_of no_members is = refl
none_of (member k d ms) is = absurd (cc)

pub none_left : (s : Bool) (last bytes : List ℕ) → None ≡ first_key (past s last (members_of bytes)) → past s last (members_of bytes) ≡ no_members
none_left s last bytes is = none_of (past s last (members_of bytes)) is
