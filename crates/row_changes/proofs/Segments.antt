-- Lists that are made of parts, and the tests of lists of records in words of each and of each two.
use Rattle.std.proofs.Common.{◌≡◌, ℕ, ◌+◌, ◌<◌, ◌≤◌, arith, Bool, true, false, ◌||◌, cond, List, [], ◌∷◌, ◌++◌, map, length, count_by, Option, None, Some, refl, ap, ◌∙◌}
use Rattle.std.specs.List.{AllByRecursion, position_from, list_any}
use Rattle.std.proofs.lemmas.Bool.{and_from, or_right}
use Rattle.std.proofs.lemmas.List.Recursion.{is_count_by}
use Rattle.records.specs.Faults.{pair_after, pair_or}
use Rattle.records.specs.declared.record.Record.{Record}
use Rattle.row_changes.specs.Held.{comes_before, rises_from, rising}
use Rattle.row_changes.proofs.Lists.{Pairs, both}
use Rattle.desk_io.proofs.Each.{each_append, each_weaker, each_push, each_of}

-- ---- each

pub all_made : {A B : Type 0} (P : B → Type 0) (f : A → B) (xs : List A) → AllByRecursion (λ x. P (f x)) xs → AllByRecursion P (map f xs)
all_made P f [] all = tt
all_made P f (x ∷ xs) all = (all.0, all_made P f xs all.1)

-- ---- each two

-- R of each of some and each of others
abbrev pub Across : {A : Type 0} → (A → A → Type 0) → List A → List A → Type 0
Across R xs ys = AllByRecursion (λ x. AllByRecursion (R x) ys) xs

pub pairs_joined : {A : Type 0} (R : A → A → Type 0) (xs ys : List A) → Pairs R xs → Pairs R ys → Across R xs ys → Pairs R (xs ++ ys)
pairs_joined R [] ys one two across = two
pairs_joined R (x ∷ xs) ys one two across = (each_append (R x) xs ys one.0 across.0, pairs_joined R xs ys one.1 two across.1)

pub pairs_made : {A B : Type 0} (R : B → B → Type 0) (f : A → B) (xs : List A) → Pairs (λ x y. R (f x) (f y)) xs → Pairs R (map f xs)
pairs_made R f [] pairs = tt
pairs_made R f (x ∷ xs) pairs = (all_made (R (f x)) f xs pairs.0, pairs_made R f xs pairs.1)

pub across_made : {A B C : Type 0} (R : C → C → Type 0) (f : A → C) (g : B → C) (xs : List A) (ys : List B) → AllByRecursion (λ x. AllByRecursion (λ y. R (f x) (g y)) ys) xs
    → Across R (map f xs) (map g ys)
across_made R f g [] ys all = tt
across_made R f g (x ∷ xs) ys all = (all_made (R (f x)) g ys all.0, across_made R f g xs ys all.1)

pub across_any : {A B C : Type 0} (R : C → C → Type 0) (f : A → C) (g : B → C) → ((x : A) (y : B) → R (f x) (g y)) → (xs : List A) (ys : List B) → Across R (map f xs) (map g ys)
across_any R f g is xs ys = across_made R f g xs ys (each_of (λ x. AllByRecursion (λ y. R (f x) (g y)) ys) (λ x. each_of (λ y. R (f x) (g y)) (is x) ys) xs)

-- what holds of each joins what holds of each two
pub with_each : {A : Type 0} (P : A → Type 0) (R : A → A → Type 0) (xs : List A) → AllByRecursion P xs → Pairs R xs → Pairs (λ x y. P x × P y × R x y) xs
with_each P R [] all pairs = tt
with_each P R (x ∷ xs) all pairs =
    (each_weaker (λ y. P y × R x y) (λ y. P x × P y × R x y) (λ y is. (all.0, is.0, is.1)) xs (both P (R x) xs all.1 pairs.0), with_each P R xs all.1 pairs.1)

-- ---- some

some_later : (b rest more : Bool) → (rest ≡ true → more ≡ true) → (b || rest) ≡ true → (b || more) ≡ true
some_later true rest more next is = refl
some_later false rest more next is = next is

pub any_front : {A : Type 0} (p : A → Bool) (xs ys : List A) → list_any p xs ≡ true → list_any p (xs ++ ys) ≡ true
any_front p [] ys any = absurd (cc)
any_front p (x ∷ xs) ys any = some_later (p x) (list_any p xs) (list_any p (xs ++ ys)) (any_front p xs ys) any

pub any_back : {A : Type 0} (p : A → Bool) (xs ys : List A) → list_any p ys ≡ true → list_any p (xs ++ ys) ≡ true
any_back p [] ys any = any
any_back p (x ∷ xs) ys any = or_right (p x) (list_any p (xs ++ ys)) (any_back p xs ys any)

pub any_made : {A B : Type 0} (p : B → Bool) (f : A → B) (xs : List A) → list_any (λ x. p (f x)) xs ≡ true → list_any p (map f xs) ≡ true
any_made p f [] any = any
any_made p f (x ∷ xs) any = some_later (p (f x)) (list_any (λ y. p (f y)) xs) (list_any p (map f xs)) (any_made p f xs) any

-- ---- how many

-- how many meet a test, by recursion
abbrev pub how_many : {A : Type 0} → (A → Bool) → List A → ℕ
how_many p [] = 0
how_many p (x ∷ xs) = cond (p x) (1 + how_many p xs) (how_many p xs)

pub counted_is : {A : Type 0} (p : A → Bool) (xs : List A) → how_many p xs ≡ count_by p xs
counted_is p xs = is_count_by (how_many p) p refl (λ y ys. refl) xs

counted_by : (b : Bool) (n k all : ℕ) → all ≡ n + k → cond b (1 + all) all ≡ cond b (1 + n) n + k
counted_by true n k all is = omega (arith, is)
counted_by false n k all is = is

pub counted_joined : {A : Type 0} (p : A → Bool) (xs ys : List A) → how_many p (xs ++ ys) ≡ how_many p xs + how_many p ys
counted_joined p [] ys = omega arith
counted_joined p (x ∷ xs) ys = counted_by (p x) (how_many p xs) (how_many p ys) (how_many p (xs ++ ys)) (counted_joined p xs ys)

pub counted_all : {A B : Type 0} (p : B → Bool) (f : A → B) → ((x : A) → p (f x) ≡ true) → (xs : List A) → how_many p (map f xs) ≡ length xs
counted_all p f is [] = refl
counted_all p f is (x ∷ xs) =
    let rest = counted_all p f is xs in
    let more : 1 + how_many p (map f xs) ≡ length (x ∷ xs) = omega (arith, rest) in
    ap (λ b. cond b (1 + how_many p (map f xs)) (how_many p (map f xs))) (is x) ∙ more

pub counted_none : {A B : Type 0} (p : B → Bool) (f : A → B) → ((x : A) → p (f x) ≡ false) → (xs : List A) → how_many p (map f xs) ≡ 0
counted_none p f is [] = refl
counted_none p f is (x ∷ xs) = ap (λ b. cond b (1 + how_many p (map f xs)) (how_many p (map f xs))) (is x) ∙ counted_none p f is xs

-- one more after some is at most so many, so the ones before are fewer
pub room_before : {A : Type 0} (p : A → Bool) (earlier : List A) (x : A) (rest : List A) (most : ℕ) → p x ≡ true → count_by p (earlier ++ x ∷ rest) ≤ most → count_by p earlier < most
room_before p earlier x rest most is few =
    let whole = counted_is p (earlier ++ x ∷ rest) in
    let front = counted_is p earlier in
    let sum = counted_joined p earlier (x ∷ rest) in
    let one : how_many p (x ∷ rest) ≡ 1 + how_many p rest = ap (λ b. cond b (1 + how_many p rest) (how_many p rest)) is in
    omega (arith, few, whole, front, sum, one)

-- ---- places

pub none_if : {A : Type 0} (b : Bool) (x : A) (later : Option A) → b ≡ false → later ≡ None → cond b (Some x) later ≡ None
none_if true x later is none = absurd (cc)
none_if false x later is none = none

-- where none meets a test, none has a place
pub none_placed : (p : Record → Bool) (i : ℕ) (rs : List Record) → AllByRecursion (λ r. p r ≡ false) rs → position_from p i rs ≡ None
none_placed p i [] none = refl
none_placed p i (r ∷ rs) none = none_if (p r) i (position_from p (i + 1) rs) none.0 (none_placed p (i + 1) rs none.1)

-- none is at odds with one before it
pub none_paired : (p : Record → Record → Bool) (earlier rs : List Record) → AllByRecursion (λ r. AllByRecursion (λ e. p r e ≡ false) earlier) rs → Pairs (λ a b. p b a ≡ false) rs
    → pair_after p earlier rs ≡ None
none_paired p earlier [] before pairs = refl
none_paired p earlier (r ∷ rs) before pairs =
    ap (λ o. pair_or o (length earlier) (pair_after p (earlier ++ r ∷ []) rs)) (none_placed (p r) 0 earlier before.0)
    ∙ none_paired p (earlier ++ r ∷ []) rs
    (each_weaker (λ q. AllByRecursion (λ e. p q e ≡ false) earlier × (p q r ≡ false)) (λ q. AllByRecursion (λ e. p q e ≡ false) (earlier ++ r ∷ []))
    (λ q is. each_push (λ e. p q e ≡ false) earlier r is.0 is.1) rs (both (λ q. AllByRecursion (λ e. p q e ≡ false) earlier) (λ q. p q r ≡ false) rs before.1 pairs.0))
    pairs.1

-- ---- order

rises_after : (r : Record) (rs : List Record) → AllByRecursion (λ q. comes_before r q ≡ true) rs → Pairs (λ a b. comes_before a b ≡ true) rs → rises_from r rs ≡ true
rises_after r [] later pairs = refl
rises_after r (q ∷ qs) later pairs = and_from (comes_before r q) (rises_from q qs) later.0 (rises_after q qs pairs.0 pairs.1)

-- where each comes before all later ones, they rise
pub all_rise : (rs : List Record) → Pairs (λ a b. comes_before a b ≡ true) rs → rising rs ≡ true
all_rise [] pairs = refl
all_rise (r ∷ rs) pairs = rises_after r rs pairs.0 pairs.1
