-- What is found in lists, and of requests among kept replies.
use Rattle.std.proofs.Common.{◌≡◌, ℕ, ◌==◌, ◌||◌, arith, suc, eqb-true, eq-eqb, cond, Bool, true, false, List, [], ◌∷◌, ◌++◌, Option, None, Some, IfSome, refl, ap, sym, ◌∙◌}
use Rattle.std.specs.Prelude.{filter, find}
use Rattle.std.specs.Option.{option_or}
use Rattle.std.specs.List.{AllByRecursion, AllPairs, list_any}
use Rattle.std.specs.Str.{bytes_eq}
use Rattle.std.proofs.lemmas.Bool.{and_parts, or_right}
use Rattle.std.proofs.lemmas.List.Elements.{recursion_from_All}
use Rattle.std.proofs.lemmas.List.Folds.{find-append}
use Rattle.std.proofs.lemmas.Slice.Eq.{bytes_eq-Decides}
use Rattle.asks.specs.declared.kept.KeptReply.{KeptReply}
use Rattle.desk_state.specs.Requests.{is_request, kept_at}
use Rattle.desk_io.proofs.Each.{each_weaker}

pub if_found : {A : Type 0} (P : A → Type 0) (o : Option A) → ((x : A) → o ≡ Some x → P x) → IfSome o P
if_found P None each = tt
if_found P (Some x) each = each x refl

pub clash : {A : Type 0} (o : Option A) (x : A) → o ≡ None → o ≡ Some x → ⊥
clash o x none some = absurd (cc)

passes_by : {A : Type 0} (p : A → Bool) (x y : A) (b : Bool) (o : Option A) → p y ≡ b → (o ≡ Some x → p x ≡ true) → cond b (Some y) o ≡ Some x → p x ≡ true
passes_by p x y true o here later e = cc
passes_by p x y false o here later e = later e

pub found_passes : {A : Type 0} (p : A → Bool) (xs : List A) (x : A) → find p xs ≡ Some x → p x ≡ true
found_passes p [] x e = absurd (cc)
found_passes p (y ∷ ys) x e = passes_by p x y (p y) (find p ys) refl (λ later. found_passes p ys x later) e

filter_by : {A : Type 0} (p q : A → Bool) (x y : A) (rest : List A) (o : Option A) (b c : Bool) → p y ≡ b → q y ≡ c → (o ≡ Some x → find p rest ≡ Some x)
    → cond b (Some y) o ≡ Some x → q x ≡ true → find p (cond c (y ∷ rest) rest) ≡ Some x
filter_by p q x y rest o true true one two later e passes = rw one e
filter_by p q x y rest o true false one two later e passes = absurd (cc)
filter_by p q x y rest o false true one two later e passes = rw one (later e)
filter_by p q x y rest o false false one two later e passes = later e

-- what is found is found in a part that it belongs to
pub found_filter : {A : Type 0} (p q : A → Bool) (xs : List A) (x : A) → find p xs ≡ Some x → q x ≡ true → find p (filter q xs) ≡ Some x
found_filter p q [] x e passes = absurd (cc)
found_filter p q (y ∷ ys) x e passes = filter_by p q x y (filter q ys) (find p ys) (p y) (q y) refl refl (λ later. found_filter p q ys x later passes) e passes

pub none_all : {A : Type 0} (p : A → Bool) (xs : List A) → AllByRecursion (λ x. p x ≡ false) xs → find p xs ≡ None
none_all p [] all = refl
none_all p (x ∷ xs) all = let here = all.0 in rw here (none_all p xs all.1)

pub all_none : {A : Type 0} (p : A → Bool) (xs : List A) → AllByRecursion (λ x. p x ≡ false) xs → list_any p xs ≡ false
all_none p [] all = refl
all_none p (x ∷ xs) all = let here = all.0 in rw here (all_none p xs all.1)

found_any_by : {A : Type 0} (p : A → Bool) (x y : A) (rest : List A) (b : Bool) → p y ≡ b → (find p rest ≡ Some x → list_any p rest ≡ true) → cond b (Some y) (find p rest) ≡ Some x
    → list_any p (y ∷ rest) ≡ true
found_any_by p x y rest true here later e = rw here refl
found_any_by p x y rest false here later e = rw here (later e)

pub found_any : {A : Type 0} (p : A → Bool) (xs : List A) (x : A) → find p xs ≡ Some x → list_any p xs ≡ true
found_any p [] x e = absurd (cc)
found_any p (y ∷ ys) x e = found_any_by p x y ys (p y) refl (λ later. found_any p ys x later) e

or_more : (a b c : Bool) → (b ≡ true → c ≡ true) → (a || b) ≡ true → (a || c) ≡ true
or_more true b c more e = refl
or_more false b c more e = more e

any_by : {A : Type 0} (p : A → Bool) (x : A) (xs rest : List A) (b : Bool) → (list_any p rest ≡ true → list_any p xs ≡ true) → list_any p (cond b (x ∷ rest) rest) ≡ true
    → list_any p (x ∷ xs) ≡ true
any_by p x xs rest true more e = or_more (p x) (list_any p rest) (list_any p xs) more e
any_by p x xs rest false more e = or_right (p x) (list_any p xs) (more e)

pub any_filter : {A : Type 0} (p q : A → Bool) (xs : List A) → list_any p (filter q xs) ≡ true → list_any p xs ≡ true
any_filter p q [] e = e
any_filter p q (x ∷ xs) e = any_by p x xs (filter q xs) (q x) (λ later. any_filter p q xs later) e

pub pairs_later : {A : Type 0} (R : A → A → Type 0) (x : A) (xs : List A) → AllPairs R (x ∷ xs) → AllPairs R xs
pairs_later R x xs all i j d before within = all (suc i) (suc j) d (omega (arith, before)) (omega (arith, within))

pub pairs_first : {A : Type 0} (R : A → A → Type 0) (x : A) (xs : List A) → AllPairs R (x ∷ xs) → AllByRecursion (R x) xs
pairs_first R x xs all = recursion_from_All (R x) xs (λ k d within. all 0 (suc k) d (omega arith) (omega (arith, within)))

-- ---- requests

pub asked_by : (actor : List ℕ) (number : ℕ) (k : KeptReply) → is_request actor number k ≡ true → (k.actor ≡ actor) × (k.number ≡ number)
asked_by actor number k is =
    let both = and_parts (k.number == number) (bytes_eq k.actor actor) is in
    ((bytes_eq-Decides k.actor actor).0 both.1, eqb-true k.number number both.0)

-- a request is that of a reply which it finds
own_request : (actor : List ℕ) (number : ℕ) (k x : KeptReply) → is_request actor number k ≡ true → is_request k.actor k.number x ≡ is_request actor number x
own_request actor number k x is =
    let both = asked_by actor number k is in ap (λ (name : List ℕ). is_request name k.number x) both.0 ∙ ap (λ (n : ℕ). is_request actor n x) both.1

unlike_by : (actor : List ℕ) (number : ℕ) (k x : KeptReply) (b : Bool) → is_request actor number k ≡ b → is_request k.actor k.number x ≡ false → is_request actor number x ≡ true → b ≡ false
unlike_by actor number k x true is unlike asked = absurd (clash_of (sym unlike ∙ own_request actor number k x is ∙ asked))
  where
    clash_of : false ≡ true → ⊥
    clash_of e = absurd (cc)
unlike_by actor number k x false is unlike asked = refl

-- of two replies with different requests, one at most is to a request
pub other_unlike : (actor : List ℕ) (number : ℕ) (k x : KeptReply) → is_request k.actor k.number x ≡ false → is_request actor number x ≡ true → is_request actor number k ≡ false
other_unlike actor number k x unlike asked = unlike_by actor number k x (is_request actor number k) refl unlike asked

pub first_unlike : (actor : List ℕ) (number : ℕ) (x : KeptReply) (ks : List KeptReply) (b : Bool) → is_request actor number x ≡ b → list_any (is_request actor number) ks ≡ true
    → AllByRecursion (λ k. is_request k.actor k.number x ≡ false) ks → b ≡ false
first_unlike actor number x ks false is some unlike = refl
first_unlike actor number x ks true is some unlike = absurd (both (all_none (is_request actor number) ks
    (each_weaker (λ k. is_request k.actor k.number x ≡ false) (λ k. is_request actor number k ≡ false) (λ k here. other_unlike actor number k x here is) ks unlike)))
  where
    both : list_any (is_request actor number) ks ≡ false → ⊥
    both none = absurd (cc)

pub alike_bytes : (a b : List ℕ) → a ≡ b → bytes_eq a b ≡ true
alike_bytes a b e = (bytes_eq-Decides a b).1 e

or_first : {A : Type 0} (x : A) (o p : Option A) → o ≡ Some x → option_or o p ≡ Some x
or_first x None p e = absurd (cc)
or_first x (Some y) p e = e

-- what is found is found where more is added
pub found_more : {A : Type 0} (p : A → Bool) (xs more : List A) (x : A) → find p xs ≡ Some x → find p (xs ++ more) ≡ Some x
found_more p xs more x is = find-append p xs more ∙ or_first x (find p xs) (find p more) is

pub still_found : (actor : List ℕ) (number : ℕ) (ks more : List KeptReply) (k : KeptReply) → kept_at actor number ks ≡ Some k → kept_at actor number (ks ++ more) ≡ Some k
still_found actor number ks more k is = found_more (is_request actor number) ks more k is

pub new_found : (actor : List ℕ) (number : ℕ) (ks : List KeptReply) (k : KeptReply) → kept_at actor number ks ≡ None → k.actor ≡ actor → k.number ≡ number → kept_at actor number (ks ++ k ∷ []) ≡ Some k
new_found actor number ks k none its_actor its_number =
    find-append (is_request actor number) ks (k ∷ [])
    ∙ ap (λ o. option_or o (kept_at actor number (k ∷ []))) none
    ∙ rw (eq-eqb k.number number its_number, alike_bytes k.actor actor its_actor) refl
