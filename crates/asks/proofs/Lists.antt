-- Lists whose items are read one after another.
use Rattle.std.proofs.Common.{◌≡◌, ℕ, suc, ◌+◌, ◌<◌, ◌≤◌, List, [], ◌∷◌, ◌++◌, length, get_or, map, drop, Option, None, Some, IfSome, refl, ap, sym, subst, append_assoc, add-one, arith, drop-cons}
use Rattle.std.proofs.lemmas.List.{map-append}
use Rattle.std.specs.List.{AllByRecursion}
use Rattle.serde_json.specs.Data.{Data, Items, no_items, item}
use Rattle.serde_json.specs.Events.{items_len}
use Rattle.desk_time.specs.Digits.{◌>>=◌}
use Rattle.asks.specs.Fields.{each_read}

-- what was read so far, and then what is read of the rest
abbrev pub onto : {A : Type 0} → List A → Option (List A) → Option (List A)
onto before rest = rest >>= λ after. Some (before ++ after)

onto_one : {A : Type 0} (before : List A) (x : A) (o : Option (List A)) → onto before (o >>= λ xs. Some (x ∷ xs)) ≡ onto (before ++ x ∷ []) o
onto_one before x None = refl
onto_one before x (Some xs) = ap Some (sym (append_assoc before (x ∷ []) xs))

-- an item that is read goes behind those before it
pub read_on : {A : Type 0} (read_one : Data → Option A) (left after : Items) (d : Data) (before : List A) (x : A)
    → left ≡ item d after → read_one d ≡ Some x → onto (before ++ x ∷ []) (each_read read_one after) ≡ onto before (each_read read_one left)
read_on read_one left after d before x is found = rw (is, found) (sym (onto_one before x (each_read read_one after)))

one_more : {A : Type 0} (o : Option A) (rest : Option (List A)) (n : ℕ) → IfSome rest (λ xs. length xs ≡ n) → IfSome (o >>= λ x. rest >>= λ xs. Some (x ∷ xs)) (λ xs. length xs ≡ suc n)
one_more None rest n is = tt
one_more (Some x) None n is = tt
one_more (Some x) (Some xs) n is = ap suc is

pub as_many : {A : Type 0} (read_one : Data → Option A) (ds : Items) → IfSome (each_read read_one ds) (λ xs. length xs ≡ items_len ds)
as_many read_one no_items = refl
as_many read_one (item d ds) = one_more (read_one d) (each_read read_one ds) (items_len ds) (as_many read_one ds)

at_most : {A : Type 0} (o : Option (List A)) (n limit : ℕ) → IfSome o (λ xs. length xs ≡ n) → n ≤ limit → IfSome o (λ xs. length xs ≤ limit)
at_most None n limit is few = tt
at_most (Some xs) n limit is few = omega arith

-- no more is read than there are items
pub few_read : {A : Type 0} (read_one : Data → Option A) (ds : Items) (limit : ℕ) → items_len ds ≤ limit → IfSome (each_read read_one ds) (λ xs. length xs ≤ limit)
few_read read_one ds limit few = at_most (each_read read_one ds) (items_len ds) limit (as_many read_one ds) few

first_is : {A : Type 0} (xs : List A) (i : ℕ) (x : A) → i < length xs → get_or xs i x ≡ x → drop i xs ≡ x ∷ drop (i + 1) xs
first_is xs i x within is = rw (add-one, drop-cons xs i x, is) refl

-- what holds of what is left holds of the first of it and of the others
pub all_left : {A : Type 0} (P : A → Type 0) (xs : List A) (i : ℕ) (x : A) → i < length xs → get_or xs i x ≡ x → AllByRecursion P (drop i xs) → P x × AllByRecursion P (drop (i + 1) xs)
all_left P xs i x within is all = subst (AllByRecursion P) (first_is xs i x within is) all

-- one more is written
pub written_on : {A B D : Type 0} (seen : B → D) (written : A → D) (values : List B) (v : B) (xs : List A) (i : ℕ) (x : A)
    → i < length xs → get_or xs i x ≡ x → seen v ≡ written x → map seen values ++ map written (drop i xs) ≡ map written xs
    → map seen (values ++ v ∷ []) ++ map written (drop (i + 1) xs) ≡ map written xs
written_on seen written values v xs i x within is same before =
    rw (map-append seen values (v ∷ []), same, append_assoc (map seen values) (written x ∷ []) _) (rw (first_is xs i x within is) at before)
