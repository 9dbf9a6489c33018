-- Look-ups in the group of a key find what a search of all rows finds.
use Rattle.std.proofs.Common.{◌≡◌, refl, List, [], ◌∷◌, Bool, true, false, Option, Some, None, All, find, filter, is_some, IfSome, Bor, option_copied}
use Rattle.std.specs.List.{list_any}
use Rattle.std.proofs.lemmas.List.Elements.{All-head, All-tail}

-- a filter that keeps all that a test passes keeps the first of them
pub find-filter : {X : Type 0} (test kept : X → Bool) → ((x : X) → test x ≡ true → kept x ≡ true) → (xs : List X) → find test (filter kept xs) ≡ find test xs
find-filter test kept h [] = refl
find-filter {X} test kept h (x ∷ xs) = by (test x) (kept x) refl refl (find-filter test kept h xs)
  where
    by : (t k : Bool) → test x ≡ t → kept x ≡ k → find test (filter kept xs) ≡ find test xs → find test (filter kept (x ∷ xs)) ≡ find test (x ∷ xs)
    by true k is_t is_k rest = rw (h x is_t, is_t) refl
    by false true is_t is_k rest = rw (is_k, is_t) rest
    by false false is_t is_k rest = rw (is_k, is_t) rest

-- what holds of all rows holds of the one that is found
pub of_found : {X : Type 0} (P : X → Type 0) (test : X → Bool) (xs : List X) → All P xs → IfSome (find test xs) P
of_found P test [] all = tt
of_found P test (x ∷ xs) all = by (test x) refl (All-head P x xs all) (of_found P test xs (All-tail P x xs all))
  where
    by : (b : Bool) → test x ≡ b → P x → IfSome (find test xs) P → IfSome (find test (x ∷ xs)) P
    by true e first rest = rw e first
    by false e first rest = rw e rest

pub some_copied : {X : Type 0} (o : Option (Bor X)) → is_some (option_copied o) ≡ is_some o
some_copied None = refl
some_copied (Some x) = refl

-- what holds of a copy holds of what is lent
pub some_lent : {X : Type 0} (P : X → Type 0) (o : Option (Bor X)) → IfSome (option_copied o) P → IfSome o (λ x. P x.now)
some_lent P None holds = tt
some_lent P (Some x) holds = holds

-- one is found where one passes
pub found_any : {X : Type 0} (test : X → Bool) (xs : List X) → is_some (find test xs) ≡ list_any test xs
found_any test [] = refl
found_any test (x ∷ xs) = by (test x) refl (found_any test xs)
  where
    by : (b : Bool) → test x ≡ b → is_some (find test xs) ≡ list_any test xs → is_some (find test (x ∷ xs)) ≡ list_any test (x ∷ xs)
    by true is rest = rw is refl
    by false is rest = rw is rest
