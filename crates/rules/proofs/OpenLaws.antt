-- The open deferrals of an aircraft.
use Rattle.std.proofs.Common.{◌≡◌, ◌≤◌, ℕ, Bool, true, false, cond, List, [], ◌∷◌, ◌++◌, length, append-nil, Bor, refl, not, sym, ap, ◌∙◌, arith}
use Rattle.std.specs.Prelude.{map}
use Rattle.std.proofs.lemmas.List.{length-map}
use Rattle.std.proofs.lemmas.List.Elements.{filter-append}
use Rattle.deferrals.specs.declared.items.Deferral.{Deferral}
use Rattle.deferrals.specs.Held.{has_id, without}
use Rattle.deferrals.specs.Limits.{open_on, is_of}

-- what is held and nothing more
pub and_none : {A : Type 0} (xs : List A) → xs ++ [] ≡ xs
and_none xs = append-nil xs

pub opened_append : (tail : List ℕ) (xs ys : List Deferral) → open_on tail (xs ++ ys) ≡ open_on tail xs ++ open_on tail ys
opened_append tail xs ys = filter-append (λ d. is_of tail d) xs ys

length_by : (b : Bool) (d : Deferral) (kept all : List Deferral) → length kept ≤ length all → length (cond b (d ∷ kept) kept) ≤ length (d ∷ all)
length_by true d kept all fewer = omega (arith, fewer)
length_by false d kept all fewer = omega (arith, fewer)

opened_fewer : (tail : List ℕ) (xs : List Deferral) → length (open_on tail xs) ≤ length xs
opened_fewer tail [] = omega arith
opened_fewer tail (d ∷ xs) = length_by (is_of tail d) d (open_on tail xs) xs (opened_fewer tail xs)

-- those of the aircraft are no more than all
pub opened_count : (tail : List ℕ) (some : List (Bor Deferral)) (all : List Deferral) → map (λ d. d.now) some ≡ open_on tail all → length some ≤ length all
opened_count tail some all is =
    let fewer = opened_fewer tail all in
    let same : length some ≡ length (open_on tail all) = sym (length-map some (λ (d : Bor Deferral). d.now)) ∙ ap length is in
    omega (arith, fewer, same)

-- the one that goes may be left out before or after
pub opened_without : (tail : List ℕ) (id : ℕ) (xs : List Deferral) → without id (open_on tail xs) ≡ open_on tail (without id xs)
opened_without tail id [] = refl
opened_without tail id (d ∷ xs) = by (is_of tail d) (has_id id d) refl refl (opened_without tail id xs)
  where
    by : (of has : Bool) → is_of tail d ≡ of → has_id id d ≡ has → without id (open_on tail xs) ≡ open_on tail (without id xs)
        → without id (cond of (d ∷ open_on tail xs) (open_on tail xs)) ≡ open_on tail (cond (not has) (d ∷ without id xs) (without id xs))
    by true true is goes rest = rw goes rest
    by true false is goes rest = rw (goes, is) (ap (λ ys. d ∷ ys) rest)
    by false true is goes rest = rest
    by false false is goes rest = rw is rest
