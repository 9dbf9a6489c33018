-- Laws of the list of filed plans.
use Rattle.std.proofs.Common.{◌≡◌, refl, sym, ap, ◌∙◌, ℕ, ◌<◌, ◌==◌, Bool, true, false, cond, nat_lt, subst, List, [], ◌∷◌, ◌++◌, Some, arith, IfSome, append-nil, append_assoc}
use Rattle.std.proofs.lemmas.Bool.Decides.{nat_tests}
use Rattle.std.specs.List.{AllByRecursion}
use Rattle.desk_io.specs.ById.{AreRising}
use Rattle.desk_io.proofs.ByIdLaws.{Above, Rise, lower, not_below, rise}
use Rattle.redispatch.specs.declared.planned.Filed.{Filed}
use Rattle.redispatch.specs.Filed.{HasFormedPlan, filed_after, filed_for, final_plan, once_filed, release_of}

-- Looking up after a plan is filed.

exchanged : {A : Type 0} (y f id : ℕ) (one two rest : A) → (y == f) ≡ false → cond (y == id) one (cond (f == id) two rest) ≡ cond (f == id) two (cond (y == id) one rest)
exchanged y f id one two rest other = by (y == id) refl (f == id) refl
  where
    by : (p : Bool) → (y == id) ≡ p → (q : Bool) → (f == id) ≡ q → cond p one (cond q two rest) ≡ cond q two (cond p one rest)
    by true is true are = absurd (grind (arith, nat_tests, other, is, are))
    by true is false are = refl
    by false is true are = refl
    by false is false are = refl

covered : {A : Type 0} (y f id : ℕ) (one two rest : A) → (y == f) ≡ true → cond (f == id) two rest ≡ cond (f == id) two (cond (y == id) one rest)
covered y f id one two rest same = by (y == id) refl (f == id) refl
  where
    by : (p : Bool) → (y == id) ≡ p → (q : Bool) → (f == id) ≡ q → cond q two rest ≡ cond q two (cond p one rest)
    by p is true are = refl
    by true is false are = absurd (grind (arith, nat_tests, same, is, are))
    by false is false are = refl

pub found_once_filed : (f : Filed) (planned : List Filed) (id : ℕ) → filed_for id (once_filed f planned) ≡ cond (f.release == id) (Some f) (filed_for id planned)
found_once_filed f [] id = refl
found_once_filed f (y ∷ ys) id = by (y.release == f.release) refl (nat_lt f.release y.release) (found_once_filed f ys id)
  where
    by : (same : Bool) → (y.release == f.release) ≡ same → (under : Bool) → filed_for id (once_filed f ys) ≡ cond (f.release == id) (Some f) (filed_for id ys)
        → filed_for id (cond same (f ∷ ys) (cond under (f ∷ y ∷ ys) (y ∷ once_filed f ys))) ≡ cond (f.release == id) (Some f) (filed_for id (y ∷ ys))
    by true is under rest = covered y.release f.release id (Some y) (Some f) (filed_for id ys) is
    by false is true rest = refl
    by false is false rest = ap (λ found. cond (y.release == id) (Some y) found) rest ∙ exchanged y.release f.release id (Some y) (Some f) (filed_for id ys) is

-- What holds of each filed plan.

module _ (P : Filed → Type 0) where
  each_once_filed : (f : Filed) (planned : List Filed) → P f → AllByRecursion P planned → AllByRecursion P (once_filed f planned)
  each_once_filed f [] one all = (one, tt)
  each_once_filed f (y ∷ ys) one all = by (y.release == f.release) (nat_lt f.release y.release) (each_once_filed f ys one all.1)
    where
      by : (same under : Bool) → AllByRecursion P (once_filed f ys) → AllByRecursion P (cond same (f ∷ ys) (cond under (f ∷ y ∷ ys) (y ∷ once_filed f ys)))
      by true under rest = (one, all.1)
      by false true rest = (one, (all.0, all.1))
      by false false rest = (all.0, rest)

  pub found_each : (id : ℕ) (planned : List Filed) → AllByRecursion P planned → IfSome (filed_for id planned) P
  found_each id [] all = tt
  found_each id (y ∷ ys) all = by (y.release == id) (found_each id ys all.1)
    where
      by : (same : Bool) → IfSome (filed_for id ys) P → IfSome (cond same (Some y) (filed_for id ys)) P
      by true rest = all.0
      by false rest = rest

  -- of a list that is kept until the plan is put into it
  pub put_each : (f : Filed) (old kept new : List Filed) → AllByRecursion P old → P f → kept ≡ old → new ≡ once_filed f kept → AllByRecursion P new
  put_each f old kept new all one same is = subst (AllByRecursion P) (sym (is ∙ ap (once_filed f) same)) (each_once_filed f old one all)

  -- of the plan that is found for a release
  pub found_one : (id : ℕ) (planned : List Filed) (f : Filed) → AllByRecursion P planned → Some f ≡ filed_for id planned → P f
  found_one id planned f all is = subst (λ o. IfSome o P) (sym is) (found_each id planned all)

  -- of plans that are filed one after another
  pub each_after : (planned fs : List Filed) → AllByRecursion P planned → AllByRecursion P fs → AllByRecursion P (filed_after planned fs)
  each_after planned [] all more = all
  each_after planned (f ∷ fs) all more = each_after (once_filed f planned) fs (each_once_filed f planned more.0 all) more.1

-- a plan that is filed among well-formed ones
pub formed_once_filed : (f : Filed) (old new : List Filed) → new ≡ once_filed f old → HasFormedPlan f → AllByRecursion HasFormedPlan old → AllByRecursion HasFormedPlan new
formed_once_filed f old new is one all = put_each HasFormedPlan f old old new all one refl is

-- The plan that is found for a release.

found_of : (id : ℕ) (planned : List Filed) → IfSome (filed_for id planned) (λ f. f.release ≡ id)
found_of id [] = tt
found_of id (y ∷ ys) = by (y.release == id) refl (found_of id ys)
  where
    by : (same : Bool) → (y.release == id) ≡ same → IfSome (filed_for id ys) (λ f. f.release ≡ id) → IfSome (cond same (Some y) (filed_for id ys)) (λ f. f.release ≡ id)
    by true is rest = grind (arith, nat_tests, is)
    by false is rest = rest

pub found_is : (id : ℕ) (planned seen : List Filed) (f : Filed) → planned ≡ seen → Some f ≡ filed_for id planned → filed_for id seen ≡ Some (final_plan id f.leg f.plan)
found_is id planned seen f same is =
    let of : f.release ≡ id = subst (λ o. IfSome o (λ y. y.release ≡ id)) (sym is) (found_of id planned) in
    ap (filed_for id) (sym same) ∙ sym is ∙ ap (λ release. Some (final_plan release f.leg f.plan)) of

-- Plans filed again in the order of their releases.

-- a plan whose release is above all others goes to the end
at_end : (f : Filed) (planned : List Filed) → AllByRecursion (λ y. y.release < f.release) planned → once_filed f planned ≡ planned ++ f ∷ []
at_end f [] all = refl
at_end f (y ∷ ys) all =
    rw (lower y.release f.release all.0, not_below f.release y.release all.0) (ap (λ rest. y ∷ rest) (at_end f ys all.1))

above_later : (n : ℕ) (front : List Filed) (f : Filed) (back : List Filed) → Above release_of n (front ++ f ∷ back) → n < f.release
above_later n [] f back all = all.0
above_later n (y ∷ front) f back all = above_later n front f back all.1

below_later : (front : List Filed) (f : Filed) (back : List Filed) → Rise release_of (front ++ f ∷ back) → AllByRecursion (λ y. y.release < f.release) front
below_later [] f back all = tt
below_later (y ∷ front) f back all = (above_later y.release front f back all.0, below_later front f back all.1)

onto : (front back : List Filed) → Rise release_of (front ++ back) → filed_after front back ≡ front ++ back
onto front [] all = sym (append-nil front)
onto front (f ∷ back) all =
    ap (λ planned. filed_after planned back) (at_end f front (below_later front f back all))
    ∙ onto (front ++ f ∷ []) back (subst (Rise release_of) (sym (append_assoc front (f ∷ []) back)) all)
    ∙ append_assoc front (f ∷ []) back

pub filed_again : (planned : List Filed) → AreRising release_of planned → filed_after [] planned ≡ planned
filed_again planned rising = onto [] planned (rise release_of planned rising)
