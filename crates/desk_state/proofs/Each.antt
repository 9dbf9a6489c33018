-- What holds of each item of a list holds after a change.
use Rattle.std.proofs.Common.{◌≡◌, ℕ, ◌≤◌, arith, suc, Bool, true, false, cond, List, [], ◌∷◌, length, Option, Some, IfSome, refl, ap}
use Rattle.std.specs.Prelude.{find}
use Rattle.std.specs.List.{AllByRecursion}
use Rattle.plan.specs.declared.release.Release.{Release}
use Rattle.desk_state.specs.Events.{put_release, without_release}

found_by : {A : Type 0} (P : A → Type 0) (x : A) (b : Bool) (o : Option A) → P x → IfSome o P → IfSome (cond b (Some x) o) P
found_by P x true o here later = here
found_by P x false o here later = later

pub found_each : {A : Type 0} (P : A → Type 0) (test : A → Bool) (xs : List A) → AllByRecursion P xs → IfSome (find test xs) P
found_each P test [] all = tt
found_each P test (x ∷ xs) all = found_by P x (test x) (find test xs) all.0 (found_each P test xs all.1)

put_by : (P : Release → Type 0) (q r : Release) (qs more : List Release) (b : Bool) → P q → P r → AllByRecursion P qs → AllByRecursion P more
    → AllByRecursion P (cond b (r ∷ qs) (q ∷ more))
put_by P q r qs more true old here rest later = (here, rest)
put_by P q r qs more false old here rest later = (old, later)

pub put_each : (P : Release → Type 0) (r : Release) (rs : List Release) → AllByRecursion P rs → P r → AllByRecursion P (put_release r rs)
put_each P r [] all here = tt
put_each P r (q ∷ qs) all here = put_by P q r qs (put_release r qs) _ all.0 here all.1 (put_each P r qs all.1 here)

length_by : (q r : Release) (qs more : List Release) (b : Bool) → length more ≡ length qs → length (cond b (r ∷ qs) (q ∷ more)) ≡ suc (length qs)
length_by q r qs more true e = refl
length_by q r qs more false e = ap suc e

pub put_length : (r : Release) (rs : List Release) → length (put_release r rs) ≡ length rs
put_length r [] = refl
put_length r (q ∷ qs) = length_by q r qs (put_release r qs) _ (put_length r qs)

without_by : (P : Release → Type 0) (q : Release) (qs more : List Release) (b : Bool) → P q → AllByRecursion P qs → AllByRecursion P more → AllByRecursion P (cond b qs (q ∷ more))
without_by P q qs more true here all rest = all
without_by P q qs more false here all rest = (here, rest)

-- what holds of all releases holds of those that stay
pub without_each : (P : Release → Type 0) (id : ℕ) (rs : List Release) → AllByRecursion P rs → AllByRecursion P (without_release id rs)
without_each P id [] all = tt
without_each P id (q ∷ qs) all = without_by P q qs (without_release id qs) _ all.0 all.1 (without_each P id qs all.1)

shorter_by : (q : Release) (qs more : List Release) (b : Bool) → length more ≤ length qs → length (cond b qs (q ∷ more)) ≤ length (q ∷ qs)
shorter_by q qs more true few = omega arith
shorter_by q qs more false few = omega (arith, few)

pub without_shorter : (id : ℕ) (rs : List Release) → length (without_release id rs) ≤ length rs
without_shorter id [] = omega arith
without_shorter id (q ∷ qs) = shorter_by q qs (without_release id qs) _ (without_shorter id qs)
