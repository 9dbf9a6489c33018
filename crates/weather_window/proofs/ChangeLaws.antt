-- Laws on the points of change.
use Rattle.std.proofs.Common.{◌≡◌, ◌⊎◌, inl, inr, ℕ, suc, ◌+◌, ◌*◌, ◌≤◌, ◌<◌, Bool, true, false, cond, nat_le, List, [], ◌∷◌, ◌++◌, length, Option, None, Some, refl, ap, sym, subst, ◌∙◌, arith, filter}
use Rattle.std.specs.List.{AllByRecursion}
use Rattle.std.proofs.lemmas.Bool.Decides.{nat_tests}
use Rattle.std.proofs.lemmas.List.Sums.{length-filter, count_by-le-length}
use Rattle.codes.specs.Cond.{lesser}
use Rattle.weather_reports.specs.declared.forecast.Part.{Part}
use Rattle.weather_reports.specs.declared.forecast.Taf.{Taf}
use Rattle.weather_reports.specs.declared.metar.Metar.{Metar}
use Rattle.codes.proofs.CondLaws.{lesser_assoc, lesser_comm}
use Rattle.weather_window.specs.Window.{least_of}
use Rattle.weather_window.specs.Changes.{part_changes, forecast_changes, report_changes, changes, is_between, changes_between, next_change, part_count}
use Rattle.weather_window.specs.Running.{sooner, soonest}

soonest_append : (after to : ℕ) (found : Option ℕ) (xs ys : List ℕ)
    → soonest after to found (xs ++ ys) ≡ soonest after to (soonest after to found xs) ys
soonest_append after to found [] ys = refl
soonest_append after to found (x ∷ xs) ys = soonest_append after to (sooner after to found x) xs ys

soonest_step : (after to : ℕ) (found : Option ℕ) (x : ℕ) (xs : List ℕ) (b : Bool)
    → lesser (cond b (lesser found (Some x)) found) (least_of (filter (is_between after to) xs))
    ≡ lesser found (least_of (cond b (x ∷ filter (is_between after to) xs) (filter (is_between after to) xs)))
soonest_step after to found x xs true = sym (lesser_assoc found (Some x) (least_of (filter (is_between after to) xs)))
soonest_step after to found x xs false = refl

-- one pass finds the least
soonest_least : (after to : ℕ) (found : Option ℕ) (xs : List ℕ) → soonest after to found xs ≡ lesser found (least_of (filter (is_between after to) xs))
soonest_least after to found [] = lesser_comm None found
soonest_least after to found (x ∷ xs) = soonest_least after to (sooner after to found x) xs ∙ soonest_step after to found x xs (is_between after to x)

-- one pass over the points of change finds the next
pub next_change_law : (taf : Option Taf) (metar : Option Metar) (hold after to : ℕ)
    → soonest after to (soonest after to None (report_changes hold metar)) (forecast_changes taf) ≡ next_change taf metar hold after to
unfolding next_change
next_change_law taf metar hold after to =
    sym (soonest_append after to None (report_changes hold metar) (forecast_changes taf)) ∙ soonest_least after to None (changes taf metar hold)

kept_count : (p : ℕ → Bool) (xs : List ℕ) → length (filter p xs) ≤ length xs
kept_count p xs = rw (length-filter p xs) (count_by-le-length p xs)

part_change_count : (parts : List Part) → length (part_changes parts) ≡ 3 * length parts
part_change_count [] = refl
part_change_count (p ∷ ps) = let rest = part_change_count ps in omega arith

all_count : (taf : Taf) (metar : Option Metar) (hold : ℕ) → length (changes (Some taf) metar hold) ≤ 3 * length taf.parts + 4
all_count taf None hold = let parts = part_change_count taf.parts in omega arith
all_count taf (Some metar) hold = let parts = part_change_count taf.parts in omega arith

-- there are at most three for each part, and four more
pub change_count : (taf : Option Taf) (metar : Option Metar) (hold after to : ℕ) → length (changes_between taf metar hold after to) ≤ 3 * part_count taf + 4
change_count None None hold after to = omega arith
change_count None (Some metar) hold after to =
    let kept = kept_count (is_between after to) (report_changes hold (Some metar)) in
    omega arith
change_count (Some taf) metar hold after to =
    let kept = kept_count (is_between after to) (changes (Some taf) metar hold) in
    let some = all_count taf metar hold in
    omega arith

-- each point has come at both moments, or at neither
abbrev pub Alike : ℕ → ℕ → List ℕ → Type 0
Alike m k points = AllByRecursion (λ x. nat_le x m ≡ nat_le x k) points

-- the moment is before the next point, if one comes
abbrev pub IsBefore : ℕ → Option ℕ → Type 0
IsBefore k None = Unit {0}
IsBefore k (Some next) = k < next

before_both : (k x : ℕ) (next : Option ℕ) → IsBefore k (lesser (Some x) next) → (k < x) × IsBefore k next
before_both k x None before = (before, tt)
before_both k x (Some y) before = (omega arith, omega arith)

alike_out : (after to k x : ℕ) → after ≤ k → k ≤ to → is_between after to x ≡ false → nat_le x after ≡ nat_le x k
alike_out after to k x begun ended out = grind (arith, nat_tests)

alike_step : (after to k x : ℕ) (xs : List ℕ) (b : Bool) → is_between after to x ≡ b → after ≤ k → k ≤ to
    → (IsBefore k (least_of (filter (is_between after to) xs)) → Alike after k xs)
    → IsBefore k (least_of (cond b (x ∷ filter (is_between after to) xs) (filter (is_between after to) xs))) → Alike after k (x ∷ xs)
alike_step after to k x xs true is begun ended later before =
    let both = before_both k x (least_of (filter (is_between after to) xs)) before in
    let soon : k < x = both.0 in
    (grind (arith, nat_tests), later both.1)
alike_step after to k x xs false is begun ended later before = (alike_out after to k x begun ended is, later before)

-- up to the next point all points are as they were
alike_before : (after to k : ℕ) (xs : List ℕ) → after ≤ k → k ≤ to → IsBefore k (least_of (filter (is_between after to) xs)) → Alike after k xs
alike_before after to k [] begun ended before = tt
alike_before after to k (x ∷ xs) begun ended before =
    alike_step after to k x xs (is_between after to x) refl begun ended (λ later. alike_before after to k xs begun ended later) before

pub until_change : (taf : Option Taf) (metar : Option Metar) (hold after to k : ℕ) (next : Option ℕ) → next ≡ next_change taf metar hold after to
    → after ≤ k → k ≤ to → IsBefore k next → Alike after k (changes taf metar hold)
unfolding next_change
until_change taf metar hold after to k next is begun ended before =
    alike_before after to k (changes taf metar hold) begun ended (subst (IsBefore k) is before)

-- from a later moment on no more points are left
fewer_step : (m n to x : ℕ) (xs : List ℕ) → m ≤ n → length (filter (is_between n to) xs) ≤ length (filter (is_between m to) xs)
    → length (filter (is_between n to) (x ∷ xs)) ≤ length (filter (is_between m to) (x ∷ xs))
fewer_step m n to x xs order fewer = grind (arith, nat_tests)

fewer : (m n to : ℕ) (xs : List ℕ) → m ≤ n → length (filter (is_between n to) xs) ≤ length (filter (is_between m to) xs)
fewer m n to [] order = omega arith
fewer m n to (x ∷ xs) order = fewer_step m n to x xs order (fewer m n to xs order)

-- the next point is later, within the stretch, and once it is visited fewer are left
pub record Visits (m n to : ℕ) (xs : List ℕ) : Type 0 where
  pub later : m < n
  pub within : n ≤ to
  pub fewer : length (filter (is_between n to) xs) < length (filter (is_between m to) xs)

first_between : (m to x : ℕ) → is_between m to x ≡ true → (m < x) × (x ≤ to)
first_between m to x is = (grind (arith, nat_tests), grind (arith, nat_tests))

at_most_one_more : (x : ℕ) (xs : List ℕ) (b : Bool) → length (cond b (x ∷ xs) xs) ≤ suc (length xs)
at_most_one_more x xs true = omega arith
at_most_one_more x xs false = omega arith

not_after_itself : (n to : ℕ) → is_between n to n ≡ false
not_after_itself n to = grind (arith, nat_tests)

visits_first : (m x to : ℕ) (xs : List ℕ) → is_between m to x ≡ true → Visits m x to (x ∷ xs)
visits_first m x to xs is =
    let between = first_between m to x is in
    let after : m < x = between.0 in
    let rest = fewer m x to xs (omega arith) in
    let none = not_after_itself x to in
    record { later = after; within = between.1; fewer = rw (is, none) (omega arith) }

visits_more : (m n x to : ℕ) (xs : List ℕ) → is_between m to x ≡ true → Visits m n to xs → Visits m n to (x ∷ xs)
visits_more m n x to xs is visits =
    let rest = visits.fewer in
    let one = at_most_one_more x (filter (is_between n to) xs) (is_between n to x) in
    record { later = visits.later; within = visits.within; fewer = rw is (omega arith) }

visits_other : (m n x to : ℕ) (xs : List ℕ) → is_between m to x ≡ false → Visits m n to xs → Visits m n to (x ∷ xs)
visits_other m n x to xs is visits =
    let after : m < n = visits.later in
    let rest = visits.fewer in
    let none : is_between n to x ≡ false = grind (arith, nat_tests) in
    record { later = after; within = visits.within; fewer = rw (is, none) rest }

lesser_is : (x y n : ℕ) → lesser (Some x) (Some y) ≡ Some n → (x ≡ n) ⊎ (y ≡ n)
lesser_is x y n e = grind arith

visits_either : (m n to x y : ℕ) (xs : List ℕ) → is_between m to x ≡ true → (Some y ≡ Some n → Visits m n to xs) → (x ≡ n) ⊎ (y ≡ n) → Visits m n to (x ∷ xs)
visits_either m n to x y xs is later (inl same) = rw (sym same) (visits_first m x to xs is)
visits_either m n to x y xs is later (inr same) = visits_more m n x to xs is (later (ap Some same))

visits_least : (m n to x : ℕ) (xs : List ℕ) (least : Option ℕ) → is_between m to x ≡ true
    → (least ≡ Some n → Visits m n to xs) → lesser (Some x) least ≡ Some n → Visits m n to (x ∷ xs)
visits_least m n to x xs None is later e =
    let same : x ≡ n = cc in
    rw (sym same) (visits_first m x to xs is)
visits_least m n to x xs (Some y) is later e = visits_either m n to x y xs is later (lesser_is x y n e)

visits_step : (m n to x : ℕ) (xs : List ℕ) (b : Bool) → is_between m to x ≡ b
    → (least_of (filter (is_between m to) xs) ≡ Some n → Visits m n to xs)
    → least_of (cond b (x ∷ filter (is_between m to) xs) (filter (is_between m to) xs)) ≡ Some n → Visits m n to (x ∷ xs)
visits_step m n to x xs true is later e = visits_least m n to x xs (least_of (filter (is_between m to) xs)) is later e
visits_step m n to x xs false is later e = visits_other m n x to xs is (later e)

visits : (m n to : ℕ) (xs : List ℕ) → least_of (filter (is_between m to) xs) ≡ Some n → Visits m n to xs
visits m n to [] e = cc
visits m n to (x ∷ xs) e = visits_step m n to x xs (is_between m to x) refl (visits m n to xs) e

pub change_visits : (taf : Option Taf) (metar : Option Metar) (hold m n to : ℕ) → Some n ≡ next_change taf metar hold m to
    → Visits m n to (changes taf metar hold)
unfolding next_change
change_visits taf metar hold m n to e = visits m n to (changes taf metar hold) (sym e)
