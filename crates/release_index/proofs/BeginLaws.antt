-- The minutes at which a rule of time begins to fail are those that are listed.
use Rattle.std.proofs.Common.{inl, inr, ◌≡◌, refl, sym, ap, ◌∙◌, subst, ℕ, zero, suc, ◌+◌, ◌-◌, ◌<◌, ◌≤◌, ◌==◌, arith, Bool, true, false, ◌||◌, cond, nat_lt, List, [], ◌∷◌, Option, None, Some, IfSome, min, eqb-true}
use Rattle.std.specs.List.{AllByRecursion}
use Rattle.std.proofs.lemmas.Bool.{cases_lt, ltb-true, ltb-false}
use Rattle.codes.specs.Cond.{lesser}
use Rattle.desk_io.proofs.Each.{each_push}
use Rattle.ops_tables.specs.declared.rows.Settings.{Settings}
use Rattle.plan.specs.declared.findings.Rule.{Rule}
use Rattle.plan.specs.declared.flights.Leg.{Leg}
use Rattle.plan.specs.declared.flights.Plan.{Plan}
use Rattle.plan.specs.declared.release.Phase.{Phase}
use Rattle.rules.specs.Due.{rules_of_time, next_due, due_minutes, first_after, with_past, with_leg, with_legs, Begins, IsNextDue}
use Rattle.rules.specs.Time.{limit_of}
use Rattle.rules.proofs.DueMinutes.{are_due}
use Rattle.rules.proofs.NextDue.{next_due_is}
use Rattle.release_index.proofs.DueLaws.{has_minute, first_among}

listed_each : (P : ℕ → Type 0) (m : ℕ) (minutes : List ℕ) → AllByRecursion P minutes → has_minute minutes m ≡ true → P m
listed_each P m [] all is = absurd cc
listed_each P m (minute ∷ minutes) all is = by (minute == m) refl is (listed_each P m minutes all.1)
  where
    by : (b : Bool) → (minute == m) ≡ b → (b || has_minute minutes m) ≡ true → (has_minute minutes m ≡ true → P m) → P m
    by true e is rest = subst P (eqb-true minute m e) all.0
    by false e is rest = rest is

-- each comes after a limit, so that none is 0

abbrev ArePast : List ℕ → Type 0
ArePast minutes = AllByRecursion (λ m. 1 ≤ m) minutes

limit_past : (minutes : List ℕ) (limit : Option ℕ) → ArePast minutes → ArePast (with_past minutes limit)
limit_past minutes None all = all
limit_past minutes (Some limit) all = each_push (λ m. 1 ≤ m) minutes (limit + 1) all (omega arith)

leg_past : (rules : List Rule) (settings : Settings) (plan : Plan) (phase : Phase) (n : ℕ) (minutes : List ℕ) (leg : Leg) → ArePast minutes → ArePast (with_leg rules settings plan phase n minutes leg)
leg_past [] settings plan phase n minutes leg all = all
leg_past (rule ∷ rules) settings plan phase n minutes leg all =
    leg_past rules settings plan phase n (with_past minutes (limit_of rule settings plan.kind phase n leg)) leg (limit_past minutes (limit_of rule settings plan.kind phase n leg) all)

legs_past : (settings : Settings) (plan : Plan) (phase : Phase) (n : ℕ) (minutes : List ℕ) (legs : List Leg) → ArePast minutes → ArePast (with_legs settings plan phase n minutes legs)
legs_past settings plan phase n minutes [] all = all
legs_past settings plan phase n minutes (leg ∷ legs) all =
    legs_past settings plan phase (n + 1) (with_leg rules_of_time settings plan phase n minutes leg) legs (leg_past rules_of_time settings plan phase n minutes leg all)

dues_past : (plan : Plan) (phase : Phase) (settings : Settings) → ArePast (due_minutes plan phase settings)
unfolding due_minutes
dues_past plan phase settings = legs_past settings plan phase 1 [] plan.legs tt

-- one that is listed is the first after the minute before it

abbrev Least : ℕ → Option ℕ → Type 0
Least m o = IfSome o (λ due. m ≤ due)

lesser_least : (m : ℕ) (a b : Option ℕ) → Least m a → Least m b → Least m (lesser a b)
lesser_least m None b one two = two
lesser_least m (Some x) None one two = one
lesser_least m (Some x) (Some y) one two = omega (arith, one, two)

one_least : (m minute : ℕ) → 1 ≤ m → Least m (cond (nat_lt (m - 1) minute) (Some minute) None)
one_least m minute past = by (nat_lt (m - 1) minute) refl
  where
    by : (b : Bool) → nat_lt (m - 1) minute ≡ b → Least m (cond b (Some minute) None)
    by true e = let less = ltb-true (m - 1) minute e in omega (arith, less, past)
    by false e = tt

all_least : (m : ℕ) (minutes : List ℕ) → 1 ≤ m → Least m (first_after (m - 1) minutes)
all_least m [] past = tt
all_least m (minute ∷ minutes) past = lesser_least m (cond (nat_lt (m - 1) minute) (Some minute) None) (first_after (m - 1) minutes) (one_least m minute past) (all_least m minutes past)

here_least : (m : ℕ) (o : Option ℕ) → Least m o → lesser (Some m) o ≡ Some m
here_least m None least = refl
here_least m (Some y) least = ap Some (let same : min m y ≡ m = omega (arith, least) in same)

later_least : (m : ℕ) (o : Option ℕ) → Least m o → lesser o (Some m) ≡ Some m
later_least m None least = refl
later_least m (Some y) least = ap Some (let same : min y m ≡ m = omega (arith, least) in same)

its_own : (m : ℕ) → 1 ≤ m → cond (nat_lt (m - 1) m) (Some m) None ≡ Some m
its_own m past = by (nat_lt (m - 1) m) refl
  where
    by : (b : Bool) → nat_lt (m - 1) m ≡ b → cond b (Some m) None ≡ Some m
    by true e = refl
    by false e = absurd (let more = ltb-false (m - 1) m e in omega (arith, more, past))

first_is : (m : ℕ) (minutes : List ℕ) → 1 ≤ m → has_minute minutes m ≡ true → first_after (m - 1) minutes ≡ Some m
first_is m [] past is = absurd cc
first_is m (minute ∷ minutes) past is = by (minute == m) refl is (first_is m minutes past)
  where
    by : (b : Bool) → (minute == m) ≡ b → (b || has_minute minutes m) ≡ true → (has_minute minutes m ≡ true → first_after (m - 1) minutes ≡ Some m)
        → lesser (cond (nat_lt (m - 1) minute) (Some minute) None) (first_after (m - 1) minutes) ≡ Some m
    by true e is rest =
        ap (λ x. lesser (cond (nat_lt (m - 1) x) (Some x) None) (first_after (m - 1) minutes)) (eqb-true minute m e)
        ∙ ap (λ o. lesser o (first_after (m - 1) minutes)) (its_own m past) ∙ here_least m (first_after (m - 1) minutes) (all_least m minutes past)
    by false e is rest =
        ap (lesser (cond (nat_lt (m - 1) minute) (Some minute) None)) (rest is) ∙ later_least m (cond (nat_lt (m - 1) minute) (Some minute) None) (one_least m minute past)

pub begins_listed : (plan : Plan) (phase : Phase) (settings : Settings) (m : ℕ) → has_minute (due_minutes plan phase settings) m ≡ true → Begins plan phase settings m
begins_listed plan phase settings m is =
    let past = listed_each (λ n. 1 ≤ n) m (due_minutes plan phase settings) (dues_past plan phase settings) is in
    let next : next_due plan phase settings (m - 1) ≡ Some m = are_due plan phase settings (m - 1) ∙ first_is m (due_minutes plan phase settings) past is in
    (subst (IsNextDue plan phase settings (m - 1)) next (next_due_is plan phase settings (m - 1))).1

pub listed_begins : (plan : Plan) (phase : Phase) (settings : Settings) (m : ℕ) → Begins plan phase settings m → has_minute (due_minutes plan phase settings) m ≡ true
listed_begins plan phase settings zero begins = absurd (let low = begins.before in let high = begins.fails in cc)
listed_begins plan phase settings (suc k) begins = by (next_due plan phase settings k) refl (next_due_is plan phase settings k)
  where
    same : (due : ℕ) → k < due → (suc k < due → ⊥) → due ≡ suc k
    same due more none = elim (cases_lt (suc k) due) [
      | inl before ↦ absurd (none before)
      | inr after ↦ omega (arith, after, more)
    ]

    by : (o : Option ℕ) → next_due plan phase settings k ≡ o → IsNextDue plan phase settings k o → has_minute (due_minutes plan phase settings) (suc k) ≡ true
    by None e none = absurd (none (suc k + 1) (suc k) (omega arith) (omega arith) begins)
    by (Some due) e is =
        let is_next : due ≡ suc k = same due is.0 (λ before. is.2 (suc k) (omega arith) before begins) in
        ap (has_minute (due_minutes plan phase settings)) (sym is_next) ∙ (first_among k (due_minutes plan phase settings) due (sym (are_due plan phase settings k) ∙ e)).0
