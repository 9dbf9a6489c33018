-- What fails stays in order, each once, and among what ever failed.
use Rattle.std.proofs.Common.{◌≡◌, ℕ, ◌+◌, ◌++◌, Bool, true, false, cond, ◌||◌, List, [], ◌∷◌, Option, None, Some, IfSome, refl, sym, subst, ◌∙◌, arith}
use Rattle.std.specs.List.{AllByRecursion}
use Rattle.std.proofs.lemmas.Bool.Decides.{nat_tests}
use Rattle.plan.specs.declared.findings.Finding.{Finding}
use Rattle.plan.specs.Findings.{is_same, is_before, is_among, AreInOrder, AreAmong}
use Rattle.desk_time.specs.Limits.{IsMoment}
use Rattle.plan.proofs.Rows.{is_before_trans, is_before_other}
use Rattle.alerts.specs.declared.alert.Alert.{Alert}
use Rattle.alerts.specs.Follows.{StaysOpen, Follows}
use Rattle.alerts.proofs.Sameness.{same_is}
use Rattle.alerts.specs.Alerts.{are_same, IsAlert, with_finding, with_findings, alert_once_open, alert_after}
use Rattle.std.proofs.lemmas.Bool.{or_right}

abbrev AreAfter : Finding → List Finding → Type 0
AreAfter f gs = AllByRecursion (λ g. is_before f g ≡ true) gs

after_both : (f g : Finding) (hs : List Finding) → is_before f g ≡ true → AreAfter g hs → AreAfter f hs
after_both f g [] e all = tt
after_both f g (h ∷ hs) e all = (is_before_trans f g h e all.0, after_both f g hs e all.1)

after_by : (e f g : Finding) (gs more : List Finding) (b c : Bool) → is_before e f ≡ true → AreAfter e (g ∷ gs) → AreAfter e more
    → AreAfter e (cond b (f ∷ g ∷ gs) (cond c (g ∷ gs) (g ∷ more)))
after_by e f g gs more true c one all rest = (one, all)
after_by e f g gs more false true one all rest = all
after_by e f g gs more false false one all rest = (all.0, rest)

after_more : (e f : Finding) (gs : List Finding) → is_before e f ≡ true → AreAfter e gs → AreAfter e (with_finding f gs)
after_more e f [] one all = (one, tt)
after_more e f (g ∷ gs) one all = after_by e f g gs (with_finding f gs) _ _ one all (after_more e f gs one all.1)

order_by : (f g : Finding) (gs more : List Finding) (b c : Bool) → is_before f g ≡ b → is_same f g ≡ c → AreInOrder (g ∷ gs) → AreInOrder more
    → (is_before g f ≡ true → AreAfter g more) → AreInOrder (cond b (f ∷ g ∷ gs) (cond c (g ∷ gs) (g ∷ more)))
order_by f g gs more true c e s all rest above = ((e, after_both f g gs e all.0), all)
order_by f g gs more false true e s all rest above = all
order_by f g gs more false false e s all rest above = (above (is_before_other f g e s), rest)

in_order : (f : Finding) (gs : List Finding) → AreInOrder gs → AreInOrder (with_finding f gs)
in_order f [] all = (tt, tt)
in_order f (g ∷ gs) all = order_by f g gs (with_finding f gs) _ _ refl refl all (in_order f gs all.1) (λ e. after_more g f gs e all.0)

same_self : (f : Finding) → is_same f f ≡ true
same_self f = grind (arith, nat_tests)

or_more : (a b c : Bool) → (a || b) ≡ true → (b ≡ true → c ≡ true) → (a || c) ≡ true
or_more true b c e f = refl
or_more false b c e f = f e

new_by : (f g : Finding) (gs more : List Finding) (b c : Bool) → is_same f g ≡ c → is_among more f ≡ true → is_among (cond b (f ∷ g ∷ gs) (cond c (g ∷ gs) (g ∷ more))) f ≡ true
new_by f g gs more true c s rest = rw (same_self f) refl
new_by f g gs more false true s rest = rw s refl
new_by f g gs more false false s rest = or_right (is_same f g) (is_among more f) rest

new_among : (f : Finding) (gs : List Finding) → is_among (with_finding f gs) f ≡ true
new_among f [] = rw (same_self f) refl
new_among f (g ∷ gs) = new_by f g gs (with_finding f gs) _ _ refl (new_among f gs)

old_by : (h f g : Finding) (gs more : List Finding) (b c : Bool) → is_among (g ∷ gs) h ≡ true → (is_among gs h ≡ true → is_among more h ≡ true)
    → is_among (cond b (f ∷ g ∷ gs) (cond c (g ∷ gs) (g ∷ more))) h ≡ true
old_by h f g gs more true c e rest = or_right (is_same h f) (is_among (g ∷ gs) h) e
old_by h f g gs more false true e rest = e
old_by h f g gs more false false e rest = or_more (is_same h g) (is_among gs h) (is_among more h) e rest

old_among : (h f : Finding) (gs : List Finding) → is_among gs h ≡ true → is_among (with_finding f gs) h ≡ true
old_among h f [] e = absurd (cc)
old_among h f (g ∷ gs) e = old_by h f g gs (with_finding f gs) _ _ e (old_among h f gs)

all_in_order : (ever fs : List Finding) → AreInOrder ever → AreInOrder (with_findings ever fs)
all_in_order ever [] all = all
all_in_order ever (f ∷ fs) all = all_in_order (with_finding f ever) fs (in_order f ever all)

still_among : (h : Finding) (ever fs : List Finding) → is_among ever h ≡ true → is_among (with_findings ever fs) h ≡ true
still_among h ever [] e = e
still_among h ever (f ∷ fs) e = still_among h (with_finding f ever) fs (old_among h f ever e)

all_among : (ever fs : List Finding) → AreAmong (with_findings ever fs) fs
all_among ever [] = tt
all_among ever (f ∷ fs) = (still_among f (with_finding f ever) fs (new_among f ever), all_among (with_finding f ever) fs)

among_more : (f : Finding) (others fs : List Finding) → AreAmong others fs → AreAmong (f ∷ others) fs
among_more f others [] all = tt
among_more f others (g ∷ gs) all = (or_right (is_same g f) (is_among others g) all.0, among_more f others gs all.1)

among_self : (fs : List Finding) → AreAmong fs fs
among_self [] = tt
among_self (f ∷ fs) = (rw (same_self f) refl, among_more f fs fs (among_self fs))

once_open_is : (b : Bool) (a : Alert) (findings : List Finding) (most : ℕ) → AreInOrder findings → IsAlert most a → IsAlert (most + 1) (alert_once_open b a findings)
once_open_is true a findings most order is = record {
  moment = is.moment;
  first = is.first;
  version = let v = is.version in omega arith;
  failing = is.failing;
  ever = is.ever;
  among = is.among;
}
once_open_is false a findings most order is = record {
  moment = is.moment;
  first = omega arith;
  version = let v = is.version in omega arith;
  failing = order;
  ever = all_in_order a.ever findings is.ever;
  among = all_among a.ever findings;
}

-- what holds of each alert holds after a judgement
pub after_is : (old : Option Alert) (release : ℕ) (desk : List ℕ) (findings : List Finding) (moment most : ℕ) → IsMoment moment → AreInOrder findings
    → IfSome old (IsAlert most) → IfSome (alert_after old release desk findings moment) (IsAlert (most + 1))
after_is None release desk [] moment most shown order is = tt
after_is None release desk (f ∷ fs) moment most shown order is = record {
  moment = shown;
  first = omega arith;
  version = omega arith;
  failing = order;
  ever = order;
  among = among_self (f ∷ fs);
}
after_is (Some a) release desk findings moment most shown order is = once_open_is _ a findings most order is

-- What becomes of an alert.

pub all_same : (fs : List Finding) → are_same fs fs ≡ true
all_same [] = refl
all_same (f ∷ fs) = rw (same_self f) (all_same fs)

keeps_all : (ever hs fs : List Finding) → AreAmong ever hs → AreAmong (with_findings ever fs) hs
keeps_all ever [] fs all = tt
keeps_all ever (h ∷ hs) fs all = (still_among h ever fs all.0, keeps_all ever hs fs all.1)

left_among : (h : Finding) (fs gs : List Finding) → is_among fs h ≡ true → is_among (fs ++ gs) h ≡ true
left_among h [] gs e = absurd (cc)
left_among h (f ∷ fs) gs e = or_more (is_same h f) (is_among fs h) (is_among (fs ++ gs) h) e (left_among h fs gs)

right_among : (h : Finding) (fs gs : List Finding) → is_among gs h ≡ true → is_among (fs ++ gs) h ≡ true
right_among h [] gs e = e
right_among h (f ∷ fs) gs e = or_right (is_same h f) (is_among (fs ++ gs) h) (right_among h fs gs e)

left_all : (fs gs hs : List Finding) → AreAmong fs hs → AreAmong (fs ++ gs) hs
left_all fs gs [] all = tt
left_all fs gs (h ∷ hs) all = (left_among h fs gs all.0, left_all fs gs hs all.1)

right_all : (fs gs hs : List Finding) → AreAmong gs hs → AreAmong (fs ++ gs) hs
right_all fs gs [] all = tt
right_all fs gs (h ∷ hs) all = (right_among h fs gs all.0, right_all fs gs hs all.1)

within_by : (whole : List Finding) (f g : Finding) (gs more : List Finding) (b c : Bool) → is_among whole f ≡ true → AreAmong whole (g ∷ gs) → AreAmong whole more
    → AreAmong whole (cond b (f ∷ g ∷ gs) (cond c (g ∷ gs) (g ∷ more)))
within_by whole f g gs more true c one all rest = (one, all)
within_by whole f g gs more false true one all rest = all
within_by whole f g gs more false false one all rest = (all.0, rest)

within_one : (whole : List Finding) (f : Finding) (gs : List Finding) → is_among whole f ≡ true → AreAmong whole gs → AreAmong whole (with_finding f gs)
within_one whole f [] one all = (one, tt)
within_one whole f (g ∷ gs) one all = within_by whole f g gs (with_finding f gs) _ _ one all (within_one whole f gs one all.1)

within_all : (whole ever fs : List Finding) → AreAmong whole ever → AreAmong whole fs → AreAmong whole (with_findings ever fs)
within_all whole ever [] all more = all
within_all whole ever (f ∷ fs) all more = within_all whole (with_finding f ever) fs (within_one whole f ever more.0 all) more.1

not_same : (fs gs : List Finding) → are_same fs gs ≡ false → fs ≡ gs → ⊥
not_same fs gs e is = let other : are_same fs gs ≡ true = subst (λ (hs : List Finding). are_same fs hs ≡ true) is (all_same fs) in let bad : false ≡ true = sym e ∙ other in absurd (cc)

stays_by : (b : Bool) (a : Alert) (findings : List Finding) → are_same a.failing findings ≡ b → StaysOpen a findings (alert_once_open b a findings)
stays_by true a findings e = record {
  release = refl;
  desk = refl;
  opened = refl;
  failing = same_is a.failing findings e;
  same = λ is. refl;
  changed = λ ne. absurd (ne (same_is a.failing findings e));
  keeps = among_self a.ever;
  gains = left_all a.ever findings a.ever (among_self a.ever);
}
stays_by false a findings e = record {
  release = refl;
  desk = refl;
  opened = refl;
  failing = refl;
  same = λ is. absurd (not_same a.failing findings e is);
  changed = λ ne. (refl, refl);
  keeps = keeps_all a.ever a.ever findings (among_self a.ever);
  gains = within_all (a.ever ++ findings) a.ever findings (left_all a.ever findings a.ever (among_self a.ever)) (right_all a.ever findings findings (among_self findings));
}

pub follows : (old : Option Alert) (release : ℕ) (desk : List ℕ) (findings : List Finding) (moment : ℕ) → Follows old release desk findings moment (alert_after old release desk findings moment)
follows None release desk [] moment = tt
follows None release desk (f ∷ fs) moment = record { release = refl; desk = refl; version = refl; opened = refl; failing = refl; ever = refl; acknowledged = refl }
follows (Some a) release desk findings moment = stays_by (are_same a.failing findings) a findings refl

-- the same of what is found
pub follows_is : (old : Option Alert) (release : ℕ) (desk : List ℕ) (findings : List Finding) (moment : ℕ) (o : Option Alert)
    → o ≡ alert_after old release desk findings moment → Follows old release desk findings moment o
follows_is old release desk findings moment o is = subst (λ (x : Option Alert). Follows old release desk findings moment x) (sym is) (follows old release desk findings moment)
