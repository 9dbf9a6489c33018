-- The next minute at which a rule of time begins to fail.
use Rattle.std.proofs.Common.{◌≡◌, ℕ, ◌+◌, ◌-◌, ◌<◌, ◌≤◌, ◌==◌, Bool, true, false, cond, List, [], ◌∷◌, Option, None, Some, min, inl, inr, refl, ap, sym, subst, eq-eqb, arith, ◌∙◌}
use Rattle.std.specs.Prelude.{nat_lt, ◌⊎◌}
use Rattle.std.proofs.lemmas.Bool.{ltb-true, ltb-false, eqb-true, ne_eqb}
use Rattle.std.proofs.lemmas.Bool.Decides.{nat_tests}
use Rattle.codes.specs.Cond.{lesser}
use Rattle.ops_tables.specs.declared.rows.Settings.{Settings}
use Rattle.plan.specs.declared.flights.Leg.{Leg}
use Rattle.plan.specs.declared.flights.Plan.{Plan}
use Rattle.plan.specs.declared.findings.Rule.{Rule}
use Rattle.plan.specs.declared.findings.Rule.TheVariants.{No1, No2, No3, No17, No18}
use Rattle.plan.specs.declared.release.Phase.{Phase}
use Rattle.rules.specs.Judgement.{leg_numbered}
use Rattle.rules.specs.Time.{limit_of, is_past}
use Rattle.rules.specs.Due.{rules_of_time, due_after, leg_due, legs_due, next_due, Begins, IsNextDue, IsBeforeDue, Lasts}
use Rattle.rules.specs.Sights.{due_by, first_due}
use Rattle.rules.specs.declared.time.Times.{Times}
use Rattle.codes.proofs.CondLaws.{lesser_none}

-- the least number after a moment for which something holds, or none
abbrev IsLeast : (ℕ → Type 0) → ℕ → Option ℕ → Type 0
IsLeast P moment None = (m : ℕ) → moment < m → P m → ⊥
IsLeast P moment (Some due) = (moment < due) × P due × ((m : ℕ) → moment < m → m < due → P m → ⊥)

first_of : (P Q : ℕ → Type 0) (moment x y : ℕ) → x ≤ y → IsLeast P moment (Some x) → IsLeast Q moment (Some y) → IsLeast (λ m. P m ⊎ Q m) moment (Some x)
first_of P Q moment x y less a b = (
  a.0,
  inl a.1,
  λ m after before either. elim either [
    | inl p ↦ a.2 m after before p
    | inr q ↦ b.2 m after (omega (arith, before, less)) q
  ],
)

second_of : (P Q : ℕ → Type 0) (moment x y : ℕ) → y ≤ x → IsLeast P moment (Some x) → IsLeast Q moment (Some y) → IsLeast (λ m. P m ⊎ Q m) moment (Some y)
second_of P Q moment x y less a b = (
  b.0,
  inr b.1,
  λ m after before either. elim either [
    | inl p ↦ a.2 m after (omega (arith, before, less)) p
    | inr q ↦ b.2 m after before q
  ],
)

of_two : (less : Bool) (P Q : ℕ → Type 0) (moment x y : ℕ) → nat_lt x y ≡ less → IsLeast P moment (Some x) → IsLeast Q moment (Some y) → IsLeast (λ m. P m ⊎ Q m) moment (Some (min x y))
of_two true P Q moment x y e a b =
    let below = ltb-true x y e in
    subst (λ m. IsLeast (λ n. P n ⊎ Q n) moment (Some m)) (omega (arith, below)) (first_of P Q moment x y (omega (arith, below)) a b)
of_two false P Q moment x y e a b =
    let above = ltb-false x y e in
    subst (λ m. IsLeast (λ n. P n ⊎ Q n) moment (Some m)) (omega (arith, above)) (second_of P Q moment x y (omega (arith, above)) a b)

-- the lesser of the least numbers for two things is the least for either
least_of : (P Q : ℕ → Type 0) (moment : ℕ) (a b : Option ℕ) → IsLeast P moment a → IsLeast Q moment b → IsLeast (λ m. P m ⊎ Q m) moment (lesser a b)
least_of P Q moment None None a b = λ m after either. elim either [
  | inl p ↦ a m after p
  | inr q ↦ b m after q
]
least_of P Q moment None (Some y) a b = (
  b.0,
  inr b.1,
  λ m after before either. elim either [
    | inl p ↦ a m after p
    | inr q ↦ b.2 m after before q
  ],
)
least_of P Q moment (Some x) None a b = (
  a.0,
  inl a.1,
  λ m after before either. elim either [
    | inl p ↦ a.2 m after before p
    | inr q ↦ b m after q
  ],
)
least_of P Q moment (Some x) (Some y) a b = of_two (nat_lt x y) P Q moment x y refl a b

-- a limit is passed at a minute, and not at the minute before
record Starts (limit : Option ℕ) (minute : ℕ) : Type 0 where
  pub before : is_past limit (minute - 1) ≡ false
  pub fails : is_past limit minute ≡ true

never_starts : (minute : ℕ) → Starts None minute → ⊥
never_starts minute starts = let fails : false ≡ true = starts.fails in absurd (cc)

starts_at : (limit minute : ℕ) → Starts (Some limit) minute → minute ≡ limit + 1
starts_at limit minute starts =
    let before = ltb-false limit (minute - 1) starts.before in
    let past = ltb-true limit minute starts.fails in
    omega (arith, before, past)

due_if : (b : Bool) (moment limit : ℕ) → nat_lt moment (limit + 1) ≡ b → IsLeast (Starts (Some limit)) moment (cond b (Some (limit + 1)) None)
due_if true moment limit e = (
  ltb-true moment (limit + 1) e,
  record { before = grind (arith, nat_tests); fails = grind (arith, nat_tests) },
  λ m after before starts. let is = starts_at limit m starts in omega (arith, is, before),
)
due_if false moment limit e = λ m after starts. let is = starts_at limit m starts in let past = ltb-false moment (limit + 1) e in omega (arith, is, after, past)

due_is_least : (moment : ℕ) (limit : Option ℕ) → IsLeast (Starts limit) moment (due_after moment limit)
due_is_least moment None = λ m after starts. never_starts m starts
due_is_least moment (Some limit) = due_if (nat_lt moment (limit + 1)) moment limit refl

-- one of some rules begins to fail for the leg of a number at a minute
abbrev OneBegins : List Rule → Settings → Plan → Phase → ℕ → Leg → ℕ → Type 0
OneBegins [] settings plan phase n leg minute = ⊥
OneBegins (rule ∷ rules) settings plan phase n leg minute = Starts (limit_of rule settings plan.kind phase n leg) minute ⊎ OneBegins rules settings plan phase n leg minute

leg_is_least : (rules : List Rule) (settings : Settings) (plan : Plan) (phase : Phase) (moment n : ℕ) (leg : Leg)
    → IsLeast (OneBegins rules settings plan phase n leg) moment (leg_due rules settings plan phase moment n leg)
leg_is_least [] settings plan phase moment n leg = λ m after begins. begins
leg_is_least (rule ∷ rules) settings plan phase moment n leg =
    least_of (Starts (limit_of rule settings plan.kind phase n leg)) (OneBegins rules settings plan phase n leg) moment
    (due_after moment (limit_of rule settings plan.kind phase n leg)) (leg_due rules settings plan phase moment n leg)
    (due_is_least moment (limit_of rule settings plan.kind phase n leg)) (leg_is_least rules settings plan phase moment n leg)

-- a rule of time begins to fail for one of some legs, where the first of them has that number
abbrev LegsBegin : Settings → Plan → Phase → ℕ → List Leg → ℕ → Type 0
LegsBegin settings plan phase n [] minute = ⊥
LegsBegin settings plan phase n (leg ∷ legs) minute = OneBegins rules_of_time settings plan phase n leg minute ⊎ LegsBegin settings plan phase (n + 1) legs minute

legs_are_least : (settings : Settings) (plan : Plan) (phase : Phase) (moment n : ℕ) (legs : List Leg)
    → IsLeast (LegsBegin settings plan phase n legs) moment (legs_due settings plan phase moment n legs)
legs_are_least settings plan phase moment n [] = λ m after begins. begins
legs_are_least settings plan phase moment n (leg ∷ legs) =
    least_of (OneBegins rules_of_time settings plan phase n leg) (LegsBegin settings plan phase (n + 1) legs) moment
    (leg_due rules_of_time settings plan phase moment n leg) (legs_due settings plan phase moment (n + 1) legs)
    (leg_is_least rules_of_time settings plan phase moment n leg) (legs_are_least settings plan phase moment (n + 1) legs)

-- a rule begins to fail for a leg, of a number at or after that of the first of some legs
record BeginsFrom (settings : Settings) (plan : Plan) (phase : Phase) (first : ℕ) (legs : List Leg) (minute : ℕ) : Type 0 where
  pub rule : Rule
  pub number : ℕ
  pub leg : Leg
  pub least : first ≤ number
  pub stands : leg_numbered number first legs ≡ Some leg
  pub starts : Starts (limit_of rule settings plan.kind phase number leg) minute

-- a rule begins to fail for the leg of that number
record OfLeg (settings : Settings) (plan : Plan) (phase : Phase) (n : ℕ) (leg : Leg) (minute : ℕ) : Type 0 where
  pub rule : Rule
  pub starts : Starts (limit_of rule settings plan.kind phase n leg) minute

of_leg : (rules : List Rule) (settings : Settings) (plan : Plan) (phase : Phase) (n : ℕ) (leg : Leg) (minute : ℕ) → OneBegins rules settings plan phase n leg minute → OfLeg settings plan phase n leg minute
of_leg [] settings plan phase n leg minute begins = absurd begins
of_leg (rule ∷ rules) settings plan phase n leg minute begins = elim begins [
  | inl starts ↦ record { rule = rule; starts = starts }
  | inr later ↦ of_leg rules settings plan phase n leg minute later
]

here : (settings : Settings) (plan : Plan) (phase : Phase) (n : ℕ) (leg : Leg) (legs : List Leg) (minute : ℕ) → OfLeg settings plan phase n leg minute → BeginsFrom settings plan phase n (leg ∷ legs) minute
here settings plan phase n leg legs minute begins =
    record { rule = begins.rule; number = n; leg = leg; least = omega arith; stands = rw (eq-eqb n n refl) refl; starts = begins.starts }

there : (settings : Settings) (plan : Plan) (phase : Phase) (n : ℕ) (leg : Leg) (legs : List Leg) (minute : ℕ) → BeginsFrom settings plan phase (n + 1) legs minute → BeginsFrom settings plan phase n (leg ∷ legs) minute
there settings plan phase n leg legs minute begins = record {
  rule = begins.rule;
  number = begins.number;
  leg = begins.leg;
  least = let l = begins.least in omega (arith, l);
  stands = let ne : begins.number ≡ n → ⊥ = λ e. absurd (let l = begins.least in omega (arith, e, l)) in rw (ne_eqb begins.number n ne) begins.stands;
  starts = begins.starts;
}

begins_from : (settings : Settings) (plan : Plan) (phase : Phase) (n : ℕ) (legs : List Leg) (minute : ℕ) → LegsBegin settings plan phase n legs minute → BeginsFrom settings plan phase n legs minute
begins_from settings plan phase n [] minute begins = absurd begins
begins_from settings plan phase n (leg ∷ legs) minute begins = elim begins [
  | inl one ↦ here settings plan phase n leg legs minute (of_leg rules_of_time settings plan phase n leg minute one)
  | inr later ↦ there settings plan phase n leg legs minute (begins_from settings plan phase (n + 1) legs minute later)
]

-- no rule begins to fail but those of time
one_begins : (rule : Rule) (settings : Settings) (plan : Plan) (phase : Phase) (n : ℕ) (leg : Leg) (minute : ℕ) → Starts (limit_of rule settings plan.kind phase n leg) minute
    → OneBegins rules_of_time settings plan phase n leg minute
one_begins No1 settings plan phase n leg minute starts = inl starts
one_begins No2 settings plan phase n leg minute starts = inr (inl starts)
one_begins No3 settings plan phase n leg minute starts = absurd (never_starts minute starts)
one_begins No17 settings plan phase n leg minute starts = inr (inr (inl starts))
one_begins No18 settings plan phase n leg minute starts = inr (inr (inr (inl starts)))
one_begins _ settings plan phase n leg minute starts = absurd (never_starts minute starts)

one_of : (b : Bool) (rule : Rule) (settings : Settings) (plan : Plan) (phase : Phase) (number n : ℕ) (leg at : Leg) (legs : List Leg) (later : Option Leg) (minute : ℕ)
    → (number == n) ≡ b → (later ≡ Some at → LegsBegin settings plan phase (n + 1) legs minute) → cond b (Some leg) later ≡ Some at
    → Starts (limit_of rule settings plan.kind phase number at) minute → LegsBegin settings plan phase n (leg ∷ legs) minute
one_of true rule settings plan phase number n leg at legs later minute e h stands starts =
    let same : number ≡ n = eqb-true number n e in
    let one : leg ≡ at = grind (arith, stands) in
    inl (one_begins rule settings plan phase n leg minute (subst (λ m. Starts (limit_of rule settings plan.kind phase m leg) minute) same (subst (λ l. Starts (limit_of rule settings plan.kind phase number l) minute) (sym one) starts)))
one_of false rule settings plan phase number n leg at legs later minute e h stands starts = inr (h stands)

legs_begin : (rule : Rule) (settings : Settings) (plan : Plan) (phase : Phase) (number n : ℕ) (at : Leg) (legs : List Leg) (minute : ℕ) → leg_numbered number n legs ≡ Some at
    → Starts (limit_of rule settings plan.kind phase number at) minute → LegsBegin settings plan phase n legs minute
legs_begin rule settings plan phase number n at [] minute stands starts = absurd (cc)
legs_begin rule settings plan phase number n at (leg ∷ legs) minute stands starts =
    one_of (number == n) rule settings plan phase number n leg at legs (leg_numbered number (n + 1) legs) minute refl
    (λ later. legs_begin rule settings plan phase number (n + 1) at legs minute later starts) stands starts

begins_of : (plan : Plan) (phase : Phase) (settings : Settings) (minute : ℕ) → LegsBegin settings plan phase 1 plan.legs minute → Begins plan phase settings minute
begins_of plan phase settings minute begins =
    let from = begins_from settings plan phase 1 plan.legs minute begins in
    record { rule = from.rule; number = from.number; leg = from.leg; stands = from.stands; before = from.starts.before; fails = from.starts.fails }

of_begins : (plan : Plan) (phase : Phase) (settings : Settings) (minute : ℕ) → Begins plan phase settings minute → LegsBegin settings plan phase 1 plan.legs minute
of_begins plan phase settings minute begins =
    legs_begin begins.rule settings plan phase begins.number 1 begins.leg plan.legs minute begins.stands (record { before = begins.before; fails = begins.fails })

is_next : (plan : Plan) (phase : Phase) (settings : Settings) (moment : ℕ) (due : Option ℕ) → IsLeast (LegsBegin settings plan phase 1 plan.legs) moment due → IsNextDue plan phase settings moment due
is_next plan phase settings moment None least = λ until m after before begins. least m after (of_begins plan phase settings m begins)
is_next plan phase settings moment (Some due) least =
    (least.0, begins_of plan phase settings due least.1, λ m after before begins. least.2 m after before (of_begins plan phase settings m begins))

-- what is next due begins to fail then, and nothing does before
pub next_due_is : (plan : Plan) (phase : Phase) (settings : Settings) (moment : ℕ) → IsNextDue plan phase settings moment (next_due plan phase settings moment)
unfolding next_due
next_due_is plan phase settings moment =
    is_next plan phase settings moment (legs_due settings plan phase moment 1 plan.legs) (legs_are_least settings plan phase moment 1 plan.legs)

one_least : (x y : ℕ) → (x < y → ⊥) → (y < x → ⊥) → x ≡ y
one_least x y above below = elim (nat_lt x y) as (λ b. nat_lt x y ≡ b → x ≡ y) [
  | true ↦ λ e. absurd (above (ltb-true x y e))
  | false ↦ λ e. elim (nat_lt y x) as (λ b. nat_lt y x ≡ b → x ≡ y) [
    | true ↦ λ f. absurd (below (ltb-true y x f))
    | false ↦ λ f. let p = ltb-false x y e in let q = ltb-false y x f in omega (arith, p, q)
  ] refl
] refl

-- there is one least number
least_same : (P : ℕ → Type 0) (moment : ℕ) (a b : Option ℕ) → IsLeast P moment a → IsLeast P moment b → a ≡ b
least_same P moment None None a b = refl
least_same P moment None (Some y) a b = absurd (a y b.0 b.1)
least_same P moment (Some x) None a b = absurd (b x a.0 a.1)
least_same P moment (Some x) (Some y) a b = ap (λ n. Some n) (one_least x y (λ less. b.2 x a.0 less a.1) (λ less. a.2 y b.0 less b.1))

-- before it comes it is the least after a later moment too
least_after : (P : ℕ → Type 0) (moment minute : ℕ) (due : Option ℕ) → moment ≤ minute → IsBeforeDue minute due → IsLeast P moment due → IsLeast P minute due
least_after P moment minute None later before least = λ m after p. least m (omega (arith, later, after)) p
least_after P moment minute (Some due) later before least = (before, least.1, λ m after until p. least.2 m (omega (arith, later, after)) until p)

-- until something is due, the same is due next
pub lasts : (plan : Plan) (phase : Phase) (settings : Settings) (moment : ℕ) → Lasts plan phase settings moment (next_due plan phase settings moment)
unfolding next_due
lasts plan phase settings moment minute later before =
    least_same (LegsBegin settings plan phase 1 plan.legs) minute (legs_due settings plan phase minute 1 plan.legs) (legs_due settings plan phase moment 1 plan.legs)
    (legs_are_least settings plan phase minute 1 plan.legs)
    (least_after (LegsBegin settings plan phase 1 plan.legs) moment minute (legs_due settings plan phase moment 1 plan.legs) later before
    (legs_are_least settings plan phase moment 1 plan.legs))

due_legs : (settings : Settings) (plan : Plan) (phase : Phase) (moment n : ℕ) (legs : List Leg)
    → first_due (record { settings = settings; flight = plan.kind; phase = phase; moment = moment }) n legs ≡ legs_due settings plan phase moment n legs
due_legs settings plan phase moment n [] = refl
due_legs settings plan phase moment n (leg ∷ legs) =
    let times : Times = record { settings = settings; flight = plan.kind; phase = phase; moment = moment } in
    ap (λ due. lesser (lesser (due_by No1 times n leg) (lesser (due_by No2 times n leg) (lesser (due_by No17 times n leg) due))) (first_due times (n + 1) legs)) (sym (lesser_none (due_by No18 times n leg)))
    ∙ ap (λ due. lesser (leg_due rules_of_time settings plan phase moment n leg) due) (due_legs settings plan phase moment (n + 1) legs)

pub first_is_next : (plan : Plan) (phase : Phase) (settings : Settings) (moment : ℕ) (times : Times)
    → times ≡ record { settings = settings; flight = plan.kind; phase = phase; moment = moment } → first_due times 1 plan.legs ≡ next_due plan phase settings moment
unfolding next_due
first_is_next plan phase settings moment times is = ap (λ t. first_due t 1 plan.legs) is ∙ due_legs settings plan phase moment 1 plan.legs
