-- What a line comes to, taken apart.
use Rattle.std.proofs.Common.{◌≡◌, ◌==◌, ℕ, Bool, true, false, List, [], ◌∷◌, Option, None, Some, is_some, IfSome, Ok, Err, refl, ap, sym, ◌∙◌, subst}
use Rattle.std.specs.List.{AllByRecursion}
use Rattle.std.specs.Option.{option_or}
use Rattle.std.specs.Prelude.{Result, IfOk}
use Rattle.asks.specs.Forms.{CallHasForms, HasForms}
use Rattle.asks.specs.declared.call.Call.{Call}
use Rattle.asks.specs.declared.reply.Refusal.{Refusal}
use Rattle.asks.specs.declared.reply.Refusal.TheVariants as refusal
use Rattle.asks.specs.declared.reply.Reply.TheVariants.{Refused}
use Rattle.desk_json.specs.PlannedLines.{PlannedHasForms}
use Rattle.desk_json.specs.declared.planned.PlannedLine.{PlannedLine}
use Rattle.desk_json.specs.declared.planned.PlannedLine.TheVariants.{Asked, File, Check, Turn}
use Rattle.desk_state.proofs.Each.{found_each}
use Rattle.desk_state.specs.Chain.{refused_if}
use Rattle.desk_state.specs.Decide.{bad_plan, not_yours, out_of_phase}
use Rattle.desk_state.specs.People.{mistaken}
use Rattle.desk_state.specs.Requests.{kept_at}
use Rattle.desk_state.specs.State.{State, grounds_of, release_at}
use Rattle.ops_tables.specs.Rows.{Actor}
use Rattle.ops_tables.specs.Tables.{TableRows, actor_of}
use Rattle.plan.specs.Phases.{is_active, is_flying}
use Rattle.plan.specs.declared.check.BadPlan.{BadPlan}
use Rattle.plan.specs.declared.findings.Finding.{Finding}
use Rattle.plan.specs.declared.flights.Plan.{Plan}
use Rattle.plan.specs.declared.release.Phase.{Phase}
use Rattle.plan.specs.declared.release.Release.{Release}
use Rattle.plan.specs.declared.release.Revision.{Revision}
use Rattle.redispatch.specs.Filed.{HasFormedPlan, filed_for, final_plan, release_of}
use Rattle.redispatch.specs.Filing.{final_fault}
use Rattle.redispatch.specs.Turns.{turned}
use Rattle.redispatch.specs.declared.planned.Filed.{Filed}
use Rattle.scripts.specs.PlannedAnswers.{IsSaidOf}
use Rattle.scripts.specs.PlannedHistory.{IsFinalPlan, IsLineUnkept, LineProposes, TurnPasses}
use Rattle.scripts.specs.PlannedRuns.{filed_by_line, filed_if, is_done}
use Rattle.scripts.specs.PlannedShown.{IsFiledBy}
use Rattle.scripts.specs.declared.planned_lines.LineMade.{LineMade}
use Rattle.scripts.specs.Proposals.{Proposes}
use Rattle.scripts.specs.PlannedTests.{as_said, bad_final, check_for, check_of, comes_to, failing, file, file_for, final_findings, no_dispatcher, not_his_line, on_filed, on_release, replies, says_or, turn, turn_call, turn_for, turn_of, turn_refusal, unknown, unless, unless_kept}
use Rattle.scripts.specs.declared.planned_said.Came.{Came}
use Rattle.scripts.specs.declared.planned_said.Came.TheVariants.{Says, Makes}
use Rattle.scripts.specs.declared.planned_said.LineSaid.{LineSaid}

-- ---- a call is made only if each test passes

says_makes : (x : LineSaid) (call : Call) → Says x ≡ Makes call → ⊥
says_makes x call is = absurd (cc)

unless_makes : (o : Option Refusal) (rest : Came) (call : Call) → unless o rest ≡ Makes call → rest ≡ Makes call
unless_makes None rest call is = is
unless_makes (Some why) rest call is = absurd (says_makes _ call is)

release_makes : (o : Option Release) (goes : Release → Came) (call : Call) → on_release o goes ≡ Makes call → (r : Release) × (goes r ≡ Makes call)
release_makes None goes call is = absurd (says_makes _ call is)
release_makes (Some r) goes call is = (r, is)

record FiledMakes (o : Option Filed) (goes : Filed → Came) (call : Call) : Type 0 where
  filed : Filed
  found : o ≡ Some filed
  goes_on : goes filed ≡ Makes call

filed_makes : (o : Option Filed) (goes : Filed → Came) (call : Call) → on_filed o goes ≡ Makes call → FiledMakes o goes call
filed_makes None goes call is = absurd (says_makes _ call is)
filed_makes (Some f) goes call is = record { filed = f; found = refl; goes_on = is }

same_call : (one two : Call) → Makes one ≡ Makes two → one ≡ two
same_call one two is = cc

record SaysNone (o : Option LineSaid) (one two : Call) : Type 0 where
  none : o ≡ None
  same : two ≡ one

or_makes : (o : Option LineSaid) (one two : Call) → says_or o (Makes one) ≡ Makes two → SaysNone o one two
or_makes None one two is = record { none = refl; same = sym (same_call one two is) }
or_makes (Some x) one two is = absurd (says_makes x two is)

-- a turn that makes a call: a plan is filed, no test refuses it, and the call is the amendment
record TurnMakes (u : State) (planned : List Filed) (c : Call) (id : ℕ) (call : Call) : Type 0 where
  filed : Filed
  release : Release
  found : filed_for id planned ≡ Some filed
  none : unless_kept (is_some (kept_at c.actor c.number u.kept)) (turn_refusal u c.actor release filed) ≡ None
  amends : call ≡ turned c id filed

turn_makes : (u : State) (planned : List Filed) (c : Call) (id : ℕ) (call : Call) → turn u planned c id ≡ Makes call → TurnMakes u planned c id call
turn_makes u planned c id call is =
    let held = release_makes (release_at id u.releases) (turn_for u planned c id) call (unless_makes (no_dispatcher u c.actor c.key) (on_release (release_at id u.releases) (turn_for u planned c id)) call is) in
    let filed : FiledMakes (filed_for id planned) (turn_of u c id held.0) call = filed_makes (filed_for id planned) (turn_of u c id held.0) call held.1 in
    let last : SaysNone (unless_kept (is_some (kept_at c.actor c.number u.kept)) (turn_refusal u c.actor held.0 filed.filed)) (turned c id filed.filed) call =
    or_makes (unless_kept (is_some (kept_at c.actor c.number u.kept)) (turn_refusal u c.actor held.0 filed.filed)) (turned c id filed.filed) call filed.goes_on in
    record { filed = filed.filed; release = held.0; found = filed.found; none = last.none; amends = last.same }

-- ---- a new turn that is accepted has a final plan that fails no rule

or_none : (one two : Option LineSaid) → option_or one two ≡ None → (one ≡ None) × (two ≡ None)
or_none None two is = (refl, is)
or_none (Some x) two is = absurd (cc)

good_findings : (fs : List Finding) → failing fs ≡ None → fs ≡ []
good_findings [] is = refl
good_findings (f ∷ fs) is = absurd (cc)

kept_none : (o : Option LineSaid) (k : Bool) → k ≡ false → unless_kept k o ≡ None → o ≡ None
kept_none o true new is = absurd (cc)
kept_none o false new is = is

pub new_turn_passes : (u : State) (planned : List Filed) (actor key : List ℕ) (number id : ℕ) (call : Call) (at : ℕ) → comes_to u planned (Turn at actor key number id) ≡ Makes call
    → kept_at actor number u.kept ≡ None → TurnPasses u planned id
unfolding comes_to
new_turn_passes u planned actor key number id call at is new =
    let t : TurnMakes u planned (turn_call actor key number id) id call = turn_makes u planned (turn_call actor key number id) id call is in
    let none : turn_refusal u actor t.release t.filed ≡ None = kept_none (turn_refusal u actor t.release t.filed) (is_some (kept_at actor number u.kept)) (ap is_some new) t.none in
    let later = (or_none (as_said (out_of_phase (is_flying t.release.phase t.filed.leg) t.release.phase)) (option_or (as_said (not_yours t.release.holder actor)) (failing (final_findings (grounds_of u) t.filed))) none).1 in
    let last = (or_none (as_said (not_yours t.release.holder actor)) (failing (final_findings (grounds_of u) t.filed)) later).1 in
    record { filed = t.filed; found = t.found; good = good_findings (final_findings (grounds_of u) t.filed) last }

-- ---- a call that is made is well-formed

formed_plan : (id : ℕ) (planned : List Filed) (f : Filed) → AllByRecursion HasFormedPlan planned → filed_for id planned ≡ Some f → HasForms f.plan
formed_plan id planned f all is = subst (λ (o : Option Filed). IfSome o HasFormedPlan) is (found_each HasFormedPlan (λ (x : Filed). release_of x == id) planned all)

file_makes : (u : State) (actor key : List ℕ) (id leg : ℕ) (last : Plan) (call : Call) → file u actor key id leg last ≡ Makes call → ⊥
file_makes u actor key id leg last call is =
    let held = release_makes (release_at id u.releases) (file_for u actor leg last) call (unless_makes (no_dispatcher u actor key) (on_release (release_at id u.releases) (file_for u actor leg last)) call is) in
    let r : Release = held.0 in
    let one = unless_makes (out_of_phase (is_active r.phase) r.phase) _ call held.1 in
    let two = unless_makes (not_yours r.holder actor) _ call one in
    let three = unless_makes (bad_final u.tables r.phase r.active leg last) _ call two in
    absurd (says_makes _ call three)

check_makes : (u : State) (planned : List Filed) (actor key : List ℕ) (id : ℕ) (call : Call) → unless (unknown u actor key) (on_release (release_at id u.releases) (check_for u planned id)) ≡ Makes call → ⊥
check_makes u planned actor key id call is =
    let held = release_makes (release_at id u.releases) (check_for u planned id) call (unless_makes (unknown u actor key) (on_release (release_at id u.releases) (check_for u planned id)) call is) in
    let filed : FiledMakes (filed_for id planned) (check_of u held.0) call = filed_makes (filed_for id planned) (check_of u held.0) call held.1 in
    absurd (says_makes _ call (unless_makes (out_of_phase (is_active held.0.phase) held.0.phase) _ call filed.goes_on))

pub made_forms : (u : State) (planned : List Filed) (l : PlannedLine) (call : Call) → PlannedHasForms l → AllByRecursion HasFormedPlan planned → comes_to u planned l ≡ Makes call → CallHasForms call
unfolding comes_to
made_forms u planned (Asked at c) call forms all is = subst CallHasForms (same_call c call is) forms.1
made_forms u planned (File at actor key release leg plan) call forms all is = absurd (file_makes u actor key release leg plan call is)
made_forms u planned (Check at actor key release) call forms all is = absurd (check_makes u planned actor key release call is)
made_forms u planned (Turn at actor key number release) call forms all is =
    let t : TurnMakes u planned (turn_call actor key number release) release call = turn_makes u planned (turn_call actor key number release) release call is in
    subst CallHasForms (sym t.amends) (record { actor = forms.1; key = forms.2; number = forms.3; ask = (forms.4, formed_plan release planned t.filed all t.found) })

-- ---- a call that is made proposes what its line does

turn_proposes : (planned : List Filed) (release id : ℕ) (plan : Plan) (f : Filed) → filed_for release planned ≡ Some f → (release ≡ id) × (f.plan ≡ plan) → (release ≡ id) × IsFinalPlan planned id plan
turn_proposes planned release id plan f found both = (both.0, record { filed = f; found = ap (λ n. filed_for n planned) (sym both.0) ∙ found; plan_is = both.1 })

pub made_proposes : (u : State) (planned : List Filed) (l : PlannedLine) (call : Call) (id : ℕ) (plan : Plan) → comes_to u planned l ≡ Makes call → Proposes id plan call.ask → LineProposes id plan planned (Ok l)
unfolding comes_to
made_proposes u planned (Asked at c) call id plan is proposes = subst (λ (x : Call). Proposes id plan x.ask) (sym (same_call c call is)) proposes
made_proposes u planned (File at actor key release leg last) call id plan is proposes = absurd (file_makes u actor key release leg last call is)
made_proposes u planned (Check at actor key release) call id plan is proposes = absurd (check_makes u planned actor key release call is)
made_proposes u planned (Turn at actor key number release) call id plan is proposes =
    let t : TurnMakes u planned (turn_call actor key number release) release call = turn_makes u planned (turn_call actor key number release) release call is in
    turn_proposes planned release id plan t.filed t.found (subst (λ (x : Call). Proposes id plan x.ask) t.amends proposes)

-- ---- nothing that a line comes to is a refusal as not kept

abbrev NotUnkept : Refusal → Type 0
NotUnkept why = (n : ℕ) → why ≡ refusal.Unkept n → ⊥

abbrev Quiet : Came → Type 0
Quiet (Says x) = (n : ℕ) → IsLineUnkept n x → ⊥
Quiet (Makes call) = Unit {0}

quiet_refusal : (why : Refusal) (n : ℕ) → NotUnkept why → IsLineUnkept n (replies (Refused why)) → ⊥
quiet_refusal why n other is = other n (cc)

quiet_unless : (o : Option Refusal) (rest : Came) → IfSome o NotUnkept → Quiet rest → Quiet (unless o rest)
quiet_unless None rest other quiet = quiet
quiet_unless (Some why) rest other quiet = λ n is. quiet_refusal why n other is

quiet_if : (b : Bool) (why : Refusal) → NotUnkept why → IfSome (refused_if b why) NotUnkept
quiet_if true why other = other
quiet_if false why other = tt

quiet_mistaken : (p : Option Actor) (key : List ℕ) → IfSome (mistaken p key) NotUnkept
quiet_mistaken None key = λ n is. absurd (cc)
quiet_mistaken (Some person) key = quiet_if _ refusal.WrongKey (λ n is. absurd (cc))

quiet_line : (p : Option Actor) → IfSome (not_his_line p) NotUnkept
quiet_line None = λ n is. absurd (cc)
quiet_line (Some person) = quiet_if _ refusal.NotYourRole (λ n is. absurd (cc))

quiet_or : (one two : Option Refusal) → IfSome one NotUnkept → IfSome two NotUnkept → IfSome (option_or one two) NotUnkept
quiet_or None two a b = b
quiet_or (Some why) two a b = a

quiet_dispatcher : (u : State) (actor key : List ℕ) → IfSome (no_dispatcher u actor key) NotUnkept
quiet_dispatcher u actor key = quiet_or (unknown u actor key) (not_his_line (actor_of u.tables actor)) (quiet_mistaken (actor_of u.tables actor) key) (quiet_line (actor_of u.tables actor))

quiet_phase : (b : Bool) (phase : Phase) → IfSome (out_of_phase b phase) NotUnkept
quiet_phase b phase = quiet_if _ (refusal.WrongPhase phase) (λ n is. absurd (cc))

quiet_yours : (holder actor : List ℕ) → IfSome (not_yours holder actor) NotUnkept
quiet_yours holder actor = quiet_if _ (refusal.NotYours holder) (λ n is. absurd (cc))

quiet_bad : (o : Option BadPlan) → IfSome (bad_plan o) NotUnkept
quiet_bad None = tt
quiet_bad (Some bad) = λ n is. absurd (cc)

quiet_final : (tables : TableRows) (phase : Phase) (active : Option Revision) (leg : ℕ) (last : Plan) → IfSome (bad_final tables phase active leg last) NotUnkept
quiet_final tables phase None leg last = tt
quiet_final tables phase (Some v) leg last = quiet_bad (final_fault tables phase v.plan leg last)

quiet_release : (o : Option Release) (goes : Release → Came) → ((r : Release) → Quiet (goes r)) → Quiet (on_release o goes)
quiet_release None goes each = λ n is. absurd (cc)
quiet_release (Some r) goes each = each r

quiet_filed : (o : Option Filed) (goes : Filed → Came) → ((f : Filed) → Quiet (goes f)) → Quiet (on_filed o goes)
quiet_filed None goes each = λ n is. absurd is
quiet_filed (Some f) goes each = each f

quiet_file : (u : State) (actor : List ℕ) (leg : ℕ) (last : Plan) (r : Release) → Quiet (file_for u actor leg last r)
quiet_file u actor leg last r =
    quiet_unless (out_of_phase (is_active r.phase) r.phase) _ (quiet_phase (is_active r.phase) r.phase) (quiet_unless (not_yours r.holder actor) _ (quiet_yours r.holder actor)
    (quiet_unless (bad_final u.tables r.phase r.active leg last) _ (quiet_final u.tables r.phase r.active leg last) (λ n is. absurd (cc))))

quiet_check : (u : State) (r : Release) (f : Filed) → Quiet (check_of u r f)
quiet_check u r f = quiet_unless (out_of_phase (is_active r.phase) r.phase) _ (quiet_phase (is_active r.phase) r.phase) (λ n is. absurd (cc))

abbrev QuietSaid : Option LineSaid → Type 0
QuietSaid o = IfSome o (λ x. (n : ℕ) → IsLineUnkept n x → ⊥)

quiet_as : (o : Option Refusal) → IfSome o NotUnkept → QuietSaid (as_said o)
quiet_as None other = tt
quiet_as (Some why) other = λ n is. quiet_refusal why n other is

quiet_failing : (fs : List Finding) → QuietSaid (failing fs)
quiet_failing [] = tt
quiet_failing (f ∷ fs) = λ n is. absurd is

quiet_either : (one two : Option LineSaid) → QuietSaid one → QuietSaid two → QuietSaid (option_or one two)
quiet_either None two a b = b
quiet_either (Some x) two a b = a

quiet_kept : (k : Bool) (o : Option LineSaid) → QuietSaid o → QuietSaid (unless_kept k o)
quiet_kept true o quiet = tt
quiet_kept false o quiet = quiet

quiet_says : (o : Option LineSaid) (call : Call) → QuietSaid o → Quiet (says_or o (Makes call))
quiet_says None call quiet = tt
quiet_says (Some x) call quiet = quiet

quiet_turn : (u : State) (c : Call) (id : ℕ) (r : Release) (f : Filed) → Quiet (turn_of u c id r f)
quiet_turn u c id r f =
    quiet_says (unless_kept (is_some (kept_at c.actor c.number u.kept)) (turn_refusal u c.actor r f)) (turned c id f)
    (quiet_kept (is_some (kept_at c.actor c.number u.kept)) (turn_refusal u c.actor r f)
    (quiet_either (as_said (out_of_phase (is_flying r.phase f.leg) r.phase)) _ (quiet_as (out_of_phase (is_flying r.phase f.leg) r.phase) (quiet_phase (is_flying r.phase f.leg) r.phase))
    (quiet_either (as_said (not_yours r.holder c.actor)) _ (quiet_as (not_yours r.holder c.actor) (quiet_yours r.holder c.actor)) (quiet_failing (final_findings (grounds_of u) f)))))

comes_quiet : (u : State) (planned : List Filed) (l : PlannedLine) → Quiet (comes_to u planned l)
unfolding comes_to
comes_quiet u planned (Asked at call) = tt
comes_quiet u planned (File at actor key release leg plan) =
    quiet_unless (no_dispatcher u actor key) _ (quiet_dispatcher u actor key) (quiet_release (release_at release u.releases) (file_for u actor leg plan) (λ r. quiet_file u actor leg plan r))
comes_quiet u planned (Check at actor key release) =
    quiet_unless (unknown u actor key) _ (quiet_mistaken (actor_of u.tables actor) key)
    (quiet_release (release_at release u.releases) (check_for u planned release) (λ r. quiet_filed (filed_for release planned) (check_of u r) (λ f. quiet_check u r f)))
comes_quiet u planned (Turn at actor key number release) =
    quiet_unless (no_dispatcher u actor key) _ (quiet_dispatcher u actor key)
    (quiet_release (release_at release u.releases) (turn_for u planned (turn_call actor key number release) release)
    (λ r. quiet_filed (filed_for release planned) (turn_of u (turn_call actor key number release) release r) (λ f. quiet_turn u (turn_call actor key number release) release r f)))

-- what a line comes to at once isn't `Unkept`
pub says_quiet : (u : State) (planned : List Filed) (l : PlannedLine) (x : LineSaid) (n : ℕ) → comes_to u planned l ≡ Says x → IsLineUnkept n x → ⊥
says_quiet u planned l x n is unkept = (subst Quiet is (comes_quiet u planned l)) n unkept

-- ---- what is filed

said_files : (u : State) (planned : List Filed) (l : PlannedLine) (c : Came) (says : LineSaid) (old new : List Filed) → comes_to u planned l ≡ c → IsSaidOf c says → IsFiledBy l c old new
    → new ≡ filed_by_line l says old
unfolding comes_to
said_files u planned (Asked at call) c says old new is said filed = filed
said_files u planned (File at actor key release leg plan) (Says x) says old new is said filed = filed ∙ ap (λ (y : LineSaid). filed_if (is_done y) (final_plan release leg plan) old) (sym said)
said_files u planned (File at actor key release leg plan) (Makes call) says old new is said filed = absurd (file_makes u actor key release leg plan call is)
said_files u planned (Check at actor key release) c says old new is said filed = filed
said_files u planned (Turn at actor key number release) c says old new is said filed = filed

-- what a line files follows from what was said
pub done_files : {E : Type 0} (r : Result LineMade E) (u : State) (planned : List Filed) (l : PlannedLine) (c : Came) (old new : List Filed) → c ≡ comes_to u planned l
    → IfOk r (λ x. IsSaidOf c x.outcome.said) → IsFiledBy l c old new → IfOk r (λ x. new ≡ filed_by_line l x.outcome.said old)
done_files (Ok x) u planned l c old new is said filed = said_files u planned l c x.outcome.said old new (sym is) said filed
done_files (Err e) u planned l c old new is said filed = tt
