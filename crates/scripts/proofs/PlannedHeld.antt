-- What is known of a release that a planned line names, and of what is filed for it.
use Rattle.std.proofs.Common.{◌≡◌, ℕ, ◌==◌, Bool, true, false, cond, List, [], ◌∷◌, Option, None, Some, IfSome, option_map, refl, ap, sym, ◌∙◌, subst, arith}
use Rattle.std.specs.Prelude.{MatchResult, Result, Ok, Err}
use Rattle.std.proofs.lemmas.Bool.Decides.{nat_tests}
use Rattle.std.specs.List.{AllByRecursion}
use Rattle.asks.specs.declared.call.Ask.TheVariants as ask
use Rattle.asks.specs.declared.call.Call.{Call}
use Rattle.asks.specs.declared.reply.Refusal.{Refusal}
use Rattle.asks.specs.declared.reply.Refusal.TheVariants as refusal_of
use Rattle.asks.specs.declared.reply.Reply.TheVariants.{Refused}
use Rattle.desk.specs.Keeping.{KeptAt}
use Rattle.desk_json.specs.declared.planned.PlannedLine.TheVariants.{Asked, File, Check, Turn}
use Rattle.desk_state.proofs.Deciding.{found_fits}
use Rattle.desk_state.specs.Decide.{bad_plan}
use Rattle.desk_state.specs.Sound.{Fits, IsBoard, RevisionInBounds}
use Rattle.desk_state.specs.State.{State, release_at}
use Rattle.ops_tables.specs.Tables.{TableRows}
use Rattle.plan.specs.Phases.{is_active, is_flying}
use Rattle.plan.specs.Texts.{HasMoment}
use Rattle.plan.specs.declared.check.BadPlan.{BadPlan}
use Rattle.plan.specs.declared.flights.Plan.{Plan}
use Rattle.plan.specs.declared.release.Phase.{Phase}
use Rattle.plan.specs.declared.release.Phase.TheVariants.{Drafted, Ready, Flying, Stopped, Completed, Cancelled}
use Rattle.plan.specs.declared.release.Release.{Release}
use Rattle.plan.specs.declared.release.Revision.{Revision}
use Rattle.redispatch.proofs.FiledLaws.{formed_once_filed}
use Rattle.redispatch.specs.Filed.{HasFormedPlan, filed_for, final_plan}
use Rattle.redispatch.specs.Filing.{HasPlanIf, HasPlanInForce, IsFaultOf, final_fault, refusal, refusal_beside, refusal_if}
use Rattle.redispatch.specs.Turns.{amendment, amendment_for, turned}
use Rattle.redispatch.specs.declared.filing.FileFault.{FileFault}
use Rattle.redispatch.specs.declared.filing.FileFault.TheVariants as fault
use Rattle.redispatch.specs.declared.planned.Filed.{Filed}
use Rattle.release_text.specs.Valid.{IsPhased}
use Rattle.scripts.specs.PlannedAnswers.{IsLineAnswered}
use Rattle.scripts.specs.PlannedRuns.{PlannedItem, filed_by, filed_if, is_done}
use Rattle.scripts.specs.PlannedShown.{IsLineFormed}
use Rattle.scripts.specs.PlannedTests.{bad_final, replies, unless}
use Rattle.scripts.specs.declared.planned_said.Came.{Came}
use Rattle.scripts.specs.declared.planned_said.Came.TheVariants.{Says}
use Rattle.scripts.specs.declared.planned_said.LineOutcome.{LineOutcome}
use Rattle.scripts.specs.declared.planned_said.LineSaid.{LineSaid}

-- ---- the release

id_by : (id : ℕ) (q : Release) (b : Bool) (o : Option Release) → (q.id == id) ≡ b → IfSome o (λ r. r.id ≡ id) → IfSome (cond b (Some q) o) (λ r. r.id ≡ id)
id_by id q true o e later = grind (arith, nat_tests, e)
id_by id q false o e later = later

has_its_id : (id : ℕ) (rs : List Release) → IfSome (release_at id rs) (λ r. r.id ≡ id)
has_its_id id [] = tt
has_its_id id (q ∷ rs) = id_by id q (q.id == id) (release_at id rs) refl (has_its_id id rs)

pub found_id : (id : ℕ) (rs : List Release) (o : Option Release) → o ≡ release_at id rs → IfSome o (λ r. r.id ≡ id)
found_id id rs o is = subst (λ (p : Option Release). IfSome p (λ r. r.id ≡ id)) (sym is) (has_its_id id rs)

plan_if : (phase : Phase) (pending active : Option Revision) → IsPhased phase pending active → IfSome active RevisionInBounds → HasPlanIf (is_active phase) active
plan_if Drafted pending active phased bounds = tt
plan_if Ready pending None phased bounds = absurd phased
plan_if Ready pending (Some v) phased bounds = bounds.is_plan
plan_if (Flying leg) pending None phased bounds = absurd phased
plan_if (Flying leg) pending (Some v) phased bounds = bounds.is_plan
plan_if (Stopped next since again) pending None phased bounds = absurd phased
plan_if (Stopped next since again) pending (Some v) phased bounds = bounds.is_plan
plan_if (Completed at) pending active phased bounds = tt
plan_if (Cancelled at) pending active phased bounds = tt

fits_plan : (most : ℕ) (o : Option Release) → IfSome o (Fits most) → IfSome o HasPlanInForce
fits_plan most None fits = tt
fits_plan most (Some r) fits = plan_if r.phase r.pending r.active fits.stands.valid.phased fits.kept.active

fits_moment : (most : ℕ) (o : Option Release) → IfSome o (Fits most) → IfSome o (λ r. HasMoment r.phase)
fits_moment most None fits = tt
fits_moment most (Some r) fits = fits.kept.moment

-- a release that is active has a plan in force
pub found_plan : (opening s : State) (id : ℕ) (o : Option Release) → o ≡ release_at id s.releases → IsBoard opening s → IfSome o HasPlanInForce
found_plan opening s id o is board = fits_plan s.counters.events o (found_fits s id o is board.sound board.kept)

pub found_moment : (opening s : State) (id : ℕ) (o : Option Release) → o ≡ release_at id s.releases → IsBoard opening s → IfSome o (λ r. HasMoment r.phase)
found_moment opening s id o is board = fits_moment s.counters.events o (found_fits s id o is board.sound board.kept)

active_flying : (phase : Phase) (leg : ℕ) → is_flying phase leg ≡ true → is_active phase ≡ true
active_flying Drafted leg is = absurd (cc)
active_flying Ready leg is = refl
active_flying (Flying in_flight) leg is = refl
active_flying (Stopped next since again) leg is = refl
active_flying (Completed at) leg is = absurd (cc)
active_flying (Cancelled at) leg is = absurd (cc)

-- a release with a leg in flight is active
pub flying_active : (phase : Phase) (leg : ℕ) → is_flying phase leg ≡ true → is_active phase ≡ true
flying_active phase leg is = active_flying phase leg is

-- ---- the tests of a final plan

none_bad : (o : Option BadPlan) → option_map fault.Bad o ≡ None → bad_plan o ≡ None
none_bad None is = refl
none_bad (Some bad) is = absurd (cc)

one_bad : (o : Option BadPlan) (bad : BadPlan) → option_map fault.Bad o ≡ Some (fault.Bad bad) → bad_plan o ≡ Some (refusal_of.BadPlan bad.leg bad.why)
one_bad None bad is = absurd (cc)
one_bad (Some found) bad is = let same : found ≡ bad = cc in ap (λ (b : BadPlan). Some (refusal_of.BadPlan b.leg b.why)) same

not_inactive : (o : Option BadPlan) → option_map fault.Bad o ≡ Some fault.NotActive → ⊥
not_inactive None is = absurd (cc)
not_inactive (Some found) is = absurd (cc)

abbrev beside : TableRows → Phase → Option Revision → ℕ → Plan → Option BadPlan
beside tables phase None leg last = None
beside tables phase (Some v) leg last = final_fault tables phase v.plan leg last

bad_beside : (tables : TableRows) (phase : Phase) (active : Option Revision) (leg : ℕ) (last : Plan) → bad_final tables phase active leg last ≡ bad_plan (beside tables phase active leg last)
bad_beside tables phase None leg last = refl
bad_beside tables phase (Some v) leg last = refl

refusal_beside_is : (tables : TableRows) (phase : Phase) (active : Option Revision) (leg : ℕ) (last : Plan) → refusal_beside tables phase active leg last ≡ option_map fault.Bad (beside tables phase active leg last)
refusal_beside_is tables phase None leg last = refl
refusal_beside_is tables phase (Some v) leg last = refl

-- an active release is refused by the tests of the plan alone
refused_as : (tables : TableRows) (r : Release) (leg : ℕ) (last : Plan) → is_active r.phase ≡ true → refusal tables r leg last ≡ option_map fault.Bad (beside tables r.phase r.active leg last)
unfolding refusal
refused_as tables r leg last active = ap (λ (b : Bool). refusal_if b tables r leg last) active ∙ refusal_beside_is tables r.phase r.active leg last

-- a plan that is filed fails no test
pub filed_good : (tables : TableRows) (r : Release) (leg : ℕ) (last : Plan) → is_active r.phase ≡ true → refusal tables r leg last ≡ None → bad_final tables r.phase r.active leg last ≡ None
filed_good tables r leg last active none =
    bad_beside tables r.phase r.active leg last ∙ none_bad (beside tables r.phase r.active leg last) (sym (refused_as tables r leg last active) ∙ none)

fault_found : (o : Option FileFault) (f : FileFault) → IsFaultOf o f → (f ≡ fault.OutOfMemory → ⊥) → o ≡ Some f
fault_found None f is other = absurd (other is)
fault_found (Some found) f is other = ap Some (sym is)

-- a plan that is refused fails this test
pub refused_bad : (tables : TableRows) (r : Release) (leg : ℕ) (last : Plan) (bad : BadPlan) → is_active r.phase ≡ true → IsFaultOf (refusal tables r leg last) (fault.Bad bad)
    → bad_final tables r.phase r.active leg last ≡ Some (refusal_of.BadPlan bad.leg bad.why)
refused_bad tables r leg last bad active is =
    bad_beside tables r.phase r.active leg last
    ∙ one_bad (beside tables r.phase r.active leg last) bad (sym (refused_as tables r leg last active) ∙ fault_found (refusal tables r leg last) (fault.Bad bad) is (λ e. absurd (cc)))

-- an active release isn't refused as inactive
pub never_inactive : (tables : TableRows) (r : Release) (leg : ℕ) (last : Plan) → is_active r.phase ≡ true → IsFaultOf (refusal tables r leg last) fault.NotActive → ⊥
never_inactive tables r leg last active is =
    not_inactive (beside tables r.phase r.active leg last) (sym (refused_as tables r leg last active) ∙ fault_found (refusal tables r leg last) fault.NotActive is (λ e. absurd (cc)))

-- ---- the amendment

-- a turn's call stands for the amendment with the plan that is filed
pub amends_as : (planned : List Filed) (call : Call) (id : ℕ) (f : Filed) → call.ask ≡ ask.Prepare id → filed_for id planned ≡ Some f → amendment planned call ≡ Some (turned call id f)
amends_as planned call id f asks filed = ap (amendment_for planned call) asks ∙ ap (option_map (turned call id)) filed

-- ---- what a test leaves

pub passes_as : (o : Option Refusal) (one rest : Came) → o ≡ None → one ≡ rest → one ≡ unless o rest
passes_as o one rest none same = same ∙ sym (ap (λ (p : Option Refusal). unless p rest) none)

pub refused_by : (o : Option Refusal) (why : Refusal) (one rest : Came) → o ≡ Some why → one ≡ unless (Some why) rest → one ≡ unless o rest
refused_by o why one rest is same = same ∙ sym (ap (λ (p : Option Refusal). unless p rest) is)

-- ---- the answers of filing

on_file : {A : Type 0} (r : Result A FileFault) (f : FileFault) (tables u : TableRows) (q : Release) (leg : ℕ) (last : Plan) → tables ≡ u → r ≡ Err f
    → MatchResult r (λ _. refusal tables q leg last ≡ None) (IsFaultOf (refusal tables q leg last)) → IsFaultOf (refusal u q leg last) f
on_file {A} r f tables u q leg last same is has =
    subst (λ (t : TableRows). IsFaultOf (refusal t q leg last) f) same
    (subst (λ (x : Result A FileFault). MatchResult x (λ _. refusal tables q leg last ≡ None) (IsFaultOf (refusal tables q leg last))) is has)

-- an active release is never refused as inactive
pub never_as : {A : Type 0} (r : Result A FileFault) (f : FileFault) (tables u : TableRows) (q : Release) (leg : ℕ) (last : Plan) → is_active q.phase ≡ true → tables ≡ u → r ≡ Err f → f ≡ fault.NotActive
    → MatchResult r (λ _. refusal tables q leg last ≡ None) (IsFaultOf (refusal tables q leg last)) → ⊥
never_as {A} r f tables u q leg last active same is what has =
    never_inactive u q leg last active (subst (λ (x : FileFault). IsFaultOf (refusal u q leg last) x) what (on_file {A = A} r f tables u q leg last same is has))

-- a plan that is filed passes its tests
pub filed_as : {A : Type 0} (r : Result A FileFault) (a : A) (tables u : TableRows) (q : Release) (leg : ℕ) (last : Plan) (x : LineSaid) (y : LineSaid) → is_active q.phase ≡ true → tables ≡ u → r ≡ Ok a
    → MatchResult r (λ _. refusal tables q leg last ≡ None) (IsFaultOf (refusal tables q leg last)) → x ≡ y → Says x ≡ unless (bad_final u q.phase q.active leg last) (Says y)
filed_as {A} r a tables u q leg last x y active same is has says =
    passes_as (bad_final u q.phase q.active leg last) (Says x) (Says y)
    (filed_good u q leg last active
    (subst (λ (t : TableRows). refusal t q leg last ≡ None) same
    (subst (λ (z : Result A FileFault). MatchResult z (λ _. refusal tables q leg last ≡ None) (IsFaultOf (refusal tables q leg last))) is has)))
    (ap (λ (z : LineSaid). Says z) says)

-- a plan that is refused fails the test
pub refused_plan : {A : Type 0} (r : Result A FileFault) (f : FileFault) (bad : BadPlan) (tables u : TableRows) (q : Release) (leg : ℕ) (last : Plan) (x : LineSaid) (rest : Came) → is_active q.phase ≡ true
    → tables ≡ u → r ≡ Err f → f ≡ fault.Bad bad → MatchResult r (λ _. refusal tables q leg last ≡ None) (IsFaultOf (refusal tables q leg last))
    → x ≡ replies (Refused (refusal_of.BadPlan bad.leg bad.why)) → Says x ≡ unless (bad_final u q.phase q.active leg last) rest
refused_plan {A} r f bad tables u q leg last x rest active same is what has says =
    refused_by (bad_final u q.phase q.active leg last) (refusal_of.BadPlan bad.leg bad.why) (Says x) rest
    (refused_bad u q leg last bad active (subst (λ (y : FileFault). IsFaultOf (refusal u q leg last) y) what (on_file {A = A} r f tables u q leg last same is has)))
    (ap (λ (z : LineSaid). Says z) says)

-- ---- what is filed stays well-formed

filed_formed : (b : Bool) (f : Filed) (planned : List Filed) → HasFormedPlan f → AllByRecursion HasFormedPlan planned → AllByRecursion HasFormedPlan (filed_if b f planned)
filed_formed false f planned formed all = all
filed_formed true f planned formed all = formed_once_filed f planned (filed_if true f planned) refl formed all

pub later_formed : (i : PlannedItem) (says : LineSaid) (planned : List Filed) → IsLineFormed i → AllByRecursion HasFormedPlan planned → AllByRecursion HasFormedPlan (filed_by i says planned)
later_formed (Err bad) says planned formed all = all
later_formed (Ok (Asked at call)) says planned formed all = all
later_formed (Ok (File at actor key release leg plan)) says planned formed all = filed_formed (is_done says) (final_plan release leg plan) planned formed.5 all
later_formed (Ok (Check at actor key release)) says planned formed all = all
later_formed (Ok (Turn at actor key number release)) says planned formed all = all

-- the plans that are filed after a line is answered
pub stay_formed : (before after : KeptAt) (s : State) (planned : List Filed) (i : PlannedItem) (t : State) (filed : List Filed) (o : LineOutcome) → IsLineAnswered before after s planned i t filed o → IsLineFormed i
    → AllByRecursion HasFormedPlan planned → AllByRecursion HasFormedPlan filed
stay_formed before after s planned i t filed o answered formed all = subst (AllByRecursion HasFormedPlan) (sym answered.filed_is) (later_formed i o.said planned formed all)

-- nothing is filed
pub none_formed : (planned : List Filed) → planned ≡ [] → AllByRecursion HasFormedPlan planned
none_formed planned none = subst (AllByRecursion HasFormedPlan) (sym none) tt
