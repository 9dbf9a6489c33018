-- What a planned line comes to in a state of the desk, beside the final plans that earlier lines filed (14 CFR
-- 121.631). A number in parentheses is that of the refusal in the user's guide.
use Rattle.std.specs.Prelude.{ℕ, Bool, true, false, not, List, [], ◌∷◌, ◌++◌, codes, decimal, Option, None, Some, is_some}
use Rattle.std.specs.List.{concat}
use Rattle.std.specs.Option.{option_or}
use Rattle.asks.specs.declared.call.Ask.TheVariants as ask
use Rattle.asks.specs.declared.call.Call.{Call}
use Rattle.asks.specs.declared.reply.Done.TheVariants as done
use Rattle.asks.specs.declared.reply.Refusal.{Refusal}
use Rattle.asks.specs.declared.reply.Refusal.TheVariants as refusal
use Rattle.asks.specs.declared.reply.Reply.{Reply}
use Rattle.asks.specs.declared.reply.Reply.TheVariants.{Done, Seen, Refused}
use Rattle.desk_json.specs.declared.line_replies.LineRefusal.TheVariants as line_refusal
use Rattle.desk_json.specs.declared.planned.PlannedLine.{PlannedLine}
use Rattle.desk_json.specs.declared.planned.PlannedLine.TheVariants.{Asked, File, Check, Turn}
use Rattle.desk_state.specs.Chain.{refused_if}
use Rattle.desk_state.specs.Decide.{not_yours, out_of_phase, bad_plan}
use Rattle.desk_state.specs.People.{is_dispatcher, mistaken}
use Rattle.desk_state.specs.Requests.{kept_at}
use Rattle.desk_state.specs.State.{State, grounds_of, release_at}
use Rattle.desk_state.specs.Texts.{findings_text}
use Rattle.desk_state.specs.declared.lanes.Said.TheVariants as said
use Rattle.ops_tables.specs.Rows.{Actor}
use Rattle.ops_tables.specs.Tables.{TableRows, actor_of}
use Rattle.plan.specs.Phases.{is_active, is_flying}
use Rattle.plan.specs.declared.findings.Finding.{Finding}
use Rattle.plan.specs.declared.flights.Plan.{Plan}
use Rattle.plan.specs.declared.release.Phase.{Phase}
use Rattle.plan.specs.declared.release.Phase.TheVariants.{Flying}
use Rattle.plan.specs.declared.release.Release.{Release}
use Rattle.plan.specs.declared.release.Revision.{Revision}
use Rattle.redispatch.specs.Filed.{filed_for}
use Rattle.redispatch.specs.Filing.{final_fault}
use Rattle.redispatch.specs.Turns.{turned}
use Rattle.redispatch.specs.declared.planned.Filed.{Filed}
use Rattle.rules.specs.Grounds.{Grounds}
use Rattle.rules.specs.Judgement.{findings_of}
use Rattle.scripts.specs.declared.planned_said.Came.{Came}
use Rattle.scripts.specs.declared.planned_said.Came.TheVariants.{Says, Makes}
use Rattle.scripts.specs.declared.planned_said.LineSaid.{LineSaid}
use Rattle.scripts.specs.declared.planned_said.LineSaid.TheVariants as line

-- ---- what the desk says

abbrev pub replies : Reply → LineSaid
replies reply = line.Said (said.Reply reply)

-- ---- tests: the first that fails gives the refusal

abbrev pub unless : Option Refusal → Came → Came
unless None rest = rest
unless (Some why) rest = Says (replies (Refused why))

-- the release, or none has the id (10)
abbrev pub on_release : Option Release → (Release → Came) → Came
on_release None goes = Says (replies (Refused refusal.NoSuchRelease))
on_release (Some r) goes = goes r

-- the final plan that is filed for a release, or there is none (35)
abbrev pub on_filed : Option Filed → (Filed → Came) → Came
on_filed None goes = Says (line.Refused line_refusal.NotPlanned)
on_filed (Some f) goes = goes f

-- a test that may refuse as calls are refused
abbrev pub as_said : Option Refusal → Option LineSaid
as_said None = None
as_said (Some why) = Some (replies (Refused why))

-- the final plan fails rules (36)
abbrev pub failing : List Finding → Option LineSaid
failing [] = None
failing (f ∷ fs) = Some (line.Refused (line_refusal.FinalFails (f ∷ fs)))

abbrev pub says_or : Option LineSaid → Came → Came
says_or None rest = rest
says_or (Some says) rest = Says says

-- nobody has this name (1), or the key is wrong (2)
abbrev pub unknown : State → List ℕ → List ℕ → Option Refusal
unknown u actor key = mistaken (actor_of u.tables actor) key

abbrev pub not_his_line : Option Actor → Option Refusal
not_his_line None = Some refusal.NotYourRole
not_his_line (Some person) = refused_if (not (is_dispatcher person.role)) refusal.NotYourRole

-- the same, or the person is no dispatcher (3)
abbrev pub no_dispatcher : State → List ℕ → List ℕ → Option Refusal
no_dispatcher u actor key = option_or (unknown u actor key) (not_his_line (actor_of u.tables actor))

-- ---- file

-- the final plan fails a test (12)
abbrev pub bad_final : TableRows → Phase → Option Revision → ℕ → Plan → Option Refusal
bad_final tables phase None leg last = None
bad_final tables phase (Some v) leg last = bad_plan (final_fault tables phase v.plan leg last)

-- A final plan for a leg of a release is filed unless the release isn't active (18), another dispatcher holds it (11), or
-- the plan fails a test (12).
abbrev pub file_for : State → List ℕ → ℕ → Plan → Release → Came
file_for u actor leg last r =
    unless (out_of_phase (is_active r.phase) r.phase) (unless (not_yours r.holder actor) (unless (bad_final u.tables r.phase r.active leg last)
    (Says (replies (Done (done.Release r.id))))))

abbrev pub file : State → List ℕ → List ℕ → ℕ → ℕ → Plan → Came
file u actor key id leg last = unless (no_dispatcher u actor key) (on_release (release_at id u.releases) (file_for u actor leg last))

-- ---- check

-- the rules that the active plan fails now
abbrev pub initial_findings : Grounds → Phase → Option Revision → List Finding
initial_findings g phase None = []
initial_findings g phase (Some v) = findings_of v.plan phase g

-- the rules that a final plan fails now, while its leg is in flight
abbrev pub final_findings : Grounds → Filed → List Finding
final_findings g f = findings_of f.plan (Flying f.leg) g

abbrev pub check_head : ℕ → ℕ → List ℕ
check_head id leg = concat (codes "PLANNED " ∷ decimal id ∷ codes " LEG " ∷ decimal leg ∷ codes "\n" ∷ [])

-- three lines: the release and the leg, what the active plan fails, and what the final plan fails
unfoldable pub check_text : ℕ → ℕ → List Finding → List Finding → List ℕ
check_text id leg initial last =
    check_head id leg ++ concat (codes "INITIAL" ∷ findings_text initial ∷ codes "\nFINAL" ∷ findings_text last ∷ codes "\n" ∷ [])

abbrev pub check_of : State → Release → Filed → Came
check_of u r f =
    unless (out_of_phase (is_active r.phase) r.phase)
    (Says (replies (Seen (check_text r.id f.leg (initial_findings (grounds_of u) r.phase r.active) (final_findings (grounds_of u) f)))))

abbrev pub check_for : State → List Filed → ℕ → Release → Came
check_for u planned id r = on_filed (filed_for id planned) (check_of u r)

abbrev pub check : State → List Filed → List ℕ → List ℕ → ℕ → Came
check u planned actor key id = unless (unknown u actor key) (on_release (release_at id u.releases) (check_for u planned id))

-- ---- turn

-- the call that stands for a turn
abbrev pub turn_call : List ℕ → List ℕ → ℕ → ℕ → Call
turn_call actor key number id = record { actor = actor; key = key; number = number; ask = ask.Prepare id }

-- why a turn with a new number is refused: the leg isn't in flight (18), another dispatcher holds the release (11), or
-- the final plan fails rules (36)
abbrev pub turn_refusal : State → List ℕ → Release → Filed → Option LineSaid
turn_refusal u actor r f =
    option_or (as_said (out_of_phase (is_flying r.phase f.leg) r.phase)) (option_or (as_said (not_yours r.holder actor)) (failing (final_findings (grounds_of u) f)))

-- A turn whose number has a kept reply isn't tested anew.
abbrev pub unless_kept : Bool → Option LineSaid → Option LineSaid
unless_kept true refusal = None
unless_kept false refusal = refusal

abbrev pub turn_of : State → Call → ℕ → Release → Filed → Came
turn_of u call id r f = says_or (unless_kept (is_some (kept_at call.actor call.number u.kept)) (turn_refusal u call.actor r f)) (Makes (turned call id f))

abbrev pub turn_for : State → List Filed → Call → ℕ → Release → Came
turn_for u planned call id r = on_filed (filed_for id planned) (turn_of u call id r)

abbrev pub turn : State → List Filed → Call → ℕ → Came
turn u planned call id = unless (no_dispatcher u call.actor call.key) (on_release (release_at id u.releases) (turn_for u planned call id))

-- ---- a line

-- what a line comes to in a state: a call is made, and a planned line gets what the desk says or amends the release
unfoldable pub comes_to : State → List Filed → PlannedLine → Came
comes_to u planned (Asked at call) = Makes call
comes_to u planned (File at actor key release leg plan) = file u actor key release leg plan
comes_to u planned (Check at actor key release) = check u planned actor key release
comes_to u planned (Turn at actor key number release) = turn u planned (turn_call actor key number release) release
