-- What `why` and `check` print: every comparison of the rules for the revisions of a release, or for a plan.
use Rattle.std.specs.Prelude.{ℕ, List, [], ◌++◌, codes, Option, None, Some}
use Rattle.asks.specs.declared.reply.Refusal.TheVariants.{NoSuchRelease}
use Rattle.asks.specs.declared.reply.Reply.TheVariants.{Refused}
use Rattle.desk_json.specs.Replies.{reply_text}
use Rattle.desk_state.specs.Decide.{once_signed}
use Rattle.desk_state.specs.State.{State, grounds_of, release_at}
use Rattle.plan.specs.declared.flights.Plan.{Plan}
use Rattle.plan.specs.declared.release.Phase.{Phase}
use Rattle.plan.specs.declared.release.Phase.TheVariants.{Drafted}
use Rattle.plan.specs.declared.release.Release.{Release}
use Rattle.plan.specs.declared.release.Revision.{Revision}
use Rattle.sheet.specs.Sheet.{sheet_of}
use Rattle.sheet_text.specs.Sheets.{failing_first, heading, moment_line}
use Rattle.sheet_text.specs.declared.sheets.Which.{Which}
use Rattle.sheet_text.specs.declared.sheets.Which.TheVariants.{Active, Pending}

-- the sheet of a plan in a phase, by what the desk holds at its moment
unfoldable pub plan_sheet : State → Plan → Phase → List ℕ
plan_sheet s plan phase = failing_first (sheet_of plan phase (grounds_of s))

-- The moment, and the sheet of a plan that nobody has filed, which is judged as at the signatures of a draft.
unfoldable pub check_text : State → Plan → List ℕ
check_text s plan = moment_line s.moment ++ plan_sheet s plan (once_signed Drafted)

-- the sheet of a revision in a phase, below its heading
unfoldable pub revision_sheet : State → ℕ → Which → Phase → Revision → List ℕ
revision_sheet s release which phase v = heading release v.number which v.plan s.moment ++ plan_sheet s v.plan phase

-- an active revision is judged in the phase of its release
abbrev pub active_sheet : State → ℕ → Phase → Option Revision → List ℕ
active_sheet s release phase None = []
active_sheet s release phase (Some v) = revision_sheet s release Active phase v

-- a pending revision is judged in the phase after its signatures
abbrev pub pending_sheet : State → ℕ → Phase → Option Revision → List ℕ
pending_sheet s release phase None = []
pending_sheet s release phase (Some v) = revision_sheet s release Pending (once_signed phase) v

-- the sheets of the revisions of a release
unfoldable pub release_sheets : State → Release → List ℕ
release_sheets s r = active_sheet s r.id r.phase r.active ++ pending_sheet s r.id r.phase r.pending

-- the line of the refusal that a view of the release gets
abbrev pub no_release : List ℕ
no_release = reply_text (Refused NoSuchRelease) ++ codes "\n"

abbrev pub sheets_of : State → Option Release → List ℕ
sheets_of s None = no_release
sheets_of s (Some r) = release_sheets s r

-- the sheets of the revisions of the release with this id, or that the desk holds none
unfoldable pub why_text : State → ℕ → List ℕ
why_text s id = sheets_of s (release_at id s.releases)
