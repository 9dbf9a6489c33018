-- The lines of a script of planned redispatches: a call at a moment, or a planned line.
use Rattle.std.specs.Prelude.{◌≡◌, ◌⊎◌, ℕ, Bool, false, if◌then◌else◌, MatchBool, List, Option, None, Some, codes, Result, Ok}
use Rattle.std.specs.Str.{bytes_eq}
use Rattle.serde_json.specs.Data.{Data, object, Members, member, no_members, put, string}
use Rattle.serde_json.specs.Find.{get}
use Rattle.desk_time.specs.Limits.{IsMoment}
use Rattle.plan.specs.declared.flights.Plan.{Plan}
use Rattle.asks.specs.declared.bad_call.BadCall.{BadCall}
use Rattle.asks.specs.declared.call.Call.{Call}
use Rattle.asks.specs.Canonical.{count, plan_data}
use Rattle.asks.specs.Fields.{data_of, text_at, id_at, amount_at, moment_at}
use Rattle.asks.specs.Forms.{IsShort, IsId, IsAmount, IsRequest, HasForms, CallHasForms}
use Rattle.desk_json.specs.declared.bad_call.CallFault.{CallFault}
use Rattle.desk_json.specs.declared.keys.Object.{Object}
use Rattle.desk_json.specs.declared.keys.Object.TheVariants as of
use Rattle.desk_json.specs.declared.keys.PlannedKind.{PlannedKind}
use Rattle.desk_json.specs.declared.keys.PlannedKind.TheVariants as kind
use Rattle.desk_json.specs.declared.planned.PlannedLine.{PlannedLine}
use Rattle.desk_json.specs.declared.planned.PlannedLine.TheVariants.{Asked, File, Check, Turn}
use Rattle.desk_json.specs.declared.senders.Sender.{Sender}
use Rattle.desk_json.specs.Keys.{is_key, is_line_key, is_planned_key, is_turn_key, only_keys, and_then, need}
use Rattle.desk_json.specs.Faults.{plan_at, release_of, object_at, request_at, line_fields, named, sent_by, sender_of, line_in, read_as, Answers, Gives, IsUnread, IsUnreadOfSender, IsUnreadOfLine}
use Rattle.desk_json.specs.Calls.{HasOnly, HasCall, HasSender, IsNamed}
use Rattle.desk_json.specs.Canonical.{line_data, sender_members}

-- ---- what a line is

abbrev pub is_turn_name : Option (List ℕ) → Bool
is_turn_name None = false
is_turn_name (Some name) = bytes_eq name (codes "turn")

-- a turn: an object whose `do` is the text `turn`
abbrev pub is_turn : Data → Bool
is_turn planned = is_turn_name (text_at (codes "do") planned)

-- A line is a planned line exactly if it has the key `planned`. A turn also has a number.
abbrev pub planned_object : Option Data → Object
planned_object None = of.Line
planned_object (Some planned) = if is_turn planned then of.Turn else of.Planned

-- ---- planned lines, key by key

-- the kind with this name, besides a turn
abbrev pub planned_kind_of : List ℕ → Option PlannedKind
planned_kind_of name = if bytes_eq name (codes "file") then Some kind.File else (if bytes_eq name (codes "check") then Some kind.Check else None)

-- the line of a kind, read from the keys of its `planned`
abbrev pub filed_of_kind : Sender → PlannedKind → Data → Result PlannedLine BadCall
filed_of_kind sender kind.File d =
    and_then (need amount_at (codes "leg") d) (λ leg.
    and_then (need plan_at (codes "plan") d) (λ plan.
    and_then (release_of d) (λ release. Ok (File sender.at sender.actor sender.key release leg plan))))
filed_of_kind sender kind.Check d = and_then (release_of d) (λ release. Ok (Check sender.at sender.actor sender.key release))

abbrev pub filed_or_fault : Sender → Data → Result PlannedLine BadCall
filed_or_fault sender d = named planned_kind_of (λ k. of.Filed k) (filed_of_kind sender) d

-- the keys of a planned line that isn't a turn, and then what it files or checks
abbrev pub filed_fields : Data → Result PlannedLine BadCall
filed_fields d =
    and_then (sender_of d) (λ sender.
    and_then (need object_at (codes "planned") d) (λ planned. filed_or_fault sender planned))

-- the release of a turn
abbrev pub turned_of : Data → Result ℕ BadCall
turned_of planned = and_then (only_keys of.Turned planned) (λ only. release_of planned)

-- the keys of a turn, and then its release
abbrev pub turn_fields : Data → Result PlannedLine BadCall
turn_fields d =
    and_then (sender_of d) (λ sender.
    and_then (need request_at (codes "number") d) (λ number.
    and_then (need object_at (codes "planned") d) (λ planned.
    and_then (turned_of planned) (λ release. Ok (Turn sender.at sender.actor sender.key number release)))))

abbrev pub asked_fields : Data → Result PlannedLine BadCall
asked_fields d = and_then (line_fields d) (λ line. Ok (Asked line.0 line.1))

abbrev pub planned_fields : Option Data → Data → Result PlannedLine BadCall
planned_fields None d = asked_fields d
planned_fields (Some planned) d = if is_turn planned then turn_fields d else filed_fields d

-- a line: first no unexpected key, then each key
abbrev pub planned_in : Data → Result PlannedLine BadCall
planned_in d = and_then (only_keys (planned_object (get (codes "planned") d)) d) (λ only. planned_fields (get (codes "planned") d) d)

-- what a line of a script of planned redispatches represents, or its first fault
unfoldable pub planned_or_fault : List ℕ → Result PlannedLine BadCall
planned_or_fault line = read_as planned_in (data_of line)

-- ---- faults

-- the keys that a line may have
abbrev pub may_have : Data → List ℕ → Bool
may_have d k = is_key (planned_object (get (codes "planned") d)) k

-- one of the keys of a planned line that isn't a turn
abbrev pub IsUnreadOfFiled : Data → List ℕ → Type 0
IsUnreadOfFiled d k = IsUnread object_at (codes "planned") d k ⊎ IsUnreadOfSender d k

-- One of the keys of a turn. Its `planned` is an object.
abbrev pub IsUnreadOfTurn : Data → List ℕ → Type 0
IsUnreadOfTurn d k = IsUnread request_at (codes "number") d k ⊎ IsUnreadOfSender d k

abbrev pub IsUnreadBy : Option Data → Data → List ℕ → Type 0
IsUnreadBy None d k = IsUnreadOfLine d k
IsUnreadBy (Some planned) d k = MatchBool (is_turn planned) (IsUnreadOfTurn d k) (IsUnreadOfFiled d k)

-- one of the keys of a line
abbrev pub IsUnreadOfPlanned : Data → List ℕ → Type 0
IsUnreadOfPlanned d k = IsUnreadBy (get (codes "planned") d) d k

-- ---- which texts are lines, whatever the order in which faults are looked for

-- an object with a moment, the fields of a call, and nothing else
pub record HasAsked (d : Data) (at : ℕ) (call : Call) : Type 0 where
  pub only : HasOnly is_line_key d
  pub moment : moment_at (codes "at") d ≡ Some at
  pub fields : HasCall d call

-- an object with the fields of a line that files a plan, and nothing else
pub record HasFile (d : Data) (s : Sender) (id leg_number : ℕ) (final : Plan) : Type 0 where
  pub only : HasOnly is_planned_key d
  pub sender : HasSender d s
  pub inner : Data
  pub found : get (codes "planned") d ≡ Some inner
  pub name : IsNamed inner (codes "file") (is_key (of.Filed kind.File))
  pub leg : amount_at (codes "leg") inner ≡ Some leg_number
  pub plan : plan_at (codes "plan") inner ≡ Some final
  pub release : id_at (codes "release") inner ≡ Some id

-- an object with the fields of a line that checks a release, and nothing else
pub record HasCheck (d : Data) (s : Sender) (id : ℕ) : Type 0 where
  pub only : HasOnly is_planned_key d
  pub sender : HasSender d s
  pub inner : Data
  pub found : get (codes "planned") d ≡ Some inner
  pub name : IsNamed inner (codes "check") (is_key (of.Filed kind.Check))
  pub release : id_at (codes "release") inner ≡ Some id

-- an object with the fields of a turn, and nothing else
pub record HasTurn (d : Data) (s : Sender) (request id : ℕ) : Type 0 where
  pub only : HasOnly is_turn_key d
  pub sender : HasSender d s
  pub number : request_at (codes "number") d ≡ Some request
  pub inner : Data
  pub found : get (codes "planned") d ≡ Some inner
  pub name : IsNamed inner (codes "turn") (is_key of.Turned)
  pub release : id_at (codes "release") inner ≡ Some id

abbrev pub HasPlanned : Data → PlannedLine → Type 0
HasPlanned d (Asked at call) = HasAsked d at call
HasPlanned d (File at actor key release leg plan) = HasFile d (sent_by at actor key) release leg plan
HasPlanned d (Check at actor key release) = HasCheck d (sent_by at actor key) release
HasPlanned d (Turn at actor key number release) = HasTurn d (sent_by at actor key) number release

-- a text with the fields of a line and nothing else
pub record IsPlannedOf (text : List ℕ) (line : PlannedLine) : Type 0 where
  pub value : Data
  pub json : data_of text ≡ Some value
  pub fields : HasPlanned value line

-- A line without the key `planned` is read as a line of any script.
abbrev pub IsLine : List ℕ → Result PlannedLine CallFault → Type 0
IsLine text read = (d : Data) → data_of text ≡ Some d → get (codes "planned") d ≡ None → Answers (and_then (line_in d) (λ line. Ok (Asked line.0 line.1))) read

-- ---- lines as JSON

-- the members of a `planned` with this name and this release
abbrev pub planned_members : List ℕ → ℕ → Members
planned_members name release = member (codes "do") (string name) (member (codes "release") (count release) no_members)

abbrev pub file_members : ℕ → ℕ → Plan → Members
file_members release leg plan = put (codes "plan") (plan_data plan) (put (codes "leg") (count leg) (planned_members (codes "file") release))

-- the JSON of a line with this `planned`
abbrev pub with_planned : Members → ℕ → List ℕ → List ℕ → Members
with_planned planned at actor key = put (codes "planned") (object planned) (sender_members at actor key)

-- the JSON of a line
unfoldable pub planned_line_data : PlannedLine → Data
planned_line_data (Asked at call) = line_data at call
planned_line_data (File at actor key release leg plan) = object (with_planned (file_members release leg plan) at actor key)
planned_line_data (Check at actor key release) = object (with_planned (planned_members (codes "check") release) at actor key)
planned_line_data (Turn at actor key number release) =
    object (put (codes "number") (count number) (with_planned (planned_members (codes "turn") release) at actor key))

-- a line whose fields have their forms
abbrev pub PlannedHasForms : PlannedLine → Type 0
PlannedHasForms (Asked at call) = IsMoment at × CallHasForms call
PlannedHasForms (File at actor key release leg plan) = IsMoment at × IsShort actor × IsShort key × IsId release × IsAmount leg × HasForms plan
PlannedHasForms (Check at actor key release) = IsMoment at × IsShort actor × IsShort key × IsId release
PlannedHasForms (Turn at actor key number release) = IsMoment at × IsShort actor × IsShort key × IsRequest number × IsId release

-- The reader returns the line whose JSON a text is, if its fields have their forms. Out of memory may come instead.
abbrev pub IsPlannedAgain : List ℕ → Result PlannedLine CallFault → Type 0
IsPlannedAgain text read = (line : PlannedLine) → PlannedHasForms line → data_of text ≡ Some (planned_line_data line) → Gives line read
