-- The call or the line that a text represents, or its first fault.
use Rattle.std.specs.Prelude.{◌≡◌, ◌⊎◌, ℕ, Bool, true, false, if◌then◌else◌, is_some, List, [], Option, None, Some, codes, option_and_then, Result, Ok, Err}
use Rattle.std.specs.Ordering.{nat_cmp, is_gt}
use Rattle.std.specs.Cmp.Lexicographic.{slice_cmp}
use Rattle.std.specs.Str.{bytes_eq}
use Rattle.serde_json.specs.Data.{Data}
use Rattle.serde_json.specs.Find.{get, as_object}
use Rattle.plan.specs.declared.flights.Plan.{Plan}
use Rattle.asks.specs.declared.call.Call.{Call}
use Rattle.asks.specs.declared.call.Ask.{Ask}
use Rattle.asks.specs.declared.call.Ask.TheVariants.{Admit, Defer, Clear, Draft, Prepare, Sign, Concur, Amend, Cancel, Depart, Arrive, Acknowledge, Purge, Sweep, ViewBoard, ViewAlerts, ViewRelease, ViewWeather, ViewDeferred}
use Rattle.asks.specs.Digests.{digest_at}
use Rattle.asks.specs.Plans.{plan_of}
use Rattle.asks.specs.Fields.{data_of, text_at, number_at, id_at, amount_at, short_at, station_at, moment_at}
use Rattle.asks.specs.declared.bad_call.BadCall.{BadCall}
use Rattle.asks.specs.declared.bad_call.CallWhy.TheVariants.{NotJson, Extra, UnknownAsk}
use Rattle.desk_json.specs.declared.keys.AskKind.{AskKind}
use Rattle.desk_json.specs.declared.keys.AskKind.TheVariants as kind
use Rattle.desk_json.specs.declared.keys.Object.{Object}
use Rattle.desk_json.specs.declared.keys.Object.TheVariants as object
use Rattle.desk_json.specs.declared.senders.Sender.{Sender}
use Rattle.desk_json.specs.declared.asked.Signed.{Signed}
use Rattle.desk_json.specs.declared.asked.Flown.{Flown}
use Rattle.desk_json.specs.declared.bad_call.CallFault.{CallFault}
use Rattle.desk_json.specs.declared.bad_call.CallFault.TheVariants as fault
use Rattle.desk_json.specs.Keys.{bad, lack, only_keys, and_then, need}

-- the kind of ask with this name
abbrev pub kind_of : List ℕ → Option AskKind
kind_of name =
    if bytes_eq name (codes "admit") then Some kind.Admit
    else (if bytes_eq name (codes "draft") then Some kind.Draft
    else (if bytes_eq name (codes "amend") then Some kind.Amend
    else (if bytes_eq name (codes "defer") then Some kind.Defer
    else (if bytes_eq name (codes "clear") then Some kind.Clear
    else (if bytes_eq name (codes "deferred") then Some kind.Deferred
    else (if bytes_eq name (codes "prepare") then Some kind.Prepare
    else (if bytes_eq name (codes "sign") then Some kind.Sign
    else (if bytes_eq name (codes "concur") then Some kind.Concur
    else (if bytes_eq name (codes "cancel") then Some kind.Cancel
    else (if bytes_eq name (codes "depart") then Some kind.Depart
    else (if bytes_eq name (codes "arrive") then Some kind.Arrive
    else (if bytes_eq name (codes "acknowledge") then Some kind.Acknowledge
    else (if bytes_eq name (codes "purge") then Some kind.Purge
    else (if bytes_eq name (codes "sweep") then Some kind.Sweep
    else (if bytes_eq name (codes "board") then Some kind.Board
    else (if bytes_eq name (codes "alerts") then Some kind.Alerts
    else (if bytes_eq name (codes "release") then Some kind.Release
    else (if bytes_eq name (codes "weather") then Some kind.Weather else None))))))))))))))))))

-- ---- asks, key by key

abbrev pub plan_at : List ℕ → Data → Option Plan
plan_at key d = option_and_then plan_of (get key d)

abbrev pub release_of : Data → Result ℕ BadCall
release_of d = need id_at (codes "release") d

abbrev pub defer_of : Data → Result Ask BadCall
defer_of d =
    and_then (need moment_at (codes "found") d) (λ found.
    and_then (need short_at (codes "item") d) (λ item.
    and_then (need short_at (codes "tail") d) (λ tail. Ok (Defer tail item found))))

abbrev pub signed_of : Data → Result Signed BadCall
signed_of d =
    and_then (need digest_at (codes "digest") d) (λ digest.
    and_then (release_of d) (λ release.
    and_then (need id_at (codes "revision") d) (λ revision. Ok (record { release = release; revision = revision; digest = digest }))))

abbrev pub amend_of : Data → Result Ask BadCall
amend_of d = and_then (need plan_at (codes "plan") d) (λ plan. and_then (release_of d) (λ release. Ok (Amend release plan)))

abbrev pub flown_of : Data → Result Flown BadCall
flown_of d = and_then (need amount_at (codes "leg") d) (λ leg. and_then (release_of d) (λ release. Ok (record { release = release; leg = leg })))

abbrev pub acknowledge_of : Data → Result Ask BadCall
acknowledge_of d = and_then (release_of d) (λ release. and_then (need id_at (codes "version") d) (λ version. Ok (Acknowledge release version)))

-- the ask of a kind, read from its keys
abbrev pub ask_of_kind : AskKind → Data → Result Ask BadCall
ask_of_kind kind.Admit d = and_then (need text_at (codes "text") d) (λ text. Ok (Admit text))
ask_of_kind kind.Defer d = defer_of d
ask_of_kind kind.Clear d = and_then (need id_at (codes "deferral") d) (λ deferral. Ok (Clear deferral))
ask_of_kind kind.Draft d = and_then (need plan_at (codes "plan") d) (λ plan. Ok (Draft plan))
ask_of_kind kind.Prepare d = and_then (release_of d) (λ release. Ok (Prepare release))
ask_of_kind kind.Sign d = and_then (signed_of d) (λ s. Ok (Sign s.release s.revision s.digest))
ask_of_kind kind.Concur d = and_then (signed_of d) (λ s. Ok (Concur s.release s.revision s.digest))
ask_of_kind kind.Amend d = amend_of d
ask_of_kind kind.Cancel d = and_then (release_of d) (λ release. Ok (Cancel release))
ask_of_kind kind.Depart d = and_then (flown_of d) (λ f. Ok (Depart f.release f.leg))
ask_of_kind kind.Arrive d = and_then (flown_of d) (λ f. Ok (Arrive f.release f.leg))
ask_of_kind kind.Acknowledge d = acknowledge_of d
ask_of_kind kind.Purge d = and_then (release_of d) (λ release. Ok (Purge release))
ask_of_kind kind.Sweep d = and_then (need moment_at (codes "before") d) (λ before. Ok (Sweep before))
ask_of_kind kind.Board d = Ok ViewBoard
ask_of_kind kind.Alerts d = Ok ViewAlerts
ask_of_kind kind.Release d = and_then (release_of d) (λ release. Ok (ViewRelease release))
ask_of_kind kind.Weather d = and_then (need station_at (codes "station") d) (λ station. Ok (ViewWeather station))
ask_of_kind kind.Deferred d = and_then (need short_at (codes "tail") d) (λ tail. Ok (ViewDeferred tail))

-- what an object of a kind represents: first no unexpected key, then each key
abbrev pub named_by : {K A : Type 0} → (K → Object) → (K → Data → Result A BadCall) → Option K → Data → Result A BadCall
named_by keys fields None d = Err (bad UnknownAsk (codes "do"))
named_by keys fields (Some k) d = and_then (only_keys (keys k) d) (λ only. fields k d)

-- what an object represents: first its name, then whether there is such a kind, then its keys
abbrev pub named : {K A : Type 0} → (List ℕ → Option K) → (K → Object) → (K → Data → Result A BadCall) → Data → Result A BadCall
named kind_of keys fields d = and_then (need text_at (codes "do") d) (λ name. named_by keys fields (kind_of name) d)

abbrev pub ask_by : Option AskKind → Data → Result Ask BadCall
ask_by k d = named_by (λ k. object.Asked k) ask_of_kind k d

-- the ask of an object
abbrev pub ask_or_fault : Data → Result Ask BadCall
ask_or_fault d = named kind_of (λ k. object.Asked k) ask_of_kind d

-- ---- calls and lines

abbrev pub if_object : Data → Option Data
if_object d = if is_some (as_object d) then Some d else None

-- the object at a key
abbrev pub object_at : List ℕ → Data → Option Data
object_at key d = option_and_then if_object (get key d)

-- the number of a request, at most 10^12
abbrev pub request_at : List ℕ → Data → Option ℕ
request_at key d = number_at key 1_000_000_000_000 d

abbrev pub call_with : List ℕ → List ℕ → ℕ → Ask → Call
call_with actor key number ask = record { actor = actor; key = key; number = number; ask = ask }

-- the key, the number and the ask of a call whose other keys are read already
abbrev pub call_by : List ℕ → Data → Data → Result Call BadCall
call_by actor ask d =
    and_then (need short_at (codes "key") d) (λ key.
    and_then (need request_at (codes "number") d) (λ number.
    and_then (ask_or_fault ask) (λ asked. Ok (call_with actor key number asked))))

-- the keys of a call, and then its ask
abbrev pub call_fields : Data → Result Call BadCall
call_fields d =
    and_then (need short_at (codes "actor") d) (λ actor.
    and_then (need object_at (codes "ask") d) (λ ask. call_by actor ask d))

-- the first keys of a line, and then the rest
abbrev pub line_with : {A : Type 0} → Data → (List ℕ → Data → ℕ → Result A BadCall) → Result A BadCall
line_with d rest =
    and_then (need short_at (codes "actor") d) (λ actor.
    and_then (need object_at (codes "ask") d) (λ ask.
    and_then (need moment_at (codes "at") d) (λ at. rest actor ask at)))

-- the keys of a line, and then its ask
abbrev pub line_fields : Data → Result (ℕ × Call) BadCall
line_fields d = line_with d (λ actor ask at. and_then (call_by actor ask d) (λ call. Ok (at, call)))

abbrev pub sent_by : ℕ → List ℕ → List ℕ → Sender
sent_by at actor key = record { at = at; actor = actor; key = key }

-- who sends a relief line or a planned line, when, and with which key
abbrev pub sender_of : Data → Result Sender BadCall
sender_of d =
    and_then (need short_at (codes "actor") d) (λ actor.
    and_then (need moment_at (codes "at") d) (λ at.
    and_then (need short_at (codes "key") d) (λ key. Ok (sent_by at actor key))))

abbrev pub call_in : Data → Result Call BadCall
call_in d = and_then (only_keys object.Call d) (λ only. call_fields d)

abbrev pub line_in : Data → Result (ℕ × Call) BadCall
line_in d = and_then (only_keys object.Line d) (λ only. line_fields d)

-- the value read from JSON, if the text is JSON
abbrev pub read_as : {A : Type 0} → (Data → Result A BadCall) → Option Data → Result A BadCall
read_as f None = Err (bad NotJson [])
read_as f (Some d) = f d

-- the call that a text represents, or its first fault
unfoldable pub call_or_fault : List ℕ → Result Call BadCall
call_or_fault text = read_as call_in (data_of text)

-- the moment and the call that a line represents, or its first fault
unfoldable pub line_or_fault : List ℕ → Result (ℕ × Call) BadCall
line_or_fault line = read_as line_in (data_of line)

-- ---- results of readers

-- The reader returns this value, exactly this fault, or out of memory.
abbrev pub Answers : {A : Type 0} → Result A BadCall → Result A CallFault → Type 0
Answers r (Ok x) = r ≡ Ok x
Answers r (Err (fault.Bad b)) = r ≡ Err b
Answers r (Err fault.OutOfMemory) = Unit {0}

-- The reader returns this value, or out of memory.
abbrev pub Gives : {A : Type 0} → A → Result A CallFault → Type 0
Gives x (Ok read) = read ≡ x
Gives x (Err (fault.Bad b)) = ⊥
Gives x (Err fault.OutOfMemory) = Unit {0}

-- The fault is this one, or out of memory.
abbrev pub IsFault : BadCall → CallFault → Type 0
IsFault b (fault.Bad told) = told ≡ b
IsFault b fault.OutOfMemory = Unit {0}

-- The result for an unexpected key: the fault is Extra, at a key that isn't after this one in byte order.
abbrev pub IsExtraNamed : {A : Type 0} → List ℕ → Result A CallFault → Type 0
IsExtraNamed k (Ok x) = ⊥
IsExtraNamed k (Err (fault.Bad b)) = (b.why ≡ Extra) × (is_gt (slice_cmp nat_cmp b.key k) ≡ false)
IsExtraNamed k (Err fault.OutOfMemory) = Unit {0}

-- The reader names the smallest unexpected key of an object, unless memory runs out. Which keys are expected may depend
-- on the object.
abbrev pub NamesExtraOf : {A : Type 0} → (Data → List ℕ → Bool) → List ℕ → Result A CallFault → Type 0
NamesExtraOf expected text r = (d : Data) (k : List ℕ) → data_of text ≡ Some d → is_some (get k d) ≡ true → expected d k ≡ false → IsExtraNamed k r

abbrev pub NamesExtra : {A : Type 0} → (List ℕ → Bool) → List ℕ → Result A CallFault → Type 0
NamesExtra expected text r = NamesExtraOf (λ d. expected) text r

-- this key can't be read: it is missing, or its value is malformed or out of range
abbrev pub IsUnread : {A : Type 0} → (List ℕ → Data → Option A) → List ℕ → Data → List ℕ → Type 0
IsUnread read key d k = (k ≡ key) × (read key d ≡ None)

-- one of the keys of a call
abbrev pub IsUnreadOfCall : Data → List ℕ → Type 0
IsUnreadOfCall d k = IsUnread short_at (codes "actor") d k ⊎ (IsUnread short_at (codes "key") d k ⊎ (IsUnread request_at (codes "number") d k ⊎ IsUnread object_at (codes "ask") d k))

-- one of the keys of the sender of a line
abbrev pub IsUnreadOfSender : Data → List ℕ → Type 0
IsUnreadOfSender d k = IsUnread short_at (codes "actor") d k ⊎ (IsUnread moment_at (codes "at") d k ⊎ IsUnread short_at (codes "key") d k)

-- one of the keys of a line
abbrev pub IsUnreadOfLine : Data → List ℕ → Type 0
IsUnreadOfLine d k = IsUnread moment_at (codes "at") d k ⊎ IsUnreadOfCall d k

-- The result for a key that can't be read. The fault names an unexpected key of the object. Or it names, with its own
-- reason, a key that can't be read and isn't after this one in byte order.
abbrev pub IsUnreadNamed : {A : Type 0} → (List ℕ → Bool) → (Data → List ℕ → Type 0) → Data → List ℕ → Result A CallFault → Type 0
IsUnreadNamed expected unread d k (Ok x) = ⊥
IsUnreadNamed expected unread d k (Err (fault.Bad b)) =
    ((b.why ≡ Extra) × (is_some (get b.key d) ≡ true) × (expected b.key ≡ false))
    ⊎ ((b.why ≡ lack (get b.key d)) × unread d b.key × (is_gt (slice_cmp nat_cmp b.key k) ≡ false))
IsUnreadNamed expected unread d k (Err fault.OutOfMemory) = Unit {0}

-- The reader names the smallest key that can't be read, unless a key is unexpected or memory runs out.
abbrev pub NamesUnreadOf : {A : Type 0} → (Data → List ℕ → Bool) → (Data → List ℕ → Type 0) → List ℕ → Result A CallFault → Type 0
NamesUnreadOf expected unread text r =
    (d : Data) (k : List ℕ) → data_of text ≡ Some d → is_some (as_object d) ≡ true → unread d k → IsUnreadNamed (expected d) unread d k r

abbrev pub NamesUnread : {A : Type 0} → (List ℕ → Bool) → (Data → List ℕ → Type 0) → List ℕ → Result A CallFault → Type 0
NamesUnread expected unread text r = NamesUnreadOf (λ d. expected) unread text r
