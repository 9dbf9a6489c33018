-- The lines of a script of shifts: a call at a moment, maybe for a desk, or a relief line.
use Rattle.std.specs.Prelude.{◌≡◌, ◌⊎◌, ℕ, Bool, true, if◌then◌else◌, is_some, List, Option, None, Some, IfSome, codes, Result, Ok}
use Rattle.std.specs.Str.{bytes_eq}
use Rattle.serde_json.specs.Data.{Data, object, Members, member, no_members, put, string}
use Rattle.serde_json.specs.Find.{get}
use Rattle.desk_time.specs.Limits.{IsMoment}
use Rattle.asks.specs.declared.bad_call.BadCall.{BadCall}
use Rattle.asks.specs.declared.call.Call.{Call}
use Rattle.asks.specs.Canonical.{text_data}
use Rattle.asks.specs.Fields.{data_of, short_at, moment_at}
use Rattle.asks.specs.Forms.{IsShort, CallHasForms}
use Rattle.desk_json.specs.declared.bad_call.CallFault.{CallFault}
use Rattle.desk_json.specs.declared.keys.DealKind.{DealKind}
use Rattle.desk_json.specs.declared.keys.DealKind.TheVariants as kind
use Rattle.desk_json.specs.declared.keys.Object.{Object}
use Rattle.desk_json.specs.declared.keys.Object.TheVariants as of
use Rattle.desk_json.specs.declared.senders.Sender.{Sender}
use Rattle.desk_json.specs.declared.shifts.Deal.{Deal}
use Rattle.desk_json.specs.declared.shifts.Deal.TheVariants.{Offer, Accept}
use Rattle.desk_json.specs.declared.shifts.ShiftLine.{ShiftLine}
use Rattle.desk_json.specs.declared.shifts.ShiftLine.TheVariants.{Asked, Relief}
use Rattle.desk_json.specs.Keys.{is_key, is_shift_key, is_relief_key, only_keys, and_then, need}
use Rattle.desk_json.specs.Faults.{object_at, line_with, call_by, named, sent_by, sender_of, line_in, read_as, Answers, Gives, IsUnread, IsUnreadOfSender, IsUnreadOfLine}
use Rattle.desk_json.specs.Calls.{HasOnly, HasCall, HasSender, IsNamed}
use Rattle.desk_json.specs.Canonical.{line_members, sender_members}

-- ---- deals

-- the kind of deal with this name
abbrev pub deal_kind_of : List ℕ → Option DealKind
deal_kind_of name = if bytes_eq name (codes "offer") then Some kind.Offer else (if bytes_eq name (codes "accept") then Some kind.Accept else None)

-- the deal of a kind, read from its keys
abbrev pub deal_of_kind : DealKind → Data → Result Deal BadCall
deal_of_kind kind.Offer d =
    and_then (need short_at (codes "desk") d) (λ desk. and_then (need short_at (codes "to") d) (λ to. Ok (Offer desk to)))
deal_of_kind kind.Accept d = and_then (need short_at (codes "desk") d) (λ desk. Ok (Accept desk))

-- the deal of an object
abbrev pub deal_or_fault : Data → Result Deal BadCall
deal_or_fault d = named deal_kind_of (λ k. of.Deal k) deal_of_kind d

-- ---- lines

-- A line is a relief line exactly if it has the key `relief`.
abbrev pub shift_object : Option Data → Object
shift_object None = of.Shift
shift_object (Some relief) = of.Relief

-- the value at a key that may be missing
abbrev pub maybe : {A : Type 0} → Option Data → Result A BadCall → Result (Option A) BadCall
maybe None r = Ok None
maybe (Some d) r = and_then r (λ x. Ok (Some x))

-- the desk of a line, if it names one
abbrev pub desk_of : Data → Result (Option (List ℕ)) BadCall
desk_of d = maybe (get (codes "desk") d) (need short_at (codes "desk") d)

-- the keys of a call at a moment, maybe for a desk, and then its ask
abbrev pub asked_fields : Data → Result ShiftLine BadCall
asked_fields d = line_with d (λ actor ask at. and_then (desk_of d) (λ desk. and_then (call_by actor ask d) (λ call. Ok (Asked at call desk))))

-- the keys of a relief line, and then its deal
abbrev pub relief_fields : Data → Result ShiftLine BadCall
relief_fields d =
    and_then (sender_of d) (λ sender.
    and_then (need object_at (codes "relief") d) (λ relief.
    and_then (deal_or_fault relief) (λ deal. Ok (Relief sender.at sender.actor sender.key deal))))

abbrev pub shift_fields : Option Data → Data → Result ShiftLine BadCall
shift_fields None d = asked_fields d
shift_fields (Some relief) d = relief_fields d

-- a line: first no unexpected key, then each key
abbrev pub shift_in : Data → Result ShiftLine BadCall
shift_in d = and_then (only_keys (shift_object (get (codes "relief") d)) d) (λ only. shift_fields (get (codes "relief") d) d)

-- what a line of a script of shifts represents, or its first fault
unfoldable pub shift_or_fault : List ℕ → Result ShiftLine BadCall
shift_or_fault line = read_as shift_in (data_of line)

-- ---- faults

-- the keys that a line may have
abbrev pub may_have : Data → List ℕ → Bool
may_have d k = is_key (shift_object (get (codes "relief") d)) k

-- one of the keys of a relief line
abbrev pub IsUnreadOfRelief : Data → List ℕ → Type 0
IsUnreadOfRelief d k = IsUnread object_at (codes "relief") d k ⊎ IsUnreadOfSender d k

-- one of the keys of a call at a moment; the desk may be missing
abbrev pub IsUnreadOfAsked : Data → List ℕ → Type 0
IsUnreadOfAsked d k = ((is_some (get (codes "desk") d) ≡ true) × IsUnread short_at (codes "desk") d k) ⊎ IsUnreadOfLine d k

abbrev pub IsUnreadBy : Option Data → Data → List ℕ → Type 0
IsUnreadBy None d k = IsUnreadOfAsked d k
IsUnreadBy (Some relief) d k = IsUnreadOfRelief d k

-- one of the keys of a line
abbrev pub IsUnreadOfShift : Data → List ℕ → Type 0
IsUnreadOfShift d k = IsUnreadBy (get (codes "relief") d) d k

-- ---- which texts are lines, whatever the order in which faults are looked for

-- an object with the name and the fields of a deal, and nothing else
abbrev pub HasDeal : Data → Deal → Type 0
HasDeal d (Offer desk to) =
    IsNamed d (codes "offer") (is_key (of.Deal kind.Offer)) × (short_at (codes "desk") d ≡ Some desk) × (short_at (codes "to") d ≡ Some to)
HasDeal d (Accept desk) = IsNamed d (codes "accept") (is_key (of.Deal kind.Accept)) × (short_at (codes "desk") d ≡ Some desk)

-- the desk, or no such key
abbrev pub HasDesk : Data → Option (List ℕ) → Type 0
HasDesk d None = get (codes "desk") d ≡ None
HasDesk d (Some desk) = short_at (codes "desk") d ≡ Some desk

-- an object with a moment, the fields of a call and maybe a desk, and nothing else
pub record HasAsked (d : Data) (at : ℕ) (call : Call) (named_desk : Option (List ℕ)) : Type 0 where
  pub only : HasOnly is_shift_key d
  pub moment : moment_at (codes "at") d ≡ Some at
  pub fields : HasCall d call
  pub desk : HasDesk d named_desk

-- an object with the fields of a relief line and nothing else
pub record HasRelief (d : Data) (s : Sender) (made : Deal) : Type 0 where
  pub only : HasOnly is_relief_key d
  pub sender : HasSender d s
  pub inner : Data
  pub found : get (codes "relief") d ≡ Some inner
  pub deal : HasDeal inner made

abbrev pub HasShift : Data → ShiftLine → Type 0
HasShift d (Asked at call desk) = HasAsked d at call desk
HasShift d (Relief at actor key deal) = HasRelief d (sent_by at actor key) deal

-- a text with the fields of a line and nothing else
pub record IsShiftOf (text : List ℕ) (line : ShiftLine) : Type 0 where
  pub value : Data
  pub json : data_of text ≡ Some value
  pub fields : HasShift value line

-- A line without the keys `relief` and `desk` is read as a line of any script.
abbrev pub IsLine : List ℕ → Result ShiftLine CallFault → Type 0
IsLine text read =
    (d : Data) → data_of text ≡ Some d → get (codes "relief") d ≡ None → get (codes "desk") d ≡ None → Answers (and_then (line_in d) (λ line. Ok (Asked line.0 line.1 None))) read

-- ---- lines as JSON

abbrev pub deal_members : Deal → Members
deal_members (Offer desk to) = member (codes "desk") (text_data desk) (member (codes "do") (string (codes "offer")) (member (codes "to") (text_data to) no_members))
deal_members (Accept desk) = member (codes "desk") (text_data desk) (member (codes "do") (string (codes "accept")) no_members)

-- the JSON of a deal
abbrev pub deal_data : Deal → Data
deal_data deal = object (deal_members deal)

abbrev pub with_desk : Option (List ℕ) → Members → Members
with_desk None ms = ms
with_desk (Some desk) ms = put (codes "desk") (text_data desk) ms

-- the JSON of a line
unfoldable pub shift_data : ShiftLine → Data
shift_data (Asked at call desk) = object (with_desk desk (line_members at call))
shift_data (Relief at actor key deal) = object (put (codes "relief") (deal_data deal) (sender_members at actor key))

-- a deal whose names are UTF-8 and have at most 64 bytes
abbrev pub DealHasForms : Deal → Type 0
DealHasForms (Offer desk to) = IsShort desk × IsShort to
DealHasForms (Accept desk) = IsShort desk

-- a line whose fields have their forms
abbrev pub ShiftHasForms : ShiftLine → Type 0
ShiftHasForms (Asked at call desk) = IsMoment at × CallHasForms call × IfSome desk IsShort
ShiftHasForms (Relief at actor key deal) = IsMoment at × IsShort actor × IsShort key × DealHasForms deal

-- The reader returns the line whose JSON a text is, if its fields have their forms. Out of memory may come instead.
abbrev pub IsShiftAgain : List ℕ → Result ShiftLine CallFault → Type 0
IsShiftAgain text read = (line : ShiftLine) → ShiftHasForms line → data_of text ≡ Some (shift_data line) → Gives line read
