-- Which texts are calls and lines, whatever the order in which faults are sought.
use Rattle.std.specs.Prelude.{◌≡◌, ℕ, Bool, true, is_some, List, Some, codes, option_and_then, Result, Ok, IfOk}
use Rattle.serde_json.specs.Data.{Data}
use Rattle.serde_json.specs.Find.{get, as_object}
use Rattle.asks.specs.declared.call.Call.{Call}
use Rattle.asks.specs.declared.call.Ask.{Ask}
use Rattle.asks.specs.Fields.{data_of, text_at, short_at, moment_at}
use Rattle.desk_json.specs.declared.keys.AskKind.{AskKind}
use Rattle.desk_json.specs.declared.keys.Object.TheVariants as object
use Rattle.desk_json.specs.declared.senders.Sender.{Sender}
use Rattle.desk_json.specs.declared.bad_call.CallFault.{CallFault}
use Rattle.desk_json.specs.Keys.{is_key, is_call_key, is_line_key}
use Rattle.desk_json.specs.Faults.{kind_of, ask_of_kind, request_at, Gives}

-- an object whose keys are all expected
abbrev pub HasOnly : (List ℕ → Bool) → Data → Type 0
HasOnly expected d = (is_some (as_object d) ≡ true) × ((k : List ℕ) → is_some (get k d) ≡ true → expected k ≡ true)

-- an object with the name of an ask and its fields, and nothing else
pub record HasAsk (d : Data) (ask : Ask) : Type 0 where
  pub kind : AskKind
  pub name : option_and_then kind_of (text_at (codes "do") d) ≡ Some kind
  pub only : HasOnly (is_key (object.Asked kind)) d
  pub fields : ask_of_kind kind d ≡ Ok ask

-- the fields of a call
pub record HasCall (d : Data) (call : Call) : Type 0 where
  pub actor : short_at (codes "actor") d ≡ Some call.actor
  pub key : short_at (codes "key") d ≡ Some call.key
  pub number : request_at (codes "number") d ≡ Some call.number
  pub inner : Data
  pub found : get (codes "ask") d ≡ Some inner
  pub ask : HasAsk inner call.ask

-- the fields that relief lines and planned lines share: the sender, the moment and the sender's key
pub record HasSender (d : Data) (s : Sender) : Type 0 where
  pub actor : short_at (codes "actor") d ≡ Some s.actor
  pub moment : moment_at (codes "at") d ≡ Some s.at
  pub key : short_at (codes "key") d ≡ Some s.key

-- an object with this name, and no key but those expected
pub record IsNamed (d : Data) (word : List ℕ) (expected : List ℕ → Bool) : Type 0 where
  pub name : text_at (codes "do") d ≡ Some word
  pub only : HasOnly expected d

-- a text with the fields of a call and nothing else
pub record IsCallOf (text : List ℕ) (call : Call) : Type 0 where
  pub value : Data
  pub json : data_of text ≡ Some value
  pub only : HasOnly is_call_key value
  pub fields : HasCall value call

-- a text with a moment and the fields of a call, and nothing else
pub record IsLineOf (text : List ℕ) (line : ℕ × Call) : Type 0 where
  pub value : Data
  pub json : data_of text ≡ Some value
  pub only : HasOnly is_line_key value
  pub moment : moment_at (codes "at") value ≡ Some line.0
  pub fields : HasCall value line.1

-- The reader returns a value exactly if the text has one, unless memory runs out.
pub record IsFound {A : Type 0} (Is : A → Type 0) (read : Result A CallFault) : Type 0 where
  pub sound : IfOk read Is
  pub whole : (x : A) → Is x → Gives x read
