-- Lines, request bodies and calls as JSON, with keys in byte order.
use Rattle.std.specs.Prelude.{◌≡◌, ℕ, List, Some, codes, Result}
use Rattle.serde_json.specs.Data.{Data, object, Members, member, no_members}
use Rattle.serde_json.specs.Written.{compact_text}
use Rattle.desk_time.specs.Limits.{IsMoment}
use Rattle.asks.specs.declared.call.Call.{Call}
use Rattle.asks.specs.Fields.{data_of}
use Rattle.desk_json.specs.declared.bad_call.CallFault.{CallFault}
use Rattle.desk_json.specs.Faults.{Gives}
use Rattle.asks.specs.Canonical.{count, text_data, moment_data, ask_data}
use Rattle.asks.specs.Forms.{CallHasForms}

abbrev pub line_members : ℕ → Call → Members
line_members at c =
    member (codes "actor") (text_data c.actor)
    (member (codes "ask") (ask_data c.ask)
    (member (codes "at") (moment_data at)
    (member (codes "key") (text_data c.key)
    (member (codes "number") (count c.number) no_members))))

-- the JSON of a moment and a call, as a line of a script
unfoldable pub line_data : ℕ → Call → Data
line_data at c = object (line_members at c)

-- the members of a relief line or a planned line, besides what it asks
abbrev pub sender_members : ℕ → List ℕ → List ℕ → Members
sender_members at actor key =
    member (codes "actor") (text_data actor) (member (codes "at") (moment_data at) (member (codes "key") (text_data key) no_members))

-- the JSON of a call, as the body of a request
unfoldable pub posted_data : Call → Data
posted_data c = object
    (member (codes "actor") (text_data c.actor)
    (member (codes "ask") (ask_data c.ask)
    (member (codes "key") (text_data c.key)
    (member (codes "number") (count c.number) no_members))))

-- a moment from 2000 to 2099, and a call whose fields have their forms
abbrev pub LineHasForms : ℕ × Call → Type 0
LineHasForms line = IsMoment line.0 × CallHasForms line.1

-- The reader returns the moment and the call whose JSON a line is, if both have their forms. Out of memory may come
-- instead.
abbrev pub IsLineAgain : List ℕ → Result (ℕ × Call) CallFault → Type 0
IsLineAgain line read = (at : ℕ) (c : Call) → IsMoment at → CallHasForms c → data_of line ≡ Some (line_data at c) → Gives (at, c) read

-- The reader returns the call whose JSON a text is, if it has its forms. Out of memory may come instead.
abbrev pub IsCallAgain : List ℕ → Result Call CallFault → Type 0
IsCallAgain text read = (c : Call) → CallHasForms c → data_of text ≡ Some (posted_data c) → Gives c read

-- the JSON of a call as the history shows it, without the key of its person
abbrev pub call_data : Call → Data
call_data c = object
    (member (codes "actor") (text_data c.actor)
    (member (codes "ask") (ask_data c.ask)
    (member (codes "number") (count c.number) no_members)))

-- the text of a call as the history shows it: JSON without white space, keys in byte order
unfoldable pub call_text : Call → List ℕ
call_text c = compact_text (call_data c)
