-- The keys of calls, lines and asks, and the faults of an object's keys.
use Rattle.std.specs.Prelude.{ℕ, Bool, false, ◌||◌, if◌then◌else◌, List, [], Option, None, Some, codes, Result, Ok, Err}
use Rattle.std.specs.Str.{bytes_eq}
use Rattle.serde_json.specs.Data.{Data, Members, no_members, member}
use Rattle.serde_json.specs.Find.{get, as_object}
use Rattle.asks.specs.declared.bad_call.BadCall.{BadCall}
use Rattle.asks.specs.declared.bad_call.CallWhy.{CallWhy}
use Rattle.asks.specs.declared.bad_call.CallWhy.TheVariants.{NotObject, Extra, Missing, BadValue}
use Rattle.desk_json.specs.declared.keys.AskKind.{AskKind}
use Rattle.desk_json.specs.declared.keys.AskKind.TheVariants as kind
use Rattle.desk_json.specs.declared.keys.DealKind.{DealKind}
use Rattle.desk_json.specs.declared.keys.DealKind.TheVariants as deal_kind
use Rattle.desk_json.specs.declared.keys.PlannedKind.{PlannedKind}
use Rattle.desk_json.specs.declared.keys.PlannedKind.TheVariants as planned_kind
use Rattle.desk_json.specs.declared.keys.Object.{Object}
use Rattle.desk_json.specs.declared.keys.Object.TheVariants as object

abbrev pub bad : CallWhy → List ℕ → BadCall
bad why key = record { why = why; key = key }

-- ---- keys

-- the keys of an ask of a kind, besides `do`
abbrev pub is_asked : AskKind → List ℕ → Bool
is_asked kind.Admit k = bytes_eq k (codes "text")
is_asked kind.Defer k = bytes_eq k (codes "found") || bytes_eq k (codes "item") || bytes_eq k (codes "tail")
is_asked kind.Clear k = bytes_eq k (codes "deferral")
is_asked kind.Draft k = bytes_eq k (codes "plan")
is_asked kind.Prepare k = bytes_eq k (codes "release")
is_asked kind.Sign k = bytes_eq k (codes "digest") || bytes_eq k (codes "release") || bytes_eq k (codes "revision")
is_asked kind.Concur k = bytes_eq k (codes "digest") || bytes_eq k (codes "release") || bytes_eq k (codes "revision")
is_asked kind.Amend k = bytes_eq k (codes "plan") || bytes_eq k (codes "release")
is_asked kind.Cancel k = bytes_eq k (codes "release")
is_asked kind.Depart k = bytes_eq k (codes "leg") || bytes_eq k (codes "release")
is_asked kind.Arrive k = bytes_eq k (codes "leg") || bytes_eq k (codes "release")
is_asked kind.Acknowledge k = bytes_eq k (codes "release") || bytes_eq k (codes "version")
is_asked kind.Purge k = bytes_eq k (codes "release")
is_asked kind.Sweep k = bytes_eq k (codes "before")
is_asked kind.Board k = false
is_asked kind.Alerts k = false
is_asked kind.Release k = bytes_eq k (codes "release")
is_asked kind.Weather k = bytes_eq k (codes "station")
is_asked kind.Deferred k = bytes_eq k (codes "tail")

-- the keys of a call
abbrev pub is_call_key : List ℕ → Bool
is_call_key k = bytes_eq k (codes "actor") || bytes_eq k (codes "ask") || bytes_eq k (codes "key") || bytes_eq k (codes "number")

-- the keys of a line
abbrev pub is_line_key : List ℕ → Bool
is_line_key k = bytes_eq k (codes "at") || is_call_key k

-- the keys of a line of shifts that isn't a relief line; `desk` may be missing
abbrev pub is_shift_key : List ℕ → Bool
is_shift_key k = bytes_eq k (codes "desk") || is_line_key k

-- the keys that relief lines and planned lines share: the sender, the moment and the sender's key
abbrev pub is_signed_key : List ℕ → Bool
is_signed_key k = bytes_eq k (codes "actor") || bytes_eq k (codes "at") || bytes_eq k (codes "key")

-- the keys of a relief line
abbrev pub is_relief_key : List ℕ → Bool
is_relief_key k = bytes_eq k (codes "relief") || is_signed_key k

-- the keys of a planned line, unless it is a turn
abbrev pub is_planned_key : List ℕ → Bool
is_planned_key k = bytes_eq k (codes "planned") || is_signed_key k

-- the keys of a turn
abbrev pub is_turn_key : List ℕ → Bool
is_turn_key k = bytes_eq k (codes "number") || is_planned_key k

-- the keys of the `relief` of a line, besides `do`
abbrev pub is_dealt : DealKind → List ℕ → Bool
is_dealt deal_kind.Offer k = bytes_eq k (codes "desk") || bytes_eq k (codes "to")
is_dealt deal_kind.Accept k = bytes_eq k (codes "desk")

-- the keys of the `planned` of a line, besides `do`
abbrev pub is_filed : PlannedKind → List ℕ → Bool
is_filed planned_kind.File k = bytes_eq k (codes "leg") || bytes_eq k (codes "plan") || bytes_eq k (codes "release")
is_filed planned_kind.Check k = bytes_eq k (codes "release")

-- the keys of an object
abbrev pub is_key : Object → List ℕ → Bool
is_key object.Call k = is_call_key k
is_key object.Line k = is_line_key k
is_key object.Shift k = is_shift_key k
is_key object.Relief k = is_relief_key k
is_key object.Planned k = is_planned_key k
is_key object.Turn k = is_turn_key k
is_key (object.Asked a) k = bytes_eq k (codes "do") || is_asked a k
is_key (object.Deal a) k = bytes_eq k (codes "do") || is_dealt a k
is_key (object.Filed a) k = bytes_eq k (codes "do") || is_filed a k
is_key object.Turned k = bytes_eq k (codes "do") || bytes_eq k (codes "release")

-- The first unexpected key. Members are in byte order of their keys, so it is the smallest.
abbrev pub first_extra : Object → Members → Option (List ℕ)
first_extra o no_members = None
first_extra o (member k d ms) = if is_key o k then first_extra o ms else Some k

-- ---- faults of keys

abbrev pub no_extra : Option (List ℕ) → Result (Unit {0}) BadCall
no_extra None = Ok tt
no_extra (Some key) = Err (bad Extra key)

abbrev pub only_members : Object → Option Members → Result (Unit {0}) BadCall
only_members o None = Err (bad NotObject [])
only_members o (Some ms) = no_extra (first_extra o ms)

-- the fault of a value that isn't an object, or has an unexpected key
abbrev pub only_keys : Object → Data → Result (Unit {0}) BadCall
only_keys o d = only_members o (as_object d)

-- why a key can't be read
abbrev pub lack : Option Data → CallWhy
lack None = Missing
lack (Some d) = BadValue

-- ---- the first fault along a chain

abbrev pub and_then : {A B : Type 0} → Result A BadCall → (A → Result B BadCall) → Result B BadCall
and_then (Err fault) f = Err fault
and_then (Ok x) f = f x

-- the value read at a key, or why there is none
abbrev pub found : {A : Type 0} → List ℕ → Data → Option A → Result A BadCall
found key d None = Err (bad (lack (get key d)) key)
found key d (Some x) = Ok x

-- the value at a key, which must be there
abbrev pub need : {A : Type 0} → (List ℕ → Data → Option A) → List ℕ → Data → Result A BadCall
need read key d = found key d (read key d)
